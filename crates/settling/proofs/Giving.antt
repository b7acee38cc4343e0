-- Laws of one waiter given its file, on the board and in its arrays. Assumes nothing.
use mathlib.Core.Path.{◌≡◌, refl, sym, ap, ◌∙◌, subst}
use mathlib.Core.Logic.{◌≢◌}
use mathlib.Core.Bool.{Bool, true, false, cond, ◌&&◌}
use mathlib.Core.List.{List, [], ◌∷◌}
use Prim.Native.Nat.{ℕ, zero, suc, ◌+◌, ◌-◌, ◌≤◌, ◌<◌}
use native.Mathlib.Omega.{arith}
use lib.Dec.{eqb}
use lib.ListN.{length, get_or, set, drop}
use lib.Seq.{get_or-set_same, get_or-set_other}
use borrow.Author.Tests.{eqb-true, eqb-false}
use Rattle.laws.specs.Tests.{by_test}
use Rattle.rules.specs.declared.Standing.{Standing}
use Rattle.rules.specs.declared.Program.{Program}
use Rattle.rules.specs.declared.Board.{Board}
use Rattle.laws.specs.Lists.{names, without}
use Rattle.rules.specs.Boards.{no_program, at, awaited, awaited_of, is_admitted, set_program, set_waiting, set_favour, set_standing, uncount, opening}
use Rattle.rules.specs.Orders.{with_given}
use Rattle.rules.specs.Settling.{unfavour, resume, pass}
use Rattle.theory.specs.Programs.{Is, Sized}
use Rattle.theory.specs.Loose.{waiting_in}
use Rattle.theory.specs.Settling.{can_serve}
use Rattle.tables.specs.declared.ProgramSet.{ProgramSet}
use Rattle.store.specs.declared.Rest.{Rest}
use Rattle.store.specs.declared.Seat.{Seat}
use Rattle.store.specs.Sets.{Sets, IsStore, given_at}
use Rattle.store.specs.Store.{board_of, seat_at}
use Rattle.parts.specs.Entries.{Entries}
use Rattle.store.proofs.Given.{given_store}
use Rattle.store.proofs.Changing.{seat_board, served-board}
use Rattle.tables.proofs.Given.{packed-same}
use Rattle.search.specs.declared.Uses.{Uses}
use Rattle.tables.specs.Boards.{admits, admitted_set}
use Rattle.search.specs.Gives.{uses_in}
use Rattle.search.specs.Gives.{give_in}
use Rattle.settling.specs.declared.Progress.{Progress}
use Rattle.settling.specs.Writing.{Written, written_in, after, Fits, serve, served_rest, give_to}
use Rattle.settling.proofs.Lines.{name-in}
use Rattle.settling.proofs.Laws.{PassAt, pass-over, pass-range, pass-next, give_fits, give_some, waiter-range, waiter-can, waiter-over, seat-is}

-- the board with the waiter p given f
abbrev pub given_to : Board → ℕ → ℕ → Board
given_to c p f = let n : ℕ → ℕ = (λ k. cond (eqb c.favoured p) 0 k) in
    uncount (set_favour (set_waiting (set_program c p (serve (at c p) f)) (without p (names c.waiting)))
    (n c.favoured) (n c.initial) (n c.leaves)) p

set-set : {A : Type 0} (l : List A) (i : ℕ) (a b : A) → set (set l i a) i b ≡ set l i b
set-set [] i a b = refl
set-set (x ∷ xs) zero a b = refl
set-set (x ∷ xs) (suc i) a b = ap (λ ys. x ∷ ys) (set-set xs i a b)

module _ (c : Board) (p f : ℕ) (z : Sized c.programs) (i : Is p) where
  place : p - 1 < 32
  place = let a = i.least in let b = i.most in omega arith

  given-here : at (given_to c p f) p ≡ serve (at c p) f
  given-here = let h = place in get_or-set_same c.programs (p - 1) (serve (at c p) f) no_program (omega arith)

  given-there : (x : ℕ) → Is x → x ≢ p → at (given_to c p f) x ≡ at c x
  given-there x k n = let a = i.least in let b = k.least in
      get_or-set_other c.programs (p - 1) (x - 1) (serve (at c p) f) no_program (omega arith)

  -- as the rules say it
  pub given_is : given_to c p f ≡ unfavour (resume (with_given c p f) p) p
  unfolding unfavour resume with_given
  given_is = let h = place in
      rw (
        set-set c.programs (p - 1) (opening (at c p) f)
            (set_standing (get_or (set c.programs (p - 1) (opening (at c p) f)) (p - 1) no_program) Standing.Running),
        get_or-set_same c.programs (p - 1) (opening (at c p) f) no_program (omega arith),
      )
      (by_test (eqb c.favoured p) (λ t. rw t) (λ t. rw t))

  -- the admitted programs are the same
  pub admitted-given : admits c p ≡ true → admitted_set (given_to c p f) ≡ admitted_set c
  unfolding admitted_set
  admitted-given a = packed-same (admits (given_to c p f)) (admits c) 32 (λ x h k. by_test (eqb x p)
      (λ t. let d : x ≡ p = eqb-true x p t in rw d (ap (λ (q : Program). is_admitted q.standing) given-here ∙ sym a))
      (λ t. ap (λ (q : Program). is_admitted q.standing) (given-there x (record { least = h; most = k }) (eqb-false x p t))))

-- the sets with the file given, and the rest with the waiter served, are that board
pub served_is : (sets : Sets) (r : Rest) (p f : ℕ) → IsStore sets → length r.seats ≡ 32 → Is p
    → board_of (given_at sets p f) (served_rest r p) ≡ given_to (board_of sets r) p f
unfolding board_of
served_is sets r p f s n i = ap (λ (x : List Program). let c = board_of sets r in let m : ℕ → ℕ = (λ k. cond (eqb c.favoured p) 0 k) in
    uncount (set_favour (set_waiting (record {
      programs = x;
      waiting = c.waiting;
      entry = c.entry;
      favoured = c.favoured;
      initial = c.initial;
      leaves = c.leaves;
      passed = c.passed;
    }) (without p (names c.waiting))) (m c.favoured) (m c.initial) (m c.leaves)) p)
    (ap (λ (b : Board). b.programs) (served-board sets r p f i.least i.most s Standing.Running n))

-- ---- a record handed on

-- the board with the waiter p running, and no file given
abbrev pub resumed_to : Board → ℕ → Board
resumed_to c p = let n : ℕ → ℕ = (λ k. cond (eqb c.favoured p) 0 k) in
    uncount (set_favour (set_waiting (set_program c p (set_standing (at c p) Standing.Running)) (without p (names c.waiting)))
    (n c.favoured) (n c.initial) (n c.leaves)) p

-- as the rules say it
resumed_is : (c : Board) (p : ℕ) → resumed_to c p ≡ unfavour (resume c p) p
unfolding unfavour resume
resumed_is c p = by_test (eqb c.favoured p) (λ t. rw t) (λ t. rw t)

-- the rest with the waiter served, and the sets as they were, are that board
pub handed_is : (sets : Sets) (r : Rest) (p : ℕ) → IsStore sets → length r.seats ≡ 32 → Is p
    → board_of sets (served_rest r p) ≡ unfavour (resume (board_of sets r) p) p
unfolding board_of
handed_is sets r p s n i = ap (λ (x : List Program). let c = board_of sets r in let m : ℕ → ℕ = (λ k. cond (eqb c.favoured p) 0 k) in
    uncount (set_favour (set_waiting (record {
      programs = x;
      waiting = c.waiting;
      entry = c.entry;
      favoured = c.favoured;
      initial = c.initial;
      leaves = c.leaves;
      passed = c.passed;
    }) (without p (names c.waiting))) (m c.favoured) (m c.initial) (m c.leaves)) p)
    (ap (λ (b : Board). b.programs) (seat_board sets r p i.least i.most s Standing.Running n))
    ∙ resumed_is (board_of sets r) p

-- ---- the pass, with the sets

-- the waiters of line l from place k on are still to be asked, s is what was written before that, and u is what is open then
pub record Passing (w : Written) (l : List ℕ) (k : ℕ) (sets : Sets) (lines : Entries) (s : Progress) (a : ProgramSet) (u : Uses) : Type 0 where
  pub store : IsStore sets
  pub admits_are : a ≡ admitted_set (board_of sets s.rest)
  pub uses_are : u ≡ uses_in a sets
  pub passed : PassAt w l k (written_in sets lines s)

-- nobody is left
pub pass-end : {w : Written} {l : List ℕ} {k : ℕ} {sets : Sets} {lines : Entries} {s : Progress} {a : ProgramSet} {u : Uses}
    → Passing w l k sets lines s a u → names (drop k l) ≡ [] → written_in sets lines s ≡ after w (pass (names l) w.board)
pass-end {w} {l} {k} {sets} {lines} {s} i e = pass-over w (written_in sets lines s) l k i.passed e

module _ {w : Written} {l : List ℕ} {k : ℕ} {sets : Sets} {lines : Entries} {s : Progress} {a : ProgramSet} {u : Uses} (i : Passing w l k sets lines s a u)
    (h : k < length l) (ne : get_or l k 0 ≢ 0) where
  abbrev p : ℕ
  p = get_or l k 0

  abbrev b : Board
  b = board_of sets s.rest

  -- the waiter is a program
  pub passing-range : (1 ≤ get_or l k 0) × (get_or l k 0 ≤ 32)
  passing-range = waiter-range sets s.rest (names (drop k l)) p i.passed.0 (name-in l k h ne)

  is : Is (get_or l k 0)
  is = record { least = passing-range.0; most = passing-range.1 }

  -- by its seat
  module _ (q : Seat) (t : Bool) (qe : q ≡ seat_at s.rest (get_or l k 0)) (te : t ≡ eqb q.item 0 && give_in sets u (get_or l k 0) (awaited_of q.standing)) where
    can : t ≡ can_serve (board_of sets s.rest) (get_or l k 0)
    can = waiter-can sets s.rest (names (drop k l)) p i.passed.0 (name-in l k h ne) u t i.store
        (i.uses_are ∙ ap (λ (y : ProgramSet). uses_in y sets) i.admits_are)
        (te ∙ ap (λ (x : Seat). eqb x.item 0 && give_in sets u p (awaited_of x.standing)) qe)

    -- the waiter is not given its file
    pub passing-over : t ≡ false → Passing w l (k + 1) sets lines s a u
    passing-over z = let o = waiter-over b l k h ne (sym can ∙ z) i.passed.0 in record {
      store = i.store;
      admits_are = i.admits_are;
      uses_are = i.uses_are;
      passed = (
        o.0,
        subst (Fits (written_in sets lines s)) o.1 i.passed.1,
        i.passed.2 ∙ ap (after (written_in sets lines s)) o.1,
        i.passed.3,
      );
    }

    module _ (y : t ≡ true) where
      -- its line fits
      pub passing-fits : s.count < 32
      passing-fits = give_fits (written_in sets lines s) b p _ (sym can ∙ y) (pass-range w (written_in sets lines s) l k h ne i.passed).1

      admitted : admits (board_of sets s.rest) (get_or l k 0) ≡ true
      admitted = waiting_in (at b p).standing (i.passed.0.2 p (name-in l k h ne)).1

      -- the waiter is given its file
      pub passing-given : (x : Sets) (m : Entries) (n : Progress) (v : Uses)
          → written_in x m n ≡ after (written_in sets lines s) (give_to (board_of sets s.rest) (get_or l k 0) (awaited_of q.standing))
          → x ≡ given_at sets (get_or l k 0) (awaited_of q.standing) → v ≡ uses_in a x → Passing w l (k + 1) x m n a v
      passing-given x m n v e g ve = record {
        store = subst IsStore (sym g) (given_store sets p (awaited_of q.standing) passing-range.0 passing-range.1 i.store);
        admits_are = i.admits_are ∙ sym (ap admitted_set (ap (λ (x : Written). x.board) d ∙ sym (given_is b p (awaited b p) i.passed.0.0.base.size is))
            ∙ admitted-given b p (awaited b p) i.passed.0.0.base.size is admitted);
        uses_are = ve;
        passed = pass-next w (written_in sets lines s) l k h ne i.passed (written_in x m n)
            (d ∙ give_some (written_in sets lines s) b p (awaited b p) (sym can ∙ y));
      }
        where
          d : written_in x m n ≡ after (written_in sets lines s) (give_to (board_of sets s.rest) (get_or l k 0) (awaited (board_of sets s.rest) (get_or l k 0)))
          d = e ∙ ap (λ (x : Seat). after (written_in sets lines s) (give_to b p (awaited_of x.standing)))
              (qe ∙ sym (seat-is sets s.rest (names (drop k l)) p i.passed.0 (name-in l k h ne)))
