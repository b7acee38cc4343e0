-- Laws of settling. Assumes nothing.
use mathlib.Core.Path.{◌≡◌, refl, sym, ap, ◌∙◌, subst}
use mathlib.Core.Logic.{◌≢◌}
use mathlib.Core.Bool.{Bool, true, false, not, ◌&&◌}
use mathlib.Core.List.Memᴰ
use mathlib.Core.List.{List, [], ◌∷◌, ◌++◌}
use mathlib.Core.Option.{Option, none, some}
use Rattle.std.specs.Prelude.{Some, None}
use Rattle.std.proofs.lemmas.Option.{none-some}
use Prim.Native.Nat.{ℕ, suc, ◌+◌, ◌≤◌, ◌<◌}
use native.Mathlib.Nat.{add-zero, add_assoc}
use native.Mathlib.Numerals.{add-one}
use native.Mathlib.Omega.{arith}
use lib.ListN.{length, get_or, set, drop, length-append}
use lib.Seq.{sets}
use lib.Dec.{eqb}
use borrow.Author.Tests.{eq-eqb, ne_eqb, eqb-true, eqb-false}
use Rattle.laws.specs.Tests.{by_test}
use Rattle.rules.specs.declared.Program.{Program}
use Rattle.rules.specs.declared.Board.{Board}
use Rattle.laws.specs.Lists.{all, first, names}
use Rattle.rules.specs.Boards.{at, awaited, awaited_of, has_open, is_program, is_waiting, wants}
use Rattle.rules.specs.Orders.{can_give}
use Rattle.rules.specs.Settling.{Step, still, and_then, try_give, pass, candidate, favour, run_held, choose, settle}
use Rattle.laws.specs.Laws.{◌∈◌, Pairs, here, each_all, first_some}
use Rattle.theory.specs.Programs.{Is, of_is}
use Rattle.theory.specs.Loose.{waiting_file, waiting_in, waits_in, Loose, Counts}
use Rattle.theory.specs.Settling.{can_serve, pass-passed}
use Rattle.theory.specs.Sound.{loose_apart, loose_order}
use Rattle.store.specs.declared.Seat.{Seat}
use Rattle.store.specs.declared.Rest.{Rest}
use Rattle.store.specs.Sets.{Sets, IsStore}
use Rattle.store.specs.Store.{seat_of, seat_at, board_of}
use Rattle.store.proofs.Boards.{board-at, board-sets}
use Rattle.search.specs.declared.Uses.{Uses}
use Rattle.search.specs.Gives.{uses_of, used_in, give_in}
use Rattle.search.proofs.Used.{used_by_lem, give_by}
use Rattle.lines.proofs.Laws.{names-on}
use Rattle.settling.specs.Writing.{Written, Ready, after, Fits, give_to, unused, seat_wants, as_option}
use Rattle.settling.proofs.Lines.{first_none_left}

-- ---- lines after lines

sets-append : {A : Type 0} (l : List A) (i : ℕ) (xs ys : List A) → sets l i (xs ++ ys) ≡ sets (sets l i xs) (i + length xs) ys
sets-append l i [] ys = ap (λ (n : ℕ). sets l n ys) (sym (add-zero i))
sets-append l i (x ∷ xs) ys =
    let e : suc i + length xs ≡ i + suc (length xs) = omega arith in
    sets-append (set l i x) (suc i) xs ys ∙ ap (λ (n : ℕ). sets (sets (set l i x) (suc i) xs) n ys) e

pub after_then : (w : Written) (s t : Step) → after (after w s) t ≡ after w (and_then s.lines t)
after_then w s t =
    rw (
      sets-append w.lines w.count s.lines t.lines,
      length-append s.lines t.lines,
      add_assoc w.count (length s.lines) (length t.lines),
    )

pub after-still : (w : Written) → w ≡ after w (still w.board)
after-still w = rw (add-zero w.count)

-- ---- the pass

pub give_fits : (w : Written) (b : Board) (p f : ℕ) → eqb (at b p).item 0 && can_give b p f ≡ true → Fits w (try_give b p f) → w.count < 32
unfolding try_give
give_fits w b p f e h = let k : w.count + 1 ≤ 32 = rw e at h in omega arith

pub give_some : (w : Written) (b : Board) (p f : ℕ) → eqb (at b p).item 0 && can_give b p f ≡ true
    → after w (give_to b p f) ≡ after w (try_give b p f)
unfolding try_give
give_some w b p f e = rw e

pub ready-next : (b : Board) (p : ℕ) (ps : List ℕ) → Counts b → Ready b (p ∷ ps)
    → Ready (try_give b p (awaited b p)).board ps × Counts (try_give b p (awaited b p)).board
unfolding pass Pairs
ready-next b p ps n r =
    let q = pass-passed (p ∷ []) b r.0 n ((λ x m. absurd (Memᴰ.not-nil m)), tt) (λ x m. r.2 x (only x m)) in (
      (
        q.loose,
        r.1.1,
        λ x m. let y = r.2 x (Memᴰ.tail m) in
            (y.0, ap (λ (z : Program). is_waiting z.standing) (q.others x y.0 (λ n. r.1.0 x m (sym (Memᴰ.eq_of_singleton n)))) ∙ y.1),
      ),
      q.counted,
    )
  where
    only : (x : ℕ) → x ∈ p ∷ [] → x ∈ p ∷ ps
    only x m = Memᴰ.head (Memᴰ.eq_of_singleton m)

-- the waiters of line l from place k on are still to be asked, and s is what was written before that
abbrev pub PassAt : Written → List ℕ → ℕ → Written → Type 0
PassAt w l k s = Ready s.board (names (drop k l)) × Fits s (pass (names (drop k l)) s.board)
    × (after w (pass (names l) w.board) ≡ after s (pass (names (drop k l)) s.board)) × Counts s.board

pub pass-start : (w : Written) → Loose w.board → Counts w.board → Fits w (pass (names w.board.waiting) w.board) → PassAt w w.board.waiting 0 w
pass-start w k n f = ((k, k.waits.once, k.waits.of), f, refl, n)

pub pass-over : (w s : Written) (l : List ℕ) (k : ℕ) → PassAt w l k s → names (drop k l) ≡ [] → s ≡ after w (pass (names l) w.board)
unfolding pass
pass-over w s l k i e = after-still s ∙ sym (i.2 ∙ ap (λ (ps : List ℕ). after s (pass ps s.board)) e)

module _ (w s : Written) (l : List ℕ) (k : ℕ) (h : k < length l) (ne : get_or l k 0 ≢ 0) (i : PassAt w l k s) where
  ready-here : Ready s.board (get_or l k 0 ∷ names (drop (suc k) l))
  ready-here = subst (Ready s.board) (names-on l k h ne) i.0

  fits-here : Fits s (pass (get_or l k 0 ∷ names (drop (suc k) l)) s.board)
  fits-here = subst (λ (x : List ℕ). Fits s (pass x s.board)) (names-on l k h ne) i.1

  pub pass-range : ((1 ≤ get_or l k 0) × (get_or l k 0 ≤ 32))
      × Fits s (try_give s.board (get_or l k 0) (awaited s.board (get_or l k 0)))
  unfolding pass
  pass-range =
      let r = (ready-here.2 (get_or l k 0) here).0 in
      let t = try_give s.board (get_or l k 0) (awaited s.board (get_or l k 0)) in
      let n = length-append t.lines (pass (names (drop (suc k) l)) t.board).lines in
      ((r.least, r.most), omega (arith, fits-here, n))

  pub pass-next : (u : Written) → u ≡ after s (try_give s.board (get_or l k 0) (awaited s.board (get_or l k 0))) → PassAt w l (k + 1) u
  unfolding pass
  pass-next u e =
      let t = try_give s.board (get_or l k 0) (awaited s.board (get_or l k 0)) in
      let n = length-append t.lines (pass (names (drop (suc k) l)) t.board).lines in
      let r = ready-next s.board (get_or l k 0) (names (drop (suc k) l)) i.3 ready-here in
      rw (add-one k) (subst (PassAt w l (suc k)) (sym e) (
        r.0,
        omega (arith, fits-here, n),
        i.2 ∙ ap (λ (x : List ℕ). after s (pass x s.board)) (names-on l k h ne) ∙ sym (after_then s t (pass (names (drop (suc k) l)) t.board)),
        r.1,
      ))

-- the waiting line of a loose board
pub ready_all : (b : Board) → Loose b → Ready b (names b.waiting)
ready_all b k = (k, k.waits.once, k.waits.of)

-- a waiter, by the sets and the rest of the board
module _ (sets : Sets) (r : Rest) (ps : List ℕ) (p : ℕ) (k : Ready (board_of sets r) ps) (m : p ∈ ps) where
  abbrev b : Board
  b = board_of sets r

  waiter-at : Is p × (waits_in (board_of sets r).programs p ≡ true)
  waiter-at = k.2 p m

  pub waiter-range : (1 ≤ p) × (p ≤ 32)
  waiter-range = (waiter-at.0.least, waiter-at.0.most)

  pub seat-is : seat_of (at (board_of sets r) p) ≡ seat_at r p
  seat-is = ap seat_of (board-at sets r p waiter-at.0.least waiter-at.0.most)

  -- who awaits no record awaits a file that it has not open
  waiter-shut : (at (board_of sets r) p).item ≡ 0 → has_open (at (board_of sets r) p) (awaited (board_of sets r) p) ≡ false
  waiter-shut z = let (f, d) = waiting_file (at b p).standing waiter-at.1 in
      ap (λ (x : ℕ). has_open (at b p) x) (ap awaited_of d) ∙ (k.0.asked p waiter-at.0 f (d, z)).shut

  -- what the arrays say of the waiter is what the rules say
  module _ (u : Uses) (t : Bool) (s : IsStore sets) (z : u ≡ uses_of (board_of sets r) sets) where
    pub waiter-can : t ≡ eqb (seat_at r p).item 0 && give_in sets u p (awaited_of (seat_at r p).standing) → t ≡ can_serve (board_of sets r) p
    waiter-can g = g
        ∙ ap (λ (y : Seat). eqb y.item 0 && give_in sets u p (awaited_of y.standing)) (sym seat-is)
        ∙ by_test (eqb (at b p).item 0)
        (λ d. ap (λ (y : Bool). eqb (at b p).item 0 && y)
        (give_by sets u p (awaited b p) _ waiter-range.0 waiter-range.1 refl b (board-sets sets r s) z
        (loose_apart b k.0) (loose_order b k.0) (waiting_in (at b p).standing waiter-at.1)
        (waiter-shut (eqb-true (at b p).item 0 d))))
        (λ d. rw d)

    pub waiter-unused : t ≡ eqb (seat_at r p).item 0 && not (used_in sets u p (awaited_of (seat_at r p).standing))
        → t ≡ unused (board_of sets r) p
    waiter-unused g = g
        ∙ ap (λ (y : Seat). eqb y.item 0 && not (used_in sets u p (awaited_of y.standing))) (sym seat-is)
        ∙ by_test (eqb (at b p).item 0)
        (λ d. ap (λ (y : Bool). eqb (at b p).item 0 && not y)
        (used_by_lem sets u p (awaited b p) _ waiter-range.0 waiter-range.1 refl b (board-sets sets r s) z (loose_apart b k.0)
        (waiter-shut (eqb-true (at b p).item 0 d))))
        (λ d. rw d)

-- a waiter that is not given its file is passed over
pub waiter-over : (b : Board) (l : List ℕ) (k : ℕ) → k < length l → get_or l k 0 ≢ 0 → can_serve b (get_or l k 0) ≡ false
    → Ready b (names (drop k l)) → Ready b (names (drop (k + 1) l)) × (pass (names (drop k l)) b ≡ pass (names (drop (k + 1) l)) b)
unfolding pass try_give Pairs
waiter-over b l k h ne e r = let a = subst (Ready b) (names-on l k h ne) r in rw (add-one k) (
  (a.0, a.1.1, λ p m. a.2 p (Memᴰ.tail m)),
  ap (λ (ps : List ℕ). pass ps b) (names-on l k h ne) ∙ rw e,
)

-- ---- the waiter to be favoured

pub all_waiting : (b : Board) → Loose b → all is_program (names b.waiting) ≡ true
all_waiting b k = each_all is_program (names b.waiting) (λ p m. of_is p (k.waits.of p m).0)

-- what a search gives back is what the rules find
pub found_some : (o : Option ℕ) (p : ℕ) → Some p ≡ as_option o → o ≡ some p
found_some none p e = absurd (none-some p (sym e))
found_some (some q) p e = cc

pub found-none : (o : Option ℕ) → None ≡ as_option o → o ≡ none
found-none none e = refl
found-none (some q) e = absurd (none-some q e)

-- and the waiter that is found is a program
pub waiter_is : (b : Board) (t : ℕ → Bool) (p : ℕ) → Loose b → first t (names b.waiting) ≡ some p → Is p
waiter_is b t p k e = (k.waits.of p (first_some t (names b.waiting) p e).0).0

-- ---- choosing

module _ (w : Written) where
  pub choose-still : w.board.favoured ≢ 0 → w ≡ after w (choose w.board)
  unfolding choose
  choose-still n = rw (ne_eqb w.board.favoured 0 n) (after-still w)

  choose-held : w.board.favoured ≡ 0 → candidate w.board ≡ none → choose w.board ≡ run_held (names w.board.entry) w.board
  unfolding choose
  choose-held e c = rw (eq-eqb w.board.favoured 0 e, c)

  choose-favour : (p : ℕ) → w.board.favoured ≡ 0 → candidate w.board ≡ some p → choose w.board ≡ favour w.board p
  unfolding choose
  choose-favour p e c = rw (eq-eqb w.board.favoured 0 e, c)

  pub run-held-is : w.board.favoured ≡ 0 → candidate w.board ≡ none
      → after w (run_held (names w.board.entry) w.board) ≡ after w (choose w.board)
  run-held-is e c = ap (after w) (sym (choose-held e c))

  pub favour-is : (p : ℕ) → w.board.favoured ≡ 0 → candidate w.board ≡ some p → after w (favour w.board p) ≡ after w (choose w.board)
  favour-is p e c = ap (after w) (sym (choose-favour p e c))

  pub held_fits : w.board.favoured ≡ 0 → candidate w.board ≡ none → Fits w (choose w.board)
      → Fits w (run_held (names w.board.entry) w.board)
  held_fits e c f = subst (Fits w) (choose-held e c) f

  pub favour-fits : (p : ℕ) → w.board.favoured ≡ 0 → candidate w.board ≡ some p → Fits w (choose w.board) → w.count < 32
  unfolding favour
  favour-fits p e c f = let a : w.count + 1 ≤ 32 = subst (Fits w) (choose-favour p e c) f in omega arith

  -- ---- settling

  pub settle-loose : (s : Written) → s ≡ after w (pass (names w.board.waiting) w.board) → Loose w.board → Counts w.board
      → Loose s.board
  settle-loose s e k n = subst (λ (x : Written). Loose x.board) (sym e) (pass-passed (names w.board.waiting)
      w.board k n k.waits.once k.waits.of).loose

  pub settle-counts : (s : Written) → s ≡ after w (pass (names w.board.waiting) w.board) → Loose w.board → Counts w.board
      → Counts s.board
  settle-counts s e k n = subst (λ (x : Written). Counts x.board) (sym e) (pass-passed (names w.board.waiting)
      w.board k n k.waits.once k.waits.of).counted

  settle-lines : length (settle w.board).lines ≡ length (pass (names w.board.waiting) w.board).lines + length
      (choose (pass (names w.board.waiting) w.board).board).lines
  unfolding settle
  settle-lines = length-append (pass (names w.board.waiting) w.board).lines
      (choose (pass (names w.board.waiting) w.board).board).lines

  pub settle-fits-pass : Fits w (settle w.board) → Fits w (pass (names w.board.waiting) w.board)
  settle-fits-pass f = omega (arith, f, settle-lines)

  pub settle-fits-choose : (s : Written) → s ≡ after w (pass (names w.board.waiting) w.board)
      → Fits w (settle w.board) → Fits s (choose s.board)
  settle-fits-choose s e f = subst (λ (x : Written). Fits x (choose x.board)) (sym e) (omega (arith, f, settle-lines))

  pub settle_is : (s : Written) → s ≡ after w (pass (names w.board.waiting) w.board)
      → after s (choose s.board) ≡ after w (settle w.board)
  unfolding settle
  settle_is s e = ap (λ (x : Written). after x (choose x.board)) e ∙ after_then w (pass (names w.board.waiting)
      w.board) (choose (pass (names w.board.waiting) w.board).board)

-- nobody waits and nobody is held: nothing is done
none_favoured_lem : (b : Board) → Loose b → names b.waiting ≡ [] → b.favoured ≡ 0
none_favoured_lem b k e = by_test (eqb b.favoured 0) (λ t. eqb-true b.favoured 0 t)
    (λ t. let (i, u) = k.fav-waits (eqb-false b.favoured 0 t) in
    absurd (Memᴰ.not-nil (subst (λ (l : List ℕ). b.favoured ∈ l) e (k.waits.on b.favoured i u))))

nobody-unused : (b : Board) → names b.waiting ≡ [] → candidate b ≡ none
unfolding candidate
nobody-unused b e = first_none_left (unused b) (names b.waiting) e

choose-nobody : (w : Written) → Loose w.board → names w.board.waiting ≡ [] → names w.board.entry ≡ []
    → choose w.board ≡ still w.board
unfolding run_held
choose-nobody w k e d = choose-held w (none_favoured_lem w.board k e) (nobody-unused w.board e)
    ∙ ap (λ (l : List ℕ). run_held l w.board) d

settle-still : (w : Written) → Loose w.board → names w.board.waiting ≡ [] → names w.board.entry ≡ []
    → settle w.board ≡ still w.board
unfolding settle pass
settle-still w k e d = ap (λ (l : List ℕ). let s = pass l w.board in and_then s.lines (choose s.board)) e ∙ choose-nobody w k e d

pub settle-nobody : (w : Written) → Loose w.board → names w.board.waiting ≡ [] → names w.board.entry ≡ []
    → w ≡ after w (settle w.board)
settle-nobody w k e d = after-still w ∙ ap (after w) (sym (settle-still w k e d))

-- whether a program waits for a record, by its seat
pub waiter_wants : (sets : Sets) (r : Rest) (p f n : ℕ) (t : Bool) → (1 ≤ p) × (p ≤ 32) → t ≡ seat_wants (seat_at r p) f n → t ≡ wants (at (board_of sets r) p) f n
waiter_wants sets r p f n t i e = e ∙ sym (ap (λ (q : Program). wants q f n) (board-at sets r p i.0 i.1))

-- the waiter to be favoured is a program
pub candidate-range : (b : Board) (p : ℕ) → Loose b → candidate b ≡ some p → (1 ≤ p) × (p ≤ 32)
unfolding candidate
candidate-range b p k e = let i = waiter_is b (unused b) p k e in (i.least, i.most)
