-- Laws of the test of a loop and of the search for one. Assumes nothing.
use Prim.Native.Nat.{ℕ, zero, suc, ◌+◌, ◌-◌, ◌≤◌, ◌<◌}
use native.Mathlib.Numerals.{add-one, sub-one}
use native.Mathlib.Omega.{arith}
use mathlib.Core.Path.{◌≡◌, refl, sym, ◌∙◌, ap, subst}
use mathlib.Core.Logic.{◌≢◌}
use mathlib.Core.Bool.{Bool, true, false, not, ◌&&◌}
use mathlib.Core.List.Memᴰ
use mathlib.Core.List.{List, [], ◌∷◌}
use mathlib.Core.Option.{none, some}
use lib.Dec.{eqb}
use lib.ListN.{length, get_or, set, take, drop, length-set}
use lib.Seq.{drop-cons, drop-set-lt, get_or-set_same}
use borrow.Author.Tests.{eqb-true, eqb-false, eq-eqb, ne_eqb, lt-leb, ltb-true, ltb-false}
use Rattle.std.specs.Prelude.{nat_lt, position, Some, None}
use Rattle.std.specs.List.{position_or_len}
use Rattle.laws.specs.Tests.{by_test, by_option, never, and_left, and_right, and_both, no_true, true_not, same_test, and_false}
use Rattle.files.specs.Bits.{has_bit}
use Rattle.files.proofs.Bits.{most, has-bit, zero_has, without-number-same, without-number-other}
use Rattle.rules.specs.declared.Board.{Board}
use Rattle.laws.specs.Lists.{any, all, found, rising, listed}
use Rattle.rules.specs.declared.Mode.TheVariants.{Write}
use Rattle.rules.specs.Boards.{is_program, is_admitted, everyone, at, admitted, claims, set_program, opening}
use Rattle.rules.specs.Orders.{carried, with_given}
use Rattle.rules.specs.Digraph.{is_in, step, reaches, is_loop_of, is_loop_with}
use Rattle.laws.specs.Laws.{◌∈◌, Pairs, NoRepeat, by_mem, here, all-each, some-any, keep_mem, mem_keep, length_keep, length-rising, first_keep}
use Rattle.theory.specs.Order.{held_in}
use Rattle.theory.specs.Calls.{claims_file}
use Rattle.theory.specs.Programs.{Is, is_of, of_is, mem-everyone}
use Rattle.theory.specs.Carried.{holds_on, carried-sound, of_order}
use Rattle.theory.specs.Reach.{admitted-mem}
use Rattle.theory.specs.Loops.{LeadsTo, Closes, test_two, loop_test, is_loop-same, AllHeld, walk, up_to, held_loop, round-held}
use Rattle.theory.specs.Matrix.{step_iff, reaches_iff}
use Rattle.theory.proofs.Matrix.{itself_iff}
use Rattle.store.specs.declared.Rest.{Rest}
use Rattle.store.specs.Sets.{Sets, SetsOf, claims_at, given_at}
use Rattle.store.specs.Store.{standing_at, board_of}
use Rattle.store.proofs.Laws.{claims-is}
use Rattle.store.proofs.Changing.{standing_is, given-board}
use Rattle.tables.specs.declared.ProgramSet.{ProgramSet}
use Rattle.tables.specs.ProgramSets.{has_program, without_program, common_of, IsLowest}
use Rattle.tables.specs.Tables.{packed, row_of}
use Rattle.tables.proofs.Laws.{packed-has, common_has, first_at, first_no, set_is}
use Rattle.digraph.specs.Rows.{rows_saying, matrix_of, cell}
use Rattle.digraph.specs.Loops.{list_of, goes, lowest_holder}
use Rattle.digraph.proofs.Laws.{cell_is}

-- ---- the programs of a set

mem_of : (s : ProgramSet) (x : ℕ) → has_program s x ≡ true → x ∈ list_of s
mem_of s x e = mem_keep (has_program s) everyone x (mem-everyone x (set_is s x e)) e

of_mem : (s : ProgramSet) (x : ℕ) → x ∈ list_of s → has_program s x ≡ true
of_mem s x m = (keep_mem (has_program s) everyone x m).1

-- the cells of a program's row
pub cell_of : (rows : List ℕ) (x p : ℕ) → 1 ≤ p → p ≤ 32 → has_program (row_of rows p) x ≡ cell rows x p
cell_of rows x p l m = sym (ap (λ (t : Bool). t && has_program (row_of rows p) x) (of_is p (record { least = l; most = m })))

-- ---- the test

-- z holds back the first of the list, and each the next
unfoldable Follows : (ℕ → ℕ → Bool) → ℕ → List ℕ → Type 0
Follows g z [] = Unit {0}
Follows g z (p ∷ L) = (g z p ≡ true) × Follows g p L

-- p is left, and z holds it back
abbrev pub next : List ℕ → ProgramSet → ℕ → ℕ → Bool
next rows s z p = has_program s p && has_program (row_of rows p) z

record Going (rows : List ℕ) (s : ProgramSet) (z : ℕ) (L : List ℕ) : Type 0 where
  pub once : NoRepeat L
  pub within : (a : ℕ) → a ∈ L → has_program s a ≡ true
  pub follows : Follows (cell rows) z L

goes_going : (rows : List ℕ) (s : ProgramSet) (z : ℕ) (L : List ℕ) → goes rows s z L ≡ true → Going rows s z L
unfolding goes Follows Pairs
goes_going rows s z [] e = record { once = tt; within = λ a m. absurd (Memᴰ.not-nil m); follows = tt }
goes_going rows s z (p ∷ L) e =
    let rest = without_program s p in
    let u = and_left (next rows s z p) (goes rows rest p L) e in
    let h = and_left (has_program s p) (has_program (row_of rows p) z) u in
    let r = goes_going rows rest p L (and_right (next rows s z p) (goes rows rest p L) e) in
    let gone = without-number-same 32 s.bits p in record {
      once = (λ b m d. never (r.within b m) (subst (λ y. has_program rest y ≡ false) d gone), r.once);
      within = λ a m. by_mem m (λ d. ap (has_program s) d ∙ h)
          (λ k. let i = r.within a k in by_test (eqb a p) (λ t. never i (ap (has_program rest) (eqb-true a p t) ∙ gone))
          (λ t. sym (without-number-other 32 s.bits p a (eqb-false a p t)) ∙ i));
      follows = (and_both (is_program p) _ (of_is p (set_is s p h)) (and_right (has_program s p) (has_program (row_of rows p) z) u), r.follows);
    }

going_goes : (rows : List ℕ) (s : ProgramSet) (z : ℕ) (L : List ℕ) → Going rows s z L → goes rows s z L ≡ true
unfolding goes Follows Pairs
going_goes rows s z [] c = refl
going_goes rows s z (p ∷ L) c = let rest = without_program s p in
    and_both (next rows s z p) (goes rows rest p L)
    (and_both (has_program s p) (has_program (row_of rows p) z) (c.within p here) (and_right (is_program p) _ c.follows.0))
    (going_goes rows rest p L (record {
      once = c.once.1;
      within = λ a m. without-number-other 32 s.bits p a (λ d. c.once.0 a m (sym d)) ∙ c.within a (Memᴰ.tail m);
      follows = c.follows.1;
    }))

-- who is held back is a program
follows_is : (rows : List ℕ) (z : ℕ) (L : List ℕ) → Follows (cell rows) z L → (a : ℕ) → a ∈ L → is_program a ≡ true
unfolding Follows
follows_is rows z [] c a m = absurd (Memᴰ.not-nil m)
follows_is rows z (p ∷ L) c a m = by_mem m (λ d. ap is_program d ∙ and_left (is_program p) _ c.0) (follows_is rows p L c.1 a)

-- the set of all programs has each
abbrev pub all_programs : ProgramSet
all_programs = record { bits = 4294967295 }

all_has : (p : ℕ) → is_program p ≡ true → has_program all_programs p ≡ true
unfolding all everyone rising
all_has p e = all-each (has_program all_programs) everyone refl p (mem-everyone p (is_of p e))

-- the last of x ∷ L
unfoldable end_of : ℕ → List ℕ → ℕ
end_of x [] = x
end_of x (y ∷ L) = end_of y L

end_is : (x : ℕ) (L : List ℕ) → get_or (x ∷ L) (length (x ∷ L) - 1) 0 ≡ end_of x L
unfolding end_of
end_is x [] = refl
end_is x (y ∷ L) = let z : suc (suc (length L)) - 1 ≡ suc (suc (length L) - 1) = omega arith in
    ap (λ n. get_or (x ∷ (y ∷ L)) n 0) z ∙ end_is y L

follow_leads : (g : ℕ → ℕ → Bool) (z x : ℕ) (L : List ℕ) → Follows g x L → g (end_of x L) z ≡ true → LeadsTo g z x L
unfolding Follows end_of LeadsTo
follow_leads g z x [] c e = e
follow_leads g z x (y ∷ L) c e = (c.0, follow_leads g z y L c.1 e)

leads_follow : (g : ℕ → ℕ → Bool) (z x : ℕ) (L : List ℕ) → LeadsTo g z x L → Follows g x L × (g (end_of x L) z ≡ true)
unfolding Follows end_of LeadsTo
leads_follow g z x [] c = (tt, c)
leads_follow g z x (y ∷ L) c = let r = leads_follow g z y L c.1 in ((c.0, r.0), r.1)

-- The test as the code makes it is the test of a loop.
pub goes_is : (rows L : List ℕ) → 2 ≤ length L → is_loop_of (cell rows) L ≡ goes rows all_programs (get_or L (length L - 1) 0) L
unfolding Follows Closes
goes_is rows [] h = absurd (omega arith)
goes_is rows (x ∷ L) h = same_test (is_loop_of (cell rows) (x ∷ L)) (goes rows all_programs last (x ∷ L))
    (λ e. let (t, d, c) = test_two (cell rows) (x ∷ L) e in let f = leads_follow (cell rows) x x L c in
    let k : Follows (cell rows) last (x ∷ L) = (ap (λ y. cell rows y x) (end_is x L) ∙ f.1, f.0) in going_goes rows all_programs last (x ∷ L) (record {
      once = d;
      within = λ a m. all_has a (follows_is rows last (x ∷ L) k a m);
      follows = k;
    }))
    (λ e. let c = goes_going rows all_programs last (x ∷ L) e in loop_test (cell rows) (x ∷ L) (x ∷ L) (record {
      two = h;
      different = c.once;
      within = λ a m. m;
      closed = follow_leads (cell rows) x x L c.follows.1 (ap (λ y. cell rows y x) (sym (end_is x L)) ∙ c.follows.0);
    }))
  where
    last : ℕ
    last = get_or (x ∷ L) (length (x ∷ L) - 1) 0

pub loop_short : (g : ℕ → ℕ → Bool) (L : List ℕ) → length L < 2 → is_loop_of g L ≡ false
unfolding is_loop_of
loop_short g L h = rw (lt-leb 2 (length L) h)

drop_all : (l : List ℕ) (i : ℕ) → length l ≤ i → drop i l ≡ []
drop_all [] zero h = refl
drop_all [] (suc i) h = refl
drop_all (x ∷ l) zero h = absurd (omega arith)
drop_all (x ∷ l) (suc i) h = drop_all l i (omega arith)

module _ (rows l : List ℕ) (i : ℕ) (s : ProgramSet) (z : ℕ) where
  pub goes-pass : i < length l → next rows s z (get_or l i 0) ≡ true
      → goes rows s z (drop i l) ≡ goes rows (without_program s (get_or l i 0)) (get_or l i 0) (drop (i + 1) l)
  unfolding goes
  goes-pass h e = let p = get_or l i 0 in ap (goes rows s z) (drop-cons l i 0 h)
      ∙ ap (λ (t : Bool). t && goes rows (without_program s p) p (drop (suc i) l)) e
      ∙ ap (λ (n : ℕ). goes rows (without_program s p) p (drop n l)) (sym (add-one i))

  pub goes_fail : i < length l → next rows s z (get_or l i 0) ≡ false → goes rows s z (drop i l) ≡ false
  unfolding goes
  goes_fail h e = let p = get_or l i 0 in ap (goes rows s z) (drop-cons l i 0 h)
      ∙ ap (λ (t : Bool). t && goes rows (without_program s p) p (drop (suc i) l)) e

  pub goes_end : length l ≤ i → goes rows s z (drop i l) ≡ true
  unfolding goes
  goes_end h = ap (goes rows s z) (drop_all l i h)

-- On a board: the rows of its steps.
pub step-cell : (b : Board) (rows : List ℕ) → rows ≡ rows_saying (step b) → (x p : ℕ) → cell rows x p ≡ step b x p
step-cell b rows e = cell_is (step b) rows e (λ x p t. let (n, m, k, u) = (step_iff b x p).0 t in ((admitted-mem b x m).0, (admitted-mem b p k).0))

pub loop_on : (b : Board) (rows L : List ℕ) → rows ≡ rows_saying (step b) → is_loop_of (cell rows) L ≡ is_loop_of (step b) L
loop_on b rows L e = is_loop-same (cell rows) (step b) L (step-cell b rows e)

-- ---- the lowest holder

module _ (rows : List ℕ) (s : ProgramSet) (x : ℕ) (is_x : is_program x ≡ true) where
  abbrev holds : ℕ → Bool
  holds y = not (eqb y x) && cell rows y x

  held : (y : ℕ) → has_program (row_of rows x) y ≡ cell rows y x
  held y = sym (ap (λ (t : Bool). t && has_program (row_of rows x) y) is_x)

  by-has : (y : ℕ) → has_program (common_of (without_program (row_of rows x) x) s) y ≡ has_program s y && holds y
  by-has y = common_has (without_program (row_of rows x) x) s y ∙ by_test (eqb y x)
      (λ t. ap (λ (b : Bool). b && has_program s y) (ap (has_program (without_program (row_of rows x) x)) (eqb-true y x t)
      ∙ without-number-same 32 (row_of rows x).bits x) ∙ sym (ap (λ (b : Bool). has_program s y && (not b && cell rows y x)) t ∙ and_false (has_program s y)))
      (λ t. ap (λ (b : Bool). b && has_program s y) (without-number-other 32 (row_of rows x).bits x y (eqb-false y x t) ∙ held y)
      ∙ swap (cell rows y x) (has_program s y) ∙ sym (ap (λ (b : Bool). has_program s y && (not b && cell rows y x)) t))
    where
      swap : (a b : Bool) → a && b ≡ b && a
      swap true true = refl
      swap true false = refl
      swap false true = refl
      swap false false = refl

  pub holder_at : (by : ProgramSet) (y : ℕ) → by ≡ common_of (without_program (row_of rows x) x) s → IsLowest by y → lowest_holder rows s x ≡ some y
  unfolding lowest_holder everyone
  holder_at by y e (a, b, h, l) = first_keep (has_program s) holds everyone
      ∙ first_at (λ y. has_program s y && holds y) 32 1 y a (omega arith) (sym (is y) ∙ h) (λ q k m. sym (is q) ∙ l q m)
    where
      is : (q : ℕ) → has_program by q ≡ has_program s q && holds q
      is q = ap (λ (z : ProgramSet). has_program z q) e ∙ by-has q

  pub holder_no : (by : ProgramSet) → by ≡ common_of (without_program (row_of rows x) x) s → by.bits ≡ 0 → lowest_holder rows s x ≡ none
  unfolding lowest_holder everyone
  holder_no by e z = first_keep (has_program s) holds everyone
      ∙ first_no (λ y. has_program s y && holds y) 32 1 (λ q. sym (ap (λ (w : ProgramSet). has_program w q) e ∙ by-has q)
      ∙ no_true (has_program by q) (λ u. never (has-bit 32 by.bits q u) (ap (λ (m : ℕ). has_bit m (q - 1)) z ∙ zero_has (q - 1))))

-- ---- places

-- the first place of y in the list, or its length
abbrev place : ℕ → List ℕ → ℕ
place y c = position_or_len (λ z. eqb z y) c

place_some : (y : ℕ) (c : List ℕ) (i : ℕ) → position (λ z. eqb z y) c ≡ Some i → (i ≡ place y c) × (i < length c)
place_some y c i e = by_test (nat_lt (place y c) (length c))
    (λ t. let z : place y c ≡ i = let d = rw t at e in cc in (sym z, let h = ltb-true (place y c) (length c) t in omega arith))
    (λ t. let d = rw t at e in cc)

place-none : (y : ℕ) (c : List ℕ) → position (λ z. eqb z y) c ≡ None → length c ≤ place y c
place-none y c e = by_test (nat_lt (place y c) (length c)) (λ t. let d = rw t at e in cc) (λ t. ltb-false (place y c) (length c) t)

place-listed : (y : ℕ) (c : List ℕ) → place y c < length c → listed y c ≡ true
unfolding listed any
place-listed y [] h = absurd (omega arith)
place-listed y (x ∷ c) h = by_test (eqb x y) (λ u. rw (eq-eqb y x (sym (eqb-true x y u))))
    (λ u. rw (ne_eqb y x (λ d. eqb-false x y u (sym d))) (place-listed y c (let i = rw u at h in omega arith)))

place_unlisted : (y : ℕ) (c : List ℕ) → length c ≤ place y c → listed y c ≡ false
unfolding listed any
place_unlisted y [] h = refl
place_unlisted y (x ∷ c) h = by_test (eqb x y) (λ u. absurd (let i = rw u at h in omega arith))
    (λ u. rw (ne_eqb y x (λ d. eqb-false x y u (sym d))) (place_unlisted y c (let i = rw u at h in omega arith)))

place_up_to : (y : ℕ) (c : List ℕ) → place y c < length c → take (suc (place y c)) c ≡ up_to y c
unfolding up_to
place_up_to y [] h = absurd (omega arith)
place_up_to y (x ∷ c) h = by_test (eqb x y) (λ u. rw u)
    (λ u. let w : 1 + place y c ≡ suc (place y c) = omega arith in
    rw (u, w) (ap (x ∷◌) (place_up_to y c (let i = rw u at h in omega arith))))

drop_set_at : (l : List ℕ) (i x : ℕ) → i < length l → drop i (set l i x) ≡ x ∷ drop (suc i) l
drop_set_at l i x h = let k : i < length (set l i x) = rw (length-set l i x) h in
    drop-cons (set l i x) i 0 k ∙ rw (get_or-set_same l i x 0 h, drop-set-lt (suc i) l i x (omega arith))

-- ---- one step back

module _ (rows : List ℕ) (s : ProgramSet) (x : ℕ) (is_x : is_program x ≡ true) where
  pub walk_none : (n : ℕ) (c : List ℕ) → n ≡ 0 → [] ≡ walk (cell rows) (list_of s) n x c
  unfolding walk
  walk_none n c e = rw e

  pub walk_alone : (n : ℕ) (c : List ℕ) → n ≢ 0 → lowest_holder rows s x ≡ none → [] ≡ walk (cell rows) (list_of s) n x c
  unfolding walk lowest_holder
  walk_alone zero c m e = absurd (m refl)
  walk_alone (suc n) c m e = rw e

  module _ (at : List ℕ) (k y : ℕ) (l : length at ≡ 32) (a : 1 ≤ k) (b : k ≤ 32) (e : lowest_holder rows s x ≡ some y) where
    here-x : drop (k - 1) (set at (k - 1) x) ≡ x ∷ drop k at
    here-x = drop_set_at at (k - 1) x (omega arith) ∙ ap (λ i. x ∷ drop i at) (let w : suc (k - 1) ≡ k = omega arith in w)

    pub walk-found : (n i : ℕ) → n ≢ 0 → position (λ z. eqb z y) (drop k at) ≡ Some i
        → take (i + 2) (drop (k - 1) (set at (k - 1) x)) ≡ walk (cell rows) (list_of s) n x (drop k at)
    unfolding walk lowest_holder
    walk-found zero i m h = absurd (m refl)
    walk-found (suc n) i m h =
        let p = place_some y (drop k at) i h in
        let q : place y (drop k at) < length (drop k at) = omega (arith, p.0, p.1) in
        let w : i + 2 ≡ suc (suc (place y (drop k at))) = omega (arith, p.0) in
        rw (here-x, w, e, place-listed y (drop k at) q) (ap (x ∷◌) (place_up_to y (drop k at) q))

    pub walk-on : (n : ℕ) → n ≢ 0 → position (λ z. eqb z y) (drop k at) ≡ None
        → walk (cell rows) (list_of s) (n - 1) y (drop (k - 1) (set at (k - 1) x)) ≡ walk (cell rows) (list_of s) n x (drop k at)
    unfolding walk lowest_holder
    walk-on zero m h = absurd (m refl)
    walk-on (suc n) m h = rw (here-x, e, place_unlisted y (drop k at) (place-none y (drop k at) h), sub-one (suc n))

-- ---- a loop found

module _ (b : Board) (rows matrix : List ℕ) (f : rows ≡ rows_saying (step b)) (g : matrix ≡ matrix_of b) (s : ProgramSet)
    (e : s ≡ packed (λ p. cell matrix p p) 32) where
  self_cell : (p : ℕ) → cell matrix p p ≡ reaches b p p
  unfolding matrix_of
  self_cell p = cell_is (reaches b) matrix g
      (λ x q t. let (k, (i, r)) = (reaches_iff b x q).0 t in ((admitted-mem b x i).0, (admitted-mem b q k).0)) p p

  self_has : (p : ℕ) → Is p → has_program s p ≡ reaches b p p
  self_has p i = ap (λ (x : ProgramSet). has_program x p) e ∙ packed-has (λ p. cell matrix p p) 32 p (omega arith) i.least i.most
      ∙ self_cell p

  pub found_none : s.bits ≡ 0 → found (carried b) ≡ false → ⊥
  found_none z u = let (p, r) = (itself_iff b).1 (λ o c. never (of_order b o c) u) in
      let i = (admitted-mem b p ((reaches_iff b p p).0 r).0).0 in
      never (has-bit 32 s.bits p (self_has p i ∙ r)) (ap (λ (m : ℕ). has_bit m (p - 1)) z ∙ zero_has (p - 1))

  pub found_some : (x : ℕ) → has_program s x ≡ true → found (carried b) ≡ true → ⊥
  found_some x h u = by_option (carried b) (λ v. never u (ap found v))
      (λ o v. (itself_iff b).0 (x, sym (self_has x (set_is s x h)) ∙ h) o (carried-sound b o v))

  self_mem : (a : ℕ) → a ∈ list_of s → reaches b a a ≡ true
  self_mem a m = let h = of_mem s a m in sym (self_has a (set_is s a h)) ∙ h

  all_held : AllHeld (cell rows) (list_of s)
  unfolding held_in
  all_held a m =
      let (k, (i, r)) = (reaches_iff b a a).0 (self_mem a m) in
      let (y, q, n, u, t) = round-held (holds_on b) (admitted b) a i r in
      some-any (λ i. not (eqb i a) && cell rows i a) (list_of s) y
      (mem_of s y (self_has y (admitted-mem b y q).0 ∙ (reaches_iff b y y).1 (q, (q, t))))
      (and_both (not (eqb y a)) (cell rows y a) (true_not (eqb y a) (ne_eqb y a n)) (step-cell b rows f y a ∙ (step_iff b y a).1 (n, q, i, u)))

  pub found_loop : (x : ℕ) → has_program s x ≡ true → is_loop_of (step b) (walk (cell rows) (list_of s) 32 x []) ≡ true
  unfolding everyone
  found_loop x h = let L = walk (cell rows) (list_of s) 32 x [] in
      sym (loop_on b rows L f)
      ∙ loop_test (cell rows) (list_of s) L (held_loop (cell rows) (list_of s) (list_of s) 32 x all_held (λ a m. m) (mem_of s x h)
      (let i = length_keep (has_program s) (rising 32 1) in let j = length-rising 32 1 in omega arith))

-- ---- with a file given

module _ (b : Board) (p f : ℕ) (L : List ℕ) where
  pub no_program_lem : is_program p ≡ false → is_loop_with b p f L ≡ false
  unfolding is_loop_with
  no_program_lem h = rw h

  pub not_claimed : claims (at b p) f ≡ false → is_loop_with b p f L ≡ false
  unfolding is_loop_with
  not_claimed e = ap (λ (t : Bool). is_in b p && t && is_loop_of (step (with_given b p f)) L) e
      ∙ ap (λ (t : Bool). t && is_loop_of (step (with_given b p f)) L) (and_false (is_in b p))

  pub no_file : 64 < f → is_loop_with b p f L ≡ false
  unfolding is_loop_with
  no_file h = not_claimed (no_true (claims (at b p) f) (λ t. let i = most 64 f (claims_file (at b p) f t) in omega arith))

  pub not_in : is_admitted (at b p).standing ≡ false → is_loop_with b p f L ≡ false
  unfolding is_loop_with
  not_in e = ap (λ (t : Bool). (is_program p && t) && claims (at b p) f && is_loop_of (step (with_given b p f)) L) e
      ∙ ap (λ (t : Bool). t && claims (at b p) f && is_loop_of (step (with_given b p f)) L) (and_false (is_program p))

  pub loop_with : Is p → is_admitted (at b p).standing ≡ true → claims (at b p) f ≡ true → is_loop_of (step (with_given b p f)) L ≡ is_loop_with b p f L
  unfolding is_loop_with
  loop_with i a k = sym (ap (λ (t : Bool). t && claims (at b p) f && is_loop_of (step (with_given b p f)) L) (and_both (is_program p) _ (of_is p i) a)
      ∙ ap (λ (t : Bool). t && is_loop_of (step (with_given b p f)) L) k)

-- ---- a board taken apart

module _ (b : Board) (sets : Sets) (r : Rest) (s : SetsOf b sets) (e : board_of sets r ≡ b) (p : ℕ) (h : 1 ≤ p) (k : p ≤ 32) where
  pub stands_as : standing_at r p ≡ (at b p).standing
  stands_as = sym (standing_is sets r p h k s.0) ∙ ap (λ (x : Board). (at x p).standing) e

  pub claims_as : (f : ℕ) → claims_at sets f Write p ≡ claims (at b p) f
  claims_as f = claims-is b sets s f p Write h k

  pub given_as : (f : ℕ) → board_of (given_at sets p f) r ≡ with_given b p f
  unfolding with_given
  given_as f = given-board sets r p f h k s.0 ∙ ap (λ (x : Board). set_program x p (opening (at x p) f)) e
