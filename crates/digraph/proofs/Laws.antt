-- Laws of the rows and of their closing. Assumes nothing.
use Prim.Native.Nat.{ℕ, suc, ◌-◌, ◌≤◌, ◌<◌}
use native.Mathlib.Nat.{zero-add}
use native.Mathlib.Omega.{arith}
use mathlib.Core.Path.{◌≡◌, refl, sym, ◌∙◌, ap, ap₂}
use mathlib.Core.Bool.{Bool, true, false, not, cond, ◌&&◌, ◌||◌, or-false}
use mathlib.Core.List.{List}
use lib.Dec.{eqb}
use lib.Bits.{or_lt}
use lib.ListN.{length, get_or}
use lib.Seq.{ext_get_or}
use borrow.Author.Tests.{eqb-true, eqb-false}
use Rattle.laws.specs.Tests.{by_test, never, and_left, and_right, no_true, same_test, and_false}
use Rattle.files.specs.Bits.{is_number, has_bit}
use Rattle.files.proofs.Bits.{least, most, without-number-same, without-number-other}
use Rattle.rules.specs.declared.Board.{Board}
use Rattle.laws.specs.Lists.{rising}
use Rattle.rules.specs.Boards.{is_program, everyone, at}
use Rattle.rules.specs.Orders.{holds_back}
use Rattle.rules.specs.Digraph.{is_in, step, paths, reaches}
use Rattle.theory.specs.Programs.{Is, is_of, of_is}
use Rattle.theory.specs.Matrix.{step_iff, reaches_all, mem_in}
use Rattle.tables.specs.declared.ProgramSet.{ProgramSet}
use Rattle.tables.specs.ProgramSets.{has_program, without_program, union_of}
use Rattle.store.specs.Sets.{Sets, SetsOf, holds_one}
use Rattle.tables.specs.Tables.{packed, row_of, holders_of}
use Rattle.tables.proofs.Laws.{places-length, places-at, places_same, packed-has, packed_none, packed_lt, set_same, union_has, set_is}
use Rattle.tables.proofs.Given.{packed-same}
use Rattle.tables.proofs.Walk.{none_left}
use Rattle.store.proofs.Laws.{holds-is}
use Rattle.tables.specs.Boards.{admits, admitted_set}
use Rattle.digraph.specs.Rows.{rows_saying, matrix_of, cell, holder_rows, by_row, by_way}

-- ---- what the rows say

-- the set of those x for which g x p
abbrev pub saying : (ℕ → ℕ → Bool) → ℕ → ProgramSet
saying g p = packed (λ x. g x p) 32

abbrev pub row_in : List ℕ → ℕ → ProgramSet
row_in l j = record { bits = get_or l j 0 }

pub says_length : (g : ℕ → ℕ → Bool) → length (rows_saying g) ≡ 32
says_length g = places-length (λ i. (saying g (suc i)).bits) 32 0

pub says_at : (g : ℕ → ℕ → Bool) (rows : List ℕ) (i : ℕ) → rows ≡ rows_saying g → i < 32 → row_in rows i ≡ saying g (suc i)
says_at g rows i e h = ap {B = ProgramSet} (λ n. record { bits = n }) (ap (λ l. get_or l i 0) e ∙ places-at (λ i. (saying g (suc i)).bits) 32 0 i h
    ∙ ap (λ n. (saying g (suc n)).bits) (zero-add i))

pub to_says : (g : ℕ → ℕ → Bool) (rows : List ℕ) → length rows ≡ 32 → ((i : ℕ) → i < 32 → row_in rows i ≡ saying g (suc i)) → rows ≡ rows_saying g
to_says g rows n f = ext_get_or 0 rows (rows_saying g) (n ∙ sym (says_length g))
    (λ i h. let k : i < 32 = omega (arith, n) in ap (λ (s : ProgramSet). s.bits) (f i k ∙ sym (says_at g (rows_saying g) i refl k)))

-- rows say the same of programs alone
pub says_same : (g g' : ℕ → ℕ → Bool) → ((x p : ℕ) → 1 ≤ x → x ≤ 32 → 1 ≤ p → p ≤ 32 → g x p ≡ g' x p) → rows_saying g ≡ rows_saying g'
says_same g g' f = places_same _ _ 32 0 (λ i a b. ap (λ (s : ProgramSet). s.bits) (packed-same (λ x. g x (suc i)) (λ x. g' x (suc i)) 32
    (λ x l m. f x (suc i) l m (omega arith) (omega arith))))

pub says_has : (g : ℕ → ℕ → Bool) (rows : List ℕ) (x p : ℕ) → rows ≡ rows_saying g → Is x → Is p → has_program (row_of rows p) x ≡ g x p
says_has g rows x p e i j = let a = j.least in let b = j.most in let w : suc (p - 1) ≡ p = omega arith in
    ap (λ (r : ProgramSet). has_program r x) (says_at g rows (p - 1) e (omega arith) ∙ ap (saying g) w)
    ∙ packed-has (λ x. g x p) 32 x (omega arith) i.least i.most

-- where g says nothing of numbers that are no programs, the rows say g
pub cell_is : (g : ℕ → ℕ → Bool) (rows : List ℕ) → rows ≡ rows_saying g → ((x p : ℕ) → g x p ≡ true → Is x × Is p) → (x p : ℕ) → cell rows x p ≡ g x p
cell_is g rows e f x p = same_test (cell rows x p) (g x p)
    (λ t. let j = is_of p (and_left (is_program p) _ t) in let h = and_right (is_program p) (has_program (row_of rows p) x) t in
    sym (says_has g rows x p e (set_is (row_of rows p) x h) j) ∙ h)
    (λ t. let (i, j) = f x p t in ap (λ (u : Bool). u && has_program (row_of rows p) x) (of_is p j) ∙ says_has g rows x p e i j ∙ t)

-- ---- who holds back whom

pub among_is : (b : Board) (x : ℕ) → has_program (admitted_set b) x ≡ is_in b x
unfolding admitted_set
among_is b x = by_test (is_number 32 x)
    (λ z. rw z (sym (ap (λ (y : Bool). y && has_bit (packed (admits b) 32).bits (x - 1)) z)
    ∙ packed-has (admits b) 32 x (omega arith) (least 32 x z) (most 32 x z)))
    (λ z. rw z)

-- the rows by the sets of a board are its steps
pub steps_are : (b : Board) (sets : Sets) → SetsOf b sets → holder_rows sets (admitted_set b) ≡ rows_saying (step b)
unfolding holder_rows step
steps_are b sets s = places_same _ _ 32 0 (λ i h k. by_test (has_program a (suc i))
    (λ t. ap (λ (u : Bool). cond u (packed (holders_of sets (suc i) (without_program a (suc i))) 32).bits 0) t
    ∙ ap (λ (s : ProgramSet). s.bits) (packed-same _ _ 32 (λ x l m. one x (suc i) l m (omega arith) (omega arith) (sym (among_is b (suc i)) ∙ t))))
    (λ t. ap (λ (u : Bool). cond u (packed (holders_of sets (suc i) (without_program a (suc i))) 32).bits 0) t
    ∙ sym (ap (λ (s : ProgramSet). s.bits) (packed_none (λ x. step b x (suc i)) 32 (λ x. none x (suc i) (sym (among_is b (suc i)) ∙ t))))))
  where
    a : ProgramSet
    a = admitted_set b

    right : (u v : Bool) → (u && true) && v ≡ u && v
    right true v = refl
    right false v = refl

    none : (x p : ℕ) → is_in b p ≡ false → step b x p ≡ false
    none x p e = no_true (step b x p) (λ t. let (n, m, k, u) = (step_iff b x p).0 t in never (mem_in b p k) e)

    one : (x p : ℕ) → 1 ≤ x → x ≤ 32 → 1 ≤ p → p ≤ 32 → is_in b p ≡ true → holders_of sets p (without_program a p) x ≡ step b x p
    one x p l m h k e = by_test (eqb x p)
        (λ t. ap (λ (u : Bool). u && holds_one sets p x) (ap (has_program (without_program a p)) (eqb-true x p t) ∙ without-number-same 32 a.bits p)
        ∙ sym (ap (λ (u : Bool). not u && ((is_in b x && is_in b p) && holds_back (at b x) (at b p))) t))
        (λ t. ap₂ ◌&&◌ (without-number-other 32 a.bits p x (eqb-false x p t) ∙ among_is b x) (holds-is b sets s x p l m h k)
        ∙ sym (ap (λ (u : Bool). not u && ((is_in b x && is_in b p) && holds_back (at b x) (at b p))) t
        ∙ ap (λ (u : Bool). (is_in b x && u) && holds_back (at b x) (at b p)) e ∙ right (is_in b x) (holds_back (at b x) (at b p))))

-- ---- rows, one after another

-- the first n rows are made by f from those before, and the others stand
abbrev pub MappedTo : (ProgramSet → ProgramSet) → List ℕ → ℕ → List ℕ → Type 0
MappedTo f before n after = (length after ≡ 32) × ((j : ℕ) → j < n → row_in after j ≡ f (row_in before j))
    × ((j : ℕ) → n ≤ j → get_or after j 0 ≡ get_or before j 0)

-- ---- by way of one more

by_packed : (g : ℕ → ℕ → Bool) (p k : ℕ) → 1 ≤ k → k ≤ 32 → by_row (saying g p) (saying g k) k ≡ saying (by_way g k) p
by_packed g p k a b = by_test (g k p)
    (λ t. rw (has p k a b ∙ t) (set_same (union_of (saying g p) (saying g k)) (saying (by_way g k) p)
    (or_lt 32 (saying g p).bits (saying g k).bits (packed_lt (λ x. g x p) 32 (omega arith)) (packed_lt (λ x. g x k) 32 (omega arith)))
    (packed_lt (λ x. by_way g k x p) 32 (omega arith)) (λ x. by_test (is_number 32 x)
    (λ z. let l = least 32 x z in let m = most 32 x z in
    union_has (saying g p) (saying g k) x ∙ ap₂ ◌||◌ (has p x l m) (has k x l m) ∙ ap (λ (y : Bool). g x p || y && g x k) (sym t)
    ∙ sym (packed-has (λ x. by_way g k x p) 32 x (omega arith) l m)) (λ z. rw z))))
    (λ t. rw (has p k a b ∙ t) (packed-same (λ x. g x p) (λ x. by_way g k x p) 32
    (λ x l m. sym (ap (λ (y : Bool). g x p || y && g x k) t ∙ or-false (g x p)))))
  where
    has : (q x : ℕ) → 1 ≤ x → x ≤ 32 → has_program (saying g q) x ≡ g x q
    has q x l m = packed-has (λ x. g x q) 32 x (omega arith) l m

-- what the loop makes of a row
abbrev pub pass_row : List ℕ → ℕ → ProgramSet → ProgramSet
pass_row before k row = by_row row (row_in before (k - 1)) k

-- the row of k, in what the rows say
row_of_k : (g : ℕ → ℕ → Bool) (before : List ℕ) (k : ℕ) → 1 ≤ k → k ≤ 32 → before ≡ rows_saying g → row_in before (k - 1) ≡ saying g k
row_of_k g before k a b e = let w : suc (k - 1) ≡ k = omega arith in says_at g before (k - 1) e (omega arith) ∙ ap (saying g) w

pub pass_says : (before after : List ℕ) (k : ℕ) → 1 ≤ k → k ≤ 32 → MappedTo (pass_row before k) before 32 after
    → (g : ℕ → ℕ → Bool) → before ≡ rows_saying g → after ≡ rows_saying (by_way g k)
pass_says before after k a b (n, u, v) g e = to_says (by_way g k) after n (λ i h. u i h
    ∙ ap₂ (λ (x y : ProgramSet). by_row x y k) (says_at g before i e h) (row_of_k g before k a b e) ∙ by_packed g (suc i) k a b)

-- nobody reaches k
pub pass-none : (before : List ℕ) (k : ℕ) → 1 ≤ k → k ≤ 32 → (row_in before (k - 1)).bits ≡ 0
    → (g : ℕ → ℕ → Bool) → before ≡ rows_saying g → before ≡ rows_saying (by_way g k)
pass-none before k a b z g e = e ∙ says_same g (by_way g k) (λ x p l m h w. sym (ap (λ (y : Bool). g x p || g k p && y) (no x l m)
    ∙ ap (λ (y : Bool). g x p || y) (and_false (g k p)) ∙ or-false (g x p)))
  where
    no : (x : ℕ) → 1 ≤ x → x ≤ 32 → g x k ≡ false
    no x l m = sym (packed-has (λ x. g x k) 32 x (omega arith) l m) ∙ ap (λ (s : ProgramSet). has_program s x) (sym (row_of_k g before k a b e))
        ∙ none_left (row_in before (k - 1)) x z

-- ---- closing, by way of one after another

-- the programs above k
abbrev pub above : ℕ → List ℕ
above k = rising (32 - k) (suc k)

pub close_none : (g : ℕ → ℕ → Bool) (rows : List ℕ) → rows ≡ rows_saying g → rows ≡ rows_saying (paths g (above 32))
unfolding paths rising
close_none g rows e = e

pub close_more : (g : ℕ → ℕ → Bool) (k : ℕ) (rows : List ℕ) → 1 ≤ k → k ≤ 32 → rows ≡ rows_saying (by_way (paths g (above k)) k)
    → rows ≡ rows_saying (paths g (above (k - 1)))
unfolding paths rising
close_more g k rows h l e = let z : 32 - (k - 1) ≡ suc (32 - k) = omega arith in let w : suc (k - 1) ≡ k = omega arith in rw (z, w) e

pub close_all : (g : ℕ → ℕ → Bool) (k : ℕ) (rows : List ℕ) → k ≡ 0 → rows ≡ rows_saying (paths g (above k)) → rows ≡ rows_saying (paths g everyone)
unfolding everyone
close_all g k rows z e = rw z at e

-- ---- the matrix

pub matrix_of_lem : (b : Board) (rows : List ℕ) → rows ≡ rows_saying (paths (step b) everyone) → rows ≡ matrix_of b
unfolding matrix_of
matrix_of_lem b rows e = e ∙ says_same (paths (step b) everyone) (reaches b) (λ x p _ _ _ _. reaches_all b x p)
