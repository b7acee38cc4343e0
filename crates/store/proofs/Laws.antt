-- Laws of the sets in their places, and from there to boards. Assumes nothing.
use mathlib.Core.Path.{◌≡◌, refl, sym, ap, ap₂, ◌∙◌}
use mathlib.Core.Logic.{◌≢◌}
use mathlib.Core.Bool.{true, cond, ◌&&◌}
use mathlib.Core.List.{List, []}
use Prim.Native.Nat.{ℕ, ◌+◌, ◌-◌, ◌≤◌, ◌<◌}
use native.Mathlib.Omega.{arith}
use lib.Dec.{eqb}
use lib.ListN.{length, set, replicate}
use lib.Seq.{get_or-set_same, get_or-set_other}
use borrow.Author.Tests.{eqb-true, eqb-false}
use Rattle.files.specs.declared.FileSet.{FileSet}
use Rattle.files.specs.Sets.{member}
use Rattle.files.specs.Words.{word_count, set_of}
use Rattle.laws.specs.Tests.{by_test}
use Rattle.laws.specs.Tables.{fresh-table, put_in}
use Rattle.rules.specs.declared.Program.{Program}
use Rattle.rules.specs.declared.Board.{Board}
use Rattle.rules.specs.declared.Mode.{Mode}
use Rattle.rules.specs.declared.Mode.TheVariants.{Write, Read, Inquiry}
use Rattle.rules.specs.Modes.{by_mode, is_mode, clashing, some_mode, claim_of, open_of, mode_of}
use Rattle.rules.specs.Boards.{at}
use Rattle.rules.specs.Orders.{holds_back}
use Rattle.theory.specs.Modes.{same_mode, touching-same}
use Rattle.store.specs.Sets.{place_count, Sets, IsStore, claim_place, open_place, row_in, set_in, in_place, SetsTo, SetsOf, PutAt}
use Rattle.store.specs.Sets.{claim_at, open_at, mode_at, claims_at, holds_one, mode_place, PutsFrom}

-- ---- places

module _ (i j : ℕ) (h : i < 32) (k : j < 32) where
  -- a claim stands in another place than what is open
  pub claim_apart : (m n : Mode) → claim_place m i ≢ open_place n j
  claim_apart Write Write e = omega arith
  claim_apart Write Read e = omega arith
  claim_apart Read Write e = omega arith
  claim_apart Read Read e = omega arith
  claim_apart Write Inquiry e = omega arith
  claim_apart Read Inquiry e = omega arith
  claim_apart Inquiry Write e = omega arith
  claim_apart Inquiry Read e = omega arith
  claim_apart Inquiry Inquiry e = omega arith

  -- what is open in different modes, or of different programs, stands in different places
  pub open_apart : (m n : Mode) → (is_mode m n ≡ true → i ≢ j) → open_place m i ≢ open_place n j
  open_apart Write Write d e = d refl (omega arith)
  open_apart Write Read d e = omega arith
  open_apart Read Write d e = omega arith
  open_apart Read Read d e = d refl (omega arith)
  open_apart Write Inquiry d e = omega arith
  open_apart Read Inquiry d e = omega arith
  open_apart Inquiry Write d e = omega arith
  open_apart Inquiry Read d e = omega arith
  open_apart Inquiry Inquiry d e = d refl (omega arith)

module _ (i j : ℕ) (h : i < 32) (k : j < 32) where
  -- and claims in different modes, or of different programs
  pub claims-apart : (m n : Mode) → (is_mode m n ≡ true → i ≢ j) → claim_place m i ≢ claim_place n j
  claims-apart Write Write d e = d refl (omega arith)
  claims-apart Write Read d e = omega arith
  claims-apart Write Inquiry d e = omega arith
  claims-apart Read Write d e = omega arith
  claims-apart Read Read d e = d refl (omega arith)
  claims-apart Read Inquiry d e = omega arith
  claims-apart Inquiry Write d e = omega arith
  claims-apart Inquiry Read d e = omega arith
  claims-apart Inquiry Inquiry d e = d refl (omega arith)

-- every place is among these
pub claim_place_lem : (m : Mode) (i : ℕ) → i < 32 → claim_place m i < place_count
claim_place_lem Write i h = omega arith
claim_place_lem Read i h = omega arith
claim_place_lem Inquiry i h = omega arith

pub open_place_lem : (m : Mode) (i : ℕ) → i < 32 → open_place m i < place_count
open_place_lem Write i h = omega arith
open_place_lem Read i h = omega arith
open_place_lem Inquiry i h = omega arith

-- ---- rows

-- an array of empty sets
pub fresh_store : IsStore (replicate place_count (replicate {A = ℕ} word_count 0))
fresh_store = fresh-table place_count word_count

-- a row is put in a place
pub put-row : (sets : Sets) (k : ℕ) (r : List ℕ) → IsStore sets → length r ≡ word_count → IsStore (set sets k r)
put-row = put_in place_count word_count

-- ---- one program after another

-- three rows are put, by mode
module _ (k : ℕ) (x y z : FileSet) (l : Sets) (v q j : List ℕ) (h : k < 128) (s : IsStore l)
    (ev : set_of v ≡ x) (eq : set_of q ≡ y) (ej : set_of j ≡ z)
    (nv : length v ≡ word_count) (nq : length q ≡ word_count) (nj : length j ≡ word_count) where
  abbrev l₁ : Sets
  l₁ = set l k v

  abbrev l₂ : Sets
  l₂ = set l₁ (32 + k) q

  abbrev l₃ : Sets
  l₃ = set l₂ (64 + k) j

  s₁ : IsStore l₁
  s₁ = put-row l k v s nv

  s₂ : IsStore l₂
  s₂ = put-row l₁ (32 + k) q s₁ nq

  pub three-put : PutsFrom k (by_mode x y z) l l₃
  three-put = record {
    are_store = put-row l₂ (64 + k) j s₂ nj;
    put-here = mine;
    put-there = λ i d. get_or-set_other l₂ (64 + k) i j [] (d Inquiry) ∙ get_or-set_other l₁ (32 + k) i q [] (d Read) ∙ get_or-set_other l k i v [] (d Write);
  }
    where
      mine : (m : Mode) → set_in l₃ (mode_place k m) ≡ by_mode x y z m
      mine Write = ap set_of (get_or-set_other l₂ (64 + k) k j [] (λ e. omega arith) ∙ get_or-set_other l₁ (32 + k) k q [] (λ e. omega arith)
          ∙ get_or-set_same l k v [] (omega (arith, s.places_are))) ∙ ev
      mine Read = ap set_of (get_or-set_other l₂ (64 + k) (32 + k) j [] (λ e. omega arith)
          ∙ get_or-set_same l₁ (32 + k) q [] (omega (arith, s₁.places_are))) ∙ eq
      mine Inquiry = ap set_of (get_or-set_same l₂ (64 + k) j [] (omega (arith, s₂.places_are))) ∙ ej

-- claims and open files stand by mode
claim_mode : (m : Mode) (i : ℕ) → claim_place m i ≡ mode_place i m
claim_mode Write i = refl
claim_mode Read i = refl
claim_mode Inquiry i = refl

open_mode : (m : Mode) (i : ℕ) → open_place m i ≡ mode_place (96 + i) m
open_mode Write i = refl
open_mode Read i = omega arith
open_mode Inquiry i = omega arith

claim_by : (m : Mode) (p : Program) → by_mode p.writable p.readable p.inquirable m ≡ claim_of m p
claim_by Write p = refl
claim_by Read p = refl
claim_by Inquiry p = refl

open_by : (m : Mode) (p : Program) → by_mode p.writing p.reading p.inquiring m ≡ open_of m p
open_by Write p = refl
open_by Read p = refl
open_by Inquiry p = refl

-- the claims of a program are put, then what it has open
pub rows-put : (p : Program) (i : ℕ) (l l' l'' : Sets) → i < 32 → PutsFrom i (by_mode p.writable p.readable p.inquirable) l l'
    → PutsFrom (96 + i) (by_mode p.writing p.reading p.inquiring) l' l'' → PutAt p i l l''
rows-put p i l l' l'' h a b = record {
  is_store = b.are_store;
  here = λ m. (
    ap set_of (opens-there (claim_place m i) (λ n. claim_apart i i h h m n)) ∙ ap (set_in l') (claim_mode m i) ∙ a.put-here m ∙ claim_by m p,
    ap (set_in l'') (open_mode m i) ∙ b.put-here m ∙ open_by m p,
  );
  there = λ k z d m. (
    opens-there (claim_place m k) (λ n. claim_apart k i z h m n) ∙ claims-there (claim_place m k) (λ n. claims-apart k i z h m n (λ _. d)),
    opens-there (open_place m k) (λ n. open_apart k i z h m n (λ _. d)) ∙ claims-there (open_place m k) (λ n e. claim_apart i k h z n m (sym e)),
  );
}
  where
    opens-there : (k : ℕ) → ((m : Mode) → k ≢ open_place m i) → row_in l'' k ≡ row_in l' k
    opens-there k d = b.put-there k (λ m e. d m (e ∙ sym (open_mode m i)))

    claims-there : (k : ℕ) → ((m : Mode) → k ≢ claim_place m i) → row_in l' k ≡ row_in l k
    claims-there k d = a.put-there k (λ m e. d m (e ∙ sym (claim_mode m i)))

-- the sets of one program more
pub sets_more : (b : Board) (i : ℕ) (l l' : Sets) → i < 32 → PutAt (in_place b i) i l l' → SetsTo b i l → SetsTo b (i + 1) l'
sets_more b i l l' h p f k d m = by_test (eqb k i)
    (λ t. let z : k ≡ i = eqb-true k i t in rw z (p.here m))
    (λ t. let z : k ≢ i = eqb-false k i t in let x = f k (omega arith) m in let y = p.there k (omega arith) z m in
    (ap set_of y.0 ∙ x.0, ap set_of y.1 ∙ x.1))

-- ---- what the sets say of the board

module _ (b : Board) (sets : Sets) (s : SetsOf b sets) where
  pub claim_is : (p : ℕ) → 1 ≤ p → p ≤ 32 → (m : Mode) → claim_at sets p m ≡ claim_of m (at b p)
  claim_is p h k m = (s.1 (p - 1) (omega arith) m).0

  pub open_is : (p : ℕ) → 1 ≤ p → p ≤ 32 → (m : Mode) → open_at sets p m ≡ open_of m (at b p)
  open_is p h k m = (s.1 (p - 1) (omega arith) m).1

  -- the mode in which a file is opened
  pub mode-at : (p f : ℕ) → 1 ≤ p → p ≤ 32 → mode_at sets p f ≡ mode_of (at b p) f
  mode-at p f h k = ap₂ (λ (x y : FileSet). cond (member x f) Write (cond (member y f) Read Inquiry)) (claim_is p h k Write) (claim_is p h k Read)

  -- who claims a file in a mode that clashes
  pub claims-is : (f p : ℕ) (m : Mode) → 1 ≤ p → p ≤ 32
      → claims_at sets f m p ≡ some_mode (λ n. clashing m n && member (claim_of n (at b p)) f)
  claims-is f p m h k = same_mode _ _ (λ n. ap (λ (x : FileSet). clashing m n && member x f) (claim_is p h k n))

  -- who holds back whom
  pub holds-is : (x y : ℕ) → 1 ≤ x → x ≤ 32 → 1 ≤ y → y ≤ 32 → holds_one sets y x ≡ holds_back (at b x) (at b y)
  holds-is x y i j l m = touching-same _ _ _ _ (open_is x i j) (claim_is y l m)
