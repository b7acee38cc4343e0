-- The laws of file sets. First by files, as a reader wants them: what each operation means by members. Then by places, as the theory uses
-- them: place i is that of file i + 1, and a set of any width has places.
-- Assumes nothing.
use Prim.Native.Nat.{ℕ, ◌-◌}
use mathlib.Core.Path.{◌≡◌, sym, ap, ◌∙◌}
use mathlib.Core.Logic.{◌≢◌, ◌↔◌}
use mathlib.Core.Bool.{Bool, true, false}
use lib.Dec.{eqb}
use borrow.Author.Tests.{eqb-true, eqb-false}
use Rattle.files.specs.declared.FileSet.{FileSet}
use Rattle.files.specs.Bits.{has_bit}
use Rattle.files.specs.Sets.{is_file, no_files, member, adding, removing, meets, within, OfFiles}
use Rattle.laws.specs.Tests.{by_test, never, and_both, no_true, same_test}
use Rattle.files.proofs.Bits.{zero_has, with_more, with_only, without_other, without_less, share_of, of_share, of_covers, covers_of}
use Rattle.files.proofs.Bits.{has-number, has-bit, with_number-same, with_number-other, without-number-same, without-number-other}
use Rattle.files.proofs.Bits.{share_iff, covers_iff, numbers_same}

-- ---- by files

-- a number that is no file is in no set
pub member_file : (s : FileSet) (f : ℕ) → member s f ≡ true → is_file f ≡ true
member_file s f e = has-number 64 s.bits f e

-- f is in the set and f, and any other number is in it if it was
pub adding-same : (s : FileSet) (f : ℕ) → is_file f ≡ true → member (adding s f) f ≡ true
adding-same s f e = with_number-same 64 s.bits f e

pub adding_other : (s : FileSet) (f g : ℕ) → g ≢ f → member (adding s f) g ≡ member s g
adding_other s f g n = with_number-other 64 s.bits f g n

-- f is not in the set but f, and any other number is in it if it was
pub removing-same : (s : FileSet) (f : ℕ) → member (removing s f) f ≡ false
removing-same s f = without-number-same 64 s.bits f

pub removing-other : (s : FileSet) (f g : ℕ) → g ≢ f → member (removing s f) g ≡ member s g
removing-other s f g n = without-number-other 64 s.bits f g n

-- two sets meet exactly when some file is in both
pub meets_iff : (s t : FileSet) → OfFiles s → OfFiles t
    → (meets s t ≡ true) ↔ ((f : ℕ) × (member s f ≡ true) × (member t f ≡ true))
meets_iff s t o k = share_iff 64 s.bits t.bits o k

-- a set is within another exactly when every file of the one is in the other
pub within_iff : (s t : FileSet) → OfFiles s → (within s t ≡ true) ↔ ((f : ℕ) → member s f ≡ true → member t f ≡ true)
within_iff s t o = covers_iff 64 s.bits t.bits o

-- sets with the same files are equal
pub set_same : (s t : FileSet) → OfFiles s → OfFiles t → ((f : ℕ) → member s f ≡ member t f) → s ≡ t
set_same s t o k f = ap {B = FileSet} (λ x. record { bits = x }) (numbers_same 64 s.bits t.bits o k f)

-- nothing is in the empty set
pub none-member : (f : ℕ) → member no_files f ≡ false
none-member f = by_test (is_file f) (λ e. rw (e, zero_has (f - 1))) (λ e. rw e)

-- ---- by places

-- place i is in the set
abbrev pub has : FileSet → ℕ → Bool
has s i = has_bit s.bits i

-- every place of s is in t
infix 4 ◌⊑◌
abbrev pub ◌⊑◌ : FileSet → FileSet → Type 0
s ⊑ t = (i : ℕ) → has s i ≡ true → has t i ≡ true

pub within_⊑ : (s t : FileSet) → within s t ≡ true → s ⊑ t
within_⊑ s t e = of_covers s.bits t.bits e

pub ⊑_within : (s t : FileSet) → s ⊑ t → within s t ≡ true
⊑_within s t f = covers_of s.bits t.bits f

pub none_⊑ : (s : FileSet) → no_files ⊑ s
none_⊑ s i z = never z (zero_has i)

-- ---- meeting

pub meets_mono : (s t s' t' : FileSet) → s ⊑ s' → t ⊑ t' → meets s t ≡ true → meets s' t' ≡ true
meets_mono s t s' t' f g e =
    let m = of_share s.bits t.bits e in
    share_of s'.bits t'.bits m.0 (f m.0 m.1) (g m.0 m.2)

pub meets_sym : (s t : FileSet) → meets s t ≡ true → meets t s ≡ true
meets_sym s t e = let m = of_share s.bits t.bits e in share_of t.bits s.bits m.0 m.2 m.1

pub meets_turn : (s t : FileSet) → meets s t ≡ meets t s
meets_turn s t = same_test (meets s t) (meets t s) (meets_sym s t) (meets_sym t s)

pub meets_at : (s t : FileSet) (f : ℕ) → member s f ≡ true → member t f ≡ true → meets s t ≡ true
meets_at s t f a b = share_of s.bits t.bits (f - 1) (has-bit 64 s.bits f a) (has-bit 64 t.bits f b)

pub none-meets : (s t : FileSet) → s ≡ no_files → meets s t ≡ false
none-meets s t e = no_true (meets s t) (λ u. let m = of_share s.bits t.bits u in never m.1 (ap (λ z. has z m.0) e ∙ zero_has m.0))

pub meets-none : (s t : FileSet) → t ≡ no_files → meets s t ≡ false
meets-none s t e = no_true (meets s t) (λ u. never (meets_sym s t u) (none-meets t s e))

-- ---- a file more

pub adding_⊒ : (s : FileSet) (f : ℕ) → s ⊑ adding s f
adding_⊒ s f i e = by_test (is_file f) (λ t. rw t (with_more s.bits (f - 1) i e)) (λ t. rw t e)

-- what is in the set and f: it was there, or it is f's place
adding_case : {C : Type 0} (s : FileSet) (f i : ℕ) → has (adding s f) i ≡ true → (has s i ≡ true → C) → (is_file f ≡ true → i ≡ f - 1 → C) → C
adding_case s f i e k n =
    by_test (is_file f)
    (λ t. by_test (eqb i (f - 1)) (λ u. n t (eqb-true i (f - 1) u))
    (λ u. k (with_only s.bits (f - 1) i (rw t at e) (eqb-false i (f - 1) u))))
    (λ t. k (rw t at e))

pub adding_⊑ : (s t : FileSet) (f : ℕ) → s ⊑ t → member t f ≡ true → adding s f ⊑ t
adding_⊑ s t f d m i e = adding_case s f i e (d i) (λ u z. ap (has t) z ∙ has-bit 64 t.bits f m)

pub adding_mono : (s t : FileSet) (f : ℕ) → s ⊑ t → adding s f ⊑ adding t f
adding_mono s t f d i e =
    adding_case s f i e (λ u. adding_⊒ t f i (d i u))
    (λ u z. ap (has (adding t f)) z ∙ has-bit 64 (adding t f).bits f (adding-same t f u))

pub adding-meets : {C : Type 0} (s t : FileSet) (f : ℕ) → meets (adding s f) t ≡ true → (meets s t ≡ true → C) → (member t f ≡ true → C) → C
adding-meets s t f e k n =
    let (i, a, b) = of_share (adding s f).bits t.bits e in
    adding_case s f i a (λ u. k (share_of s.bits t.bits i u b))
    (λ u z. n (and_both (is_file f) (has t (f - 1)) u (ap (has t) (sym z) ∙ b)))

-- ---- a file less

pub removing_⊑ : (s : FileSet) (f : ℕ) → removing s f ⊑ s
removing_⊑ s f i e = by_test (is_file f) (λ t. without_less s.bits (f - 1) i (rw t at e)) (λ t. rw t at e)

pub ⊑_removing : (s t : FileSet) (f : ℕ) → s ⊑ t → member s f ≡ false → s ⊑ removing t f
⊑_removing s t f d n i e =
    by_test (is_file f)
    (λ u. rw u (without_other t.bits (f - 1) i (d i e)
    (λ z. never (and_both (is_file f) (has s (f - 1)) u (ap (has s) (sym z) ∙ e)) n)))
    (λ u. rw u (d i e))
