-- Claims as sets and as rising lists of files, both ways, and the columns of such a list. Assumes nothing.
use Prim.Native.Nat.{ℕ, zero, suc, ◌+◌, ◌-◌, ◌*◌, ◌^◌, ◌<◌, ◌≤◌}
use mathlib.Core.Path.{◌≡◌, refl, ap, sym, ◌∙◌}
use mathlib.Core.List.{List, [], ◌∷◌, ◌++◌, append_assoc}
use mathlib.Core.Option.{some}
use mathlib.Core.Bool.{Bool, true, false, ◌&&◌, ◌||◌}
use lib.Dec.{eqb, ltb}
use lib.ListN.{length, take, drop}
use lib.Seq.{take_at, drop_at, take-add}
use lib.Pow.{pow-lt}
use lib.Bits.{or_lt}
use native.Mathlib.Omega.{arith}
use borrow.Author.Tests.{lt-ltb, ltb-true, eq-eqb, ne_eqb, eqb-true, eqb-false}
use Rattle.laws.specs.Tests.{by_test, by_option, never, or_true, and_false}
use Rattle.columns.specs.Columns.{file_width, columns_of}
use Rattle.columns.specs.Rows.{flat}
use Rattle.columns.proofs.Laws.{columns_length, field_cases, number_is}
use Rattle.files.specs.declared.FileSet.{FileSet}
use Rattle.files.specs.Sets.{is_file, no_files, member, adding, OfFiles}
use Rattle.files.proofs.Bits.{is_number_lem, least, most}
use Rattle.files.proofs.Laws.{none-member, adding-same, adding_other, set_same}
use Rattle.laws.specs.Lists.{any, keep, rising, listed}
use Rattle.laws.specs.Laws.{no_some, some_same, keep_same, length_keep, rising-mem, mem-rising, length-rising, mem-listed}
use Rattle.request.specs.Requests.{file_in, files_in, rises_from, rises, adding_all, set_of, files_of, files_columns}
use Rattle.request.proofs.Verbs.{file_columns}

-- ---- lists of files

-- each number is a file's
abbrev pub Files : List ℕ → Type 0
Files [] = Unit {0}
Files (f ∷ fs) = (1 ≤ f) × (f ≤ 64) × Files fs

-- a set with these files has each of them, and what it had
all_members : (s : FileSet) (fs : List ℕ) (g : ℕ) → Files fs → member (adding_all s fs) g ≡ (member s g || listed g fs)
unfolding adding_all listed any
all_members s [] g k = by_test (member s g) (λ e. rw e) (λ e. rw e)
all_members s (f ∷ fs) g k =
    all_members (adding s f) fs g k.2
    ∙ by_test (eqb g f)
    (λ e. let same : g ≡ f = eqb-true g f e in
    let m : member (adding s f) g ≡ true = ap (member (adding s f)) same ∙ adding-same s f (is_number_lem 64 f k.0 k.1) in
    rw (m, e) (sym (or_true (member s g))))
    (λ e. rw (e, adding_other s f g (eqb-false g f e)))

pub members : (fs : List ℕ) (g : ℕ) → Files fs → member (set_of fs) g ≡ listed g fs
members fs g k = all_members no_files fs g k ∙ rw (none-member g)

-- a set of files has 64 bits
all_bits : (s : FileSet) (fs : List ℕ) → s.bits < 2 ^ 64 → Files fs → (adding_all s fs).bits < 2 ^ 64
unfolding adding_all
all_bits s [] h k = h
all_bits s (f ∷ fs) h k =
    let i : f - 1 < 64 = omega (arith, k.0, k.1) in
    all_bits (adding s f) fs (rw (is_number_lem 64 f k.0 k.1) (or_lt 64 s.bits (2 ^ (f - 1)) h (pow-lt {i = f - 1} {j = 64} i))) k.2

pub set_bits : (fs : List ℕ) → Files fs → (set_of fs).bits < 2 ^ 64
set_bits fs k = all_bits no_files fs (omega arith) k

-- ---- a rising list, from its set

-- a number that isn't above n isn't in a list that rises from above n
not_listed : (n g : ℕ) (fs : List ℕ) → rises_from n fs ≡ true → g ≤ n → listed g fs ≡ false
unfolding rises_from listed any
not_listed n g [] h k = refl
not_listed n g (f ∷ fs) h k =
    by_test (ltb n f)
    (λ e. let b : n < f = ltb-true n f e in
    rw (ne_eqb g f (λ d. absurd (omega arith))) (not_listed f g fs (rw e at h) (omega arith)))
    (λ e. never (rw e at h) refl)

-- every file of the list is at most m
abbrev UpTo : ℕ → List ℕ → Type 0
UpTo m [] = Unit {0}
UpTo m (f ∷ fs) = (f ≤ m) × UpTo m fs

up_to : (fs : List ℕ) → Files fs → UpTo 64 fs
up_to [] h = Prim.tt
up_to (f ∷ fs) h = (h.1, up_to fs h.2)

rises-nil : (n : ℕ) → rises_from n [] ≡ true
unfolding rises_from
rises-nil n = refl

-- the head of a list that rises from above n
rises_head : (n f : ℕ) (fs : List ℕ) → rises_from n (f ∷ fs) ≡ true → (n < f) × (rises_from f fs ≡ true)
unfolding rises_from
rises_head n f fs h = by_test (ltb n f) (λ e. (ltb-true n f e, rw e at h)) (λ e. never (rw e at h) refl)

rises_of : (n f : ℕ) (fs : List ℕ) → n < f → rises_from f fs ≡ true → rises_from n (f ∷ fs) ≡ true
unfolding rises_from
rises_of n f fs h k = rw (lt-ltb n f h) k

listed_head : (g f : ℕ) (fs : List ℕ) → g ≡ f → listed g (f ∷ fs) ≡ true
unfolding listed any
listed_head g f fs e = rw (eq-eqb g f e)

listed_tail : (g f : ℕ) (fs : List ℕ) → (g ≡ f → ⊥) → listed g (f ∷ fs) ≡ listed g fs
unfolding listed any
listed_tail g f fs n = rw (ne_eqb g f n)

-- of the numbers after k, a list that rises from above k keeps itself
keep_listed : (n k m : ℕ) (fs : List ℕ) → k + n ≡ m → rises_from k fs ≡ true → UpTo m fs → keep (λ g. listed g fs) (rising n (suc k)) ≡ fs
unfolding keep rising
keep_listed zero k m [] e h u = refl
keep_listed zero k m (f ∷ fs) e h u = let b = rises_head k f fs h in absurd (omega (arith, b.0, u.0))
keep_listed (suc n) k m [] e h u = rw (not_listed (suc k) (suc k) [] (rises-nil (suc k)) (omega arith))
    (keep_listed n (suc k) m [] (omega arith) (rises-nil (suc k)) u)
keep_listed (suc n) k m (f ∷ fs) e h u =
    let b = rises_head k f fs h in
    by_test (eqb (suc k) f)
    (λ d. let same : suc k ≡ f = eqb-true (suc k) f d in
    rw (
      listed_head (suc k) f fs same,
      keep_same (λ g. listed g (f ∷ fs)) (λ g. listed g fs) (rising n (suc (suc k)))
          (λ g i. let r = (rising-mem n (suc (suc k)) g i).0 in listed_tail g f fs (λ j. absurd (omega arith))),
      keep_listed n (suc k) m fs (omega arith) (ap (λ (x : ℕ). rises_from x fs) same ∙ b.1) u.1,
      same,
    ))
    (λ d. let other = eqb-false (suc k) f d in
    let j : suc k < f = omega (arith, b.0, other) in
    rw (not_listed (suc k) (suc k) (f ∷ fs) (rises_of (suc k) f fs j b.1) (omega arith))
    (keep_listed n (suc k) m (f ∷ fs) (omega arith) (rises_of (suc k) f fs j b.1) u))

-- the files of the set of a rising list are the list
pub list_back : (fs : List ℕ) → Files fs → rises fs ≡ true → files_of (set_of fs) ≡ fs
unfolding files_of
list_back fs k h = keep_same (member (set_of fs)) (λ g. listed g fs) (rising 64 1) (λ g i. members fs g k) ∙ keep_listed 64 0 64 fs refl h (up_to fs k)

-- ---- a set, from its list

listed_keep : (t : ℕ → Bool) (g : ℕ) (l : List ℕ) → listed g (keep t l) ≡ (listed g l && t g)
unfolding listed any keep
listed_keep t g [] = refl
listed_keep t g (x ∷ l) =
    by_test (eqb g x)
    (λ e. let same : g ≡ x = eqb-true g x e in
    by_test (t x) (λ d. rw (d, same, eq-eqb x x refl, d))
    (λ d. rw (d, e) (listed_keep t g l ∙ rw (same, d) (and_false (any (eqb x) l)))))
    (λ e. by_test (t x) (λ d. rw (d, e) (listed_keep t g l)) (λ d. rw (d, e) (listed_keep t g l)))

-- the files of a set are files, and rise
keep_files : (t : ℕ → Bool) (n k : ℕ) → 1 ≤ k → k + n ≤ 65 → Files (keep t (rising n k))
unfolding keep rising
keep_files t zero k h i = Prim.tt
keep_files t (suc n) k h i =
    let r = keep_files t n (suc k) (omega arith) (omega arith) in
    by_test (t k) (λ e. rw e (h, omega arith, r)) (λ e. rw e r)

keep_rises : (t : ℕ → Bool) (n k m : ℕ) → m < k → rises_from m (keep t (rising n k)) ≡ true
unfolding keep rising
keep_rises t zero k m h = rises-nil m
keep_rises t (suc n) k m h =
    by_test (t k) (λ e. rw e (rises_of m k _ h (keep_rises t n (suc k) k (omega arith)))) (λ e. rw e (keep_rises t n (suc k) m (omega arith)))

pub files-files : (s : FileSet) → Files (files_of s)
unfolding files_of
files-files s = keep_files (member s) 64 1 (omega arith) (omega arith)

pub files_rise : (s : FileSet) → rises (files_of s) ≡ true
unfolding files_of
files_rise s = keep_rises (member s) 64 1 0 (omega arith)

-- at most 64 files
pub files-length : (s : FileSet) → length (files_of s) ≤ 64
unfolding files_of
files-length s = omega (arith, length_keep (member s) (rising 64 1), length-rising 64 1)

set-members : (s : FileSet) (g : ℕ) → member (set_of (files_of s)) g ≡ member s g
unfolding files_of
set-members s g =
    members (files_of s) g (files-files s) ∙ listed_keep (member s) g (rising 64 1)
    ∙ by_test (is_file g)
    (λ e. rw (mem-listed g (rising 64 1) (mem-rising 64 1 g (least 64 g e) (let m = most 64 g e in omega arith))))
    (λ e. rw e (and_false (listed g (rising 64 1))))

-- the set of the files of a set is the set
pub set_back : (s : FileSet) → OfFiles s → set_of (files_of s) ≡ s
set_back s h = set_same (set_of (files_of s)) s (set_bits (files_of s) (files-files s)) h (set-members s)

-- ---- the columns of a list of files

-- the columns of files are read as these files
pub columns_back : (fs t : List ℕ) → Files fs → files_in (length fs) (files_columns fs ++ t) ≡ some fs
unfolding files_in flat
columns_back [] t k = refl
columns_back (f ∷ fs) t k =
    let c : List ℕ = columns_of file_width f in
    let rest : List ℕ = files_columns fs ++ t in
    let n = columns_length file_width f in
    rw (
      append_assoc c (files_columns fs) t,
      take_at c rest file_width n,
      drop_at c rest file_width n,
      file_columns f k.0 k.1,
      columns_back fs t k.2,
    )

-- what is read as files is the columns of these files
pub record Read (n : ℕ) (l fs : List ℕ) : Type 0 where
  pub count : length fs ≡ n
  pub files : Files fs
  pub columns : take (file_width * n) l ≡ files_columns fs

pub files-read : (n : ℕ) (l fs : List ℕ) → files_in n l ≡ some fs → Read n l fs
unfolding files_in flat
files-read zero l fs h = let e : fs ≡ [] = sym (some_same h) in rw e (record { count = refl; files = Prim.tt; columns = refl })
files-read (suc n) l fs h =
    field_cases (file_in (take file_width l))
    (λ e. no_some (rw e at h))
    (λ f e. by_option (files_in n (drop file_width l))
    (λ d. no_some (rw (e, d) at h))
    (λ ks d.
    let u : fs ≡ f ∷ ks = sym (some_same (rw (e, d) at h)) in
    let i = files-read n (drop file_width l) ks d in
    let m = number_is file_width 1 64 (take file_width l) f e in
    let more : file_width * suc n ≡ file_width + file_width * n = omega arith in
    rw u (record {
      count = ap suc i.count;
      files = (m.0, m.1, i.files);
      columns = rw (more, take-add file_width (file_width * n) l, m.2, i.columns);
    })))
