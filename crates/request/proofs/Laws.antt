-- Laws of request lines for the functions that read them. Assumes nothing.
use Prim.Native.Nat.{ℕ, zero, suc, ◌+◌, ◌-◌, ◌*◌, ◌<◌, ◌≤◌}
use mathlib.Core.Path.{◌≡◌, refl, ap, sym, ◌∙◌}
use mathlib.Core.List.{List, [], ◌∷◌}
use mathlib.Core.Option.{none, some}
use mathlib.Core.Bool.{Bool, true, false, cond, ◌&&◌}
use lib.Dec.{eqb, ltb}
use lib.ListN.{length, take, drop}
use lib.Seq.{drop-drop}
use native.Mathlib.Omega.{arith}
use borrow.Author.Tests.{le-ltb, ltb-false, eq-eqb, ne_eqb, eqb-true, eqb-false}
use Rattle.std.specs.Cmp.Lexicographic.{pointwise}
use Rattle.std.specs.List.{find, list_all}
use Rattle.laws.specs.Tests.{by_test, by_option, never, and_true}
use Rattle.std.specs.Prelude.{Some, None, option_and_then}
use Rattle.std.specs.Prelude as prelude
use Rattle.columns.specs.Columns.{word_width, file_width}
use Rattle.columns.proofs.Laws.{field_cases}
use Rattle.rules.specs.declared.Refusal.{Refusal}
use Rattle.rules.specs.Calls.{claiming, no_claims}
use Rattle.laws.specs.Lists.{all, first, same}
use Rattle.laws.specs.Laws.{no_some, some_same}
use Rattle.rules.specs.declared.Verb.{Verb}
use Rattle.request.specs.declared.Group.{Group}
use Rattle.request.specs.declared.Shape.{Shape}
use Rattle.request.specs.Verbs.{verb_columns, shape_of, alone_length, file_length, record_length, files_at, entry_length}
use Rattle.request.specs.Requests.{Request, refused, taken, begins, file_in, program_field, file_field, w_field, r_field, j_field, label_byte, label_part}
use Rattle.request.specs.Requests.{record_field, record_line}
use Rattle.request.specs.Requests.{files_in, rises_from, adding_all, entry_files, entry_counts, entry_line, file_line, alone_line, read_as}
use Rattle.request.specs.Requests.{verb_of, begun, request_of, has_label, is_entry}
use Rattle.request.proofs.Verbs.{verb_length}
use Rattle.request.specs.Groups.{no_group, with_file, joined, group_from}

-- ---- columns 1 to 6

-- two lists compared, as `starts_with` compares them
same_flipped : (a b : List ℕ) → pointwise eqb b a ≡ same a b
unfolding same
same_flipped [] [] = refl
same_flipped [] (y ∷ b) = refl
same_flipped (x ∷ a) [] = refl
same_flipped (x ∷ a) (y ∷ b) =
    by_test (eqb x y)
    (λ e. rw (e, eq-eqb y x (sym (eqb-true x y e))) (same_flipped a b))
    (λ e. rw (e, ne_eqb y x (λ d. eqb-false x y e (sym d))))

-- a line begins with the columns of its verb
pub verb_starts : (v : Verb) (l w : List ℕ) → w ≡ verb_columns v → pointwise eqb w (take (length w) l) ≡ begins v l
unfolding begins
verb_starts v l w e = rw (e, verb_length v) (same_flipped (take word_width l) (verb_columns v))

-- ---- tests of lists, as `find` and `all` make them

-- the first that passes
pub first_is : {A : Type 0} (t : A → Bool) (l : List A) → find t l ≡ begun (first t l)
unfolding first
first_is t [] = refl
first_is t (x ∷ l) = by_test (t x) (λ e. rw e) (λ e. rw e (first_is t l))

-- every element passes, as `all` tests it
pub all_is : (t : ℕ → Bool) (l : List ℕ) → list_all t l ≡ all t l
unfolding all
all_is t [] = refl
all_is t (x ∷ l) = ap (λ r. t x && r) (all_is t l)

-- ---- a group, field by field

-- a turn of the loop that reads a group
pub group_more : (n i start : ℕ) (l : List ℕ) (g : Group) (o : prelude.Option Group) → i < n
    → o ≡ joined g (file_in (take (start + file_width * i + file_width - (start + file_width * i)) (drop (start + file_width * i) l)))
    → group_from (n - i) (drop (start + file_width * i) l) g ≡ option_and_then (group_from (n - (i + 1)) (drop (start + file_width * (i + 1)) l)) o
unfolding group_from
group_more n i start l g o h k =
    let e : n - i ≡ suc (n - (i + 1)) = omega arith in
    let d : start + file_width * (i + 1) ≡ start + file_width * i + file_width = omega arith in
    let w : start + file_width * i + file_width - (start + file_width * i) ≡ file_width = omega arith in
    rw (e, d, k, w, ← drop-drop file_width (start + file_width * i) l)

pub group_ends : (n i : ℕ) (l : List ℕ) (g : Group) → n ≤ i → group_from (n - i) l g ≡ Some g
unfolding group_from
group_ends n i l g h = let e : n - i ≡ 0 = omega arith in rw e

-- without the numbers of all files there is no group
group_none : (n : ℕ) (l : List ℕ) (g : Group) → files_in n l ≡ none → group_from n l g ≡ None
unfolding group_from files_in
group_none zero l g h = no_some (sym h)
group_none (suc n) l g h =
    field_cases (file_in (take file_width l))
    (λ e. rw e)
    (λ f e. by_option (files_in n (drop file_width l))
    (λ d. rw e (group_none n (drop file_width l) (with_file g f) d))
    (λ fs d. no_some (sym (rw (e, d) at h))))

swap_and : (a b c : Bool) → (b && (a && c)) ≡ ((a && b) && c)
swap_and true true c = refl
swap_and true false c = refl
swap_and false true c = refl
swap_and false false c = refl

-- what a group of these files comes to
record Comes (g : Group) (o : prelude.Option Group) (fs : List ℕ) : Type 0 where
  group : Group
  is : o ≡ Some group
  rising : group.rising ≡ (rises_from g.last fs && g.rising)
  files : group.files ≡ adding_all g.files fs

group_some : (n : ℕ) (l : List ℕ) (g : Group) (fs : List ℕ) → files_in n l ≡ some fs → Comes g (group_from n l g) fs
unfolding group_from files_in rises_from adding_all
group_some zero l g fs h =
    let e : fs ≡ [] = sym (some_same h) in
    rw e (record { group = g; is = refl; rising = refl; files = refl })
group_some (suc n) l g fs h =
    field_cases (file_in (take file_width l))
    (λ e. no_some (rw e at h))
    (λ f e. by_option (files_in n (drop file_width l))
    (λ d. no_some (rw (e, d) at h))
    (λ ks d.
    let u : fs ≡ f ∷ ks = sym (some_same (rw (e, d) at h)) in
    let i = group_some n (drop file_width l) (with_file g f) ks d in
    rw (e, u) (record {
      group = i.group;
      is = i.is;
      rising = i.rising ∙ swap_and (ltb g.last f) (rises_from f ks) g.rising;
      files = i.files;
    })))

-- ---- ENTER by the groups that the code reads

abbrev pub enter_by : Verb → prelude.Option Group → prelude.Option Group → prelude.Option Group → ℕ → Request
enter_by k None q j p = refused Refusal.BadNumber
enter_by k (Some v) None j p = refused Refusal.BadNumber
enter_by k (Some v) (Some q) None p = refused Refusal.BadNumber
enter_by k (Some v) (Some q) (Some j) p =
    cond (v.rising && q.rising && j.rising) (taken k p 0 0 (claiming v.files q.files j.files)) (refused Refusal.NotRising)

pub enter_by_lem : (k : Verb) (l : List ℕ) (p w r j : ℕ)
    → entry_files k l p w r j
    ≡ enter_by k (group_from w (drop files_at l) no_group) (group_from r (drop (entry_length w) l) no_group)
    (group_from j (drop (entry_length (w + r)) l) no_group) p
unfolding entry_files
enter_by_lem k l p w r j =
    by_option (files_in w (drop files_at l)) (λ e. rw (e, group_none w (drop files_at l) no_group e))
    (λ vs e.
    let v = group_some w (drop files_at l) no_group vs e in
    by_option (files_in r (drop (entry_length w) l)) (λ d. rw (e, d, v.is, group_none r (drop (entry_length w) l) no_group d))
    (λ qs d.
    let q = group_some r (drop (entry_length w) l) no_group qs d in
    by_option (files_in j (drop (entry_length (w + r)) l))
    (λ c. rw (e, d, c, v.is, q.is, group_none j (drop (entry_length (w + r)) l) no_group c))
    (λ js c.
    let i = group_some j (drop (entry_length (w + r)) l) no_group js c in
    rw (
      e,
      d,
      c,
      v.is,
      q.is,
      i.is,
      v.rising,
      q.rising,
      i.rising,
      v.files,
      q.files,
      i.files,
      and_true (rises_from 0 vs),
      and_true (rises_from 0 qs),
      and_true (rises_from 0 js),
    ))))

-- ---- what the readers take

module _ (v : Verb) (l : List ℕ) where
  pub counts-good : (p w r j : ℕ) → w_field l ≡ Some w → r_field l ≡ Some r → j_field l ≡ Some j
      → length l ≡ entry_length (w + r + j) → entry_counts v l p ≡ entry_files v l p w r j
  unfolding entry_counts
  counts-good p w r j e d c n = rw (e, d, c, eq-eqb (length l) (entry_length (w + r + j)) n)

  pub entry_good : (p : ℕ) → files_at ≤ length l → program_field l ≡ Some p → all label_byte (label_part l) ≡ true
      → entry_line v l ≡ entry_counts v l p
  unfolding entry_line
  entry_good p h e d = rw (le-ltb (length l) files_at h, e, d)

  pub file-good : (p f : ℕ) → length l ≡ file_length → program_field l ≡ Some p → file_field l ≡ Some f
      → file_line v l ≡ taken v p f 0 no_claims
  unfolding file_line
  file-good p f n e d = rw (eq-eqb (length l) file_length n, e, d)

  pub record_good_lem : (p f m : ℕ) → length l ≡ record_length → program_field l ≡ Some p → file_field l ≡ Some f
      → record_field l ≡ Some m → record_line v l ≡ taken v p f m no_claims
  unfolding record_line
  record_good_lem p f m n e d c = rw (eq-eqb (length l) record_length n, e, d, c)

  pub alone_good : (p : ℕ) → length l ≡ alone_length → program_field l ≡ Some p → alone_line v l ≡ taken v p 0 0 no_claims
  unfolding alone_line
  alone_good p n e = rw (eq-eqb (length l) alone_length n, e)

-- ---- the label's line

-- lines of other shapes have no label
file_entry : (v : Verb) (l : List ℕ) → has_label (shape_of v) ≡ false → is_entry (file_line v l) ≡ false
unfolding file_line
file_entry v l h =
    by_test (eqb (length l) file_length)
    (λ e. field_cases (program_field l) (λ d. rw (e, d)) (λ p d.
    field_cases (file_field l) (λ k. rw (e, d, k)) (λ f k. rw (e, d, k) h)))
    (λ e. rw e)

record_entry : (v : Verb) (l : List ℕ) → has_label (shape_of v) ≡ false → is_entry (record_line v l) ≡ false
unfolding record_line
record_entry v l h =
    by_test (eqb (length l) record_length)
    (λ e. field_cases (program_field l) (λ d. rw (e, d)) (λ p d.
    field_cases (file_field l) (λ k. rw (e, d, k)) (λ f k.
    field_cases (record_field l) (λ m. rw (e, d, k, m)) (λ n m. rw (e, d, k, m) h))))
    (λ e. rw e)

alone_entry : (v : Verb) (l : List ℕ) → has_label (shape_of v) ≡ false → is_entry (alone_line v l) ≡ false
unfolding alone_line
alone_entry v l h = by_test (eqb (length l) alone_length) (λ e. field_cases (program_field l) (λ d. rw (e, d)) (λ p d. rw (e, d) h)) (λ e. rw e)

enter-entry : (v : Verb) (l : List ℕ) → is_entry (entry_line v l) ≡ true → files_at ≤ length l
unfolding entry_line
enter-entry v l h = by_test (ltb (length l) files_at) (λ e. never (rw e at h) refl) (λ e. ltb-false (length l) files_at e)

entry_as : (s : Shape) (v : Verb) (l : List ℕ) → shape_of v ≡ s → is_entry (read_as s v l) ≡ true → files_at ≤ length l
entry_as Shape.Entry v l e h = enter-entry v l h
entry_as Shape.File v l e h = never h (file_entry v l (ap has_label e))
entry_as Shape.Record v l e h = never h (record_entry v l (ap has_label e))
entry_as Shape.Alone v l e h = never h (alone_entry v l (ap has_label e))

-- a line that has a label has the columns before its files
pub entry_long : (l : List ℕ) → is_entry (request_of l) ≡ true → files_at ≤ length l
unfolding request_of
entry_long l h = by_option (verb_of l) (λ e. never (rw e at h) refl) (λ v e. entry_as (shape_of v) v l refl (rw e at h))
