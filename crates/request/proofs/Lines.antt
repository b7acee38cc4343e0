-- A line is taken with a call exactly when it is the line that asks for this call, with some label; by the shapes of lines. Assumes nothing.
use Prim.Native.Nat.{ℕ, ◌+◌, ◌*◌, ◌≤◌}
use mathlib.Core.Path.{◌≡◌, refl, ap, ap₂, sym, subst, ◌∙◌}
use mathlib.Core.List.{List, [], ◌++◌, append-nil}
use mathlib.Core.Option.{some}
use mathlib.Core.Bool.{true, cond, ◌&&◌}
use lib.Dec.{eqb, ltb}
use lib.ListN.{length, take, drop, length-append, length-take, length-drop, take-append-drop}
use lib.Seq.{take_at, drop_at, drop-drop, take_all}
use native.Mathlib.Omega.{arith}
use borrow.Author.Tests.{eqb-true}
use Rattle.laws.specs.Tests.{by_test, by_option, never, and_left, and_right}
use Rattle.laws.specs.Lists.{all}
use Rattle.laws.specs.Laws.{same_eq, first_some}
use Rattle.std.specs.Prelude.{Some, Ok, is_ok}
use Rattle.columns.specs.Columns.{word_width, program_width, file_width, record_width, columns_of}
use Rattle.columns.proofs.Laws.{columns_length, field_cases, number_is}
use Rattle.columns.proofs.Rows.{flat-length}
use Rattle.rules.specs.declared.Asked.{Asked}
use Rattle.rules.specs.declared.Refusal.{Refusal}
use Rattle.rules.specs.declared.Verb.{Verb}
use Rattle.rules.specs.Calls.{Call, claiming, no_claims, call_of}
use Rattle.request.specs.declared.Shape.{Shape}
use Rattle.request.specs.Verbs.{verbs, verb_columns, shape_of, program_at, alone_length, file_at, file_length, label_width, label_at, w_at, r_at}
use Rattle.request.specs.Verbs.{record_at, record_length, j_at, files_at, entry_length}
use Rattle.request.specs.Requests.{Request, asking, refused, taken, request_call, begins, program_in, file_in, count_in, record_in, program_field, file_field, w_field, r_field}
use Rattle.request.specs.Requests.{j_field, record_field, record_line}
use Rattle.request.specs.Requests.{label_byte, label_part, files_in, rises, set_of, entry_files, entry_counts, entry_line, file_line, alone_line}
use Rattle.request.specs.Requests.{read_as, verb_of, request_of, has_label, is_entry, label_of, files_of, files_columns, asked_by, line_as, line_for, line_of}
use Rattle.request.specs.Law.{IsLabel, RangeAs, InRange, saying, label_as, TakenWith, AsksFor, LineLaw, SayingLaw, LabelLaw}
use Rattle.request.proofs.Verbs.{AskedBack, verb_good, verb_length, ProperAs, call_good, line-begins, verb_found}
use Rattle.request.proofs.Verbs.{program_columns, file_columns, count_columns, record_columns}
use Rattle.request.proofs.Laws.{entry_good, counts-good, file-good, record_good_lem, alone_good}
use Rattle.request.proofs.Groups.{set_bits, files-files, files_rise, files-length, set_back, list_back, columns_back, files-read}

-- ---- a line that asks for a call is read as this call

-- what stands after n columns of a line begins with k columns
past : (n k : ℕ) (l x y : List ℕ) → drop n l ≡ x ++ y → length x ≡ k → (take k (drop n l) ≡ x) × (drop (n + k) l ≡ y)
past n k l x y e h = (rw e (take_at x y k h), sym (drop-drop k n l) ∙ rw e (drop_at x y k h))

-- what a line says that is read as it was written
abbrev read_back : Shape → Asked → List ℕ → Type 0
read_back s a label = read_as s a.verb (line_as s a label) ≡ Ok a

-- OPEN, CLOSE, DROP
file_read : (a : Asked) (label : List ℕ) → RangeAs Shape.File a → ProperAs Shape.File a → read_back Shape.File a label
unfolding program_field file_field
file_read a label h k =
    let p = columns_of program_width a.program in
    let f = columns_of file_width a.file in
    let l = line_as Shape.File a label in
    let n : length l ≡ file_length = omega (
      arith,
      length-append (verb_columns a.verb) (p ++ f),
      length-append p f,
      verb_length a.verb,
      columns_length program_width a.program,
      columns_length file_width a.file,
    ) in
    let v = drop_at (verb_columns a.verb) (p ++ f) program_at (verb_length a.verb) in
    let i = past program_at program_width l p f v (columns_length program_width a.program) in
    let j = ap (take file_width) i.1 ∙ take_all file_width f (omega (arith, columns_length file_width a.file)) in
    file-good a.verb l a.program a.file n (ap program_in i.0 ∙ program_columns a.program h.0 h.1)
    (ap file_in j ∙ file_columns a.file h.2 h.3)
    ∙ ap₂ (taken a.verb a.program a.file) (sym k.0) (sym k.1)

-- FETCH
record_read : (a : Asked) (label : List ℕ) → RangeAs Shape.Record a → ProperAs Shape.Record a → read_back Shape.Record a label
unfolding program_field file_field record_field
record_read a label h k =
    let p = columns_of program_width a.program in
    let f = columns_of file_width a.file in
    let r = columns_of record_width a.item in
    let l = line_as Shape.Record a label in
    let n : length l ≡ record_length = omega (
      arith,
      length-append (verb_columns a.verb) (p ++ (f ++ r)),
      length-append p (f ++ r),
      length-append f r,
      verb_length a.verb,
      columns_length program_width a.program,
      columns_length file_width a.file,
      columns_length record_width a.item,
    ) in
    let v = drop_at (verb_columns a.verb) (p ++ (f ++ r)) program_at (verb_length a.verb) in
    let i = past program_at program_width l p (f ++ r) v (columns_length program_width a.program) in
    let j = past file_at file_width l f r i.1 (columns_length file_width a.file) in
    let m = ap (take record_width) j.1 ∙ take_all record_width r (omega (arith, columns_length record_width a.item)) in
    record_good_lem a.verb l a.program a.file a.item n (ap program_in i.0 ∙ program_columns a.program h.0 h.1)
    (ap file_in j.0 ∙ file_columns a.file h.2 h.3) (ap record_in m ∙ record_columns a.item h.4 h.5)
    ∙ ap (taken a.verb a.program a.file a.item) (sym k)

-- LEAVE, CANCEL, RETURN
alone_read : (a : Asked) (label : List ℕ) → RangeAs Shape.Alone a → ProperAs Shape.Alone a → read_back Shape.Alone a label
unfolding program_field
alone_read a label h k =
    let p = columns_of program_width a.program in
    let l = line_as Shape.Alone a label in
    let m = columns_length program_width a.program in
    let n : length l ≡ alone_length = omega (arith, length-append (verb_columns a.verb) p, verb_length a.verb, m) in
    let v = drop_at (verb_columns a.verb) p program_at (verb_length a.verb) in
    let j = ap (take program_width) v ∙ take_all program_width p (omega arith) in
    alone_good a.verb l a.program n (ap program_in j ∙ program_columns a.program h.0 h.1)
    ∙ ap₂ (λ (f n : ℕ). taken a.verb a.program f n no_claims) (sym k.0) (sym k.1)
    ∙ ap (taken a.verb a.program a.file a.item) (sym k.2)

-- the parts of an ENTER line
record Parts (a : Asked) (given l : List ℕ) : Type 0 where
  program : take program_width (drop program_at l) ≡ columns_of program_width a.program
  label : take label_width (drop label_at l) ≡ given
  w : take file_width (drop w_at l) ≡ columns_of file_width (length (files_of a.claims.writable))
  r : take file_width (drop r_at l) ≡ columns_of file_width (length (files_of a.claims.readable))
  j : take file_width (drop j_at l) ≡ columns_of file_width (length (files_of a.claims.inquirable))
  vs : drop files_at l ≡ files_columns (files_of a.claims.writable) ++ (files_columns (files_of a.claims.readable) ++ files_columns (files_of a.claims.inquirable))
  qs : drop (entry_length (length (files_of a.claims.writable))) l ≡ files_columns (files_of a.claims.readable) ++ files_columns (files_of a.claims.inquirable)
  js : drop (entry_length (length (files_of a.claims.writable) + length (files_of a.claims.readable))) l ≡ files_columns (files_of a.claims.inquirable)
  long : length l ≡ entry_length (length (files_of a.claims.writable) + length (files_of a.claims.readable) + length (files_of a.claims.inquirable))

parts : (a : Asked) (label : List ℕ) → length label ≡ label_width → Parts a label (line_as Shape.Entry a label)
parts a label h =
    let l = line_as Shape.Entry a label in
    let v = verb_columns a.verb in
    let p = columns_of program_width a.program in
    let vs = files_of a.claims.writable in
    let qs = files_of a.claims.readable in
    let js = files_of a.claims.inquirable in
    let nj = flat-length (columns_of file_width) file_width (columns_length file_width) js in
    let nv = flat-length (columns_of file_width) file_width (columns_length file_width) vs in
    let nq = flat-length (columns_of file_width) file_width (columns_length file_width) qs in
    let lw = columns_length file_width (length vs) in
    let lr = columns_length file_width (length qs) in
    let lj = columns_length file_width (length js) in
    let u = files_columns vs ++ (files_columns qs ++ files_columns js) in
    let x = columns_of file_width (length js) ++ u in
    let y = columns_of file_width (length qs) ++ x in
    let z = columns_of file_width (length vs) ++ y in
    let i = past program_at program_width l p (label ++ z) (drop_at v (p ++ (label ++ z)) program_at (verb_length a.verb))
    (columns_length program_width a.program) in
    let b = past label_at label_width l label z i.1 h in
    let c = past w_at file_width l (columns_of file_width (length vs)) y b.1 lw in
    let d = past r_at file_width l (columns_of file_width (length qs)) x c.1 lr in
    let o = past j_at file_width l (columns_of file_width (length js)) u d.1 lj in
    let e = past files_at (file_width * length vs) l (files_columns vs) (files_columns qs ++ files_columns js) o.1 nv in
    let g = past (entry_length (length vs)) (file_width * length qs) l (files_columns qs) (files_columns js) e.1 nq in
    let there : entry_length (length vs) + file_width * length qs ≡ entry_length (length vs + length qs) = omega arith in
    let n : length l ≡ entry_length (length vs + length qs + length js) = omega (
      arith,
      length-append v (p ++ (label ++ z)),
      length-append p (label ++ z),
      length-append label z,
      length-append (columns_of file_width (length vs)) y,
      length-append (columns_of file_width (length qs)) x,
      length-append (columns_of file_width (length js)) u,
      length-append (files_columns vs) (files_columns qs ++ files_columns js),
      length-append (files_columns qs) (files_columns js),
      verb_length a.verb,
      columns_length program_width a.program,
      lw,
      lr,
      lj,
      nv,
      nq,
      nj,
    ) in
    record {
      program = i.0;
      label = b.0;
      w = c.0;
      r = d.0;
      j = o.0;
      vs = o.1;
      qs = e.1;
      js = ap (λ (k : ℕ). drop k l) (sym there) ∙ g.1;
      long = n;
    }

-- ENTER
entry_read : (a : Asked) (label : List ℕ) → RangeAs Shape.Entry a → ProperAs Shape.Entry a → IsLabel label → read_back Shape.Entry a label
unfolding entry_files program_field w_field r_field j_field label_part
entry_read a label h k g =
    let l = line_as Shape.Entry a label in
    let vs = files_of a.claims.writable in
    let qs = files_of a.claims.readable in
    let js = files_of a.claims.inquirable in
    let m = parts a label g.0 in
    let np = ap program_in m.program ∙ program_columns a.program h.0 h.1 in
    let nw = ap count_in m.w ∙ count_columns (length vs) (files-length a.claims.writable) in
    let nr = ap count_in m.r ∙ count_columns (length qs) (files-length a.claims.readable) in
    let nj = ap count_in m.j ∙ count_columns (length js) (files-length a.claims.inquirable) in
    let lab = ap (all label_byte) m.label ∙ g.1 in
    let fv : files_in (length vs) (drop files_at l) ≡ some vs =
    ap (files_in (length vs)) m.vs ∙ columns_back vs (files_columns qs ++ files_columns js) (files-files a.claims.writable) in
    let fq : files_in (length qs) (drop (entry_length (length vs)) l) ≡ some qs =
    ap (files_in (length qs)) m.qs ∙ columns_back qs (files_columns js) (files-files a.claims.readable) in
    let fj : files_in (length js) (drop (entry_length (length vs + length qs)) l) ≡ some js =
    ap (files_in (length js)) (m.js ∙ sym (append-nil (files_columns js))) ∙ columns_back js [] (files-files a.claims.inquirable) in
    let room : files_at ≤ length l = omega (arith, m.long) in
    let e : entry_files a.verb l a.program (length vs) (length qs) (length js) ≡ taken a.verb a.program 0 0 a.claims =
    rw (
      fv,
      fq,
      fj,
      files_rise a.claims.writable,
      files_rise a.claims.readable,
      files_rise a.claims.inquirable,
      set_back a.claims.writable h.2.0,
      set_back a.claims.readable h.2.1,
      set_back a.claims.inquirable h.2.2,
    ) in
    entry_good a.verb l a.program room np lab
    ∙ counts-good a.verb l a.program (length vs) (length qs) (length js) nw nr nj m.long ∙ e
    ∙ ap₂ (λ (f n : ℕ). taken a.verb a.program f n a.claims) (sym k.0) (sym k.1)

as_read : (s : Shape) (a : Asked) (label : List ℕ) → RangeAs s a → ProperAs s a → (has_label s ≡ true → IsLabel label) → read_back s a label
as_read Shape.Entry a label h k g = entry_read a label h k (g refl)
as_read Shape.File a label h k g = file_read a label h k
as_read Shape.Record a label h k g = record_read a label h k
as_read Shape.Alone a label h k g = alone_read a label h k

-- THE LAW, one way: the line that asks for a call within range is taken, and says this call
pub line_read : SayingLaw
unfolding request_of line_for
line_read c label h g = let a = asked_by c in
    rw (verb_found a.verb (line_of c label) (line-begins (shape_of a.verb) a label))
    (as_read (shape_of a.verb) a label h (call_good c).proper g)

-- and its label is the one that stands in it
label_at_lem : (s : Shape) (a : Asked) (label : List ℕ) → (has_label s ≡ true → IsLabel label)
    → cond (has_label s) (label_part (line_as s a label)) [] ≡ label_as s label
unfolding label_part
label_at_lem Shape.Entry a label g = (parts a label (g refl).0).label
label_at_lem Shape.File a label g = refl
label_at_lem Shape.Record a label g = refl
label_at_lem Shape.Alone a label g = refl

pub label_read : LabelLaw
unfolding label_of line_for
label_read c label h g = rw (line_read c label h g) (label_at_lem (shape_of (asked_by c).verb) (asked_by c) label g)

-- ---- a line that is taken is the line that asks for its call

-- a refused line isn't taken
not_taken : {P : Type 0} (r : Refusal) → is_ok (refused r) ≡ true → P
not_taken r h = never h refl

verb_is : (v : Verb) (l : List ℕ) → begins v l ≡ true → take word_width l ≡ verb_columns v
unfolding begins
verb_is v l h = same_eq (take word_width l) (verb_columns v) h

-- a part of a line, and what stands after it
cut : (n k : ℕ) (l x : List ℕ) → take k (drop n l) ≡ x → drop n l ≡ x ++ drop (n + k) l
cut n k l x e = sym (take-append-drop k (drop n l)) ∙ rw (e, drop-drop k n l)

-- the last part of a line
cut_last : (n k : ℕ) (l x : List ℕ) → length l ≡ n + k → take k (drop n l) ≡ x → drop n l ≡ x
cut_last n k l x h e = sym (take_all k (drop n l) (omega (arith, length-drop n l))) ∙ e

-- what holds of a line of this shape that is taken
record Asks (s : Shape) (v : Verb) (l : List ℕ) : Type 0 where
  asked : Asked
  reads : read_as s v l ≡ Ok asked
  verb : asked.verb ≡ v
  back : asked_by (call_of asked) ≡ asked
  range : RangeAs s asked
  line : l ≡ line_as s asked (label_part l)
  label : has_label s ≡ true → IsLabel (label_part l)

-- LEAVE, CANCEL, RETURN
alone_asks : (v : Verb) (l : List ℕ) → AskedBack Shape.Alone v → begins v l ≡ true → is_ok (alone_line v l) ≡ true → Asks Shape.Alone v l
unfolding alone_line program_field
alone_asks v l back b h =
    by_test (eqb (length l) alone_length)
    (λ e. field_cases (program_in (take program_width (drop program_at l))) (λ d. not_taken Refusal.BadNumber (rw (e, d) at h))
    (λ p d.
    let n = number_is program_width 1 32 (take program_width (drop program_at l)) p d in
    let i = cut 0 word_width l (verb_columns v) (verb_is v l b) in
    let j = cut_last program_at program_width l (columns_of program_width p) (eqb-true (length l) alone_length e) n.2 in
    record {
      asked = asking v p 0 0 no_claims;
      reads = rw (e, d);
      verb = refl;
      back = back p;
      range = (n.0, n.1);
      line = i ∙ ap (λ (x : List ℕ). verb_columns v ++ x) j;
      label = λ z. never z refl;
    }))
    (λ e. not_taken Refusal.BadLength (rw e at h))

-- OPEN, CLOSE, DROP
file_asks : (v : Verb) (l : List ℕ) → AskedBack Shape.File v → begins v l ≡ true → is_ok (file_line v l) ≡ true → Asks Shape.File v l
unfolding file_line program_field file_field
file_asks v l back b h =
    by_test (eqb (length l) file_length)
    (λ e. field_cases (program_in (take program_width (drop program_at l))) (λ d. not_taken Refusal.BadNumber (rw (e, d) at h))
    (λ p d. field_cases (file_in (take file_width (drop file_at l))) (λ k. not_taken Refusal.BadNumber (rw (e, d, k) at h))
    (λ f k.
    let n = number_is program_width 1 32 (take program_width (drop program_at l)) p d in
    let m = number_is file_width 1 64 (take file_width (drop file_at l)) f k in
    let i = cut 0 word_width l (verb_columns v) (verb_is v l b) in
    let j = cut program_at program_width l (columns_of program_width p) n.2 in
    let o = cut_last file_at file_width l (columns_of file_width f) (eqb-true (length l) file_length e) m.2 in
    record {
      asked = asking v p f 0 no_claims;
      reads = rw (e, d, k);
      verb = refl;
      back = back p f;
      range = (n.0, n.1, m.0, m.1);
      line = i ∙ ap (λ (x : List ℕ). verb_columns v ++ x) (j ∙ ap (λ (x : List ℕ). columns_of program_width p ++ x) o);
      label = λ z. never z refl;
    })))
    (λ e. not_taken Refusal.BadLength (rw e at h))

-- FETCH
record_asks : (v : Verb) (l : List ℕ) → AskedBack Shape.Record v → begins v l ≡ true → is_ok (record_line v l) ≡ true
    → Asks Shape.Record v l
unfolding record_line program_field file_field record_field
record_asks v l back b h =
    by_test (eqb (length l) record_length)
    (λ e. field_cases (program_in (take program_width (drop program_at l))) (λ d. not_taken Refusal.BadNumber (rw (e, d) at h))
    (λ p d. field_cases (file_in (take file_width (drop file_at l))) (λ k. not_taken Refusal.BadNumber (rw (e, d, k) at h))
    (λ f k. field_cases (record_in (take record_width (drop record_at l))) (λ c. not_taken Refusal.BadNumber (rw (e, d, k, c) at h))
    (λ r c.
    let n = number_is program_width 1 32 (take program_width (drop program_at l)) p d in
    let m = number_is file_width 1 64 (take file_width (drop file_at l)) f k in
    let q = number_is record_width 1 65535 (take record_width (drop record_at l)) r c in
    let i = cut 0 word_width l (verb_columns v) (verb_is v l b) in
    let j = cut program_at program_width l (columns_of program_width p) n.2 in
    let u = cut file_at file_width l (columns_of file_width f) m.2 in
    let o = cut_last record_at record_width l (columns_of record_width r) (eqb-true (length l) record_length e) q.2 in
    record {
      asked = asking v p f r no_claims;
      reads = rw (e, d, k, c);
      verb = refl;
      back = back p f r;
      range = (n.0, n.1, m.0, m.1, q.0, q.1);
      line = i ∙ ap (λ (x : List ℕ). verb_columns v ++ x) (j ∙ ap (λ (x : List ℕ). columns_of program_width p ++ x)
          (u ∙ ap (λ (x : List ℕ). columns_of file_width f ++ x) o));
      label = λ z. never z refl;
    }))))
    (λ e. not_taken Refusal.BadLength (rw e at h))

-- ENTER: the numbers and the files
record Entry (v : Verb) (l : List ℕ) : Type 0 where
  p : ℕ
  w : ℕ
  r : ℕ
  j : ℕ
  vs : List ℕ
  qs : List ℕ
  js : List ℕ
  label : all label_byte (label_part l) ≡ true
  at_p : program_field l ≡ Some p
  at-w : w_field l ≡ Some w
  at-r : r_field l ≡ Some r
  at_j : j_field l ≡ Some j
  long : length l ≡ entry_length (w + r + j)
  at_vs : files_in w (drop files_at l) ≡ some vs
  at_qs : files_in r (drop (entry_length w) l) ≡ some qs
  at_js : files_in j (drop (entry_length (w + r)) l) ≡ some js
  vs_rise : rises vs ≡ true
  qs_rise : rises qs ≡ true
  js_rise : rises js ≡ true
  says : entry_line v l ≡ taken v p 0 0 (claiming (set_of vs) (set_of qs) (set_of js))

entry : (v : Verb) (l : List ℕ) → is_ok (entry_line v l) ≡ true → Entry v l
unfolding entry_line entry_counts entry_files
entry v l h =
    by_test (ltb (length l) files_at) (λ e. not_taken Refusal.BadLength (rw e at h)) (λ e.
    field_cases (program_field l) (λ f. not_taken Refusal.BadNumber (rw (e, f) at h)) (λ p f.
    by_test (all label_byte (label_part l))
    (λ g. field_cases (w_field l) (λ i. not_taken Refusal.BadNumber (rw (e, f, g, i) at h)) (λ w i.
    field_cases (r_field l) (λ j. not_taken Refusal.BadNumber (rw (e, f, g, i, j) at h)) (λ r j.
    field_cases (j_field l) (λ c. not_taken Refusal.BadNumber (rw (e, f, g, i, j, c) at h)) (λ y c.
    by_test (eqb (length l) (entry_length (w + r + y)))
    (λ k. by_option (files_in w (drop files_at l)) (λ m. not_taken Refusal.BadNumber (rw (e, f, g, i, j, c, k, m) at h)) (λ vs m.
    by_option (files_in r (drop (entry_length w) l)) (λ n. not_taken Refusal.BadNumber (rw (e, f, g, i, j, c, k, m, n) at h)) (λ qs n.
    by_option (files_in y (drop (entry_length (w + r)) l)) (λ u. not_taken Refusal.BadNumber (rw (e, f, g, i, j, c, k, m, n, u) at h)) (λ js u.
    by_test (rises vs && rises qs && rises js)
    (λ o. record {
      p = p;
      w = w;
      r = r;
      j = y;
      vs = vs;
      qs = qs;
      js = js;
      label = g;
      at_p = f;
      at-w = i;
      at-r = j;
      at_j = c;
      long = eqb-true (length l) (entry_length (w + r + y)) k;
      at_vs = m;
      at_qs = n;
      at_js = u;
      vs_rise = and_left (rises vs) (rises qs) (and_left (rises vs && rises qs) (rises js) o);
      qs_rise = and_right (rises vs) (rises qs) (and_left (rises vs && rises qs) (rises js) o);
      js_rise = and_right (rises vs && rises qs) (rises js) o;
      says = rw (e, f, g, i, j, c, k, m, n, u, o);
    })
    (λ o. not_taken Refusal.NotRising (rw (e, f, g, i, j, c, k, m, n, u, o) at h))))))
    (λ k. not_taken Refusal.BadLength (rw (e, f, g, i, j, c, k) at h))))))
    (λ g. not_taken Refusal.BadLabel (rw (e, f, g) at h))))

entry_asks : (v : Verb) (l : List ℕ) → AskedBack Shape.Entry v → begins v l ≡ true → Entry v l → Asks Shape.Entry v l
unfolding label_part program_field w_field r_field j_field
entry_asks v l back b t =
    let vs = t.vs in
    let qs = t.qs in
    let js = t.js in
    let claims = claiming (set_of vs) (set_of qs) (set_of js) in
    let n = number_is program_width 1 32 (take program_width (drop program_at l)) t.p t.at_p in
    let nw = number_is file_width 0 64 (take file_width (drop w_at l)) t.w t.at-w in
    let nr = number_is file_width 0 64 (take file_width (drop r_at l)) t.r t.at-r in
    let nj = number_is file_width 0 64 (take file_width (drop j_at l)) t.j t.at_j in
    let rv = files-read t.w (drop files_at l) vs t.at_vs in
    let rq = files-read t.r (drop (entry_length t.w) l) qs t.at_qs in
    let rj = files-read t.j (drop (entry_length (t.w + t.r)) l) js t.at_js in
    let bj = list_back js rj.files t.js_rise in
    let bv = list_back vs rv.files t.vs_rise in
    let bq = list_back qs rq.files t.qs_rise in
    let cw : take file_width (drop w_at l) ≡ columns_of file_width (length vs) = nw.2 ∙ ap (columns_of file_width) (sym rv.count) in
    let cr : take file_width (drop r_at l) ≡ columns_of file_width (length qs) = nr.2 ∙ ap (columns_of file_width) (sym rq.count) in
    let cj : take file_width (drop j_at l) ≡ columns_of file_width (length js) = nj.2 ∙ ap (columns_of file_width) (sym rj.count) in
    let long : length l ≡ entry_length (t.w + t.r) + file_width * t.j = omega (arith, t.long) in
    let there : entry_length t.w + file_width * t.r ≡ entry_length (t.w + t.r) = omega arith in
    let given = take label_width (drop label_at l) in
    let d0 = cut 0 word_width l (verb_columns v) (verb_is v l b) in
    let d1 = cut program_at program_width l (columns_of program_width t.p) n.2 in
    let d2 = cut label_at label_width l given refl in
    let d3 = cut w_at file_width l (columns_of file_width (length vs)) cw in
    let d4 = cut r_at file_width l (columns_of file_width (length qs)) cr in
    let dj = cut j_at file_width l (columns_of file_width (length js)) cj in
    let d5 = cut files_at (file_width * t.w) l (files_columns vs) rv.columns in
    let d6 = cut (entry_length t.w) (file_width * t.r) l (files_columns qs) rq.columns
    ∙ ap (λ (k : ℕ). files_columns qs ++ drop k l) there in
    let last = cut_last (entry_length (t.w + t.r)) (file_width * t.j) l (files_columns js) long rj.columns in
    let size : length given ≡ label_width = omega (arith, length-take label_width (drop label_at l), length-drop label_at l, long) in
    let line : l ≡ verb_columns v ++ (columns_of program_width t.p ++ (given ++ (columns_of file_width (length vs)
    ++ (columns_of file_width (length qs) ++ (columns_of file_width (length js) ++ (files_columns vs ++ (files_columns qs ++ files_columns js))))))) =
    d0 ∙ ap (λ (x : List ℕ). verb_columns v ++ x) (d1 ∙ ap (λ (x : List ℕ). columns_of program_width t.p ++ x)
    (d2 ∙ ap (λ (x : List ℕ). given ++ x) (d3 ∙ ap (λ (x : List ℕ). columns_of file_width (length vs) ++ x)
    (d4 ∙ ap (λ (x : List ℕ). columns_of file_width (length qs) ++ x) (dj ∙ ap (λ (x : List ℕ). columns_of file_width (length js) ++ x)
    (d5 ∙ ap (λ (x : List ℕ). files_columns vs ++ x) (d6 ∙ ap (λ (x : List ℕ). files_columns qs ++ x) last))))))) in
    record {
      asked = asking v t.p 0 0 claims;
      reads = t.says;
      verb = refl;
      back = back t.p claims;
      range = (n.0, n.1, (set_bits vs rv.files, set_bits qs rq.files, set_bits js rj.files));
      line = line ∙ sym (rw (bv, bq, bj));
      label = λ z. (size, t.label);
    }

as_asks : (s : Shape) (v : Verb) (l : List ℕ) → AskedBack s v → begins v l ≡ true → is_ok (read_as s v l) ≡ true → Asks s v l
as_asks Shape.Entry v l back b h = entry_asks v l back b (entry v l h)
as_asks Shape.File v l back b h = file_asks v l back b h
as_asks Shape.Record v l back b h = record_asks v l back b h
as_asks Shape.Alone v l back b h = alone_asks v l back b h

-- what holds of a line that says q
pub record Says (l : List ℕ) (q : Request) : Type 0 where
  pub call : q ≡ saying (request_call q)
  pub range : InRange (request_call q)
  pub line : l ≡ line_of (request_call q) (label_part l)
  pub label : is_entry q ≡ true → IsLabel (label_part l)

asks_says : (v : Verb) (l : List ℕ) → Asks (shape_of v) v l → Says l (read_as (shape_of v) v l)
unfolding line_for
asks_says v l t =
    let a = t.asked in
    let shape : shape_of a.verb ≡ shape_of v = ap shape_of t.verb in
    rw t.reads (record {
      call = ap (λ (x : Asked). Ok x) (sym t.back);
      range = rw t.back (subst (λ (s : Shape). RangeAs s a) (sym shape) t.range);
      line = rw t.back (t.line ∙ ap (λ (s : Shape). line_as s a (label_part l)) (sym shape));
      label = λ z. t.label (sym (ap has_label shape) ∙ z);
    })

-- THE LAW, the other way: a line that is taken is the line that asks for the call it says, with its own label
pub read-line : (l : List ℕ) → is_ok (request_of l) ≡ true → Says l (request_of l)
unfolding request_of verb_of
read-line l h = by_option (verb_of l) (λ e. not_taken Refusal.NoVerb (rw e at h))
    (λ v e. rw e (asks_says v l (as_asks (shape_of v) v l (verb_good v).back (first_some (λ u. begins u l) verbs v e).1 (rw e at h))))

-- ---- both ways in one

asks_of_taken : (l : List ℕ) (c : Call) → TakenWith l c → AsksFor l c
asks_of_taken l c h =
    let s = read-line l h.0 in
    let e = h.1 in
    rw (← e) (s.range, (label_part l, λ z. s.label (ap is_entry s.call ∙ z), s.line))

taken_of_asks : (l : List ℕ) (c : Call) → AsksFor l c → TakenWith l c
taken_of_asks l c h =
    let e = ap request_of h.1.2 ∙ line_read c h.1.0 h.0 h.1.1 in
    (ap (λ (q : Request). is_ok q) e, ap request_call e ∙ (call_good c).back)

pub line_law : LineLaw
line_law l c = (asks_of_taken l c, taken_of_asks l c)
