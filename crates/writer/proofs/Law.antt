-- What is promised of the writer and the reader together. Assumes nothing.
use Prim.Native.Nat.{ℕ, ◌≤◌}
use mathlib.Core.Path.{◌≡◌, refl, ap, sym, ◌∙◌}
use mathlib.Core.Bool.{true, false}
use mathlib.Core.List.{List, []}
use lib.Dec.{eqb, ltb}
use lib.ListN.{length, take, drop}
use lib.Seq.{take_at, drop_at}
use native.Mathlib.Omega.{arith}
use borrow.Author.Tests.{le-ltb, ltb-true, ltb-false, eq-eqb, eqb-true}
use Rattle.files.specs.Bits.{is_number}
use Rattle.laws.specs.Tests.{by_test, never, and_left, and_right, and_both}
use Rattle.files.proofs.Bits.{is_number_lem, least, most}
use Rattle.laws.specs.Lists.{all}
use Rattle.rules.specs.declared.Asked.{Asked}
use Rattle.rules.specs.Calls.{Call}
use Rattle.std.specs.Prelude.{Ok, Err, is_ok}
use Rattle.request.specs.declared.Shape.{Shape}
use Rattle.request.specs.Verbs.{shape_of, label_width, longest_line}
use Rattle.request.specs.Requests.{Request, request_call, label_byte, request_of, has_label, is_entry, label_part, label_of, asked_by, line_as, line_for, line_of}
use Rattle.request.specs.Law.{IsLabel, RangeAs, saying}
use Rattle.request.proofs.Verbs.{call_good}
use Rattle.request.proofs.Groups.{files-length}
use Rattle.request.proofs.Lines.{line_read, label_read, read-line}
use Rattle.writer.specs.Writer.{Writing, unwritten_number, numbers_good, record_good, is_label, label_good, writing_of, buffer_after}
use Rattle.writer.specs.Law.{ClaimsAs, WritesInto, ReadsBack, WritesBack, Written, WrittenIsTaken, LongestLine}
use Rattle.writer.specs.Law.{AlwaysWritten, BytesAfterKept, RefusalFillsNothing}
use Rattle.writer.proofs.Laws.{alone_length_lem, file_length_lem, record_length_lem, enter-length}

-- ---- numbers and labels, as tests and as facts, by the shape of the line

in_range : (s : Shape) (a : Asked) → ClaimsAs s a → numbers_good s a ≡ true → record_good s a ≡ true → RangeAs s a
in_range Shape.Entry a k h i = (least 32 a.program h, most 32 a.program h, k)
in_range Shape.File a k h i =
    let p = and_left (is_number 32 a.program) (is_number 64 a.file) h in
    let f = and_right (is_number 32 a.program) (is_number 64 a.file) h in
    (least 32 a.program p, most 32 a.program p, least 64 a.file f, most 64 a.file f)
in_range Shape.Record a k h i =
    let p = and_left (is_number 32 a.program) (is_number 64 a.file) h in
    let f = and_right (is_number 32 a.program) (is_number 64 a.file) h in
    (least 32 a.program p, most 32 a.program p, least 64 a.file f, most 64 a.file f, least 65535 a.item i, most 65535 a.item i)
in_range Shape.Alone a k h i = (least 32 a.program h, most 32 a.program h)

pub range_test : (s : Shape) (a : Asked) → RangeAs s a → numbers_good s a ≡ true
range_test Shape.Entry a h = is_number_lem 32 a.program h.0 h.1
range_test Shape.File a h = and_both (is_number 32 a.program) (is_number 64 a.file) (is_number_lem 32 a.program h.0 h.1)
    (is_number_lem 64 a.file h.2 h.3)
range_test Shape.Record a h = and_both (is_number 32 a.program) (is_number 64 a.file) (is_number_lem 32 a.program h.0 h.1)
    (is_number_lem 64 a.file h.2 h.3)
range_test Shape.Alone a h = is_number_lem 32 a.program h.0 h.1

pub record_test : (s : Shape) (a : Asked) → RangeAs s a → record_good s a ≡ true
record_test Shape.Entry a h = refl
record_test Shape.File a h = refl
record_test Shape.Record a h = is_number_lem 65535 a.item h.4 h.5
record_test Shape.Alone a h = refl

range_claims : (s : Shape) (a : Asked) → RangeAs s a → ClaimsAs s a
range_claims Shape.Entry a h = h.2
range_claims Shape.File a h = Prim.tt
range_claims Shape.Record a h = Prim.tt
range_claims Shape.Alone a h = Prim.tt

label_fact : (label : List ℕ) → is_label label ≡ true → IsLabel label
label_fact label h = (
  eqb-true (length label) label_width (and_left (eqb (length label) label_width) (all label_byte label) h),
  and_right (eqb (length label) label_width) (all label_byte label) h,
)

good_label : (s : Shape) (label : List ℕ) → label_good s label ≡ true → has_label s ≡ true → IsLabel label
good_label Shape.Entry label h e = label_fact label h
good_label Shape.File label h e = never e refl
good_label Shape.Record label h e = never e refl
good_label Shape.Alone label h e = never e refl

label_test : (s : Shape) (label : List ℕ) → (has_label s ≡ true → IsLabel label) → label_good s label ≡ true
label_test Shape.Entry label h = let k = h refl in
    and_both (eqb (length label) label_width) (all label_byte label) (eq-eqb (length label) label_width k.0) k.1
label_test Shape.File label h = refl
label_test Shape.Record label h = refl
label_test Shape.Alone label h = refl

-- the shape of a call's line
abbrev shape_in : Call → Shape
shape_in c = shape_of (asked_by c).verb

-- ---- what was written

abbrev refusal_in : Writing → ℕ
refusal_in (Ok n) = 0
refusal_in (Err r) = unwritten_number r

abbrev length_in : Writing → ℕ
length_in (Ok n) = n
length_in (Err r) = 0

-- a line that was written passed the checks, is as long as was answered, and fits
record Passed (c : Call) (label buffer : List ℕ) (n : ℕ) : Type 0 where
  range : numbers_good (shape_in c) (asked_by c) ≡ true
  record_good_lem : record_good (shape_in c) (asked_by c) ≡ true
  label_good_lem : label_good (shape_in c) label ≡ true
  long : n ≡ length (line_of c label)
  fits : n ≤ length buffer

passed : (c : Call) (label buffer : List ℕ) (n : ℕ) → writing_of c label buffer ≡ Ok n → Passed c label buffer n
unfolding writing_of line_for
passed c label buffer n h =
    by_test (numbers_good (shape_in c) (asked_by c))
    (λ r. by_test (record_good (shape_in c) (asked_by c))
    (λ i. by_test (label_good (shape_in c) label)
    (λ g. by_test (ltb (length buffer) (length (line_of c label)))
    (λ t. absurd (let z : 17 ≡ 0 = ap refusal_in (rw (r, i, g, t) at h) in omega (arith, z)))
    (λ t. let z : length (line_of c label) ≡ n = ap length_in (rw (r, i, g, t) at h) in
    let k = ltb-false (length buffer) (length (line_of c label)) t in
    record { range = r; record_good_lem = i; label_good_lem = g; long = sym z; fits = omega (arith, z, k) }))
    (λ g. absurd (let z : 6 ≡ 0 = ap refusal_in (rw (r, i, g) at h) in omega (arith, z))))
    (λ i. absurd (let z : 19 ≡ 0 = ap refusal_in (rw (r, i) at h) in omega (arith, z))))
    (λ r. absurd (let z : 8 ≡ 0 = ap refusal_in (rw r at h) in omega (arith, z)))

-- a line that passes the checks and fits is written
writes : (c : Call) (label buffer l : List ℕ) → numbers_good (shape_in c) (asked_by c) ≡ true → record_good (shape_in c) (asked_by c) ≡ true
    → label_good (shape_in c) label ≡ true → line_of c label ≡ l → length l ≤ length buffer → WritesInto c label buffer l
unfolding writing_of buffer_after line_for
writes c label buffer l r i g e h = let t = le-ltb (length buffer) (length l) h in (rw (r, i, g, e, t), rw (r, i, g, e, t))

pub always_written : AlwaysWritten
always_written c label buffer r k h = writes c label buffer (line_of c label) (range_test (shape_in c) (asked_by c) r)
    (record_test (shape_in c) (asked_by c) r) (label_test (shape_in c) label k) refl h

pub bytes_after_kept : BytesAfterKept
bytes_after_kept c label buffer n h =
    let d = passed c label buffer n h in
    let l = line_of c label in
    let w = writes c label buffer l d.range d.record_good_lem d.label_good_lem refl (omega (arith, d.long, d.fits)) in
    ap (drop n) w.1 ∙ drop_at l (drop (length l) buffer) n (sym d.long) ∙ ap (λ (x : ℕ). drop x buffer) (sym d.long)

pub refusal_fills_nothing : RefusalFillsNothing
unfolding buffer_after
refusal_fills_nothing c label buffer r h = rw h

-- ---- reading what was written

pub reads_back : ReadsBack
reads_back c label buffer n k h =
    let d = passed c label buffer n h in
    let l = line_of c label in
    let r = in_range (shape_in c) (asked_by c) k d.range d.record_good_lem in
    let g = good_label (shape_in c) label d.label_good_lem in
    let e : request_of l ≡ saying c = line_read c label r g in
    let w = writes c label buffer l d.range d.record_good_lem d.label_good_lem refl (omega (arith, d.long, d.fits)) in
    let t : take n (buffer_after c label buffer) ≡ l = ap (take n) w.1 ∙ take_at l (drop (length l) buffer) n (sym d.long) in
    (ap request_of t ∙ e, ap (λ (x : List ℕ). request_call (request_of x)) t ∙ ap request_call e ∙ (call_good c).back, ap label_of t ∙ label_read c label r g)

-- ---- writing what was read

-- the label matters to lines that have one
no_label : (s : Shape) (a : Asked) (x y : List ℕ) → has_label s ≡ false → line_as s a x ≡ line_as s a y
no_label Shape.Entry a x y h = never {t = true} refl h
no_label Shape.File a x y h = refl
no_label Shape.Record a x y h = refl
no_label Shape.Alone a x y h = refl

pub writes_back : WritesBack
unfolding label_of line_for
writes_back l buffer h room =
    let s = read-line l h in
    let c = request_call (request_of l) in
    let e : is_entry (request_of l) ≡ is_entry (saying c) = ap is_entry s.call in
    by_test (is_entry (request_of l))
    (λ t. rw t (writes c (label_part l) buffer l (range_test (shape_in c) (asked_by c) s.range) (record_test (shape_in c) (asked_by c) s.range)
    (label_test (shape_in c) (label_part l) (λ z. s.label t)) (sym s.line) room))
    (λ t. rw t (writes c [] buffer l (range_test (shape_in c) (asked_by c) s.range) (record_test (shape_in c) (asked_by c) s.range)
    (label_test (shape_in c) [] (λ z. never z (sym e ∙ t)))
    (no_label (shape_in c) (asked_by c) [] (label_part l) (sym e ∙ t) ∙ sym s.line) room))

-- ---- both ways in one

taken_of_written : (l : List ℕ) → Written l → is_ok (request_of l) ≡ true
taken_of_written l w =
    let c = w.call in
    let k = w.writes l (omega arith) in
    let b = reads_back c w.label l (length l) w.claims k.0 in
    let t : take (length l) (buffer_after c w.label l) ≡ l = ap (take (length l)) k.1 ∙ take_at l (drop (length l) l) (length l) refl in
    ap (λ (x : List ℕ). is_ok (request_of x)) (sym t) ∙ ap (λ (q : Request). is_ok q) b.0

written_of_taken : (l : List ℕ) → is_ok (request_of l) ≡ true → Written l
written_of_taken l h =
    record {
      call = request_call (request_of l);
      label = label_of l;
      claims = let c = request_call (request_of l) in range_claims (shape_in c) (asked_by c) (read-line l h).range;
      writes = λ buffer room. writes_back l buffer h room;
    }

pub written_is_taken : WrittenIsTaken
written_is_taken l = (taken_of_written l, written_of_taken l)

-- ---- the longest line

longest : (s : Shape) (a : Asked) (label : List ℕ) → label_good s label ≡ true → length (line_as s a label) ≤ longest_line
longest Shape.Entry a label g =
    let n = enter-length a label (label_fact label g).0 in
    let v = files-length a.claims.writable in
    let q = files-length a.claims.readable in
    let j = files-length a.claims.inquirable in
    omega (arith, n, v, q, j)
longest Shape.File a label g = omega (arith, file_length_lem a)
longest Shape.Record a label g = omega (arith, record_length_lem a)
longest Shape.Alone a label g = omega (arith, alone_length_lem a)

pub longest-line : LongestLine
unfolding writing_of line_for
longest-line c label buffer room h =
    by_test (numbers_good (shape_in c) (asked_by c))
    (λ r. by_test (record_good (shape_in c) (asked_by c))
    (λ i. by_test (label_good (shape_in c) label)
    (λ g. by_test (ltb (length buffer) (length (line_of c label)))
    (λ t. let k = ltb-true (length buffer) (length (line_of c label)) t in omega (arith, k, room, longest (shape_in c) (asked_by c) label g))
    (λ t. let z : 0 ≡ 17 = ap refusal_in (rw (r, i, g, t) at h) in omega (arith, z)))
    (λ g. let z : 6 ≡ 17 = ap refusal_in (rw (r, i, g) at h) in omega (arith, z)))
    (λ i. let z : 19 ≡ 17 = ap refusal_in (rw (r, i) at h) in omega (arith, z)))
    (λ r. let z : 8 ≡ 17 = ap refusal_in (rw r at h) in omega (arith, z))
