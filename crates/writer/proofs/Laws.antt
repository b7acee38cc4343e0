-- Laws of rows of bytes and of the files of a set, for the functions of the writer. Assumes nothing.
use Prim.Native.Nat.{ℕ, suc, ◌+◌, ◌-◌, ◌*◌, ◌≤◌, ◌<◌}
use mathlib.Core.Path.{◌≡◌, refl, ap, sym, subst, ◌∙◌}
use mathlib.Core.List.{List, [], ◌∷◌, ◌++◌, append_assoc}
use mathlib.Core.Bool.{Bool, true, false, cond}
use lib.ListN.{length, take, drop, length-append, take-append-drop}
use lib.Seq.{take_at, drop_at, drop-drop, length-take-le}
use native.Mathlib.Omega.{arith}
use native.Mathlib.Nat.{add-zero, add-sub_cancel_left}
use native.Mathlib.Numerals.{add-one}
use borrow.Author.Tests.{le-ltb, lt-ltb}
use borrow.Rule.Slice.PartMut.{put_mid}
use Rattle.laws.specs.Tests.{by_test}
use Rattle.columns.specs.Columns.{word_width, program_width, file_width, record_width, columns_of}
use Rattle.columns.specs.Rows.{flat, put_at}
use Rattle.columns.proofs.Laws.{columns_length}
use Rattle.columns.proofs.Rows.{flat-length}
use Rattle.files.specs.Sets.{is_file}
use Rattle.rules.specs.declared.Verb.{Verb}
use Rattle.rules.specs.declared.Claims.{Claims}
use Rattle.rules.specs.declared.Asked.{Asked}
use Rattle.laws.specs.Lists.{keep, rising}
use Rattle.rules.specs.Boards.{is_program}
use Rattle.rules.specs.Calls.{call_of}
use Rattle.rules.specs.Checks.{is_record}
use Rattle.request.specs.declared.Shape.{Shape}
use Rattle.request.specs.Verbs.{verb_columns, shape_of, alone_length, file_length, record_length, label_width, w_at, r_at, j_at, files_at}
use Rattle.request.specs.Verbs.{entry_length}
use Rattle.request.specs.Requests.{files_of, files_columns, asked_by, line_as, line_for}
use Rattle.request.proofs.Verbs.{SameAs, verb_good, verb_length}
use Rattle.writer.specs.declared.Unwritten.{Unwritten}
use Rattle.std.specs.Prelude.{Ok, Err}
use Rattle.writer.specs.Writer.{Writing, numbers_good, record_good, placing, filled, placed_in, writing_as, writing_of, buffer_after}
use Rattle.writer.specs.Rows.{count_if, columns_if, entry_columns, claims_count, claims_columns, entry_writing, entry_filled}
use Rattle.writer.specs.Rows.{file_writing, file_filled, record_writing, record_filled}

-- ---- rows

-- two rows, one after the other
put_more : (at : ℕ) (a b l : List ℕ) → at + length a ≤ length l → put_at (at + length a) b (put_at at a l) ≡ put_at at (a ++ b) l
unfolding put_at
put_more at a b l room =
    let X : List ℕ = take at l ++ a in
    let D : List ℕ = drop (at + length a) l in
    let lx : length X ≡ at + length a = omega (arith, length-append (take at l) a, length-take-le at l (omega arith)) in
    let eX : take at l ++ (a ++ D) ≡ X ++ D = sym (append_assoc (take at l) a D) in
    let eT : take (at + length a) (X ++ D) ≡ X = take_at X D (at + length a) lx in
    let eD : drop (at + length a) (X ++ D) ≡ D = drop_at X D (at + length a) lx in
    let eN : drop (at + length a + length b) (X ++ D) ≡ drop (at + length a + length b) l =
    sym (drop-drop (length b) (at + length a) (X ++ D)) ∙ rw eD (drop-drop (length b) (at + length a) l) in
    let eS : at + length (a ++ b) ≡ at + length a + length b = omega (arith, length-append a b) in
    rw (eX, eT, eN, eS) (simp append_assoc)

-- the same, as two calls leave it
pub put_then : (at at' : ℕ) (a b l m r : List ℕ) → at + length a ≤ length l → m ≡ put_at at a l → at' ≡ at + length a → r ≡ put_at at' b m
    → r ≡ put_at at (a ++ b) l
put_then at at' a b l m r room em ea er = er ∙ rw (ea, em) (put_more at a b l room)

-- a row put at `&mut l[at..at + length row]`
pub put_all : (at : ℕ) (row l last : List ℕ) → last ≡ row → put_mid at (at + length row - at) l last ≡ put_at at row l
unfolding put_at
put_all at row l last e =
    let w : at + length row - at ≡ length row = add-sub_cancel_left at (length row) in
    rw (w, e, drop-drop (length row) at l)

-- no row
pub put-none : (at : ℕ) (l : List ℕ) → put_at at [] l ≡ l
unfolding put_at
put-none at l = rw (add-zero at) (take-append-drop at l)

-- ---- the files of a set, one by one

-- the files from f on
abbrev pub files_from : (ℕ → Bool) → ℕ → List ℕ
files_from t f = keep t (rising (65 - f) f)

files_more : (t : ℕ → Bool) (f : ℕ) → f ≤ 64 → files_from t f ≡ cond (t f) (f ∷ []) [] ++ files_from t (f + 1)
unfolding keep rising
files_more t f h =
    let e : 65 - f ≡ suc (65 - (f + 1)) = omega arith in
    rw (e, add-one f) (by_test (t f) (λ d. rw d) (λ d. rw d))

pub count_more : (t : ℕ → Bool) (f : ℕ) → f ≤ 64 → length (files_from t f) ≡ count_if (t f) + length (files_from t (f + 1))
count_more t f h = rw (files_more t f h) (by_test (t f) (λ d. rw d (omega arith)) (λ d. rw d (omega arith)))

columns_more : (t : ℕ → Bool) (f : ℕ) → f ≤ 64 → files_columns (files_from t f) ≡ columns_if (t f) f ++ files_columns (files_from t (f + 1))
unfolding flat
columns_more t f h = rw (files_more t f h) (by_test (t f) (λ d. rw d) (λ d. rw d))

pub files_end : (t : ℕ → Bool) (f : ℕ) → f ≡ 65 → files_from t f ≡ []
unfolding keep rising
files_end t f e = rw e

pub one_at_most : (t : Bool) → count_if t ≤ 1
one_at_most t = by_test t (λ d. rw d (omega arith)) (λ d. rw d (omega arith))

pub columns_if_lem : (t : Bool) (f : ℕ) → length (columns_if t f) ≡ file_width * count_if t
columns_if_lem t f = by_test t (λ d. rw d (columns_length file_width f)) (λ d. rw d)

pub columns_in : (t : Bool) (f : ℕ) → t ≡ true → (length (columns_if t f) ≡ file_width) × (columns_of file_width f ≡ columns_if t f)
columns_in t f e = (rw e (columns_length file_width f), rw e)

pub columns_out : (t : Bool) (f : ℕ) → t ≡ false → (length (columns_if t f) ≡ 0) × (columns_if t f ≡ [])
columns_out t f e = (rw e, rw e)

-- a turn of the loop that writes the files
pub put_step : (t : ℕ → Bool) (f at at' : ℕ) (l l' : List ℕ) → f ≤ 64 → at + length (columns_if (t f) f) ≤ length l
    → at' ≡ at + length (columns_if (t f) f) → l' ≡ put_at at (columns_if (t f) f) l
    → put_at at (files_columns (files_from t f)) l ≡ put_at at' (files_columns (files_from t (f + 1))) l'
put_step t f at at' l l' h room ea el =
    rw (columns_more t f h, ea, el) (sym (put_more at (columns_if (t f) f) (files_columns (files_from t (f + 1))) l room))

-- all files are written
pub ends : (t : ℕ → Bool) (f at : ℕ) (l : List ℕ) → f ≡ 65 → put_at at (files_columns (files_from t f)) l ≡ l
unfolding flat
ends t f at l e = rw (files_end t f e) (put-none at l)

-- ---- lengths of lines

head_length : (v : Verb) (p : ℕ) → length (verb_columns v ++ columns_of program_width p) ≡ alone_length
head_length v p = omega (arith, length-append (verb_columns v) (columns_of program_width p), verb_length v, columns_length program_width p)

pub alone_length_lem : (a : Asked) → length (line_as Shape.Alone a []) ≡ alone_length
alone_length_lem a = head_length a.verb a.program

pub file_length_lem : (a : Asked) → length (line_as Shape.File a []) ≡ file_length
file_length_lem a =
    let p = columns_of program_width a.program in
    let f = columns_of file_width a.file in
    omega (
      arith,
      length-append (verb_columns a.verb) (p ++ f),
      length-append p f,
      verb_length a.verb,
      columns_length program_width a.program,
      columns_length file_width a.file,
    )

pub record_length_lem : (a : Asked) → length (line_as Shape.Record a []) ≡ record_length
record_length_lem a =
    let p = columns_of program_width a.program in
    let f = columns_of file_width a.file in
    let n = columns_of record_width a.item in
    omega (
      arith,
      length-append (verb_columns a.verb) (p ++ (f ++ n)),
      length-append p (f ++ n),
      length-append f n,
      verb_length a.verb,
      columns_length program_width a.program,
      columns_length file_width a.file,
      columns_length record_width a.item,
    )

entry_length_lem : (v : Verb) (p w r j : ℕ) (label : List ℕ) → length label ≡ label_width → length (entry_columns v p label w r j) ≡ files_at
unfolding entry_columns
entry_length_lem v p w r j label h =
    let x = columns_of program_width p in
    let y = columns_of file_width w in
    let z = columns_of file_width r in
    let i = columns_of file_width j in
    omega (
      arith,
      h,
      length-append (verb_columns v) (x ++ (label ++ (y ++ (z ++ i)))),
      length-append x (label ++ (y ++ (z ++ i))),
      length-append label (y ++ (z ++ i)),
      length-append y (z ++ i),
      length-append z i,
      verb_length v,
      columns_length program_width p,
      columns_length file_width w,
      columns_length file_width r,
      columns_length file_width j,
    )

-- the columns of an ENTER line before its files
abbrev pub head_of : Asked → List ℕ → List ℕ
head_of a label = entry_columns a.verb a.program label (length (files_of a.claims.writable)) (length (files_of a.claims.readable))
    (length (files_of a.claims.inquirable))

entry-line : (a : Asked) (label : List ℕ) → line_as Shape.Entry a label ≡ head_of a label ++ claims_columns a.claims
unfolding entry_columns
entry-line a label = simp append_assoc

files_columns_lem : (fs : List ℕ) → length (files_columns fs) ≡ file_width * length fs
files_columns_lem fs = flat-length (columns_of file_width) file_width (columns_length file_width) fs

claims-length : (c : Claims) → length (claims_columns c) ≡ file_width * claims_count c
claims-length c =
    let x = files_columns (files_of c.writable) in
    let y = files_columns (files_of c.readable) in
    let z = files_columns (files_of c.inquirable) in
    omega (
      arith,
      length-append x (y ++ z),
      length-append y z,
      files_columns_lem (files_of c.writable),
      files_columns_lem (files_of c.readable),
      files_columns_lem (files_of c.inquirable),
    )

head_of_length : (a : Asked) (label : List ℕ) → length label ≡ label_width → length (head_of a label) ≡ files_at
head_of_length a label h = entry_length_lem a.verb a.program (length (files_of a.claims.writable)) (length (files_of a.claims.readable))
    (length (files_of a.claims.inquirable)) label h

pub enter-length : (a : Asked) (label : List ℕ) → length label ≡ label_width → length (line_as Shape.Entry a label) ≡ entry_length (claims_count a.claims)
enter-length a label h =
    let e = head_of a label in
    ap length (entry-line a label)
    ∙ omega (arith, length-append e (claims_columns a.claims), head_of_length a label h, claims-length a.claims)

-- ---- the rows of a line, as the calls leave them

pub head_put : (v : Verb) (p at : ℕ) (row L m r : List ℕ) → alone_length ≤ length L → row ≡ verb_columns v → at ≡ 0 + length row → m ≡ put_at 0 row L
    → r ≡ put_at at (columns_of program_width p) m
    → (at + program_width ≡ alone_length) × (r ≡ put_at 0 (verb_columns v ++ columns_of program_width p) L)
head_put v p at row L m r room e ea em er =
    let n : length row ≡ word_width = ap length e ∙ verb_length v in
    (omega arith, put_then 0 at row (columns_of program_width p) L m r (omega arith) em ea er ∙ rw e)

pub file_put : (a : Asked) (at : ℕ) (L m r : List ℕ) → file_length ≤ length L → at ≡ alone_length
    → m ≡ put_at 0 (verb_columns a.verb ++ columns_of program_width a.program) L
    → r ≡ put_at at (columns_of file_width a.file) m → r ≡ put_at 0 (line_as Shape.File a []) L
file_put a at L m r room ea em er =
    let v = verb_columns a.verb in
    let p = columns_of program_width a.program in
    let f = columns_of file_width a.file in
    let n = head_length a.verb a.program in
    put_then 0 at (v ++ p) f L m r (omega arith) em (omega arith) er ∙ rw (append_assoc v p f)

-- FETCH: the record after the columns of verb, program and file
pub record_put : (a : Asked) (at : ℕ) (L m r : List ℕ) → record_length ≤ length L → at ≡ file_length
    → m ≡ put_at 0 (line_as Shape.File a []) L
    → r ≡ put_at at (columns_of record_width a.item) m → r ≡ put_at 0 (line_as Shape.Record a []) L
record_put a at L m r room ea em er =
    let n = file_length_lem a in
    put_then 0 at (line_as Shape.File a []) (columns_of record_width a.item) L m r (omega arith) em (omega arith) er ∙ simp append_assoc

module _ (v : Verb) (p w r j : ℕ) (label L m₁ m₂ m₃ m₄ m₅ : List ℕ) (a₁ a₂ a₃ a₄ : ℕ) (room : files_at ≤ length L)
    (size : length label ≡ label_width) where
  pub entry-put : a₁ ≡ alone_length → m₁ ≡ put_at 0 (verb_columns v ++ columns_of program_width p) L
      → a₂ ≡ a₁ + length label → m₂ ≡ put_at a₁ label m₁
      → a₃ ≡ a₂ + file_width → m₃ ≡ put_at a₂ (columns_of file_width w) m₂
      → a₄ ≡ a₃ + file_width → m₄ ≡ put_at a₃ (columns_of file_width r) m₃
      → m₅ ≡ put_at a₄ (columns_of file_width j) m₄
      → m₅ ≡ put_at 0 (entry_columns v p label w r j) L
  unfolding entry_columns
  entry-put e₁ p₁ e₂ p₂ e₃ p₃ e₄ p₄ p₅ =
      let h : List ℕ = verb_columns v ++ columns_of program_width p in
      let x : List ℕ = columns_of file_width w in
      let y : List ℕ = columns_of file_width r in
      let n₁ : length h ≡ alone_length = head_length v p in
      let n₂ : length (h ++ label) ≡ w_at = omega (arith, length-append h label, n₁, size) in
      let n₃ : length (h ++ label ++ x) ≡ r_at = omega (arith, length-append (h ++ label) x, n₂, columns_length file_width w) in
      let n₄ : length (h ++ label ++ x ++ y) ≡ j_at = omega (arith, length-append (h ++ label ++ x) y, n₃, columns_length file_width r) in
      let q₂ : m₂ ≡ put_at 0 (h ++ label) L = put_then 0 a₁ h label L m₁ m₂ (omega (arith, n₁, room)) p₁ (omega (arith, n₁, e₁)) p₂ in
      let q₃ : m₃ ≡ put_at 0 (h ++ label ++ x) L =
      put_then 0 a₂ (h ++ label) x L m₂ m₃ (omega (arith, n₂, room)) q₂ (omega (arith, n₂, e₂, e₁, size)) p₃ in
      let q₄ : m₄ ≡ put_at 0 (h ++ label ++ x ++ y) L =
      put_then 0 a₃ (h ++ label ++ x) y L m₃ m₄ (omega (arith, n₃, room)) q₃ (omega (arith, n₃, e₃, e₂, e₁, size)) p₄ in
      put_then 0 a₄ (h ++ label ++ x ++ y) (columns_of file_width j) L m₄ m₅ (omega (arith, n₄, room)) q₄
      (omega (arith, n₄, e₄, e₃, e₂, e₁, size)) p₅
      ∙ simp append_assoc

-- the files of V, of Q and of J
pub claims-put : (c : Claims) (at a₁ a₂ : ℕ) (L m₁ m₂ m₃ : List ℕ) → at + file_width * claims_count c ≤ length L
    → a₁ ≡ at + file_width * length (files_of c.writable) → m₁ ≡ put_at at (files_columns (files_of c.writable)) L
    → a₂ ≡ a₁ + file_width * length (files_of c.readable) → m₂ ≡ put_at a₁ (files_columns (files_of c.readable)) m₁
    → m₃ ≡ put_at a₂ (files_columns (files_of c.inquirable)) m₂ → m₃ ≡ put_at at (claims_columns c) L
claims-put c at a₁ a₂ L m₁ m₂ m₃ room e₁ p₁ e₂ p₂ p₃ =
    let v = c.writable in
    let q = c.readable in
    let j = c.inquirable in
    let x : List ℕ = files_columns (files_of v) in
    let y : List ℕ = files_columns (files_of q) in
    let z : List ℕ = files_columns (files_of j) in
    let n₁ = files_columns_lem (files_of v) in
    let n₂ : length (x ++ y) ≡ file_width * length (files_of v) + file_width * length (files_of q) =
    omega (arith, length-append x y, n₁, files_columns_lem (files_of q)) in
    let q₂ : m₂ ≡ put_at at (x ++ y) L = put_then at a₁ x y L m₁ m₂ (omega (arith, n₁, room)) p₁ (omega (arith, n₁, e₁)) p₂ in
    put_then at a₂ (x ++ y) z L m₂ m₃ (omega (arith, n₂, room)) q₂ (omega (arith, n₂, e₂, e₁)) p₃ ∙ rw (append_assoc x y z)

-- the columns before the files, with the counts of the claims
pub head_counts : (a : Asked) (w r j : ℕ) (label L m : List ℕ) → w ≡ length (files_of a.claims.writable) → r ≡ length (files_of a.claims.readable)
    → j ≡ length (files_of a.claims.inquirable) → m ≡ put_at 0 (entry_columns a.verb a.program label w r j) L → m ≡ put_at 0 (head_of a label) L
head_counts a w r j label L m ew er ej e = e ∙ rw (ew, er, ej)

-- an ENTER line: its columns and its files
pub enter-put : (a : Asked) (at : ℕ) (label L m r : List ℕ) → length label ≡ label_width → entry_length (claims_count a.claims) ≤ length L
    → at ≡ files_at → m ≡ put_at 0 (head_of a label) L → r ≡ put_at at (claims_columns a.claims) m → r ≡ put_at 0 (line_as Shape.Entry a label) L
enter-put a at label L m r size room e em er =
    let n = head_of_length a label size in
    put_then 0 at (head_of a label) (claims_columns a.claims) L m r (omega (arith, n, room)) em (omega (arith, n, e)) er
    ∙ ap (λ (x : List ℕ). put_at 0 x L) (sym (entry-line a label))

-- ---- a line in the buffer

-- the buffer is too short
pub placed_short : (line buffer : List ℕ) (n : ℕ) → length line ≡ n → length buffer < n
    → (Err Unwritten.BufferShort ≡ placing line buffer) × (buffer ≡ placed_in line buffer)
placed_short line buffer n e h = let t = lt-ltb (length buffer) (length line) (omega arith) in (rw t, rw t)

-- the line was put at the front
pub placed_all : (line buffer after : List ℕ) (n end : ℕ) → length line ≡ n → n ≤ length buffer → end ≡ n → after ≡ put_at 0 line buffer
    → (Ok end ≡ placing line buffer) × (after ≡ placed_in line buffer)
unfolding put_at
placed_all line buffer after n end e h ee ea =
    let t = le-ltb (length buffer) (length line) (omega arith) in
    let z : 0 + length line ≡ length line = omega arith in
    let d : end ≡ length line = omega arith in
    (rw (t, d), rw t (ea ∙ rw z))

-- ---- the shapes

module _ (a : Asked) (buffer : List ℕ) where
  pub file-placed : (w : Writing) (after : List ℕ) → is_file a.file ≡ true
      → (w ≡ placing (line_as Shape.File a []) buffer) × (after ≡ placed_in (line_as Shape.File a []) buffer)
      → (w ≡ file_writing a buffer) × (after ≡ file_filled a buffer)
  file-placed w after e k = (rw e k.0, rw e k.1)

module _ (a : Asked) (buffer : List ℕ) where
  pub record_placed : (w : Writing) (after : List ℕ) → is_file a.file ≡ true → is_record a.item ≡ true
      → (w ≡ placing (line_as Shape.Record a []) buffer) × (after ≡ placed_in (line_as Shape.Record a []) buffer)
      → (w ≡ record_writing a buffer) × (after ≡ record_filled a buffer)
  record_placed w after e n k = (rw (e, n) k.0, rw (e, n) k.1)

-- ---- what a line does not say is not looked at

line_same : (s : Shape) (x y : Asked) (label : List ℕ) → SameAs s x y → line_as s x label ≡ line_as s y label
line_same Shape.Entry x y label h = rw (h.0, h.1, h.2)
line_same Shape.File x y label h = rw (h.0, h.1, h.2)
line_same Shape.Record x y label h = rw (h.0, h.1, h.2, h.3)
line_same Shape.Alone x y label h = rw (h.0, h.1)

numbers_same : (s : Shape) (x y : Asked) → SameAs s x y → numbers_good s x ≡ numbers_good s y
numbers_same Shape.Entry x y h = simp (h.1, h.2)
numbers_same Shape.File x y h = rw (h.1, h.2)
numbers_same Shape.Record x y h = rw (h.1, h.2)
numbers_same Shape.Alone x y h = rw h.1

record_same : (s : Shape) (x y : Asked) → SameAs s x y → record_good s x ≡ record_good s y
record_same Shape.Entry x y h = refl
record_same Shape.File x y h = refl
record_same Shape.Record x y h = rw h.3
record_same Shape.Alone x y h = refl

-- ---- the call

module _ (a : Asked) (label buffer : List ℕ) where
  -- what was written, as the contract says it, and by the shape of the verb
  abbrev pub Wrote : Writing → List ℕ → Type 0
  Wrote w after = (w ≡ writing_of (call_of a) label buffer) × (after ≡ buffer_after (call_of a) label buffer)

  abbrev pub WroteAs : Shape → Writing → List ℕ → Type 0
  WroteAs s w after = (w ≡ writing_as s a label buffer) × (after ≡ filled (writing_as s a label buffer) (line_as s a label) buffer)

  -- the call that is asked for has the line of what is asked for
  pub by_shape : (w : Writing) (after : List ℕ) → WroteAs (shape_of a.verb) w after → Wrote w after
  unfolding writing_of buffer_after line_for
  by_shape w after h =
      let g = verb_good a.verb in
      let b = asked_by (call_of a) in
      let s : shape_of b.verb ≡ shape_of a.verb = ap shape_of (g.verb a.program a.file a.item a.claims) in
      let k : SameAs (shape_of a.verb) b a = g.same a.program a.file a.item a.claims in
      let l = line_same (shape_of a.verb) b a label k in
      let n = numbers_same (shape_of a.verb) b a k in
      let i = record_same (shape_of a.verb) b a k in
      (rw (s, l, n, i) h.0, rw (s, l, n, i) h.1)

  -- the same, where the shape of the verb is known
  pub shaped : (w : Writing) (after : List ℕ) (s t : Shape) → t ≡ s → t ≡ shape_of a.verb → WroteAs s w after → Wrote w after
  shaped w after s t e d h = by_shape w after (subst (λ (x : Shape). WroteAs x w after) (sym e ∙ d) h)

  -- where the program's number is known
  pub out_of_range : (s : Shape) → is_program a.program ≡ false → WroteAs s (Err Unwritten.OutOfRange) buffer
  out_of_range Shape.Entry h = (rw h, rw h)
  out_of_range Shape.File h = (rw h, rw h)
  out_of_range Shape.Record h = (rw h, rw h)
  out_of_range Shape.Alone h = (rw h, rw h)

  module _ (w : Writing) (after : List ℕ) (range : is_program a.program ≡ true) where
    pub as_entry : w ≡ entry_writing a label buffer → after ≡ entry_filled a label buffer → WroteAs Shape.Entry w after
    as_entry ew ea = (rw range ew, rw range ea)

    pub as_file : w ≡ file_writing a buffer → after ≡ file_filled a buffer → WroteAs Shape.File w after
    as_file ew ea = (rw range ew, rw range ea)

    pub as_record : w ≡ record_writing a buffer → after ≡ record_filled a buffer → WroteAs Shape.Record w after
    as_record ew ea = (rw range ew, rw range ea)

    pub as_alone : w ≡ placing (line_as Shape.Alone a []) buffer → after ≡ placed_in (line_as Shape.Alone a []) buffer → WroteAs Shape.Alone w after
    as_alone ew ea = (rw range ew, rw range ea)
