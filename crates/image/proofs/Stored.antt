-- Laws of images whose board is its sets, lent, and the rest. Assumes nothing.
use Prim.Native.Nat.{ℕ, ◌+◌, ◌-◌, ◌*◌, ◌≤◌, ◌<◌}
use mathlib.Core.Path.{◌≡◌, refl, sym, ◌∙◌}
use mathlib.Core.List.{List}
use mathlib.Core.Bool.{true}
use native.Mathlib.Omega.{arith}
use lib.ListN.{length, get_or, set, drop}
use lib.Seq.{drop-drop, get_or-drop}
use Rattle.columns.specs.Rows.{put_at}
use Rattle.files.specs.declared.FileSet.{FileSet}
use Rattle.files.specs.Words.{word_count, set_of, words_for}
use Rattle.files.proofs.Rows.{length_for}
use Rattle.rules.specs.declared.Standing.{Standing}
use Rattle.rules.specs.declared.Program.{Program}
use Rattle.rules.specs.declared.Mode.TheVariants.{Write}
use Rattle.rules.specs.Modes.{by_mode}
use Rattle.rules.specs.Boards.{no_program}
use Rattle.store.specs.declared.Rest.{Rest}
use Rattle.store.specs.Sets.{Sets, IsStore, claim_place, open_place, set_in, in_place, PutAt, PutsFrom, SetsOf}
use Rattle.store.specs.Store.{seat_of, board_of, RestOf}
use Rattle.store.proofs.Laws.{three-put, rows-put}
use Rattle.store.proofs.Boards.{board_is}
use Rattle.std.proofs.Common.{Some}
use Rattle.image.specs.Sections.{read_many, row_at}
use Rattle.image.specs.Image as image
use Rattle.image.specs.Image.{inquiries_in, set_section, joined, row_of, row_section, inquiry_of, inquiry_section, front_section, image_section, image_length, loaded_of}
use Rattle.image.specs.Image.{standing_of, file_of, item_of, seat_fits, rows_agree, refused_image}
use Rattle.image.specs.Stored.{loaded_in}
use Rattle.image.proofs.Sections.{read_length, read_at, fit-any, zipped-at, zipped-length, agree_many}
use Rattle.image.proofs.Laws.{one_at, item_at, load_good}

-- ---- a set written

-- the set in a place
pub set-placed : (sets : Sets) (at : ℕ) (before : List ℕ) {place k : ℕ} {after : List ℕ} → k ≡ place
    → after ≡ put_at at (set_section.write (set_in sets k)) before → after ≡ put_at at (set_section.write (set_in sets place)) before
set-placed sets at before e f = rw e at f

-- ---- sets read

-- the words of a set are put in a place
pub record Taken (t : FileSet) (place : ℕ) (before after : Sets) : Type 0 where
  pub puts : after ≡ set before place (words_for word_count t)
  pub reads : set_of (words_for word_count t) ≡ t

-- three sets, by mode
pub three-taken : (k : ℕ) (x y z : FileSet) {l l₁ l₂ l₃ : Sets} → k < 128 → IsStore l
    → Taken x k l l₁ → Taken y (32 + k) l₁ l₂ → Taken z (64 + k) l₂ l₃ → PutsFrom k (by_mode x y z) l l₃
three-taken k x y z {l} h o a b c =
    rw (c.puts, b.puts, a.puts)
    (three-put k x y z l (words_for word_count x) (words_for word_count y) (words_for word_count z) h o a.reads b.reads c.reads
    (length_for word_count x) (length_for word_count y) (length_for word_count z))

-- the claims of program p, then what it has open
pub sets-taken : (q : Program) (p k m : ℕ) {l l₁ l₂ : Sets} → 1 ≤ p → p ≤ 32 → k ≡ claim_place Write (p - 1) → m ≡ open_place Write (p - 1)
    → PutsFrom k (by_mode q.writable q.readable q.inquirable) l l₁ → PutsFrom m (by_mode q.writing q.reading q.inquiring) l₁ l₂
    → PutAt q (p - 1) l l₂
sets-taken q p k m {l} {l₁} {l₂} h n e f a b = rows-put q (p - 1) l l₁ l₂ (omega arith) (rw e at a) (rw f at b)

-- ---- a seat read

-- how many bytes stand before the standing's byte in a program's row, and before the record in use in its second row
abbrev kind_at : ℕ
kind_at = 4 * set_section.size

abbrev used_at : ℕ
used_at = 2 * set_section.size

-- the number of two bytes of a row, lowest first
abbrev two_at : List ℕ → ℕ → ℕ
two_at x n = get_or x n 0 + 256 * get_or x (n + 1) 0

module _ (s x : List ℕ) (u a : ℕ) (n : length x ≡ inquiry_section.size) (eu : u ≡ two_at x used_at) (ea : a ≡ two_at x (used_at + 2)) where
  -- the standing's byte, and the awaited-file byte
  abbrev k : ℕ
  k = get_or s kind_at 0

  abbrev f : ℕ
  f = get_or s (kind_at + 1) 0

  used-read : u ≡ (inquiry_section.read x).1.0
  used-read = eu ∙ sym (item_at x used_at (omega arith))

  wanted_read : a ≡ (inquiry_section.read x).1.1
  wanted_read = ea ∙ sym (rw (drop-drop 2 used_at x) (item_at x (used_at + 2) (omega arith)))

  kind_read : (row_section.read s).1.0 ≡ k
  kind_read = get_or-drop kind_at s 0 0

  file_read : (row_section.read s).1.1 ≡ f
  file_read = one_at (drop 1 (drop kind_at s)) ∙ get_or-drop 1 (drop kind_at s) 0 0 ∙ get_or-drop kind_at s 1 0

  -- the test of the two rows
  pub seat_tested : seat_fits k f u a ≡ rows_agree (row_section.read s) (inquiry_section.read x)
  seat_tested = rw (kind_read, file_read, ← used-read, ← wanted_read)

  -- the seat in the two rows
  pub seat_read : (t : Standing) (file item : ℕ) → t ≡ standing_of k f → file ≡ file_of k f a → item ≡ item_of k u a
      → record { standing = t; file = file; item = item } ≡ seat_of (joined (row_section.read s) (inquiry_section.read x))
  seat_read t file item et ef ei = rw (et, ef, ei, kind_read, file_read, ← used-read, ← wanted_read)

-- ---- a row read

-- the program at an index is that of its two rows
pub row_in : (l : List ℕ) (i : ℕ) → i < 32
    → in_place (image_section.read l) i ≡ joined (row_section.read (row_at row_section l i)) (inquiry_section.read (row_at inquiry_section (inquiries_in l) i))
row_in l i h =
    let rs = read_many row_section 32 l in let is = read_many inquiry_section 32 (inquiries_in l) in
    let r = row_of no_program in let k = inquiry_of no_program in
    zipped-at joined rs is i r k no_program
    (omega (arith, read_length row_section 32 l)) (omega (arith, read_length inquiry_section 32 (inquiries_in l)))
    ∙ rw (read_at row_section 32 i l r h, read_at inquiry_section 32 i (inquiries_in l) k h)

-- an image is of its layout if each program's rows are
pub fits_is : (l : List ℕ) → image_section.fits l ≡ agree_many row_section inquiry_section rows_agree 32 l (inquiries_in l)
fits_is l = rw (fit-any row_section 32 l (λ k. refl), fit-any inquiry_section 32 (inquiries_in l) (λ k. refl))

-- 32 programs are read
pub programs_read : (l : List ℕ) → length (image_section.read l).programs ≡ 32
programs_read l =
    let rs = read_many row_section 32 l in let is = read_many inquiry_section 32 (inquiries_in l) in
    let n = read_length row_section 32 l in
    zipped-length joined rs is (n ∙ sym (read_length inquiry_section 32 (inquiries_in l))) ∙ n

-- ---- what reading an image finds

module _ (l : List ℕ) (sets : Sets) where
  -- an image of the layout, with its sets and the rest read
  pub read-good : (r : Rest) → length l ≡ image_length → image_section.fits l ≡ true → SetsOf (image_section.read l) sets
      → RestOf (image_section.read l) r → loaded_in sets (Some r) ≡ loaded_of l
  unfolding image.board_of
  read-good r h f s t = load_good l (board_of sets r) h f (board_is (image_section.read l) sets r s t (programs_read l))
