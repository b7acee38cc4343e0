-- Reading what was written gives the board back, and an accepted image is the one that writing gives. Assumes nothing.
use Prim.Native.Nat.{ℕ, zero, suc, ◌-◌, ◌*◌, ◌<◌}
use mathlib.Core.Path.{◌≡◌, refl, ap, sym, ◌∙◌}
use mathlib.Core.Logic.{◌≢◌, ⊎_elim}
use mathlib.Core.List.{List, [], ◌∷◌, ◌++◌, map}
use mathlib.Core.Bool.{true, false, cond, ◌&&◌}
use lib.Dec.{eqb, leb}
use lib.ListN.{length, get_or, drop, length-map}
use native.Mathlib.Omega.{arith}
use borrow.Author.Tests.{lt-leb, leb-true, eqb-true, eqb-false, eq-eqb, ne_eqb}
use Rattle.laws.specs.Tests.{by_test, never, and_left, and_right}
use Rattle.files.specs.declared.FileSet.{FileSet}
use Rattle.files.specs.Sets.{is_file, member}
use Rattle.files.proofs.Laws.{member_file}
use Rattle.rules.specs.Boards.{no_program, is_waiting, awaited_of}
use Rattle.rules.specs.Soundness.{sound}
use Rattle.rules.specs.declared.Standing.{Standing}
use Rattle.rules.specs.declared.Program.{Program}
use Rattle.rules.specs.declared.Board.{Board}
use Rattle.theory.specs.Programs.{Is}
use Rattle.theory.specs.Records.{ItemOwn}
use Rattle.theory.specs.Loose.{Awaits}
use Rattle.theory.specs.Calls.{claims_file}
use Rattle.theory.specs.Sound.{sound_iff}
use Rattle.std.proofs.Common.{None, Some}
use Rattle.columns.proofs.Rows.{flat-length}
use Rattle.image.specs.Sections.{Section, Each, many, number, bytes_n}
use Rattle.image.specs.Image.{to_set, from_set, set_with, set_section, kind_of, file_byte, used_by, wanted_by, standing_of, file_of, item_of}
use Rattle.image.specs.Image.{both_or_none, seat_fits, seat_good, GoodProgram, Row, InquiryRow, joined, row_of, inquiry_of, rows_agree}
use Rattle.image.specs.Image.{BoardParts, row_with, inquiry_with, parts_with, image_with, to_board, from_board, parts_agree, GoodSeats}
use Rattle.image.specs.Image.{row_section, rows_section, inquiry_section, parts_section, image_section, image_length, image_of, board_of, loaded_of}
use Rattle.image.specs.Law.{Bytes, Lawful, BoardOfCode}
use Rattle.image.proofs.Sections.{byte_lawful, run_lawful, number-length, number_lawful, ◌▸ₗ◌, seen_lawful, refined_lawful, many_lawful}
use Rattle.image.proofs.Sections.{zipped-back, zipped-fit, zipped-again, each_at, flat_map, whole_fits, whole_back, whole_again, Put}
use Rattle.image.proofs.Laws.{load_good}

-- ---- a set

pub set-length : (s : FileSet) → length (set_section.write s) ≡ set_section.size
set-length s = number-length set_section.size s.bits

-- in any number of bytes
pub set_lawful : (n : ℕ) → Lawful (set_with n)
set_lawful n = seen_lawful to_set from_set (λ s. refl) (λ x. refl) (number_lawful n)

-- ---- a seat

-- the four numbers of a good seat are those of a seat
seat_fits_lem : (s : Standing) (file item : ℕ) → seat_good s file item ≡ true
    → seat_fits (kind_of s) (file_byte s file) (used_by s item) (wanted_by s item) ≡ true
unfolding seat_fits seat_good
seat_fits_lem Standing.Absent file item h = refl
seat_fits_lem Standing.Running file item h = rw h
seat_fits_lem (Standing.Waiting f) file item h = refl
seat_fits_lem Standing.Held file item h = refl

standing_back : (s : Standing) (file : ℕ) → standing_of (kind_of s) (file_byte s file) ≡ s
unfolding standing_of
standing_back Standing.Absent file = refl
standing_back Standing.Running file = refl
standing_back (Standing.Waiting f) file = refl
standing_back Standing.Held file = refl

file_back : (s : Standing) (file item : ℕ) → seat_good s file item ≡ true → file_of (kind_of s) (file_byte s file) (wanted_by s item) ≡ file
unfolding file_of seat_good
file_back Standing.Absent file item h = sym (eqb-true file 0 (and_left (eqb file 0) (eqb item 0) h))
file_back Standing.Running file item h = refl
file_back (Standing.Waiting f) file item h = sym (eqb-true file (cond (eqb item 0) 0 f) h)
file_back Standing.Held file item h = sym (eqb-true file 0 (and_left (eqb file 0) (eqb item 0) h))

item_back : (s : Standing) (file item : ℕ) → seat_good s file item ≡ true → item_of (kind_of s) (used_by s item) (wanted_by s item) ≡ item
unfolding item_of seat_good
item_back Standing.Absent file item h = sym (eqb-true item 0 (and_right (eqb file 0) (eqb item 0) h))
item_back Standing.Running file item h = refl
item_back (Standing.Waiting f) file item h = refl
item_back Standing.Held file item h = sym (eqb-true item 0 (and_right (eqb file 0) (eqb item 0) h))

-- the four numbers that are written of the seat that is read from four numbers
record Again (k f u a : ℕ) : Type 0 where
  kind_again : kind_of (standing_of k f) ≡ k
  file_again : file_byte (standing_of k f) (file_of k f a) ≡ f
  used_again : used_by (standing_of k f) (item_of k u a) ≡ u
  wanted_again : wanted_by (standing_of k f) (item_of k u a) ≡ a

-- all three are 0
none_again : (f u a : ℕ) → eqb u 0 && (eqb f 0 && eqb a 0) ≡ true → (0 ≡ f) × (0 ≡ u) × (0 ≡ a)
none_again f u a h =
    let g = and_right (eqb u 0) (eqb f 0 && eqb a 0) h in (
      sym (eqb-true f 0 (and_left (eqb f 0) (eqb a 0) g)),
      sym (eqb-true u 0 (and_left (eqb u 0) (eqb f 0 && eqb a 0) h)),
      sym (eqb-true a 0 (and_right (eqb f 0) (eqb a 0) g)),
    )

seat_again : (k f u a : ℕ) → seat_fits k f u a ≡ true → Again k f u a
unfolding seat_fits standing_of file_of item_of
seat_again zero f u a h =
    let e = none_again f u a h in
    record { kind_again = refl; file_again = e.0; used_again = e.1; wanted_again = e.2 }
seat_again (suc zero) f u a h =
    record { kind_again = refl; file_again = refl; used_again = refl; wanted_again = sym (eqb-true a 0 (and_right (both_or_none f u) (eqb a 0) h)) }
seat_again (suc (suc zero)) f u a h = record { kind_again = refl; file_again = refl; used_again = sym (eqb-true u 0 (and_left (eqb u 0) true h)); wanted_again = refl }
seat_again (suc (suc (suc zero))) f u a h =
    let e = none_again f u a h in
    record { kind_again = refl; file_again = e.0; used_again = e.1; wanted_again = e.2 }
seat_again (suc (suc (suc (suc k)))) f u a h = never (rw (lt-leb (suc (suc (suc (suc k)))) 3 (omega arith)) at h) refl

-- ---- a program

joined_back : (q : Program) → GoodProgram q → joined (row_of q) (inquiry_of q) ≡ q
joined_back q h = rw (
  standing_back q.standing q.file,
  file_back q.standing q.file q.item h,
  item_back q.standing q.file q.item h,
)

joined_fit : (q : Program) → GoodProgram q → rows_agree (row_of q) (inquiry_of q) ≡ true
joined_fit q h = seat_fits_lem q.standing q.file q.item h

joined_again : (r : Row) (i : InquiryRow) → rows_agree r i ≡ true → (row_of (joined r i) ≡ r) × (inquiry_of (joined r i) ≡ i)
joined_again ((((v, q), w), r), (k, f)) ((j, i), (u, a)) h =
    let e = seat_again k f u a h in
    (rw (e.kind_again, e.file_again), rw (e.used_again, e.wanted_again))

-- ---- the image

pub row-length : (q : Program) → length (row_section.write (row_of q)) ≡ row_section.size
unfolding bytes_n
row-length q = refl

pub inquiry_length : (q : Program) → length (inquiry_section.write (inquiry_of q)) ≡ inquiry_section.size
unfolding bytes_n
inquiry_length q = refl

-- what is written of a program, in each row
abbrev pub row_bytes : Program → List ℕ
row_bytes q = row_section.write (row_of q)

abbrev pub inquiry_bytes : Program → List ℕ
inquiry_bytes q = inquiry_section.write (inquiry_of q)

-- the rows of n programs have the length of n rows
pub rows-length : {A : Type 0} (s : Section A) (part : Program → A) (n : ℕ) (ps : List Program) → ((q : Program) → length (s.write (part q)) ≡ s.size)
    → length ps ≡ n → length ((many n s).write (map part ps)) ≡ (many n s).size
rows-length s part n ps h e =
    ap length (flat_map s.write part ps) ∙ flat-length (λ q. s.write (part q)) s.size h ps ∙ ap (λ (k : ℕ). s.size * k) e

-- the rows of 32 programs at the front of a buffer
pub rows-put : (ps : List Program) (before : List ℕ) {after : List ℕ} → length ps ≡ 32
    → after ≡ rows_section.write (map row_of ps) ++ drop rows_section.size before → Put rows_section (map row_of ps) before after
rows-put ps before n e = record { long = rows-length row_section row_of 32 ps row-length n; front = e }

board_back : (b : Board) → GoodSeats b → to_board (from_board b) ≡ b
board_back b h = rw (zipped-back joined row_of inquiry_of rows_agree GoodProgram joined_back joined_fit joined_again b.programs h)

board_fit : (b : Board) → GoodSeats b → parts_agree (from_board b) ≡ true
board_fit b h = zipped-fit joined row_of inquiry_of rows_agree GoodProgram joined_back joined_fit joined_again b.programs h

board_again : (x : BoardParts) → parts_agree x ≡ true → from_board (to_board x) ≡ x
board_again (((((rs, w), e), ns), c), is) h =
    let d = zipped-again joined row_of inquiry_of rows_agree GoodProgram joined_back joined_fit joined_again rs is h in
    rw (d.0, d.1)

-- by the sections of a set and of the awaited file
module _ {set : Section FileSet} {file : Section ℕ} (p : Lawful set) (q : Lawful file) where
  parts_lawful : Lawful (parts_with set file)
  parts_lawful =
      many_lawful (row_with set file) (p ▸ₗ p ▸ₗ p ▸ₗ p ▸ₗ (byte_lawful ▸ₗ q)) 32 ▸ₗ run_lawful 32 ▸ₗ run_lawful 32
      ▸ₗ (byte_lawful ▸ₗ byte_lawful ▸ₗ byte_lawful) ▸ₗ run_lawful 32
      ▸ₗ many_lawful (inquiry_with set) (p ▸ₗ p ▸ₗ (number_lawful 2 ▸ₗ number_lawful 2)) 32

  pub with_lawful : Lawful (image_with set file)
  with_lawful = refined_lawful to_board from_board parts_agree GoodSeats board_back board_fit board_again parts_lawful

image_lawful : Lawful image_section
image_lawful = with_lawful (set_lawful 8) (number_lawful 1)

-- ---- the seats of a sound board are good

zero_good : (s : Standing) → seat_good s 0 0 ≡ true
unfolding seat_good both_or_none
zero_good Standing.Absent = refl
zero_good Standing.Running = refl
zero_good (Standing.Waiting f) = refl
zero_good Standing.Held = refl

runs_good : (f r : ℕ) → f ≢ 0 → r ≢ 0 → seat_good Standing.Running f r ≡ true
unfolding seat_good both_or_none
runs_good f r n m = rw (ne_eqb f 0 n, ne_eqb r 0 m)

waits_good : (f r : ℕ) → r ≢ 0 → seat_good (Standing.Waiting f) f r ≡ true
unfolding seat_good
waits_good f r m = rw (ne_eqb r 0 m) (eq-eqb f f refl)

file_some : (s : FileSet) (f : ℕ) → member s f ≡ true → f ≢ 0
file_some s f e z = never {t = false} (sym (ap is_file z) ∙ member_file s f e) refl

own_good : (q : Program) → ItemOwn q → GoodProgram q
own_good q o = by_test (eqb q.item 0)
    (λ t. let z = eqb-true q.item 0 t in rw (z, o.no_item z) (zero_good q.standing))
    (λ t. let n = eqb-false q.item 0 t in
    ⊎_elim (λ e. rw e (runs_good q.file q.item (file_some q.inquiring q.file (o.in_i n)) n))
    (λ e. rw e (waits_good q.file q.item n)) (o.stands-so n))

pub sound_good : (b : Board) → BoardOfCode b → sound b ≡ true → GoodSeats b
sound_good b h s =
    let n : length b.programs ≡ 32 = sym (length-map b.programs row_of) ∙ h.0.0.0.0.0.0 in
    each_at GoodProgram b.programs no_program
    (λ i m. let z : suc i - 1 ≡ i = omega arith in
    own_good (get_or b.programs i no_program) (rw z at (((sound_iff b).0 s).item-own (suc i) (record { least = omega arith; most = omega (arith, n) }))))

-- ---- the awaited files of a sound board fit into their byte

abbrev SmallFile : Program → Type 0
SmallFile q = file_byte q.standing q.file < 256

is_small : (f : ℕ) → is_file f ≡ true → f < 256
is_small f e = let n = leb-true f 64 (and_right (leb 1 f) (leb f 64) e) in omega arith

file_small : (s : FileSet) (f : ℕ) → member s f ≡ true → f < 256
file_small s f e = is_small f (member_file s f e)

-- of a program whose awaited file is a file
own_small : (q : Program) → ItemOwn q → ((f : ℕ) → Awaits q f → f < 256) → (s : Standing) → q.standing ≡ s → file_byte s q.file < 256
own_small q o w Standing.Absent e = omega arith
own_small q o w Standing.Running e = by_test (eqb q.item 0)
    (λ t. let z = o.no_item (eqb-true q.item 0 t) in omega arith)
    (λ t. file_small q.inquiring q.file (o.in_i (eqb-false q.item 0 t)))
own_small q o w (Standing.Waiting f) e = by_test (eqb q.item 0)
    (λ t. w f (e, eqb-true q.item 0 t))
    (λ t. let n = eqb-false q.item 0 t in
    let i = file_small q.inquiring q.file (o.in_i n) in
    ⊎_elim (λ r. never {t = false} (sym (ap is_waiting r) ∙ ap is_waiting e) refl)
    (λ r. let d = ap awaited_of (sym e ∙ r) in omega (arith, d, i)) (o.stands-so n))
own_small q o w Standing.Held e = omega arith

sound_small : (b : Board) → BoardOfCode b → sound b ≡ true → Each SmallFile b.programs
sound_small b h s =
    let n : length b.programs ≡ 32 = sym (length-map b.programs row_of) ∙ h.0.0.0.0.0.0 in
    let k = (sound_iff b).0 s in
    each_at SmallFile b.programs no_program
    (λ i m. let z : suc i - 1 ≡ i = omega arith in
    let p : Is (suc i) = record { least = omega arith; most = omega (arith, n) } in
    let q = get_or b.programs i no_program in
    own_small q (rw z at (k.item-own (suc i) p)) (λ f a. is_small f (claims_file q f (rw z at (k.waiter-asked (suc i) p) f a).claimed)) q.standing refl)

-- the rows of a board whose awaited files fit into a byte
rows_small : (ps : List Program) → Each (row_with set_section (number 2)).holds (map row_of ps) → Each SmallFile ps
    → Each row_section.holds (map row_of ps)
unfolding Each
rows_small [] h k = h
rows_small (q ∷ ps) h k = ((h.0.0, (h.0.1.0, k.0)), rows_small ps h.1 k.1)

sound-holds : (b : Board) → BoardOfCode b → sound b ≡ true → parts_section.holds (from_board b)
sound-holds b (((((r, w), e), ns), c), is) s =
    let k = sound_small b (((((r, w), e), ns), c), is) s in
    ((((((r.0, rows_small b.programs r.1 k), w), e), ns), c), is)

-- ---- by what reading finds

-- reading what was written gives a sound board back
pub loaded_back : (b : Board) → BoardOfCode b → sound b ≡ true → loaded_of (image_of b) ≡ Some b
unfolding image_of board_of
loaded_back b c s =
    let h : image_section.holds b = (sound-holds b c s, sound_good b c s) in
    sym (load_good (image_of b) b (image_lawful.long b h) (whole_fits image_lawful b h) (sym (whole_back image_lawful b h)))

-- an accepted image has its length, is of the layout, and gives its board
pub record Accepted (l : List ℕ) (b : Board) : Type 0 where
  pub long : length l ≡ image_length
  pub fits : image_section.fits l ≡ true
  pub board : b ≡ board_of l

pub accepted : (l : List ℕ) (b : Board) → loaded_of l ≡ Some b → Accepted l b
unfolding loaded_of
accepted l b h =
    by_test (eqb (length l) image_length)
    (λ e. by_test (image_section.fits l)
    (λ d. let s : Some (board_of l) ≡ Some b = rw (e, d) at h in record { long = eqb-true (length l) image_length e; fits = d; board = cc })
    (λ d. let s : None ≡ Some b = rw (e, d) at h in cc))
    (λ e. let s : None ≡ Some b = rw e at h in cc)

-- an accepted image is the image of the board that is read from it
pub loaded_again : (l : List ℕ) (b : Board) → Bytes l → loaded_of l ≡ Some b → image_of b ≡ l
unfolding image_of board_of
loaded_again l b y h =
    let a = accepted l b h in
    ap image_of a.board ∙ whole_again image_lawful l y a.long a.fits
