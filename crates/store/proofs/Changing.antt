-- A board whose sets or standings change, by its sets and the rest. Assumes nothing.
use Prim.Native.Nat.{ℕ, ◌-◌, ◌/◌, ◌≤◌, ◌<◌}
use native.Mathlib.Omega.{arith}
use mathlib.Core.Path.{◌≡◌, refl, sym, ap, ◌∙◌}
use mathlib.Core.Logic.{◌≢◌}
use mathlib.Core.Bool.{true, false}
use mathlib.Core.List.{List, []}
use lib.Dec.{eqb}
use lib.ListN.{length, get_or, set, length-set}
use lib.Seq.{ext_get_or, get_or-set_same, get_or-set_other}
use borrow.Author.Tests.{eqb-true, eqb-false}
use Rattle.laws.specs.Tests.{by_test, never}
use Rattle.files.specs.declared.FileSet.{FileSet}
use Rattle.files.specs.Sets.{is_file, removing}
use Rattle.files.specs.Words.{set_of, with_file, without_file}
use Rattle.files.proofs.Bits.{most}
use Rattle.files.proofs.Rows.{words-without, length_without}
use Rattle.rules.specs.declared.Standing.{Standing}
use Rattle.rules.specs.declared.Program.{Program}
use Rattle.rules.specs.declared.Board.{Board}
use Rattle.rules.specs.declared.Mode.{Mode}
use Rattle.rules.specs.declared.Mode.TheVariants.{Write, Read, Inquiry}
use Rattle.rules.specs.Modes.{is_mode, claim_of, open_of}
use Rattle.rules.specs.Boards.{no_program, at, set_program, set_standing, set_item, opening, closing, dropping}
use Rattle.theory.specs.Modes.{closing_claim, closing_open, dropping_claim, dropping_open}
use Rattle.theory.specs.Programs.{Is}
use Rattle.store.specs.declared.Seat.{Seat}
use Rattle.store.specs.declared.Rest.{Rest}
use Rattle.store.specs.Sets.{place_count, Sets, IsStore, claim_place, open_place, row_in, set_in, in_place, SetsOf, PutAt, left_in, mode_at, closed_at, dropped_at, given_at}
use Rattle.store.specs.Store.{no_seat, seat_at, seat_of, standing_at, with_seats, put_seat, seated_at, board_of}
use Rattle.store.proofs.Laws.{claim_apart, open_apart, claims-apart, claim_place_lem, open_place_lem, put-row, claim_is, open_is}
use Rattle.store.proofs.Given.{given_store, sets-given}
use Rattle.store.proofs.Boards.{board-size, board_in, board-at, board-sets, same-board}

-- ---- a program put anew

module _ (q : Program) (p : ℕ) (before after : Sets) (r : Rest) (h : 1 ≤ p) (k : p ≤ 32) (a : PutAt q (p - 1) before after) where
  module _ (seats : List Seat) (here : get_or seats (p - 1) no_seat ≡ seat_of q)
      (there : (i : ℕ) → i ≢ p - 1 → get_or seats i no_seat ≡ get_or r.seats i no_seat) where
    abbrev then : Rest
    then = with_seats r seats

    put-here : in_place (board_of after then) (p - 1) ≡ q
    put-here = board_in after then (p - 1) (omega arith)
        ∙ rw (here, (a.here Write).0, (a.here Write).1, (a.here Read).0, (a.here Read).1, (a.here Inquiry).0, (a.here Inquiry).1) refl

    put-there : (i : ℕ) → i < 32 → i ≢ p - 1 → in_place (board_of after then) i ≡ in_place (board_of before r) i
    put-there i l d = board_in after then i l
        ∙ rw (
          there i d,
          (a.there i l d Write).0,
          (a.there i l d Write).1,
          (a.there i l d Read).0,
          (a.there i l d Read).1,
          (a.there i l d Inquiry).0,
          (a.there i l d Inquiry).1,
        ) refl
        ∙ sym (board_in before r i l)

    put_programs : (board_of after then).programs ≡ set (board_of before r).programs (p - 1) q
    put_programs = ext_get_or no_program (board_of after then).programs (set (board_of before r).programs (p - 1) q)
        (board-size after then ∙ sym (length-set (board_of before r).programs (p - 1) q ∙ board-size before r))
        (λ i l. let z : i < 32 = omega (arith, board-size after then) in by_test (eqb i (p - 1))
        (λ t. let e : i ≡ p - 1 = eqb-true i (p - 1) t in rw e
        (put-here ∙ sym (get_or-set_same (board_of before r).programs (p - 1) q no_program (omega (arith, board-size before r)))))
        (λ t. let d : i ≢ p - 1 = eqb-false i (p - 1) t in
        put-there i z d ∙ sym (get_or-set_other (board_of before r).programs (p - 1) i q no_program d)))

    put_with : board_of after then ≡ set_program (board_of before r) p q
    unfolding board_of
    put_with = same-board (board_of after then) (set_program (board_of before r) p q) put_programs refl refl refl refl refl refl

  -- its sets are put, and its seat
  pub put-board : length r.seats ≡ 32 → board_of after (put_seat r p (seat_of q)) ≡ set_program (board_of before r) p q
  put-board n = put_with (put_seat r p (seat_of q)).seats
      (get_or-set_same r.seats (p - 1) (seat_of q) no_seat (omega (arith, n)))
      (λ i d. get_or-set_other r.seats (p - 1) i (seat_of q) no_seat d)

  -- its sets are put, and its seat is as it was
  pub keep-board : seat_at r p ≡ seat_of q → board_of after r ≡ set_program (board_of before r) p q
  keep-board e = put_with r.seats e (λ i d. refl)

-- the seat changes, and no set
module _ (sets : Sets) (r : Rest) (p : ℕ) (h : 1 ≤ p) (k : p ≤ 32) (st : IsStore sets) where
  abbrev now-at : Program
  now-at = at (board_of sets r) p

  -- the sets are those of the program
  as_they_are : (q : Program) → ((m : Mode) → (claim_of m q ≡ claim_of m now-at) × (open_of m q ≡ open_of m now-at)) → PutAt q (p - 1) sets sets
  as_they_are q e = record {
    is_store = st;
    here = λ m. let x = board-sets sets r st in
        (claim_is (board_of sets r) sets x p h k m ∙ sym (e m).0, open_is (board_of sets r) sets x p h k m ∙ sym (e m).1);
    there = λ j l d m. (refl, refl);
  }

  -- the program with another seat
  abbrev pub reseated : Seat → Program
  reseated t = set_item (set_standing now-at t.standing) t.file t.item

  same-both : (t : Seat) (m : Mode) → (claim_of m (reseated t) ≡ claim_of m now-at) × (open_of m (reseated t) ≡ open_of m now-at)
  same-both t Write = (refl, refl)
  same-both t Read = (refl, refl)
  same-both t Inquiry = (refl, refl)

  pub reseat_board : (t : Seat) → length r.seats ≡ 32 → board_of sets (put_seat r p t) ≡ set_program (board_of sets r) p (reseated t)
  reseat_board t n = put-board (reseated t) p sets sets r h k (as_they_are (reseated t) (same-both t)) n

  -- the seat of a program of the board
  pub seat_is : seat_of (at (board_of sets r) p) ≡ seat_at r p
  seat_is = ap seat_of (board-at sets r p h k)

  pub standing_is : (at (board_of sets r) p).standing ≡ standing_at r p
  standing_is = ap (λ (t : Seat). t.standing) seat_is

  pub item-is : (at (board_of sets r) p).item ≡ (seat_at r p).item
  item-is = ap (λ (t : Seat). t.item) seat_is

  pub file-is : (at (board_of sets r) p).file ≡ (seat_at r p).file
  file-is = ap (λ (t : Seat). t.file) seat_is

  -- the standing alone
  pub seat_board : (s : Standing) → length r.seats ≡ 32 → board_of sets (seated_at r p s) ≡ set_program (board_of sets r) p (set_standing now-at s)
  seat_board s n = ap (λ (t : Seat). board_of sets (put_seat r p (record { standing = s; file = t.file; item = t.item }))) (sym seat_is)
      ∙ reseat_board (record { standing = s; file = now-at.file; item = now-at.item }) n

-- ---- a file leaves three sets

module _ (sets : Sets) (k f : ℕ) (s : IsStore sets) (h : k < place_count) where
  word : is_file f ≡ true → (f - 1) / 64 < length (row_in sets k)
  word e = let m = most 64 f e in let n = s.words_are k h in omega arith

  left_store : IsStore (left_in sets k f)
  left_store = put-row sets k (without_file (row_in sets k) f) s (length_without (row_in sets k) f ∙ s.words_are k h)

  left_here : set_in (left_in sets k f) k ≡ removing (set_in sets k) f
  left_here = ap set_of (get_or-set_same sets k (without_file (row_in sets k) f) [] (omega (arith, h, s.places_are)))
      ∙ by_test (is_file f) (λ e. words-without (row_in sets k) f (word e)) (λ e. rw e)

  left_there : (j : ℕ) → j ≢ k → row_in (left_in sets k f) j ≡ row_in sets j
  left_there j d = get_or-set_other sets k j (without_file (row_in sets k) f) [] d

-- f leaves the sets in three places, one for each mode
module _ (sets : Sets) (at-mode : Mode → ℕ) (f : ℕ) (s : IsStore sets) (low : (m : Mode) → at-mode m < place_count)
    (apart : (m n : Mode) → (is_mode m n ≡ true → ⊥) → at-mode m ≢ at-mode n) where
  abbrev one_left : Sets
  one_left = left_in sets (at-mode Write) f

  abbrev two-left : Sets
  two-left = left_in one_left (at-mode Read) f

  abbrev all_left : Sets
  all_left = left_in two-left (at-mode Inquiry) f

  one_store : IsStore one_left
  one_store = left_store sets (at-mode Write) f s (low Write)

  two_store : IsStore two-left
  two_store = left_store one_left (at-mode Read) f one_store (low Read)

  all_store : IsStore all_left
  all_store = left_store two-left (at-mode Inquiry) f two_store (low Inquiry)

  no_mode : false ≡ true → ⊥
  no_mode e = never {t = false} e refl

  all_here : (m : Mode) → set_in all_left (at-mode m) ≡ removing (set_in sets (at-mode m)) f
  all_here Write = ap set_of (left_there two-left (at-mode Inquiry) f two_store (low Inquiry) (at-mode Write) (apart Write Inquiry no_mode)
      ∙ left_there one_left (at-mode Read) f one_store (low Read) (at-mode Write) (apart Write Read no_mode))
      ∙ left_here sets (at-mode Write) f s (low Write)
  all_here Read = ap set_of (left_there two-left (at-mode Inquiry) f two_store (low Inquiry) (at-mode Read) (apart Read Inquiry no_mode))
      ∙ left_here one_left (at-mode Read) f one_store (low Read)
      ∙ ap (λ (w : FileSet). removing w f) (ap set_of (left_there sets (at-mode Write) f s (low Write) (at-mode Read) (apart Read Write no_mode)))
  all_here Inquiry = left_here two-left (at-mode Inquiry) f two_store (low Inquiry)
      ∙ ap (λ (w : FileSet). removing w f) (ap set_of
      (left_there one_left (at-mode Read) f one_store (low Read) (at-mode Inquiry) (apart Inquiry Read no_mode)
      ∙ left_there sets (at-mode Write) f s (low Write) (at-mode Inquiry) (apart Inquiry Write no_mode)))

  all_others : (k : ℕ) → ((m : Mode) → k ≢ at-mode m) → row_in all_left k ≡ row_in sets k
  all_others k d = left_there two-left (at-mode Inquiry) f two_store (low Inquiry) k (d Inquiry)
      ∙ left_there one_left (at-mode Read) f one_store (low Read) k (d Read) ∙ left_there sets (at-mode Write) f s (low Write) k (d Write)

-- ---- a file is closed, dropped, given

module _ (sets : Sets) (r : Rest) (p f : ℕ) (h : 1 ≤ p) (k : p ≤ 32) (s : IsStore sets) where
  abbrev i : ℕ
  i = p - 1

  abbrev q : Program
  q = at (board_of sets r) p

  claim_now : (m : Mode) → set_in sets (claim_place m i) ≡ claim_of m q
  claim_now m = claim_is (board_of sets r) sets (board-sets sets r s) p h k m

  open_now : (m : Mode) → set_in sets (open_place m i) ≡ open_of m q
  open_now m = open_is (board_of sets r) sets (board-sets sets r s) p h k m

  lt : i < 32
  lt = omega arith

  -- f is closed
  module _ where
    abbrev opens : Mode → ℕ
    opens m = open_place m i

    low_open : (m : Mode) → opens m < place_count
    low_open m = open_place_lem m i lt

    apart_open : (m n : Mode) → (is_mode m n ≡ true → ⊥) → opens m ≢ opens n
    apart_open m n d = open_apart i i lt lt m n (λ e. absurd (d e))

    pub closed_store : IsStore (closed_at sets p f)
    closed_store = all_store sets opens f s low_open apart_open

    others-closed : (j : ℕ) → ((m : Mode) → j ≢ opens m) → row_in (closed_at sets p f) j ≡ row_in sets j
    others-closed = all_others sets opens f s low_open apart_open

    closed-put : PutAt (closing q f) i sets (closed_at sets p f)
    closed-put = record {
      is_store = closed_store;
      here = λ m. (
        ap set_of (others-closed (claim_place m i) (λ n. claim_apart i i lt lt m n)) ∙ claim_now m ∙ sym (closing_claim m q f),
        all_here sets opens f s low_open apart_open m ∙ ap (λ (x : FileSet). removing x f) (open_now m) ∙ sym (closing_open m q f),
      );
      there = λ j l d m. (
        others-closed (claim_place m j) (λ n. claim_apart j i l lt m n),
        others-closed (open_place m j) (λ n. open_apart j i l lt m n (λ _. d)),
      );
    }

    closed_stays : seat_at r p ≡ seat_of (closing q f)
    unfolding closing
    closed_stays = sym (seat_is sets r p h k s)

    pub closed-board : board_of (closed_at sets p f) r ≡ set_program (board_of sets r) p (closing q f)
    closed-board = keep-board (closing q f) p sets (closed_at sets p f) r h k closed-put closed_stays

  -- f is dropped
  module _ where
    abbrev claims : Mode → ℕ
    claims m = claim_place m i

    low_claim : (m : Mode) → claims m < place_count
    low_claim m = claim_place_lem m i lt

    apart_claim : (m n : Mode) → (is_mode m n ≡ true → ⊥) → claims m ≢ claims n
    apart_claim m n d = claims-apart i i lt lt m n (λ e. absurd (d e))

    pub dropped_store : IsStore (dropped_at sets p f)
    dropped_store = all_store sets claims f s low_claim apart_claim

    others_dropped : (j : ℕ) → ((m : Mode) → j ≢ claims m) → row_in (dropped_at sets p f) j ≡ row_in sets j
    others_dropped = all_others sets claims f s low_claim apart_claim

    dropped_put : PutAt (dropping q f) i sets (dropped_at sets p f)
    dropped_put = record {
      is_store = dropped_store;
      here = λ m. (
        all_here sets claims f s low_claim apart_claim m ∙ ap (λ (x : FileSet). removing x f) (claim_now m) ∙ sym (dropping_claim m q f),
        ap set_of (others_dropped (open_place m i) (λ n e. claim_apart i i lt lt n m (sym e))) ∙ open_now m ∙ sym (dropping_open m q f),
      );
      there = λ j l d m. (
        others_dropped (claim_place m j) (λ n. claims-apart j i l lt m n (λ _. d)),
        others_dropped (open_place m j) (λ n e. claim_apart i j lt l n m (sym e)),
      );
    }

    dropped_stays : seat_at r p ≡ seat_of (dropping q f)
    unfolding dropping
    dropped_stays = sym (seat_is sets r p h k s)

    pub dropped_board : board_of (dropped_at sets p f) r ≡ set_program (board_of sets r) p (dropping q f)
    dropped_board = keep-board (dropping q f) p sets (dropped_at sets p f) r h k dropped_put dropped_stays

  -- f is given
  module _ where
    abbrev m₀ : Mode
    m₀ = mode_at sets p f

    given-all : SetsOf (set_program (board_of sets r) p (opening q f)) (given_at sets p f)
    given-all = sets-given (board_of sets r) (set_program (board_of sets r) p (opening q f)) (opening q f) p f sets (board-size sets r)
        (record { least = h; most = k }) refl (record { same_claim = λ m. refl; same_open = λ m. refl }) (board-sets sets r s)

    given_in : in_place (set_program (board_of sets r) p (opening q f)) i ≡ opening q f
    given_in = get_or-set_same (board_of sets r).programs i (opening q f) no_program (omega (arith, board-size sets r))

    given-put : PutAt (opening q f) i sets (given_at sets p f)
    given-put = record {
      is_store = given_store sets p f h k s;
      here = λ m. let x = given-all.1 i lt m in (x.0 ∙ ap (claim_of m) given_in, x.1 ∙ ap (open_of m) given_in);
      there = λ j l d m. (
        get_or-set_other sets (open_place m₀ i) (claim_place m j) (with_file (row_in sets (open_place m₀ i)) f) [] (claim_apart j i l lt m m₀),
        get_or-set_other sets (open_place m₀ i) (open_place m j) (with_file (row_in sets (open_place m₀ i)) f) [] (open_apart j i l lt m m₀ (λ _. d)),
      );
    }

    given_stays : seat_at r p ≡ seat_of (opening q f)
    unfolding opening
    given_stays = sym (seat_is sets r p h k s)

    pub given-board : board_of (given_at sets p f) r ≡ set_program (board_of sets r) p (opening q f)
    given-board = keep-board (opening q f) p sets (given_at sets p f) r h k given-put given_stays

    -- and p is at a standing
    served-put : (t : Standing) → PutAt (set_standing (opening q f) t) i sets (given_at sets p f)
    served-put t = record {
      is_store = given-put.is_store;
      here = λ m. ((given-put.here m).0 ∙ (same-sets t m).0, (given-put.here m).1 ∙ (same-sets t m).1);
      there = given-put.there;
    }
      where
        same-sets : (t : Standing) (m : Mode) → (claim_of m (opening q f) ≡ claim_of m (set_standing (opening q f) t))
            × (open_of m (opening q f) ≡ open_of m (set_standing (opening q f) t))
        same-sets t Write = (refl, refl)
        same-sets t Read = (refl, refl)
        same-sets t Inquiry = (refl, refl)

    pub served-board : (t : Standing) → length r.seats ≡ 32
        → board_of (given_at sets p f) (seated_at r p t) ≡ set_program (board_of sets r) p (set_standing (opening q f) t)
    unfolding opening
    served-board t n =
        ap (λ (x : Seat). board_of (given_at sets p f) (put_seat r p (record { standing = t; file = x.file; item = x.item }))) given_stays
        ∙ put-board (set_standing (opening q f) t) p sets (given_at sets p f) r h k (served-put t) n
