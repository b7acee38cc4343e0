-- Laws of a step on the sets and the rest of a board, with its line where it stands. Assumes nothing.
use mathlib.Core.Path.{◌≡◌, sym, ap, ap₂, ◌∙◌}
use mathlib.Core.List.{List}
use mathlib.Core.Option.{Option, some}
use Prim.Native.Nat.{ℕ, ◌+◌, ◌≤◌}
use lib.ListN.{length, set}
use Rattle.laws.specs.Lists.{names, padded, without, with_found}
use Rattle.rules.specs.declared.Standing.{Standing}
use Rattle.rules.specs.declared.Board.{Board}
use Rattle.rules.specs.declared.Line.{Line}
use Rattle.rules.specs.declared.Word.{Word}
use Rattle.rules.specs.Boards.{at, awaited, admitted, tallied, tally, set_entry}
use Rattle.rules.specs.Settling.{favour, admit_held, hand_to, hand_on, still, line, line_of}
use Rattle.theory.specs.Programs.{Is}
use Rattle.theory.specs.Loose.{Loose}
use Rattle.parts.specs.Entries.{Entries, entry_of, lines_in}
use Rattle.parts.proofs.Lined.{lines-set}
use Rattle.store.specs.declared.Rest.{Rest}
use Rattle.store.specs.Sets.{Sets, IsStore, given_at}
use Rattle.store.specs.Store.{with_entry, with_favour, with_passed, seated_at, board_of}
use Rattle.store.proofs.Changing.{seat_board}
use Rattle.settling.specs.Writing.{Written, progress, written_in, after, give_to, admit_one, served_rest, record_waiter}
use Rattle.settling.proofs.Giving.{handed_is, served_is, given_is}

-- a line more
pub one_line : (lines : Entries) (n : ℕ) (l : Line) (e : List ℕ) → e ≡ entry_of l → lines_in (set lines n e) ≡ set (lines_in lines) n l
one_line lines n l e d = ap (λ (x : List ℕ). lines_in (set lines n x)) d ∙ lines-set lines n l

pub same-written : (b c : Board) (k l : List Line) (n : ℕ) → b ≡ c → k ≡ l
    → ◌≡◌ {A = Written} (record { board = b; lines = k; count = n }) (record { board = c; lines = l; count = n })
same-written b c k l n d e = ap₂ (λ (x : Board) (y : List Line). record { board = x; lines = y; count = n }) d e

module _ (sets : Sets) (lines : Entries) (r : Rest) (n p : ℕ) (e : List ℕ) where
  -- p becomes favoured
  pub favour-done : (f m k : ℕ) → e ≡ entry_of (line_of Word.Favour p f m) → f ≡ awaited (board_of sets r) p → m ≡ (at (board_of sets r) p).item → k ≡ length (admitted (board_of sets r))
      → written_in sets (set lines n e) (progress (with_favour r p k 0) (n + 1)) ≡ after (written_in sets lines (progress r n)) (favour (board_of sets r) p)
  unfolding favour board_of
  favour-done f m k d w x a = same-written _ _ _ _ (n + 1)
      (ap (λ (x : ℕ). board_of sets (with_favour r p x 0)) a)
      (one_line lines n (line_of Word.Favour p f m) e d ∙ ap₂ (λ (y z : ℕ). set (lines_in lines) n (line_of Word.Favour p y z)) w x)

  -- the waiter p is given f
  pub give-done : (x : Sets) (y : Rest) (f : ℕ) → Loose (board_of sets r) → IsStore sets → length r.seats ≡ 32 → (1 ≤ p) × (p ≤ 32) → e ≡ entry_of (line Word.Given p f)
      → x ≡ given_at sets p f → y ≡ served_rest r p
      → written_in x (set lines n e) (progress y (n + 1)) ≡ after (written_in sets lines (progress r n)) (give_to (board_of sets r) p f)
  give-done x y f o s z i d g a = let q : Is p = record { least = i.0; most = i.1 } in same-written _ _ _ _ (n + 1)
      (ap₂ board_of g a ∙ served_is sets r p f s z q ∙ given_is (board_of sets r) p f o.base.size q)
      (one_line lines n (line Word.Given p f) e d)

  -- the waiter p gets the record m of f
  pub handed-done : (y : Rest) (f m : ℕ) → IsStore sets → length r.seats ≡ 32 → Is p → e ≡ entry_of (line_of Word.Given p f m)
      → record_waiter (board_of sets r) f m ≡ some p → y ≡ served_rest r p
      → written_in sets (set lines n e) (progress y (n + 1)) ≡ after (written_in sets lines (progress r n)) (hand_on (board_of sets r) f m)
  unfolding hand_on hand_to
  handed-done y f m s z i d w a = same-written _ _ _ _ (n + 1)
      (ap (board_of sets) a ∙ handed_is sets r p s z i)
      (one_line lines n (line_of Word.Given p f m) e d)
      ∙ ap (after (written_in sets lines (progress r n))) (sym (ap (λ (x : Option ℕ). with_found x (still (board_of sets r)) (hand_to (board_of sets r) f m)) w))

  -- the held program p runs
  pub admit-done : (y : Rest) (l c : List ℕ) → IsStore sets → length r.seats ≡ 32 → 1 ≤ p → p ≤ 32 → e ≡ entry_of (line Word.Admit p 0)
      → y ≡ seated_at r p Standing.Running → l ≡ padded 0 (without p (names r.entry)) → c ≡ tallied (board_of sets (with_entry y l))
      → written_in sets (set lines n e) (progress (with_passed (with_entry y l) c) (n + 1))
      ≡ after (written_in sets lines (progress r n)) (admit_one (board_of sets r) p)
  unfolding admit_held board_of
  admit-done y l c s z h k d ey el ec = same-written _ _ _ _ (n + 1)
      (ap (λ (x : List ℕ). board_of sets (with_passed (with_entry y l) x)) ec
      ∙ ap₂ (λ (x : Rest) (m : List ℕ). tally (board_of sets (with_entry x m))) ey el
      ∙ ap (λ (b : Board). tally (set_entry b (without p (names r.entry)))) (seat_board sets r p h k s Standing.Running z))
      (one_line lines n (line Word.Admit p 0) e d)
