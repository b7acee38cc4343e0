-- 02, CR 6: the statements on the checker and on the loops that answers carry. proofs/Digraph proves them.
-- `ItselfIff` stands in Matrix. Assumes nothing.
use Rattle.std.specs.Prelude.{ℕ, ◌≡◌, ◌↔◌, true, false, List, get_or}
use Rattle.rules.specs.declared.Board.{Board}
use Rattle.rules.specs.declared.Word.{Word}
use Rattle.rules.specs.declared.Reply.{Reply}
use Rattle.laws.specs.Lists.{found}
use Rattle.rules.specs.Boards.{is_waiting, at, admitted, claims, awaited}
use Rattle.rules.specs.Orders.{carried, with_given, safe}
use Rattle.rules.specs.Soundness.{sound}
use Rattle.rules.specs.Settling.{line}
use Rattle.rules.specs.Replies.{blank}
use Rattle.rules.specs.Calls.{direct}
use Rattle.rules.specs.Calls.{Call, Open}
use Rattle.rules.specs.Digraph.{is_in, is_loop_with, may_carry}
use Rattle.laws.specs.Laws.{◌∈◌}
use Rattle.theory.specs.Programs.{Is}
use Rattle.theory.specs.Carried.{holds_on}
use Rattle.theory.specs.Loops.{IsLoop}

-- a loop of the board: "a list of two or more different programs, each holding back the next and the last the first", all admitted
abbrev pub LoopOn : Board → List ℕ → Type 0
LoopOn b L = IsLoop (holds_on b) (admitted b) L

-- "A checker accepts all such lists and no others", for any board, any numbers p and f, any list of numbers: the list is a loop "with the
-- file given", which can be given to an admitted program that claims it
abbrev pub CheckerIff : Type 0
CheckerIff = (b : Board) (p f : ℕ) (L : List ℕ)
    → (is_loop_with b p f L ≡ true) ↔ ((p ∈ admitted b) × (claims (at b p) f ≡ true) × LoopOn (with_given b p f) L)

-- "with the file given": where an order existed before, every loop has p in it.
abbrev pub LoopHasProgram : Type 0
LoopHasProgram = (b : Board) (p f : ℕ) (L : List ℕ) → found (carried b) ≡ true → is_loop_with b p f L ≡ true → p ∈ L

-- On a sound board every program that waits for a file has a loop with the file given.
abbrev pub WaiterLoop : Type 0
WaiterLoop = (b : Board) (p : ℕ) → sound b ≡ true → Is p → is_waiting (at b p).standing ≡ true → (at b p).item ≡ 0
    → (L : List ℕ) × (is_loop_with b p (awaited b p) L ≡ true)

-- The reply to an open by an admitted program that claims the file, where no order comes back with it given; its first line names both.
pub record UnsafeOpen (b : Board) (c : Call) (r : Reply) : Type 0 where
  pub program : ℕ
  pub file : ℕ
  pub call : c ≡ Open program file
  pub told : get_or r.lines 0 blank ≡ line Word.Unsafe program file
  pub is_in_lem : is_in b program ≡ true
  pub claimed : claims (at b program) file ≡ true
  pub unsafe : safe b program file ≡ false

-- "An UNSAFE answer now carries a loop": for each there is one to carry, and for every other answer there is none but the empty list.
abbrev pub CarriesSome : Type 0
CarriesSome = (b : Board) (c : Call) → (L : List ℕ) × (may_carry b c (direct b c).answer L ≡ true)
