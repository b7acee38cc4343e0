-- Lists of direct calls, worked from a board by the rules alone, and made one after another.
-- Assumes nothing.
use Rattle.std.specs.Prelude.{List, [], ◌∷◌}
use Rattle.rules.specs.declared.Board.{Board}
use Rattle.rules.specs.declared.Reply.{Reply}
use Rattle.rules.specs.Boards.{empty_board}
use Rattle.rules.specs.Calls.{Call, apply, direct}

-- the board after the calls, worked from b
unfoldable pub worked_from : Board → List Call → Board
worked_from b [] = b
worked_from b (c ∷ cs) = worked_from (apply b c).board cs

-- "worked board": the empty board, to which the rules are applied with one call of the list after another
unfoldable pub worked : List Call → Board
worked cs = worked_from empty_board cs

-- the worked replies, one for each call
unfoldable pub replies_from : Board → List Call → List Reply
replies_from b [] = []
replies_from b (c ∷ cs) = let r = apply b c in r ∷ replies_from r.board cs

-- the replies of direct calls, each handed the board that the one before it gave back
unfoldable pub direct_from : Board → List Call → List Reply
direct_from b [] = []
direct_from b (c ∷ cs) = let r = direct b c in r ∷ direct_from r.board cs
