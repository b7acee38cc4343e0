-- A board read from an image, by its sets and the rest.
-- Assumes nothing.
use Rattle.std.specs.Prelude.{Option}
use Rattle.std.specs.Option.{option_map}
use Rattle.rules.specs.declared.Board.{Board}
use Rattle.store.specs.declared.Rest.{Rest}
use Rattle.store.specs.Sets.{Sets}
use Rattle.store.specs.Store.{board_of}

-- what reading an image finds, by the sets and the rest
abbrev pub loaded_in : Sets → Option Rest → Option Board
loaded_in sets r = option_map (board_of sets) r
