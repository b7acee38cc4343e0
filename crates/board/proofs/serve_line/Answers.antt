-- What the line call gives is what is served, and the board stays sound.
use Rattle.std.proofs.Common.{ap, refl, ◌∙◌, arith}
use Rattle.rules.specs.declared.Reply.{Reply}
use Rattle.rules.specs.Soundness.{sound}
use Rattle.store.specs.Store.{board_of}
use Rattle.store.proofs.Boards.{board-size}
use Rattle.linecall.proofs.Laws.{place_fits, line-sound}
use Rattle.board.proofs.serve_line.Goals as goal

pub returns : goal.returns
returns c =
    let a = c.args in
    let b = board_of a.sets.now a.s.rest in
    let l = c.line-served.ensures in
    let e = ap (λ (r : Reply). r.board) l.comes_to in
    let n = board-size a.sets.now a.s.rest in
    let h = place_fits b a.line.now a.journal.now a.s.place n in
    let t = line-sound b a.line.now a.journal.now a.s.place n c.requires.rest_value in
    record {
      rest_after = e;
      place_value = l.place_value;
      journal_after = l.journal_after;
      rest_after_2 = (ap sound e ∙ t, refl, omega (arith, h, l.place_value));
    }
