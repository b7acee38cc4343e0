-- The columns of one program more, and those of all.
use Rattle.std.proofs.Common.{◌≡◌, ◌-◌, ◌∙◌, refl, length, length-take, length-drop, arith, rules}
use borrow.Rule.Slice.PartMut.{same_len_mid}
use Rattle.columns.specs.Columns.{program_width, word_width, columns_of}
use Rattle.columns.proofs.Laws.{columns_length}
use Rattle.columns.proofs.Rows.{start, step}
use Rattle.lines.proofs.Laws.{names_stop, names_end}
use Rattle.board.proofs.Laws.{names_more, names-done}
use Rattle.board.proofs.put_programs.Goals as goal

pub loop-p-init : goal.loop-p-init
loop-p-init c = record {
  place = omega arith;
  room = refl;
  written = start (columns_of program_width) c.args.out.now word_width;
  named = refl;
}

pub put_columns-requires : goal.put_columns-requires
put_columns-requires c = simp (length-take, length-drop) (omega arith)

pub loop-p-preserved : goal.loop-p-preserved
loop-p-preserved c =
    let l = c.loop-p in
    let k = c.put_columns in
    let ps = c.args.programs in
    let n : length ps ≡ 32 = search rules in
    record {
      place = omega arith;
      room = same_len_mid l.at (length l.out - l.at) l.out k.new.part k.auto.part ∙ l.invariant.room;
      written = step (columns_of program_width) program_width (columns_length program_width) c.args.out.now l.out k.new.part ps
          0 word_width l.p-index l.at (omega arith) (omega arith) l.invariant.place l.invariant.written k.ensures;
      named = names_more ps l.p-index (omega arith) c.if-p-eq0.false l.invariant.named;
    }

pub returns-after-loop-p-clause-out_after : goal.returns-after-loop-p-clause-out_after
returns-after-loop-p-clause-out_after c =
    let l = c.loop-p in
    let ps = c.args.programs in
    let n : length ps ≡ 32 = search rules in
    let e = names_end ps l.p-index (omega arith) in
    rw l.invariant.place
    (names-done ps l.p-index c.args.out.now l.out (omega arith) (omega arith) e l.invariant.named l.invariant.written)

pub returns-then-p-eq0-clause-out_after : goal.returns-then-p-eq0-clause-out_after
returns-then-p-eq0-clause-out_after c =
    let l = c.loop-p in
    let ps = c.args.programs in
    let n : length ps ≡ 32 = search rules in
    let e = names_stop ps l.p-index (omega arith) c.if-p-eq0.true in
    rw l.invariant.place
    (names-done ps l.p-index c.args.out.now l.out (omega arith) (omega arith) e l.invariant.named l.invariant.written)
