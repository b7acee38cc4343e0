use Rattle.std.proofs.Common.{◌≡◌, ◌∙◌}
use Rattle.store.specs.Store.{board_of}
use Rattle.settling.specs.Writing.{written_in}
use Rattle.settling.proofs.Laws.{settle-loose, settle-counts, settle-fits-pass, settle-fits-choose, settle_is}
use Rattle.settling.proofs.settle_lines.Goals as goal

pub pass_line-s-requires : goal.pass_line-s-requires
unfolding board_of
pass_line-s-requires c =
    (c.requires.0, c.requires.1, settle-fits-pass (written_in c.args.sets.now c.args.lines.now c.args.w) c.requires.2)

pub choose_next-requires : goal.choose_next-requires
unfolding board_of
choose_next-requires c = let a = c.args in let p = c.pass_line-s in
    let w = written_in a.sets.now a.lines.now a.w in let s = written_in p.new.sets p.new.lines p.result in (
      settle-loose w s p.ensures c.requires.0 c.requires.1,
      settle-counts w s p.ensures c.requires.0 c.requires.1,
      settle-fits-choose w s p.ensures c.requires.2,
    )

pub returns : goal.returns
unfolding board_of
returns c = let a = c.args in let p = c.pass_line-s in c.choose_next.ensures
    ∙ settle_is (written_in a.sets.now a.lines.now a.w) (written_in p.new.sets p.new.lines p.result) p.ensures
