use Rattle.std.proofs.Common.{ap, ◌∙◌}
use Rattle.theory.specs.Programs.{of_is}
use Rattle.tables.specs.declared.ProgramSet.{ProgramSet}
use Rattle.tables.specs.ProgramSets.{without_program, common_of}
use Rattle.digraph.proofs.LoopLaws.{holder_at, holder_no}
use Rattle.digraph.proofs.loops.lowest_holder.Goals as goal

pub returns-then-by-eq0 : goal.returns-then-by-eq0
returns-then-by-eq0 c = let a = c.args in
    holder_no a.rows.now a.set a.x (of_is a.x (record { least = c.requires.0; most = c.requires.1 })) c.and-by.result
    (c.and-by.ensures ∙ ap (λ (s : ProgramSet). common_of s a.set) (c.without.ensures ∙ ap (λ (s : ProgramSet). without_program s a.x) c.row_of.ensures))
    c.if-by-eq0.true

pub returns-else-by-eq0 : goal.returns-else-by-eq0
returns-else-by-eq0 c = let a = c.args in let y = c.lowest.ensures.1 in (
  holder_at a.rows.now a.set a.x (of_is a.x (record { least = c.requires.0; most = c.requires.1 })) c.and-by.result c.lowest.result
      (c.and-by.ensures ∙ ap (λ (s : ProgramSet). common_of s a.set) (c.without.ensures ∙ ap (λ (s : ProgramSet). without_program s a.x) c.row_of.ensures))
      y,
  (y.0, y.1),
)
