-- `fill_rows` meets its contract. Assumes nothing.
use Rattle.std.proofs.Common.{◌≡◌, ◌-◌, suc, sym, ap, ◌∙◌, arith}
use Rattle.tables.specs.declared.ProgramSet.{ProgramSet}
use Rattle.tables.specs.ProgramSets.{without_program}
use Rattle.tables.specs.Tables.{held_by, packed}
use Rattle.tables.proofs.Walk.{wrote-next}
use Rattle.tables.proofs.Whole.{row_bits, rows_written}
use Rattle.tables.proofs.rows.fill_rows.Goals as goal

pub loop-p-preserved : goal.loop-p-preserved
loop-p-preserved c =
    let a = c.args in let p = c.in-Some.p in let (l, e) = c.in-Some.ensures.steps in
    let z : suc (p - 1) ≡ p = omega (arith, l.0) in
    wrote-next a.admitted (row_bits a.sets.now a.admitted) a.rows.now c.loop-p.p-iterator.left _ c.loop-p.rows p _ _ c.loop-p.invariant
    c.in-Some.ensures.steps c.place_of.ensures.0 (ap (λ (r : ProgramSet). r.bits) c.row_of.ensures ∙ ap (λ n. (packed (held_by a.sets.now n (without_program a.admitted n)) 32).bits) (sym z))

pub returns : goal.returns
returns c = rows_written c.args.sets.now c.args.admitted c.args.rows.now c.loop-p.rows c.loop-p.p-iterator.left c.requires
    c.in-None.ensures.steps c.loop-p.invariant
