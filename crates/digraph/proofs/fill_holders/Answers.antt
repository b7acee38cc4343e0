-- `fill_holders` meets its contract. Assumes nothing.
use Rattle.std.proofs.Common.{◌≡◌, ℕ, suc, ◌-◌, List, cond, sym, ap, ◌∙◌, get_or, arith}
use lib.ListN.{get_or-replicate}
use Rattle.tables.specs.declared.ProgramSet.{ProgramSet}
use Rattle.tables.specs.ProgramSets.{has_program, without_program}
use Rattle.tables.specs.Tables.{holders_of, packed}
use Rattle.tables.proofs.Laws.{places_same}
use Rattle.tables.proofs.Walk.{wrote-next, wrote-done}
use Rattle.digraph.specs.Rows.{holder_rows}
use Rattle.digraph.proofs.fill_holders.Invariants.{row_bits}
use Rattle.digraph.proofs.fill_holders.Goals as goal

pub loop-p-preserved : goal.loop-p-preserved
loop-p-preserved c =
    let a = c.args in let p = c.in-Some.p in let (l, e) = c.in-Some.ensures.steps in
    let z : suc (p - 1) ≡ p = omega (arith, l.0) in
    wrote-next a.admitted (row_bits a.sets.now a.admitted) a.rows.now c.loop-p.p-iterator.left _ c.loop-p.rows p _ _ c.loop-p.invariant
    c.in-Some.ensures.steps c.place_of.ensures.0 (ap (λ (r : ProgramSet). r.bits) (c.holders_of.ensures
    ∙ ap (λ (o : ProgramSet). packed (holders_of a.sets.now p o) 32) c.without-others.ensures)
    ∙ ap (λ (n : ℕ). (packed (holders_of a.sets.now n (without_program a.admitted n)) 32).bits) (sym z))

pub returns : goal.returns
unfolding holder_rows
returns c = let a = c.args in let l = c.loop-p in
    wrote-done a.admitted (row_bits a.sets.now a.admitted) a.rows.now l.p-iterator.left l.rows c.in-None.ensures.steps l.invariant
    ∙ places_same _ _ 32 0 (λ i h m. ap (cond (has_program a.admitted (suc i)) (row_bits a.sets.now a.admitted i))
    (ap (λ (x : List ℕ). get_or x i 0) c.requires ∙ get_or-replicate 32 i 0 0 (omega arith)))
