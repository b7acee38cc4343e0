use Rattle.std.proofs.Common.{rules, arith, ◌≡◌, length, refl, below_more}
use Rattle.laws.specs.Lists.{keep, padded, without}
use Rattle.lines.proofs.Laws.{kept_p, kept_other, kept_short, names_before}
use Rattle.lines.proofs.remove.Goals as goal
use Rattle.lines.proofs.remove.Goals.{then-x-p, else-x-p}

pub loop-x-init : goal.loop-x-init
unfolding padded without keep
loop-x-init c = record { kept = record { line_is = refl; count_is = refl }; named = λ j h. absurd (omega arith) }

pub bounds-kept-n : goal.bounds-kept-n
bounds-kept-n c =
    let l = c.args.line in
    let size : length l ≡ 32 = search rules in
    let short = kept_short c.args.p l c.loop-x.x-index size c.loop-x.kept c.loop-x.n c.loop-x.invariant.kept c.loop-x.auto.x-index-end in
    omega arith

pub overflow_add-n : goal.overflow_add-n
overflow_add-n c =
    let l = c.args.line in
    let size : length l ≡ 32 = search rules in
    let short = kept_short c.args.p l c.loop-x.x-index size c.loop-x.kept c.loop-x.n c.loop-x.invariant.kept c.loop-x.auto.x-index-end in
    omega arith

pub loop-x-preserved : goal.loop-x-preserved
loop-x-preserved c =
    let l = c.args.line in let k = c.loop-x.x-index in
    let size : length l ≡ 32 = search rules in
    record {
      kept = elim c.if-x-p.branch [
        | then-x-p w ↦ rw (w.kept-is, w.n-is) (kept_other c.args.p l k size c.loop-x.kept c.loop-x.n c.loop-x.invariant.kept c.loop-x-test.true w.if-x-p.true)
        | else-x-p w ↦ rw (w.kept-is, w.n-is) (kept_p c.args.p l k size c.loop-x.kept c.loop-x.n c.loop-x.invariant.kept c.loop-x-test.true w.if-x-p.false)
      ];
      named = below_more _ _ c.loop-x.invariant.named c.if-x-eq0.false;
    }

pub returns-then-x-eq0 : goal.returns-then-x-eq0
returns-then-x-eq0 c =
    let l = c.args.line in let k = c.loop-x.x-index in let i = c.loop-x.invariant in
    let size : length l ≡ 32 = search rules in
    rw (names_before l k (omega arith) i.named (λ h. c.if-x-eq0.true)) i.kept.line_is

pub returns : goal.returns
returns c =
    let l = c.args.line in let k = c.loop-x.x-index in let i = c.loop-x.invariant in
    let size : length l ≡ 32 = search rules in
    rw (names_before l k (omega arith) i.named (λ h. absurd (omega arith))) i.kept.line_is
