use Rattle.std.proofs.Common.{arith, ap, length}
use Rattle.files.specs.Sets.{member}
use Rattle.request.specs.Requests.{files_of}
use Rattle.writer.proofs.Laws.{count_more, files_end, one_at_most}
use Rattle.writer.proofs.count.Goals as goal

pub loop-f-init : goal.loop-f-init
unfolding files_of
loop-f-init c = record { few = omega arith; counted = omega arith }

pub loop-f-preserved : goal.loop-f-preserved
loop-f-preserved c =
    let l = c.loop-f in
    let m = member c.args.s in
    let e = count_more m l.f (omega arith) in
    record {
      few = omega (arith, c.counted-n.ensures, one_at_most (m l.f));
      counted = omega (arith, l.invariant.counted, c.counted-n.ensures, e);
    }

pub returns : goal.returns
returns c =
    let l = c.loop-f in
    let n = ap length (files_end (member c.args.s) l.f (omega arith)) in
    record { value = omega (arith, l.invariant.counted, n); few = omega arith }
