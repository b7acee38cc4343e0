use Rattle.std.proofs.Common.{arith, sym, ap, refl, length, ◌∙◌}
use Rattle.files.specs.Sets.{member}
use Rattle.request.specs.Requests.{files_of}
use Rattle.writer.proofs.Laws.{count_more, columns_if_lem, files_end, put_step, ends}
use Rattle.writer.proofs.put_files.Goals as goal

pub loop-f-init : goal.loop-f-init
unfolding files_of
loop-f-init c = record { place = refl; written = refl }

pub put_file-at-requires : goal.put_file-at-requires
put_file-at-requires c =
    let l = c.loop-f in
    let m = member c.args.s in
    omega (arith, count_more m l.f (omega arith), columns_if_lem (m l.f) l.f, c.requires, l.invariant.place)

pub loop-f-preserved : goal.loop-f-preserved
loop-f-preserved c =
    let l = c.loop-f in
    let m = member c.args.s in
    let k = c.put_file-at in
    let e = count_more m l.f (omega arith) in
    let d = columns_if_lem (m l.f) l.f in
    record {
      place = omega (arith, e, d, l.invariant.place, k.ensures.value);
      written = l.invariant.written ∙ put_step m l.f l.at k.result l.line k.new.line (omega arith)
          (omega (arith, e, d, c.requires, l.invariant.place)) k.ensures.value k.ensures.line_after;
    }

pub returns : goal.returns
returns c =
    let l = c.loop-f in
    let m = member c.args.s in
    let n = ap length (files_end m l.f (omega arith)) in
    record { value = omega (arith, n, l.invariant.place); line_after = sym (l.invariant.written ∙ ends m l.f l.at l.line (omega arith)) }
