use Rattle.std.proofs.Common.{◌∙◌, ap, arith, get_or, not, sym}
use borrow.Author.Tests.{eqb-false}
use Rattle.laws.specs.Tests.{not_true}
use Rattle.files.specs.Words.{set_of}
use Rattle.files.proofs.Rows.{some_word, no_word}
use Rattle.parts.proofs.Laws.{clashes_touch, clash-words, clash_word}
use Rattle.parts.proofs.modes.touches.Goals as goal

pub returns-then-clash : goal.returns-then-clash
returns-then-clash c =
    let w = c.args.w.now in let r = c.args.r.now in let i = c.args.i.now in
    let v = c.args.v.now in let q = c.args.q.now in let j = c.args.j.now in let k = c.loop-k.k in let t = c.type_inv in
    let fits = clash_word (get_or w k 0) (get_or r k 0) (get_or i k 0) (get_or v k 0) (get_or q k 0) (get_or j k 0)
    (t.w k).fits (t.r k).fits (t.i k).fits (t.v k).fits (t.q k).fits (t.j k).fits in
    sym (sym (clashes_touch (set_of w) (set_of r) (set_of i) (set_of v) (set_of q) (set_of j))
    ∙ ap not (some_word (clash-words w r i v q j c.requires) k c.loop-k-test.true fits
    (eqb-false _ 0 (not_true _ (sym c.clash.ensures ∙ c.if-clash.true)))))

pub returns : goal.returns
returns c =
    let w = c.args.w.now in let r = c.args.r.now in let i = c.args.i.now in
    let v = c.args.v.now in let q = c.args.q.now in let j = c.args.j.now in
    sym (sym (clashes_touch (set_of w) (set_of r) (set_of i) (set_of v) (set_of q) (set_of j))
    ∙ ap not (no_word (clash-words w r i v q j c.requires) (λ n h. c.loop-k.invariant n (omega arith))))
