use Rattle.std.proofs.Common.{rules, ◌≡◌, ◌↔◌, length, slice_index, IsTrue, EachIndex, refl}
use Rattle.files.proofs.Rows.{all_words, row_words}
use Rattle.files.proofs.words.is_empty.Goals as goal

pub returns : goal.returns
returns c =
    let s = c.args.s.now in
    let zeros : IsTrue c.all.result ↔ EachIndex s (λ k. slice_index s k ≡ 0) = search rules in
    all_words (row_words s (length s) refl) (λ k. (c.type_inv.s k).fits) zeros
