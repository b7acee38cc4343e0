use Rattle.std.proofs.Common.{rules, ◌≡◌, ◌∙◌, ◌↔◌, slice_index, IsTrue, EachIndex}
use Rattle.files.specs.Bits.{less_bits}
use Rattle.files.specs.Words.{bits_of}
use Rattle.files.proofs.Bits.{less_none, less_lt}
use Rattle.files.proofs.Rows.{all_words, missing_words}
use Rattle.files.proofs.words.within.Goals as goal

pub returns : goal.returns
returns c =
    let s = c.args.s.now in let t = c.args.t.now in
    let none_left : IsTrue c.all.result ↔ EachIndex s (λ k. less_bits (slice_index s k) (slice_index t k) ≡ 0) = search rules in
    all_words (missing_words s t c.requires)
    (λ k. less_lt 64 (slice_index s k) (slice_index t k) (c.type_inv.s k).fits (c.type_inv.t k).fits)
    none_left ∙ less_none (bits_of s) (bits_of t)
