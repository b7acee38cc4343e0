use Rattle.std.proofs.Common.{rules, ◌≡◌, ◌↔◌, slice_index, IsTrue, EachIndex, not}
use lib.Bits.{bit_and, and_lt}
use Rattle.files.proofs.Rows.{any_words, shared_words}
use Rattle.files.proofs.words.meets.Goals as goal

pub returns : goal.returns
returns c =
    let s = c.args.s.now in let t = c.args.t.now in
    let none_shared : IsTrue (not c.any.result) ↔ EachIndex s (λ k. bit_and (slice_index s k) (slice_index t k) ≡ 0) = search rules in
    any_words (shared_words s t c.requires) c.any.result
    (λ k. and_lt 64 (slice_index s k) (slice_index t k) (c.type_inv.s k).fits (c.type_inv.t k).fits)
    none_shared
