use Rattle.std.proofs.Common.{rules, ◌≡◌, ◌≢◌, ◌<◌, ℕ, length, slice_index, MatchOption, EachIndex}
use Rattle.lines.proofs.Laws.{names_counted}
use Rattle.lines.proofs.count_names.Goals as goal

pub returns : goal.returns
returns c =
    let l = c.args.line in
    let first : MatchOption c.position.result (EachIndex l (λ k. slice_index l k ≢ 0))
    (λ k. (k < length l) × (slice_index l k ≡ 0) × ((j : ℕ) → j < k → slice_index l j ≢ 0)) = search rules in
    let unwrapped : MatchOption c.position.result (c.unwrap_or.result ≡ 32) (λ k. c.unwrap_or.result ≡ k) = search rules in
    names_counted l c.position.result c.unwrap_or.result (search rules) unwrapped first
