use Rattle.std.proofs.Common.{rules, ◌≡◌, ◌∙◌, ap, List, ℕ, length, replicate, set}
use Rattle.files.specs.Words.{set_of}
use Rattle.files.proofs.Rows.{words_for_lem}
use Rattle.files.proofs.words.put.Goals as goal

pub returns-clause-s_after_2 : goal.returns-clause-s_after_2
returns-clause-s_after_2 c =
    let zeros : c.fill.new.self ≡ replicate (length c.args.s.now) 0 = search rules in
    ap (λ (s : List ℕ). set_of (set s 0 c.args.t.bits)) zeros ∙ words_for_lem (length c.args.s.now) c.args.t c.requires (search rules)
