use Rattle.std.proofs.Common.{◌≡◌, true, false, eqb, ◌<◌, ◌^◌, length, sym, ap₂, ◌∙◌, rules}
use Rattle.laws.specs.Lists.{names}
use Rattle.sound.specs.Parts.{takes}
use Rattle.sound.proofs.Named.{named_line}
use Rattle.sound.proofs.line_sound.Goals as goal

pub returns-then-takes_all : goal.returns-then-takes_all
returns-then-takes_all c =
    let small : c.args.set.bits < 2 ^ 32 = search rules in
    let long : length c.args.line ≡ 32 = search rules in
    let taken : takes (names c.args.line) c.args.set ≡ true = sym c.takes_all.ensures ∙ c.if-takes_all.true in
    ap₂ eqb c.count_named.ensures (c.from.ensures ∙ c.count.ensures.0) ∙ (rw taken at (named_line c.args.line c.args.set small long))

pub returns-else-takes_all : goal.returns-else-takes_all
returns-else-takes_all c =
    let small : c.args.set.bits < 2 ^ 32 = search rules in
    let long : length c.args.line ≡ 32 = search rules in
    let left : takes (names c.args.line) c.args.set ≡ false = sym c.takes_all.ensures ∙ c.if-takes_all.false in
    c.if-takes_all.false ∙ (rw left at (named_line c.args.line c.args.set small long))
