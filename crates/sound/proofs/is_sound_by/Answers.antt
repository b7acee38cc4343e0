use Rattle.std.proofs.Common.{rules, ◌≡◌, sym, ◌∙◌}
use Rattle.laws.specs.Tests.{never}
use Rattle.store.specs.Store.{board_of}
use Rattle.sound.proofs.Laws.{named_waiting}
use Rattle.sound.proofs.Whole.{known_by, sound_is, after_programs, after_waiting, after_entry, after_waiters, after_favour, after_counts}
use Rattle.sound.proofs.is_sound_by.Goals as goal
use Rattle.sound.proofs.is_sound_by.Goals.{then-ordered, else-ordered, then-programs_sound, else-programs_sound, then-line_sound, else-line_sound}
use Rattle.sound.proofs.is_sound_by.Goals.{then-line_sound-2, else-line_sound-2, then-line_waiters, else-line_waiters, then-favour_sound, else-favour_sound}

pub line_waiters-requires : goal.line_waiters-requires
line_waiters-requires c = let a = c.args in let b = board_of a.sets.now a.rest in elim c.if-line_sound.branch [
  | then-line_sound w ↦ elim c.if-programs_sound.branch [
    | then-programs_sound v ↦ elim c.if-ordered.branch [
      | then-ordered u ↦ (
        known_by a.sets.now a.rest a.admitted a.ordered a.waiters a.held c.requires.0 c.sized.ensures u.if-ordered.true
            (sym u.programs_sound.ensures ∙ sym u.value-is ∙ v.if-programs_sound.true),
        named_waiting b a.rest.waiting a.waiters c.requires.0.waiters_are (sym v.line_sound.ensures ∙ sym v.value-is ∙ w.if-line_sound.true),
        c.requires.1,
      )
      | else-ordered u ↦ never v.if-programs_sound.true (u.value-is ∙ u.if-ordered.false)
    ]
    | else-programs_sound v ↦ never w.if-line_sound.true (v.value-is ∙ v.if-programs_sound.false)
  ]
  | else-line_sound w ↦ never c.if-line_sound-2.true (w.value-is ∙ w.if-line_sound.false)
]

pub returns-then-counts_sound : goal.returns-then-counts_sound
returns-then-counts_sound c =
    let s = c.args.sets.now in let r = c.args.rest in let o = c.args.ordered in let w = c.args.waiters in let h = c.args.held in
    let p = c.requires.0 in
    let v1 : c.if-ordered.value ≡ after_programs s r o w h = search rules in
    let v2 : c.if-programs_sound.value ≡ after_waiting s r o w h = search rules in
    let v3 : c.if-line_sound.value ≡ after_entry s r o w h = search rules in
    let v4 : c.if-line_sound-2.value ≡ after_waiters s r o w h = search rules in
    let v5 : c.if-line_waiters.value ≡ after_favour s r o w h = elim c.if-line_waiters.branch [
      | then-line_waiters x ↦ rw (sym v4 ∙ x.if-line_waiters.true) (x.value-is ∙ x.favour_sound.ensures s p.waiters_are p.held_are p.admitted_are)
      | else-line_waiters x ↦ rw (sym v4 ∙ x.if-line_waiters.false) (x.value-is ∙ x.if-line_waiters.false)
    ] in
    let v6 : c.if-favour_sound.value ≡ after_counts s r o w h = search rules in
    c.records_sound.ensures ∙ (rw (sym v6 ∙ c.if-counts_sound.true) at (sound_is s r c.args.admitted o w h p))

pub returns-else-counts_sound : goal.returns-else-counts_sound
returns-else-counts_sound c =
    let s = c.args.sets.now in let r = c.args.rest in let o = c.args.ordered in let w = c.args.waiters in let h = c.args.held in
    let p = c.requires.0 in
    let v1 : c.if-ordered.value ≡ after_programs s r o w h = search rules in
    let v2 : c.if-programs_sound.value ≡ after_waiting s r o w h = search rules in
    let v3 : c.if-line_sound.value ≡ after_entry s r o w h = search rules in
    let v4 : c.if-line_sound-2.value ≡ after_waiters s r o w h = search rules in
    let v5 : c.if-line_waiters.value ≡ after_favour s r o w h = elim c.if-line_waiters.branch [
      | then-line_waiters x ↦ rw (sym v4 ∙ x.if-line_waiters.true) (x.value-is ∙ x.favour_sound.ensures s p.waiters_are p.held_are p.admitted_are)
      | else-line_waiters x ↦ rw (sym v4 ∙ x.if-line_waiters.false) (x.value-is ∙ x.if-line_waiters.false)
    ] in
    let v6 : c.if-favour_sound.value ≡ after_counts s r o w h = search rules in
    c.if-counts_sound.false ∙ (rw (sym v6 ∙ c.if-counts_sound.false) at (sound_is s r c.args.admitted o w h p))
