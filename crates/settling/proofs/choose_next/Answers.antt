use Rattle.std.proofs.Common.{sym, ◌∙◌}
use Rattle.rules.specs.Settling.{candidate}
use Rattle.store.specs.Store.{board_of}
use Rattle.settling.specs.Writing.{written_in}
use Rattle.settling.proofs.Laws.{found_some, found-none, candidate-range, choose-still, run-held-is, favour-is, held_fits, favour-fits}
use Rattle.settling.proofs.choose_next.Goals as goal

pub returns-then-w-ne0 : goal.returns-then-w-ne0
unfolding board_of
returns-then-w-ne0 c = choose-still (written_in c.args.sets.now c.args.lines.now c.args.w) c.if-w-ne0.true

pub favour_waiter-requires : goal.favour_waiter-requires
unfolding board_of
favour_waiter-requires c = let b = board_of c.args.sets.now c.args.w.rest in
    let o = found_some (candidate b) c.in-Some.p (sym c.in-Some.is ∙ c.oldest_unused.ensures) in (
      candidate-range b c.in-Some.p c.requires.0 o,
      favour-fits (written_in c.args.sets.now c.args.lines.now c.args.w) c.in-Some.p c.if-w-ne0.false o c.requires.2,
    )

pub returns-in-Some : goal.returns-in-Some
unfolding board_of
returns-in-Some c = c.favour_waiter.ensures
    ∙ favour-is (written_in c.args.sets.now c.args.lines.now c.args.w) c.in-Some.p c.if-w-ne0.false
    (found_some _ c.in-Some.p (sym c.in-Some.is ∙ c.oldest_unused.ensures))

pub admit_held-requires : goal.admit_held-requires
unfolding board_of
admit_held-requires c = (
  c.requires.0,
  c.requires.1,
  c.if-w-ne0.false,
  held_fits (written_in c.args.sets.now c.args.lines.now c.args.w) c.if-w-ne0.false
      (found-none _ (sym c.in-None.is ∙ c.oldest_unused.ensures)) c.requires.2,
)

pub returns-in-None : goal.returns-in-None
unfolding board_of
returns-in-None c = c.admit_held.ensures
    ∙ run-held-is (written_in c.args.sets.now c.args.lines.now c.args.w) c.if-w-ne0.false
    (found-none _ (sym c.in-None.is ∙ c.oldest_unused.ensures))
