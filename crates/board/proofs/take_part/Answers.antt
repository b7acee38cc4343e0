-- A line is served, and what is left of the part is kept.
use Rattle.std.proofs.Common.{◌≤◌, ◌∙◌, length, take, length-take, arith}
use Rattle.request.specs.Verbs.{cut_line}
use Rattle.store.specs.Store.{board_of}
use Rattle.board.proofs.Laws.{part_begins, part_over, part_goes_on, line_within_part}
use Rattle.board.proofs.take_part.Goals as goal

pub loop-n-init : goal.loop-n-init
loop-n-init c =
    let a = c.args in
    let r = c.requires.rest_value in
    let p = c.requires.place_value in
    record {
      in_part = omega arith;
      kept_within = r.1;
      room = omega (arith, p.0);
      room_kept = r.2;
      room_journal = p.1;
      taken = part_begins (board_of a.sets.now a.start.rest) (take a.start.kept a.kept.now) a.journal.now a.part.now a.start.place p.0;
      is_sound = r.0;
    }

pub returns-then-s-gt-LAST_PLACE-clause-journal_after : goal.returns-then-s-gt-LAST_PLACE-clause-journal_after
returns-then-s-gt-LAST_PLACE-clause-journal_after c =
    let l = c.loop-n in
    let k = c.end_line-s in
    part_goes_on _ (board_of l.sets l.s.rest) (take l.s.kept l.kept) (take l.s.place l.journal) c.args.part.now l.at
    (omega (arith, length-take l.s.kept l.kept)) l.invariant.in_part l.invariant.taken
    _ k.new.kept _ c.in-Some.n k.result.kept _ c.in-Some.ensures k.ensures.rest_after.1 (omega arith) k.ensures.journal_after

pub loop-n-preserved : goal.loop-n-preserved
loop-n-preserved c =
    let l = c.loop-n in
    let k = c.end_line-s in
    let b = board_of l.sets l.s.rest in
    let short : length (take l.s.kept l.kept) ≤ cut_line = omega (arith, length-take l.s.kept l.kept) in
    record {
      in_part = line_within_part _ b (take l.s.kept l.kept) (take l.s.place l.journal) c.args.part.now l.at short l.invariant.in_part
          l.invariant.taken c.in-Some.n c.in-Some.ensures;
      kept_within = omega (arith, k.ensures.rest_after.1);
      room = omega (arith, c.if-s-gt-LAST_PLACE.false);
      room_kept = k.auto.kept ∙ l.invariant.room_kept;
      room_journal = k.auto.journal ∙ l.invariant.room_journal;
      taken = part_goes_on _ b (take l.s.kept l.kept) (take l.s.place l.journal) c.args.part.now l.at short l.invariant.in_part
          l.invariant.taken _ k.new.kept _ c.in-Some.n k.result.kept _ c.in-Some.ensures k.ensures.rest_after.1 (omega arith)
          k.ensures.journal_after;
      is_sound = k.ensures.rest_after.0;
    }

pub returns-clause-journal_after : goal.returns-clause-journal_after
returns-clause-journal_after c =
    let l = c.loop-n in
    part_over _ (board_of l.sets l.s.rest) (take l.s.kept l.kept) (take l.s.place l.journal) c.args.part.now l.at
    (omega (arith, length-take l.s.kept l.kept)) l.invariant.in_part l.invariant.taken
    c.keep.new.kept c.keep.result c.in_default.ensures c.keep.ensures.kept_after
