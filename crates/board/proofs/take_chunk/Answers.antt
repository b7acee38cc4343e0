-- What is taken follows on what was taken before.
use Rattle.std.proofs.Common.{rules, ◌-◌, ◌≡◌, ◌∙◌, [], List, ℕ, ap, sym, refl, length, take, drop, length-drop, arith}
use Rattle.std.proofs.Math.Seq.{take_all}
use Rattle.store.specs.Store.{board_of}
use Rattle.board.specs.Input.{held, flushed, fed}
use Rattle.board.proofs.Laws.{rest_goes_on, rest_done}
use Rattle.board.proofs.take_chunk.Goals as goal

pub loop-rest-preserved : goal.loop-rest-preserved
loop-rest-preserved g c =
    let l = c.loop-rest in
    let i = l.invariant in
    let k = c.take_part-taken in
    let r = k.ensures.rest_after in
    let s = k.result.0 in
    let n = k.result.1 in
    let left : take (length l.rest.now - n) (drop n l.rest.now) ≡ drop n l.rest.now =
    take_all _ _ (omega (arith, length-drop n l.rest.now)) in
    record {
      kept_within = r.1;
      written = refl;
      room_kept = k.auto.kept ∙ i.room_kept;
      room_journal = k.auto.journal ∙ i.room_journal;
      taken = ap (λ (x : List ℕ). flushed (fed (held (board_of k.new.sets s.rest) (take s.kept k.new.kept) []) x)) left
          ∙ rest_goes_on (held (board_of l.sets l.s.rest) (take l.s.kept l.kept) []) _ _ l.rest.now n k.ensures.journal_after refl
          ∙ i.taken;
      is_sound = r.0;
      stays_failed = λ h. c.flush-written.ensures (i.stays_failed h);
    }

pub returns-clause-kept_after : goal.returns-clause-kept_after
returns-clause-kept_after g c =
    let l = c.loop-rest in
    let e : length l.rest.now ≡ 0 = search rules in
    sym (rest_done (held (board_of l.sets l.s.rest) (take l.s.kept l.kept) []) l.rest.now e) ∙ l.invariant.taken
