use mathlib.Core.Path.{refl, sym, ◌∙◌}
use borrow.Author.Tests.{eq-eqb}
use lib.ListN.{length}
use Rattle.image.specs.Image.{image_length}
use Rattle.settling.specs.Writing.{written_in}
use Rattle.apply.specs.Replies.{replied}
use Rattle.store.specs.Store.{board_of}
use Rattle.host.proofs.Laws
use Rattle.host.proofs.lock_board_line.Goals as goal

pub returns-in_default : goal.returns-in_default
returns-in_default c =
    let a = c.args in
    let e = Laws.host_refused a.image.now a.line.now a.journal.now a.place c.in_default.ensures in
    record { value = rw e c.answer_for.ensures; image_after = rw e; journal_after = rw e }

pub line-served-requires : goal.line-served-requires
line-served-requires c =
    let r = Laws.image_read c.args.image.now (board_of c.take_image.new.sets c.in-Some.rest) c.in-Some.ensures in
    (r.1, refl)

pub returns-then-n-eq0 : goal.returns-then-n-eq0
returns-then-n-eq0 c =
    let a = c.args in
    let b = board_of c.take_image.new.sets c.in-Some.rest in
    let read = Laws.image_read a.image.now b c.in-Some.ensures in
    let l = c.line-served in
    let h = Laws.host_by a.image.now a.line.now a.journal.now a.place c.of_answer-n.result l.result.place
    (replied (written_in l.new.sets l.new.lines l.result.changed.progress) l.result.changed.answer) l.new.journal b read.0
    l.ensures.comes_to l.ensures.place_value l.ensures.journal_after c.of_answer-n.ensures in
    let z = c.if-n-eq0.true in
    let long = Laws.accepted_long a.image.now b read.0 in
    record {
      value = sym (h.answer ∙ Laws.answer_done _ _ z);
      image_after = (rw (eq-eqb (length a.image.now) image_length long) at c.put_image_of.ensures.out_after)
          ∙ sym (h.image-after ∙ Laws.image_done _ _ _ z);
      journal_after = sym h.journal-after;
    }

pub returns : goal.returns
returns c =
    let a = c.args in
    let b = board_of c.take_image.new.sets c.in-Some.rest in
    let read = Laws.image_read a.image.now b c.in-Some.ensures in
    let l = c.line-served in
    let h = Laws.host_by a.image.now a.line.now a.journal.now a.place c.of_answer-n.result l.result.place
    (replied (written_in l.new.sets l.new.lines l.result.changed.progress) l.result.changed.answer) l.new.journal b read.0
    l.ensures.comes_to l.ensures.place_value l.ensures.journal_after c.of_answer-n.ensures in
    record {
      value = c.answer_for-2.ensures ∙ sym h.answer;
      image_after = sym (h.image-after ∙ Laws.image_kept _ _ _ c.if-n-eq0.false);
      journal_after = sym h.journal-after;
    }
