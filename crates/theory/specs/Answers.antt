-- The answer comes first: the lines of a direct call begin with that of its answer, and a refused call has none.
-- Assumes nothing.
use Rattle.std.specs.Prelude.{◌≡◌, refl, true, false, List, [], ◌∷◌, ◌++◌, eqb, drop}
use Rattle.std.proofs.Common.{sym, ◌∙◌, ap, subst}
use Rattle.laws.specs.Tests.{by_test, by_option, never}
use Rattle.rules.specs.declared.Board.{Board}
use Rattle.rules.specs.declared.Answer.{Answer}
use Rattle.rules.specs.declared.Word.{Word}
use Rattle.rules.specs.declared.Line.{Line}
use Rattle.rules.specs.declared.Reply.{Reply}
use Rattle.rules.specs.Boards.{at, set_program, closing, dropping}
use Rattle.rules.specs.Orders.{in_use, safe, taken}
use Rattle.rules.specs.Soundness.{sound}
use Rattle.rules.specs.Settling.{line_of, Step, still, overdue, favour, settle}
use Rattle.rules.specs.Replies.{refused, word_of, blank, reply, refuse, refuse_unsound, lines_of, settling_lines}
use Rattle.rules.specs.Calls.{hold, hold_for, enter, open_file, done, close_file, drop_file, leave, Call, Enter, Open, Close, Drop, Leave}
use Rattle.rules.specs.Calls.{Cancel, Fetch, Return, withdrawn, cancel, fetch, finish, return_item, program_of, file_of, item_of, checked, accepted}
use Rattle.rules.specs.Calls.{direct}
use Rattle.theory.specs.Calls.{take_padded, by_check, apply-accepted, apply-refused}

-- ══ The statement ══

-- "The answer comes first": the lines of a call that isn't refused are the answer's word with the call's program, file and record,
-- then that of the record handed on, and those of settling, or of favouring by an enter
abbrev pub AnswerFirst : Type 0
AnswerFirst = (b : Board) (c : Call) → refused (direct b c).answer ≡ false
    → lines_of (direct b c) ≡ line_of (word_of (direct b c).answer) (program_of c) (file_of c) (item_of c) ∷ settling_lines (direct b c)

-- "refused, it has no lines"
abbrev pub NoLinesRefused : Type 0
NoLinesRefused = (b : Board) (c : Call) → refused (direct b c).answer ≡ true → lines_of (direct b c) ≡ []

-- ══ The proofs ══

-- The reply is no refusal, and its first line is that of its answer.
pub record Answered (c : Call) (r : Reply) : Type 0 where
  pub accepted-it : refused r.answer ≡ false
  pub first : lines_of r ≡ line_of (word_of r.answer) (program_of c) (file_of c) (item_of c) ∷ settling_lines r

replied : (b : Board) (c : Call) (a : Answer) (ls : List Line) → refused a ≡ false
    → Answered c (reply b a (line_of (word_of a) (program_of c) (file_of c) (item_of c) ∷ ls))
unfolding reply
replied b c a ls h =
    let l = line_of (word_of a) (program_of c) (file_of c) (item_of c) in
    let e = take_padded blank (l ∷ ls) in record { accepted-it = h; first = e ∙ ap (l ∷◌) (sym (ap (drop 1) e)) }

finish-answered : (s : Step) (c : Call) → item_of c ≡ 0 → Answered c (finish s (program_of c) (file_of c))
unfolding finish
finish-answered s c z = let t = settle s.board in
    subst (λ r. Answered c (reply t.board Answer.Done (line_of Word.Done (program_of c) (file_of c) r ∷ (s.lines ++ t.lines)))) z
    (replied t.board c Answer.Done (s.lines ++ t.lines) refl)

pub accepted-answered : (b : Board) (c : Call) → Answered c (accepted b c)
unfolding enter hold_for open_file close_file drop_file leave cancel done fetch return_item
accepted-answered b (Enter p v q j) =
    by_test (eqb b.favoured 0)
    (λ e. by_option (overdue b) (λ u. rw (e, u) (replied _ (Enter p v q j) Answer.Admit [] refl))
    (λ w u. rw (e, u) (replied _ (Enter p v q j) Answer.Held (favour (hold b p v q j) w).lines refl)))
    (λ e. rw e (replied _ (Enter p v q j) Answer.Held [] refl))
accepted-answered b (Open p f) =
    by_test (in_use b p f) (λ e. rw e (replied _ (Open p f) Answer.Wait [] refl))
    (λ e. by_test (safe b p f) (λ s. rw (e, s) (replied _ (Open p f) Answer.Given [] refl))
    (λ s. rw (e, s) (replied _ (Open p f) Answer.Unsafe [] refl)))
accepted-answered b (Close p f) = finish-answered (still (set_program b p (closing (at b p) f))) (Close p f) refl
accepted-answered b (Drop p f) = finish-answered (still (set_program b p (dropping (at b p) f))) (Drop p f) refl
accepted-answered b (Leave p) = finish-answered _ (Leave p) refl
accepted-answered b (Cancel p) = finish-answered (still (withdrawn b p (at b p).standing)) (Cancel p) refl
accepted-answered b (Fetch p f r) =
    by_test (taken b p f r) (λ e. rw e (replied _ (Fetch p f r) Answer.Wait [] refl)) (λ e. rw e (replied _ (Fetch p f r) Answer.Given [] refl))
accepted-answered b (Return p) = finish-answered _ (Return p) refl

pub answer-first : AnswerFirst
unfolding direct refuse_unsound refuse reply
answer-first b c h =
    by_test (sound b)
    (λ s. rw s (by_check (checked b c) (λ e. rw (apply-accepted b c e) (accepted-answered b c).first)
    (λ r e. never {t = true} refl (sym (ap (λ (q : Reply). refused q.answer) (apply-refused b c r e)) ∙ (rw s at h)))))
    (λ s. never {t = true} refl (rw s at h))

pub no-lines-refused : NoLinesRefused
unfolding direct refuse_unsound refuse reply
no-lines-refused b c h =
    by_test (sound b)
    (λ s. rw s (by_check (checked b c)
    (λ e. never (sym (ap (λ (q : Reply). refused q.answer) (apply-accepted b c e)) ∙ (rw s at h)) (accepted-answered b c).accepted-it)
    (λ r e. rw (apply-refused b c r e))))
    (λ s. rw s)
