-- What the answer to a line carries. Assumes nothing.
use Prim.Native.Nat.{ℕ}
use mathlib.Core.Path.{◌≡◌, refl, sym, ◌∙◌, ap}
use mathlib.Core.Logic.{inl, inr}
use mathlib.Core.Bool.{true, false}
use mathlib.Core.List.{List, []}
use lib.ListN.{length}
use Rattle.laws.specs.Tests.{by_test, never}
use Rattle.rules.specs.declared.Board.{Board}
use Rattle.rules.specs.declared.Reply.{Reply}
use Rattle.rules.specs.Soundness.{sound}
use Rattle.rules.specs.Replies.{reply, refuse, refuse_unsound}
use Rattle.rules.specs.Calls.{Call, direct}
use Rattle.rules.specs.Digraph.{is_unsafe, may_carry}
use Rattle.std.specs.Prelude.{Ok, Err}
use Rattle.request.specs.Requests.{Request, request_of, request_call}
use Rattle.digraph.specs.declared.Loop.{Loop}
use Rattle.digraph.specs.Loops.{named, CarriedBy}
use Rattle.linecall.specs.LineCall.{journal_full, reply_to, posted, line_call}

reply_unsafe : (b : Board) (q : Request) → is_unsafe (reply_to b q).answer ≡ true → reply_to b q ≡ direct b (request_call q)
unfolding reply_to refuse reply
reply_unsafe b (Ok a) e = refl
reply_unsafe b (Err r) e = never {t = false} e refl

line_unsafe : (b : Board) (line journal : List ℕ) (place : ℕ) → is_unsafe (line_call b line journal place).reply.answer ≡ true
    → (line_call b line journal place).reply ≡ direct b (request_call (request_of line))
unfolding line_call posted refuse reply refuse_unsound
line_unsafe b line journal place e = by_test (sound b)
    (λ s. by_test (journal_full (length journal) place)
    (λ f. never {t = false} (rw (s, f) at e) refl)
    (λ f. rw (s, f) (reply_unsafe b (request_of line) (rw (s, f) at e))))
    (λ s. never {t = false} (rw s at e) refl)

-- the loop of the reply is the loop of the line's call
pub line_carries : (b : Board) (line journal : List ℕ) (place : ℕ) (r : Reply) (l : Loop) → r ≡ (line_call b line journal place).reply
    → CarriedBy b r l → may_carry b (request_call (request_of line)) r.answer (named l) ≡ true
line_carries b line journal place r l e f = f (request_call (request_of line)) (by_test (is_unsafe r.answer)
    (λ t. inl (e ∙ line_unsafe b line journal place (ap (λ (x : Reply). is_unsafe x.answer) (sym e) ∙ t))) inr)

-- a board that isn't sound is answered by a refusal, which carries none
pub unsound_carries : (b : Board) (c : Call) (r : Reply) → r ≡ refuse_unsound b → may_carry b c r.answer [] ≡ true
unfolding refuse_unsound
unsound_carries b c r e = ap (λ (x : Reply). may_carry b c x.answer []) e
