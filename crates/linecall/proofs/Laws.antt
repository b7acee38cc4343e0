-- Laws of the line call. Assumes nothing.
use Prim.Native.Nat.{ℕ, ◌+◌, ◌-◌, ◌<◌, ◌≤◌}
use mathlib.Core.Path.{◌≡◌, refl, ap, sym, ◌∙◌}
use mathlib.Core.List.{List, [], ◌∷◌, ◌++◌, append_assoc, append-nil}
use mathlib.Core.Bool.{true, false}
use lib.Dec.{eqb, ltb}
use lib.ListN.{length, take, drop, length-take}
use native.Mathlib.Omega.{arith}
use borrow.Rule.Slice.PartMut.{put_mid}
use borrow.Author.Tests.{eq-eqb, ne_eqb, lt-ltb, le-ltb, ltb-false}
use Rattle.laws.specs.Tests.{by_test, never}
use Rattle.columns.specs.Rows.{flat, put_at}
use Rattle.columns.proofs.Rows.{put_part}
use Rattle.rules.specs.declared.Line.{Line}
use Rattle.rules.specs.declared.Reply.{Reply}
use Rattle.rules.specs.declared.Board.{Board}
use Rattle.rules.specs.declared.Refusal.{Refusal}
use Rattle.rules.specs.Soundness.{sound}
use Rattle.rules.specs.Replies.{refused, refusal_of, reply, refuse, refuse_unsound}
use Rattle.rules.specs.Calls.{Call, call_of, direct}
use Rattle.apply.proofs.Laws.{apply-same}
use Rattle.theory.specs.Ready.{good}
use Rattle.theory.specs.Sound.{sound_kept}
use Rattle.theory.specs.Worked.{direct_is_apply, apply_fits}
use Rattle.std.specs.Prelude.{Ok, Err}
use Rattle.request.specs.Requests.{Request, request_of}
use Rattle.journal.specs.Journal.{journal_line, journal_room, line_bytes, written}
use Rattle.journal.proofs.Laws.{line-length}
use Rattle.linecall.specs.LineCall.{highest_place, journal_full, refuse_line, lines_for, reply_to, stopped, posted, line_call}

-- the lines of a reply that isn't refused
pub own_lines : (q : Request) (r : Reply) → refusal_of r.answer ≡ 0 → lines_for q r ≡ take r.count r.lines
unfolding lines_for
own_lines q r e = rw (eq-eqb (refusal_of r.answer) 0 e)

pub own_count : (q : Request) (r : Reply) → refusal_of r.answer ≡ 0 → r.count ≤ length r.lines → length (lines_for q r) ≡ r.count
own_count q r e h = ap length (own_lines q r e) ∙ omega (arith, length-take r.count r.lines)

-- the line of a reply that is
pub refused-lines : (q : Request) (r : Reply) → (refusal_of r.answer ≡ 0 → ⊥) → lines_for q r ≡ refuse_line q (refusal_of r.answer) ∷ []
unfolding lines_for
refused-lines q r n = rw (ne_eqb (refusal_of r.answer) 0 n)

-- the journal with one line put at `&mut journal[p..]`
pub put_one : (j last : List ℕ) (l : Line) (p : ℕ) → last ≡ line_bytes l ++ drop journal_line (take (length j - p) (drop p j))
    → put_mid p (length j - p) j last ≡ written j p (l ∷ [])
unfolding written flat put_at
put_one j last l p e =
    put_part p (line_bytes l) j last (e ∙ rw (line-length l)) ∙ rw (append-nil (line_bytes l)) (sym (append_assoc (take p j) (line_bytes l) _))

-- ---- the line call

refuse_count : (b : Board) (r : Refusal) → (refuse b r).count ≤ 32
unfolding refuse reply
refuse_count b r = omega arith

-- a reply to a line, of a sound board, has at most 32 lines
pub reply_fits : (b : Board) (q : Request) → length b.programs ≡ 32 → sound b ≡ true → (reply_to b q).count ≤ 32
unfolding reply_to
reply_fits b (Ok a) z s = rw (direct_is_apply b (call_of a) s) (apply_fits b (call_of a) (good b z s)).lines_fit
reply_fits b (Err r) z s = refuse_count b r

-- the line call's results, check by check
pub call_unsound : (b : Board) (line journal : List ℕ) (place : ℕ) → sound b ≡ false
    → line_call b line journal place ≡ stopped (refuse_unsound b) journal place
unfolding line_call
call_unsound b line journal place s = rw s

pub call_full : (b : Board) (line journal : List ℕ) (place : ℕ) → sound b ≡ true → journal_full (length journal) place ≡ true
    → line_call b line journal place ≡ stopped (refuse b Refusal.JournalFull) journal place
unfolding line_call
call_full b line journal place s f = rw (s, f)

pub call_posted : (b : Board) (line journal : List ℕ) (place : ℕ) → sound b ≡ true → journal_full (length journal) place ≡ false
    → line_call b line journal place ≡ posted (request_of line) (reply_to b (request_of line)) journal place
unfolding line_call
call_posted b line journal place s f = rw (s, f)

-- what check 2 leaves
pub room : (n place : ℕ) → journal_full n place ≡ false → (place ≤ highest_place) × (place + journal_room ≤ n)
room n place h =
    by_test (ltb highest_place place) (λ e. never {t = true} refl (rw e at h))
    (λ e. (ltb-false highest_place place e, ltb-false n (place + journal_room) (rw e at h)))

-- ---- the place after a line call

lines-most : (q : Request) (r : Reply) → r.count ≤ 32 → length (lines_for q r) ≤ 32
unfolding lines_for
lines-most q r h = by_test (eqb (refusal_of r.answer) 0) (λ e. rw e (omega (arith, length-take r.count r.lines))) (λ e. rw e (omega arith))

-- at most the room that was asked for is written
pub place_fits : (b : Board) (line journal : List ℕ) (place : ℕ) → length b.programs ≡ 32 → (line_call b line journal place).place ≤ place + journal_room
unfolding line_call posted
place_fits b line journal place z =
    by_test (sound b)
    (λ s. by_test (journal_full (length journal) place) (λ f. rw (s, f) (omega arith))
    (λ f. rw (s, f) (omega (arith, lines-most (request_of line) (reply_to b (request_of line)) (reply_fits b (request_of line) z s)))))
    (λ s. rw s (omega arith))

-- ---- the board after a line call

refuse-board : (b : Board) (r : Refusal) → (refuse b r).board ≡ b
unfolding refuse reply
refuse-board b r = refl

reply-sound : (b : Board) (q : Request) → length b.programs ≡ 32 → sound b ≡ true → sound (reply_to b q).board ≡ true
unfolding reply_to
reply-sound b (Ok a) z s = rw (direct_is_apply b (call_of a) s) (sound_kept b (call_of a) z s).0
reply-sound b (Err r) z s = rw (refuse-board b r) s

-- a line call keeps a sound board sound
pub line-sound : (b : Board) (line journal : List ℕ) (place : ℕ) → length b.programs ≡ 32 → sound b ≡ true
    → sound (line_call b line journal place).reply.board ≡ true
unfolding line_call posted
line-sound b line journal place z s =
    by_test (journal_full (length journal) place)
    (λ f. rw (s, f, refuse-board b Refusal.JournalFull) s)
    (λ f. rw (s, f) (reply-sound b (request_of line) z s))

-- a refused one is the board as it was
direct-same : (b : Board) (c : Call) → refused (direct b c).answer ≡ true → (direct b c).board ≡ b
unfolding direct refuse_unsound
direct-same b c n =
    by_test (sound b) (λ s. rw s (apply-same b c (rw s at n)))
    (λ s. rw s)

reply-same : (b : Board) (q : Request) → refused (reply_to b q).answer ≡ true → (reply_to b q).board ≡ b
unfolding reply_to refuse reply
reply-same b (Ok a) n = direct-same b (call_of a) n
reply-same b (Err r) n = refl

pub refused-same : (b : Board) (line journal : List ℕ) (place : ℕ) → refused (line_call b line journal place).reply.answer ≡ true
    → (line_call b line journal place).reply.board ≡ b
unfolding line_call posted refuse reply refuse_unsound
refused-same b line journal place n =
    by_test (sound b)
    (λ s. by_test (journal_full (length journal) place) (λ f. rw (s, f))
    (λ f. rw (s, f) (reply-same b (request_of line) (rw (s, f) at n))))
    (λ s. rw s)
