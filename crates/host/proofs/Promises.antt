-- The proofs of what demands 1 and 2 say of a line call and of a C host's call.
-- Assumes nothing.
use Prim.Native.Nat.{ℕ, ◌+◌, ◌-◌, ◌*◌, ◌≤◌, ◌<◌}
use native.Mathlib.Omega.{arith}
use mathlib.Core.Path.{◌≡◌, refl, sym, ap, ◌∙◌}
use mathlib.Core.Logic.{◌⊎◌, ⊎_elim, ◌≢◌}
use mathlib.Core.Bool.{true}
use mathlib.Core.List.{List, [], ◌++◌}
use lib.Dec.{eqb, leb}
use lib.ListN.{length, get_or, take, drop, length-append, get_or-append}
use lib.Seq.{get_or-append-add, get_or-take, get_or-drop, length-take-le}
use borrow.Author.Tests.{eq-eqb, leb-true}
use Rattle.std.specs.Prelude.{Err}
use Rattle.laws.specs.Tests.{by_test, never, and_right, not_true}
use Rattle.files.specs.Sets.{no_files}
use Rattle.rules.specs.declared.Board.{Board}
use Rattle.rules.specs.declared.Refusal.{Refusal}
use Rattle.rules.specs.declared.Answer.{Answer}
use Rattle.rules.specs.declared.Line.{Line}
use Rattle.rules.specs.declared.Reply.{Reply}
use Rattle.rules.specs.Boards.{empty_board}
use Rattle.rules.specs.Soundness.{sound}
use Rattle.rules.specs.Replies.{order_of, number, refusal_of, refused, reply, refuse, refuse_unsound}
use Rattle.rules.specs.Checks.{enter_check, open_check, leave_check}
use Rattle.rules.specs.Worked.{worked_from, worked}
use Rattle.rules.specs.Calls.{Call, Enter, Open, Leave, call_of, checked, accepted, apply, direct}
use Rattle.theory.specs.Calls.{by_check, apply-accepted, apply-refused}
use Rattle.theory.specs.Worked.{worked-sound, direct_is_apply, reply-order, order-carried as apply-order}
use Rattle.theory.specs.Answers.{accepted-answered}
use Rattle.std.specs.Prelude.{Ok, Err, is_ok}
use Rattle.request.specs.Requests.{Request, request_of, request_call}
use Rattle.request.specs.Law.{InRange, saying}
use Rattle.request.proofs.Verbs.{call_good}
use Rattle.request.proofs.Lines.{line_read, read-line}
use Rattle.journal.specs.Journal.{journal_line, lines_bytes, written}
use Rattle.journal.proofs.Laws.{lines-length}
use Rattle.image.specs.Image.{image_of}
use Rattle.image.proofs.RoundTrip.{loaded_back, loaded_again}
use Rattle.linecall.specs.LineCall.{Outcome, journal_full, lines_for, reply_to, stopped, posted, line_call}
use Rattle.linecall.proofs.Laws.{call_unsound, call_full, room, refused-same}
use Rattle.host.specs.Host.{Hosted, order_now, hosted_by}
use Rattle.host.specs.Promises.{LineDoesItsCall, LineRefused, RefusedKeepsBoard, WritesNothing, OtherBytesKept, ReadsBack}
use Rattle.host.specs.Promises.{AcceptedIsWritten, RefusedKeepsImage, LineNeverOutOfRange, DirectOutOfRange}
use Rattle.host.specs.Promises.{AnswerWrittenFirst, OrderCarried}
use Rattle.host.proofs.Laws.{number_some, image_read, image_sound, host_refused, host_called, image_kept}
use Rattle.host.proofs.Range.{of_line, line_reads, not_eight, range_checked}
use Rattle.host.proofs.Answers.{by_request, accepted-number, number-accepted, first-line, written-first}

-- ══ Lines ══

says_reply : (b : Board) (c : Call) → reply_to b (saying c) ≡ direct b c
unfolding reply_to
says_reply b c = ap (direct b) (call_good c).back

pub line_does_its_call : LineDoesItsCall
unfolding line_call posted direct
line_does_its_call b c label journal place r l free =
    by_test (sound b)
    (λ s. rw (s, free, line_read c label r l) (says_reply b c ∙ direct_is_apply b c s))
    (λ s. rw s)

pub line_refused : LineRefused
unfolding line_call posted reply_to lines_for refuse reply
line_refused b line journal place r s free e = rw (s, free, e, number_some r)

-- ══ Refused calls ══

pub refused_keeps_board : RefusedKeepsBoard
refused_keeps_board = refused-same

pub writes_nothing : WritesNothing
writes_nothing b line journal place k = by_test (sound b)
    (λ s. ⊎_elim (λ u. never s u) (λ f. same (refuse b Refusal.JournalFull) (call_full b line journal place s f)) k)
    (λ s. same (refuse_unsound b) (call_unsound b line journal place s))
  where
    same : (r : Reply) → line_call b line journal place ≡ stopped r journal place
        → ((line_call b line journal place).journal ≡ journal) × ((line_call b line journal place).place ≡ place)
    same r e = (ap (λ (o : Outcome). o.journal) e, ap (λ (o : Outcome). o.place) e)

-- ══ Refusal 8 ══

not_eight_lem : (r : Refusal) → not_eight (Err r) ≡ true → number r ≢ 8
not_eight_lem r h e = never (eq-eqb (number r) 8 e) (not_true (eqb (number r) 8) h)

of_line_lem : (r : Refusal) → of_line (Err r) ≡ true → number r ≢ 8
of_line_lem r h e = let k = leb-true (number r) 7 (and_right (leb 3 (number r)) (leb (number r) 7) h) in omega (arith, k, e)

direct_range : (b : Board) (c : Call) → InRange c → refusal_of (direct b c).answer ≢ 8
unfolding direct refuse_unsound refuse reply
direct_range b c i e =
    by_test (sound b)
    (λ s. let d : refusal_of (apply b c).answer ≡ 8 = rw s at e in by_check (checked b c)
    (λ u. let z : 0 ≡ 8 = sym (accepted-number (accepted b c).answer (accepted-answered b c).accepted-it)
    ∙ sym (ap (λ (q : Reply). refusal_of q.answer) (apply-accepted b c u)) ∙ d in omega (arith, z))
    (λ r u. not_eight_lem r (ap not_eight (sym u) ∙ range_checked b c i) (sym (ap (λ (q : Reply). refusal_of q.answer) (apply-refused b c r u)) ∙ d)))
    (λ s. let z : 1 ≡ 8 = rw s at e in omega (arith, z))

pub line_never_out_of_range : LineNeverOutOfRange
unfolding line_call posted reply_to refuse reply refuse_unsound
line_never_out_of_range b line journal place e =
    by_test (sound b)
    (λ s. by_test (journal_full (length journal) place) (λ f. let z : 2 ≡ 8 = rw (s, f) at e in omega (arith, z))
    (λ f. let d : refusal_of (reply_to b (request_of line)).answer ≡ 8 = rw (s, f) at e in by_request (request_of line)
    (λ a t. direct_range b (request_call (request_of line)) (read-line line (ap (λ (q : Request). is_ok q) t)).range
    (ap (λ (q : Request). refusal_of (direct b (request_call q)).answer) t ∙ ap (λ (q : Request). refusal_of (reply_to b q).answer) (sym t) ∙ d))
    (λ r t. of_line_lem r (ap of_line (sym t) ∙ line_reads line) (ap (λ (q : Request). refusal_of (reply_to b q).answer) (sym t) ∙ d))))
    (λ s. let z : 1 ≡ 8 = rw s at e in omega (arith, z))

empty_out : (c : Call) → checked empty_board c ≡ Err Refusal.OutOfRange → refusal_of (direct empty_board c).answer ≡ 8
unfolding worked worked_from refuse reply
empty_out c h = ap (λ (q : Reply). refusal_of q.answer) (direct_is_apply empty_board c (worked-sound [])
    ∙ apply-refused empty_board c Refusal.OutOfRange h)

pub direct_out_of_range : DirectOutOfRange
unfolding leave_check enter_check open_check
direct_out_of_range = (empty_out (Leave 0) refl, empty_out (Enter 33 no_files no_files no_files) refl, empty_out (Open 1 65) refl)

-- ══ The journal ══

pub answer_written_first : AnswerWrittenFirst
unfolding line_call posted
answer_written_first b line journal place s free =
    let f = first-line b line in
    rw (s, free) (ap (λ (ls : List Line). take journal_line (drop place (written journal place ls))) f.1
    ∙ written-first journal place _ f.0 (let q = (room (length journal) place free).1 in omega arith))

written-other : (j : List ℕ) (place i : ℕ) (ls : List Line) → place ≤ length j → (i < place) ⊎ (place + journal_line * length ls ≤ i)
    → get_or (written j place ls) i 0 ≡ get_or j i 0
unfolding written
written-other j place i ls h k = ⊎_elim before after k
  where
    size : length (take place j ++ lines_bytes ls) ≡ place + length (lines_bytes ls)
    size = omega (arith, length-append (take place j) (lines_bytes ls), length-take-le place j h)

    before : i < place → get_or (take place j ++ lines_bytes ls ++ drop (place + length (lines_bytes ls)) j) i 0 ≡ get_or j i 0
    before l =
        get_or-append (take place j ++ lines_bytes ls) (drop (place + length (lines_bytes ls)) j) 0 i (omega (arith, size))
        ∙ get_or-append (take place j) (lines_bytes ls) 0 i (omega (arith, length-take-le place j h)) ∙ get_or-take place j i 0 l

    after : place + journal_line * length ls ≤ i → get_or (take place j ++ lines_bytes ls ++ drop (place + length (lines_bytes ls)) j) i 0 ≡ get_or j i 0
    after l =
        let m = place + length (lines_bytes ls) in
        let n = lines-length ls in
        let d : i ≡ m + (i - m) = omega arith in
        let e : i ≡ length (take place j ++ lines_bytes ls) + (i - m) = omega (arith, size) in
        ap (λ x. get_or (take place j ++ lines_bytes ls ++ drop m j) x 0) e
        ∙ get_or-append-add (take place j ++ lines_bytes ls) (drop m j) (i - m) 0 ∙ get_or-drop m j (i - m) 0 ∙ ap (λ x. get_or j x 0) (sym d)

pub other_bytes_kept : OtherBytesKept
unfolding line_call posted
other_bytes_kept b line journal place i k =
    by_test (sound b)
    (λ s. by_test (journal_full (length journal) place) (λ f. rw (s, f))
    (λ f. rw (s, f) (let q = (room (length journal) place f).1 in
    written-other journal place i (lines_for (request_of line) (reply_to b (request_of line))) (omega arith) (rw (s, f) at k))))
    (λ s. rw s)

-- ══ The order ══

reply_order : (b : Board) (q : Request) → sound b ≡ true → order_of (reply_to b q) ≡ order_now (reply_to b q).board
unfolding reply_to refuse reply
reply_order b (Ok a) s = rw (direct_is_apply b (call_of a) s) (apply-order b (call_of a))
reply_order b (Err r) s = reply-order b (Answer.Refuse r) []

pub order-carried : OrderCarried
unfolding line_call posted refuse reply
order-carried b line journal place s =
    by_test (journal_full (length journal) place) (λ f. rw (s, f) (reply-order b (Answer.Refuse Refusal.JournalFull) []))
    (λ f. rw (s, f) (reply_order b (request_of line) s))

-- ══ The image ══

pub reads_back : ReadsBack
reads_back b f s = sym (image_sound (image_of b) b (sym (loaded_back b f s)) s)

pub accepted_is_written : AcceptedIsWritten
accepted_is_written image b y h = loaded_again image b y (sym (image_read image b (sym h)).0)

-- an answer that is a refusal has a number
refused-number : (a : Answer) → refused a ≡ true → refusal_of a ≡ 0 → ⊥
refused-number a h e = never h (number-accepted a (eq-eqb (refusal_of a) 0 e))

module _ (image line journal : List ℕ) (place : ℕ) where
  kept : (b : Board) → refused (line_call b line journal place).reply.answer ≡ true → (hosted_by image (line_call b line journal place)).image ≡ image
  kept b h = image_kept (refusal_of (line_call b line journal place).reply.answer) image _
      (refused-number (line_call b line journal place).reply.answer h)

pub refused_keeps_image : RefusedKeepsImage
refused_keeps_image image line journal place h = ⊎_elim
    (λ u. ap (λ (o : Hosted). o.image) (host_refused image line journal place (sym u)))
    (λ u. let (b, e, r) = u in
    ap (λ (o : Hosted). o.image) (host_called image line journal place b (image_read image b (sym e)).0) ∙ kept image line journal place b r) h
