-- The first journal line of a line call is that of its answer. Assumes nothing.
use Prim.Native.Nat.{ℕ, ◌+◌, ◌≤◌}
use mathlib.Core.Path.{◌≡◌, refl, sym, ap, subst, ◌∙◌}
use mathlib.Core.Bool.{true, false}
use mathlib.Core.List.{List, [], ◌∷◌, ◌++◌, append_assoc}
use lib.Dec.{eqb}
use lib.ListN.{length, take, drop}
use lib.Seq.{length-take-le, take-append_seam, drop-append_seam}
use borrow.Author.Tests.{eqb-true, eqb-false}
use Rattle.laws.specs.Tests.{by_test, never}
use Rattle.columns.specs.Rows.{flat}
use Rattle.rules.specs.declared.Board.{Board}
use Rattle.rules.specs.declared.Refusal.{Refusal}
use Rattle.rules.specs.declared.Answer.{Answer}
use Rattle.rules.specs.declared.Word.{Word}
use Rattle.rules.specs.declared.Line.{Line}
use Rattle.rules.specs.declared.Reply.{Reply}
use Rattle.rules.specs.Settling.{line_of}
use Rattle.rules.specs.Replies.{refusal_of, refused, word_of, refuse, reply, settling_lines}
use Rattle.rules.specs.Calls.{Call, Enter, Open, Close, Drop, Leave, Cancel, Fetch, Return, program_of, file_of, item_of, direct}
use Rattle.theory.specs.Answers.{answer-first}
use Rattle.reply.proofs.Laws.{refused_by}
use Rattle.std.specs.Prelude.{Ok, Err, is_ok}
use Rattle.rules.specs.declared.Asked.{Asked}
use Rattle.request.specs.Requests.{Request, asked_in, request_of, request_call}
use Rattle.request.specs.Law.{saying}
use Rattle.request.proofs.Lines.{read-line}
use Rattle.journal.specs.Journal.{journal_line, line_bytes, lines_bytes, written}
use Rattle.journal.proofs.Laws.{line-length}
use Rattle.linecall.specs.LineCall.{lines_for, reply_to}
use Rattle.linecall.proofs.Laws.{own_lines, refused-lines}
use Rattle.host.specs.Promises.{answer_line}
use Rattle.host.proofs.Laws.{number_some}

-- ---- answers and readings

pub by_request : {C : Type 0} (q : Request) → ((a : Asked) → q ≡ Ok a → C) → ((n : Refusal) → q ≡ Err n → C) → C
by_request (Ok a) f g = f a refl
by_request (Err n) f g = g n refl

-- an answer that is no refusal has no number
pub accepted-number : (a : Answer) → refused a ≡ false → refusal_of a ≡ 0
accepted-number a h = by_test (eqb (refusal_of a) 0) (eqb-true (refusal_of a) 0) (λ e. never (refused_by a (eqb-false (refusal_of a) 0 e)) h)

-- one without a number is none
pub number-accepted : (a : Answer) → eqb (refusal_of a) 0 ≡ true → refused a ≡ false
number-accepted Answer.Admit h = refl
number-accepted Answer.Held h = refl
number-accepted Answer.Given h = refl
number-accepted Answer.Wait h = refl
number-accepted Answer.Unsafe h = refl
number-accepted Answer.Done h = refl
number-accepted (Answer.Refuse r) h = never h (number_some r)

-- one with a number has the word REFUSE
number_word : (a : Answer) → eqb (refusal_of a) 0 ≡ false → Word.Refuse ≡ word_of a
number_word Answer.Admit h = never {t = true} refl h
number_word Answer.Held h = never {t = true} refl h
number_word Answer.Given h = never {t = true} refl h
number_word Answer.Wait h = never {t = true} refl h
number_word Answer.Unsafe h = never {t = true} refl h
number_word Answer.Done h = never {t = true} refl h
number_word (Answer.Refuse r) h = refl

-- ---- the first line

-- the program, the file and the record of the line that asks for a call
says-program : (c : Call) → (asked_in (saying c)).program ≡ program_of c
says-program (Enter p v q j) = refl
says-program (Open p f) = refl
says-program (Close p f) = refl
says-program (Drop p f) = refl
says-program (Leave p) = refl
says-program (Cancel p) = refl
says-program (Fetch p f r) = refl
says-program (Return p) = refl

says-file : (c : Call) → (asked_in (saying c)).file ≡ file_of c
says-file (Enter p v q j) = refl
says-file (Open p f) = refl
says-file (Close p f) = refl
says-file (Drop p f) = refl
says-file (Leave p) = refl
says-file (Cancel p) = refl
says-file (Fetch p f r) = refl
says-file (Return p) = refl

says-item : (c : Call) → (asked_in (saying c)).item ≡ item_of c
says-item (Enter p v q j) = refl
says-item (Open p f) = refl
says-item (Close p f) = refl
says-item (Drop p f) = refl
says-item (Leave p) = refl
says-item (Cancel p) = refl
says-item (Fetch p f r) = refl
says-item (Return p) = refl

line_same : (q : Request) (c : Call) (a : Answer) → q ≡ saying c → refusal_of a ≡ 0
    → line_of (word_of a) (program_of c) (file_of c) (item_of c) ≡ answer_line q a
line_same q c a e z = rw (e, z, says-program c, says-file c, says-item c)

taken-first : (b : Board) (q : Request) (c : Call) → q ≡ saying c → eqb (refusal_of (direct b c).answer) 0 ≡ true
    → lines_for q (direct b c) ≡ answer_line q (direct b c).answer ∷ settling_lines (direct b c)
taken-first b q c e z =
    let n = eqb-true (refusal_of (direct b c).answer) 0 z in
    own_lines q (direct b c) n ∙ answer-first b c (number-accepted (direct b c).answer z)
    ∙ ap (λ (l : Line). l ∷ settling_lines (direct b c)) (line_same q c (direct b c).answer e n)

refused-first : (q : Request) (r : Reply) → eqb (refusal_of r.answer) 0 ≡ false → lines_for q r ≡ answer_line q r.answer ∷ []
refused-first q r z =
    refused-lines q r (eqb-false (refusal_of r.answer) 0 z)
    ∙ ap (λ (w : Word). record { word = w; program = (asked_in q).program; file = (asked_in q).file; refusal = refusal_of r.answer; item = (asked_in q).item } ∷ [])
    (number_word r.answer z)

-- what a request line is answered begins with the line of its answer
pub first-line : (b : Board) (l : List ℕ) → (ls : List Line) × (lines_for (request_of l) (reply_to b (request_of l))
    ≡ answer_line (request_of l) (reply_to b (request_of l)).answer ∷ ls)
unfolding reply_to refuse reply
first-line b l =
    by_test (eqb (refusal_of (reply_to b (request_of l)).answer) 0)
    (λ z. by_request (request_of l)
    (λ a t. let e : reply_to b (request_of l) ≡ direct b (request_call (request_of l)) =
    ap (reply_to b) t ∙ ap (λ (q : Request). direct b (request_call q)) (sym t) in (
      settling_lines (reply_to b (request_of l)),
      subst (λ (r : Reply). lines_for (request_of l) r ≡ answer_line (request_of l) r.answer ∷ settling_lines r)
          (sym e) (taken-first b (request_of l) (request_call (request_of l)) (read-line l (ap (λ (q : Request). is_ok q) t)).call
          (ap (λ (r : Reply). eqb (refusal_of r.answer) 0) (sym e) ∙ z)),
    ))
    (λ r t. never (ap (λ (q : Request). eqb (refusal_of (reply_to b q).answer) 0) (sym t) ∙ z) (number_some r)))
    (λ z. ([], refused-first (request_of l) (reply_to b (request_of l)) z))

-- ---- its bytes

pub written-first : (j : List ℕ) (place : ℕ) (l : Line) (ls : List Line) → place ≤ length j
    → take journal_line (drop place (written j place (l ∷ ls))) ≡ line_bytes l
unfolding written flat
written-first j place l ls h =
    let a = take place j in
    let t = drop (place + length (line_bytes l ++ lines_bytes ls)) j in
    let x = lines_bytes ls ++ t in
    let e : a ++ (line_bytes l ++ lines_bytes ls) ++ t ≡ a ++ (line_bytes l ++ x) =
    append_assoc a (line_bytes l ++ lines_bytes ls) t ∙ ap (λ (y : List ℕ). a ++ y) (append_assoc (line_bytes l) (lines_bytes ls) t) in
    ap (λ (y : List ℕ). take journal_line (drop place y)) e
    ∙ ap (λ (n : ℕ). take journal_line (drop n (a ++ (line_bytes l ++ x)))) (sym (length-take-le place j h))
    ∙ ap (λ (y : List ℕ). take journal_line y) (drop-append_seam a (line_bytes l ++ x))
    ∙ ap (λ (n : ℕ). take n (line_bytes l ++ x)) (sym (line-length l)) ∙ take-append_seam (line_bytes l) x
