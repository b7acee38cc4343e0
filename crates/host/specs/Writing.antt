-- The writer as a C host calls it: verbs by number, claims as bytes, and the answer as one number.
-- Assumes nothing.
use Rattle.std.specs.Prelude.{ℕ, ◌-◌, ◌*◌, ◌≡◌, refl, Bool, true, cond, Ok, Err, List, eqb, length, get_or, drop}
use Rattle.files.specs.declared.FileSet.{FileSet}
use Rattle.files.specs.Bits.{is_number}
use Rattle.rules.specs.declared.Verb.{Verb}
use Rattle.rules.specs.declared.Claims.{Claims}
use Rattle.rules.specs.declared.Refusal.{Refusal}
use Rattle.rules.specs.Replies.{number}
use Rattle.rules.specs.Calls.{Call, claiming, no_claims, call_with}
use Rattle.request.specs.Verbs.{verbs}
use Rattle.image.specs.Image.{set_section}
use Rattle.writer.specs.Writer.{Writing, unwritten_number, writing_of, buffer_after}
use Rattle.host.specs.Host.{refusal_answer}

-- 1 ENTER, 2 OPEN, 3 CLOSE, 4 DROP, 5 LEAVE, 6 CANCEL, 7 FETCH, 8 RETURN: their places in the table; any other number is no verb
abbrev pub is_verb : ℕ → Bool
is_verb n = is_number (length verbs) n

-- the verb of such a number
abbrev pub verb_numbered : ℕ → Verb
verb_numbered n = get_or verbs (n - 1) Verb.Enter

-- the claims V, Q and J one after another, each as an image has a set
abbrev pub claims_length : ℕ
claims_length = 3 * set_section.size

pub claims-length : claims_length ≡ 24
claims-length = refl

-- check 8 of them: ENTER has claims; what another verb gets as claims is not looked at
abbrev pub claims_good : ℕ → List ℕ → Bool
claims_good n claims = cond (eqb n 1) (eqb (length claims) claims_length) true

-- the set that begins with byte k
abbrev pub set_at : ℕ → List ℕ → FileSet
set_at k claims = set_section.read (drop k claims)

-- the claims of their bytes; none where these haven't their length
unfoldable pub claims_in : List ℕ → Claims
claims_in claims =
    cond (eqb (length claims) claims_length)
    (claiming (set_at 0 claims) (set_at set_section.size claims) (set_at (2 * set_section.size) claims)) no_claims

-- the call with these numbers and claims
abbrev pub call_numbered : ℕ → ℕ → ℕ → ℕ → List ℕ → Call
call_numbered n p f r claims = call_with (verb_numbered n) p f r (claims_in claims)

-- the line's length, or 2^64 less the number of the refusal
abbrev pub writing_answer : Writing → ℕ
writing_answer (Ok n) = n
writing_answer (Err r) = refusal_answer (unwritten_number r)

-- what a C host gets: refusal 3 for no verb, then 8 for an ENTER whose claims haven't their length, otherwise what the writer answers
unfoldable pub write_answer : ℕ → ℕ → ℕ → ℕ → List ℕ → List ℕ → List ℕ → ℕ
write_answer n p f r claims label buffer =
    cond (is_verb n)
    (cond (claims_good n claims) (writing_answer (writing_of (call_numbered n p f r claims) label buffer)) (refusal_answer (number Refusal.OutOfRange)))
    (refusal_answer (number Refusal.NoVerb))

-- its buffer then
unfoldable pub write_buffer : ℕ → ℕ → ℕ → ℕ → List ℕ → List ℕ → List ℕ → List ℕ
write_buffer n p f r claims label buffer =
    cond (is_verb n) (cond (claims_good n claims) (buffer_after (call_numbered n p f r claims) label buffer) buffer) buffer
