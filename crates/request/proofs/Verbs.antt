-- Laws of the table of verbs: what each row and each call gives, a clause for each; and the fields of a line. Assumes nothing.
use Prim.Native.Nat.{ℕ, ◌<◌, ◌≤◌, ◌^◌}
use mathlib.Core.Path.{◌≡◌, refl, ap, ◌∙◌}
use mathlib.Core.List.{List}
use mathlib.Core.Option.{some}
use lib.ListN.{length, take}
use lib.Seq.{take_at}
use native.Mathlib.Omega.{arith}
use Rattle.laws.specs.Lists.{first, same}
use Rattle.laws.specs.Laws.{first-same}
use Rattle.std.specs.Prelude.{Some}
use Rattle.columns.specs.Columns.{word_width, program_width, file_width, record_width, columns_of}
use Rattle.columns.proofs.Laws.{number_columns}
use Rattle.rules.specs.declared.Verb.{Verb}
use Rattle.rules.specs.declared.Claims.{Claims}
use Rattle.rules.specs.declared.Asked.{Asked}
use Rattle.rules.specs.Calls.{Call, Enter, Open, Close, Drop, Leave, Cancel, Fetch, Return, no_claims, call_with, call_of}
use Rattle.request.specs.declared.Shape.{Shape}
use Rattle.request.specs.Verbs.{verbs, verb_columns, shape_of}
use Rattle.request.specs.Requests.{asking, begins, program_in, file_in, count_in, record_in, verb_of, asked_by, line_as}

-- ---- a clause for each verb

-- what is asked for by a line of this shape is what its call asks for
abbrev pub AskedBack : Shape → Verb → Type 0
AskedBack Shape.Entry v = (p : ℕ) (k : Claims) → asked_by (call_with v p 0 0 k) ≡ asking v p 0 0 k
AskedBack Shape.File v = (p f : ℕ) → asked_by (call_with v p f 0 no_claims) ≡ asking v p f 0 no_claims
AskedBack Shape.Record v = (p f n : ℕ) → asked_by (call_with v p f n no_claims) ≡ asking v p f n no_claims
AskedBack Shape.Alone v = (p : ℕ) → asked_by (call_with v p 0 0 no_claims) ≡ asking v p 0 0 no_claims

-- what a line of this shape says is the same
abbrev pub SameAs : Shape → Asked → Asked → Type 0
SameAs Shape.Entry a b = (a.verb ≡ b.verb) × (a.program ≡ b.program) × (a.claims ≡ b.claims)
SameAs Shape.File a b = (a.verb ≡ b.verb) × (a.program ≡ b.program) × (a.file ≡ b.file)
SameAs Shape.Record a b = (a.verb ≡ b.verb) × (a.program ≡ b.program) × (a.file ≡ b.file) × (a.item ≡ b.item)
SameAs Shape.Alone a b = (a.verb ≡ b.verb) × (a.program ≡ b.program)

pub record VerbGood (v : Verb) : Type 0 where
  pub size : length (verb_columns v) ≡ word_width
  pub found : first (λ u. same (verb_columns v) (verb_columns u)) verbs ≡ some v
  pub back : AskedBack (shape_of v) v
  pub verb : (p f n : ℕ) (k : Claims) → (asked_by (call_with v p f n k)).verb ≡ v
  pub same : (p f n : ℕ) (k : Claims) → SameAs (shape_of v) (asked_by (call_with v p f n k)) (asking v p f n k)

pub verb_good : (v : Verb) → VerbGood v
unfolding first same
verb_good Verb.Enter =
    record { size = refl; found = refl; back = λ p k. refl; verb = λ p f n k. refl; same = λ p f n k. (refl, refl, refl) }
verb_good Verb.Open =
    record { size = refl; found = refl; back = λ p f. refl; verb = λ p f n k. refl; same = λ p f n k. (refl, refl, refl) }
verb_good Verb.Close =
    record { size = refl; found = refl; back = λ p f. refl; verb = λ p f n k. refl; same = λ p f n k. (refl, refl, refl) }
verb_good Verb.Drop =
    record { size = refl; found = refl; back = λ p f. refl; verb = λ p f n k. refl; same = λ p f n k. (refl, refl, refl) }
verb_good Verb.Leave =
    record { size = refl; found = refl; back = λ p. refl; verb = λ p f n k. refl; same = λ p f n k. (refl, refl) }
verb_good Verb.Cancel =
    record { size = refl; found = refl; back = λ p. refl; verb = λ p f n k. refl; same = λ p f n k. (refl, refl) }
verb_good Verb.Fetch =
    record { size = refl; found = refl; back = λ p f n. refl; verb = λ p f n k. refl; same = λ p f n k. (refl, refl, refl, refl) }
verb_good Verb.Return =
    record { size = refl; found = refl; back = λ p. refl; verb = λ p f n k. refl; same = λ p f n k. (refl, refl) }

pub verb_length : (v : Verb) → length (verb_columns v) ≡ word_width
verb_length v = (verb_good v).size

-- ---- a clause for each call

-- what a line of this shape does not say is 0 or empty
abbrev pub ProperAs : Shape → Asked → Type 0
ProperAs Shape.Entry a = (a.file ≡ 0) × (a.item ≡ 0)
ProperAs Shape.File a = (a.item ≡ 0) × (a.claims ≡ no_claims)
ProperAs Shape.Record a = a.claims ≡ no_claims
ProperAs Shape.Alone a = (a.file ≡ 0) × (a.item ≡ 0) × (a.claims ≡ no_claims)

pub record CallGood (c : Call) : Type 0 where
  pub back : call_of (asked_by c) ≡ c
  pub proper : ProperAs (shape_of (asked_by c).verb) (asked_by c)

pub call_good : (c : Call) → CallGood c
call_good (Enter p v q j) = record { back = refl; proper = (refl, refl) }
call_good (Open p f) = record { back = refl; proper = (refl, refl) }
call_good (Close p f) = record { back = refl; proper = (refl, refl) }
call_good (Drop p f) = record { back = refl; proper = (refl, refl) }
call_good (Leave p) = record { back = refl; proper = (refl, refl, refl) }
call_good (Cancel p) = record { back = refl; proper = (refl, refl, refl) }
call_good (Fetch p f r) = record { back = refl; proper = refl }
call_good (Return p) = record { back = refl; proper = (refl, refl, refl) }

-- ---- the verb of a line

-- a line begins with the columns of its verb
pub line-begins : (s : Shape) (a : Asked) (label : List ℕ) → take word_width (line_as s a label) ≡ verb_columns a.verb
line-begins Shape.Entry a label = take_at (verb_columns a.verb) _ word_width (verb_length a.verb)
line-begins Shape.File a label = take_at (verb_columns a.verb) _ word_width (verb_length a.verb)
line-begins Shape.Record a label = take_at (verb_columns a.verb) _ word_width (verb_length a.verb)
line-begins Shape.Alone a label = take_at (verb_columns a.verb) _ word_width (verb_length a.verb)

-- so this verb is found
pub verb_found : (v : Verb) (l : List ℕ) → take word_width l ≡ verb_columns v → verb_of l ≡ some v
unfolding verb_of begins
verb_found v l e = first-same (λ u. same (take word_width l) (verb_columns u)) (λ u. same (verb_columns v) (verb_columns u)) verbs
    (λ u m. ap (λ x. same x (verb_columns u)) e) ∙ (verb_good v).found

-- ---- fields

pub program_columns : (p : ℕ) → 1 ≤ p → p ≤ 32 → program_in (columns_of program_width p) ≡ Some p
program_columns p h k = let m : 32 < 10 ^ program_width = omega arith in number_columns program_width 1 32 p (omega arith) (omega arith) h k

-- files, and counts of files, have room in their columns
file_fits : (f : ℕ) → f ≤ 64 → f < 10 ^ file_width
file_fits f h = let m : 64 < 10 ^ file_width = omega arith in omega arith

pub file_columns : (f : ℕ) → 1 ≤ f → f ≤ 64 → file_in (columns_of file_width f) ≡ Some f
file_columns f h k = number_columns file_width 1 64 f (omega arith) (file_fits f k) h k

pub count_columns : (n : ℕ) → n ≤ 64 → count_in (columns_of file_width n) ≡ Some n
count_columns n k = number_columns file_width 0 64 n (omega arith) (file_fits n k) (omega arith) k

pub record_columns : (n : ℕ) → 1 ≤ n → n ≤ 65535 → record_in (columns_of record_width n) ≡ Some n
record_columns n h k = let m : 65535 < 10 ^ record_width = omega arith in number_columns record_width 1 65535 n (omega arith) (omega arith) h k
