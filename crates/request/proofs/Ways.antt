-- What a line says is a refusal by 3 to 7, or a call whose program is at most 32, file at most 64 and record at most 65,535. Assumes nothing.
use Prim.Native.Nat.{ℕ, ◌+◌, ◌≤◌}
use mathlib.Core.Path.{◌≡◌, refl}
use mathlib.Core.Bool.{Bool, true, false, cond, ◌&&◌}
use mathlib.Core.List.{List}
use mathlib.Core.Option.{Option, none, some}
use native.Mathlib.Omega.{arith}
use lib.Dec.{eqb, ltb}
use lib.ListN.{length, take, drop}
use Rattle.std.specs.Prelude.{Some, None}
use Rattle.std.specs.Prelude as prelude
use Rattle.columns.specs.Columns.{program_width, file_width, record_width, number_of, on_number}
use Rattle.columns.proofs.Laws.{number_is}
use Rattle.laws.specs.Lists.{all, with_found}
use Rattle.rules.specs.declared.Claims.{Claims}
use Rattle.rules.specs.declared.Refusal.{Refusal}
use Rattle.rules.specs.declared.Verb.{Verb}
use Rattle.request.specs.declared.Shape.{Shape}
use Rattle.request.specs.Verbs.{shape_of, program_at, alone_length, file_at, file_length, record_at, record_length, w_at, r_at, j_at, files_at}
use Rattle.request.specs.Verbs.{entry_length}
use Rattle.request.specs.Requests.{Request, asked_in, refused, taken, program_field, file_field, w_field, r_field, j_field, record_field, label_byte, label_part, files_in}
use Rattle.request.specs.Requests.{rises, entry_files, entry_counts, entry_line, file_line, record_line, alone_line, read_as, verb_of, request_of}

-- P holds of every such refusal and call
pub record Ways (P : Request → Type 0) : Type 0 where
  pub no-verb : P (refused Refusal.NoVerb)
  pub length : P (refused Refusal.BadLength)
  pub number : P (refused Refusal.BadNumber)
  pub label : P (refused Refusal.BadLabel)
  pub rising : P (refused Refusal.NotRising)
  pub call : (v : Verb) (p f n : ℕ) (c : Claims) → p ≤ 32 → f ≤ 64 → n ≤ 65535 → P (taken v p f n c)

module _ (P : Request → Type 0) (h : Ways P) where
  either : (t : Bool) {x y : Request} → P x → P y → P (cond t x y)
  either true f g = f
  either false f g = g

  -- a field of columns
  a-number : (w low high : ℕ) (l : List ℕ) {d : Request} {f : ℕ → Request} → P d → ((n : ℕ) → n ≤ high → P (f n))
      → P (on_number (number_of w low high l) d f)
  a-number w low high l {d} {f} g k = by_field (number_of w low high l) refl
    where
      by_field : (e : prelude.Option ℕ) → number_of w low high l ≡ e → P (on_number e d f)
      by_field None e = g
      by_field (Some n) e = k n (number_is w low high l n e).1

  program_ways : (l : List ℕ) {f : ℕ → Request} → ((n : ℕ) → n ≤ 32 → P (f n)) → P (on_number (program_field l) (refused Refusal.BadNumber) f)
  unfolding program_field
  program_ways l k = a-number program_width 1 32 (take program_width (drop program_at l)) h.number k

  some-files : (o : Option (List ℕ)) {d : Request} {f : List ℕ → Request} → P d → ((l : List ℕ) → P (f l)) → P (with_found o d f)
  some-files none g k = g
  some-files (some l) g k = k l

  files_ways : (v : Verb) (l : List ℕ) (p w r j : ℕ) → p ≤ 32 → P (entry_files v l p w r j)
  unfolding entry_files
  files_ways v l p w r j k = some-files (files_in w (drop files_at l)) h.number (λ vs. some-files (files_in r (drop (entry_length w) l)) h.number
      (λ qs. some-files (files_in j (drop (entry_length (w + r)) l)) h.number
      (λ js. either (rises vs && rises qs && rises js) (h.call v p 0 0 _ k (omega arith) (omega arith)) h.rising)))

  counts_ways : (v : Verb) (l : List ℕ) (p : ℕ) → p ≤ 32 → P (entry_counts v l p)
  unfolding entry_counts w_field r_field j_field
  counts_ways v l p k = a-number file_width 0 64 (take file_width (drop w_at l)) h.number
      (λ w i. a-number file_width 0 64 (take file_width (drop r_at l)) h.number
      (λ r i₂. a-number file_width 0 64 (take file_width (drop j_at l)) h.number
      (λ j i₃. either (eqb (length l) (entry_length (w + r + j))) (files_ways v l p w r j k) h.length)))

  -- a line of any shape
  shape_ways : (s : Shape) (v : Verb) (l : List ℕ) → P (read_as s v l)
  unfolding entry_line file_line record_line alone_line file_field record_field
  shape_ways Shape.Entry v l = either (ltb (length l) files_at) h.length (program_ways l
      (λ p k. either (all label_byte (label_part l)) (counts_ways v l p k) h.label))
  shape_ways Shape.File v l = either (eqb (length l) file_length)
      (program_ways l (λ p k. a-number file_width 1 64 (take file_width (drop file_at l)) h.number (λ f i. h.call v p f 0 _ k i (omega arith))))
      h.length
  shape_ways Shape.Record v l = either (eqb (length l) record_length)
      (program_ways l (λ p k. a-number file_width 1 64 (take file_width (drop file_at l)) h.number (λ f i.
      a-number record_width 1 65535 (take record_width (drop record_at l)) h.number (λ n i₂. h.call v p f n _ k i i₂)))) h.length
  shape_ways Shape.Alone v l = either (eqb (length l) alone_length) (program_ways l (λ p k. h.call v p 0 0 _ k (omega arith) (omega arith)))
      h.length

  begun_ways : (b : Option Verb) (l : List ℕ) → P (with_found b (refused Refusal.NoVerb) (λ v. read_as (shape_of v) v l))
  begun_ways none l = h.no-verb
  begun_ways (some v) l = shape_ways (shape_of v) v l

  pub line_ways : (l : List ℕ) → P (request_of l)
  unfolding request_of
  line_ways l = begun_ways (verb_of l) l

-- the numbers of a line are bytes, and that of a record two
pub numbers_fit : (l : List ℕ)
    → ((asked_in (request_of l)).program ≤ 255) × ((asked_in (request_of l)).file ≤ 255) × ((asked_in (request_of l)).item ≤ 65535)
numbers_fit l =
    let none : (0 ≤ 255) × (0 ≤ 255) × (0 ≤ 65535) = (omega arith, omega arith, omega arith) in
    line_ways (λ q. ((asked_in q).program ≤ 255) × ((asked_in q).file ≤ 255) × ((asked_in q).item ≤ 65535))
    (record {
      no-verb = none;
      length = none;
      number = none;
      label = none;
      rising = none;
      call = λ v p f n c k i i₂. (omega arith, omega arith, i₂);
    }) l
