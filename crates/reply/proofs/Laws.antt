-- Laws of replies: orders as the search gives them back, and the lines of a call. Assumes nothing.
use mathlib.Core.Path.{◌≡◌, refl, sym, ap, ◌∙◌}
use mathlib.Core.Logic.{◌≢◌}
use mathlib.Core.Bool.{true}
use mathlib.Core.List.{List, [], ◌∷◌, ◌++◌}
use mathlib.Core.Option
use mathlib.Core.Option.{Option, none, some}
use Prim.Native.Nat.{ℕ, zero, suc, ◌+◌, ◌-◌, ◌≤◌, ◌<◌}
use native.Mathlib.Omega.{arith}
use lib.ListN.{length, get_or, set, replicate, length-append, length-replicate}
use lib.Dec.{eqb}
use lib.Seq.{ext_get_or, get_or-set_same, get_or-set_other}
use borrow.Author.Tests.{eqb-true, eqb-false}
use Rattle.laws.specs.Tests.{by_test}
use Rattle.laws.specs.Lists.{padded}
use Rattle.rules.specs.declared.Answer.{Answer}
use Rattle.rules.specs.declared.Line.{Line}
use Rattle.rules.specs.Replies.{blank, refused, refusal_of}
use Rattle.parts.specs.Entries.{Entries, line_in, lines_in}
use Rattle.parts.proofs.Lined.{length-lines}
use Rattle.search.specs.declared.Search.{Search}
use Rattle.search.specs.declared.Order.{Order}
use Rattle.search.specs.Rows.{as_order}
use Rattle.reply.specs.Orders.{placed_in}

-- ---- orders as the search gives them back

-- the array has the order, and then 0
pub order_array : (o : Option (List ℕ)) (r : Order) → r ≡ as_order o → r.at ≡ padded 0 (Option.get_or o [])
unfolding padded
order_array none r e = ap (λ (x : Order). x.at) e
order_array (some l) r e = ap (λ (x : Order). x.at) e

pub order_placed : (o : Option (List ℕ)) (r : Order) → r ≡ as_order o → placed_in r.kind ≡ length (Option.get_or o [])
order_placed none r e = ap (λ (x : Order). placed_in x.kind) e
order_placed (some l) r e = ap (λ (x : Order). placed_in x.kind) e

pub placed_short : (o : Option (List ℕ)) (r : Order) → r ≡ as_order o → length r.at ≡ 32 → placed_in r.kind ≤ 32
unfolding padded
placed_short o r e h =
    let l = Option.get_or o [] in
    let a : length (l ++ replicate (32 - length l) 0) ≡ 32 = ap length (sym (order_array o r e)) ∙ h in
    let x = length-append l (replicate (32 - length l) 0) in
    let y = length-replicate {A = ℕ} (32 - length l) 0 in
    let z = order_placed o r e in
    omega (arith, a, x, y, z)

-- the same of an order that was found
pub order_count : (o : Option (List ℕ)) (r : Order) (n : ℕ) → r ≡ as_order o → r.kind ≡ Search.Found n → length (Option.get_or o []) ≡ n
order_count o r n e k = sym (order_placed o r e) ∙ ap placed_in k

pub order-at : (o : Option (List ℕ)) (r : Order) (n : ℕ) → r ≡ as_order o → r.kind ≡ Search.Found n → padded 0 (Option.get_or o []) ≡ r.at
order-at o r n e k = sym (order_array o r e)

pub order_short : (o : Option (List ℕ)) (r : Order) (n : ℕ) → r ≡ as_order o → r.kind ≡ Search.Found n → length r.at ≡ 32 → n ≤ 32
order_short o r n e k h = let m = placed_short o r e h in let c : placed_in r.kind ≡ n = ap placed_in k in omega (arith, m, c)

-- ---- replies

-- an answer with a number is a refusal
pub refused_by : (a : Answer) → refusal_of a ≢ 0 → refused a ≡ true
refused_by Answer.Admit h = absurd (h refl)
refused_by Answer.Held h = absurd (h refl)
refused_by Answer.Given h = absurd (h refl)
refused_by Answer.Wait h = absurd (h refl)
refused_by Answer.Unsafe h = absurd (h refl)
refused_by Answer.Done h = absurd (h refl)
refused_by (Answer.Refuse r) h = refl

-- ---- the lines of a call, one after another

-- the line in a place
pub line_at : (e : Entries) (i : ℕ) → i < length e → get_or (lines_in e) i blank ≡ line_in (get_or e i [])
line_at [] i h = absurd (omega arith)
line_at (x ∷ e) zero h = refl
line_at (x ∷ e) (suc i) h = line_at e i (omega arith)

-- the first n lines are those in the array
abbrev pub LinesTo : Entries → ℕ → List Line → Type 0
LinesTo e n ls = (k : ℕ) → k < n → get_or ls k blank ≡ get_or (lines_in e) k blank

-- one line more
pub lines_more : (e : Entries) (i : ℕ) (ls : List Line) (l : Line) → i < length ls → l ≡ get_or (lines_in e) i blank → LinesTo e i ls
    → LinesTo e (i + 1) (set ls i l)
lines_more e i ls l h d f k m = by_test (eqb k i)
    (λ t. let z : k ≡ i = eqb-true k i t in rw (z, get_or-set_same ls i l blank h) d)
    (λ t. let z : k ≢ i = eqb-false k i t in get_or-set_other ls i k l blank z ∙ f k (omega arith))

-- all lines
pub lines_all : (e : Entries) (i : ℕ) (ls : List Line) → length ls ≡ 32 → length e ≡ 32 → 32 ≤ i → LinesTo e i ls → ls ≡ lines_in e
lines_all e i ls a b h f = ext_get_or blank ls (lines_in e) (a ∙ sym (length-lines e ∙ b)) (λ k m. f k (omega (arith, a)))
