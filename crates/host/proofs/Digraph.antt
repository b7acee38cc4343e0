-- Laws of the matrix and of loops as a C host gets them. Assumes nothing.
use Prim.Native.Nat.{ℕ, ◌≤◌, ◌<◌}
use native.Mathlib.Omega.{arith}
use mathlib.Core.Path.{◌≡◌, refl, ap, sym, ◌∙◌, subst}
use mathlib.Core.Logic.{◌≢◌}
use mathlib.Core.Bool.{Bool, false, cond}
use mathlib.Core.List.{List, ◌++◌}
use lib.Dec.{ltb}
use lib.ListN.{length, drop}
use lib.Seq.{length-take-le}
use borrow.Author.Tests.{lt-ltb, le-ltb}
use Rattle.laws.specs.Tests.{no_true}
use Rattle.rules.specs.declared.Board.{Board}
use Rattle.rules.specs.Boards.{is_program}
use Rattle.rules.specs.Digraph.{is_loop_with}
use Rattle.theory.specs.Programs.{Is, is_of, of_is}
use Rattle.image.specs.Image.{bytes_n}
use Rattle.std.proofs.Common.{None, Some}
use Rattle.digraph.specs.declared.Loop.{Loop}
use Rattle.digraph.specs.Rows.{matrix_of}
use Rattle.digraph.specs.Loops.{named, LoopOfWaiter}
use Rattle.columns.specs.Rows.{flat}
use Rattle.host.specs.Host.{read_image, refusal_answer, placed_answer, placed_in}
use Rattle.host.specs.Digraph.{reach_answer, reach_rows, LoopPlaced, loop_refusal, LoopReply, is_loop_answer}

-- ---- the matrix

pub row-length : (n : ℕ) → length (bytes_n 4 n) ≡ 4
unfolding bytes_n
row-length n = refl

module _ (image buffer : List ℕ) where
  pub reach_refused : None ≡ read_image image → (reach_answer image buffer ≡ refusal_answer 1) × (reach_rows image buffer ≡ buffer)
  unfolding reach_answer reach_rows
  reach_refused e = (rw (← e), rw (← e))

  pub reach_short : (b : Board) → Some b ≡ read_image image → length buffer < 128
      → (reach_answer image buffer ≡ refusal_answer 17) × (reach_rows image buffer ≡ buffer)
  unfolding reach_answer reach_rows
  reach_short b e l = let t = lt-ltb (length buffer) 128 l in (rw (← e, t), rw (← e, t))

  pub reach_written : (b : Board) (rows after : List ℕ) → Some b ≡ read_image image → 128 ≤ length buffer → rows ≡ matrix_of b
      → after ≡ flat (bytes_n 4) rows ++ drop 128 buffer → (128 ≡ reach_answer image buffer) × (after ≡ reach_rows image buffer)
  unfolding reach_answer reach_rows
  reach_written b rows after e l m a = let t = le-ltb (length buffer) 128 l in
      (rw (← e, t), rw (← e, t) (a ∙ ap (λ (r : List ℕ). flat (bytes_n 4) r ++ drop 128 buffer) m))

-- ---- a waiter's loop

-- the loop that was found is placed: the list has room for it
pub loop_placed : (b : Board) (p : ℕ) (l : Loop) (before after : List ℕ) (answer : ℕ) → LoopOfWaiter b p l → length l.at ≡ 32 → 32 ≤ length before
    → answer ≡ placed_answer (named l) before → after ≡ placed_in (named l) before → LoopPlaced b p before answer after
loop_placed b p l before after answer h n r ea eb = record {
  waits = λ w i. (named l, h.is_loop w i, ea ∙ rw short, eb ∙ rw short);
  waits_not = λ w. let z = h.is_none w in (ea ∙ rw (short, z), eb ∙ rw (short, z));
}
  where
    short : ltb (length before) (length (named l)) ≡ false
    short = let i = length-take-le l.count l.at (let f = h.fits in omega (arith, n, f)) in
        let f = h.fits in le-ltb (length before) (length (named l)) (omega (arith, i, f))

module _ (image : List ℕ) (p : ℕ) (list : List ℕ) where
  reply-refused : (n answer : ℕ) → loop_refusal image p list ≡ n → n ≢ 0 → answer ≡ refusal_answer n → LoopReply image p list answer list
  reply-refused n answer z m a = record {
    refused = λ _. (a ∙ ap refusal_answer (sym z), refl);
    placed = λ b e u. absurd (m (sym z ∙ u));
  }

  pub loop_refused : (answer : ℕ) → None ≡ read_image image → answer ≡ refusal_answer 1 → LoopReply image p list answer list
  unfolding loop_refusal
  loop_refused answer e a = reply-refused 1 answer (rw (← e)) (λ z. omega arith) a

  pub loop_no-program : (b : Board) (answer : ℕ) → Some b ≡ read_image image → (Is p → ⊥) → answer ≡ refusal_answer 8 → LoopReply image p list answer list
  unfolding loop_refusal
  loop_no-program b answer e i a = let t = no_true (is_program p) (λ u. i (is_of p u)) in
      reply-refused 8 answer (rw (← e, t)) (λ z. omega arith) a

  pub loop_short : (b : Board) (answer : ℕ) → Some b ≡ read_image image → Is p → length list < 32 → answer ≡ refusal_answer 17
      → LoopReply image p list answer list
  unfolding loop_refusal
  loop_short b answer e i l a = let t = of_is p i in let u = lt-ltb (length list) 32 l in
      reply-refused 17 answer (rw (← e, t, u)) (λ z. omega arith) a

  pub loop_written : (b : Board) (answer : ℕ) (after : List ℕ) → Some b ≡ read_image image → Is p → 32 ≤ length list → LoopPlaced b p list answer after
      → LoopReply image p list answer after
  unfolding loop_refusal
  loop_written b answer after e i l c = let t = of_is p i in let u = le-ltb (length list) 32 l in record {
    refused = λ n. absurd (n (rw (← e, t, u)));
    placed = λ d f _. let g : b ≡ d = cc in subst (λ (x : Board). LoopPlaced x p list answer after) g c;
  }

-- ---- the checker

module _ (image : List ℕ) (p f : ℕ) (list : List ℕ) where
  pub check_refused : None ≡ read_image image → is_loop_answer image p f list ≡ refusal_answer 1
  unfolding is_loop_answer
  check_refused e = rw (← e)

  pub checked-is : (b : Board) (t : Bool) → Some b ≡ read_image image → t ≡ is_loop_with b p f list → is_loop_answer image p f list ≡ cond t 1 0
  unfolding is_loop_answer
  checked-is b t e a = rw (← e, a)
