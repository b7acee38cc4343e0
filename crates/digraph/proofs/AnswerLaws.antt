-- Laws of the loop that an answer carries. Assumes nothing.
use Prim.Native.Nat.{ℕ}
use mathlib.Core.Path.{◌≡◌, sym, ◌∙◌, ap, subst}
use mathlib.Core.Logic.{inl, inr, ⊎_elim}
use mathlib.Core.Bool.{true, false, ◌&&◌}
use lib.ListN.{get_or}
use Rattle.laws.specs.Tests.{never, and_left, and_both}
use Rattle.rules.specs.declared.Line.{Line}
use Rattle.rules.specs.declared.Board.{Board}
use Rattle.rules.specs.declared.Reply.{Reply}
use Rattle.rules.specs.Boards.{is_program, is_admitted, is_waiting, at, claims, awaited}
use Rattle.rules.specs.Soundness.{sound}
use Rattle.rules.specs.Orders.{with_given, safe}
use Rattle.rules.specs.Replies.{blank}
use Rattle.rules.specs.Calls.{Call}
use Rattle.rules.specs.Digraph.{is_in, step, is_loop_of, is_loop_with, loop_for, is_unsafe}
use Rattle.theory.specs.Programs.{Is, of_is}
use Rattle.theory.specs.Calls.{claims_file}
use Rattle.theory.specs.Loose.{waiting_in}
use Rattle.theory.proofs.Digraph.{waiter_claims, waiter_unsafe, unsafe_open}
use Rattle.digraph.specs.declared.Loop.{Loop}
use Rattle.digraph.specs.Loops.{named, LoopOf, LoopOfWaiter, LoopWith, CarriedBy}

-- a loop with the file given, where no order comes back with it given
pub given_by : (b : Board) (p f : ℕ) (l : Loop) → LoopOf (with_given b p f) l → is_in b p ≡ true → claims (at b p) f ≡ true
    → safe b p f ≡ false → is_loop_with b p f (named l) ≡ true
unfolding safe is_loop_with
given_by b p f l h i k u = and_both (is_in b p && claims (at b p) f) (is_loop_of (step (with_given b p f)) (named l))
    (and_both (is_in b p) (claims (at b p) f) i k) (h.is_loop u)

-- UNSAFE carries the loop with the file given that its line names
pub carries_loop : (b : Board) (r : Reply) (l : Loop) → is_unsafe r.answer ≡ true → LoopWith b (get_or r.lines 0 blank) l → CarriedBy b r l
carries_loop b r l u h c (inr n) = never u n
carries_loop b r l u h c (inl e) =
    let o = unsafe_open b c (ap (λ (x : Reply). is_unsafe x.answer) (sym e) ∙ u) in
    let p = o.program in
    let told : get_or r.lines 0 blank ≡ _ = ap (λ (x : Reply). get_or x.lines 0 blank) e ∙ o.told in
    let g = subst (λ (x : Line). LoopWith b x l) told h (and_left (is_program p) (is_admitted (at b p).standing) o.is_in_lem) (claims_file (at b p) o.file o.claimed) in
    rw u (ap (λ (x : Call). loop_for b x (named l)) o.call ∙ given_by b p o.file l g o.is_in_lem o.claimed o.unsafe)

-- a loop found with the file given that a waiter of a sound board waits for
pub waiter_found : (b : Board) (p f : ℕ) (l : Loop) → sound b ≡ true → Is p → is_waiting (at b p).standing ≡ true → (at b p).item ≡ 0
    → f ≡ awaited b p → LoopOf (with_given b p f) l → LoopOfWaiter b p l
unfolding safe
waiter_found b p f l s i w z e h = record {
  is_loop = λ _ _. given_by b p (awaited b p) l (subst (λ g. LoopOf (with_given b p g) l) e h)
      (and_both (is_program p) (is_admitted (at b p).standing) (of_is p i) (waiting_in (at b p).standing w))
      (waiter_claims b p s i w z) (waiter_unsafe b p s i w z);
  is_none = ⊎_elim (λ n. never w n) (λ n. absurd (n z));
  fits = h.fits;
}
