-- Laws of the oldest of a line that passes a test. Assumes nothing.
use Rattle.std.proofs.Common.{◌≡◌, ◌≢◌, ℕ, ◌+◌, ◌<◌, Bool, true, false, List, [], length, get_or, drop, add-one}
use Rattle.std.proofs.Math.Option.{none, some}
use mathlib.Core.List.Memᴰ
use Rattle.laws.specs.Lists.{first, names}
use Rattle.laws.specs.Laws.{◌∈◌, here}
use Rattle.lines.proofs.Laws.{names-on}

module _ (l : List ℕ) (k : ℕ) (h : k < length l) (ne : get_or l k 0 ≢ 0) where
  pub first-here : (t : ℕ → Bool) → t (get_or l k 0) ≡ true → first t (names (drop k l)) ≡ some (get_or l k 0)
  unfolding first
  first-here t e = rw (names-on l k h ne, e)

  pub first-later : (t : ℕ → Bool) → t (get_or l k 0) ≡ false → first t (names (drop k l)) ≡ first t (names (drop (k + 1) l))
  unfolding first
  first-later t e = rw (names-on l k h ne, e, add-one k)

  pub name-in : get_or l k 0 ∈ names (drop k l)
  name-in = rw (names-on l k h ne) here

  pub name_later : (p : ℕ) → p ∈ names (drop (k + 1) l) → p ∈ names (drop k l)
  name_later p m = rw (names-on l k h ne) (Memᴰ.tail (rw (add-one k) at m))

pub first_none_left : (t : ℕ → Bool) (l : List ℕ) → l ≡ [] → first t l ≡ none
unfolding first
first_none_left t l e = rw e
