-- Cases of a test and of an option, and what follows from two tests together.
-- Assumes nothing.
use Rattle.std.specs.Prelude.{◌≡◌, refl, Bool, true, false, not, ◌&&◌, ◌||◌}
use Rattle.std.proofs.Common.{sym, ◌∙◌}
use Rattle.std.proofs.Math.Option.{Option, none, some}
use Rattle.std.proofs.lemmas.Bool.{false≢true}

-- a Bool is one of the two, with the equation kept
pub by_test {ℓ} : {C : Type ℓ} (t : Bool) → (t ≡ true → C) → (t ≡ false → C) → C
by_test true f g = f refl
by_test false f g = g refl

-- an option is one of the two, with the equation kept
pub by_option {ℓ} : {A : Type 0} {C : Type ℓ} (o : Option A) → (o ≡ none → C) → ((x : A) → o ≡ some x → C) → C
by_option none f g = f refl
by_option (some x) f g = g x refl

-- nothing is both
pub never {ℓ} : {C : Type ℓ} {t : Bool} → t ≡ true → t ≡ false → C
never p q = absurd (false≢true (sym q ∙ p))

pub or_cases : {C : Type 0} (a b : Bool) → a || b ≡ true → (a ≡ true → C) → (b ≡ true → C) → C
or_cases true b e f g = f refl
or_cases false b e f g = g e

pub or_left : (a b : Bool) → a ≡ true → a || b ≡ true
or_left a b e = rw e

pub or_right : (a b : Bool) → b ≡ true → a || b ≡ true
or_right true b e = refl
or_right false b e = e

pub and_left : (a b : Bool) → a && b ≡ true → a ≡ true
and_left true b e = refl
and_left false b e = e

pub and_right : (a b : Bool) → a && b ≡ true → b ≡ true
and_right true b e = e
and_right false b e = never {t = false} e refl

pub and_both : (a b : Bool) → a ≡ true → b ≡ true → a && b ≡ true
and_both a b e d = rw (e, d)

pub no_true : (t : Bool) → (t ≡ true → ⊥) → t ≡ false
no_true t n = by_test t (λ e. absurd (n e)) (λ e. e)

pub not_true : (t : Bool) → not t ≡ true → t ≡ false
not_true true e = sym e
not_true false e = refl

pub true_not : (t : Bool) → t ≡ false → not t ≡ true
true_not t e = rw e

pub not_of : (t : Bool) → not t ≡ false → t ≡ true
not_of true e = refl
not_of false e = sym e

-- tests that imply each other are equal
pub same_test : (a b : Bool) → (a ≡ true → b ≡ true) → (b ≡ true → a ≡ true) → a ≡ b
same_test a b f g = by_test a (λ e. e ∙ sym (f e)) (λ e. by_test b (λ d. never (g d) e) (λ d. e ∙ sym d))

pub or_true : (t : Bool) → t || true ≡ true
or_true true = refl
or_true false = refl

pub and_false : (t : Bool) → t && false ≡ false
and_false true = refl
and_false false = refl

pub and_true : (t : Bool) → t && true ≡ t
and_true true = refl
and_true false = refl
