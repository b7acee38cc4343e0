-- Sections of bytes: what each writes, what it reads, when bytes fit it, and sections one after another.
-- Assumes nothing.
use Rattle.std.specs.Prelude.{ℕ, zero, suc, ◌+◌, ◌*◌, ◌/◌, ◌%◌, ◌<◌, ◌^◌, ◌≡◌, List, [], ◌∷◌, ◌++◌, Bool, true, false, ◌&&◌, length, get_or, take}
use Rattle.std.specs.Prelude.{drop}
use Rattle.columns.specs.Rows.{flat}

-- A section of an image, of as many bytes as its size, for the values of A that the code can hold. It reads and tests the bytes at the front of a
-- list, whatever comes after them.
pub record Section (A : Type 0) : Type 1 where
  pub size : ℕ
  pub holds : A → Type 0
  pub write : A → List ℕ
  pub read : List ℕ → A
  pub fits : List ℕ → Bool

-- ---- sections out of sections

module _ {A B : Type 0} where
  infixl 40 ◌▸◌
  -- one section after another
  abbrev pub ◌▸◌ : Section A → Section B → Section (A × B)
  s ▸ t =
      record {
        size = s.size + t.size;
        holds = λ p. s.holds p.0 × t.holds p.1;
        write = λ p. s.write p.0 ++ t.write p.1;
        read = λ l. (s.read l, t.read (drop s.size l));
        fits = λ l. s.fits l && t.fits (drop s.size l);
      }

  -- the same bytes, for the value in another form, there and back
  abbrev pub seen : (A → B) → (B → A) → Section A → Section B
  seen there back s =
      record {
        size = s.size;
        holds = λ b. s.holds (back b);
        write = λ b. s.write (back b);
        read = λ l. there (s.read l);
        fits = s.fits;
      }

  -- .. for good values only: there and back they are the same, and the parts read must pass a test
  abbrev pub refined : (A → B) → (B → A) → (A → Bool) → (B → Type 0) → Section A → Section B
  refined there back test good s =
      record {
        size = s.size;
        holds = λ b. s.holds (back b) × good b;
        write = λ b. s.write (back b);
        read = λ l. there (s.read l);
        fits = λ l. s.fits l && test (s.read l);
      }

module _ {A : Type 0} where
  -- P of each
  unfoldable pub Each : (A → Type 0) → List A → Type 0
  Each P [] = Unit {0}
  Each P (a ∷ l) = P a × Each P l

  unfoldable pub read_many : Section A → ℕ → List ℕ → List A
  read_many s zero l = []
  read_many s (suc n) l = s.read (take s.size l) ∷ read_many s n (drop s.size l)

  unfoldable pub fit_many : Section A → ℕ → List ℕ → Bool
  fit_many s zero l = true
  fit_many s (suc n) l = s.fits (take s.size l) && fit_many s n (drop s.size l)

  -- n times the same section
  abbrev pub many : ℕ → Section A → Section (List A)
  many n s =
      record {
        size = s.size * n;
        holds = λ l. (length l ≡ n) × Each s.holds l;
        write = flat s.write;
        read = read_many s n;
        fits = fit_many s n;
      }

-- row n of many of the same section
abbrev pub row_at : {A : Type 0} → Section A → List ℕ → ℕ → List ℕ
row_at s l n = take s.size (drop (s.size * n) l)

-- ---- values whose parts stand in two sections

-- two lists, joined one by one
module _ {A B C : Type 0} where
  unfoldable pub zipped : (A → B → C) → List A → List B → List C
  zipped f [] m = []
  zipped f (a ∷ l) [] = []
  zipped f (a ∷ l) (b ∷ m) = f a b ∷ zipped f l m

-- two lists of one length pass a test one by one
module _ {A B : Type 0} where
  unfoldable pub agree : (A → B → Bool) → List A → List B → Bool
  agree t [] [] = true
  agree t [] (b ∷ m) = false
  agree t (a ∷ l) [] = false
  agree t (a ∷ l) (b ∷ m) = t a b && agree t l m

-- ---- sections of bytes

-- one byte
abbrev pub byte : Section ℕ
byte = record { size = 1; holds = λ x. Unit {0}; write = λ x. x ∷ []; read = λ l. get_or l 0 0; fits = λ l. true }

-- n bytes, whatever they are
abbrev pub run : ℕ → Section (List ℕ)
run n = record { size = n; holds = λ x. length x ≡ n; write = λ x. x; read = take n; fits = λ l. true }

-- n bytes, lowest first
unfoldable pub bytes_n : ℕ → ℕ → List ℕ
bytes_n zero x = []
bytes_n (suc n) x = x % 256 ∷ bytes_n n (x / 256)

-- the number of bytes, lowest first
unfoldable pub value_of : List ℕ → ℕ
value_of [] = 0
value_of (b ∷ l) = b + 256 * value_of l

-- a number in n bytes, lowest first
abbrev pub number : ℕ → Section ℕ
number n = record { size = n; holds = λ x. x < 256 ^ n; write = bytes_n n; read = λ l. value_of (take n l); fits = λ l. true }
