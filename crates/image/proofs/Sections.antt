-- The laws of sections: each round trip once for a kind of section, and for sections one after another. Assumes nothing.
use Prim.Native.Nat.{ℕ, zero, suc, ◌+◌, ◌*◌, ◌/◌, ◌%◌, ◌^◌, ◌≤◌, ◌<◌}
use mathlib.Core.Path.{◌≡◌, refl, ap, sym, ◌∙◌}
use mathlib.Core.List.{List, [], ◌∷◌, ◌++◌, map, append_assoc, append-nil}
use mathlib.Core.Bool.{Bool, true, false}
use lib.ListN.{length, get_or, take, drop, length-append, length-drop, drop_of_length-le}
use lib.Seq.{take_at, take_all, take-add, take-take, drop_at, drop-drop, drop-cons, length-take-le, get_or-drop}
use native.Mathlib.Omega.{arith}
use native.Mathlib.Nat.{mul-zero}
use Rattle.laws.specs.Tests.{never, and_left, and_right, and_false}
use Rattle.columns.specs.Rows.{flat, put_at}
use Rattle.image.specs.Sections.{Section, ◌▸◌, seen, refined, many, Each, read_many, fit_many, row_at, zipped, agree}
use Rattle.image.specs.Sections.{byte, run, bytes_n, value_of, number}
use Rattle.image.specs.Law.{Bytes, Lawful}

-- ---- bytes of a list

bytes_drop : (n : ℕ) (l : List ℕ) → Bytes l → Bytes (drop n l)
bytes_drop n l h i = rw (get_or-drop n l i 0) (h (n + i))

bytes_take : (n : ℕ) (l : List ℕ) → Bytes l → Bytes (take n l)
bytes_take zero l h i = omega arith
bytes_take (suc n) [] h i = h i
bytes_take (suc n) (a ∷ l) h zero = h 0
bytes_take (suc n) (a ∷ l) h (suc i) = bytes_take n l (λ j. h (suc j)) i

-- ---- sections of bytes

pub byte_lawful : Lawful byte
byte_lawful =
    record {
      long = λ a h. refl;
      fit = λ a rest h. refl;
      back = λ a rest h. refl;
      again = λ l b n f. sym (rw (drop-cons l 0 0 (omega arith)) refl);
    }

pub run_lawful : (n : ℕ) → Lawful (run n)
run_lawful n =
    record {
      long = λ a h. h;
      fit = λ a rest h. refl;
      back = λ a rest h. take_at a rest n h;
      again = λ l b m f. refl;
    }

pub number-length : (n x : ℕ) → length (bytes_n n x) ≡ n
unfolding bytes_n
number-length zero x = refl
number-length (suc n) x = ap suc (number-length n (x / 256))

word_bytes : (n x : ℕ) → x < 256 ^ n → value_of (bytes_n n x) ≡ x
unfolding value_of bytes_n
word_bytes zero x h = omega arith
word_bytes (suc n) x h = omega (arith, word_bytes n (x / 256) (omega arith))

bytes_word : (l : List ℕ) → Bytes l → bytes_n (length l) (value_of l) ≡ l
unfolding value_of bytes_n
bytes_word [] h = refl
bytes_word (b ∷ l) h =
    let hb : b < 256 = h 0 in
    let e₁ : (b + 256 * value_of l) % 256 ≡ b = omega arith in
    let e₂ : (b + 256 * value_of l) / 256 ≡ value_of l = omega arith in
    rw (e₁, e₂, bytes_word l (λ i. h (suc i)))

pub number_lawful : (n : ℕ) → Lawful (number n)
number_lawful n =
    record {
      long = λ x h. number-length n x;
      fit = λ x rest h. refl;
      back = λ x rest h. rw (take_at (bytes_n n x) rest n (number-length n x)) (word_bytes n x h);
      again = λ l b m f. rw (length-take-le n l m) at (bytes_word (take n l) (bytes_take n l b));
    }

-- ---- one after another

-- what comes after what a section wrote
over : {A : Type 0} {s : Section A} → Lawful s → (a : A) (rest : List ℕ) → s.holds a → drop s.size (s.write a ++ rest) ≡ rest
over {A} {s} p a rest h = drop_at (s.write a) rest s.size (p.long a h)

module _ {A B : Type 0} where
  infixl 40 ◌▸ₗ◌
  pub ◌▸ₗ◌ : {s : Section A} {t : Section B} → Lawful s → Lawful t → Lawful (s ▸ t)
  ◌▸ₗ◌ {s} {t} p q =
      record {
        long = λ a h. omega (arith, length-append (s.write a.0) (t.write a.1), p.long a.0 h.0, q.long a.1 h.1);
        fit = λ a rest h.
            let r = t.write a.1 ++ rest in
            rw (append_assoc (s.write a.0) (t.write a.1) rest, p.fit a.0 r h.0, over p a.0 r h.0) (q.fit a.1 rest h.1);
        back = λ a rest h.
            let r = t.write a.1 ++ rest in
            rw (
              append_assoc (s.write a.0) (t.write a.1) rest,
              p.back a.0 r h.0,
              over p a.0 r h.0,
              q.back a.1 rest h.1,
            );
        again = λ l b n f.
            let d = drop s.size l in
            rw (
              p.again l b (omega arith) (and_left (s.fits l) (t.fits d) f),
              q.again d (bytes_drop s.size l b) (omega (arith, length-drop s.size l)) (and_right (s.fits l) (t.fits d) f),
            )
            (sym (take-add s.size t.size l));
      }

  pub seen_lawful : {s : Section A} (there : A → B) (back : B → A)
      → ((b : B) → there (back b) ≡ b) → ((a : A) → back (there a) ≡ a) → Lawful s → Lawful (seen there back s)
  seen_lawful {s} there back e d p =
      record {
        long = λ b h. p.long (back b) h;
        fit = λ b rest h. p.fit (back b) rest h;
        back = λ b rest h. ap there (p.back (back b) rest h) ∙ e b;
        again = λ l b n f. ap s.write (d (s.read l)) ∙ p.again l b n f;
      }

  pub refined_lawful : {s : Section A} (there : A → B) (back : B → A) (test : A → Bool) (good : B → Type 0)
      → ((b : B) → good b → there (back b) ≡ b) → ((b : B) → good b → test (back b) ≡ true) → ((a : A) → test a ≡ true → back (there a) ≡ a)
      → Lawful s → Lawful (refined there back test good s)
  refined_lawful {s} there back test good e t d p =
      record {
        long = λ b h. p.long (back b) h.0;
        fit = λ b rest h. rw (p.fit (back b) rest h.0, p.back (back b) rest h.0) (t b h.1);
        back = λ b rest h. ap there (p.back (back b) rest h.0) ∙ e b h.1;
        again = λ l b n f. ap s.write (d (s.read l) (and_right (s.fits l) (test (s.read l)) f))
            ∙ p.again l b n (and_left (s.fits l) (test (s.read l)) f);
      }

-- ---- two lists joined one by one

module _ {A B C : Type 0} (join : A → B → C) (left : C → A) (right : C → B) (test : A → B → Bool) (good : C → Type 0)
    (back : (c : C) → good c → join (left c) (right c) ≡ c) (fit : (c : C) → good c → test (left c) (right c) ≡ true)
    (again : (a : A) (b : B) → test a b ≡ true → (left (join a b) ≡ a) × (right (join a b) ≡ b)) where
  pub zipped-back : (l : List C) → Each good l → zipped join (map left l) (map right l) ≡ l
  unfolding zipped Each
  zipped-back [] h = refl
  zipped-back (c ∷ l) h = rw (back c h.0, zipped-back l h.1)

  pub zipped-fit : (l : List C) → Each good l → agree test (map left l) (map right l) ≡ true
  unfolding agree Each
  zipped-fit [] h = refl
  zipped-fit (c ∷ l) h = rw (fit c h.0, zipped-fit l h.1)

  pub zipped-again : (l : List A) (m : List B) → agree test l m ≡ true → (map left (zipped join l m) ≡ l) × (map right (zipped join l m) ≡ m)
  unfolding agree zipped
  zipped-again [] [] h = (refl, refl)
  zipped-again [] (b ∷ m) h = never {t = false} h refl
  zipped-again (a ∷ l) [] h = never {t = false} h refl
  zipped-again (a ∷ l) (b ∷ m) h =
      let e = again a b (and_left (test a b) (agree test l m) h) in
      let d = zipped-again l m (and_right (test a b) (agree test l m) h) in
      (rw (e.0, d.0), rw (e.1, d.1))

module _ {A B C : Type 0} (join : A → B → C) where
  pub zipped-at : (l : List A) (m : List B) (i : ℕ) (a : A) (b : B) (c : C) → i < length l → i < length m
      → get_or (zipped join l m) i c ≡ join (get_or l i a) (get_or m i b)
  unfolding zipped
  zipped-at [] m i a b c h k = absurd (let n : i < 0 = h in omega arith)
  zipped-at (x ∷ l) [] i a b c h k = absurd (let n : i < 0 = k in omega arith)
  zipped-at (x ∷ l) (y ∷ m) zero a b c h k = refl
  zipped-at (x ∷ l) (y ∷ m) (suc i) a b c h k = zipped-at l m i a b c (omega arith) (omega arith)

  pub zipped-length : (l : List A) (m : List B) → length l ≡ length m → length (zipped join l m) ≡ length l
  unfolding zipped
  zipped-length [] m h = refl
  zipped-length (x ∷ l) [] h = absurd (let n : suc (length l) ≡ 0 = h in omega arith)
  zipped-length (x ∷ l) (y ∷ m) h = ap suc (zipped-length l m (omega arith))

-- P of each, by place
pub each_at : {A : Type 0} (P : A → Type 0) (l : List A) (d : A) → ((i : ℕ) → i < length l → P (get_or l i d)) → Each P l
unfolding Each
each_at P [] d h = tt
each_at P (a ∷ l) d h = (h 0 (omega arith), each_at P l d (λ i m. h (suc i) (omega arith)))

-- rows of a part of each
pub flat_map : {A B : Type 0} (f : B → List ℕ) (g : A → B) (l : List A) → flat f (map g l) ≡ flat (λ a. f (g a)) l
unfolding flat
flat_map f g [] = refl
flat_map f g (a ∷ l) = ap (λ (x : List ℕ). f (g a) ++ x) (flat_map f g l)

-- ---- many of the same

module _ {A : Type 0} (s : Section A) (p : Lawful s) where
  first_bytes : (a : A) (rest : List ℕ) → s.holds a → take s.size (s.write a ++ rest) ≡ s.write a ++ []
  first_bytes a rest h = take_at (s.write a) rest s.size (p.long a h) ∙ sym (append-nil (s.write a))

  many-long : (l : List A) → Each s.holds l → length (flat s.write l) ≡ s.size * length l
  unfolding flat Each
  many-long [] h = omega arith
  many-long (a ∷ l) h = omega (arith, length-append (s.write a) (flat s.write l), p.long a h.0, many-long l h.1)

  many-fit : (l : List A) (rest : List ℕ) → Each s.holds l → fit_many s (length l) (flat s.write l ++ rest) ≡ true
  unfolding flat fit_many Each
  many-fit [] rest h = refl
  many-fit (a ∷ l) rest h = rw (
    append_assoc (s.write a) (flat s.write l) rest,
    first_bytes a (flat s.write l ++ rest) h.0,
    over p a (flat s.write l ++ rest) h.0,
    p.fit a [] h.0,
    many-fit l rest h.1,
  )

  many-back : (l : List A) (rest : List ℕ) → Each s.holds l → read_many s (length l) (flat s.write l ++ rest) ≡ l
  unfolding flat read_many Each
  many-back [] rest h = refl
  many-back (a ∷ l) rest h = rw (
    append_assoc (s.write a) (flat s.write l) rest,
    first_bytes a (flat s.write l ++ rest) h.0,
    over p a (flat s.write l ++ rest) h.0,
    p.back a [] h.0,
    many-back l rest h.1,
  )

  many-again : (n : ℕ) (l : List ℕ) → Bytes l → s.size * n ≤ length l → fit_many s n l ≡ true → flat s.write (read_many s n l) ≡ take (s.size * n) l
  unfolding flat fit_many read_many
  many-again zero l b h f = rw (mul-zero s.size)
  many-again (suc n) l b h f =
      let e : s.size * suc n ≡ s.size + s.size * n = omega arith in
      let m : s.size ≤ length l = omega arith in
      let g = and_left (s.fits (take s.size l)) (fit_many s n (drop s.size l)) f in
      let k = and_right (s.fits (take s.size l)) (fit_many s n (drop s.size l)) f in
      rw (
        p.again (take s.size l) (bytes_take s.size l b) (omega (arith, length-take-le s.size l m)) g,
        many-again n (drop s.size l) (bytes_drop s.size l b) (omega (arith, length-drop s.size l)) k,
        take-take s.size s.size l (omega arith),
        e,
        take-add s.size (s.size * n) l,
      )

  pub many_lawful : (n : ℕ) → Lawful (many n s)
  many_lawful n =
      record {
        long = λ a h. many-long a h.1 ∙ ap (λ (k : ℕ). s.size * k) h.0;
        fit = λ a rest h. rw (← h.0) (many-fit a rest h.1);
        back = λ a rest h. rw (← h.0) (many-back a rest h.1);
        again = many-again n;
      }

-- ---- a whole list of bytes

module _ {A : Type 0} {s : Section A} (p : Lawful s) where
  pub whole_fits : (a : A) → s.holds a → s.fits (s.write a) ≡ true
  whole_fits a h = rw append-nil at (p.fit a [] h)

  pub whole_back : (a : A) → s.holds a → s.read (s.write a) ≡ a
  whole_back a h = rw append-nil at (p.back a [] h)

  pub whole_again : (l : List ℕ) → Bytes l → length l ≡ s.size → s.fits l ≡ true → s.write (s.read l) ≡ l
  whole_again l b n f = p.again l b (omega arith) f ∙ take_all s.size l (omega arith)

-- ---- loops over many of the same: those so far and one more, or one that doesn't fit

module _ {A : Type 0} (s : Section A) where
  row-after : (l : List ℕ) (n : ℕ) → row_at s (drop s.size l) n ≡ row_at s l (suc n)
  row-after l n = let e : s.size + s.size * n ≡ s.size * suc n = omega arith in rw (drop-drop (s.size * n) s.size l, e)

  row_first : (l : List ℕ) → row_at s l 0 ≡ take s.size l
  row_first l = rw (mul-zero s.size)

  pub read_length : (n : ℕ) (l : List ℕ) → length (read_many s n l) ≡ n
  unfolding read_many
  read_length zero l = refl
  read_length (suc n) l = ap suc (read_length n (drop s.size l))

  -- what is read of row i
  pub read_at : (n i : ℕ) (l : List ℕ) (a : A) → i < n → get_or (read_many s n l) i a ≡ s.read (row_at s l i)
  unfolding read_many
  read_at zero i l a h = absurd (omega arith)
  read_at (suc n) zero l a h = rw (row_first l)
  read_at (suc n) (suc i) l a h = read_at n i (drop s.size l) a (omega arith) ∙ rw (row-after l i)

  -- a section without a test fits
  pub fit-any : (n : ℕ) (l : List ℕ) → ((k : List ℕ) → s.fits k ≡ true) → fit_many s n l ≡ true
  unfolding fit_many
  fit-any zero l h = refl
  fit-any (suc n) l h = rw (h (take s.size l), fit-any n (drop s.size l) h)

module _ {A B : Type 0} (s : Section A) (t : Section B) (test : A → B → Bool) where
  abbrev pub agree_many : ℕ → List ℕ → List ℕ → Bool
  agree_many n l m = agree test (read_many s n l) (read_many t n m)

  -- the two rows pass the test
  abbrev pub agree_at : ℕ → List ℕ → List ℕ → Bool
  agree_at n l m = test (s.read (row_at s l n)) (t.read (row_at t m n))

  first-agree : (l m : List ℕ) → test (s.read (take s.size l)) (t.read (take t.size m)) ≡ agree_at 0 l m
  first-agree l m = rw (row_first s l, row_first t m)

  after-agree : (n : ℕ) (l m : List ℕ) → agree_at n (drop s.size l) (drop t.size m) ≡ agree_at (suc n) l m
  after-agree n l m = rw (row-after s l n, row-after t m n)

  pub agree-more : (n : ℕ) (l m : List ℕ) → agree_many n l m ≡ true → agree_at n l m ≡ true → agree_many (suc n) l m ≡ true
  unfolding read_many agree
  agree-more zero l m h f = rw (first-agree l m, f)
  agree-more (suc n) l m h f =
      let a = test (s.read (take s.size l)) (t.read (take t.size m)) in
      let b = agree_many n (drop s.size l) (drop t.size m) in
      let g : a ≡ true = and_left a b h in
      rw g (agree-more n (drop s.size l) (drop t.size m) (and_right a b h) (after-agree n l m ∙ f))

  pub agree_fail : (i n : ℕ) (l m : List ℕ) → agree_at i l m ≡ false → i < n → agree_many n l m ≡ false
  unfolding read_many agree
  agree_fail i zero l m f h = absurd (omega arith)
  agree_fail zero (suc n) l m f h = rw (first-agree l m, f)
  agree_fail (suc i) (suc n) l m f h =
      let a = test (s.read (take s.size l)) (t.read (take t.size m)) in
      rw (agree_fail i n (drop s.size l) (drop t.size m) (after-agree i l m ∙ f) (omega arith)) (and_false a)

-- ---- sections put into a buffer one after another

-- n bytes put right after what is written over the front of out₀
pub put_next : (out₀ out P src : List ℕ) (at n : ℕ) → length P ≡ at → length src ≡ n → out ≡ P ++ drop at out₀
    → put_at at src out ≡ P ++ src ++ drop (at + n) out₀
unfolding put_at
put_next out₀ out P src at n lp ls e =
    let eT : take at out ≡ P = rw e (take_at P (drop at out₀) at lp) in
    let eD : drop (at + n) out ≡ drop (at + n) out₀ = sym (drop-drop n at out)
    ∙ rw e (ap (drop n) (drop_at P (drop at out₀) at lp)) ∙ drop-drop n at out₀ in
    rw (ls, eT, eD, append_assoc)

-- the value's bytes stand at the buffer's front, and the rest is as before
pub record Put {A : Type 0} (s : Section A) (a : A) (before after : List ℕ) : Type 0 where
  pub long : length (s.write a) ≡ s.size
  pub front : after ≡ s.write a ++ drop s.size before

module _ {A : Type 0} {s : Section A} {a : A} {out₀ : List ℕ} where
  pub put_first : {last : List ℕ} → length (s.write a) ≡ s.size → last ≡ put_at 0 (s.write a) out₀ → Put s a out₀ last
  unfolding put_at
  put_first n e = let z : 0 + s.size ≡ s.size = omega arith in record { long = n; front = e ∙ rw (n, z) }

  pub put-after : {B : Type 0} {out last : List ℕ} (t : Section B) (b : B) → Put s a out₀ out → length (t.write b) ≡ t.size
      → last ≡ put_at s.size (t.write b) out → Put (s ▸ t) (a, b) out₀ last
  put-after {B} {out} t b p n e =
      record {
        long = omega (arith, length-append (s.write a) (t.write b), p.long, n);
        front = e ∙ put_next out₀ out (s.write a) (t.write b) s.size t.size p.long n p.front;
      }

  -- the whole buffer
  pub put_all : {out : List ℕ} → Put s a out₀ out → length out₀ ≡ s.size → out ≡ s.write a
  put_all p n = p.front ∙ rw (drop_of_length-le out₀ {i = s.size} (omega arith)) (append-nil (s.write a))
