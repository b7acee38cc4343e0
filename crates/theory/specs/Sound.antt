-- A sound board, clause by clause, and that the test `sound` of the rules is exactly these clauses.
-- Assumes nothing.
use Rattle.std.specs.Prelude.{ℕ, ◌≤◌, ◌+◌, ◌≡◌, ◌↔◌, ◌≢◌, ◌⊎◌, Bool, true, false, ◌&&◌, ◌||◌, List}
use Rattle.std.proofs.Math.Path.{refl, sym, ap}
use Rattle.std.proofs.Common.{◌∙◌, subst, inl, inr, ⊎_elim}
use Rattle.std.proofs.Math.Bool.{not, cond}
use Rattle.std.proofs.Math.Dec.{eqb, leb}
use Rattle.std.proofs.Math.ListN.{length}
use borrow.Author.Tests.{eqb-true, eqb-false, eq-eqb, ne_eqb, leb-true, le-leb}
use Rattle.laws.specs.Tests.{by_test, never, or_cases, or_left, or_right, and_left, and_right, and_both, no_true, not_true, true_not}
use Rattle.files.specs.declared.FileSet.{FileSet}
use Rattle.files.specs.Sets.{no_files, member, within, is_empty}
use Rattle.files.proofs.Laws.{within_⊑, ⊑_within}
use Rattle.rules.specs.declared.Standing.{Standing}
use Rattle.rules.specs.declared.Program.{Program}
use Rattle.rules.specs.declared.Board.{Board}
use Rattle.laws.specs.Lists.{any, all, found, listed, distinct, same, names, padded}
use Rattle.rules.specs.declared.Mode.{Mode}
use Rattle.rules.specs.Modes.{each_mode, claim_of, open_of, claims_meet}
use Rattle.rules.specs.Boards.{is_absent, is_held, is_waiting, is_admitted, is_program, awaited_of, everyone, at, awaited, passed_by, admitted}
use Rattle.rules.specs.Boards.{claims, has_open, uses, wants}
use Rattle.rules.specs.Orders.{conflict, carried, can_give}
use Rattle.rules.specs.Soundness.{sets_sound, standing_sound, program_sound, no_conflict, line_sound, waiter_sound, none_favoured, some_favoured}
use Rattle.rules.specs.Soundness.{may_have, item_sound, uses_differ, awaited_in_use, count_sound, sound}
use Rattle.rules.specs.Calls.{Call, apply}
use Rattle.laws.specs.Laws.{any_some, some-any, all-each, each_all, listed-mem, mem-listed, distinct_once}
use Rattle.laws.specs.Laws.{once_distinct, same_eq, eq_same}
use Rattle.theory.specs.Order.{IsOrder}
use Rattle.theory.specs.Programs.{Is, is_of, of_is, mem-everyone, everyone_is, Sized, can_give_is, admitted_is, Idle, Own}
use Rattle.theory.specs.Modes.{each_mode_lem, mode_each}
use Rattle.theory.specs.Carried.{holds_on, CompletionOrder, order_of_lem, of_order}
use Rattle.theory.specs.Records.{Uses, Wants, uses-of, of-uses, wants-of, of-wants, ItemOwn, none_item, uses-none, in_use_lem}
use Rattle.theory.specs.Loose.{Awaits, Asks, Loose, waiting_in, OnLine, Asked, Good, waiting_file}
use Rattle.theory.specs.Calls.{apply_stepped}

-- "W is within V, R within Q, V and Q share nothing"; I is within J, "a third claim J, disjoint from V and Q"
pub record SetsAsAbove (q : Program) : Type 0 where
  pub inside : (m : Mode) → within (open_of m q) (claim_of m q) ≡ true
  pub claims-apart : claims_meet q.writable q.readable q.inquirable ≡ false

pub record Sound (b : Board) : Type 0 where
  -- "sets as above"
  pub sets : (p : ℕ) → Is p → SetsAsAbove (at b p)
  -- "absent programs have empty sets"
  pub absent-empty : (p : ℕ) → Is p → (at b p).standing ≡ Standing.Absent → (m : Mode) → (claim_of m (at b p) ≡ no_files) × (open_of m (at b p) ≡ no_files)
  -- "held ones nothing open"
  pub held-closed : (p : ℕ) → Is p → (at b p).standing ≡ Standing.Held → Idle (at b p)
  -- "no conflict"
  pub no-conflict : (i j : ℕ) → Is i → Is j → i ≢ j → conflict (at b i) (at b j) ≡ false
  -- "a completion order exists"
  pub order_exists : (o : List ℕ) × CompletionOrder b o
  -- "each line names its programs once and is then 0"
  pub waiting_line : OnLine b.waiting (λ p. is_waiting (at b p).standing)
  pub entry-line : OnLine b.entry (λ p. is_held (at b p).standing)
  -- "a waiter's file is claimed, not open by it"
  pub waiter-asked : (p : ℕ) → Is p → Asks (at b p)
  -- "and can't be given now"
  pub waiter-stuck : (p : ℕ) → Is p → (f : ℕ) → Awaits (at b p) f → can_give b p f ≡ false
  -- "the favoured program is waiting"
  pub favoured-waits : b.favoured ≢ 0 → Is b.favoured × (is_waiting (at b b.favoured).standing ≡ true)
  -- "nobody favoured means nobody held and both numbers 0"
  pub nobody-favoured : b.favoured ≡ 0 → ((p : ℕ) → Is p → is_held (at b p).standing ≡ false) × (b.initial ≡ 0) × (b.leaves ≡ 0)
  -- "otherwise leaves counted plus admitted equal the number at favouring, which is at most 32"
  pub favoured-count : b.favoured ≢ 0 → (b.leaves + length (admitted b) ≡ b.initial) × (b.initial ≤ 32)
  -- "no count above 8"
  pub count_most : (p : ℕ) → Is p → passed_by b p ≤ 8
  -- "and 0 for all who aren't waiting"
  pub count-rest : (p : ℕ) → Is p → is_waiting (at b p).standing ≡ false → passed_by b p ≡ 0
  -- "their users run", "both have their file in I"
  pub item-own : (p : ℕ) → Is p → ItemOwn (at b p)
  -- "records in use differ"
  pub uses-differ : (i j f r : ℕ) → Is i → Is j → i ≢ j → Uses (at b i) f r → Uses (at b j) f r → ⊥
  -- "an awaited record is in use"
  pub awaited-used : (p f r : ℕ) → Is p → Wants (at b p) f r → (i : ℕ) × Is i × Uses (at b i) f r

-- ── Each part of the test ──

empty_is : (s : FileSet) → is_empty s ≡ true → s ≡ no_files
empty_is s e = ap {B = FileSet} (λ n. record { bits = n }) (eqb-true s.bits 0 e)

is_empty_lem : (s : FileSet) → s ≡ no_files → is_empty s ≡ true
is_empty_lem s e = eq-eqb s.bits 0 (ap (λ (t : FileSet). t.bits) e)

standing_of_lem : (q : Program) (s : Standing) → standing_sound s q ≡ true → q.standing ≡ s
    → (q.standing ≡ Standing.Absent → (m : Mode) → (claim_of m q ≡ no_files) × (open_of m q ≡ no_files)) × (q.standing ≡ Standing.Held → Idle q)
unfolding standing_sound
standing_of_lem q Standing.Absent e d = (λ _. none, λ u m. (none m).1)
  where
    claimed : Bool
    claimed = each_mode (λ m. is_empty (claim_of m q))

    opened : Bool
    opened = each_mode (λ m. is_empty (open_of m q))

    none : (m : Mode) → (claim_of m q ≡ no_files) × (open_of m q ≡ no_files)
    none m = (
      empty_is _ (mode_each (λ m. is_empty (claim_of m q)) (and_left claimed opened e) m),
      empty_is _ (mode_each (λ m. is_empty (open_of m q)) (and_right claimed opened e) m),
    )
standing_of_lem q Standing.Running e d = (
  λ u. never {t = false} (sym (ap is_absent d) ∙ ap is_absent u) refl,
  λ u. never {t = false} (sym (ap is_held d) ∙ ap is_held u) refl,
)
standing_of_lem q (Standing.Waiting f) e d = (
  λ u. never {t = false} (sym (ap is_absent d) ∙ ap is_absent u) refl,
  λ u. never {t = false} (sym (ap is_held d) ∙ ap is_held u) refl,
)
standing_of_lem q Standing.Held e d = (
  λ u. never {t = false} (sym (ap is_absent d) ∙ ap is_absent u) refl,
  λ u m. empty_is _ (mode_each (λ m. is_empty (open_of m q)) e m),
)

of_standing : (q : Program) (s : Standing) → q.standing ≡ s
    → (q.standing ≡ Standing.Absent → (m : Mode) → (claim_of m q ≡ no_files) × (open_of m q ≡ no_files))
    → (q.standing ≡ Standing.Held → Idle q) → standing_sound s q ≡ true
unfolding standing_sound
of_standing q Standing.Absent d f g = and_both (each_mode (λ m. is_empty (claim_of m q))) (each_mode (λ m. is_empty (open_of m q)))
    (each_mode_lem (λ m. is_empty (claim_of m q)) (λ m. is_empty_lem _ (f d m).0)) (each_mode_lem (λ m. is_empty (open_of m q)) (λ m. is_empty_lem _ (f d m).1))
of_standing q Standing.Running d f g = refl
of_standing q (Standing.Waiting h) d f g = refl
of_standing q Standing.Held d f g = each_mode_lem (λ m. is_empty (open_of m q)) (λ m. is_empty_lem _ (g d m))

sets_of : (q : Program) → sets_sound q ≡ true → SetsAsAbove q
unfolding sets_sound
sets_of q e = let i = each_mode (λ m. within (open_of m q) (claim_of m q)) in let a = claims_meet q.writable q.readable q.inquirable in
    record {
      inside = mode_each (λ m. within (open_of m q) (claim_of m q)) (and_left i (not a) e);
      claims-apart = not_true a (and_right i (not a) e);
    }

of_sets : (q : Program) → SetsAsAbove q → sets_sound q ≡ true
unfolding sets_sound
of_sets q s = let i = each_mode (λ m. within (open_of m q) (claim_of m q)) in let a = claims_meet q.writable q.readable q.inquirable in
    and_both i (not a) (each_mode_lem (λ m. within (open_of m q) (claim_of m q)) s.inside) (true_not a s.claims-apart)

may_of : (s : Standing) (q : Program) → may_have s q ≡ true → (s ≡ Standing.Running) ⊎ (s ≡ Standing.Waiting q.file)
unfolding may_have
may_of Standing.Absent q e = never {t = false} e refl
may_of Standing.Running q e = inl refl
may_of (Standing.Waiting f) q e = inr (ap Standing.Waiting (eqb-true f q.file e))
may_of Standing.Held q e = never {t = false} e refl

of_may : (s : Standing) (q : Program) → (s ≡ Standing.Running) ⊎ (s ≡ Standing.Waiting q.file) → may_have s q ≡ true
unfolding may_have
of_may s q e = ⊎_elim (λ d. ap (λ t. may_have t q) d) (λ d. ap (λ t. may_have t q) d ∙ eq-eqb q.file q.file refl) e

item_of : (q : Program) → item_sound q ≡ true → ItemOwn q
unfolding item_sound
item_of q e = by_test (eqb q.item 0)
    (λ t. let z = eqb-true q.item 0 t in none_item q z (eqb-true q.file 0 (rw t at e)))
    (λ t. let n = eqb-false q.item 0 t in let m = member q.inquiring q.file in let h = may_have q.standing q in record {
      no_item = λ z. absurd (n z);
      in_i = λ _. and_left m h (rw t at e);
      stands-so = λ _. may_of q.standing q (and_right m h (rw t at e));
    })

of_item_lem : (q : Program) → ItemOwn q → item_sound q ≡ true
unfolding item_sound
of_item_lem q o = by_test (eqb q.item 0)
    (λ t. rw t (eq-eqb q.file 0 (o.no_item (eqb-true q.item 0 t))))
    (λ t. let n = eqb-false q.item 0 t in rw t (and_both (member q.inquiring q.file) (may_have q.standing q) (o.in_i n)
    (of_may q.standing q (o.stands-so n))))

line_of_lem : (l : List ℕ) (t : ℕ → Bool) → line_sound l t ≡ true → OnLine l t
unfolding line_sound
line_of_lem l t e =
    let a = all (λ p. is_program p && t p) (names l) in let b = all (λ p. not (t p) || listed p (names l)) everyone in
    let c = distinct (names l) in let d = same l (padded 0 (names l)) in
    let abc = and_left (a && b && c) d e in let ab = and_left (a && b) c abc in
    record {
      form = same_eq l (padded 0 (names l)) (and_right (a && b && c) d e);
      once = distinct_once (names l) (and_right (a && b) c abc);
      of = λ p m. let u = all-each (λ p. is_program p && t p) (names l) (and_left a b ab) p m in
          (is_of p (and_left (is_program p) (t p) u), and_right (is_program p) (t p) u);
      on = λ p i u. let w = all-each (λ p. not (t p) || listed p (names l)) everyone (and_right a b ab) p
          (mem-everyone p i) in or_cases (not (t p)) (listed p (names l)) w (λ x. never u (not_true (t p) x)) (listed-mem p (names l));
    }

of_line_lem : (l : List ℕ) (t : ℕ → Bool) → OnLine l t → line_sound l t ≡ true
unfolding line_sound
of_line_lem l t k =
    let a = all (λ p. is_program p && t p) (names l) in let b = all (λ p. not (t p) || listed p (names l)) everyone in
    let c = distinct (names l) in let d = same l (padded 0 (names l)) in
    and_both (a && b && c) d (and_both (a && b) c (and_both a b
    (each_all (λ p. is_program p && t p) (names l) (λ p m. let (i, u) = k.of p m in and_both (is_program p) (t p) (of_is p i) u))
    (each_all (λ p. not (t p) || listed p (names l)) everyone
    (λ p m. by_test (t p) (λ u. or_right (not (t p)) (listed p (names l))
    (mem-listed p (names l) (k.on p (everyone_is p m) u))) (λ u. or_left (not (t p)) (listed p (names l)) (true_not (t p) u)))))
    (once_distinct (names l) k.once))
    (eq_same l (padded 0 (names l)) k.form)

-- ── The test is these clauses ──

module _ (b : Board) where
  conflict-of : no_conflict b ≡ true → (i j : ℕ) → Is i → Is j → i ≢ j → conflict (at b i) (at b j) ≡ false
  unfolding no_conflict
  conflict-of e i j a c n = let u =
      all-each (λ i. all (λ j. eqb i j || not (conflict (at b i) (at b j))) everyone) everyone e i (mem-everyone i a) in
      let v = all-each (λ j. eqb i j || not (conflict (at b i) (at b j))) everyone u j (mem-everyone j c) in
      or_cases (eqb i j) (not (conflict (at b i) (at b j))) v (λ x. absurd (n (eqb-true i j x)))
      (λ x. not_true (conflict (at b i) (at b j)) x)

  of-conflict : ((i j : ℕ) → Is i → Is j → i ≢ j → conflict (at b i) (at b j) ≡ false) → no_conflict b ≡ true
  unfolding no_conflict
  of-conflict f = each_all (λ i. all (λ j. eqb i j || not (conflict (at b i) (at b j))) everyone) everyone
      (λ i m. each_all (λ j. eqb i j || not (conflict (at b i) (at b j))) everyone (λ j k. by_test (eqb i j)
      (λ t. or_left (eqb i j) (not (conflict (at b i) (at b j))) t)
      (λ t. or_right (eqb i j) (not (conflict (at b i) (at b j))) (true_not (conflict (at b i) (at b j))
      (f i j (everyone_is i m) (everyone_is j k) (eqb-false i j t))))))

  waiter-of : (p f : ℕ) → waiter_sound b p f ≡ true → (at b p).item ≡ 0 → Asked (at b p) f × (can_give b p f ≡ false)
  unfolding waiter_sound
  waiter-of p f e d =
      let y = claims (at b p) f in let z = not (has_open (at b p) f) in let w = not (can_give b p f) in
      or_cases (not (eqb (at b p).item 0)) (y && z && w) e (λ u. never (eq-eqb (at b p).item 0 d) (not_true (eqb (at b p).item 0) u))
      (λ u. let yz = and_left (y && z) w u in (
        record { claimed = and_left y z yz; shut = not_true (has_open (at b p) f) (and_right y z yz) },
        not_true (can_give b p f) (and_right (y && z) w u),
      ))

  of-waiter : (p f : ℕ) → ((at b p).item ≡ 0 → Asked (at b p) f) → ((at b p).item ≡ 0 → can_give b p f ≡ false) → waiter_sound b p f ≡ true
  unfolding waiter_sound
  of-waiter p f a s =
      let y = claims (at b p) f in let z = not (has_open (at b p) f) in let w = not (can_give b p f) in
      let x = not (eqb (at b p).item 0) in by_test (eqb (at b p).item 0)
      (λ t. let d = eqb-true (at b p).item 0 t in or_right x (y && z && w) (and_both (y && z) w (and_both y z (a d).claimed
      (true_not (has_open (at b p) f) (a d).shut)) (true_not (can_give b p f) (s d))))
      (λ t. or_left x (y && z && w) (true_not (eqb (at b p).item 0) t))

  differ_of : uses_differ b ≡ true → (i j f r : ℕ) → Is i → Is j → i ≢ j → Uses (at b i) f r → Uses (at b j) f r → ⊥
  unfolding uses_differ
  differ_of e i j f r a c n u v =
      let x = uses (at b i) (at b i).file (at b i).item in
      let y = all (λ j. eqb i j || not (uses (at b j) (at b i).file (at b i).item)) everyone in
      or_cases (not x) y (all-each (λ i. not (uses (at b i) (at b i).file (at b i).item)
      || all (λ j. eqb i j || not (uses (at b j) (at b i).file (at b i).item)) everyone) everyone e i (mem-everyone i a))
      (λ t. never (of-uses (at b i) (at b i).file (at b i).item (u.0, u.1, refl, refl)) (not_true x t))
      (λ t. or_cases (eqb i j) (not (uses (at b j) (at b i).file (at b i).item))
      (all-each (λ j. eqb i j || not (uses (at b j) (at b i).file (at b i).item)) everyone t j (mem-everyone j c))
      (λ w. n (eqb-true i j w)) (λ w. never (of-uses (at b j) (at b i).file (at b i).item
      (v.0, v.1, v.2 ∙ sym u.2, v.3 ∙ sym u.3)) (not_true (uses (at b j) (at b i).file (at b i).item) w)))

  of-differ : ((i j f r : ℕ) → Is i → Is j → i ≢ j → Uses (at b i) f r → Uses (at b j) f r → ⊥) → uses_differ b ≡ true
  unfolding uses_differ
  of-differ h = each_all (λ i. not (uses (at b i) (at b i).file (at b i).item)
      || all (λ j. eqb i j || not (uses (at b j) (at b i).file (at b i).item)) everyone) everyone (λ i m.
      let x = uses (at b i) (at b i).file (at b i).item in
      let y = all (λ j. eqb i j || not (uses (at b j) (at b i).file (at b i).item)) everyone in
      by_test x
      (λ t. or_right (not x) y (each_all (λ j. eqb i j || not (uses (at b j) (at b i).file (at b i).item)) everyone (λ j k.
      let z = uses (at b j) (at b i).file (at b i).item in by_test (eqb i j) (or_left (eqb i j) (not z))
      (λ u. or_right (eqb i j) (not z) (true_not z (no_true z (λ w. h i j (at b i).file (at b i).item (everyone_is i m) (everyone_is j k)
      (eqb-false i j u) (uses-of (at b i) _ _ t) (uses-of (at b j) _ _ w))))))))
      (λ t. or_left (not x) y (true_not x t)))

  used-of : awaited_in_use b ≡ true → (p f r : ℕ) → Is p → Wants (at b p) f r → (i : ℕ) × Is i × Uses (at b i) f r
  unfolding awaited_in_use
  used-of e p f r c w =
      let x = wants (at b p) (at b p).file (at b p).item in let y = any (λ i. uses (at b i) (at b p).file (at b p).item) everyone in
      or_cases (not x) y (all-each (λ p. not (wants (at b p) (at b p).file (at b p).item)
      || any (λ i. uses (at b i) (at b p).file (at b p).item) everyone) everyone e p (mem-everyone p c))
      (λ t. never (of-wants (at b p) (at b p).file (at b p).item (w.0, w.1, refl, refl)) (not_true x t))
      (λ t. let (i, m, u) = any_some (λ i. uses (at b i) (at b p).file (at b p).item) everyone t in
      let v = uses-of (at b i) (at b p).file (at b p).item u in
      (i, everyone_is i m, (v.0, v.1, v.2 ∙ w.2, v.3 ∙ w.3)))

  of-used : ((p f r : ℕ) → Is p → Wants (at b p) f r → (i : ℕ) × Is i × Uses (at b i) f r) → awaited_in_use b ≡ true
  unfolding awaited_in_use
  of-used h = each_all (λ p. not (wants (at b p) (at b p).file (at b p).item)
      || any (λ i. uses (at b i) (at b p).file (at b p).item) everyone) everyone (λ p m.
      let x = wants (at b p) (at b p).file (at b p).item in let y = any (λ i. uses (at b i) (at b p).file (at b p).item) everyone in
      by_test x
      (λ t. let (i, c, u) = h p (at b p).file (at b p).item (everyone_is p m) (wants-of (at b p) _ _ t) in
      or_right (not x) y (some-any (λ i. uses (at b i) (at b p).file (at b p).item) everyone i (mem-everyone i c) (of-uses (at b i) _ _ u)))
      (λ t. or_left (not x) y (true_not x t)))

  none_of : none_favoured b ≡ true → ((p : ℕ) → Is p → is_held (at b p).standing ≡ false) × (b.initial ≡ 0) × (b.leaves ≡ 0)
  unfolding none_favoured
  none_of e =
      let x = not (any (λ p. is_held (at b p).standing) everyone) in let y = eqb b.initial 0 in let z =
      eqb b.leaves 0 in let xy = and_left (x && y) z e in (
        λ p i. no_true _ (λ u. never (some-any (λ p. is_held (at b p).standing) everyone p (mem-everyone p i) u)
            (not_true (any (λ p. is_held (at b p).standing) everyone) (and_left x y xy))),
        eqb-true b.initial 0
            (and_right x y xy),
        eqb-true b.leaves 0 (and_right (x && y) z e),
      )

  of_none : ((p : ℕ) → Is p → is_held (at b p).standing ≡ false) → b.initial ≡ 0 → b.leaves ≡ 0 → none_favoured b ≡ true
  unfolding none_favoured
  of_none h i l =
      let x = not (any (λ p. is_held (at b p).standing) everyone) in let y = eqb b.initial 0 in let z = eqb b.leaves 0 in
      and_both (x && y) z (and_both x y (true_not (any (λ p. is_held (at b p).standing) everyone)
      (no_true (any (λ p. is_held (at b p).standing) everyone) (λ e. let (p, m, u) = any_some
      (λ p. is_held (at b p).standing) everyone e in never u (h p (everyone_is p m))))) (eq-eqb b.initial 0 i))
      (eq-eqb b.leaves 0 l)

  some_of : some_favoured b ≡ true → (Is b.favoured × (is_waiting (at b b.favoured).standing ≡ true)) ×
      ((b.leaves + length (admitted b) ≡ b.initial) × (b.initial ≤ 32))
  unfolding some_favoured
  some_of e =
      let x = is_program b.favoured in let y = is_waiting (at b b.favoured).standing in let z =
      eqb (b.leaves + length (admitted b)) b.initial in let w = leb b.initial 32 in
      let xyz = and_left (x && y && z) w e in let xy = and_left (x && y) z xyz in (
        (is_of b.favoured (and_left x y xy), and_right x y xy),
        (
          eqb-true (b.leaves + length (admitted b))
              b.initial (and_right (x && y) z xyz),
          leb-true b.initial 32 (and_right (x && y && z) w e),
        ),
      )

  of_some : Is b.favoured → is_waiting (at b b.favoured).standing ≡ true
      → b.leaves + length (admitted b) ≡ b.initial → b.initial ≤ 32 → some_favoured b ≡ true
  unfolding some_favoured
  of_some i u c l =
      let x = is_program b.favoured in let y = is_waiting (at b b.favoured).standing in let z =
      eqb (b.leaves + length (admitted b)) b.initial in let w = leb b.initial 32 in
      and_both (x && y && z) w (and_both (x && y) z (and_both x y (of_is b.favoured i) u)
      (eq-eqb (b.leaves + length (admitted b)) b.initial c)) (le-leb b.initial 32 l)

  count_of : (p : ℕ) → count_sound b p ≡ true → (passed_by b p ≤ 8) × (is_waiting (at b p).standing ≡ false → passed_by b p ≡ 0)
  unfolding count_sound
  count_of p e = let x = leb (passed_by b p) 8 in let y = is_waiting (at b p).standing in let z = eqb (passed_by b p) 0 in (
    leb-true (passed_by b p) 8 (and_left x (y || z) e),
    λ n. or_cases y z (and_right x (y || z) e) (λ t. never t n) (λ t. eqb-true (passed_by b p) 0 t),
  )

  of-count : (p : ℕ) → passed_by b p ≤ 8 → (is_waiting (at b p).standing ≡ false → passed_by b p ≡ 0) → count_sound b p ≡ true
  unfolding count_sound
  of-count p m f = let x = leb (passed_by b p) 8 in let y = is_waiting (at b p).standing in let z = eqb (passed_by b p) 0 in
      and_both x (y || z) (le-leb (passed_by b p) 8 m) (by_test y (or_left y z) (λ t. or_right y z (eq-eqb (passed_by b p) 0 (f t))))

  -- the ten parts of the test
  record Parts : Type 0 where
    part_1 : all (λ p. program_sound (at b p)) everyone ≡ true
    part_2 : no_conflict b ≡ true
    part_3 : found (carried b) ≡ true
    part_4 : line_sound b.waiting (λ p. is_waiting (at b p).standing) ≡ true
    part_5 : line_sound b.entry (λ p. is_held (at b p).standing) ≡ true
    part_6 : all (λ p. waiter_sound b p (awaited b p)) (names b.waiting) ≡ true
    part_7 : cond (eqb b.favoured 0) (none_favoured b) (some_favoured b) ≡ true
    part_8 : all (count_sound b) everyone ≡ true
    part_9 : uses_differ b ≡ true
    part_10 : awaited_in_use b ≡ true

  parts-of : sound b ≡ true → Parts
  unfolding sound
  parts-of e =
      let x₁ = all (λ p. program_sound (at b p)) everyone in
      let x₂ = no_conflict b in
      let x₃ = found (carried b) in
      let x₄ = line_sound b.waiting (λ p. is_waiting (at b p).standing) in
      let x₅ = line_sound b.entry (λ p. is_held (at b p).standing) in
      let x₆ = all (λ p. waiter_sound b p (awaited b p)) (names b.waiting) in
      let x₇ = cond (eqb b.favoured 0) (none_favoured b) (some_favoured b) in
      let x₈ = all (count_sound b) everyone in
      let x₉ = uses_differ b in
      let x₁₀ = awaited_in_use b in
      let e₉ = and_left (x₁ && x₂ && x₃ && x₄ && x₅ && x₆ && x₇ && x₈ && x₉) x₁₀ e in
      let e₈ = and_left (x₁ && x₂ && x₃ && x₄ && x₅ && x₆ && x₇ && x₈) x₉ e₉ in
      let e₇ = and_left (x₁ && x₂ && x₃ && x₄ && x₅ && x₆ && x₇) x₈ e₈ in
      let e₆ = and_left (x₁ && x₂ && x₃ && x₄ && x₅ && x₆) x₇ e₇ in
      let e₅ = and_left (x₁ && x₂ && x₃ && x₄ && x₅) x₆ e₆ in
      let e₄ = and_left (x₁ && x₂ && x₃ && x₄) x₅ e₅ in
      let e₃ = and_left (x₁ && x₂ && x₃) x₄ e₄ in
      let e₂ = and_left (x₁ && x₂) x₃ e₃ in
      record {
        part_1 = and_left x₁ x₂ e₂;
        part_2 = and_right x₁ x₂ e₂;
        part_3 = and_right (x₁ && x₂) x₃ e₃;
        part_4 = and_right (x₁ && x₂ && x₃) x₄ e₄;
        part_5 = and_right (x₁ && x₂ && x₃ && x₄) x₅ e₅;
        part_6 = and_right (x₁ && x₂ && x₃ && x₄ && x₅) x₆ e₆;
        part_7 = and_right (x₁ && x₂ && x₃ && x₄ && x₅ && x₆) x₇ e₇;
        part_8 = and_right (x₁ && x₂ && x₃ && x₄ && x₅ && x₆ && x₇) x₈ e₈;
        part_9 = and_right (x₁ && x₂ && x₃ && x₄ && x₅ && x₆ && x₇ && x₈) x₉ e₉;
        part_10 = and_right (x₁ && x₂ && x₃ && x₄ && x₅ && x₆ && x₇ && x₈ && x₉) x₁₀ e;
      }

  of_parts : Parts → sound b ≡ true
  unfolding sound
  of_parts k = rw (k.part_1, k.part_2, k.part_3, k.part_4, k.part_5, k.part_6, k.part_7, k.part_8, k.part_9, k.part_10)

  clauses_of : sound b ≡ true → Sound b
  unfolding program_sound
  clauses_of e = record {
    sets = λ p i. sets_of (at b p) (and_left (sets_sound (at b p)) (standing_sound (at b p).standing (at b p)) (both p i));
    absent-empty = λ p i. (stand p i).0;
    held-closed = λ p i. (stand p i).1;
    no-conflict = conflict-of k.part_2;
    order_exists = order_of_lem b k.part_3;
    waiting_line = l;
    entry-line = line_of_lem b.entry _ k.part_5;
    waiter-asked = λ p i f u. (waiter p f i u).0;
    waiter-stuck = λ p i f u. (waiter p f i u).1;
    favoured-waits = λ n. (some_of (rw (ne_eqb b.favoured 0 n) at k.part_7)).0;
    nobody-favoured = λ d. none_of (rw (eq-eqb b.favoured 0 d) at k.part_7);
    favoured-count = λ n. (some_of (rw (ne_eqb b.favoured 0 n) at k.part_7)).1;
    count_most = λ p i. (count_of p (all-each (count_sound b) everyone k.part_8 p (mem-everyone p i))).0;
    count-rest = λ p i. (count_of p (all-each (count_sound b) everyone k.part_8 p (mem-everyone p i))).1;
    item-own = λ p i. item_of (at b p) (and_right (sets_sound (at b p) && standing_sound (at b p).standing (at b p)) (item_sound (at b p))
        (each p i));
    uses-differ = differ_of k.part_9;
    awaited-used = used-of k.part_10;
  }
    where
      k : Parts
      k = parts-of e

      each : (p : ℕ) → Is p → program_sound (at b p) ≡ true
      each p i = all-each (λ p. program_sound (at b p)) everyone k.part_1 p (mem-everyone p i)

      both : (p : ℕ) → Is p → sets_sound (at b p) && standing_sound (at b p).standing (at b p) ≡ true
      both p i = and_left (sets_sound (at b p) && standing_sound (at b p).standing (at b p)) (item_sound (at b p)) (each p i)

      stand : (p : ℕ) → Is p → ((at b p).standing ≡ Standing.Absent → (m : Mode) → (claim_of m (at b p) ≡ no_files) × (open_of m (at b p)
          ≡ no_files)) × ((at b p).standing ≡ Standing.Held → Idle (at b p))
      stand p i = standing_of_lem (at b p) (at b p).standing (and_right (sets_sound (at b p))
          (standing_sound (at b p).standing (at b p)) (both p i)) refl

      l : OnLine b.waiting (λ p. is_waiting (at b p).standing)
      l = line_of_lem b.waiting (λ p. is_waiting (at b p).standing) k.part_4

      waiter : (p f : ℕ) → Is p → Awaits (at b p) f → Asked (at b p) f × (can_give b p f ≡ false)
      waiter p f i u = waiter-of p f (ap (waiter_sound b p) (sym (ap awaited_of u.0))
          ∙ all-each (λ p. waiter_sound b p (awaited b p)) (names b.waiting) k.part_6 p (l.on p i (ap is_waiting u.0))) u.1

  of_clauses : Sound b → sound b ≡ true
  unfolding program_sound
  of_clauses k = of_parts (record {
    part_1 = each_all (λ p. program_sound (at b p)) everyone (λ p m. let i = everyone_is p m in
        and_both (sets_sound (at b p) && standing_sound (at b p).standing (at b p)) (item_sound (at b p))
        (and_both (sets_sound (at b p)) (standing_sound (at b p).standing (at b p)) (of_sets (at b p) (k.sets p i))
        (of_standing (at b p) (at b p).standing refl (k.absent-empty p i) (k.held-closed p i))) (of_item_lem (at b p) (k.item-own p i)));
    part_2 = of-conflict k.no-conflict;
    part_3 = of_order b k.order_exists.0 k.order_exists.1;
    part_4 = of_line_lem b.waiting (λ p. is_waiting (at b p).standing) k.waiting_line;
    part_5 = of_line_lem b.entry (λ p. is_held (at b p).standing) k.entry-line;
    part_6 = each_all (λ p. waiter_sound b p (awaited b p)) (names b.waiting)
        (λ p m. let (i, u) = k.waiting_line.of p m in let (f, s) = waiting_file (at b p).standing u in
        ap (waiter_sound b p) (ap awaited_of s) ∙ of-waiter p f (λ z. k.waiter-asked p i f (s, z)) (λ z. k.waiter-stuck p i f (s, z)));
    part_7 = by_test (eqb b.favoured 0)
        (λ t. rw t (let (h, i, l) = k.nobody-favoured (eqb-true b.favoured 0 t) in of_none h i l))
        (λ t. rw t (let n = eqb-false b.favoured 0 t in let (i, u) = k.favoured-waits n in
        let (c, l) = k.favoured-count n in of_some i u c l));
    part_8 = each_all (count_sound b) everyone (λ p m. let i = everyone_is p m in of-count p (k.count_most p i) (k.count-rest p i));
    part_9 = of-differ k.uses-differ;
    part_10 = of-used k.awaited-used;
  })

-- The test `sound` of the rules is 01's clauses.
pub sound_iff : (b : Board) → (sound b ≡ true) ↔ Sound b
sound_iff b = (clauses_of b, of_clauses b)

-- ── What the calls keep is soundness ──

pub good_sound : (b : Board) → Good b → Sound b
good_sound b g = record {
  sets = λ p i. let o = own p i in record { inside = λ m. ⊑_within _ _ (o.inside m); claims-apart = o.apart };
  absent-empty = λ p i u. let o = own p i in λ m. (o.gone u m, o.idle (ap is_admitted u) m);
  held-closed = λ p i u. (own p i).idle (ap is_admitted u);
  no-conflict = g.loose.base.apart;
  order_exists = let (o, c) = g.loose.base.order in (o, subst (λ l. IsOrder (holds_on b) l o) (sym (admitted_is b)) c);
  waiting_line = g.loose.waits;
  entry-line = g.loose.helds;
  waiter-asked = g.loose.asked;
  waiter-stuck = λ p i f u. can_give_is b p f ∙ g.stuck p i f u;
  favoured-waits = g.loose.fav-waits;
  nobody-favoured = λ d. let (x, y) = g.loose.nobody d in (g.free d, x, y);
  favoured-count = λ n. let (x, y) = g.loose.count n in (ap (λ l. b.leaves + length l) (admitted_is b) ∙ x, y);
  count_most = g.counts.counted.most;
  count-rest = g.counts.counted.rest;
  item-own = g.counts.records.own;
  uses-differ = g.counts.records.differ;
  awaited-used = λ p f r i w. in_use_lem b.programs p f r g.counts.records i w;
}
  where
    own : (p : ℕ) → Is p → Own (at b p)
    own = g.loose.base.own

idle_of : (q : Program) (t : Standing) → q.standing ≡ t → is_admitted t ≡ false → (q.standing ≡ Standing.Absent → Idle q)
    → (q.standing ≡ Standing.Held → Idle q) → Idle q
idle_of q Standing.Absent d e f g = f d
idle_of q Standing.Running d e f g = never {t = true} refl e
idle_of q (Standing.Waiting h) d e f g = never {t = true} refl e
idle_of q Standing.Held d e f g = g d

-- what a sound board says of a program by itself
pub own_of : (b : Board) (p : ℕ) → Sound b → Is p → Own (at b p)
own_of b p s i = let k = s.sets p i in record {
  inside = λ m. within_⊑ _ _ (k.inside m);
  apart = k.claims-apart;
  idle = λ e. idle_of (at b p) (at b p).standing refl e (λ u m. (s.absent-empty p i u m).1) (s.held-closed p i);
  gone = λ u m. (s.absent-empty p i u m).0;
}

pub sound_good : (b : Board) → Sized b.programs → Sound b → Good b
sound_good b z s = record {
  loose = record {
    base = record {
      size = z;
      own = λ p i. own_of b p s i;
      apart = s.no-conflict;
      order = let (o, c) = s.order_exists in
          (o, subst (λ l. IsOrder (holds_on b) l o) (admitted_is b) c);
    };
    waits = s.waiting_line;
    helds = s.entry-line;
    asked = s.waiter-asked;
    fav-waits = s.favoured-waits;
    count = λ n. let (x, y) = s.favoured-count n in (ap (λ l. b.leaves + length l) (sym (admitted_is b)) ∙ x, y);
    nobody = λ d. let (_, x, y) = s.nobody-favoured d in (x, y);
  };
  counts = record {
    counted = record { most = s.count_most; rest = s.count-rest };
    records = record {
      own = s.item-own;
      differ = s.uses-differ;
      kept = λ i f r c w. inr (s.awaited-used i f r c w);
      free = λ i c u. uses-none (at b i) 0 u;
    };
  };
  stuck = λ p i f u. sym (can_give_is b p f) ∙ s.waiter-stuck p i f u;
  free = λ d. (s.nobody-favoured d).0;
}

-- What a board has between two steps of settling: no conflict, an order, and each waiter is admitted and has not opened its file.
pub loose_apart : (b : Board) → Loose b → no_conflict b ≡ true
loose_apart b k = of-conflict b k.base.apart

pub loose_order : (b : Board) → Loose b → found (carried b) ≡ true
loose_order b k = let (o, c) = k.base.order in of_order b o (subst (λ l. IsOrder (holds_on b) l o) (sym (admitted_is b)) c)

pub loose_waiter : (b : Board) (p : ℕ) → Loose b → Is p → is_waiting (at b p).standing ≡ true → (at b p).item ≡ 0
    → (is_admitted (at b p).standing ≡ true) × (has_open (at b p) (awaited b p) ≡ false)
loose_waiter b p k i w z = let (f, d) = waiting_file (at b p).standing w in
    (waiting_in (at b p).standing w, ap (λ s. has_open (at b p) (awaited_of s)) d ∙ (k.asked p i f (d, z)).shut)

-- Every call, accepted or refused, keeps a board sound, and with 32 programs.
pub sound_kept : (b : Board) (c : Call) → Sized b.programs → sound b ≡ true
    → (sound (apply b c).board ≡ true) × Sized (apply b c).board.programs
sound_kept b c z s = let g = (apply_stepped b c (sound_good b z ((sound_iff b).0 s))).good in
    ((sound_iff (apply b c).board).1 (good_sound (apply b c).board g), g.loose.base.size)
