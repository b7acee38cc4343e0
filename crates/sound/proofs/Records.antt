-- Records in use and awaited, by the seats. Assumes nothing.
use Prim.Native.Nat.{ℕ}
use mathlib.Core.Path.{◌≡◌, refl, sym, ap, ap₂, ◌∙◌}
use mathlib.Core.Bool.{Bool, true, false, not, ◌&&◌, ◌||◌}
use lib.Dec.{eqb}
use borrow.Author.Tests.{eq-eqb, ne_eqb, eqb-true, eqb-false}
use Rattle.laws.specs.Tests.{by_test, and_true}
use Rattle.laws.specs.Lists.{any, all}
use Rattle.laws.specs.Laws.{all_and, all_same, any_same, not_any}
use Rattle.rules.specs.declared.Standing.{Standing}
use Rattle.rules.specs.declared.Program.{Program}
use Rattle.rules.specs.declared.Board.{Board}
use Rattle.rules.specs.Boards.{is_running, is_waiting, everyone, at, uses, wants}
use Rattle.rules.specs.Soundness.{uses_differ, awaited_in_use}
use Rattle.theory.specs.Programs.{everyone_is}
use Rattle.store.specs.declared.Rest.{Rest}
use Rattle.store.specs.Sets.{Sets}
use Rattle.store.specs.Store.{seat_at, seat_uses, board_of}
use Rattle.store.proofs.Boards.{board-at}
use Rattle.tables.specs.Boards.{other_uses, taken_in}
use Rattle.tables.proofs.Taken.{seat_uses_lem}
use Rattle.sound.specs.Parts.{record_fits, record_at}

-- who waits has no record in use
waits_not : (s : Standing) → is_waiting s ≡ true → is_running s ≡ false
waits_not Standing.Absent e = refl
waits_not Standing.Running e = sym e
waits_not (Standing.Waiting f) e = refl
waits_not Standing.Held e = refl

-- the clauses of one program, by whether another has its record in use
both_clauses : (s : Standing) (f n : ℕ) (taken x y : Bool) → x ≡ not taken → (is_waiting s ≡ true → y ≡ taken)
    → (eqb n 0 || record_fits s taken)
    ≡ ((not (is_running s && not (eqb n 0) && eqb f f && eqb n n) || x) && (not (is_waiting s && not (eqb n 0) && eqb f f && eqb n n) || y))
both_clauses Standing.Absent f n taken x y e d = by_test (eqb n 0) (λ t. rw t refl) (λ t. rw t refl)
both_clauses Standing.Running f n taken x y e d = by_test (eqb n 0) (λ t. rw t refl)
    (λ t. rw (t, eq-eqb f f refl, eq-eqb n n refl, e) (sym (and_true (not taken))))
both_clauses (Standing.Waiting g) f n taken x y e d = by_test (eqb n 0) (λ t. rw t refl)
    (λ t. rw (t, eq-eqb f f refl, eq-eqb n n refl) (sym (d refl)))
both_clauses Standing.Held f n taken x y e d = by_test (eqb n 0) (λ t. rw t refl) (λ t. rw t refl)

-- the same the other way round
turned : (i j : ℕ) → eqb i j ≡ eqb j i
turned i j = by_test (eqb i j) (λ e. e ∙ sym (eq-eqb j i (sym (eqb-true i j e)))) (λ e. e ∙ sym (ne_eqb j i (λ d. eqb-false i j e (sym d))))

-- not one of the others
not_other : (a u : Bool) → not (not a && u) ≡ (a || not u)
not_other true u = refl
not_other false u = refl

module _ (sets : Sets) (r : Rest) where
  abbrev board : Board
  board = board_of sets r

  -- none of the others has it
  none_other : (p f n : ℕ) → all (λ j. eqb p j || not (uses (at board j) f n)) everyone ≡ not (taken_in r p f n)
  none_other p f n = all_same _ _ everyone (λ j m. ap₂ (λ (s t : Bool). s || not t) (turned p j) (seat_uses_lem sets r j f n m)
      ∙ sym (not_other (eqb j p) (seat_uses (seat_at r j) f n)))
      ∙ sym (not_any (λ j. other_uses (seat_at r j) j p f n) everyone)

  -- somebody has it, and that is another than p, which waits
  some-other : (p f n : ℕ) → is_waiting (seat_at r p).standing ≡ true → any (λ j. uses (at board j) f n) everyone ≡ taken_in r p f n
  some-other p f n w = any_same _ _ everyone (λ j m. seat_uses_lem sets r j f n m ∙ by_test (eqb j p)
      (λ t. rw t (ap (λ (x : Bool). x && not (eqb (seat_at r j).item 0) && eqb (seat_at r j).file f && eqb (seat_at r j).item n)
      (waits_not (seat_at r j).standing (ap (λ (k : ℕ). is_waiting (seat_at r k).standing) (eqb-true j p t) ∙ w))))
      (λ t. rw t refl))

  -- what both clauses say of one program
  abbrev differs : ℕ → Program → Bool
  differs p q = not (uses q q.file q.item) || all (λ j. eqb p j || not (uses (at board j) q.file q.item)) everyone

  abbrev awaits : Program → Bool
  awaits q = not (wants q q.file q.item) || any (λ j. uses (at board j) q.file q.item) everyone

  -- "records in use differ", "an awaited record is in use"
  pub records_are : all (record_at r) everyone ≡ (uses_differ board && awaited_in_use board)
  unfolding uses_differ awaited_in_use
  records_are = all_same _ _ everyone (λ p m. let c = everyone_is p m in let t = seat_at r p in
      both_clauses t.standing t.file t.item (taken_in r p t.file t.item) _ _
      (none_other p t.file t.item) (some-other p t.file t.item)
      ∙ ap (λ (q : Program). differs p q && awaits q) (sym (board-at sets r p c.least c.most)))
      ∙ all_and (λ p. differs p (at board p)) (λ p. awaits (at board p)) everyone
