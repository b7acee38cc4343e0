-- Laws of admitting those held, one after another. Assumes nothing.
use mathlib.Core.Path.{◌≡◌, sym, ap, ◌∙◌, subst}
use mathlib.Core.List.{List, [], ◌∷◌}
use mathlib.Core.Option.{none, some}
use Prim.Native.Nat.{ℕ, ◌+◌, ◌≤◌, ◌<◌}
use native.Mathlib.Omega.{arith}
use lib.ListN.{length}
use Rattle.rules.specs.declared.Board.{Board}
use Rattle.rules.specs.declared.Word.{Word}
use Rattle.laws.specs.Lists.{names, without}
use Rattle.rules.specs.Settling.{Step, line, and_then, favour, overdue, admit_held, run_held}
use Rattle.laws.specs.Laws.{◌∈◌, NoRepeat, here, without_first}
use Rattle.theory.specs.Loose.{Loose, Counts}
use Rattle.theory.specs.Settling.{Admitted, admit-held, run-one, run_stop}
use Rattle.settling.specs.Writing.{Written, after, Fits, admit_one, as_option}
use Rattle.std.specs.Prelude.{Some}
use Rattle.settling.proofs.Laws.{after_then, after-still, found_some, waiter_is}
use Rattle.settling.proofs.Counting.{due}

-- the oldest waiter whose count is 8, if there is one, is a program
pub overdue_some : (b : Board) (p : ℕ) → Loose b → Some p ≡ as_option (overdue b) → (overdue b ≡ some p) × ((1 ≤ p) × (p ≤ 32))
unfolding overdue
overdue_some b p k e = let o = found_some (overdue b) p e in let i = waiter_is b (due b) p k o in (o, (i.least, i.most))

-- those held are still to run, from s on
pub record Admitting (w s : Written) : Type 0 where
  pub loose : Loose s.board
  pub counts : Counts s.board
  pub nobody : s.board.favoured ≡ 0
  pub fits : Fits s (run_held (names s.board.entry) s.board)
  pub same : after w (run_held (names w.board.entry) w.board) ≡ after s (run_held (names s.board.entry) s.board)

-- nobody is left
pub admitted_all : {w s : Written} → Admitting w s → names s.board.entry ≡ [] → s ≡ after w (run_held (names w.board.entry) w.board)
unfolding run_held
admitted_all {w} {s} a e = after-still s ∙ sym (a.same ∙ ap (λ (ps : List ℕ). after s (run_held ps s.board)) e)

-- p is the oldest of those held, and ps are the others
module _ {w s : Written} (a : Admitting w s) (p : ℕ) (ps : List ℕ) (e : names s.board.entry ≡ p ∷ ps) where
  abbrev b : Board
  b = s.board

  -- the oldest is a program
  pub first_range : (1 ≤ p) × (p ≤ 32)
  first_range = let i = (a.loose.helds.of p (subst (λ l. p ∈ l) (sym e) here)).0 in (i.least, i.most)

  -- a waiter is favoured, and the rest stay held
  pub overdue-fits : (n : ℕ) → overdue s.board ≡ some n → s.count < 32
  unfolding favour
  overdue-fits n u = let f : s.count + 1 ≤ 32 = subst (Fits s) (ap (λ l. run_held l b) e ∙ run_stop p n ps b u) a.fits in omega arith

  pub overdue-is : (n : ℕ) → overdue s.board ≡ some n → after s (favour s.board n) ≡ after w (run_held (names w.board.entry) w.board)
  overdue-is n u = sym (a.same ∙ ap (λ l. after s (run_held l b)) e ∙ ap (after s) (run_stop p n ps b u))

  -- the oldest runs
  rest : without p (names s.board.entry) ≡ ps
  rest = ap (without p) e ∙ without_first p ps (subst NoRepeat e a.loose.helds.once)

  one-is : overdue s.board ≡ none → run_held (names s.board.entry) s.board
      ≡ and_then (line Word.Admit p 0 ∷ []) (run_held ps (admit_held s.board p ps))
  one-is u = ap (λ l. run_held l b) e ∙ run-one p ps b u

  pub one-fits : overdue s.board ≡ none → s.count < 32
  one-fits u = let f = subst (Fits s) (one-is u) a.fits in omega (arith, f)

  step : overdue s.board ≡ none → Admitted s.board (admit_held s.board p ps) p ps
  step u = admit-held b p ps a.loose a.counts a.nobody e u

  pub one_more : (u : Written) → overdue s.board ≡ none → u ≡ after s (admit_one s.board p)
      → Admitting w u × (names u.board.entry ≡ ps)
  one_more u v q = subst (λ (x : Written). Admitting w x × (names x.board.entry ≡ ps)) (sym d) (
    record {
      loose = (step v).a-loose;
      counts = (step v).a-counts;
      nobody = (step v).a-who ∙ a.nobody;
      fits = subst (λ l. s.count + 1 + length (run_held l c).lines ≤ 32) (sym (step v).a-entry)
          (let f = subst (Fits s) (one-is v) a.fits in omega (arith, f));
      same = a.same ∙ ap (after s) (one-is v) ∙ sym (after_then s t (run_held ps c))
          ∙ ap (λ l. after (after s t) (run_held l c)) (sym (step v).a-entry);
    },
    (step v).a-entry,
  )
    where
      c : Board
      c = admit_held b p ps

      t : Step
      t = record { board = c; lines = line Word.Admit p 0 ∷ [] }

      d : u ≡ after s t
      d = q ∙ ap (λ l. after s (record { board = admit_held b p l; lines = line Word.Admit p 0 ∷ [] })) rest
