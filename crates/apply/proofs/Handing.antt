-- Laws of a record that is handed on, in a leave and in a return. Assumes nothing.
use mathlib.Core.Path.{◌≡◌, refl, sym, ap, ◌∙◌, subst}
use mathlib.Core.List.{[], ◌∷◌}
use Prim.Native.Nat.{ℕ}
use native.Mathlib.Omega.{arith}
use lib.ListN.{length-append}
use Rattle.std.specs.Prelude.{Ok}
use Rattle.rules.specs.declared.Program.{Program}
use Rattle.rules.specs.declared.Board.{Board}
use Rattle.rules.specs.declared.Answer.{Answer}
use Rattle.rules.specs.declared.Word.{Word}
use Rattle.rules.specs.Boards.{no_program, at, set_program, set_item}
use Rattle.rules.specs.Settling.{line, and_then, hand_on, settle}
use Rattle.rules.specs.Checks.{leave_check, return_check}
use Rattle.rules.specs.Calls.{finish, count_leave}
use Rattle.theory.specs.Programs.{put, put_other}
use Rattle.theory.specs.Loose.{Loose, Counts, Good}
use Rattle.theory.specs.Records.{ItemOwn, none_item, records_release}
use Rattle.theory.specs.Settling.{hand_ready}
use Rattle.theory.specs.Calls.{leave_may, leave_left, return_may, item-loose, item-counted, item-put}
use Rattle.theory.specs.Ready.{leave_room, return_room}
use Rattle.settling.specs.Writing.{Written, after, Fits}
use Rattle.settling.proofs.Laws.{after_then}
use Rattle.apply.specs.Replies.{wrote, replied, Handing}
use Rattle.apply.proofs.Laws.{sound_of, after_one}

-- ---- DONE, the record's line, settling's

module _ (w h : Written) (b : Board) (p f r : ℕ) (e : w ≡ wrote b (line Word.Done p 0 ∷ [])) (d : h ≡ after w (hand_on w.board f r))
    (x : Handing b f r) where
  handed : h ≡ after w (hand_on b f r)
  handed = d ∙ ap (λ (y : Written). after w (hand_on y.board f r)) e

  pub handed_settles : Loose h.board × Counts h.board × Fits h (settle h.board)
  handed_settles = let a = hand_ready b f r x.loose x.counted x.records in let m = x.room in
      let l = length-append (hand_on b f r).lines (settle (hand_on b f r).board).lines in
      subst (λ (y : Written). Loose y.board × Counts y.board × Fits y (settle y.board)) (sym handed)
      (a.0, a.1, let n = ap (λ (y : Written). y.count) e in omega arith)

  pub finish-is : (s : Written) → s ≡ after h (settle h.board) → replied s Answer.Done ≡ finish (hand_on b f r) p 0
  unfolding finish
  finish-is s k = ap (λ (y : Written). replied y Answer.Done)
      (k ∙ ap (λ (y : Written). after y (settle y.board)) handed ∙ after_then w (hand_on b f r) (settle (hand_on b f r).board))
      ∙ after_one w (and_then (hand_on b f r).lines (settle (hand_on b f r).board)) b (line Word.Done p 0) Answer.Done e x.room

-- ---- leave and return

pub leave_hands : (b c : Board) (p f r : ℕ) → c ≡ count_leave (set_program b p no_program) → f ≡ (at b p).file → r ≡ (at b p).item
    → Good b → leave_check b p ≡ Ok tt → Handing c f r
leave_hands b c p f r d x y g e = let l = leave_left b p g (leave_may b p e) in
    subst (λ (k : Board). Handing k f r) (sym d) (subst (λ (n : ℕ). Handing (count_leave (set_program b p no_program)) n r) (sym x)
    (subst (λ (n : ℕ). Handing (count_leave (set_program b p no_program)) (at b p).file n) (sym y) (record {
      loose = l.l-loose;
      counted = l.l-counted;
      records = l.l-records;
      room = leave_room b g.loose.base.size (sound_of b g) p e;
    })))

pub return_hands : (b c : Board) (p f r : ℕ) → c ≡ set_program b p (set_item (at b p) 0 0) → f ≡ (at b p).file → r ≡ (at b p).item
    → Good b → return_check b p ≡ Ok tt → Handing c f r
return_hands b c p f r d x y g e = let m = return_may b p e in let q = set_item (at b p) 0 0 in let s = item-put b p 0 0 g m.is m.runs in
    subst (λ (k : Board). Handing k f r) (sym d) (subst (λ (n : ℕ). Handing (set_program b p q) n r) (sym x)
    (subst (λ (n : ℕ). Handing (set_program b p q) (at b p).file n) (sym y) (record {
      loose = item-loose b p 0 0 g m.is m.runs;
      counted = item-counted b p 0 0 g m.is m.runs;
      records = records_release b.programs (put b.programs p q) p m.is (λ i j n. put_other b.programs p i q m.is j n)
          (subst ItemOwn (sym s) (none_item q refl refl)) (ap (λ (z : Program). z.item) s) m.runs g.counts.records;
      room = return_room b g.loose.base.size (sound_of b g) p e;
    })))
