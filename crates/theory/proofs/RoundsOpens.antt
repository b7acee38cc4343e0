-- The first program of an order opens what it claims: no open waits, and it stays the first.
-- Assumes nothing.
use Rattle.std.specs.Prelude.{ℕ, ◌<◌, ◌≡◌, refl, ◌≢◌, true, not, ◌&&◌, List, [], ◌∷◌, ◌++◌, map, length, replicate}
use Rattle.std.proofs.Common.{arith, sym, ◌∙◌, ap, subst}
use mathlib.Core.List.Memᴰ
use Rattle.files.specs.Sets.{member}
use Rattle.laws.specs.Tests.{and_left, and_right, and_both, not_true, true_not}
use Rattle.files.proofs.Bits.{least, most}
use Rattle.files.proofs.Laws.{adding_other}
use Rattle.rules.specs.declared.Program.{Program}
use Rattle.rules.specs.declared.Board.{Board}
use Rattle.rules.specs.declared.Answer.{Answer}
use Rattle.rules.specs.declared.Word.{Word}
use Rattle.rules.specs.declared.Reply.{Reply}
use Rattle.rules.specs.Modes.{mode_of, claim_of, open_of}
use Rattle.rules.specs.Boards.{claims, has_open, opening}
use Rattle.rules.specs.Orders.{with_given, in_use, safe}
use Rattle.rules.specs.Settling.{line}
use Rattle.rules.specs.Replies.{reply}
use Rattle.rules.specs.Calls.{Call, Open, apply}
use Rattle.rules.specs.Worked.{worked_from, replies_from}
use Rattle.laws.specs.Laws.{◌∈◌, Pairs, NoRepeat, here, keep_mem, mem_keep, mem-rising, Pairs_keep, Pairs-map, rising_pairs}
use Rattle.theory.specs.Order.{IsOrder}
use Rattle.theory.specs.Modes.{same_mode, opened_case}
use Rattle.theory.specs.Programs.{Is, prog, Sized, put_same, put_other, holds, ins, give}
use Rattle.theory.specs.Programs.{opening_standing, opening-claims, opening_item, first_stays, first_can}
use Rattle.theory.specs.Loose.{Asked, Good}
use Rattle.theory.specs.Calls.{RunsMay, claims_file, may_open, open_given, apply-accepted, apply_stepped, can-tests}
use Rattle.theory.specs.Rounds.{to_open, answers_from, EachToOpen, ToOpenRising}

-- ── One open ──

-- Another file is open as before.
still_shut : (x : Program) (f g : ℕ) → g ≢ f → has_open (opening x f) g ≡ has_open x g
unfolding opening
still_shut x f g n = same_mode _ _ (λ m. opened_case (λ s t. member t g ≡ member s g) (mode_of x f) m x f
    (λ d. adding_other (open_of m x) f g n) refl)

still-claims : (x : Program) (f g : ℕ) → claims x g ≡ true → claims (opening x f) g ≡ true
still-claims x f g e = sym (same_mode (λ m. member (claim_of m x) g) (λ m. member (claim_of m (opening x f)) g)
    (λ m. ap (λ s. member s g) (opening-claims x f m))) ∙ e

-- p runs without a record, is the first of an order, and claims the files fs, none of which it has open.
pub record Ahead (b : Board) (p : ℕ) (o fs : List ℕ) : Type 0 where
  pub good : Good b
  pub may : RunsMay b p
  pub no_item : (prog b.programs p).item ≡ 0
  pub order : IsOrder (holds b.programs) (ins b.programs) (p ∷ o)
  pub asked : (f : ℕ) → f ∈ fs → Asked (prog b.programs p) f

-- "No such open waits."
given_first : (b : Board) (p f : ℕ) (o fs : List ℕ) → Ahead b p o (f ∷ fs)
    → apply b (Open p f) ≡ reply (with_given b p f) Answer.Given (line Word.Given p f ∷ [])
given_first b p f o fs h = apply-accepted b (Open p f) (may_open b p f (record { is = m.is; runs = m.runs; no_item = h.no_item; asked = a }))
    ∙ open_given b p f (not_true (in_use b p f) (and_left (not (in_use b p f)) (safe b p f) t)) (and_right (not (in_use b p f)) (safe b p f) t)
  where
    m : RunsMay b p
    m = h.may

    a : Asked (prog b.programs p) f
    a = h.asked f here

    t : not (in_use b p f) && safe b p f ≡ true
    t = sym (can-tests b p f) ∙ first_can b.programs p f o h.good.loose.base m.is h.order a.claimed

ahead_given : (b : Board) (p f : ℕ) (o fs : List ℕ) → NoRepeat (f ∷ fs) → Ahead b p o (f ∷ fs) → Ahead (with_given b p f) p o fs
unfolding with_given reply Pairs give
ahead_given b p f o fs n h = record {
  good = subst Good (ap (λ (r : Reply). r.board) (given_first b p f o fs h)) (apply_stepped b (Open p f) h.good).good;
  may = record { is = c; runs = ap (λ (q : Program). q.standing) mine ∙ opening_standing x f ∙ h.may.runs };
  no_item = ap (λ (q : Program). q.item) mine ∙ (opening_item x f).0 ∙ h.no_item;
  order = first_stays b.programs p f o z c h.order;
  asked = λ g m. let a = h.asked g (Memᴰ.tail m) in subst (λ y. Asked y g) (sym mine)
      (record { claimed = still-claims x f g a.claimed; shut = still_shut x f g (λ d. n.0 g m (sym d)) ∙ a.shut });
}
  where
    z : Sized b.programs
    z = h.good.loose.base.size

    c : Is p
    c = h.may.is

    x : Program
    x = prog b.programs p

    mine : prog (give b.programs p f) p ≡ opening x f
    mine = put_same b.programs p (opening x f) z c

-- ── All its opens ──

-- What the opens of fs by p make of b, with any calls after them.
pub record Opened (b : Board) (p : ℕ) (o fs : List ℕ) : Type 0 where
  pub then : Board
  pub ahead : Ahead then p o []
  pub board : (cs : List Call) → worked_from b (map (Open p) fs ++ cs) ≡ worked_from then cs
  pub answers : (cs : List Call) → answers_from b (map (Open p) fs ++ cs) ≡ replicate (length fs) Answer.Given ++ answers_from then cs
  pub others : (i : ℕ) → Is i → i ≢ p → prog then.programs i ≡ prog b.programs i

pub opens : (fs : List ℕ) (b : Board) (p : ℕ) (o : List ℕ) → NoRepeat fs → Ahead b p o fs → Opened b p o fs
unfolding Pairs worked_from replies_from with_given reply
opens [] b p o n h = record { then = b; ahead = h; board = λ cs. refl; answers = λ cs. refl; others = λ i c d. refl }
opens (f ∷ fs) b p o n h =
    let e = given_first b p f o fs h in
    let r = opens fs (with_given b p f) p o n.1 (ahead_given b p f o fs n h) in
    record {
      then = r.then;
      ahead = r.ahead;
      board = λ cs. ap (λ (q : Reply). worked_from q.board (map (Open p) fs ++ cs)) e ∙ r.board cs;
      answers = λ cs. ap (λ (q : Reply). q.answer ∷ answers_from q.board (map (Open p) fs ++ cs)) e
          ∙ ap (Answer.Given ∷◌) (r.answers cs);
      others = λ i c d. r.others i c d ∙ put_other b.programs p i (opening (prog b.programs p) f) h.may.is c d;
    }

-- ── The files to open ──

pub each_to_open : EachToOpen
unfolding to_open
each_to_open q f = (
  λ m. let (_, t) = keep_mem _ _ f m in
      (and_left (claims q f) (not (has_open q f)) t, not_true (has_open q f) (and_right (claims q f) (not (has_open q f)) t)),
  λ k. let i = claims_file q f k.0 in let l = least 64 f i in let m = most 64 f i in
      mem_keep _ _ f (mem-rising _ _ f l (omega arith))
      (and_both (claims q f) (not (has_open q f)) k.0 (true_not (has_open q f) k.1)),
)

pub to_open_rising : ToOpenRising
unfolding to_open
to_open_rising q = Pairs_keep (λ f g. f < g) _ _ (rising_pairs _ _)

pub to_open_asked : (q : Program) (f : ℕ) → f ∈ to_open q → Asked q f
to_open_asked q f m = let (c, s) = (each_to_open q f).0 m in record { claimed = c; shut = s }

pub to_open_once : (q : Program) → NoRepeat (to_open q)
to_open_once q = Pairs-map (to_open q) (λ a b _ _ l d. absurd (omega arith)) (to_open_rising q)
