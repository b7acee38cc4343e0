-- The proof of `RunsThrough`: `run-through`; and of the same for every sound board: `sound-emptied`.
-- Assumes nothing.
use Rattle.std.specs.Prelude.{ℕ, zero, suc, ◌<◌, ◌≤◌, ◌+◌, ◌≡◌, refl, ◌≢◌, true, false, List, [], ◌∷◌, ◌++◌, eqb, length, replicate}
use Rattle.std.proofs.Common.{arith, sym, ◌∙◌, ap, subst, ⊎_elim, eqb-true}
use Rattle.std.proofs.Math.Option.{some, get_or}
use Rattle.std.proofs.lemmas.Bool.{eqb-false}
use Rattle.laws.specs.Tests.{by_test, by_option, never}
use Rattle.rules.specs.declared.Standing.{Standing}
use Rattle.rules.specs.declared.Program.{Program}
use Rattle.rules.specs.declared.Board.{Board}
use Rattle.rules.specs.declared.Answer.{Answer}
use Rattle.rules.specs.declared.Reply.{Reply}
use Rattle.laws.specs.Lists.{any, all, keep, first, rising, without, names}
use Rattle.rules.specs.Boards.{no_program, empty_board, is_absent, is_waiting, is_admitted, everyone, at, admitted}
use Rattle.rules.specs.Boards.{set_program, wants}
use Rattle.rules.specs.Orders.{held_back, carried_from, carried}
use Rattle.rules.specs.Settling.{Step, still, hand_on, settle}
use Rattle.rules.specs.Replies.{reply}
use Rattle.rules.specs.Calls.{count_leave, leave, finish, Call, Leave, apply}
use Rattle.rules.specs.Worked.{worked_from, worked, replies_from}
use Rattle.laws.specs.Laws.{◌∈◌, here, first_some, length_without, nil-length, some_length}
use Rattle.theory.specs.Order.{IsOrder}
use Rattle.theory.specs.Programs.{Is, prog, put_case, holds, ins, ins-mem, admitted_is}
use Rattle.theory.specs.Records.{wants-of, in_use_lem, records_nobody}
use Rattle.theory.specs.Loose.{stands, Counts, Good, test_same, test_other}
use Rattle.theory.specs.Settling.{hand_none, settle_settled}
use Rattle.theory.specs.Calls.{RunsMay, may_leave, apply-accepted, apply_stepped, Left, leave_left}
use Rattle.theory.specs.Carried.{holds_on}
use Rattle.theory.specs.Sound.{sound_iff, sound_good}
use Rattle.theory.specs.Worked.{worked_good, worked_from-append, direct-worked, order-carried, carried-order, AwaitsInUse, first_runs}
use Rattle.theory.specs.Sizes.{Counts32, apply_32}
use Rattle.theory.specs.Rounds.{answered, Latest, start, after, to_open, finishing, round_with, round, rounds, answers_from, present}
use Rattle.theory.specs.Rounds.{programs_on, NoneInUse, Round, Emptied, RunsThrough, SoundEmptied}
use Rattle.theory.proofs.RoundsOpens.{Opened, opens, to_open_asked, to_open_once}
use Rattle.theory.proofs.RoundsPresent.{absent_in, in_there, in_runs, mem-present, present-mem, present_once, programs_on_lem, one_gone}
use Rattle.theory.proofs.RoundsPresent.{settle_there, none_there, is_empty_lem}

-- ── The leave ──

-- Nobody has a record, in use or awaited.
abbrev NoItems : Board → Type 0
NoItems b = (i : ℕ) → Is i → (at b i).item ≡ 0

-- Where no record is in use none is awaited.
none-awaited : (b : Board) → Good b → NoneInUse b → NoItems b
none-awaited b g n i c = by_test (eqb (at b i).item 0) (λ t. eqb-true (at b i).item 0 t)
    (λ t. let z = eqb-false (at b i).item 0 t in absurd (⊎_elim
    (λ s. n i (at b i).file (at b i).item c (s, z, refl, refl))
    (λ s. let (j, d, u) = in_use_lem b.programs i (at b i).file (at b i).item g.counts.records c (ap is_waiting s, z, refl, refl) in
    n j (at b i).file (at b i).item d u)
    ((g.counts.records.own i c).stands-so z)))

-- Nothing is handed on where nothing was in use.
hand_nothing : (b : Board) (f r : ℕ) → r ≡ 0 → hand_on b f r ≡ still b
hand_nothing b f r z = by_option (first (λ w. wants (at b w) f r) (names b.waiting)) (hand_none b f r)
    (λ w e. let (_, u) = first_some (λ w. wants (at b w) f r) (names b.waiting) w e in
    let x = wants-of (at b w) f r u in absurd (x.1 (x.3 ∙ z)))

-- What the leave of a running program makes of b, with no record about.
record Gone (b : Board) (p : ℕ) : Type 0 where
  done_answer : (apply b (Leave p)).answer ≡ Answer.Done
  good_after : Good (apply b (Leave p)).board
  gone : absent_in (apply b (Leave p)).board.programs p ≡ true
  others : (i : ℕ) → Is i → i ≢ p → absent_in (apply b (Leave p)).board.programs i ≡ absent_in b.programs i
  no_items : NoItems (apply b (Leave p)).board

leaves : (b : Board) (p : ℕ) → Good b → RunsMay b p → NoItems b → Gone b p
unfolding leave finish reply
leaves b p g m n = record {
  done_answer = ap (λ (q : Reply). q.answer) e;
  good_after = (apply_stepped b (Leave p) g).good;
  gone = settled p m.is ∙ test_same is_absent b.programs p no_program g.loose.base.size m.is;
  others = λ i j n. settled i j ∙ test_other is_absent b.programs p no_program m.is i j n;
  no_items = λ i j. ap (λ (q : Reply). (prog q.board.programs i).item) e ∙ ap (λ (s : Step). (prog (settle s.board).board.programs i).item) h
      ∙ (settle_settled d l.l-loose counts).items i j ∙ ap (λ P. (prog P i).item) l.l_programs
      ∙ put_case (λ q. q.item ≡ 0) b.programs p no_program g.loose.base.size m.is i j (λ _. refl) (λ _. n i j);
}
  where
    d : Board
    d = count_leave (set_program b p no_program)

    e : apply b (Leave p) ≡ leave b p
    e = apply-accepted b (Leave p) (may_leave b p m)

    l : Left b d p
    l = leave_left b p g m

    h : hand_on d (at b p).file (at b p).item ≡ still d
    h = hand_nothing d (at b p).file (at b p).item (n p m.is)

    counts : Counts d
    counts = record {
      counted = l.l-counted;
      records = records_nobody d.programs (at b p).file (at b p).item (λ i j w. w.1 (w.3 ∙ n p m.is)) l.l-records;
    }

    settled : (i : ℕ) → Is i → absent_in (apply b (Leave p)).board.programs i ≡ absent_in (set_program b p no_program).programs i
    settled i j = ap (λ (q : Reply). absent_in q.board.programs i) e ∙ ap (λ (s : Step). absent_in (settle s.board).board.programs i) h
        ∙ settle_there d l.l-loose counts i j
        ∙ ap (λ P. absent_in P i) l.l_programs

-- ── The first program finishes ──

record Finished (b : Board) (p : ℕ) : Type 0 where
  good_after : Good (worked_from b (finishing b p))
  answers : answers_from b (finishing b p) ≡ replicate (length (to_open (at b p))) Answer.Given ++ (Answer.Done ∷ [])
  there : p ∈ present b
  others_stay : present (worked_from b (finishing b p)) ≡ without p (present b)
  no_items : NoItems (worked_from b (finishing b p))

finishes : (b : Board) (p : ℕ) (o : List ℕ) → Good b → NoItems b → IsOrder (holds b.programs) (ins b.programs) (p ∷ o) → Finished b p
unfolding finishing worked_from replies_from
finishes b p o g n r = record {
  good_after = subst Good (sym then) k.good_after;
  answers = q.answers (Leave p ∷ []) ∙ ap (λ a. replicate (length fs) Answer.Given ++ (a ∷ [])) k.done_answer;
  there = mem-present b p c (in_there (stands b.programs p) i.1);
  others_stay = one_gone b (worked_from b (finishing b p)) p (ap (λ d. absent_in d.programs p) then ∙ k.gone)
      (λ j m n. ap (λ d. absent_in d.programs j) then ∙ k.others j m n
      ∙ ap (λ (x : Program). is_absent x.standing) (q.others j m n));
  no_items = λ j m. ap (λ d. (at d j).item) then ∙ k.no_items j m;
}
  where
    i : Is p × (is_admitted (stands b.programs p) ≡ true)
    i = ins-mem b.programs p (r.only p here)

    c : Is p
    c = i.0

    not_waiting : is_waiting (stands b.programs p) ≡ false
    not_waiting = ⊎_elim (λ w. w) (λ (w : AwaitsInUse b p). absurd (w.wanted.1 (n p c)))
        (first_runs b p o g (subst (λ l. IsOrder (holds_on b) l (p ∷ o)) (sym (admitted_is b)) r))

    fs : List ℕ
    fs = to_open (at b p)

    q : Opened b p o fs
    q = opens fs b p o (to_open_once (at b p)) (record {
      good = g;
      may = record { is = c; runs = in_runs (stands b.programs p) i.1 not_waiting };
      no_item = n p c;
      order = r;
      asked = to_open_asked (at b p);
    })

    k : Gone q.then p
    k = leaves q.then p q.ahead.good q.ahead.may (λ i j. by_test (eqb i p)
        (λ t. ap (λ h. (at q.then h).item) (eqb-true i p t) ∙ q.ahead.no_item)
        (λ t. ap (λ (x : Program). x.item) (q.others i j (eqb-false i p t)) ∙ n i j))

    then : worked_from b (finishing b p) ≡ (apply q.then (Leave p)).board
    then = q.board (Leave p ∷ [])

-- ── The order in the last answer ──

after-board : (l : Latest) (cs : List Call) → (after l cs).board ≡ worked_from l.board cs
unfolding after worked_from
after-board l [] = refl
after-board l (c ∷ cs) = after-board (answered (apply l.board c)) cs

after-append : (l : Latest) (cs ds : List Call) → after l (cs ++ ds) ≡ after (after l cs) ds
unfolding after
after-append l [] ds = refl
after-append l (c ∷ cs) ds = after-append (answered (apply l.board c)) cs ds

-- It is the carried order of the board.
abbrev Carries : Latest → Type 0
Carries l = l.order ≡ get_or (carried l.board) []

after_carries : (l : Latest) (cs : List Call) → Carries l → Carries (after l cs)
unfolding after
after_carries l [] e = e
after_carries l (c ∷ cs) e = after_carries (answered (apply l.board c)) cs (order-carried l.board c)

after_32 : (l : Latest) (cs : List Call) → Counts32 l.board → Counts32 (after l cs).board
unfolding after
after_32 l [] z = z
after_32 l (c ∷ cs) z = after_32 (answered (apply l.board c)) cs (apply_32 l.board c z)

start_carries : Carries start
unfolding any all keep first rising everyone admitted held_back carried_from carried
start_carries = refl

-- What a round begins with.
record Fresh (l : Latest) : Type 0 where
  good : Good l.board
  counts : Counts32 l.board
  no_items : NoItems l.board
  carries : Carries l

-- ── One round ──

-- What a round does: the statement, and what the next one begins with.
one-round : (l : Latest) → Fresh l → 0 < length (present l.board) → Round l × Fresh (after l (round l))
unfolding round
one-round l f e = let (o, u, r) = carried-order b f.good in
    go o u (f.carries ∙ ap (λ z. get_or z []) u) (subst (λ k. IsOrder (holds_on b) k o) (admitted_is b) r)
  where
    b : Board
    b = l.board

    go : (o : List ℕ) → carried b ≡ some o → l.order ≡ o → IsOrder (holds b.programs) (ins b.programs) o
        → Round l × Fresh (after l (round l))
    go [] u v r = absurd (let (a, m) = some_length (present b) e in let (c, t) = present-mem b a m in
        never (none_there b f.good r a c) t)
    go (p ∷ o) u v r =
        let k = finishes b p o f.good f.no_items r in
        let w : round l ≡ finishing b p = ap (round_with b) v in
        let x : (after l (round l)).board ≡ worked_from b (finishing b p) = after-board l (round l) ∙ ap (worked_from b) w in
        let s : present (after l (round l)).board ≡ without p (present b) = ap present x ∙ k.others_stay in (
          record {
            carries = u ∙ ap some (sym v);
            first = p;
            rest = o;
            order = v;
            answers = ap (answers_from b) w ∙ k.answers;
            others_stay = s;
            one_fewer = programs_on_lem b ∙ length_without p (present b) (present_once b) k.there ∙ ap (λ m. suc (length m)) (sym s)
                ∙ ap suc (sym (programs_on_lem (after l (round l)).board));
          },
          record {
            good = subst Good (sym x) k.good_after;
            counts = after_32 l (round l) f.counts;
            no_items = subst NoItems (sym x) k.no_items;
            carries = after_carries l (round l) f.carries;
          },
        )

-- ── n rounds ──

-- Nobody on the board: it is the start.
nobody_left : (l : Latest) → Fresh l → length (present l.board) ≡ 0 → l ≡ start
nobody_left l f e = is-start l.board l.order empty (f.carries ∙ ap (λ b. get_or (carried b) []) empty ∙ sym start_carries)
  where
    empty : l.board ≡ empty_board
    empty = is_empty_lem l.board f.good f.counts (λ i c. by_test (absent_in l.board.programs i) (λ t. t)
        (λ t. absurd (nil-length (present l.board) i e (mem-present l.board i c t))))

    is-start : (b : Board) (o : List ℕ) → b ≡ empty_board → o ≡ [] → ◌≡◌ {A = Latest} (record { board = b; order = o }) start
    is-start b o u v = rw (u, v)

-- After k rounds there are k programs fewer.
record Reached (l : Latest) (n k : ℕ) : Type 0 where
  fresh : Fresh (after l (rounds k l))
  left : k + length (present (after l (rounds k l)).board) ≡ n

reached : (l : Latest) (n : ℕ) → Fresh l → length (present l.board) ≡ n → (k : ℕ) → k ≤ n → Reached l n k
unfolding rounds after
reached l n f e zero m = record { fresh = f; left = omega arith }
reached l n f e (suc k) m =
    let h = reached l n f e k (omega arith) in
    let v = h.left in
    let (r, g) = one-round now h.fresh (omega arith) in
    let same : after l (rounds (suc k) l) ≡ after now (round now) = after-append l (rounds k l) (round now) in
    let x = r.one_fewer in
    let y = programs_on_lem now.board in
    let z = programs_on_lem (after now (round now)).board in
    record {
      fresh = subst Fresh (sym same) g;
      left = ap (λ (q : Latest). suc k + length (present q.board)) same ∙ omega arith;
    }
  where
    now : Latest
    now = after l (rounds k l)

emptied : (l : Latest) → Fresh l → Emptied l
emptied l f = record {
  each-round = λ k m. let h = reached l n f e k (omega arith) in let v = h.left in
      (one-round (after l (rounds k l)) h.fresh (omega arith)).0;
  empties = let h = reached l n f e n (omega arith) in let v = h.left in nobody_left (after l (rounds n l)) h.fresh (omega arith);
}
  where
    n : ℕ
    n = programs_on l.board

    e : length (present l.board) ≡ n
    e = sym (programs_on_lem l.board)

-- ══ The theorems ══

pub run-through : (cs : List Call) → NoneInUse (worked cs) → RunsThrough cs
unfolding worked
run-through cs u =
    let l = after start cs in
    let e : l.board ≡ worked cs = after-board start cs in
    let n = programs_on (worked cs) in
    let r = emptied l (record {
      good = subst Good (sym e) (worked_good cs);
      counts = after_32 start cs refl;
      no_items = subst NoItems (sym e) (none-awaited (worked cs) (worked_good cs) u);
      carries = after_carries start cs start_carries;
    }) in
    record {
      on-worked = e;
      emptied = r;
      worked-empty = worked_from-append empty_board cs (rounds n l) ∙ ap (λ b. worked_from b (rounds n l)) (sym e)
          ∙ sym (after-board l (rounds n l)) ∙ ap (λ b. (after l (rounds (programs_on b) l)).board) (sym e)
          ∙ ap (λ (k : Latest). k.board) r.empties;
      direct-calls = direct-worked (cs ++ rounds n l);
    }

pub sound-emptied : SoundEmptied
sound-emptied b z n s u = let g = sound_good b z ((sound_iff b).0 s) in
    emptied _ (record { good = g; counts = n; no_items = none-awaited b g u; carries = refl })
