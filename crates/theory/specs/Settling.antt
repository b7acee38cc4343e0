-- Settling keeps a board sound, and what its lines say.
-- Assumes nothing.
use Rattle.std.specs.Prelude.{ℕ, ◌≤◌, ◌+◌, ◌-◌, ◌≡◌, ◌≢◌, ◌⊎◌, Bool, true, false, not, ◌&&◌, List, [], ◌∷◌, ◌++◌, eqb, length, set}
use Rattle.std.proofs.Common.{arith, sym, ◌∙◌, ap₂, inl, inr, ⊎_elim, length-append}
use Rattle.std.proofs.Math.Path.{refl, ap, subst}
use Rattle.std.proofs.Math.Option.{none, some}
use mathlib.Core.List.Memᴰ
use borrow.Author.Tests.{eqb-true, eqb-false, eq-eqb, ne_eqb}
use Rattle.laws.specs.Tests.{by_test, by_option, never, no_true, and_left, and_right}
use Rattle.rules.specs.declared.Standing.{Standing}
use Rattle.rules.specs.declared.Program.{Program}
use Rattle.rules.specs.declared.Board.{Board}
use Rattle.rules.specs.declared.Word.{Word}
use Rattle.rules.specs.declared.Line.{Line}
use Rattle.laws.specs.Lists.{first, without, names, padded}
use Rattle.rules.specs.Boards.{is_held, is_waiting, is_admitted, awaited_of, awaited, passed_by, set_program, set_entry, set_favour}
use Rattle.rules.specs.Boards.{set_standing, at, wants}
use Rattle.rules.specs.Orders.{with_given, in_use, can_give}
use Rattle.rules.specs.Settling.{line, line_of, hand_to, hand_on, Step, still, and_then, unfavour, resume, try_give, pass, candidate, favour, overdue}
use Rattle.rules.specs.Settling.{admit_held}
use Rattle.rules.specs.Settling.{run_held}
use Rattle.rules.specs.Settling.{choose, settle}
use Rattle.rules.specs.Replies.{admits}
use Rattle.laws.specs.Laws.{◌∈◌, Pairs, NoRepeat, by_mem, here, first_some, first-none, names_padded, length_without}
use Rattle.theory.specs.Programs.{Is, Own, Progs, prog, put, Sized, put_same, put_other, put_case, is_in, ins, give, can, can_give_is}
use Rattle.theory.specs.Programs.{admitted_is}
use Rattle.theory.specs.Programs.{length-ins, Idle, standing_same, within_same, own_same}
use Rattle.theory.specs.Loose.{stands, waits_in, held_at, waiting_file, held_is, OnLine, line_make, LooseIn, Loose, Stuck, count_in}
use Rattle.theory.specs.Loose.{Counted, Counts}
use Rattle.theory.specs.Loose.{Good, test_put, test_other, test_same, served}
use Rattle.theory.specs.Counts.{uncount-other, counted_stop, tallied_waits, counted_tally, admits-append, admits-none, length_in_lem}
use Rattle.theory.specs.Loose.{Awaits, awake, Woken, woken_served, woken_handed, served-item, loose_wake, loose_admit, stuck_in, waiting_in}
use Rattle.theory.specs.Records.{Wants, of-wants, wants-of, ItemOwn, none_item, out_item, Records, records-quiet, records-handed, records_nobody}

-- ── Giving ──

-- The line that names the waiter p, which is q.
abbrev pub waiter_line : Word → ℕ → Program → Line
waiter_line w p q = line_of w p (awaited_of q.standing) q.item

-- The waiter p runs, and is favoured no longer.
abbrev pub resumed : Board → ℕ → Board
resumed b p = unfavour (resume b p) p

-- The board with f given to the waiter p.
abbrev pub given : Board → ℕ → ℕ → Board
given b p f = resumed (with_given b p f) p

unfavour_stop : (b : Board) (p : ℕ) → b.favoured ≡ p → unfavour b p ≡ set_favour b 0 0 0
unfolding unfavour
unfavour_stop b p e = rw (eq-eqb b.favoured p e)

unfavour_keep : (b : Board) (p : ℕ) → b.favoured ≢ p → unfavour b p ≡ b
unfolding unfavour
unfavour_keep b p n = rw (ne_eqb b.favoured p n)

-- The three numbers of favouring are those of another board.
pub record Favour (b c : Board) : Type 0 where
  pub who : c.favoured ≡ b.favoured
  pub number : c.initial ≡ b.initial
  pub left : c.leaves ≡ b.leaves

favour_refl : (b : Board) → Favour b b
favour_refl b = record { who = refl; number = refl; left = refl }

favour_trans : (b c d : Board) → Favour b c → Favour c d → Favour b d
favour_trans b c d x y = record { who = y.who ∙ x.who; number = y.number ∙ x.number; left = y.left ∙ x.left }

module _ (b : Board) (p : ℕ) where
  resumed_stop : b.favoured ≡ p → resumed b p ≡ set_favour (resume b p) 0 0 0
  unfolding resume
  resumed_stop e = unfavour_stop (resume b p) p e

  resumed-keep : b.favoured ≢ p → resumed b p ≡ resume b p
  unfolding resume
  resumed-keep n = unfavour_keep (resume b p) p n

  -- A part that favouring leaves alone.
  resumed_part : {A : Type 0} (D : Board → A) → D (set_favour (resume b p) 0 0 0) ≡ D (resume b p) → D (resumed b p) ≡ D (resume b p)
  resumed_part D e = by_test (eqb b.favoured p) (λ t. ap D (resumed_stop (eqb-true b.favoured p t)) ∙ e)
      (λ t. ap D (resumed-keep (eqb-false b.favoured p t)))

  pub resumed_programs : (resumed b p).programs ≡ awake b.programs p
  unfolding resume
  resumed_programs = resumed_part (λ c. c.programs) refl

  resumed_waiting : (resumed b p).waiting ≡ padded 0 (without p (names b.waiting))
  unfolding resume
  resumed_waiting = resumed_part (λ c. c.waiting) refl

  resumed-entry : (resumed b p).entry ≡ b.entry
  unfolding resume
  resumed-entry = resumed_part (λ c. c.entry) refl

  resumed-passed : (resumed b p).passed ≡ set b.passed (p - 1) 0
  unfolding resume
  resumed-passed = resumed_part (λ c. c.passed) refl

  resumed-favour : b.favoured ≢ p → Favour b (resumed b p)
  unfolding resume
  resumed-favour n = let e = resumed-keep n in record {
    who = ap (λ (c : Board). c.favoured) e;
    number = ap (λ (c : Board). c.initial) e;
    left = ap (λ (c : Board). c.leaves) e;
  }

  resumed-nobody : b.favoured ≡ p → (resumed b p).favoured ≡ 0
  unfolding resume
  resumed-nobody d = ap (λ (c : Board). c.favoured) (resumed_stop d)

  -- P are the programs before p was given its file.
  resumed-loose : (P : Progs) → Is p → waits_in P p ≡ true → Woken P (awake b.programs p) p
      → LooseIn P b.waiting b.entry b.favoured b.initial b.leaves → Loose (resumed b p)
  unfolding resume
  resumed-loose P c s u k = by_test (eqb b.favoured p)
      (λ t. subst Loose (sym (resumed_stop (eqb-true b.favoured p t))) (loose_wake P (awake b.programs p) b.waiting
      b.entry b.favoured b.initial b.leaves 0 0 0 p c s u (λ m. absurd (m refl)) (λ _. (refl, refl)) k))
      (λ t. subst Loose (sym (resumed-keep (eqb-false b.favoured p t))) (loose_wake P (awake b.programs p) b.waiting
      b.entry b.favoured b.initial b.leaves b.favoured b.initial b.leaves p c s u
      (λ m. (refl, eqb-false b.favoured p t, refl, refl)) k.nobody k))

-- c is b with the waiter p running: it was given its file, or its record.
pub record Gave (b c : Board) (p : ℕ) : Type 0 where
  pub g-is : Is p
  pub g-waits : waits_in b.programs p ≡ true
  pub g-loose : Loose c
  pub g-runs : stands c.programs p ≡ Standing.Running
  pub g-other : (i : ℕ) → Is i → i ≢ p → prog c.programs i ≡ prog b.programs i
  pub g-item : (prog c.programs p).item ≡ (prog b.programs p).item
  pub g-ins : ins c.programs ≡ ins b.programs
  pub g-stuck : (y g : ℕ) → Is y → can b.programs y g ≡ false → can c.programs y g ≡ false
  pub g-entry : c.entry ≡ b.entry
  pub g_waiting : c.waiting ≡ padded 0 (without p (names b.waiting))
  pub g-passed : c.passed ≡ set b.passed (p - 1) 0
  pub g-favour : b.favoured ≢ p → Favour b c
  pub g-nobody : b.favoured ≡ p → c.favoured ≡ 0
  pub g-counts : Counts c

-- The programs of a board with p running.
woken_as : (b c : Board) (p : ℕ) → Is p → waits_in b.programs p ≡ true → Woken b.programs (awake c.programs p) p
    → (resumed c p).programs ≡ awake c.programs p → Loose (resumed c p) → (resumed c p).entry ≡ b.entry
    → (resumed c p).waiting ≡ padded 0 (without p (names b.waiting)) → (resumed c p).passed ≡ set b.passed (p - 1) 0
    → (b.favoured ≢ p → Favour b (resumed c p)) → (b.favoured ≡ p → (resumed c p).favoured ≡ 0)
    → (prog (awake c.programs p) p).item ≡ (prog b.programs p).item
    → Counted b.passed b.programs → Records (awake c.programs p) 0 0 → Gave b (resumed c p) p
woken_as b c p i w u e l en wa pa fa nb it t rec = record {
  g-is = i;
  g-waits = w;
  g-loose = l;
  g-runs = ap (λ P. stands P p) e ∙ u.w-runs;
  g-other = λ j k n. ap (λ P. prog P j) e ∙ u.w-other j k n;
  g-item = ap (λ P. (prog P p).item) e ∙ it;
  g-ins = ap ins e ∙ u.w-ins;
  g-stuck = λ y g k q. ap (λ P. can P y g) e ∙ u.w-stuck y g k q;
  g-entry = en;
  g_waiting = wa;
  g-passed = pa;
  g-favour = fa;
  g-nobody = nb;
  g-counts = record {
    counted = subst (λ C. Counted C (resumed c p).programs) (sym pa) (counted_stop b.passed b.programs (resumed c p).programs p i
        (λ j k n q. ap (λ P. waits_in P j) e ∙ ap (λ (x : Program). is_waiting x.standing) (u.w-other j k n) ∙ q) t);
    records = subst (λ P. Records P 0 0) (sym e) rec;
  };
}

-- A waiter is given its file.
gave_file : (b : Board) (p f : ℕ) → Loose b → Counts b → Is p → Awaits (prog b.programs p) f → can b.programs p f ≡ true
    → Gave b (given b p f) p
unfolding with_given give
gave_file b p f k n c s u = woken_as b (with_given b p f) p c w v (resumed_programs (with_given b p f) p)
    (resumed-loose (with_given b p f) p P c w v k) (resumed-entry (with_given b p f) p) (resumed_waiting (with_given b p f) p)
    (resumed-passed (with_given b p f) p) (λ m. let q = resumed-favour (with_given b p f) p m in record { who = q.who; number = q.number; left = q.left })
    (resumed-nobody (with_given b p f) p) i.0 n.counted
    (records-quiet P (served P p f) p c v.w-other (none_item _ z (i.1 ∙ (n.records.own p c).no_item s.1)) z
    (λ g r x. x.1 s.1) n.records)
  where
    P : Progs
    P = b.programs

    w : waits_in P p ≡ true
    w = ap is_waiting s.0

    v : Woken P (served P p f) p
    v = woken_served P p f c (ap is_admitted s.0) (k.asked p c f s).claimed u k.base

    i : ((prog (served P p f) p).item ≡ (prog P p).item) × ((prog (served P p f) p).file ≡ (prog P p).file)
    i = served-item P p f k.base.size c

    z : (prog (served P p f) p).item ≡ 0
    z = i.0 ∙ s.1

-- A waiter gets its record.
gave_record : (b : Board) (p f r : ℕ) → Loose b → Counted b.passed b.programs → Records b.programs f r → Is p
    → Wants (prog b.programs p) f r → Gave b (resumed b p) p
gave_record b p f r k n rec c s = woken_as b b p c s.0 v (resumed_programs b p)
    (resumed-loose b p P c s.0 v k) (resumed-entry b p) (resumed_waiting b p)
    (resumed-passed b p) (resumed-favour b p) (resumed-nobody b p) (ap (λ (q : Program). q.item) e) n
    (records-handed P (awake P p) p c v.w-other (subst ItemOwn (sym e) (record {
      no_item = o.no_item;
      in_i = o.in_i;
      stands-so = λ _. inl refl;
    })) f r s e rec)
  where
    P : Progs
    P = b.programs

    v : Woken P (awake P p) p
    v = woken_handed P p c (waiting_in (stands P p) s.0) k.base

    e : prog (awake P p) p ≡ set_standing (prog P p) Standing.Running
    e = put_same P p (set_standing (prog P p) Standing.Running) k.base.size c

    o : ItemOwn (prog P p)
    o = rec.own p c

-- Who waits after p runs is another, and as before.
gave_before : (b c : Board) (p : ℕ) → Gave b c p → (y : ℕ) → Is y → waits_in c.programs y ≡ true
    → (y ≢ p) × (prog c.programs y ≡ prog b.programs y)
gave_before b c p g y i w = let n : y ≢ p = λ d. never {t = false} (sym (ap is_waiting g.g-runs) ∙ ap (waits_in c.programs) (sym d) ∙ w)
    refl in (n, g.g-other y i n)

-- Each has the record number that it had.
abbrev pub SameItems : Board → Board → Type 0
SameItems b c = (i : ℕ) → Is i → (prog c.programs i).item ≡ (prog b.programs i).item

gave_items : (b c : Board) (p : ℕ) → Gave b c p → SameItems b c
gave_items b c p g i j = by_test (eqb i p)
    (λ t. let e = eqb-true i p t in ap (λ q. (prog c.programs q).item) e ∙ g.g-item ∙ ap (λ q. (prog b.programs q).item) (sym e))
    (λ t. ap (λ (q : Program). q.item) (g.g-other i j (eqb-false i p t)))

-- The waiting line is one shorter.
gave_fewer : (b c : Board) (p : ℕ) → Loose b → Gave b c p → 1 + length (names c.waiting) ≡ length (names b.waiting)
gave_fewer b c p k g = let y = ap length (ap names g.g_waiting ∙ names_padded (without p (names b.waiting))
    (λ i q d. let w = k.waits.of i (Rattle.laws.specs.Laws.without-mem p (names b.waiting) i q).0 in
    let v = w.0.least in omega arith)) in
    let v = length_without p (names b.waiting) k.waits.once (k.waits.on p g.g-is g.g-waits) in omega arith

-- ── The pass ──

-- The favoured program was given its file or its record, and runs.
pub record Served (b : Board) (s : Step) : Type 0 where
  pub some : b.favoured ≢ 0
  pub nobody : s.board.favoured ≡ 0
  pub line-there : waiter_line Word.Given b.favoured (prog b.programs b.favoured) ∈ s.lines
  pub runs : stands s.board.programs b.favoured ≡ Standing.Running

-- What the pass through the waiters ps makes of b.
pub record Passed (b : Board) (ps : List ℕ) (s : Step) : Type 0 where
  pub loose : Loose s.board
  pub stuck : ((y : ℕ) → Is y → (g : ℕ) → Awaits (prog b.programs y) g → (y ∈ ps) ⊎ (can b.programs y g ≡ false))
      → Stuck s.board.programs
  pub same-ins : ins s.board.programs ≡ ins b.programs
  pub same-entry : s.board.entry ≡ b.entry
  pub others : (i : ℕ) → Is i → (i ∈ ps → ⊥) → prog s.board.programs i ≡ prog b.programs i
  pub waited : (y : ℕ) → Is y → waits_in s.board.programs y ≡ true → prog s.board.programs y ≡ prog b.programs y
  pub items : SameItems b s.board
  pub fewer : length s.lines + length (names s.board.waiting) ≡ length (names b.waiting)
  pub only-given : (k : Line) → k ∈ s.lines → k.word ≡ Word.Given
  pub fav : Favour b s.board ⊎ Served b s
  pub counted : Counts s.board
  pub same_count : (y : ℕ) → Is y → waits_in s.board.programs y ≡ true → count_in s.board.passed y ≡ count_in b.passed y

-- the waiter p would be given its file
abbrev pub can_serve : Board → ℕ → Bool
can_serve b p = eqb (at b p).item 0 && can_give b p (awaited b p)

pass-given : (p : ℕ) (ps : List ℕ) (b : Board) → can_serve b p ≡ true → pass (p ∷ ps) b ≡ and_then
    (line Word.Given p (awaited b p) ∷ []) (pass ps (given b p (awaited b p)))
unfolding pass try_give
pass-given p ps b u = rw u

pub pass-still : (p : ℕ) (ps : List ℕ) (b : Board) → can_serve b p ≡ false → pass (p ∷ ps) b ≡ pass ps b
unfolding pass try_give
pass-still p ps b u = rw u

-- Lines come first.
served_more : (b : Board) (l : Line) (s : Step) → Served b s → Served b (and_then (l ∷ []) s)
served_more b l s q = record { some = q.some; nobody = q.nobody; line-there = Memᴰ.tail q.line-there; runs = q.runs }

-- The favoured program of b, another than p, is that of c.
served_as : (b c : Board) (p : ℕ) (s : Step) → Loose b → Gave b c p → b.favoured ≢ p → Served c s → Served b s
served_as b c p s k g n q = record {
  some = n0;
  nobody = q.nobody;
  line-there = subst (λ l. l ∈ s.lines) (ap (λ h. waiter_line Word.Given h (prog c.programs h)) w.who
      ∙ ap (waiter_line Word.Given b.favoured) (g.g-other b.favoured (k.fav-waits n0).0 n)) q.line-there;
  runs = ap (stands s.board.programs) (sym w.who) ∙ q.runs;
}
  where
    w : Favour b c
    w = g.g-favour n

    n0 : b.favoured ≢ 0
    n0 d = q.some (w.who ∙ d)

-- One giving, and then the rest.
passed-given : (p : ℕ) (ps : List ℕ) (b c : Board) → Loose b → Gave b c p → (p ∈ ps → ⊥) → Passed c ps (pass ps c)
    → Passed b (p ∷ ps) (and_then (waiter_line Word.Given p (prog b.programs p) ∷ []) (pass ps c))
passed-given p ps b c k g m r = record {
  loose = r.loose;
  stuck = λ h. r.stuck (λ y i f u. let (n, e) = gave_before b c p g y i (ap is_waiting u.0) in
      ⊎_elim (λ q. by_mem q (λ d. absurd (n d)) inl) (λ q. inr (g.g-stuck y f i q)) (h y i f (subst (λ q. Awaits q f) e u)));
  same-ins = r.same-ins ∙ g.g-ins;
  same-entry = r.same-entry ∙ g.g-entry;
  others = λ i j n. r.others i j (λ q. n (Memᴰ.tail q)) ∙ g.g-other i j (λ d. n (Memᴰ.head d));
  waited = λ y i w. r.waited y i w ∙ (before y i w).1;
  items = λ i j. r.items i j ∙ gave_items b c p g i j;
  fewer = let x = r.fewer in let y = gave_fewer b c p k g in omega arith;
  only-given = λ q n. by_mem n (λ d. ap (λ (v : Line). v.word) d) (r.only-given q);
  fav = by_test (eqb b.favoured p)
      (λ t. let d = eqb-true b.favoured p t in inr (record {
        some = λ o. let v = g.g-is.least in omega arith;
        nobody = ⊎_elim (λ (q : Favour c (pass ps c).board). q.who ∙ g.g-nobody d)
            (λ (q : Served c (pass ps c)). absurd (q.some (g.g-nobody d))) r.fav;
        line-there = Memᴰ.head (ap (λ h. waiter_line Word.Given h (prog b.programs h)) d);
        runs = ap (stands (pass ps c).board.programs) d ∙ ap (λ (q : Program). q.standing) (r.others p g.g-is m) ∙ g.g-runs;
      }))
      (λ t. let n = eqb-false b.favoured p t in ⊎_elim (λ q. inl (favour_trans b c _ (g.g-favour n) q))
      (λ (q : Served c (pass ps c)). inr (served_more b (waiter_line Word.Given p (prog b.programs p)) (pass ps c)
      (served_as b c p (pass ps c) k g n q))) r.fav);
  counted = r.counted;
  same_count = λ y i w. r.same_count y i w ∙ ap (λ C. count_in C y) g.g-passed
      ∙ uncount-other b.passed p y g.g-is i (before y i w).0;
}
  where
    before : (y : ℕ) → Is y → waits_in (pass ps c).board.programs y ≡ true → (y ≢ p) × (prog c.programs y ≡ prog b.programs y)
    before y i w = gave_before b c p g y i (ap (λ (q : Program). is_waiting q.standing) (sym (r.waited y i w)) ∙ w)

pub pass-passed : (ps : List ℕ) (b : Board) → Loose b → Counts b → NoRepeat ps
    → ((p : ℕ) → p ∈ ps → Is p × (waits_in b.programs p ≡ true)) → Passed b ps (pass ps b)
unfolding pass Pairs
pass-passed [] b k t n h = record {
  loose = k;
  stuck = λ v y i g u. ⊎_elim (λ q. absurd (Memᴰ.not-nil q)) (λ q. q) (v y i g u);
  same-ins = refl;
  same-entry = refl;
  others = λ i j m. refl;
  waited = λ y i w. refl;
  items = λ i j. refl;
  fewer = omega arith;
  only-given = λ q m. absurd (Memᴰ.not-nil m);
  fav = inl (favour_refl b);
  counted = t;
  same_count = λ y i w. refl;
}
pass-passed (p ∷ ps) b k t n h =
    let (c, v) = h p here in
    let a = eqb (at b p).item 0 in
    let (f, s) = waiting_file (stands b.programs p) v in
    let d : awaited b p ≡ f = ap awaited_of s in
    by_test (can_serve b p)
    (λ u. let z = eqb-true (at b p).item 0 (and_left a (can_give b p (awaited b p)) u) in
    let g = gave_file b p (awaited b p) k t c (s ∙ ap Standing.Waiting (sym d), z)
    (sym (can_give_is b p (awaited b p)) ∙ and_right a (can_give b p (awaited b p)) u) in
    let r = pass-passed ps (given b p (awaited b p)) g.g-loose g.g-counts n.1 (λ q m. let (i, w) = h q (Memᴰ.tail m) in (
      i,
      ap (λ (x : Program). is_waiting x.standing) (g.g-other q i (λ j. n.0 q m (sym j))) ∙ w,
    )) in
    subst (Passed b (p ∷ ps)) (ap (λ x. and_then (line_of Word.Given p (awaited b p) x ∷ []) (pass ps (given b p (awaited b p)))) z
    ∙ sym (pass-given p ps b u)) (passed-given p ps b (given b p (awaited b p)) k g (λ m. n.0 p m refl) r))
    (λ u. let r = pass-passed ps b k t n.1 (λ q m. h q (Memᴰ.tail m)) in
    subst (Passed b (p ∷ ps)) (sym (pass-still p ps b u)) (record {
      loose = r.loose;
      stuck = λ w. r.stuck (λ y i g q. ⊎_elim (λ m. by_mem m (λ j. inr (unserved p g u (subst (λ h. Awaits (prog b.programs h) g) j q)
          j)) inl) inr (w y i g q));
      same-ins = r.same-ins;
      same-entry = r.same-entry;
      others = λ i j m. r.others i j (λ q. m (Memᴰ.tail q));
      waited = r.waited;
      items = r.items;
      fewer = r.fewer;
      only-given = r.only-given;
      fav = r.fav;
      counted = r.counted;
      same_count = r.same_count;
    }))
  where
    unserved : (p g : ℕ) → can_serve b p ≡ false → Awaits (prog b.programs p) g → {y : ℕ} → y ≡ p → can b.programs y g ≡ false
    unserved p g u q j = ap (λ h. can b.programs h g) j ∙ sym (can_give_is b p g) ∙ ap (can_give b p) (sym (ap awaited_of q.0))
        ∙ (rw (eq-eqb (at b p).item 0 q.1) at u)

-- ── Favouring, or running those held ──

-- Nobody was favoured by a line.
abbrev pub NoFavour : List Line → Type 0
NoFavour l = (k : Line) → k ∈ l → k.word ≡ Word.Favour → ⊥

-- p was favoured, by a line that says so, and by no other.
pub record Newly (s : Step) (p : ℕ) : Type 0 where
  pub line-there : waiter_line Word.Favour p (prog s.board.programs p) ∈ s.lines
  pub no_other : (k : Line) → k ∈ s.lines → k.word ≡ Word.Favour → k ≡ waiter_line Word.Favour p (prog s.board.programs p)
  pub is : Is p
  pub now : s.board.favoured ≡ p
  pub waits : waits_in s.board.programs p ≡ true
  pub counted : s.board.initial ≡ length (ins s.board.programs)
  pub none_left : s.board.leaves ≡ 0
  -- it waits for a file, or its count is 8
  pub why : ((prog s.board.programs p).item ≡ 0) ⊎ (count_in s.board.passed p ≡ 8)

-- Lines that favour nobody come first.
pub newly_more : (ls : List Line) (s : Step) (p : ℕ) → NoFavour ls → Newly s p → Newly (and_then ls s) p
newly_more ls s p n w = record {
  line-there = Memᴰ.append_right ls w.line-there;
  no_other = λ k m d. ⊎_elim (λ v. absurd (n k v d)) (λ v. w.no_other k v d) (Memᴰ.append_cases ls m);
  is = w.is;
  now = w.now;
  waits = w.waits;
  counted = w.counted;
  none_left = w.none_left;
  why = w.why;
}

pub quiet_more : (ls ms : List Line) → NoFavour ls → NoFavour ms → NoFavour (ls ++ ms)
quiet_more ls ms n m k i d = ⊎_elim (λ v. n k v d) (λ v. m k v d) (Memᴰ.append_cases ls i)

pub record Chosen (b : Board) (s : Step) : Type 0 where
  pub good : Good s.board
  pub many : length s.lines ≤ length (names b.waiting) + length (names b.entry)
  pub fav : ((b.favoured ≡ 0) × ((p : ℕ) × Newly s p)) ⊎ (Favour b s.board × NoFavour s.lines)
  pub runs : (p : ℕ) → Is p → stands b.programs p ≡ Standing.Running → stands s.board.programs p ≡ Standing.Running
  pub waited : (y : ℕ) → Is y → waits_in s.board.programs y ≡ true → prog s.board.programs y ≡ prog b.programs y
  pub others : (i : ℕ) → Is i → held_at b.programs i ≡ false → prog s.board.programs i ≡ prog b.programs i
  pub items : SameItems b s.board
  pub count : (y : ℕ) → Is y → waits_in s.board.programs y ≡ true
      → count_in s.board.passed y ≡ count_in b.passed y + admits s.lines
  pub sum : length (ins s.board.programs) ≡ length (ins b.programs) + admits s.lines

pub choose-still : (b : Board) → b.favoured ≢ 0 → choose b ≡ still b
unfolding choose
choose-still b n = rw (ne_eqb b.favoured 0 n)

choose_some : (b : Board) (p : ℕ) → b.favoured ≡ 0 → candidate b ≡ some p → choose b ≡ favour b p
unfolding choose
choose_some b p e u = rw (eq-eqb b.favoured 0 e, u)

choose-none : (b : Board) → b.favoured ≡ 0 → candidate b ≡ none → choose b ≡ run_held (names b.entry) b
unfolding choose
choose-none b e u = rw (eq-eqb b.favoured 0 e, u)

words_differ : Word.Admit ≡ Word.Favour → ⊥
words_differ e = let z : ◌≡◌ {A = ℕ} 0 1 = cc in omega arith

pub given_not_favour : Word.Given ≡ Word.Favour → ⊥
given_not_favour e = let z : ◌≡◌ {A = ℕ} 0 1 = cc in omega arith

mem-length : {A : Type 0} (a : A) (l : List A) → a ∈ l → 1 ≤ length l
mem-length a [] m = absurd (Memᴰ.not-nil m)
mem-length a (x ∷ l) m = omega arith

chosen_still : (b : Board) → Loose b → Stuck b.programs → Counts b → b.favoured ≢ 0 → Chosen b (still b)
unfolding admits
chosen_still b k st t n = record {
  good = record { loose = k; counts = t; stuck = st; free = λ d. absurd (n d) };
  many = omega arith;
  fav = inr (favour_refl b, λ q m. absurd (Memᴰ.not-nil m));
  runs = λ p c u. u;
  waited = λ y i w. refl;
  others = λ i c n. refl;
  items = λ i c. refl;
  count = λ y i w. omega arith;
  sum = omega arith;
}

pub chosen_some : (b : Board) (p : ℕ) → Loose b → Stuck b.programs → Counts b → b.favoured ≡ 0 → p ∈ names b.waiting
    → ((prog b.programs p).item ≡ 0) ⊎ (count_in b.passed p ≡ 8) → Chosen b (favour b p)
unfolding favour admits
chosen_some b p k st n e m y =
    let (c, v) = k.waits.of p m in
    let z = ap length (admitted_is b) in
    let i = length-ins b.programs in
    let q = mem-length p (names b.waiting) m in
    let w = c.least in
    record {
      good = record {
        loose = record {
          base = k.base;
          waits = k.waits;
          helds = k.helds;
          asked = k.asked;
          fav-waits = λ _. (c, v);
          count = λ _. (omega arith, omega arith);
          nobody = λ d. absurd (omega arith);
        };
        counts = n;
        stuck = st;
        free = λ d. absurd (omega arith);
      };
      many = omega arith;
      fav = inl (
        e,
        (
          p,
          record {
            line-there = here;
            no_other = λ q m _. Memᴰ.eq_of_singleton m;
            is = c;
            now = refl;
            waits = v;
            counted = z;
            none_left = refl;
            why = y;
          },
        ),
      );
      runs = λ p c u. u;
      waited = λ y i w. refl;
      others = λ i c n. refl;
      items = λ i c. refl;
      count = λ y i w. omega arith;
      sum = omega arith;
    }

-- Nobody is held any more.
chosen_end : (b : Board) → Loose b → Stuck b.programs → Counts b → names b.entry ≡ [] → Chosen b (still b)
unfolding admits
chosen_end b k st n h = record {
  good = record {
    loose = k;
    counts = n;
    stuck = st;
    free = λ _ p c. no_true _ (λ u. Memᴰ.not-nil (subst (λ l. p ∈ l) h (k.helds.on p c u)));
  };
  many = omega arith;
  fav = inr (favour_refl b, λ q m. absurd (Memᴰ.not-nil m));
  runs = λ p c u. u;
  waited = λ y i w. refl;
  others = λ i c n. refl;
  items = λ i c. refl;
  count = λ y i w. omega arith;
  sum = omega arith;
}

pub run-one : (p : ℕ) (ps : List ℕ) (b : Board) → overdue b ≡ none
    → run_held (p ∷ ps) b ≡ and_then (line Word.Admit p 0 ∷ []) (run_held ps (admit_held b p ps))
unfolding run_held
run-one p ps b u = rw u

pub run_stop : (p w : ℕ) (ps : List ℕ) (b : Board) → overdue b ≡ some w → run_held (p ∷ ps) b ≡ favour b w
unfolding run_held
run_stop p w ps b u = rw u

-- One held program runs: p, the first of the entry line.
pub record Admitted (b c : Board) (p : ℕ) (ps : List ℕ) : Type 0 where
  pub a-loose : Loose c
  pub a-stuck : Stuck b.programs → Stuck c.programs
  pub a-counts : Counts c
  pub a-who : c.favoured ≡ b.favoured
  pub a-same : Favour b c
  pub a_waiting : c.waiting ≡ b.waiting
  pub a-entry : names c.entry ≡ ps
  pub a-is : Is p
  pub a-held : held_at b.programs p ≡ true
  pub a-runs : stands c.programs p ≡ Standing.Running
  pub a-other : (i : ℕ) → Is i → i ≢ p → prog c.programs i ≡ prog b.programs i
  pub a-items : SameItems b c
  pub a-count : (y : ℕ) → Is y → waits_in c.programs y ≡ true → count_in c.passed y ≡ count_in b.passed y + 1
  pub a_sum : length (ins c.programs) ≡ length (ins b.programs) + 1

pub admit-held : (b : Board) (p : ℕ) (ps : List ℕ) → Loose b → Counts b → b.favoured ≡ 0 → names b.entry ≡ p ∷ ps
    → overdue b ≡ none → Admitted b (admit_held b p ps) p ps
unfolding admit_held Pairs
admit-held b p ps k n e h v = record {
  a-loose = subst (λ w. LooseIn (put P p x) b.waiting (padded 0 ps) w b.initial b.leaves) (sym e)
      (loose_admit P b.waiting b.entry (padded 0 ps) b.initial b.leaves p x c (ap is_admitted s) idle refl
      (own_same _ _ (standing_same (prog P p) Standing.Running) refl o)
      l (subst (λ w. LooseIn P b.waiting b.entry w b.initial b.leaves) e k));
  a-stuck = λ st. stuck_in P p x z c (ap is_admitted s) (within_same _ _ (standing_same (prog P p) Standing.Running)) refl st;
  a-counts = record {
    counted = counted_tally b d v k.waits refl same n.counted;
    records = records-quiet P (put P p x) p c (λ i j m. put_other P p i x c j m) (none_item _ x0 x1) x0 (λ f r u. u.1 z0) n.records;
  };
  a-who = refl;
  a-same = record { who = refl; number = refl; left = refl };
  a_waiting = refl;
  a-entry = names_padded ps (λ q m o. let w = (f q m).0.least in omega arith);
  a-is = c;
  a-held = (k.helds.of p (subst (λ w. p ∈ w) (sym h) here)).1;
  a-runs = ap (λ (y : Program). y.standing) (put_same P p x z c);
  a-other = λ q j m. put_other P p q x c j m;
  a-items = λ i j. put_case (λ q. q.item ≡ (prog P i).item) P p x z c i j (λ d. ap (λ h. (prog P h).item) (sym d)) (λ _. refl);
  a-count = tallied_waits d;
  a_sum = length_in_lem P p x z c (ap is_admitted s) refl;
}
  where
    P : Progs
    P = b.programs

    x : Program
    x = set_standing (prog P p) Standing.Running

    d : Board
    d = set_entry (set_program b p x) ps

    c : Is p
    c = (k.helds.of p (subst (λ w. p ∈ w) (sym h) here)).0

    s : stands P p ≡ Standing.Held
    s = held_is (stands P p) (k.helds.of p (subst (λ w. p ∈ w) (sym h) here)).1

    z : Sized P
    z = k.base.size

    o : Own (prog P p)
    o = k.base.own p c

    idle : Idle x
    idle m = sym ((standing_same (prog P p) Standing.Running).same_open m) ∙ o.idle (ap is_admitted s) m

    z0 : (prog P p).item ≡ 0
    z0 = out_item (prog P p) (ap is_admitted s) (n.records.own p c)

    x0 : (prog (put P p x) p).item ≡ 0
    x0 = ap (λ (y : Program). y.item) (put_same P p x z c) ∙ z0

    x1 : (prog (put P p x) p).file ≡ 0
    x1 = ap (λ (y : Program). y.file) (put_same P p x z c) ∙ (n.records.own p c).no_item z0

    once : NoRepeat (p ∷ ps)
    once = subst NoRepeat h k.helds.once

    same : (q : ℕ) → Is q → waits_in (put P p x) q ≡ waits_in P q
    same = test_put is_waiting P p x z c (sym (ap is_waiting s))

    f : (q : ℕ) → q ∈ ps → Is q × (held_at (put P p x) q ≡ true)
    f q m = let (j, w) = k.helds.of q (subst (λ l. q ∈ l) (sym h) (Memᴰ.tail m)) in
        (j, test_other is_held P p x c q j (λ d. once.0 q m (sym d)) ∙ w)

    g : (q : ℕ) → Is q → held_at (put P p x) q ≡ true → q ∈ ps
    g q j w = by_test (eqb q p)
        (λ t. never {t = false} (sym (test_same is_held P p x z c) ∙ ap (held_at (put P p x)) (sym (eqb-true q p t)) ∙ w) refl)
        (λ t. let d = eqb-false q p t in
        by_mem (subst (λ l. q ∈ l) h (k.helds.on q j (sym (test_other is_held P p x c q j d) ∙ w))) (λ e. absurd (d e)) (λ m. m))

    l : OnLine (padded 0 ps) (held_at (put P p x))
    l = line_make ps (held_at (put P p x)) once.1 f g

-- One more is admitted, and then the rest.
chosen_one : (b c : Board) (p : ℕ) (ps : List ℕ) (s : Step) → b.favoured ≡ 0 → names b.entry ≡ p ∷ ps → Admitted b c p ps → Chosen c s
    → Chosen b (and_then (line Word.Admit p 0 ∷ []) s)
unfolding admits
chosen_one b c p ps s e h a r = record {
  good = r.good;
  many = let m = r.many in let x = ap (λ l. length (names l)) a.a_waiting in let y = ap length a.a-entry in
      let z = ap length h in omega arith;
  fav = ⊎_elim
      (λ x. inl (e, (x.1.0, newly_more (line Word.Admit p 0 ∷ []) s x.1.0 quiet x.1.1)))
      (λ x. inr (favour_trans b c _ a.a-same x.0, quiet_more (line Word.Admit p 0 ∷ []) s.lines quiet x.1))
      r.fav;
  runs = λ q j u. r.runs q j (ap (λ (y : Program). y.standing) (a.a-other q j (other q u)) ∙ u);
  waited = λ y i w. r.waited y i w ∙ back y i (was y i w);
  others = λ i j n. let d = a.a-other i j (λ q. never (ap (held_at b.programs) q ∙ a.a-held) n) in
      r.others i j (ap (λ (y : Program). is_held y.standing) d ∙ n) ∙ d;
  items = λ i j. r.items i j ∙ a.a-items i j;
  count = λ y i w. let x = r.count y i w in let v = a.a-count y i (was y i w) in omega arith;
  sum = let x = r.sum in let y = a.a_sum in omega arith;
}
  where
    quiet : NoFavour (line Word.Admit p 0 ∷ [])
    quiet k m d = words_differ (ap (λ (l : Line). l.word) (sym (Memᴰ.eq_of_singleton m)) ∙ d)

    other : (q : ℕ) → stands b.programs q ≡ Standing.Running → q ≢ p
    other q u d = never {t = false} (sym (ap is_held u) ∙ ap (held_at b.programs) d ∙ a.a-held) refl

    was : (y : ℕ) → Is y → waits_in s.board.programs y ≡ true → waits_in c.programs y ≡ true
    was y i w = ap (λ (q : Program). is_waiting q.standing) (sym (r.waited y i w)) ∙ w

    back : (y : ℕ) → Is y → waits_in c.programs y ≡ true → prog c.programs y ≡ prog b.programs y
    back y i w = a.a-other y i (λ d. never {t = false} (sym (ap is_waiting a.a-runs) ∙ ap (waits_in c.programs) (sym d) ∙ w) refl)

run_chosen : (hs : List ℕ) (b : Board) → Loose b → Stuck b.programs → Counts b → b.favoured ≡ 0 → names b.entry ≡ hs
    → Chosen b (run_held hs b)
unfolding run_held overdue
run_chosen [] b k st n e h = chosen_end b k st n h
run_chosen (p ∷ ps) b k st n e h = by_option (overdue b)
    (λ u. let a = admit-held b p ps k n e h u in
    subst (Chosen b) (sym (run-one p ps b u)) (chosen_one b (admit_held b p ps) p ps _ e h a
    (run_chosen ps (admit_held b p ps) a.a-loose (a.a-stuck st) a.a-counts (a.a-who ∙ e) a.a-entry)))
    (λ w u. let f = first_some (λ q. eqb (passed_by b q) 8) (names b.waiting) w u in
    subst (Chosen b) (sym (run_stop p w ps b u)) (chosen_some b w k st n e f.0 (inr (eqb-true (passed_by b w) 8 f.1))))

choose_chosen : (b : Board) → Loose b → Stuck b.programs → Counts b → Chosen b (choose b)
unfolding candidate
choose_chosen b k st v = by_test (eqb b.favoured 0)
    (λ t. let e = eqb-true b.favoured 0 t in by_option (candidate b)
    (λ u. subst (Chosen b) (sym (choose-none b e u)) (run_chosen (names b.entry) b k st v e refl))
    (λ p u. let f = first_some (λ q. eqb (at b q).item 0 && not (in_use b q (awaited b q))) (names b.waiting) p u in
    subst (Chosen b) (sym (choose_some b p e u)) (chosen_some b p k st v e f.0
    (inl (eqb-true (at b p).item 0 (and_left (eqb (at b p).item 0) (not (in_use b p (awaited b p))) f.1))))))
    (λ t. let n = eqb-false b.favoured 0 t in subst (Chosen b) (sym (choose-still b n)) (chosen_still b k st v n))

-- ── Settling ──

-- The favoured program was given its file or its record by a line, and runs.
pub record Ended (b : Board) (s : Step) : Type 0 where
  pub line-there : waiter_line Word.Given b.favoured (prog b.programs b.favoured) ∈ s.lines
  pub runs : stands s.board.programs b.favoured ≡ Standing.Running

pub record Settled (b : Board) (s : Step) : Type 0 where
  pub good : Good s.board
  pub many : length s.lines ≤ length (names b.waiting) + length (names b.entry)
  pub fav : ((p : ℕ) × Newly s p) ⊎ (((s.board.favoured ≡ 0) ⊎ Favour b s.board) × NoFavour s.lines)
  pub ended : b.favoured ≢ 0 → Favour b s.board ⊎ Ended b s
  pub waited : (y : ℕ) → Is y → waits_in s.board.programs y ≡ true → prog s.board.programs y ≡ prog b.programs y
  pub others : (i : ℕ) → Is i → waits_in b.programs i ≡ false → held_at b.programs i ≡ false
      → prog s.board.programs i ≡ prog b.programs i
  pub items : SameItems b s.board
  pub count : (y : ℕ) → Is y → waits_in s.board.programs y ≡ true
      → count_in s.board.passed y ≡ count_in b.passed y + admits s.lines
  pub sum : length (ins s.board.programs) ≡ length (ins b.programs) + admits s.lines

pub settle_settled : (b : Board) → Loose b → Counts b → Settled b (settle b)
unfolding settle
settle_settled b k n = record {
  good = q.good;
  many = let x = r.fewer in let y = q.many in let z = ap (λ l. length (names l)) r.same-entry in let v =
      length-append s.lines (choose s.board).lines in omega arith;
  fav = ⊎_elim
      (λ x. inl (x.1.0, newly_more s.lines (choose s.board) x.1.0 quiet x.1.1))
      (λ x. inr (
        ⊎_elim (λ v. inr (favour_trans b s.board _ v x.0))
            (λ (v : Served b s). inl (x.0.who ∙ v.nobody)) r.fav,
        quiet_more s.lines (choose s.board).lines quiet x.1,
      ))
      q.fav;
  ended = λ n. ⊎_elim
      (λ (v : Favour b s.board). ⊎_elim (λ x. absurd (n (sym v.who ∙ x.0)))
      (λ x. inl (favour_trans b s.board _ v x.0)) q.fav)
      (λ (v : Served b s). inr (record {
        line-there = Memᴰ.append_left (choose s.board).lines v.line-there;
        runs = q.runs b.favoured (k.fav-waits n).0 v.runs;
      }))
      r.fav;
  waited = λ y i w. q.waited y i w ∙ r.waited y i (was y i w);
  others = λ i c w h. let e = r.others i c (λ m. never (k.waits.of i m).1 w) in
      q.others i c (ap (λ (x : Program). is_held x.standing) e ∙ h) ∙ e;
  items = λ i j. q.items i j ∙ r.items i j;
  count = λ y i w. let x = q.count y i w in let v = r.same_count y i (was y i w) in omega (arith, all-admits);
  sum = let x = q.sum in let y = ap length r.same-ins in omega (arith, all-admits);
}
  where
    s : Step
    s = pass (names b.waiting) b

    r : Passed b (names b.waiting) s
    r = pass-passed (names b.waiting) b k n k.waits.once k.waits.of

    q : Chosen s.board (choose s.board)
    q = choose_chosen s.board r.loose (r.stuck (λ y i g u. inl (k.waits.on y i (ap is_waiting u.0)))) r.counted

    was : (y : ℕ) → Is y → waits_in (choose s.board).board.programs y ≡ true → waits_in s.board.programs y ≡ true
    was y i w = ap (λ (x : Program). is_waiting x.standing) (sym (q.waited y i w)) ∙ w

    quiet : NoFavour s.lines
    quiet k m d = given_not_favour (sym (r.only-given k m) ∙ d)

    all-admits : admits (s.lines ++ (choose s.board).lines) ≡ admits (choose s.board).lines
    all-admits = let x = admits-append s.lines (choose s.board).lines in let y = admits-none s.lines r.only-given
        in omega arith

-- ── Handing on a record, and then settling ──

settled_gave : (b c : Board) (p : ℕ) (t : Step) → Loose b → Gave b c p → Settled c t
    → Settled b (and_then (waiter_line Word.Given p (prog b.programs p) ∷ []) t)
unfolding admits
settled_gave b c p t k g r = record {
  good = r.good;
  many = let m = r.many in let x = gave_fewer b c p k g in let y = ap (λ l. length (names l)) g.g-entry in omega arith;
  fav = ⊎_elim (λ x. inl (x.0, newly_more (l ∷ []) t x.0 quiet x.1))
      (λ x. inr (
        ⊎_elim inl (λ v. by_test (eqb b.favoured p)
            (λ u. inl (v.who ∙ g.g-nobody (eqb-true b.favoured p u)))
            (λ u. inr (favour_trans b c _ (g.g-favour (eqb-false b.favoured p u)) v))) x.0,
        quiet_more (l ∷ []) t.lines quiet x.1,
      ))
      r.fav;
  ended = λ n. by_test (eqb b.favoured p)
      (λ u. let d = eqb-true b.favoured p u in inr (record {
        line-there = Memᴰ.head (ap (λ h. waiter_line Word.Given h (prog b.programs h)) d);
        runs = ap (stands t.board.programs) d
            ∙ ap (λ (q : Program). q.standing) (r.others p g.g-is (ap is_waiting g.g-runs) (ap is_held g.g-runs)) ∙ g.g-runs;
      }))
      (λ u. let m = eqb-false b.favoured p u in let w = g.g-favour m in
      ⊎_elim (λ v. inl (favour_trans b c _ w v))
      (λ (v : Ended c t). inr (record {
        line-there = Memᴰ.tail (subst (λ l. l ∈ t.lines) (ap (λ h. waiter_line Word.Given h (prog c.programs h)) w.who
            ∙ ap (waiter_line Word.Given b.favoured) (g.g-other b.favoured (k.fav-waits n).0 m)) v.line-there);
        runs = ap (stands t.board.programs) (sym w.who) ∙ v.runs;
      }))
      (r.ended (λ d. n (sym w.who ∙ d))));
  waited = λ y i w. r.waited y i w ∙ (before y i w).1;
  others = λ i c w h. let e = g.g-other i c (λ d. never (ap (waits_in b.programs) d ∙ g.g-waits) w) in
      r.others i c (ap (λ (q : Program). is_waiting q.standing) e ∙ w) (ap (λ (q : Program). is_held q.standing) e ∙ h) ∙ e;
  items = λ i j. r.items i j ∙ gave_items b c p g i j;
  count = λ y i w. let x = r.count y i w in let v = ap (λ C. count_in C y) g.g-passed ∙ uncount-other b.passed p y g.g-is i
      (before y i w).0 in omega arith;
  sum = let x = r.sum in let y = ap length g.g-ins in omega arith;
}
  where
    l : Line
    l = waiter_line Word.Given p (prog b.programs p)

    quiet : NoFavour (l ∷ [])
    quiet k m d = given_not_favour (ap (λ (q : Line). q.word) (sym (Memᴰ.eq_of_singleton m)) ∙ d)

    before : (y : ℕ) → Is y → waits_in t.board.programs y ≡ true → (y ≢ p) × (prog c.programs y ≡ prog b.programs y)
    before y i w = gave_before b c p g y i (ap (λ (q : Program). is_waiting q.standing) (sym (r.waited y i w)) ∙ w)

pub hand_none : (b : Board) (f r : ℕ) → first (λ w. wants (at b w) f r) (names b.waiting) ≡ none → hand_on b f r ≡ still b
unfolding hand_on
hand_none b f r e = rw e

hand_some : (b : Board) (f r w : ℕ) → first (λ w. wants (at b w) f r) (names b.waiting) ≡ some w
    → hand_on b f r ≡ record { board = resumed b w; lines = line_of Word.Given w f r ∷ [] }
unfolding hand_on hand_to
hand_some b f r w e = rw e

-- Nobody waits for the record r of f.
unwanted : (b : Board) (f r : ℕ) → first (λ w. wants (at b w) f r) (names b.waiting) ≡ none → Loose b → Counted b.passed b.programs
    → Records b.programs f r → Counts b
unwanted b f r e k n rec = record {
  counted = n;
  records = records_nobody b.programs f r (λ i j w. never (of-wants (at b i) f r w) (first-none (λ w. wants (at b w) f r)
      (names b.waiting) e i (k.waits.on i j w.0))) rec;
}

-- The board with the record handed on may settle.
pub hand_ready : (b : Board) (f r : ℕ) → Loose b → Counted b.passed b.programs → Records b.programs f r
    → Loose (hand_on b f r).board × Counts (hand_on b f r).board
hand_ready b f r k n rec = by_option (first (λ w. wants (at b w) f r) (names b.waiting))
    (λ e. subst (λ h. Loose h.board × Counts h.board) (sym (hand_none b f r e)) (k, unwanted b f r e k n rec))
    (λ w e. let (m, u) = first_some (λ w. wants (at b w) f r) (names b.waiting) w e in
    let g = gave_record b w f r k n rec (k.waits.of w m).0 (wants-of (at b w) f r u) in
    subst (λ h. Loose h.board × Counts h.board) (sym (hand_some b f r w e)) (g.g-loose, g.g-counts))

-- A waiter for a record waits for its file.
item_awaits : (q : Program) (f r : ℕ) → ItemOwn q → Wants q f r → awaited_of q.standing ≡ f
item_awaits q f r o w = ⊎_elim (λ e. never {t = false} (sym (ap is_waiting e) ∙ w.0) refl) (λ e. ap awaited_of e ∙ w.2) (o.stands-so w.1)

-- The record r of f is handed on, and the board settles.
pub hand_settled : (b : Board) (f r : ℕ) → Loose b → Counted b.passed b.programs → Records b.programs f r
    → Settled b (and_then (hand_on b f r).lines (settle (hand_on b f r).board))
hand_settled b f r k n rec = by_option (first (λ w. wants (at b w) f r) (names b.waiting))
    (λ e. subst (λ h. Settled b (and_then h.lines (settle h.board))) (sym (hand_none b f r e))
    (settle_settled b k (unwanted b f r e k n rec)))
    (λ w e. let (m, u) = first_some (λ w. wants (at b w) f r) (names b.waiting) w e in
    let (i, _) = k.waits.of w m in let x = wants-of (at b w) f r u in let g = gave_record b w f r k n rec i x in
    subst (λ h. Settled b (and_then h.lines (settle h.board))) (sym (hand_some b f r w e))
    (subst (λ l. Settled b (and_then (l ∷ []) (settle (resumed b w)))) (ap₂ (line_of Word.Given w)
    (item_awaits (at b w) f r (rec.own w i) x) x.3)
    (settled_gave b (resumed b w) w (settle (resumed b w)) k g (settle_settled (resumed b w) g.g-loose g.g-counts))))
