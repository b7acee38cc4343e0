-- Laws of lines of input, for the functions of the program. Assumes nothing.
use Rattle.request.specs.Verbs.{cut_line}
use Prim.Native.Nat.{ℕ, zero, suc, ◌+◌, ◌-◌, ◌*◌, ◌≤◌, ◌<◌}
use mathlib.Core.Path.{◌≡◌, refl, ap, sym, ◌∙◌}
use mathlib.Core.Logic.{◌≢◌}
use mathlib.Core.Bool.{true, false}
use mathlib.Core.List.{List, [], ◌∷◌, ◌++◌, append_assoc, append-nil}
use lib.Dec.{eqb}
use lib.ListN.{length, take, drop, set, get_or, replicate, length-append, length-take, length-drop, take-append-drop}
use lib.Seq.{take-add, take-suc, take-suc-set, take-append-add, take-append-le, take_all, take_at, take-length}
use native.Mathlib.Numerals.{add-one}
use native.Mathlib.Omega.{arith}
use borrow.Rule.Slice.PartMut.{put_mid}
use borrow.Author.Tests.{ne_eqb, le-ltb}
use Rattle.std.specs.List.{position, position_or_len}
use Rattle.std.proofs.Common.{Option, Some, None, MatchOption, min, cond, ltb, ◌==◌}
use Rattle.std.proofs.lemmas.List.Recursion.{is_position_or_len}
use Rattle.std.proofs.lemmas.Slice.{take-put_mid}
use Rattle.std.proofs.lemmas.List.{take_min}
use Rattle.std.proofs.lemmas.Bool.{ltb-true, ltb-false}
use Rattle.laws.specs.Tests.{by_test}
use Rattle.rules.specs.declared.Board.{Board}
use Rattle.rules.specs.Soundness.{sound}
use Rattle.laws.specs.Lists.{names}
use Rattle.columns.specs.Columns.{program_width, word_width, columns_of}
use Rattle.columns.specs.Rows.{flat}
use Rattle.columns.proofs.Laws.{columns_length}
use Rattle.columns.proofs.Rows.{flat-length}
use Rattle.lines.proofs.Laws.{names-on}
use Rattle.rules.specs.declared.Reply.{Reply}
use Rattle.request.specs.Requests.{Request, request_of}
use Rattle.journal.specs.Journal.{journal_line, journal_room, lines_bytes, written}
use Rattle.journal.proofs.Laws.{lines-length}
use Rattle.linecall.specs.LineCall.{highest_place, Outcome, journal_full, reply_to, lines_for, posted, line_call}
use Rattle.linecall.proofs.Laws.{call_posted}
use Rattle.board.specs.Input.{buffer_length, last_place, first_line, called, board_after, bytes_after, Fed, held, served, feed, fed, finished, flushed}
use Rattle.board.specs.Input.{order_of, ending, order_word, order_line}
use Rattle.board.specs.Parts.{fed-append, fed-flushed}

-- ---- where a line ends

-- the bytes before the first byte 10
line_length : (s : List ℕ) → length (first_line s) ≡ position_or_len (λ x. eqb x 10) s
unfolding first_line
line_length s =
    is_position_or_len (λ (l : List ℕ). length (first_line l)) (λ x. eqb x 10) refl (λ x xs. by_test (eqb x 10) (λ e. rw e) (λ e. rw e (omega arith))) s

line_within : (s : List ℕ) → length (first_line s) ≤ length s
unfolding first_line
line_within [] = omega arith
line_within (x ∷ xs) = let h = line_within xs in by_test (eqb x 10) (λ e. rw e (omega arith)) (λ e. rw e (omega arith))

found_at : (k n m : ℕ) (r : Option ℕ) → k ≡ n → k ≤ m → r ≡ cond (ltb n m) (Some n) None → MatchOption r (k ≡ m) (λ i. (i ≡ k) × (i < m))
found_at k n m r e h er =
    by_test (ltb n m)
    (λ t. let q : r ≡ Some n = rw t at er in rw q (sym e, ltb-true n m t))
    (λ t. let q : r ≡ None = rw t at er in let g : m ≤ n = ltb-false n m t in rw q (omega arith))

pub line_at : (s : List ℕ) (r : Option ℕ) → r ≡ position (λ x. x == 10) s
    → MatchOption r (length (first_line s) ≡ length s) (λ n. (n ≡ length (first_line s)) × (n < length s))
line_at s r e = found_at _ (position_or_len (λ x. eqb x 10) s) (length s) r (line_length s) (line_within s) e

-- ---- the bytes kept

same_part : (part : List ℕ) (n k : ℕ) → n ≡ min (length part) k → take n part ≡ take k part
same_part part n k e = ap (λ (m : ℕ). take m part) (let m : n ≡ min k (length part) = omega arith in m) ∙ take_min k part

-- as many bytes of the part as have room
pub keep_is : (kept part ys : List ℕ) (len n k : ℕ) → ys ≡ take n part → len ≤ cut_line → length kept ≡ cut_line → n ≡ min (length part) (cut_line - len)
    → take (len + n) (put_mid len k kept ys) ≡ take cut_line (take len kept ++ part)
keep_is kept part ys len n k y h f e =
    let l : length (take n part) ≡ n = omega (arith, length-take n part) in
    let p : length (take len kept) ≡ len = omega (arith, length-take len kept) in
    let c : length (take len kept) + (cut_line - len) ≡ cut_line = omega arith in
    ap (λ (x : List ℕ). take (len + n) (put_mid len k kept x)) y
    ∙ take-put_mid len k kept (take n part) (len + n) (omega arith) (omega arith)
    ∙ ap (λ (x : List ℕ). take len kept ++ x) (same_part part n (cut_line - len) e)
    ∙ sym (take-append-add (take len kept) part (cut_line - len))
    ∙ ap (λ (m : ℕ). take m (take len kept ++ part)) c

-- ---- lines with room in the journal

-- the journal up to the new place
posted_bytes : (q : Request) (r : Reply) (journal : List ℕ) (place : ℕ) → place ≤ length journal
    → take (posted q r journal place).place (posted q r journal place).journal ≡ take place journal ++ lines_bytes (lines_for q r)
unfolding posted written
posted_bytes q r journal place h =
    let l : length (take place journal ++ lines_bytes (lines_for q r)) ≡ place + journal_line * length (lines_for q r) =
    omega (arith, length-append (take place journal) (lines_bytes (lines_for q r)), length-take place journal, lines-length (lines_for q r)) in
    take_at (take place journal ++ lines_bytes (lines_for q r)) _ (place + journal_line * length (lines_for q r)) l

module _ (b : Board) (line journal : List ℕ) (place : ℕ) (s : sound b ≡ true) (h : place ≤ last_place) (long : length journal ≡ buffer_length) where
  free : (n : ℕ) → n ≡ buffer_length → journal_full n place ≡ false
  free n e = rw (le-ltb highest_place place (omega arith), le-ltb n (place + journal_room) (omega arith))

  here : line_call b line journal place ≡ posted (request_of line) (reply_to b (request_of line)) journal place
  here = call_posted b line journal place s (free (length journal) long)

  there : called b line ≡ posted (request_of line) (reply_to b (request_of line)) (replicate journal_room 0) 0
  there = call_posted b line (replicate journal_room 0) 0 s refl

  -- the board and the journal after a line call are those of the line that has ended
  pub call-served : (b' : Board) (place' : ℕ) (journal' : List ℕ) → b' ≡ (line_call b line journal place).reply.board
      → place' ≡ (line_call b line journal place).place → journal' ≡ (line_call b line journal place).journal
      → held b' [] (take place' journal') ≡ served (held b line (take place journal))
  unfolding served board_after bytes_after posted
  call-served b' place' journal' eb ep ej =
      let q = request_of line in
      let r = reply_to b q in
      let j = take place journal in
      rw (eb, ep, ej) (ap (λ (o : Outcome). held o.reply.board [] (take o.place o.journal)) here
      ∙ ap (held r.board []) (posted_bytes q r journal place (omega arith))
      ∙ sym (ap (λ (o : Outcome). held o.reply.board [] (j ++ take o.place o.journal)) there
      ∙ ap (λ (l : List ℕ). held r.board [] (j ++ l)) (posted_bytes q r (replicate journal_room 0) 0 (omega arith))))

-- ---- bytes

-- bytes that are cut twice
cut_twice : (n : ℕ) (a b : List ℕ) → take n (take n a ++ b) ≡ take n (a ++ b)
cut_twice zero a b = refl
cut_twice (suc n) [] b = refl
cut_twice (suc n) (x ∷ a) b = ap (λ (l : List ℕ). x ∷ l) (cut_twice n a b)

-- the bytes of a line that does not end
pub fed_part : (b : Board) (line j l : List ℕ) → length line ≤ cut_line → length (first_line l) ≡ length l
    → fed (held b line j) l ≡ held b (take cut_line (line ++ l)) j
unfolding fed feed first_line
fed_part b line j [] h e = rw (append-nil line, take_all cut_line line h)
fed_part b line j (x ∷ l) h e =
    by_test (eqb x 10)
    (λ t.
    let z : 0 ≡ suc (length l) = rw t at e in
    absurd (omega arith))
    (λ t.
    let z : suc (length (first_line l)) ≡ suc (length l) = rw t at e in
    rw t (fed_part b (take cut_line (line ++ (x ∷ []))) j l (omega (arith, length-take cut_line (line ++ (x ∷ [])))) (omega arith)
    ∙ rw (cut_twice cut_line (line ++ (x ∷ [])) l, append_assoc line (x ∷ []) l)))

-- the bytes of a line, and byte 10
pub fed-line : (b : Board) (line j l : List ℕ) (n : ℕ) → length line ≤ cut_line → n ≡ length (first_line l) → n < length l
    → fed (held b line j) (take (suc n) l) ≡ served (held b (take cut_line (line ++ take n l)) j)
unfolding fed feed first_line
fed-line b line j [] n h e k = absurd (omega arith)
fed-line b line j (x ∷ l) n h e k =
    by_test (eqb x 10)
    (λ t.
    let z : n ≡ 0 = rw t at e in
    rw (z, t, append-nil line, take_all cut_line line h))
    (λ t.
    let z : n ≡ suc (length (first_line l)) = rw t at e in
    rw (z, t) (fed-line b (take cut_line (line ++ (x ∷ []))) j l (length (first_line l))
    (omega (arith, length-take cut_line (line ++ (x ∷ [])))) refl (omega arith)
    ∙ rw (cut_twice cut_line (line ++ (x ∷ [])) (take (length (first_line l)) l), append_assoc line (x ∷ []) (take (length (first_line l)) l))))

-- the same in a part of the input, where the line begins at a place
module _ (s : Fed) (b : Board) (line j part : List ℕ) (at : ℕ)
    (short : length line ≤ cut_line) (within : at ≤ length part) (so : held b line j ≡ fed s (take at part)) where
  pub part_ends : length (first_line (drop at part)) ≡ length (drop at part)
      → held b (take cut_line (line ++ drop at part)) j ≡ fed s (take (length part) part)
  part_ends e =
      sym (fed_part b line j (drop at part) short e)
      ∙ ap (λ (t : Fed). fed t (drop at part)) so
      ∙ sym (fed-append s (take at part) (drop at part))
      ∙ ap (fed s) (take-append-drop at part ∙ sym (take-length part))

  pub part_line : (n : ℕ) → n ≡ length (first_line (drop at part)) → n < length (drop at part)
      → served (held b (take cut_line (line ++ take n (drop at part))) j) ≡ fed s (take (at + (n + 1)) part)
  part_line n e h =
      sym (fed-line b line j (drop at part) n short e h)
      ∙ ap (λ (t : Fed). fed t (take (suc n) (drop at part))) so
      ∙ sym (fed-append s (take at part) (take (suc n) (drop at part)))
      ∙ ap (fed s) (sym (take-add at (suc n) part))
      ∙ ap (λ (m : ℕ). fed s (take (at + m) part)) (sym (add-one n))

-- the same, as the program cuts the part
module _ (s : Fed) (b : Board) (line j part : List ℕ) (at : ℕ)
    (short : length line ≤ cut_line) (within : at ≤ length part) (so : held b line j ≡ fed s (take at part)) where
  left : take (length part - at) (drop at part) ≡ drop at part
  left = take_all (length part - at) (drop at part) (omega (arith, length-drop at part))

  pub part_over : (kept : List ℕ) (k : ℕ) → None ≡ position (λ x. x == 10) (take (length part - at) (drop at part))
      → take k kept ≡ take cut_line (line ++ take (length part - at) (drop at part))
      → held b (take k kept) j ≡ fed s (take (length part) part)
  part_over kept k e ek =
      ap (λ (x : List ℕ). held b x j) (ek ∙ ap (λ (x : List ℕ). take cut_line (line ++ x)) left)
      ∙ part_ends s b line j part at short within so (line_at (drop at part) None (e ∙ ap (position (λ x. x == 10)) left))

  pub part_goes_on : (b' : Board) (kept j' : List ℕ) (n m k : ℕ)
      → Some n ≡ position (λ x. x == 10) (take (length part - at) (drop at part)) → m ≡ 0 → k ≡ n
      → held b' [] j' ≡ served (held b (take cut_line (line ++ take k (drop at part))) j)
      → held b' (take m kept) j' ≡ fed s (take (at + (n + 1)) part)
  part_goes_on b' kept j' n m k e em ek es =
      let f : (n ≡ length (first_line (drop at part))) × (n < length (drop at part)) =
      line_at (drop at part) (Some n) (e ∙ ap (position (λ x. x == 10)) left) in
      ap (λ (x : ℕ). held b' (take x kept) j') em
      ∙ es
      ∙ ap (λ (x : ℕ). served (held b (take cut_line (line ++ take x (drop at part))) j)) ek
      ∙ part_line s b line j part at short within so n f.0 f.1

  pub line_within_part : (n : ℕ) → Some n ≡ position (λ x. x == 10) (take (length part - at) (drop at part)) → at + (n + 1) ≤ length part
  line_within_part n e =
      let f : (n ≡ length (first_line (drop at part))) × (n < length (drop at part)) =
      line_at (drop at part) (Some n) (e ∙ ap (position (λ x. x == 10)) left) in
      omega (arith, length-drop at part, f.1)

-- no byte is taken yet, and none was written
pub part_begins : (b : Board) (line journal part : List ℕ) (place : ℕ) → place ≡ 0 → held b line (take place journal) ≡ fed (held b line []) (take 0 part)
unfolding fed
part_begins b line journal part place e = rw e

-- a part of a read is taken, and the journal is written
pub rest_goes_on : (t u v : Fed) (rest : List ℕ) (n : ℕ) → u ≡ fed t (take n rest) → v ≡ flushed u
    → flushed (fed v (drop n rest)) ≡ flushed (fed t rest)
rest_goes_on t u v rest n eu ev =
    ap (λ (w : Fed). flushed (fed w (drop n rest))) ev
    ∙ sym (ap flushed (fed-flushed u (drop n rest)))
    ∙ ap flushed (ap (λ (w : Fed). fed w (drop n rest)) eu
    ∙ sym (fed-append t (take n rest) (drop n rest))
    ∙ ap (fed t) (take-append-drop n rest))

pub rest_done : (t : Fed) (rest : List ℕ) → length rest ≡ 0 → flushed (fed t rest) ≡ flushed t
unfolding fed
rest_done t [] e = refl
rest_done t (x ∷ xs) e = absurd (omega arith)

-- ---- the end of the input

pub last_none : (b : Board) (kept journal : List ℕ) (n place : ℕ) → n ≡ 0 → place ≡ 0
    → held b [] (take place journal) ≡ finished (held b (take n kept) [])
unfolding finished
last_none b kept journal n place e p = rw (e, p)

pub last_some : (b : Board) (kept journal : List ℕ) (n place : ℕ) → n ≢ 0 → n ≤ cut_line → n ≤ length kept → place ≡ 0
    → served (held b (take cut_line (take n kept ++ [])) (take place journal)) ≡ finished (held b (take n kept) [])
unfolding finished
last_some b kept journal n place ne h k p =
    let e : length (take n kept) ≡ n = omega (arith, length-take n kept) in
    rw (p, append-nil (take n kept), take_all cut_line (take n kept) (omega arith), ne_eqb (length (take n kept)) 0 (λ z. ne (sym e ∙ z)))

-- the order after the journal
pub close_is : (s : Fed) (b : Board) (journal last : List ℕ) (place n : ℕ) → place ≤ length journal → n ≤ length last
    → held b [] (take place journal) ≡ finished s → take n last ≡ order_of b
    → take (place + n) (put_mid place (length journal - place) journal last) ≡ ending s
unfolding ending
close_is s b journal last place n h k e o =
    let l : length (take place journal) ≡ place = omega (arith, length-take place journal) in
    ap (λ (m : ℕ). take (m + n) (put_mid place (length journal - place) journal last)) (sym l)
    ∙ take-append-add (take place journal) (last ++ _) n
    ∙ rw (take-append-le n last _ k, o, ← e)

-- ---- the order

module _ (ps : List ℕ) (i : ℕ) where
  -- one name more
  pub names_more : i < length ps → get_or ps i 0 ≢ 0 → names ps ≡ take i ps ++ names (drop i ps)
      → names ps ≡ take (i + 1) ps ++ names (drop (i + 1) ps)
  names_more h ne e =
      e ∙ rw (names-on ps i h ne, add-one i, take-suc ps i 0 h) (sym (append_assoc (take i ps) (get_or ps i 0 ∷ []) (names (drop (suc i) ps))))

  -- no name is left
  pub names-done : (out₀ out : List ℕ) → i ≤ length ps → word_width + program_width * i ≤ length out₀
      → names (drop i ps) ≡ [] → names ps ≡ take i ps ++ names (drop i ps)
      → out ≡ take word_width out₀ ++ flat (columns_of program_width) (take i ps) ++ drop (word_width + program_width * i) out₀
      → take (word_width + program_width * i) out ≡ take word_width out₀ ++ flat (columns_of program_width) (names ps)
  names-done out₀ out h room e k eo =
      let l : length (take i ps) ≡ i = omega (arith, length-take i ps) in
      let f : length (flat (columns_of program_width) (take i ps)) ≡ program_width * i =
      flat-length (columns_of program_width) program_width (columns_length program_width) (take i ps) ∙ ap (λ (n : ℕ). program_width * n) l in
      let p : length (take word_width out₀ ++ flat (columns_of program_width) (take i ps)) ≡ word_width + program_width * i =
      omega (arith, length-append (take word_width out₀) (flat (columns_of program_width) (take i ps)), length-take word_width out₀, f) in
      let n : names ps ≡ take i ps = k ∙ rw e (append-nil (take i ps)) in
      rw (eo, n) (take_at (take word_width out₀ ++ flat (columns_of program_width) (take i ps)) (drop (word_width + program_width * i) out₀)
      (word_width + program_width * i) p)

-- the word, the programs and byte 10
pub order_is : (ps out₀ with-word out : List ℕ) (n : ℕ) → with-word ≡ take word_width order_word ++ drop word_width out₀
    → take n out ≡ take word_width with-word ++ flat (columns_of program_width) (names ps) → n < length out
    → take (n + 1) (set out n 10) ≡ order_line ps
unfolding order_line
order_is ps out₀ with-word out n e k h =
    rw (add-one n, take-suc-set out n 10 h, k, e) (append_assoc order_word (flat (columns_of program_width) (names ps)) (10 ∷ []))
