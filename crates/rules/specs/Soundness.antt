-- "A sound board", clause by clause.
-- Assumes nothing.
use Rattle.std.specs.Prelude.{ℕ, ◌+◌, Bool, true, false, not, cond, ◌&&◌, ◌||◌, List, eqb, leb, length}
use Rattle.rules.specs.declared.Standing.{Standing}
use Rattle.rules.specs.declared.Program.{Program}
use Rattle.rules.specs.declared.Board.{Board}
use Rattle.laws.specs.Lists.{any, all, found, listed, distinct, same, names, padded}
use Rattle.files.specs.Sets.{member, within, is_empty}
use Rattle.rules.specs.Modes.{each_mode, claim_of, open_of, claims_meet}
use Rattle.rules.specs.Boards.{is_program, everyone, at, awaited, passed_by, admitted, is_waiting, is_held, claims, has_open, uses, wants}
use Rattle.rules.specs.Orders.{conflict, carried, can_give}

-- ---- each program

-- W is within V, R within Q, I within J; no two of V, Q and J share a file
unfoldable pub sets_sound : Program → Bool
sets_sound q = each_mode (λ m. within (open_of m q) (claim_of m q)) && not (claims_meet q.writable q.readable q.inquirable)

-- absent programs have empty sets, held ones nothing open
unfoldable pub standing_sound : Standing → Program → Bool
standing_sound Standing.Absent q = each_mode (λ m. is_empty (claim_of m q)) && each_mode (λ m. is_empty (open_of m q))
standing_sound Standing.Running q = true
standing_sound (Standing.Waiting f) q = true
standing_sound Standing.Held q = each_mode (λ m. is_empty (open_of m q))

-- who may have a record: it runs, or waits for the record's file
unfoldable pub may_have : Standing → Program → Bool
may_have Standing.Absent q = false
may_have Standing.Running q = true
may_have (Standing.Waiting f) q = eqb f q.file
may_have Standing.Held q = false

-- "both have their file in I", and a program without a record has no file of one
unfoldable pub item_sound : Program → Bool
item_sound q = cond (eqb q.item 0) (eqb q.file 0) (member q.inquiring q.file && may_have q.standing q)

-- what is said of a program by itself
unfoldable pub program_sound : Program → Bool
program_sound q = sets_sound q && standing_sound q.standing q && item_sound q

-- ---- the board

-- no two different programs conflict
unfoldable pub no_conflict : Board → Bool
no_conflict b = all (λ i. all (λ j. eqb i j || not (conflict (at b i) (at b j))) everyone) everyone

-- the line names each program that passes the test once, and nobody else, and is then 0
unfoldable pub line_sound : List ℕ → (ℕ → Bool) → Bool
line_sound l t =
    all (λ p. is_program p && t p) (names l)
    && all (λ p. not (t p) || listed p (names l)) everyone
    && distinct (names l)
    && same l (padded 0 (names l))

-- the waiter's file is claimed, not open by it, and can't be given now; "covers file waits only"
unfoldable pub waiter_sound : Board → ℕ → ℕ → Bool
waiter_sound b p f = not (eqb (at b p).item 0) || (claims (at b p) f && not (has_open (at b p) f) && not (can_give b p f))

-- "records in use differ": j doesn't use the record that i uses
unfoldable pub uses_differ : Board → Bool
uses_differ b =
    all (λ i. not (uses (at b i) (at b i).file (at b i).item)
    || all (λ j. eqb i j || not (uses (at b j) (at b i).file (at b i).item)) everyone) everyone

-- "an awaited record is in use"
unfoldable pub awaited_in_use : Board → Bool
awaited_in_use b =
    all (λ p. not (wants (at b p) (at b p).file (at b p).item) || any (λ i. uses (at b i) (at b p).file (at b p).item) everyone) everyone

-- nobody favoured: nobody held, and both numbers 0
unfoldable pub none_favoured : Board → Bool
none_favoured b = not (any (λ p. is_held (at b p).standing) everyone) && eqb b.initial 0 && eqb b.leaves 0

-- the favoured program is waiting; leaves plus admitted equal the number at favouring, which is at most 32
unfoldable pub some_favoured : Board → Bool
some_favoured b =
    is_program b.favoured
    && is_waiting (at b b.favoured).standing
    && eqb (b.leaves + length (admitted b)) b.initial
    && leb b.initial 32

-- "no count above 8, and 0 for all who aren't waiting"
unfoldable pub count_sound : Board → ℕ → Bool
count_sound b p = leb (passed_by b p) 8 && (is_waiting (at b p).standing || eqb (passed_by b p) 0)

-- sets as above; no conflict; a completion order exists; the two lines; the waiters; the favoured program; the counts; the records
unfoldable pub sound : Board → Bool
sound b =
    all (λ p. program_sound (at b p)) everyone
    && no_conflict b
    && found (carried b)
    && line_sound b.waiting (λ p. is_waiting (at b p).standing)
    && line_sound b.entry (λ p. is_held (at b p).standing)
    && all (λ p. waiter_sound b p (awaited b p)) (names b.waiting)
    && cond (eqb b.favoured 0) (none_favoured b) (some_favoured b)
    && all (count_sound b) everyone
    && uses_differ b
    && awaited_in_use b
