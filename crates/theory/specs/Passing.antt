-- Waiting programs and those admitted after them (02, CR 5, and CR 7 for records): what is said of every list of calls, `FewPass`, `FewLeave`
-- and `RecordByCount`, from the list and its answers. `few_pass`, `few_leave` and `record_by_count` of PassingProof prove it.
-- Assumes nothing.
use Rattle.std.specs.Prelude.{ℕ, ◌+◌, ◌≤◌, ◌≡◌, ◌≢◌, true, List, [], ◌∷◌, ◌++◌, length}
use Rattle.rules.specs.declared.Standing.{Standing}
use Rattle.laws.specs.Lists.{without}
use Rattle.rules.specs.Boards.{is_waiting, at, passed_by, admitted}
use Rattle.rules.specs.Replies.{lines_of, admits}
use Rattle.rules.specs.Calls.{Call}
use Rattle.rules.specs.Worked.{worked}
use Rattle.theory.specs.Programs.{Is}
use Rattle.theory.specs.Demand3.{reply_after, Waits, AsksFor, Favours, leaves_in}

-- ══ The words ══

-- The number of programs that the calls ys, which come after the calls xs, admitted: their ADMIT lines, that of an ADMIT answer among them.
unfoldable pub admissions_in : List Call → List Call → ℕ
admissions_in xs [] = 0
admissions_in xs (c ∷ ys) = admits (lines_of (reply_after xs c)) + admissions_in (xs ++ (c ∷ [])) ys

-- The number of programs other than p admitted after the calls xs.
abbrev pub others_after : List Call → ℕ → ℕ
others_after xs p = length (without p (admitted (worked xs)))

-- "one wait": p began to wait by the open or the fetch c after the calls xs, and waited on through each of the calls ys that followed.
pub record WaitsThrough (xs : List Call) (c : Call) (p : ℕ) (ys : List Call) : Type 0 where
  pub file : ℕ
  pub item : ℕ
  pub asks : AsksFor c p file item
  pub began : Waits (reply_after xs c).answer
  pub lasted : (us vs : List Call) → ys ≡ us ++ vs → is_waiting (at (worked (xs ++ (c ∷ us))) p).standing ≡ true

-- p waits after the calls cs: the open or the fetch by which it began to wait, and how many have passed it. "Waits for a record count under
-- CR 5".
pub record WaitingSince (cs : List Call) (p : ℕ) : Type 0 where
  pub before : List Call
  pub call : Call
  pub after : List Call
  pub split : cs ≡ before ++ (call ∷ after)
  pub wait : WaitsThrough before call p after
  pub awaits : (at (worked cs) p).standing ≡ Standing.Waiting wait.file
  pub awaits_item : (at (worked cs) p).item ≡ wait.item
  -- "no waiter has been passed by more than 8 admissions"
  pub few : admissions_in (before ++ (call ∷ [])) after ≤ 8
  -- "a count of its own, of programs admitted since it began to wait"
  pub count : passed_by (worked cs) p ≡ admissions_in (before ++ (call ∷ [])) after

-- ══ The sentences ══

-- "After every list of calls, no waiter has been passed by more than 8 admissions."
abbrev pub FewPass : List Call → Type 0
FewPass cs = (p : ℕ) → Is p → is_waiting (at (worked cs) p).standing ≡ true → WaitingSince cs p

-- "Others' leaves and the cancels of other admitted programs during one wait number at most 8 more than the other admitted programs at its
-- start." The wait of p began with the call c, lasted through the calls ys, and may have ended with the call d, which is counted too.
-- (leaves_in p counts accepted leaves, none of them of p, which waits, and accepted cancels of admitted programs but p.)
abbrev pub FewLeave : List Call → Type 0
FewLeave cs = (xs ys zs : List Call) (c d : Call) (p : ℕ) → cs ≡ xs ++ (c ∷ (ys ++ (d ∷ zs))) → WaitsThrough xs c p ys
    → leaves_in p (xs ++ (c ∷ [])) (ys ++ (d ∷ [])) ≤ 8 + others_after (xs ++ (c ∷ [])) p

-- Waits for a record "are never favoured for want of an order": a call that favours p, which waits for a record, does so on its count.
abbrev pub RecordByCount : List Call → Type 0
RecordByCount cs = (xs ys : List Call) (c : Call) (p f r : ℕ) → cs ≡ xs ++ (c ∷ ys) → Favours xs c p f r → r ≢ 0
    → passed_by (worked (xs ++ (c ∷ []))) p ≡ 8
