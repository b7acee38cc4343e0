-- The output does not depend on how the input is cut into parts, nor on when the journal is written. Assumes nothing.
use Rattle.std.specs.Prelude.{ℕ, ◌≡◌, refl, List, [], ◌∷◌, ◌++◌, eqb, length}
use Rattle.std.proofs.Common.{ap, sym, ◌∙◌, append_assoc, append-nil}
use Rattle.laws.specs.Tests.{by_test}
use Rattle.rules.specs.Boards.{empty_board}
use Rattle.board.specs.Input.{Fed, held, flushed, board_after, bytes_after, served, feed, fed, finished, order_of, ending, output}

-- what is written where the input comes in parts, and the journal is written after each
unfoldable pub in_parts : Fed → List (List ℕ) → List ℕ
in_parts s [] = ending s
in_parts s (part ∷ parts) = (fed s part).journal ++ in_parts (flushed (fed s part)) parts

-- the parts one after another
unfoldable pub joined : List (List ℕ) → List ℕ
joined [] = []
joined (part ∷ parts) = part ++ joined parts

-- bytes do the same however they are cut
pub fed-append : (s : Fed) (a b : List ℕ) → fed s (a ++ b) ≡ fed (fed s a) b
unfolding fed
fed-append s [] b = refl
fed-append s (x ∷ a) b = fed-append (feed s x) a b

-- ---- a journal with other bytes before it

abbrev before : List ℕ → Fed → Fed
before j s = held s.board s.line (j ++ s.journal)

served-before : (j : List ℕ) (s : Fed) → served (before j s) ≡ before j (served s)
unfolding served
served-before j s = ap (held (board_after s.board s.line) []) (append_assoc j s.journal (bytes_after s.board s.line))

feed-before : (j : List ℕ) (s : Fed) (x : ℕ) → feed (before j s) x ≡ before j (feed s x)
unfolding feed
feed-before j s x = by_test (eqb x 10) (λ e. rw e (served-before j s)) (λ e. rw e)

fed-before : (j : List ℕ) (s : Fed) (xs : List ℕ) → fed (before j s) xs ≡ before j (fed s xs)
unfolding fed
fed-before j s [] = refl
fed-before j s (x ∷ xs) = ap (λ (t : Fed). fed t xs) (feed-before j s x) ∙ fed-before j (feed s x) xs

finished-before : (j : List ℕ) (s : Fed) → finished (before j s) ≡ before j (finished s)
unfolding finished
finished-before j s = by_test (eqb (length s.line) 0) (λ e. rw e) (λ e. rw e (served-before j s))

ending-before : (j : List ℕ) (s : Fed) → ending (before j s) ≡ j ++ ending s
unfolding ending
ending-before j s = rw (finished-before j s) (append_assoc j (finished s).journal (order_of (finished s).board))

-- ---- the journal is written in between

-- what bytes add to the journal does not depend on what it held
pub fed-flushed : (s : Fed) (xs : List ℕ) → fed s xs ≡ before s.journal (fed (flushed s) xs)
fed-flushed s xs = ap (λ (j : List ℕ). fed (held s.board s.line j) xs) (sym (append-nil s.journal)) ∙ fed-before s.journal (flushed s) xs

parts_are : (s : Fed) (parts : List (List ℕ)) → in_parts s parts ≡ ending (fed s (joined parts))
unfolding in_parts joined fed
parts_are s [] = refl
parts_are s (part ∷ parts) =
    let t = fed s part in
    ap (λ (l : List ℕ). t.journal ++ l) (parts_are (flushed t) parts)
    ∙ sym (ap ending (fed-append s part (joined parts) ∙ fed-flushed t (joined parts)) ∙ ending-before t.journal (fed (flushed t) (joined parts)))

-- however the input is cut into parts, the same is written
pub same-output : (parts : List (List ℕ)) → in_parts (held empty_board [] []) parts ≡ output (joined parts)
unfolding output
same-output parts = parts_are (held empty_board [] []) parts
