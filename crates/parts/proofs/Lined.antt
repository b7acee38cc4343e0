-- Lines read from the array they were written to.
-- Assumes nothing.
use Prim.Native.Nat.{ℕ, zero, suc}
use mathlib.Core.Path.{◌≡◌, refl, ap, ◌∙◌}
use mathlib.Core.List.{List, [], ◌∷◌, map}
use lib.ListN.{length, set, replicate, length-map}
use Rattle.laws.specs.Lists.{padded}
use Rattle.laws.specs.Tables.{fresh-table}
use Rattle.rules.specs.declared.Word.{Word}
use Rattle.rules.specs.declared.Line.{Line}
use Rattle.rules.specs.Replies.{blank}
use Rattle.parts.specs.Entries.{word_number, word_numbered, entry_of, line_in, lines_in, Entries, IsEntries, no_entries}

-- the word with a word's number is that word
pub word_number_lem : (w : Word) → word_numbered (word_number w) ≡ w
word_number_lem Word.Admit = refl
word_number_lem Word.Held = refl
word_number_lem Word.Given = refl
word_number_lem Word.Wait = refl
word_number_lem Word.Unsafe = refl
word_number_lem Word.Done = refl
word_number_lem Word.Favour = refl
word_number_lem Word.Refuse = refl

-- the line in a line's numbers is that line
pub line-entry : (l : Line) → line_in (entry_of l) ≡ l
line-entry l = ap (λ (w : Word). record { word = w; program = l.program; file = l.file; refusal = l.refusal; item = l.item }) (word_number_lem l.word)

-- a map of a list with one element changed
map-set : {A B : Type 0} (f : A → B) (xs : List A) (k : ℕ) (x : A) → map f (set xs k x) ≡ set (map f xs) k (f x)
map-set f [] k x = refl
map-set f (y ∷ xs) zero x = refl
map-set {B = B} f (y ∷ xs) (suc k) x = ap (λ (zs : List B). f y ∷ zs) (map-set f xs k x)

-- a line is put in a place
pub lines-set : (e : Entries) (k : ℕ) (l : Line) → lines_in (set e k (entry_of l)) ≡ set (lines_in e) k l
lines-set e k l = map-set line_in e k (entry_of l) ∙ ap (λ (x : Line). set (lines_in e) k x) (line-entry l)

pub length-lines : (e : Entries) → length (lines_in e) ≡ length e
length-lines e = length-map e line_in

-- ---- the array of no lines

pub fresh_entries : IsEntries no_entries
fresh_entries = fresh-table 32 5

pub no_lines : lines_in no_entries ≡ replicate 32 blank
no_lines = refl

pub no_lines_padded : lines_in no_entries ≡ padded blank []
unfolding padded
no_lines_padded = refl
