-- A journal line as five numbers (that of its word, program, file, refusal, record), and the array of the lines of a call, which is lent.
-- Assumes nothing.
use Rattle.std.specs.Prelude.{ℕ, List, [], ◌∷◌, map, get_or, replicate}
use Rattle.laws.specs.Tables.{IsTable}
use Rattle.rules.specs.declared.Word.{Word}
use Rattle.rules.specs.declared.Line.{Line}

-- ---- words

-- the number of each word
abbrev pub word_number : Word → ℕ
word_number Word.Admit = 0
word_number Word.Held = 1
word_number Word.Given = 2
word_number Word.Wait = 3
word_number Word.Unsafe = 4
word_number Word.Done = 5
word_number Word.Favour = 6
word_number Word.Refuse = 7

-- the words before the last, by their numbers
abbrev pub words : List Word
words = Word.Admit ∷ Word.Held ∷ Word.Given ∷ Word.Wait ∷ Word.Unsafe ∷ Word.Done ∷ Word.Favour ∷ []

-- the word with a number: REFUSE from 7 on
abbrev pub word_numbered : ℕ → Word
word_numbered n = get_or words n Word.Refuse

-- ---- lines

-- a line as five numbers
abbrev pub entry_of : Line → List ℕ
entry_of l = word_number l.word ∷ l.program ∷ l.file ∷ l.refusal ∷ l.item ∷ []

-- the line in five numbers
abbrev pub line_in : List ℕ → Line
line_in e = record { word = word_numbered (get_or e 0 0); program = get_or e 1 0; file = get_or e 2 0; refusal = get_or e 3 0; item = get_or e 4 0 }

-- ---- the array of a call's lines

abbrev pub Entries : Type 0
Entries = List (List ℕ)

-- 32 places, and five numbers in each
abbrev pub IsEntries : Entries → Type 0
IsEntries e = IsTable 32 5 e

-- the lines in it
abbrev pub lines_in : Entries → List Line
lines_in e = map line_in e

-- zeros in all places
abbrev pub no_entries : Entries
no_entries = replicate 32 (replicate 5 0)
