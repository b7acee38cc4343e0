-- The modes in which a file is claimed and opened, and the one table of those that clash: conflict and holding back are read from it.
-- Assumes nothing.
use Rattle.std.specs.Prelude.{ℕ, ◌≡◌, refl, Bool, true, false, cond, ◌&&◌, ◌||◌}
use Rattle.rules.specs.declared.Mode.{Mode}
use Rattle.rules.specs.declared.Mode.TheVariants.{Write, Read, Inquiry}
use Rattle.files.specs.declared.FileSet.{FileSet}
use Rattle.files.specs.Sets.{member, meets}
use Rattle.rules.specs.declared.Program.{Program}

-- the table: what one program has in the first mode, another cannot have in the second
abbrev pub clashing : Mode → Mode → Bool
clashing Write Write = true
clashing Write Read = true
clashing Write Inquiry = true
clashing Read Write = true
clashing Read Read = false
clashing Read Inquiry = true
clashing Inquiry Write = true
clashing Inquiry Read = true
clashing Inquiry Inquiry = false

-- the two modes are the same
abbrev pub is_mode : Mode → Mode → Bool
is_mode Write Write = true
is_mode Write Read = false
is_mode Write Inquiry = false
is_mode Read Write = false
is_mode Read Read = true
is_mode Read Inquiry = false
is_mode Inquiry Write = false
is_mode Inquiry Read = false
is_mode Inquiry Inquiry = true

-- some mode passes the test
abbrev pub some_mode : (Mode → Bool) → Bool
some_mode t = t Write || t Read || t Inquiry

-- every mode passes the test
abbrev pub each_mode : (Mode → Bool) → Bool
each_mode t = t Write && t Read && t Inquiry

-- a program's claim in a mode: V, Q, J
abbrev pub claim_of : Mode → Program → FileSet
claim_of Write q = q.writable
claim_of Read q = q.readable
claim_of Inquiry q = q.inquirable

-- a program's files that are open in a mode: W, R, I
abbrev pub open_of : Mode → Program → FileSet
open_of Write q = q.writing
open_of Read q = q.reading
open_of Inquiry q = q.inquiring

-- the first set for writing, the second for reading, the third for inquiry
abbrev pub by_mode : FileSet → FileSet → FileSet → Mode → FileSet
by_mode v q j Write = v
by_mode v q j Read = q
by_mode v q j Inquiry = j

-- of two arrangements of files by mode: a set of the first meets a set of the second, in modes that clash
unfoldable pub touching : (Mode → FileSet) → (Mode → FileSet) → Bool
touching s t = some_mode (λ m. some_mode (λ n. clashing m n && meets (s m) (t n)))

-- the table's rows, without its empty places
rows_only : (a b c d e : Bool) → (a || (b || false || c) || (d || e || false)) ≡ (a || (b || c) || (d || e))
rows_only true b c d e = refl
rows_only false true c d e = refl
rows_only false false true d e = refl
rows_only false false false true e = refl
rows_only false false false false true = refl
rows_only false false false false false = refl

-- the same with the table written out: the first writes what the second has in any mode, or it reads what the second writes or has for
-- inquiry, or it has for inquiry what the second writes or reads
pub touching_is : (s t : Mode → FileSet)
    → touching s t
    ≡ ((meets (s Write) (t Write) || meets (s Write) (t Read) || meets (s Write) (t Inquiry))
    || (meets (s Read) (t Write) || meets (s Read) (t Inquiry))
    || (meets (s Inquiry) (t Write) || meets (s Inquiry) (t Read)))
unfolding touching
touching_is s t =
    rows_only (meets (s Write) (t Write) || meets (s Write) (t Read) || meets (s Write) (t Inquiry))
    (meets (s Read) (t Write))
    (meets (s Read) (t Inquiry))
    (meets (s Inquiry) (t Write))
    (meets (s Inquiry) (t Read))

-- two claims share a file
abbrev pub claims_meet : FileSet → FileSet → FileSet → Bool
claims_meet v q j = meets v q || meets v j || meets q j

-- the mode in which q opens the claimed file f
abbrev pub mode_of : Program → ℕ → Mode
mode_of q f = cond (member q.writable f) Write (cond (member q.readable f) Read Inquiry)
