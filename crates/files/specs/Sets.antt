-- Sets of files, as sets of the numbers 1 to 64. What each definition means by members is stated in proofs/Laws.antt.
-- Assumes nothing.
use Rattle.std.specs.Prelude.{ℕ, ◌<◌, ◌^◌, Bool, eqb}
use Rattle.files.specs.Bits.{is_number, has_number, with_number, without_number, share, covers}
use Rattle.files.specs.declared.FileSet.{FileSet}

-- "files 1 to 64"
abbrev pub is_file : ℕ → Bool
is_file f = is_number 64 f

abbrev pub no_files : FileSet
no_files = record { bits = 0 }

-- f is in s
abbrev pub member : FileSet → ℕ → Bool
member s f = has_number 64 s.bits f

-- s and f
abbrev pub adding : FileSet → ℕ → FileSet
adding s f = record { bits = with_number 64 s.bits f }

-- s but f
abbrev pub removing : FileSet → ℕ → FileSet
removing s f = record { bits = without_number 64 s.bits f }

-- the sets have a file in common
abbrev pub meets : FileSet → FileSet → Bool
meets a b = share a.bits b.bits

-- every file of a is in b
abbrev pub within : FileSet → FileSet → Bool
within a b = covers a.bits b.bits

-- no file is in s
abbrev pub is_empty : FileSet → Bool
is_empty s = eqb s.bits 0

-- the set has no bit but those of the files 1 to 64, as every set of the code
abbrev pub OfFiles : FileSet → Type 0
OfFiles s = s.bits < 2 ^ 64
