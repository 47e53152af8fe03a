-- What taking a line does to the bytes that a reader has left.
use Rattle.std.specs.Prelude.{◌≡◌, ◌⊎◌, ℕ, Bool, true, false, List, ⊤, Option, Some, None, IfSome}
use Rattle.std.specs.List.{AllByRecursion}
use Rattle.std.specs.Io.KnownBytes.{Consumes}
use Rattle.ir_program.specs.Bundle.{is_feed, line_of, after_line, bytes_of_line}
use Rattle.ir_program.specs.declared.fault.ProgramErr.{ProgramErr}
use Rattle.ir_program.specs.declared.fault.ProgramErr.TheVariants.{BadLine, NoMem, Read, Write, TooLong}

-- the first line is gone, where the bytes are known
abbrev pub TakesLine : Option (List ℕ) → Option (List ℕ) → List ℕ → Type 0
TakesLine None new line = ⊤
TakesLine (Some xs) None line = ⊥
TakesLine (Some xs) (Some ys) line = (line ≡ line_of xs) × (ys ≡ after_line xs)

-- the first line is gone, and wrote these bytes in hexadecimal digits
pub record TakesBytes (old new : Option (List ℕ)) (bytes : List ℕ) : Type 0 where
  pub line : List ℕ
  pub taken : TakesLine old new line
  pub wrote : bytes_of_line line ≡ Some bytes

-- bytes without a line feed
abbrev pub IsPlainLine : List ℕ → Type 0
IsPlainLine bytes = AllByRecursion (λ b. is_feed b ≡ false) bytes

-- a reader: the bytes that it had left before and after, and whether it has failed
pub record TakenReader : Type 0 where
  pub before : Option (List ℕ)
  pub after : Option (List ℕ)
  pub failed : Bool

abbrev pub reader_of : Option (List ℕ) → Option (List ℕ) → Bool → TakenReader
reader_of before after failed = record { before = before; after = after; failed = failed }

-- no line feed was read
abbrev pub IsInLine : Option (List ℕ) → Option (List ℕ) → Type 0
IsInLine old new = (part : List ℕ) × IsPlainLine part × Consumes old new part

-- neither the line of the image nor that of the trace was read whole
abbrev pub IsInLines : Option (List ℕ) → Option (List ℕ) → Type 0
IsInLines old new = IsInLine old new ⊎ ((image : List ℕ) × (rest : Option (List ℕ)) × TakesBytes old rest image × IsInLine rest new)

-- a line that is no text in hexadecimal, by its fault
abbrev pub GivesNone : ProgramErr → List ℕ → Type 0
GivesNone BadLine line = bytes_of_line line ≡ None
GivesNone NoMem line = ⊤
GivesNone Read line = ⊥
GivesNone Write line = ⊥
GivesNone TooLong line = ⊥

-- what taking a line leaves that gives no bytes
abbrev pub LineFails : ProgramErr → TakenReader → Type 0
LineFails BadLine reader = IfSome reader.before (λ input. bytes_of_line (line_of input) ≡ None) × (reader.failed ≡ false)
LineFails NoMem reader = reader.failed ≡ false
LineFails Read reader = (reader.failed ≡ true) × IsInLine reader.before reader.after
LineFails Write reader = ⊥
LineFails TooLong reader = ⊥
