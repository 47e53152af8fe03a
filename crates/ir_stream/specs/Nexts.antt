-- What a reader gives next.
use Rattle.std.specs.Prelude.{ℕ, Bool, true, List, [], ◌∷◌}
use Rattle.std.specs.declared.option.Option.{Option}
use Rattle.std.specs.Io.KnownBytes.{Keeps, Consumes, IsAtEnd}
use Rattle.ir_stream.specs.declared.serving.Next.{Next}
use Rattle.ir_stream.specs.declared.serving.Next.TheVariants.{Byte, End, Failed}

-- one byte is gone, or none was left, or the reader failed and keeps its bytes
abbrev pub IsNext : Next → Option (List ℕ) → Option (List ℕ) → Type 0
IsNext (Byte b) old new = Consumes old new (b ∷ [])
IsNext End old new = Consumes old new [] × IsAtEnd new
IsNext Failed old new = Keeps old new

-- only a failed read breaks the reader
abbrev pub broken_after : Next → Bool → Bool
broken_after (Byte b) old = old
broken_after End old = old
broken_after Failed old = true
