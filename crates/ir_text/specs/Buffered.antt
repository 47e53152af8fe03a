-- Texts that are written by one buffer.
use Rattle.std.specs.Prelude.{◌≡◌, ℕ, List, ◌++◌}
use Rattle.std.specs.declared.option.Option.{Option}
use Rattle.std.specs.Io.KnownBytes.{Appends}

-- a first part of the text was written, and the rest is left
pub record Buffered (old new : Option (List ℕ)) (rest text : List ℕ) : Type 0 where
  pub part : List ℕ
  pub written : Appends old new part
  pub others : part ++ rest ≡ text
