-- What a machine that answers lines has written.
use Rattle.std.specs.Prelude.{◌≡◌, ℕ, List, [], ◌∷◌, ◌++◌}
use Rattle.std.specs.declared.option.Option.{Option}
use Rattle.std.specs.Io.KnownBytes.{Appends}
use Rattle.ir_stream.specs.Answers.{RepliedPrefix, Replying, LinesAnswered, SplitBytes}

-- the machine answered the lines, and the writer took the answers
pub record Wrote {S : Type 0} (R : Replying S) (s : S) (lines : List (List ℕ)) (old new : Option (List ℕ)) : Type 0 where
  pub text : List ℕ
  pub last : S
  pub answered : LinesAnswered R s lines text last
  pub grown : Appends old new text

-- the machine answered a line and is then the second, and the writer took the answer
pub record Replied {S : Type 0} (R : Replying S) (s : S) (line : List ℕ) (next : S) (old new : Option (List ℕ)) : Type 0 where
  pub text : List ℕ
  pub is : R s line text next
  pub grown : Appends old new text

-- the writer took the answers to all lines but the last, and a prefix of what the machine may answer to that one
pub record WroteInPart {S : Type 0} (R : Replying S) (s : S) (lines : List (List ℕ)) (old new : Option (List ℕ)) : Type 0 where
  pub before : List (List ℕ)
  pub line : List ℕ
  pub are : lines ≡ before ++ line ∷ []
  pub between : Option (List ℕ)
  pub all : Wrote R s before old between
  pub part : RepliedPrefix R all.last line between new

-- how many bytes of a line are kept: one more than the longest line that is answered as one
abbrev pub most_kept_bytes : ℕ
most_kept_bytes = 1025

abbrev pub split_of : List (List ℕ) → List ℕ → SplitBytes
split_of lines bytes = record { whole = lines; rest = bytes }
