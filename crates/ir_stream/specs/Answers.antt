-- A machine that answers lines, one after the other.
use Rattle.std.specs.Prelude.{◌≡◌, ℕ, Bool, true, false, List, [], ◌∷◌, ◌++◌, if◌then◌else◌, length, nat_lt, Ok, Err, ◌≤◌, ◌==◌, take}
use Rattle.std.specs.declared.option.Option.{Option}
use Rattle.std.specs.Io.KnownBytes.{Appends, Consumes}
use Rattle.std.specs.declared.result.Result.{Result}
use Rattle.ir_stream.specs.declared.serving.Served.{Served}
use Rattle.ir_stream.specs.declared.serving.Served.TheVariants.{Quit, InputEnd}
use Rattle.ir_stream.specs.declared.serving.Fault.{Fault}
use Rattle.ir_stream.specs.declared.serving.Fault.TheVariants.{TooLong}

-- what a machine may do: in the first state it may answer the line by the text, and is then in the second state
abbrev pub Replying : Type 0 → Type 1
Replying S = S → List ℕ → List ℕ → S → Type 0

-- from state s the machine may answer the lines in turn: text is its answers joined, last its state after them
unfoldable pub LinesAnswered : {S : Type 0} → Replying S → S → List (List ℕ) → List ℕ → S → Type 0
LinesAnswered R s [] text last = (text ≡ []) × (last ≡ s)
LinesAnswered {S} R s (l ∷ ls) text last = (first : List ℕ) × (next : S) × (rest : List ℕ) × R s l first next × LinesAnswered R next ls rest last
    × (text ≡ first ++ rest)

-- known bytes grow by a prefix of the text
pub record AppendsPrefix (old new : Option (List ℕ)) (text : List ℕ) : Type 0 where
  pub part : List ℕ
  pub more : List ℕ
  pub splits : text ≡ part ++ more
  pub grown : Appends old new part

-- the machine may answer a line so that the writer took a prefix of the answer
pub record RepliedPrefix {S : Type 0} (R : Replying S) (s : S) (line : List ℕ) (old new : Option (List ℕ)) : Type 0 where
  pub text : List ℕ
  pub next : S
  pub is : R s line text next
  pub grown : AppendsPrefix old new text

-- the lines up to and with the first that quits
unfoldable pub through : (List ℕ → Bool) → List (List ℕ) → List (List ℕ)
through quits [] = []
through quits (l ∷ ls) = l ∷ (if quits l then [] else through quits ls)

-- whether one of the lines quits
unfoldable pub some_quits : (List ℕ → Bool) → List (List ℕ) → Bool
some_quits quits [] = false
some_quits quits (l ∷ ls) = if quits l then true else some_quits quits ls

-- whole lines, without their line feeds, and the bytes after the last line feed
pub record SplitBytes : Type 0 where
  pub whole : List (List ℕ)
  pub rest : List ℕ

-- a byte put before the first line
abbrev pub onto : ℕ → List (List ℕ) → List ℕ → SplitBytes
onto b [] r = record { whole = []; rest = b ∷ r }
onto b (l ∷ ls) r = record { whole = (b ∷ l) ∷ ls; rest = r }

-- the whole lines of the bytes, and what comes after the last line feed
unfoldable pub split_lines : List ℕ → SplitBytes
split_lines [] = record { whole = []; rest = [] }
split_lines (b ∷ bytes) =
    if b == 10 then record { whole = [] ∷ (split_lines bytes).whole; rest = (split_lines bytes).rest } else onto b (split_lines bytes).whole (split_lines bytes).rest

-- what an input ends in is a line if it isn't empty
abbrev pub last_line : List ℕ → List (List ℕ)
last_line [] = []
last_line (b ∷ bytes) = (b ∷ bytes) ∷ []

-- the lines of a whole input
abbrev pub lines_of : List ℕ → List (List ℕ)
lines_of input = (split_lines input).whole ++ last_line (split_lines input).rest

-- the lines that count: all where the input is shorter than the limit, else those that are whole within it
abbrev pub heard : ℕ → List ℕ → List (List ℕ)
heard limit input = if nat_lt (length input) limit then lines_of input else (split_lines (take limit input)).whole

-- how reading the lines of the input ends where no device fails
abbrev pub ends : (List ℕ → Bool) → ℕ → List ℕ → Result Served Fault
ends quits limit input = if some_quits quits (heard limit input) then Ok Quit else if nat_lt (length input) limit then Ok InputEnd else Err TooLong

-- the bytes that were read, at most limit, and what holds of them
pub record ReadsUpTo (limit : ℕ) (old new : Option (List ℕ)) (P : List ℕ → Type 0) : Type 0 where
  pub consumed : List ℕ
  pub taken : Consumes old new consumed
  pub within : length consumed ≤ limit
  pub holds : P consumed
