-- What a writer took of a text, and the lines that tell faults.
use Rattle.std.specs.Prelude.{◌≡◌, ℕ, Bool, true, List, [], ◌∷◌, ◌++◌, codes, ◌⊎◌, Option}
use Rattle.std.specs.Io.KnownBytes.{Appends}
use Rattle.ir_stream.specs.Answers.{AppendsPrefix}
use Rattle.ir_files.specs.Shown.{shown}

-- a writer: what it took before and after, and whether it has failed
pub record Writer : Type 0 where
  pub before : Option (List ℕ)
  pub after : Option (List ℕ)
  pub failed : Bool

abbrev pub writer_of : Option (List ℕ) → Option (List ℕ) → Bool → Writer
writer_of before after failed = record { before = before; after = after; failed = failed }

-- it took the text
abbrev pub Took : Writer → List ℕ → Type 0
Took w text = Appends w.before w.after text

-- it failed, and took no more than a prefix of the text
abbrev pub Failed : Writer → List ℕ → Type 0
Failed w text = AppendsPrefix w.before w.after text × (w.failed ≡ true)

-- it took the text, or failed in it
abbrev pub Reports : Writer → List ℕ → Type 0
Reports w text = Took w text ⊎ Failed w text

-- the line that reports a fault in words
abbrev pub fault_text : List ℕ → List ℕ
fault_text words = codes "ir: " ++ (words ++ 10 ∷ [])

-- a fault of a named thing in words: the name, and why it failed, without control characters
abbrev pub named_fault : List ℕ → List ℕ → List ℕ → List ℕ → List ℕ
named_fault before name what why = before ++ (shown name ++ (what ++ shown why))
