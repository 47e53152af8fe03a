-- What assembling a file gives: the bytes of its image, or the line that reports its first fault, and the one that explains it.
use Rattle.std.specs.Prelude.{◌≡◌, ◌⊎◌, ◌==◌, ◌&&◌, ℕ, ◌-◌, nat_lt, nat_le, List, [], ◌∷◌, ◌++◌, codes, map, take, get_or, decimal, Option, Some, None, Result, Ok, Err, if◌then◌else◌}
use Rattle.ir_image.specs.Guest.{Guest}
use Rattle.ir_image.specs.Encoding.{encoding}
use Rattle.ir_asm.specs.declared.cause.Cause.{Cause}
use Rattle.ir_asm.specs.declared.cause.Cause.TheVariants.{BadByte, UnknownStatement, WrongOperands, UnknownRegister, BadNumber, LabelTwice}
use Rattle.ir_asm.specs.declared.cause.Cause.TheVariants.{LabelMissing, TooFar, WrongSection, BadSize, BadCount, BadLabel}
use Rattle.ir_asm.specs.Causes.{number_of_cause}
use Rattle.ir_asm.specs.Source.{Fault, source_lines}
use Rattle.ir_asm.specs.Passes.{assembled}
use Rattle.ir_files.specs.Writers.{Writer, Failed}

-- a byte above 0x7E, which no source may hold, as the byte 1, which none may hold either
abbrev pub masked : ℕ → ℕ
masked b = if nat_lt 126 b then 1 else b

-- the bytes of a guest, or the fault
abbrev pub spelled : Result Guest Fault → Result (List ℕ) Fault
spelled (Ok g) = Ok (encoding g)
spelled (Err fault) = Err fault

-- the bytes of the image of a source, or its first fault
abbrev pub image_bytes : List ℕ → Result (List ℕ) Fault
image_bytes source = spelled (assembled (map masked source))

-- the line that reports a fault
abbrev pub fault_line : Fault → List ℕ
fault_line fault = codes "line " ++ (decimal fault.line ++ (codes " error " ++ (decimal (number_of_cause fault.cause) ++ 10 ∷ [])))

-- a cause in words
abbrev pub cause_words : Cause → List ℕ
cause_words BadByte = codes "a byte that a source may not hold"
cause_words UnknownStatement = codes "an unknown instruction or directive"
cause_words WrongOperands = codes "a wrong number or form of operands"
cause_words UnknownRegister = codes "an unknown register"
cause_words BadNumber = codes "a malformed number or one out of range"
cause_words LabelTwice = codes "a label defined twice"
cause_words LabelMissing = codes "an undefined label"
cause_words TooFar = codes "a label that is too far away"
cause_words WrongSection = codes "a statement or label of the wrong section, or `.large` after a statement"
cause_words BadSize = codes "too much code or data, or no code"
cause_words BadCount = codes "too many threads, or no such object"
cause_words BadLabel = codes "a malformed label"

-- the most bytes of a line that are shown
abbrev pub most_shown : ℕ
most_shown = 200

-- a byte as it is shown: a tab as a space, one that isn't printable as a question mark
abbrev pub shown_fault : ℕ → ℕ
shown_fault b = if b == 9 then 32 else (if nat_le 32 b && nat_le b 126 then b else 63)

-- the line of a text that has this number, counted from 1; nothing where there is none
abbrev pub source_line_at : List ℕ → ℕ → List ℕ
source_line_at text number = get_or (source_lines text) (number - 1) []

-- as much of the line as is shown, as it is shown
abbrev pub shown_line : List ℕ → ℕ → List ℕ
shown_line text number = map shown_fault (take most_shown (source_line_at text number))

-- what follows the cause: the line, if anything of it is shown
abbrev pub after_cause : List ℕ → List ℕ
after_cause [] = []
after_cause (b ∷ line) = codes ": " ++ (b ∷ line)

-- the line that explains a fault of a text in the file of this name
abbrev pub explaining_line : List ℕ → List ℕ → Fault → List ℕ
explaining_line name text fault =
    name ++ (codes ":" ++ (decimal fault.line ++ (codes ": " ++ (cause_words fault.cause ++ (after_cause (shown_line text fault.line) ++ 10 ∷ [])))))

-- what reports a fault of a text: its line, and where the file's name is given the line that explains it
abbrev pub report : Option (List ℕ) → List ℕ → Fault → List ℕ
report None text fault = fault_line fault
report (Some name) text fault = fault_line fault ++ explaining_line name text fault

-- what is left if neither the whole image nor the whole report of a fault was written. Memory ran out, and nothing was; or the
-- writer that is concerned failed, of the image or of faults, and the other is as it was
abbrev pub StopsAssembling : Option (List ℕ) → List ℕ → Writer → Type 0 → Writer → Type 0 → Type 0
StopsAssembling name source image image_same faults faults_same =
    (image_same × faults_same)
    ⊎ ((bytes : List ℕ) × (image_bytes source ≡ Ok bytes) × Failed image bytes × faults_same)
    ⊎ ((fault : Fault) × (image_bytes source ≡ Err fault) × Failed faults (report name (map masked source) fault) × image_same)
