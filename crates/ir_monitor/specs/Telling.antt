-- What is told of a question of a run, and what a writer takes of it.
use Rattle.std.specs.Prelude.{◌≡◌, ◌⊎◌, ℕ, List, [], ◌∷◌, ◌++◌}
use Rattle.ir_files.specs.Writers.{Writer}
use Rattle.ir_files.specs.declared.exit_status.ExitStatus.{ExitStatus}
use Rattle.ir_files.specs.declared.exit_status.ExitStatus.TheVariants as status
use Rattle.ir_past.specs.Answers.{Answered, NotAnswered}
use Rattle.ir_past.specs.Replies.{absent_words}
use Rattle.ir_past.specs.declared.absent.Absent.{Absent}
use Rattle.ir_past.specs.declared.past_err.PastErr.{PastErr}

-- words as a line
abbrev pub said_line : List ℕ → List ℕ
said_line words = words ++ 10 ∷ []

-- the answer to a question of the run, or the line of what the run doesn't have, in the words of the fault that a command reports
abbrev pub IsSaidOf : (ExitStatus → List ℕ → Type 0) → (Absent → Type 0) → List ℕ → Type 0
IsSaidOf IsAnswer IsAbsent text = ((s : ExitStatus) × IsAnswer s text) ⊎ ((what : Absent) × IsAbsent what × (text ≡ said_line (absent_words what)))

-- a writer took such a text, and hasn't failed
abbrev pub HasSaid : (List ℕ → Type 0) → Writer → Type 0
HasSaid IsText = Answered (λ s. IsText) status.Done

-- it didn't take all of such a text: memory ran out before or within it, or the writer failed
abbrev pub HasNotSaid : (List ℕ → Type 0) → PastErr → Writer → Type 0
HasNotSaid IsText = NotAnswered (λ s. IsText)
