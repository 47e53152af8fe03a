-- What the program does by the words of its command line.
use Rattle.std.specs.Prelude.{◌≡◌, ◌≢◌, ℕ, true, List, Option}
use Rattle.ir_arguments.specs.Parsing.{IsAskedBy}
use Rattle.ir_arguments.specs.Views.{request_view}
use Rattle.ir_arguments.specs.declared.asked.Asked.{Asked}
use Rattle.ir_commands.specs.Files.{GoesOn}
use Rattle.ir_commands.specs.Printing.{Paths}
use Rattle.ir_commands.specs.Writing.{Storing}
use Rattle.ir_files.specs.Writers.{Writer}
use Rattle.ir_files.specs.declared.exit_status.ExitStatus.{ExitStatus}
use Rattle.ir_files.specs.declared.exit_status.ExitStatus.TheVariants.{Refused}
use Rattle.ir_program.specs.Doing.{Does}

-- A request was done, by when standard error had taken the first. After that it may say what a refused image is, unless it has failed.
pub record MayExplain (answered : ExitStatus) (told faults : Writer) : Type 0 where
  pub begins : told.before ≡ faults.before
  pub goes_on : GoesOn told.after faults.after
  pub no_more : answered ≢ Refused → told ≡ faults
  pub broken : told.failed ≡ true → told ≡ faults

-- The words, of which the first is the program's name, ask for a request, and it was done: the program ended with this status, had this input left
-- before, and these took what it wrote.
pub record ServesWords (at : Paths) (stored : Storing) (words : List (List ℕ)) (answered : ExitStatus) (input : Option (List ℕ)) (out faults : Writer)
    (unprinted : Type 0) : Type 0 where
  pub asked : Asked
  pub is_asked : IsAskedBy words (request_view asked)
  pub told : Writer
  pub done : Does at stored asked answered input out told unprinted
  pub explained : MayExplain answered told faults
