-- What a command line asks for.
use Rattle.std.specs.Prelude.{◌≡◌, ◌⊎◌, List, []}
use Rattle.clap.specs.Words.{IsAmong, Text, fault_of, subcommand_of}
use Rattle.clap.specs.declared.error.kind.ErrorKind.{ErrorKind}
use Rattle.clap.specs.declared.error.kind.ErrorKind.TheVariants as kind
use Rattle.ir_arguments.specs.Parser.{ir_app}
use Rattle.ir_arguments.specs.Requests.{Request, Help, NoMemory, Nothing}
use Rattle.ir_arguments.specs.Subcommands.{request_by_name}

-- what is asked where clap gives a fault in place of matches: help and the version are texts about the program
abbrev pub request_at_fault : ErrorKind → Request
request_at_fault kind.OutOfMemory = NoMemory
request_at_fault kind.DisplayHelp = Help
request_at_fault kind.DisplayVersion = Help
request_at_fault _ = Nothing

-- this is asked, unless memory ran out
abbrev pub IsOrNoMemory : Request → Request → Type 0
IsOrNoMemory wanted asked = (asked ≡ wanted) ⊎ (asked ≡ NoMemory)

-- clap takes the words, and the subcommand that they name asks for it by its rows
abbrev pub IsOfMatches : List Text → Request → Type 0
IsOfMatches words asked = (fault_of ir_app words ≡ []) × (asked ≡ request_by_name (subcommand_of ir_app words))

-- clap doesn't take the words, and its fault asks for it
pub record IsOfFault (words : List Text) (asked : Request) : Type 0 where
  pub fault : ErrorKind
  pub is_fault : IsAmong fault (fault_of ir_app words)
  pub is_asked : asked ≡ request_at_fault fault

-- what the words ask for, of which the first is the program's name, unless memory ran out
abbrev pub IsAskedBy : List Text → Request → Type 0
IsAskedBy words asked = (asked ≡ NoMemory) ⊎ (IsOfMatches words asked ⊎ IsOfFault words asked)
