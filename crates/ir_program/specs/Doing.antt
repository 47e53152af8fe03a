-- What the program does for a request, by the bytes that a folder says are at the paths of its arguments.
use Rattle.std.specs.Prelude.{◌≡◌, ◌≢◌, ◌⊎◌, ℕ, List, Option, Ok}
use Rattle.ir_files.specs.Writers.{Writer, Took, Failed}
use Rattle.ir_files.specs.declared.exit_status.ExitStatus.{ExitStatus}
use Rattle.ir_files.specs.declared.exit_status.ExitStatus.TheVariants as status
use Rattle.ir_debug.specs.declared.ended.Ended.{Ended}
use Rattle.ir_arguments.specs.declared.asked.Asked.{Asked}
use Rattle.ir_arguments.specs.declared.asked.Asked.TheVariants as asked
use Rattle.ir_arguments.specs.declared.asked.Explored.{Explored}
use Rattle.ir_arguments.specs.declared.asked.Explored.TheVariants as explored
use Rattle.ir_arguments.specs.declared.asked.Make.{Make}
use Rattle.ir_arguments.specs.declared.asked.Make.TheVariants as made
use Rattle.ir_arguments.specs.declared.asked.Print.{Print}
use Rattle.ir_arguments.specs.declared.asked.Print.TheVariants as printed
use Rattle.ir_arguments.specs.declared.debug.DebugArguments.{DebugArguments}
use Rattle.std.specs.String.{string_bytes}
use Rattle.ir_commands.specs.Exploring.{Compares, Explores, ExploresClasses, IsStatusOfNoClasses, IsStatusOfNoComparison}
use Rattle.ir_commands.specs.Files.{IsStatusOfNone, IsUnread, OfImageAndTrace, TellsFault}
use Rattle.ir_commands.specs.Outside.{OutsideFile}
use Rattle.ir_commands.specs.Printing.{Paths, LeavesUnread, IsStatusOfNoImage}
use Rattle.ir_commands.specs.Printing.{PrintsCode, PrintsTrace, PrintsEvents, PrintsStale, PrintsWho, PrintsWhy, PrintsDiff, PrintsView}
use Rattle.ir_commands.specs.Searching.{HuntsFile, SearchesFile, ShrinksFile}
use Rattle.ir_commands.specs.Writing.{Assembles, Converts, Makes, RecordsFile, RefusesElf, RefusesSource, Storing}
use Rattle.ir_program.specs.Bundle.{status_of}
use Rattle.ir_program.specs.Connecting.{HeldConnection}
use Rattle.ir_program.specs.Leaving.{ComesToEnd, LeavesAfterFault, HeldSession}
use Rattle.ir_program.specs.Taking.{TakenReader}
use Rattle.ir_program.specs.declared.fault.ProgramErr.{ProgramErr}

-- the session of standard input was held: it ended with a status, or a fault stopped it
pub record HeldBundle (answered : ExitStatus) (reader : TakenReader) (out : Writer) (unprinted : Type 0) : Type 0 where
  pub ended : answered ≢ status.Failed → (e : Ended) × (answered ≡ status_of e) × ComesToEnd (Ok e) reader out
  pub stopped : answered ≡ status.Failed → (e : ProgramErr) × LeavesAfterFault e reader out unprinted

-- the session of an image and a trace in files was held over these bytes; or a file isn't taken, and nothing was printed
abbrev pub HoldsSession : Paths → DebugArguments → ExitStatus → Option (List ℕ) → Writer → Writer → Type 0 → Type 0
HoldsSession at arguments answered input out faults unprinted =
    OfImageAndTrace (at (string_bytes arguments.image)) (at (string_bytes arguments.trace)) (λ image trace.
    (reader : TakenReader) × (reader.before ≡ input) × HeldSession image trace answered reader out unprinted)
    ⊎ LeavesUnread (IsStatusOfNone (at (string_bytes arguments.image)) answered) unprinted faults

-- the connection of gdb to their run was held so
abbrev pub HoldsConnection : Paths → DebugArguments → ExitStatus → Option (List ℕ) → Writer → Writer → Type 0 → Type 0
HoldsConnection at arguments answered input out faults unprinted =
    OfImageAndTrace (at (string_bytes arguments.image)) (at (string_bytes arguments.trace)) (λ image trace.
    (reader : TakenReader) × (reader.before ≡ input) × HeldConnection image trace answered reader out unprinted unprinted)
    ⊎ LeavesUnread (IsStatusOfNone (at (string_bytes arguments.image)) answered) unprinted faults

-- the text was written whole, or the writer failed in it, which is told
abbrev pub Shows : List ℕ → ExitStatus → Writer → Writer → Type 0
Shows text answered out faults = ((answered ≡ status.Done) × Took out text) ⊎ ((answered ≡ status.Failed) × Failed out text × TellsFault faults)

-- the same two over a reader that is known; untouched says that the reader and the writer are as they were, unprinted the same of the writer
abbrev pub HoldsSessionOf : Paths → DebugArguments → ExitStatus → TakenReader → Writer → Writer → Type 0 → Type 0
HoldsSessionOf at arguments answered reader out faults untouched =
    OfImageAndTrace (at (string_bytes arguments.image)) (at (string_bytes arguments.trace)) (λ image trace.
    HeldSession image trace answered reader out untouched)
    ⊎ LeavesUnread (IsStatusOfNone (at (string_bytes arguments.image)) answered) untouched faults

abbrev pub HoldsConnectionOf : Paths → DebugArguments → ExitStatus → TakenReader → Writer → Writer → Type 0 → Type 0 → Type 0
HoldsConnectionOf at arguments answered reader out faults untouched unprinted =
    OfImageAndTrace (at (string_bytes arguments.image)) (at (string_bytes arguments.trace)) (λ image trace.
    HeldConnection image trace answered reader out untouched unprinted)
    ⊎ LeavesUnread (IsStatusOfNone (at (string_bytes arguments.image)) answered) untouched faults

-- what was printed of files: the answer to what is asked about them; or nothing, since a file isn't taken
abbrev pub Prints : Paths → Print → ExitStatus → Writer → Writer → Type 0 → Type 0
Prints at (printed.Code a) answered out faults unprinted =
    PrintsCode at a answered out faults ⊎ LeavesUnread (IsStatusOfNoImage at a.image a.map answered) unprinted faults
Prints at (printed.Trace a) answered out faults unprinted =
    PrintsTrace at a answered out faults ⊎ LeavesUnread (answered ≡ status.Failed) unprinted faults
Prints at (printed.Events a) answered out faults unprinted =
    PrintsEvents at a answered out faults ⊎ LeavesUnread (IsStatusOfNoImage at a.image a.map answered) unprinted faults
Prints at (printed.Stale a) answered out faults unprinted =
    PrintsStale at a answered out faults ⊎ LeavesUnread (IsUnread at a.image answered) unprinted faults
Prints at (printed.Who a) answered out faults unprinted =
    PrintsWho at a answered out faults ⊎ LeavesUnread (IsUnread at a.image answered) unprinted faults
Prints at (printed.Why a) answered out faults unprinted =
    PrintsWhy at a answered out faults ⊎ LeavesUnread (IsUnread at a.image answered) unprinted faults
Prints at (printed.Diff a) answered out faults unprinted =
    PrintsDiff at a answered out faults ⊎ LeavesUnread (answered ≡ status.Failed) unprinted faults
Prints at (printed.View a) answered out faults unprinted =
    PrintsView at a answered out faults ⊎ LeavesUnread (IsUnread at a.image answered) unprinted faults

-- what was printed of the outcomes of guests in files
abbrev pub PrintsOutcomes : Paths → Explored → ExitStatus → Writer → Writer → Type 0 → Type 0
PrintsOutcomes at (explored.Outcomes a) answered out faults unprinted =
    Explores at a answered out faults ⊎ LeavesUnread (IsStatusOfNone (at (string_bytes a.image)) answered) unprinted faults
PrintsOutcomes at (explored.Classes a) answered out faults unprinted =
    ExploresClasses at a answered out faults ⊎ LeavesUnread (IsStatusOfNoClasses at a answered) unprinted faults
PrintsOutcomes at (explored.Within a) answered out faults unprinted =
    Compares at a answered out faults ⊎ LeavesUnread (IsStatusOfNoComparison at a answered) unprinted faults

-- nothing is done, with this status, and a line tells why
abbrev pub TellsWhyNot : ExitStatus → ExitStatus → Writer → Type 0 → Type 0
TellsWhyNot of_it answered faults unprinted = (answered ≡ of_it) × unprinted × TellsFault faults

-- an image was made of another file
abbrev pub MakesImage : Paths → Storing → Make → ExitStatus → Writer → Type 0
MakesImage at stored (made.Source a) answered faults = Makes (Assembles at stored a) (RefusesSource at a faults) answered faults
MakesImage at stored (made.Elf a) answered faults = Makes (Converts at stored a) (RefusesElf at a faults) answered faults

-- What the program did for a request: it ended with this status, had this input left before, and these took what it wrote.
abbrev pub Does : Paths → Storing → Asked → ExitStatus → Option (List ℕ) → Writer → Writer → Type 0 → Type 0
Does at stored asked.Session answered input out faults unprinted =
    (reader : TakenReader) × (reader.before ≡ input) × HeldBundle answered reader out unprinted
Does at stored (asked.Make what) answered input out faults unprinted = MakesImage at stored what answered faults × unprinted
Does at stored (asked.Record a) answered input out faults unprinted = RecordsFile at stored a answered out faults unprinted
Does at stored (asked.Debug a) answered input out faults unprinted = HoldsSession at a answered input out faults unprinted
Does at stored (asked.Gdb a) answered input out faults unprinted = HoldsConnection at a answered input out faults unprinted
Does at stored (asked.Print what) answered input out faults unprinted = Prints at what answered out faults unprinted
Does at stored (asked.Explore what) answered input out faults unprinted = PrintsOutcomes at what answered out faults unprinted
Does at stored (asked.Help text) answered input out faults unprinted = Shows (string_bytes text) answered out faults
Does at stored (asked.Nothing why) answered input out faults unprinted = TellsWhyNot status.BadArguments answered faults unprinted
Does at stored asked.NoMem answered input out faults unprinted = TellsWhyNot status.Failed answered faults unprinted
Does at stored (asked.Hunt a) answered input out faults unprinted = HuntsFile at stored a answered out faults
Does at stored (asked.Shrink a) answered input out faults unprinted = ShrinksFile at stored a answered out faults
Does at stored (asked.Until a) answered input out faults unprinted = SearchesFile at stored a answered out faults
Does at stored (asked.Outside a) answered input out faults unprinted = OutsideFile at stored a answered out faults
