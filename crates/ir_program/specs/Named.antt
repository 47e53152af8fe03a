-- What the program does by words that may name a file of names.
use Rattle.std.specs.Prelude.{◌≡◌, ◌⊎◌, ℕ, Bool, true, false, List, [], ◌∷◌, ◌++◌, take, Option, Some, None, IfSome, Ok, Err}
use Rattle.ir_arguments.specs.Parsing.{IsAskedBy}
use Rattle.ir_arguments.specs.Views.{request_view}
use Rattle.ir_arguments.specs.declared.asked.Asked.{Asked}
use Rattle.ir_arguments.specs.declared.asked.Asked.TheVariants as asked
use Rattle.ir_arguments.specs.declared.asked.Print.{Print}
use Rattle.ir_arguments.specs.declared.asked.Print.TheVariants as printed
use Rattle.ir_commands.specs.Files.{IsFileIn, TellsFault}
use Rattle.ir_commands.specs.Printing.{Paths}
use Rattle.ir_commands.specs.Writing.{Storing}
use Rattle.ir_files.specs.Writers.{Writer}
use Rattle.ir_files.specs.declared.exit_status.ExitStatus.{ExitStatus}
use Rattle.ir_files.specs.declared.exit_status.ExitStatus.TheVariants as status
use Rattle.ir_names.specs.Lines.{names_at}
use Rattle.ir_names.specs.Naming.{after_bytes, answer_start, text_with_names, tag}
use Rattle.ir_names.specs.Things.{NameTable}
use Rattle.ir_names.specs.declared.names_err.NamesErr.{NamesErr}
use Rattle.ir_names.specs.declared.names_err.NamesErr.TheVariants as fault
use Rattle.ir_program.specs.Doing.{Does, TellsWhyNot}
use Rattle.ir_program.specs.Serving.{MayExplain, ServesWords}
use Rattle.ir_names.specs.Words.{NamesSplit, only_file, split_words, wants_names}
use Rattle.ir_program.specs.declared.names_use.NamesUse.{NamesUse}
use Rattle.ir_program.specs.declared.names_use.NamesUse.TheVariants.{Unasked, NotTaken, Named}

-- ---- which requests take names

abbrev pub use_of_print : Print → NamesUse
use_of_print (printed.Code a) = Named true
use_of_print (printed.Trace a) = Named false
use_of_print (printed.Events a) = Named false
use_of_print (printed.Stale a) = Named false
use_of_print (printed.Who a) = Named false
use_of_print (printed.Why a) = Named false
use_of_print (printed.Diff a) = Named false
use_of_print (printed.View a) = NotTaken

-- what names are for a request: `ir list` has lines that begin with addresses
abbrev pub use_of : Asked → NamesUse
use_of asked.Session = NotTaken
use_of (asked.Make what) = NotTaken
use_of (asked.Record a) = Named false
use_of (asked.Debug a) = NotTaken
use_of (asked.Gdb a) = NotTaken
use_of (asked.Print what) = use_of_print what
use_of (asked.Explore what) = Named false
use_of (asked.Help text) = Unasked
use_of (asked.Nothing why) = Unasked
use_of asked.NoMem = Unasked
use_of (asked.Hunt a) = Named false
use_of (asked.Shrink a) = Named false
use_of (asked.Until a) = Named false
use_of (asked.Outside a) = Named false

-- ---- an answer with names

-- The second writer took the text that the first took, with names. Where it failed, it may have taken the first bytes of a name after that.
pub record TookNamed (names : NameTable) (lists : Bool) (text : List ℕ) (out : Writer) : Type 0 where
  pub begun : ℕ
  pub took : out.after ≡ Some (text_with_names names (answer_start lists) text ++ take begun (tag names (after_bytes (answer_start lists) text)))
  pub whole : out.failed ≡ false → begun ≡ 0

-- The first writer takes a plain answer, and the second the same with names, where nothing was written before: what the first takes from then on is
-- a text, and the second takes that text with names.
pub record PutsNames (names : NameTable) (lists : Bool) (plain out : Writer) : Type 0 where
  pub failed : plain.failed ≡ out.failed
  pub start : List ℕ
  pub from_start : out.before ≡ Some [] → plain.before ≡ Some start
  pub took : (text : List ℕ) → plain.after ≡ Some (start ++ text) → TookNamed names lists text out

-- ---- what is done

-- a line of the file is none of a file of names
abbrev pub HasFaultyName : List ℕ → Type 0
HasFaultyName file = (number : ℕ) × (names_at file ≡ Err number)

-- the exit status where a file of names isn't taken
abbrev pub names_status : NamesErr → ExitStatus
names_status (fault.Line number) = status.Refused
names_status fault.NoMem = status.Failed

-- nothing is done, and a line tells why: the file isn't read or memory ran out, or a line of the file is none of a file of names
abbrev pub LacksNames : Option (List ℕ) → ExitStatus → Writer → Type 0 → Type 0
LacksNames known answered faults unprinted =
    ((answered ≡ status.Failed) ⊎ ((answered ≡ status.Refused) × IfSome known HasFaultyName)) × unprinted × TellsFault faults

-- The names of the file were read, and the request was done with them. After that standard error may say what a refused image is.
pub record DoesWithNames (at : Paths) (stored : Storing) (known : Option (List ℕ)) (lists : Bool) (what : Asked) (answered : ExitStatus)
    (input : Option (List ℕ)) (out faults : Writer) (unprinted : Type 0) : Type 0 where
  pub file : List ℕ
  pub is_file : IsFileIn known file
  pub names : NameTable
  pub are_names : names_at file ≡ Ok names
  pub plain : Writer
  pub told : Writer
  pub done : Does at stored what answered input plain told unprinted
  pub puts : PutsNames names lists plain out
  pub explained : MayExplain answered told faults

-- a request that takes names, with the file that is named, if exactly one is
abbrev pub DoesByFile : Paths → Storing → Option (List ℕ) → Bool → Asked → ExitStatus → Option (List ℕ) → Writer → Writer → Type 0 → Type 0
DoesByFile at stored None lists what answered input out faults unprinted = TellsWhyNot status.BadArguments answered faults unprinted
DoesByFile at stored (Some path) lists what answered input out faults unprinted =
    LacksNames (at path) answered faults unprinted ⊎ DoesWithNames at stored (at path) lists what answered input out faults unprinted

-- A request where a file of names is asked for. Without a request nothing is asked of the file.
abbrev pub DoesNamed : NamesUse → Paths → Storing → Option (List ℕ) → Asked → ExitStatus → Option (List ℕ) → Writer → Writer → Type 0 → Type 0
DoesNamed Unasked at stored file what answered input out faults unprinted = Does at stored what answered input out faults unprinted
DoesNamed NotTaken at stored file what answered input out faults unprinted = TellsWhyNot status.BadArguments answered faults unprinted
DoesNamed (Named lists) at stored file what answered input out faults unprinted = DoesByFile at stored file lists what answered input out faults unprinted

-- ---- the words

-- the words but those about names ask for a request, and it was done with the file that is named
pub record ServesNamed (at : Paths) (stored : Storing) (split : NamesSplit) (answered : ExitStatus) (input : Option (List ℕ)) (out faults : Writer)
    (unprinted : Type 0) : Type 0 where
  pub asked : Asked
  pub is_asked : IsAskedBy split.others (request_view asked)
  pub done : DoesNamed (use_of asked) at stored (only_file split) asked answered input out faults unprinted

-- words without a file of names are served as they are
abbrev pub ServesBy : Bool → Paths → Storing → List (List ℕ) → ExitStatus → Option (List ℕ) → Writer → Writer → Type 0 → Type 0
ServesBy false at stored words answered input out faults unprinted = ServesWords at stored words answered input out faults unprinted
ServesBy true at stored words answered input out faults unprinted = ServesNamed at stored (split_words words) answered input out faults unprinted

-- what the program does by its words, of which the first is its name
abbrev pub ServesCommandLine : Paths → Storing → List (List ℕ) → ExitStatus → Option (List ℕ) → Writer → Writer → Type 0 → Type 0
ServesCommandLine at stored words answered input out faults unprinted =
    ServesBy (wants_names (split_words words)) at stored words answered input out faults unprinted
