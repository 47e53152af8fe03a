-- What the commands that write files leave there, by the bytes that a folder says are at the paths of their arguments.
use Rattle.std.specs.Prelude.{◌≡◌, ◌⊎◌, ◌&&◌, ℕ, Bool, true, List, [], ◌∷◌, ◌++◌, Ok, Err, String, map, not, slice_get, ⊤, if◌then◌else◌}
use Rattle.std.specs.Prelude.{Option, Some, None, option_map, IfSome, IsSomeAnd, MatchOption}
use Rattle.std.specs.List.{list_all, range_with_len}
use Rattle.std.specs.String.{string_bytes}
use Rattle.std.specs.Borrow.{Bor}
use Rattle.std.specs.Str.{IsUtf8}
use Rattle.ir_asm.specs.Passes.{labels_of}
use Rattle.ir_asm.specs.Source.{Fault}
use Rattle.ir_arguments.specs.declared.assemble.AssembleArguments.{AssembleArguments}
use Rattle.ir_arguments.specs.declared.elf.ElfArguments.{ElfArguments}
use Rattle.ir_arguments.specs.declared.record.RecordArguments.{RecordArguments}
use Rattle.ir_elf.specs.declared.refusal.Refusal.{Refusal}
use Rattle.ir_files.specs.Given.{KnownFile, IsStored}
use Rattle.ir_files.specs.Outputs.{StandEach, output_path}
use Rattle.ir_files.specs.Writers.{Writer, Took}
use Rattle.ir_files.specs.declared.exit_status.ExitStatus.{ExitStatus}
use Rattle.ir_files.specs.declared.exit_status.ExitStatus.TheVariants as status
use Rattle.ir_hunt.specs.Finding.{IsOrderOfSeed}
use Rattle.ir_make.specs.Assembling.{image_bytes, masked, report}
use Rattle.ir_make.specs.Converting.{elf_image_bytes, refusal_report}
use Rattle.ir_make.specs.Mapping.{label_symbols}
use Rattle.ir_record_command.specs.Faults.{RefusesRecord, fault_status}
use Rattle.ir_record_command.specs.Plan.{Plan}
use Rattle.ir_record_command.specs.Recording.{IsRecordedOf, recording_lines}
use Rattle.ir_record_command.specs.declared.record_fault.RecordFault.{RecordFault}
use Rattle.ir_schedule.specs.Conditions.{exits_with}
use Rattle.ir_stream.specs.Answers.{AppendsPrefix}
use Rattle.ir_symbols.specs.Maps.{map_text}
use Rattle.ir_symbols.specs.Symbols.{Symbol}
use Rattle.ir_symbols.specs.Tables.{IsSortOf}
use Rattle.ir_trace.specs.Encoding.{encoding}
use Rattle.ir_trace.specs.Recorded.{Recorded}
use Rattle.ir_commands.specs.Exploring.{IsInput}
use Rattle.ir_commands.specs.Files.{IsFileIn, IsImageIn, IsTold, RefusesGuest, TellsFault}
use Rattle.ir_commands.specs.Printing.{Paths, LeavesUnread}

-- what is said of files that are written: whether it is known what they are given, that one which was made whole is at a path with these bytes, and the
-- same of one with what a thread printed
pub record Storing : Type 1 where
  pub knows : Bool
  pub whole : List ℕ → List ℕ → Type 0
  pub output : List ℕ → List ℕ → Type 0

-- what a folder says
abbrev pub storing : {Open Closed : Type 0} → (Open → KnownFile) → (Closed → KnownFile) → Bool → (List ℕ → List ℕ → Bool) → Storing
storing known known_closed knows was_put =
    record { knows = knows; whole = IsStored known knows was_put; output = IsStored known_closed knows was_put }

-- `ir elf`: the image of the ELF file's guest is at the path of IMAGE
pub record Converts (at : Paths) (stored : Storing) (arguments : ElfArguments) : Type 0 where
  pub file : List ℕ
  pub image : List ℕ
  pub is_file : IsFileIn (at (string_bytes arguments.elf)) file
  pub is_image : elf_image_bytes file ≡ Ok image
  pub stored_image : stored.whole (string_bytes arguments.image) image

-- the ELF file is no guest, which was reported
pub record RefusesElf (at : Paths) (arguments : ElfArguments) (faults : Writer) : Type 0 where
  pub file : List ℕ
  pub refusal : Refusal
  pub is_file : IsFileIn (at (string_bytes arguments.elf)) file
  pub is_none : elf_image_bytes file ≡ Err refusal
  pub explained : Option (List ℕ)
  pub told : Took faults (refusal_report explained refusal)

-- an image was made, or refused, or a fault stopped it, or a file that is read would be lost, and a line tells that
pub record Makes (done refused : Type 0) (answered : ExitStatus) (faults : Writer) : Type 0 where
  pub one : (answered ≡ status.Done) ⊎ ((answered ≡ status.Refused) ⊎ ((answered ≡ status.Failed) ⊎ (answered ≡ status.BadArguments)))
  pub made : answered ≡ status.Done → done
  pub unmade : answered ≡ status.Refused → refused
  pub told : (answered ≡ status.Failed) ⊎ (answered ≡ status.BadArguments) → IsTold faults

-- the labels of a source are at the path of MAP, where it is given
abbrev pub StoresLabels : {Z : Type 0} → Storing → Option (String Z) → List ℕ → Type 0
StoresLabels stored path source = MatchOption path ⊤ (λ path. (labels : _) × (table : List Symbol)
    × (labels_of (map masked source) ≡ Ok labels) × IsSortOf (label_symbols labels) table × stored.whole (string_bytes path) (map_text table))

-- `ir asm`: the image of the source is at the path of IMAGE
pub record Assembles (at : Paths) (stored : Storing) (arguments : AssembleArguments) : Type 0 where
  pub source : List ℕ
  pub image : List ℕ
  pub is_source : IsFileIn (at (string_bytes arguments.source)) source
  pub is_image : image_bytes source ≡ Ok image
  pub stored_image : stored.whole (string_bytes arguments.image) image
  pub stored_labels : StoresLabels stored arguments.map source

-- the source has a fault, which was reported
pub record RefusesSource (at : Paths) (arguments : AssembleArguments) (faults : Writer) : Type 0 where
  pub source : List ℕ
  pub fault : Fault
  pub is_source : IsFileIn (at (string_bytes arguments.source)) source
  pub is_none : image_bytes source ≡ Err fault
  pub explained : Option (List ℕ)
  pub told : Took faults (report explained (map masked source) fault)

-- ---- what a recording leaves

-- what says that the trace of a run has these bytes, and that its threads printed this
abbrev pub Keeping : Type 1
Keeping = List ℕ → List (List ℕ) → Type 0

-- the texts of paths, if there are some
abbrev pub texts_of_paths : {Z : Type 0} → Option (Bor (List (String Z))) → Option (List (List ℕ))
texts_of_paths paths = option_map (λ each. map string_bytes each.now) paths

-- the trace is at a path, and what each thread printed is at its own, if there are some and it is known what files are given
abbrev pub KeptAt : Storing → List ℕ → Option (List (List ℕ)) → Keeping
KeptAt stored trace paths bytes printed =
    stored.whole trace bytes × IfSome paths (λ each. stored.knows ≡ true → StandEach stored.output each printed)

-- what thread T printed is at the path PREFIX.T
abbrev pub StandBehind : (List ℕ → List ℕ → Type 0) → List ℕ → List (List ℕ) → Type 0
StandBehind stored prefix printed = (t : ℕ) (bytes : List ℕ) → slice_get printed t ≡ Some bytes → stored (output_path prefix t) bytes

-- the trace is at a path, and what thread T printed is at PREFIX.T, if that is asked for and it is known what files are given
abbrev pub KeptAsAsked : {Z : Type 0} → Storing → List ℕ → Option (String Z) → Keeping
KeptAsAsked stored trace prefix bytes printed =
    stored.whole trace bytes × IfSome prefix (λ begin. stored.knows ≡ true → StandBehind stored.output (string_bytes begin) printed)

-- the paths of outputs whose files are asked for
abbrev pub AreOutputPaths : {Z : Type 0} → Option (String Z) → Option (List (List ℕ)) → Type 0
AreOutputPaths prefix paths = MatchOption prefix (paths ≡ None)
    (λ begin. (threads : ℕ) × (paths ≡ Some (map (output_path (string_bytes begin)) (range_with_len 0 threads))))

-- ---- `ir record`

-- how a guest is recorded that reads these bytes, in this order, as the arguments say
abbrev pub plan_asked : RecordArguments → Option (List ℕ) → List ℕ → Plan
plan_asked arguments order input = record {
  order = order;
  budget = arguments.options.budget;
  random = arguments.options.random;
  input = input;
  profile = arguments.options.profile;
}

-- the list in a file: a line feed may end it, and a carriage return come before that
pub record IsListIn (known : Option (List ℕ)) (list : List ℕ) : Type 0 where
  pub file : List ℕ
  pub is_file : IsFileIn known file
  pub is_list : (file ≡ list) ⊎ ((file ≡ list ++ 10 ∷ []) ⊎ ((file ≡ list ++ 13 ∷ []) ⊎ (file ≡ list ++ 13 ∷ 10 ∷ [])))

-- the list that spells the order, as the arguments say: that of a seed, the list in a file, or the list itself; or there is none
abbrev pub IsOrderAsked : Paths → RecordArguments → List ℕ → List ℕ → Option (List ℕ) → Type 0
IsOrderAsked at arguments image input order = MatchOption arguments.chaos
    (MatchOption arguments.order_file (order ≡ option_map string_bytes arguments.order)
    (λ path. (list : List ℕ) × (order ≡ Some list) × IsListIn (at (string_bytes path)) list))
    (λ chaos. (list : List ℕ) × (order ≡ Some list) × IsOrderOfSeed image (plan_asked arguments None input) chaos.way chaos.seed list)

-- what is recorded, by the bytes of the files that are read
pub record AsksFor (at : Paths) (arguments : RecordArguments) (image : List ℕ) (plan : Plan) : Type 0 where
  pub input : List ℕ
  pub order : Option (List ℕ)
  pub is_image : IsImageIn (at (string_bytes arguments.image)) image
  pub is_input : IsInput at arguments.options.input input
  pub is_order : IsOrderAsked at arguments image input order
  pub is_plan : plan ≡ plan_asked arguments order input

-- a run of the image's guest was recorded: its trace is at the path of TRACE, what its threads printed is where it is asked for, and a line for each
-- thread was printed
pub record Records (at : Paths) (stored : Storing) (arguments : RecordArguments) (recorded : Recorded) (out : Writer) : Type 0 where
  pub image : List ℕ
  pub plan : Plan
  pub printed : List (List ℕ)
  pub asked : AsksFor at arguments image plan
  pub is : IsRecordedOf image plan recorded printed
  pub kept : KeptAsAsked stored (string_bytes arguments.trace) arguments.options.output (encoding recorded) printed
  pub lines : Took out (recording_lines recorded)

-- the recording was refused, or stopped as it was written, with the status of a fault, which a line tells
pub record StopsRecords (at : Paths) (arguments : RecordArguments) (answered : ExitStatus) (out faults : Writer) (unprinted : Type 0) : Type 0 where
  pub image : List ℕ
  pub plan : Plan
  pub fault : RecordFault
  pub asked : AsksFor at arguments image plan
  pub status : answered ≡ fault_status fault
  pub because : (RefusesRecord fault image plan × unprinted)
      ⊎ ((recorded : Recorded) × (printed : List (List ℕ)) × IsRecordedOf image plan recorded printed
      × AppendsPrefix out.before out.after (recording_lines recorded))
  pub told : TellsFault faults

-- the exit status where a recording doesn't begin: a file that is read would be lost, or one isn't read, or what is asked for is refused, and this holds
abbrev pub IsStatusOfNoRecording : Type 0 → ExitStatus → Type 0
IsStatusOfNoRecording refuses answered = (answered ≡ status.BadArguments) ⊎ ((answered ≡ status.Failed) ⊎ ((answered ≡ status.Refused) × refuses))

-- the file is no text
abbrev pub IsNoText : List ℕ → Type 0
IsNoText file = IsUtf8 file → ⊥

-- a recording is refused before it begins: its guest is, or the file of its list is no text
abbrev pub RefusesRecording : Paths → RecordArguments → Type 0
RefusesRecording at arguments = RefusesGuest (at (string_bytes arguments.image)) arguments.options.profile
    ⊎ IsSomeAnd arguments.order_file (λ path. IfSome (at (string_bytes path)) IsNoText)

-- the exit status of a recording: with --status it tells whether each thread ended by END with code 0
abbrev pub recorded_status : Bool → Recorded → ExitStatus
recorded_status asks recorded = if asks && not (list_all (λ t. exits_with 0 (Some t.end)) recorded.threads) then status.NotSo else status.Done

-- what `ir record` did: a run was recorded; or it wasn't, or not all of it was written; or the recording didn't begin, and nothing was printed
abbrev pub RecordsFile : Paths → Storing → RecordArguments → ExitStatus → Writer → Writer → Type 0 → Type 0
RecordsFile at stored arguments answered out faults unprinted =
    ((recorded : Recorded) × (answered ≡ recorded_status arguments.status recorded) × Records at stored arguments recorded out)
    ⊎ (StopsRecords at arguments answered out faults unprinted
    ⊎ LeavesUnread (IsStatusOfNoRecording (RefusesRecording at arguments) answered) unprinted faults)
