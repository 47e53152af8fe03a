-- What the commands that look for a run leave, by the bytes that a folder says are at the paths of their arguments.
use Rattle.std.specs.Prelude.{◌≡◌, ◌⊎◌, ℕ, Bool, true, false, List, [], Option, Some, None, Result, Ok, Err, length, map, nat_lt, IfSome}
use Rattle.std.specs.String.{string_bytes}
use Rattle.ir_arguments.specs.declared.explore.UntilArguments.{UntilArguments}
use Rattle.ir_arguments.specs.declared.hunt.HuntArguments.{HuntArguments}
use Rattle.ir_arguments.specs.declared.shrink.ShrinkArguments.{ShrinkArguments}
use Rattle.ir_explore.specs.Hang.{IsHangAnswer, IsHangRecorded, hang_plan}
use Rattle.ir_explore.specs.Plan.{ExplorePlan}
use Rattle.ir_explore.specs.Until.{IsOutcomeFinding, IsUntil, recording}
use Rattle.ir_explore.specs.declared.hang_order.HangOrder.{HangOrder}
use Rattle.ir_files.specs.Writers.{Writer, Took, writer_of}
use Rattle.ir_files.specs.declared.exit_status.ExitStatus.{ExitStatus}
use Rattle.ir_files.specs.declared.exit_status.ExitStatus.TheVariants as status
use Rattle.ir_image.specs.Guest.{Guest, guest_at}
use Rattle.ir_hunt.specs.Finding.{by_list}
use Rattle.ir_hunt.specs.Hunted.{IsFinding, IsFoundIn, IsNoneIn}
use Rattle.ir_hunt.specs.Lines.{found_line, none_lines}
use Rattle.ir_hunt.specs.Stopping.{IsHuntLine, TellsLeftOut, none_status}
use Rattle.ir_hunt.specs.declared.plan.HuntPlan.{HuntPlan}
use Rattle.ir_record_command.specs.Order.{order_of}
use Rattle.ir_record_command.specs.Plan.{Plan}
use Rattle.ir_schedule.specs.Conditions.{as_condition}
use Rattle.ir_schedule.specs.declared.condition.Condition.{Condition}
use Rattle.ir_shrink.specs.Lines.{shrunk_lines}
use Rattle.ir_shrink.specs.Stopping.{IsShrinking, IsShrunkIn, RefusesShrink, shrink_status}
use Rattle.ir_shrink.specs.declared.plan.ShrinkPlan.{ShrinkPlan}
use Rattle.ir_shrink.specs.declared.refusal.Refusal.{Refusal}
use Rattle.ir_thread.specs.declared.profile.Profile.{Profile}
use Rattle.ir_trace.specs.Recorded.{Recorded, recorded_at}
use Rattle.ir_commands.specs.Conditions.{AreAboutNothing, AreWritten}
use Rattle.ir_commands.specs.Exploring.{IsInput, IsPlanOf}
use Rattle.ir_opened.specs.Answers.{IsUnfitRefusal}
use Rattle.ir_commands.specs.Files.{GoesOn, IsFileIn, IsImageIn, IsNoGuest, LacksGuest, RefusesGuest, TellsFault}
use Rattle.ir_commands.specs.Printing.{Paths}
use Rattle.ir_commands.specs.Sought.{IsWithLines, PrintsPart, RecordsRun}
use Rattle.ir_commands.specs.Writing.{IsStatusOfNoRecording, KeptAsAsked, Keeping, Storing}

-- nothing was recorded, by a fault or since a file isn't taken, and a line tells why; where it was refused, this holds. Nothing was printed, or the beginning of
-- such an answer, and nothing where a file that is read would be lost
pub record TellsNoSearch (refuses : Type 0) (is_answer : List ℕ → Type 0) (answered : ExitStatus) (out faults : Writer) : Type 0 where
  pub because : IsStatusOfNoRecording refuses answered
  pub told : TellsFault faults
  pub printed : PrintsPart is_answer out
  pub unprinted : answered ≡ status.BadArguments → Took out []

-- a search is refused: its guest is, or a condition is about what the guest doesn't have
abbrev pub RefusesSearch : Option (List ℕ) → Profile → List (List ℕ) → Type 0
RefusesSearch known profile until = RefusesGuest known profile ⊎ ((image : List ℕ) × IsImageIn known image × AreAboutNothing until image)

-- ---- `ir hunt`

-- how the runs of a hunt go but for their order, over these bytes
abbrev pub hunt_plan_asked : HuntArguments → List ℕ → Plan
hunt_plan_asked arguments input = record {
  order = None;
  budget = arguments.options.budget;
  random = arguments.options.random;
  input = input;
  profile = arguments.options.profile;
}

-- a guest that reads these bytes is hunted in as the arguments say
pub record IsHuntPlanOf (arguments : HuntArguments) (input : List ℕ) (plan : HuntPlan) : Type 0 where
  pub how : plan.record ≡ hunt_plan_asked arguments input
  pub way : plan.way ≡ arguments.way
  pub seeds : plan.seeds ≡ arguments.seeds
  pub conditions : AreWritten arguments.until.items plan.conditions.now
  pub stale : plan.stale ≡ arguments.stale
  pub jobs : plan.jobs ≡ arguments.jobs
  pub seconds : plan.seconds ≡ arguments.seconds

-- what is hunted in, by the bytes of the files that are read
pub record AsksHunt (at : Paths) (arguments : HuntArguments) (image : List ℕ) (plan : HuntPlan) : Type 0 where
  pub input : List ℕ
  pub is_image : IsImageIn (at (string_bytes arguments.image)) image
  pub is_input : IsInput at arguments.options.input input
  pub is_plan : IsHuntPlanOf arguments input plan

-- the run of the lowest seed that is found has this trace, and its threads printed this; the text is its line, and it was reported how many seeds were left
-- out, if some were
pub record IsSeedFound (image : List ℕ) (plan : HuntPlan) (recorded : Recorded) (reports : Writer) (printed : List (List ℕ)) (text : List ℕ) : Type 0 where
  pub left_out : ℕ
  pub seed : ℕ
  pub list : List ℕ
  pub finding : IsFinding image plan left_out seed list recorded printed
  pub line : text ≡ found_line seed list
  pub told : TellsLeftOut left_out reports (reports.before ≡ reports.after)

-- it was recorded: this holds of its trace and of what its threads printed, and its lines were printed
abbrev pub RecordsHunted : List ℕ → HuntPlan → Recorded → Keeping → Writer → Writer → Type 0
RecordsHunted image plan recorded is_kept out reports = RecordsRun recorded (IsSeedFound image plan recorded reports) is_kept out

-- none of the seeds up to one was found, each of which was tried, and that was printed
pub record TellsNoSeed (image : List ℕ) (plan : HuntPlan) (answered : ExitStatus) (out reports : Writer) : Type 0 where
  pub last : ℕ
  pub left_out : ℕ
  pub none : IsNoneIn image plan last left_out
  pub status : answered ≡ none_status (nat_lt last plan.seeds.last) left_out
  pub lines : Took out (none_lines plan.seeds.first last plan.seeds.last)
  pub told : TellsLeftOut left_out reports (reports.before ≡ reports.after)

-- what a hunt prints: that a seed is found, and then the lines of its recording; or that none is
abbrev pub IsHuntAnswer : List ℕ → HuntPlan → List ℕ → Type 0
IsHuntAnswer image plan text = IsHuntLine image plan text
    ⊎ ((left_out seed : ℕ) × (list : List ℕ) × IsFoundIn image plan left_out seed list × IsWithLines image (by_list plan.record list) (found_line seed list) text)

abbrev pub IsHuntAnswerTo : Paths → HuntArguments → List ℕ → Type 0
IsHuntAnswerTo at arguments text = (image : List ℕ) × (plan : HuntPlan) × AsksHunt at arguments image plan × IsHuntAnswer image plan text

-- no seed was found, or nothing was hunted for
abbrev pub MissesSeed : List ℕ → HuntPlan → ExitStatus → Writer → Writer → Type 0
MissesSeed image plan answered out faults = TellsNoSeed image plan answered out faults
    ⊎ TellsNoSearch (LacksGuest image plan.record.profile) (IsHuntAnswer image plan) answered out faults

-- a guest was hunted in: the run that is found was recorded and its trace is at the path of TRACE, and behind the seeds that were left out standard error may
-- say how its threads ended; or no seed was found
pub record Hunts (at : Paths) (stored : Storing) (arguments : HuntArguments) (answered : ExitStatus) (out faults : Writer) : Type 0 where
  pub image : List ℕ
  pub plan : HuntPlan
  pub asked : AsksHunt at arguments image plan
  pub ended : ((answered ≡ status.Done) × ((recorded : Recorded) × (reports : Writer) × (reports.before ≡ faults.before)
      × RecordsHunted image plan recorded (KeptAsAsked stored (string_bytes arguments.trace) arguments.options.output) out reports
      × GoesOn reports.after faults.after))
      ⊎ TellsNoSeed image plan answered out faults

-- ---- `ir explore --until`

-- what is looked for in which guest, by the bytes of the files that are read
pub record AsksSearch (at : Paths) (arguments : UntilArguments) (image : List ℕ) (plan : ExplorePlan) (conditions : List Condition) : Type 0 where
  pub input : List ℕ
  pub is_image : IsImageIn (at (string_bytes arguments.explore.image)) image
  pub is_input : IsInput at arguments.explore.input input
  pub is_plan : IsPlanOf arguments.explore input plan
  pub are_conditions : AreWritten arguments.until.items conditions

-- what is looked for: a run with this trace, whose threads printed this, and that hangs, where that is asked for, or else that has the first outcome which fulfils
-- the conditions; the text is what was printed up to it
abbrev pub IsRunFound : Bool → List ℕ → ExplorePlan → List Condition → Recorded → List (List ℕ) → List ℕ → Type 0
IsRunFound false image plan conditions recorded printed text = (list : List ℕ) × IsOutcomeFinding image plan (map as_condition conditions) list text recorded printed
IsRunFound true image plan conditions recorded printed text = (order : HangOrder) × IsHangRecorded image plan order text recorded printed

-- there is no such outcome, or no such hang is known, and what was found out was printed
abbrev pub TellsVain : Bool → List ℕ → ExplorePlan → List Condition → ExitStatus → Writer → Type 0
TellsVain false image plan conditions answered out = (text : List ℕ) × IsUntil image plan (map as_condition conditions) (Err answered) text × Took out text
TellsVain true image plan conditions answered out = (text : List ℕ) × IsHangAnswer image plan (Err answered) text × Took out text

-- what is looked for in a guest was recorded, and its trace is at the path of TRACE
pub record SearchFinds (at : Paths) (stored : Storing) (arguments : UntilArguments) (out : Writer) : Type 0 where
  pub image : List ℕ
  pub plan : ExplorePlan
  pub conditions : List Condition
  pub recorded : Recorded
  pub asked : AsksSearch at arguments image plan conditions
  pub found : RecordsRun recorded (IsRunFound arguments.hang image plan conditions recorded) (KeptAsAsked stored (string_bytes arguments.trace) arguments.output) out

-- there is none
pub record SearchMisses (at : Paths) (arguments : UntilArguments) (answered : ExitStatus) (out : Writer) : Type 0 where
  pub image : List ℕ
  pub plan : ExplorePlan
  pub conditions : List Condition
  pub asked : AsksSearch at arguments image plan conditions
  pub vain : TellsVain arguments.hang image plan conditions answered out

-- a hang was told, and its list spells no order of the guest's threads
pub record HangHasNoOrder (image : List ℕ) (plan : ExplorePlan) : Type 0 where
  pub order : HangOrder
  pub text : List ℕ
  pub told : IsHangAnswer image plan (Ok order) text
  pub guest : Guest
  pub is : guest_at image ≡ Ok guest
  pub none : order_of (length guest.entries) (string_bytes order.list) ≡ None

-- what a search prints: what was found out, and then the lines of a recording
abbrev pub IsSearchAnswer : Bool → List ℕ → ExplorePlan → List Condition → List ℕ → Type 0
IsSearchAnswer false image plan conditions text = ((found : Result (List ℕ) ExitStatus) × IsUntil image plan (map as_condition conditions) found text)
    ⊎ ((list before : List ℕ) × IsUntil image plan (map as_condition conditions) (Ok list) before × IsWithLines image (recording plan (Some list)) before text)
IsSearchAnswer true image plan conditions text = ((found : Result HangOrder ExitStatus) × IsHangAnswer image plan found text)
    ⊎ ((order : HangOrder) × (before : List ℕ) × IsHangAnswer image plan (Ok order) before × IsWithLines image (hang_plan plan order) before text)

abbrev pub IsSearchAnswerTo : Paths → UntilArguments → List ℕ → Type 0
IsSearchAnswerTo at arguments text = (image : List ℕ) × (plan : ExplorePlan) × (conditions : List Condition) × AsksSearch at arguments image plan conditions
    × IsSearchAnswer arguments.hang image plan conditions text

-- no run that is looked for is recorded: there is none, or the image has no guest or the hang no order, or there is a fault, which a line tells
abbrev pub UntilMisses : Bool → List ℕ → ExplorePlan → List Condition → ExitStatus → Writer → Writer → Type 0
UntilMisses hang image plan conditions answered out faults = TellsVain hang image plan conditions answered out
    ⊎ TellsNoSearch (LacksGuest image plan.profile ⊎ HangHasNoOrder image plan) (IsSearchAnswer hang image plan conditions) answered out faults

-- a search is refused, or the hang that it found can't be recorded by its list
abbrev pub RefusesUntil : Paths → UntilArguments → Type 0
RefusesUntil at arguments = RefusesSearch (at (string_bytes arguments.explore.image)) arguments.explore.profile arguments.until.items
    ⊎ ((image : List ℕ) × (plan : ExplorePlan) × (conditions : List Condition) × AsksSearch at arguments image plan conditions
    × HangHasNoOrder image plan)

-- what `ir explore --until` did: what is looked for was recorded; or there is none; or a fault stopped it
abbrev pub SearchesFile : Paths → Storing → UntilArguments → ExitStatus → Writer → Writer → Type 0
SearchesFile at stored arguments answered out faults = ((answered ≡ status.Done) × SearchFinds at stored arguments out)
    ⊎ (SearchMisses at arguments answered out ⊎ TellsNoSearch (RefusesUntil at arguments) (IsSearchAnswerTo at arguments) answered out faults)

-- ---- `ir shrink`

-- how the runs go that a run with this trace is shrunk to, but for their order, with these random words and over these bytes
abbrev pub plan_like : Recorded → ℕ → List ℕ → Plan
plan_like given random input = record { order = None; budget = given.budget; random = random; input = input; profile = given.profile }

-- a run with this trace is shrunk as the arguments say
pub record IsShrinkPlanOf (arguments : ShrinkArguments) (given : Recorded) (input : List ℕ) (plan : ShrinkPlan) : Type 0 where
  pub how : plan.record ≡ plan_like given arguments.random input
  pub conditions : AreWritten arguments.until.items plan.conditions.now
  pub stale : plan.stale ≡ arguments.stale
  pub seconds : plan.seconds ≡ arguments.seconds

-- which run of which guest is shrunk, by the bytes of the files that are read
pub record AsksShrink (at : Paths) (arguments : ShrinkArguments) (image : List ℕ) (given : Recorded) (plan : ShrinkPlan) : Type 0 where
  pub file : List ℕ
  pub input : List ℕ
  pub is_image : IsImageIn (at (string_bytes arguments.image)) image
  pub is_file : IsFileIn (at (string_bytes arguments.trace)) file
  pub is_given : recorded_at file ≡ Ok given
  pub is_input : IsInput at arguments.input input
  pub is_plan : IsShrinkPlanOf arguments given input plan

-- the run was shrunk to a run with this trace, whose threads printed this, and the text is its lines
pub record IsRunShrunk (image : List ℕ) (given : Recorded) (plan : ShrinkPlan) (is_minimal : Bool) (recorded : Recorded) (printed : List (List ℕ)) (text : List ℕ)
    : Type 0 where
  pub before : ℕ
  pub after : ℕ
  pub list : List ℕ
  pub shrinking : IsShrinking image plan given before after list is_minimal recorded printed
  pub line : text ≡ shrunk_lines before after list is_minimal

-- what the run was shrunk to was recorded: this holds of its trace and of what its threads printed, and its lines were printed
abbrev pub RecordsShrunkRun : List ℕ → Recorded → ShrinkPlan → Bool → Recorded → Keeping → Writer → Type 0
RecordsShrunkRun image given plan is_minimal recorded is_kept out = RecordsRun recorded (IsRunShrunk image given plan is_minimal recorded) is_kept out

-- what shrinking prints: to what the run is shrunk, and then the lines of its recording
abbrev pub IsShrinkAnswer : List ℕ → Recorded → ShrinkPlan → List ℕ → Type 0
IsShrinkAnswer image given plan text = (before after : ℕ) × (list : List ℕ) × (is_minimal : Bool) × IsShrunkIn image plan given before after list is_minimal
    × IsWithLines image (by_list plan.record list) (shrunk_lines before after list is_minimal) text

-- the run isn't shrunk, nothing was printed, and a line tells why: it fails a condition, or what is wanted of its stale writes, or there is a fault
pub record RefusesGiven (image : List ℕ) (given : Recorded) (plan : ShrinkPlan) (answered : ExitStatus) (out faults : Writer) : Type 0 where
  pub refusal : Refusal
  pub refuses : RefusesShrink refusal image plan given
  pub status : answered ≡ shrink_status refusal
  pub told : TellsFault faults
  pub unprinted : Took out []

-- the exit status of a run that was shrunk
abbrev pub shrunk_status : Bool → ExitStatus
shrunk_status true = status.Done
shrunk_status false = status.GaveUp

-- a run was shrunk, and the trace of what it was shrunk to is at the path of OUT
pub record ShrinksTo (at : Paths) (stored : Storing) (arguments : ShrinkArguments) (is_minimal : Bool) (out : Writer) : Type 0 where
  pub image : List ℕ
  pub given : Recorded
  pub plan : ShrinkPlan
  pub recorded : Recorded
  pub asked : AsksShrink at arguments image given plan
  pub shrunk : RecordsShrunkRun image given plan is_minimal recorded (KeptAsAsked stored (string_bytes arguments.out) arguments.output) out

-- it isn't shrunk
pub record ShrinkRefuses (at : Paths) (arguments : ShrinkArguments) (answered : ExitStatus) (out faults : Writer) : Type 0 where
  pub image : List ℕ
  pub given : Recorded
  pub plan : ShrinkPlan
  pub asked : AsksShrink at arguments image given plan
  pub why : RefusesGiven image given plan answered out faults

-- bytes aren't an image and a trace that one of its runs has, and the line or the lines that say so were printed
pub record PrintsUnfit (image trace : List ℕ) (answered : ExitStatus) (out : Writer) : Type 0 where
  pub text : List ℕ
  pub refusal : IsUnfitRefusal image trace answered text
  pub took : Took out text

-- the same of the two files
pub record UnfitToShrink (at : Paths) (arguments : ShrinkArguments) (answered : ExitStatus) (out : Writer) : Type 0 where
  pub image : List ℕ
  pub trace : List ℕ
  pub is_image : IsImageIn (at (string_bytes arguments.image)) image
  pub is_trace : IsFileIn (at (string_bytes arguments.trace)) trace
  pub unfit : PrintsUnfit image trace answered out

-- shrinking is refused: the image's file is an ELF file that is no guest; or there is a trace, and the guest lacks what it is asked for under the trace's profile
abbrev pub RefusesShrinking : Paths → ShrinkArguments → Type 0
RefusesShrinking at arguments = IfSome (at (string_bytes arguments.image)) IsNoGuest
    ⊎ ((file : List ℕ) × (given : Recorded) × IsFileIn (at (string_bytes arguments.trace)) file × (recorded_at file ≡ Ok given)
    × RefusesSearch (at (string_bytes arguments.image)) given.profile arguments.until.items)

-- what is printed about them: to what the run is shrunk, or that there is no such run
abbrev pub IsShrinkAnswerTo : Paths → ShrinkArguments → List ℕ → Type 0
IsShrinkAnswerTo at arguments text =
    ((image : List ℕ) × (given : Recorded) × (plan : ShrinkPlan) × AsksShrink at arguments image given plan × IsShrinkAnswer image given plan text)
    ⊎ ((image trace : List ℕ) × IsImageIn (at (string_bytes arguments.image)) image × IsFileIn (at (string_bytes arguments.trace)) trace × (answered : ExitStatus)
    × IsUnfitRefusal image trace answered text)

-- no run was shrunk: the run of the trace isn't as it has to be; or there is no such run; or nothing was searched
abbrev pub ShrinksNothing : Paths → ShrinkArguments → ExitStatus → Writer → Writer → Type 0
ShrinksNothing at arguments answered out faults = ShrinkRefuses at arguments answered out faults
    ⊎ (UnfitToShrink at arguments answered out ⊎ TellsNoSearch (RefusesShrinking at arguments) (IsShrinkAnswerTo at arguments) answered out faults)

-- what `ir shrink` did: a run was shrunk; or none
abbrev pub ShrinksFile : Paths → Storing → ShrinkArguments → ExitStatus → Writer → Writer → Type 0
ShrinksFile at stored arguments answered out faults = ((is_minimal : Bool) × (answered ≡ shrunk_status is_minimal) × ShrinksTo at stored arguments is_minimal out)
    ⊎ ShrinksNothing at arguments answered out faults

-- ---- `ir hunt --shrink`

-- a run that was found is shrunk as the hunt looked for it
pub record IsShrinkPlanOfHunt (hunt : HuntPlan) (given : Recorded) (plan : ShrinkPlan) : Type 0 where
  pub how : plan.record ≡ plan_like given hunt.record.random hunt.record.input
  pub conditions : plan.conditions.now ≡ hunt.conditions.now
  pub stale : plan.stale ≡ hunt.stale
  pub seconds : plan.seconds ≡ hunt.seconds

-- the run that was found was shrunk so
pub record ShrinksFound (image : List ℕ) (hunt : HuntPlan) (given : Recorded) (is_minimal : Bool) (is_kept : Keeping) (out : Writer) : Type 0 where
  pub plan : ShrinkPlan
  pub recorded : Recorded
  pub is_plan : IsShrinkPlanOfHunt hunt given plan
  pub shrunk : RecordsShrunkRun image given plan is_minimal recorded is_kept out

-- it wasn't
pub record RefusesFound (image : List ℕ) (hunt : HuntPlan) (given : Recorded) (answered : ExitStatus) (out faults : Writer) : Type 0 where
  pub plan : ShrinkPlan
  pub is_plan : IsShrinkPlanOfHunt hunt given plan
  pub why : RefusesGiven image given plan answered out faults

-- or its shrinking stopped: nothing more was printed, or the beginning of what shrinking prints
abbrev pub StopsFound : List ℕ → HuntPlan → Recorded → ExitStatus → Writer → Type 0
StopsFound image hunt given answered out = IsStatusOfNoRecording (LacksGuest image given.profile) answered
    × PrintsPart (λ text. (plan : ShrinkPlan) × IsShrinkPlanOfHunt hunt given plan × IsShrinkAnswer image given plan text) out

-- how the shrinking of a run that was found ended
abbrev pub EndsFound : List ℕ → HuntPlan → Recorded → Keeping → ExitStatus → Writer → Writer → Type 0
EndsFound image hunt given is_kept answered out faults =
    ((is_minimal : Bool) × (answered ≡ shrunk_status is_minimal) × ShrinksFound image hunt given is_minimal is_kept out × GoesOn faults.before faults.after)
    ⊎ (RefusesFound image hunt given answered out faults ⊎ StopsFound image hunt given answered out)

-- the run of the lowest seed that is found was recorded and its lines were printed, and then it was shrunk
pub record HuntsThenShrinks (image : List ℕ) (plan : HuntPlan) (is_kept : Keeping) (answered : ExitStatus) (out faults : Writer) : Type 0 where
  pub given : Recorded
  -- what was printed and reported by then
  pub said : Writer
  pub reported : Writer
  pub begins : (said.before ≡ out.before) × (reported.before ≡ faults.before)
  pub hunted : RecordsHunted image plan given is_kept said reported
  pub ended : EndsFound image plan given is_kept answered (writer_of said.after out.after out.failed) (writer_of reported.after faults.after faults.failed)

-- a guest was hunted in, and what was found was shrunk
pub record HuntsToShrink (at : Paths) (stored : Storing) (arguments : HuntArguments) (answered : ExitStatus) (out faults : Writer) : Type 0 where
  pub image : List ℕ
  pub plan : HuntPlan
  pub asked : AsksHunt at arguments image plan
  pub ended : HuntsThenShrinks image plan (KeptAsAsked stored (string_bytes arguments.trace) arguments.options.output) answered out faults
      ⊎ TellsNoSeed image plan answered out faults

-- what `ir hunt` did
abbrev pub HuntsFile : Paths → Storing → HuntArguments → ExitStatus → Writer → Writer → Type 0
HuntsFile at stored arguments answered out faults =
    ((arguments.shrinks ≡ false → Hunts at stored arguments answered out faults) × (arguments.shrinks ≡ true → HuntsToShrink at stored arguments answered out faults))
    ⊎ TellsNoSearch (RefusesSearch (at (string_bytes arguments.image)) arguments.options.profile arguments.until.items) (IsHuntAnswerTo at arguments) answered out faults
