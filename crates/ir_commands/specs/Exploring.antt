-- What `ir explore` prints of a guest's outcomes, by the bytes that a folder says are at the paths of its arguments.
use Rattle.std.specs.Prelude.{◌≡◌, ◌⊎◌, ◌<◌, ◌≤◌, ℕ, List, [], Option, option_map, IfSome, IsSomeAnd, MatchOption, Ok, String}
use Rattle.std.specs.String.{string_bytes}
use Rattle.std.specs.List.{Contains}
use Rattle.ir_image.specs.Guest.{Guest, object_count}
use Rattle.ir_files.specs.Writers.{Writer, Reports, fault_text}
use Rattle.ir_files.specs.declared.exit_status.ExitStatus.{ExitStatus}
use Rattle.ir_explore.specs.Plan.{ExplorePlan}
use Rattle.ir_explore.specs.Faults.{IsExplorable, TellsSearch, ToldNothing, explore_fault_status, explore_fault_words}
use Rattle.ir_explore.specs.declared.fault.ExploreFault.{ExploreFault}
use Rattle.ir_files.specs.declared.exit_status.ExitStatus.TheVariants as status
use Rattle.ir_thread.specs.declared.profile.Profile.{Profile}
use Rattle.ir_within.specs.Aspects.{Aspects}
use Rattle.ir_within.specs.Classes.{TellsClasses, HasNoClasses}
use Rattle.ir_within.specs.Faults.{Comparison, TellsWithin, ToldNone, AreFaultWords, within_fault_status}
use Rattle.ir_within.specs.declared.fault.WithinFault.{WithinFault}
use Rattle.ir_arguments.specs.declared.explore.ExploreArguments.{ExploreArguments}
use Rattle.ir_arguments.specs.declared.within.ClassesArguments.{ClassesArguments}
use Rattle.ir_arguments.specs.declared.within.Counted.{Counted}
use Rattle.ir_arguments.specs.declared.within.WithinArguments.{WithinArguments}
use Rattle.ir_commands.specs.Files.{IsFileIn, IsImageIn, IsStatusOfNone}
use Rattle.ir_commands.specs.Printing.{Paths}

-- these are the bytes that each thread reads: those of the file that is named, and none without a file
abbrev pub IsInput : {Z : Type 0} → Paths → Option (String Z) → List ℕ → Type 0
IsInput at file input = MatchOption file (input ≡ []) (λ path. IsFileIn (at (string_bytes path)) input)

-- the guest is explored as the arguments say
pub record IsPlanOf (arguments : ExploreArguments) (bytes : List ℕ) (plan : ExplorePlan) : Type 0 where
  pub states : plan.bounds.nodes ≡ arguments.reach.states
  pub private : plan.bounds.private ≡ arguments.reach.private
  pub switches : plan.switches ≡ arguments.reach.switches
  pub seconds : plan.bounds.seconds ≡ arguments.reach.seconds
  pub outcomes : plan.bounds.outcomes ≡ arguments.reach.outcomes
  pub profile : plan.profile ≡ arguments.profile
  pub random : plan.random ≡ arguments.random
  pub input : plan.input ≡ bytes

-- the answer about the guest of these bytes was printed whole; or why there is none, or not all of it, which is reported
abbrev pub Tells : List ℕ → ExplorePlan → ExitStatus → Writer → Writer → Type 0
Tells image plan answered out faults = TellsSearch image plan answered out
    ⊎ ((e : ExploreFault) × (answered ≡ explore_fault_status e) × ToldNothing e image plan out × Reports faults (fault_text (explore_fault_words e)))

-- the image and the input were read of their files, and the image's guest was explored
pub record Explores (at : Paths) (arguments : ExploreArguments) (answered : ExitStatus) (out faults : Writer) : Type 0 where
  pub image : List ℕ
  pub input : List ℕ
  pub plan : ExplorePlan
  pub is_image : IsImageIn (at (string_bytes arguments.image)) image
  pub is_input : IsInput at arguments.input input
  pub is_plan : IsPlanOf arguments input plan
  pub tells : Tells image plan answered out faults

-- what of outcomes counts, as the arguments say
abbrev pub counted_asked : Counted → Aspects
counted_asked counted = record { outputs = counted.outputs; ends = counted.ends; objects = option_map (λ v. v.items) counted.objects }

-- the guest lacks an object whose words count
abbrev pub LacksObject : Guest → Counted → Type 0
LacksObject guest counted = IsSomeAnd counted.objects (λ objects. (o : ℕ) × Contains objects.items o × (object_count guest ≤ o))

-- the guest has each object whose words count
abbrev pub HasObjects : Guest → Counted → Type 0
HasObjects guest counted = IfSome counted.objects (λ objects. (o : ℕ) → Contains objects.items o → o < object_count guest)

-- the guest of the bytes, which the profile allows, lacks an object whose words count
abbrev pub LacksCounted : List ℕ → Profile → Counted → Type 0
LacksCounted image profile counted = (guest : Guest) × IsExplorable image profile guest × LacksObject guest counted

-- the guest of the bytes has each object whose words count, if the profile allows it
abbrev pub HasCounted : List ℕ → Profile → Counted → Type 0
HasCounted image profile counted = (guest : Guest) → IsExplorable image profile guest → HasObjects guest counted

-- the exit status where it isn't shown that a guest has each object whose words count: memory ran out, or this is what it lacks
abbrev pub IsStatusOfLack : Type 0 → ExitStatus → Type 0
IsStatusOfLack lacks answered = (answered ≡ status.Failed) ⊎ ((answered ≡ status.BadArguments) × lacks)

-- the guest of the image in the file, which the profile allows, lacks an object whose words count
abbrev pub LacksIn : Option (List ℕ) → Profile → Counted → Type 0
LacksIn known profile counted = (image : List ℕ) × IsImageIn known image × LacksCounted image profile counted

-- the outcomes of the guest of these bytes were printed by classes; or why they weren't, or not all of them, which is reported
abbrev pub TellsByClass : List ℕ → ExplorePlan → Aspects → ExitStatus → Writer → Writer → Type 0
TellsByClass image plan aspects answered out faults = TellsClasses image plan aspects answered out
    ⊎ ((e : ExploreFault) × (answered ≡ explore_fault_status e) × HasNoClasses e image plan aspects out
    × Reports faults (fault_text (explore_fault_words e)))

-- the image and the input were read of their files, the image's guest has each object whose words count, and its outcomes were printed by classes
pub record ExploresClasses (at : Paths) (arguments : ClassesArguments) (answered : ExitStatus) (out faults : Writer) : Type 0 where
  pub image : List ℕ
  pub input : List ℕ
  pub plan : ExplorePlan
  pub is_image : IsImageIn (at (string_bytes arguments.explore.image)) image
  pub is_input : IsInput at arguments.explore.input input
  pub is_plan : IsPlanOf arguments.explore input plan
  pub has : HasCounted image plan.profile arguments.counted
  pub tells : TellsByClass image plan (counted_asked arguments.counted) answered out faults

-- the exit status where no classes are printed: the image isn't taken, or its guest lacks an object whose words count
abbrev pub IsStatusOfNoClasses : Paths → ClassesArguments → ExitStatus → Type 0
IsStatusOfNoClasses at arguments answered = IsStatusOfNone (at (string_bytes arguments.explore.image)) answered
    ⊎ ((answered ≡ status.BadArguments) × LacksIn (at (string_bytes arguments.explore.image)) arguments.explore.profile arguments.counted)

-- the outcomes of two guests were compared; or why they weren't, which is reported
abbrev pub TellsComparison : Comparison → ExitStatus → Writer → Writer → Type 0
TellsComparison c answered out faults = TellsWithin c answered out
    ⊎ ((e : WithinFault) × (answered ≡ within_fault_status e) × ToldNone e c out
    × ((words : List ℕ) × AreFaultWords e words × Reports faults (fault_text words)))

-- guests are compared as the arguments say, and both have each object whose words count
pub record IsComparisonOf (arguments : WithinArguments) (image other input : List ℕ) (c : Comparison) : Type 0 where
  pub is_image : c.image ≡ image
  pub is_other : c.other ≡ other
  pub is_plan : IsPlanOf arguments.explore input c.plan
  pub counts : c.aspects ≡ counted_asked arguments.counted
  pub has : HasCounted c.image c.plan.profile arguments.counted
  pub other_has : HasCounted c.other c.plan.profile arguments.counted

-- which guests are compared, in what, and how far they are explored, by the bytes of the files that are read; both have each object whose words count
pub record AsksComparison (at : Paths) (arguments : WithinArguments) (c : Comparison) : Type 0 where
  pub input : List ℕ
  pub is_image : IsImageIn (at (string_bytes arguments.explore.image)) c.image
  pub is_other : IsImageIn (at (string_bytes arguments.other)) c.other
  pub is_input : IsInput at arguments.explore.input input
  pub is : IsComparisonOf arguments c.image c.other input c

-- both images and the input were read of their files, and the outcomes of the images' guests compared
pub record Compares (at : Paths) (arguments : WithinArguments) (answered : ExitStatus) (out faults : Writer) : Type 0 where
  pub comparison : Comparison
  pub asked : AsksComparison at arguments comparison
  pub tells : TellsComparison comparison answered out faults

-- the exit status where nothing is compared: an image isn't taken, or its guest lacks an object whose words count
abbrev pub IsStatusOfNoComparison : Paths → WithinArguments → ExitStatus → Type 0
IsStatusOfNoComparison at arguments answered = IsStatusOfNone (at (string_bytes arguments.explore.image)) answered
    ⊎ (IsStatusOfNone (at (string_bytes arguments.other)) answered
    ⊎ ((answered ≡ status.BadArguments)
    × (LacksIn (at (string_bytes arguments.explore.image)) arguments.explore.profile arguments.counted
    ⊎ LacksIn (at (string_bytes arguments.other)) arguments.explore.profile arguments.counted)))
