-- The classes of a guest's outcomes: those that are the same in what counts are in one class.
use Rattle.std.specs.Prelude.{◌≡◌, ◌⊎◌, ℕ, ◌<◌, Bool, true, false, List, ◌∷◌, [], ◌++◌, codes, decimal, length, slice_get, Some}
use Rattle.ir_files.specs.Writers.{Writer, Took, Failed}
use Rattle.ir_files.specs.declared.exit_status.ExitStatus.{ExitStatus}
use Rattle.ir_flat.specs.Flat.{tables}
use Rattle.ir_graph.specs.Outcomes.{RunOutcome, run_outcome}
use Rattle.ir_image.specs.Guest.{Guest}
use Rattle.ir_outcomes.specs.Explored.{ShowsState}
use Rattle.ir_outcomes.specs.declared.shown.Shown.{Shown}
use Rattle.ir_schedule.specs.Conditions.{EndState}
use Rattle.ir_state_store.specs.Nodes.{SourcedFlat}
use Rattle.ir_explore.specs.Faults.{HasNoGuest, IsExplorable}
use Rattle.ir_explore.specs.Plan.{ExplorePlan}
use Rattle.ir_explore.specs.Texts.{Known, AreKnown, IsEnding, IsStopped, objects_of}
use Rattle.ir_explore.specs.declared.fault.ExploreFault.{ExploreFault}
use Rattle.ir_explore.specs.declared.fault.ExploreFault.TheVariants.{Image, TooLarge, NoMem, Write}
use Rattle.ir_within.specs.Aspects.{Aspects, seen}
use Rattle.ir_within.specs.Judging.{AreSeen}
use Rattle.ir_within.specs.Within.{AreMarkedTexts, marked_count}

-- of each of these it is said whether it is the first of its kind: no earlier one is equal
pub record AreFirstSeen (all : List EndState) (many : ℕ) (firsts : List Bool) : Type 0 where
  pub count : length firsts ≡ many
  pub later : (i : ℕ) (x : EndState) → slice_get all i ≡ Some x → slice_get firsts i ≡ Some false → (j : ℕ) × (j < i) × (slice_get all j ≡ Some x)
  pub first : (i : ℕ) (x : EndState) → slice_get all i ≡ Some x → slice_get firsts i ≡ Some true → (j : ℕ) → j < i → slice_get all j ≡ Some x → ⊥

-- of each listed outcome it is said whether what counts of it is the first of its kind
abbrev pub AreFirsts : Aspects → List SourcedFlat → List Shown → List Bool → Type 0
AreFirsts a flats outcomes firsts = (all : List EndState) × AreSeen a flats outcomes all × AreFirstSeen all (length all) firsts

-- an outcome that is listed before place i is the same in what counts
abbrev pub HasEarlier : Aspects → Guest → Known → ℕ → RunOutcome → Type 0
HasEarlier a guest k i x = (j : ℕ) × (y : Shown) × (s : SourcedFlat) × (j < i) × ShowsState k.flats k.outcomes j y s
    × (seen a guest x ≡ seen a guest (run_outcome (tables s.flat)))

-- of each listed outcome it is said whether it is the first of its class
pub record AreClasses (a : Aspects) (guest : Guest) (k : Known) (firsts : List Bool) : Type 0 where
  pub count : length firsts ≡ length k.outcomes
  pub later : (i : ℕ) (x : Shown) (s : SourcedFlat) → ShowsState k.flats k.outcomes i x s → slice_get firsts i ≡ Some false
      → HasEarlier a guest k i (run_outcome (tables s.flat))
  pub first : (i : ℕ) (x : Shown) (s : SourcedFlat) → ShowsState k.flats k.outcomes i x s → slice_get firsts i ≡ Some true
      → HasEarlier a guest k i (run_outcome (tables s.flat)) → ⊥

-- how many classes there are
abbrev pub classes_line : ℕ → List ℕ
classes_line many = codes "classes " ++ (decimal many ++ 10 ∷ [])

-- the first listed outcome of each class is printed, with its number among all; then a hang if one is known, how the search ended, and how many
-- classes there are
pub record IsClassesText (a : Aspects) (guest : Guest) (k : Known) (answered : ExitStatus) (text : List ℕ) : Type 0 where
  pub firsts : List Bool
  pub classes : AreClasses a guest k firsts
  pub lines : List ℕ
  pub texts : AreMarkedTexts (objects_of guest) k firsts (length k.outcomes) lines
  pub last_lines : List ℕ
  pub ending : IsEnding k answered last_lines
  pub whole : text ≡ lines ++ (last_lines ++ classes_line (marked_count firsts))

-- the answer about the classes of a guest's outcomes: those that are known; or none, and why
abbrev pub IsClassesAnswer : Aspects → Guest → ExplorePlan → ExitStatus → List ℕ → Type 0
IsClassesAnswer a guest plan answered text = ((k : Known) × AreKnown guest plan k × IsClassesText a guest k answered text)
    ⊎ IsStopped guest plan answered text

-- the same of the guest that these bytes encode, which the profile allows
pub record IsClassesOf (image : List ℕ) (plan : ExplorePlan) (a : Aspects) (answered : ExitStatus) (text : List ℕ) : Type 0 where
  pub guest : Guest
  pub is : IsExplorable image plan.profile guest
  pub answer : IsClassesAnswer a guest plan answered text

-- it was written whole
pub record TellsClasses (image : List ℕ) (plan : ExplorePlan) (a : Aspects) (answered : ExitStatus) (w : Writer) : Type 0 where
  pub text : List ℕ
  pub is : IsClassesOf image plan a answered text
  pub took : Took w text

-- Why there is no answer: the image is refused or its guest too large, as without aspects; or memory ran out, and nothing was written; or the
-- writer failed in it.
abbrev pub HasNoClasses : ExploreFault → List ℕ → ExplorePlan → Aspects → Writer → Type 0
HasNoClasses (Image e) image plan a w = HasNoGuest (Image e) image plan w
HasNoClasses TooLarge image plan a w = HasNoGuest TooLarge image plan w
HasNoClasses NoMem image plan a w = HasNoGuest NoMem image plan w
HasNoClasses Write image plan a w = (answered : ExitStatus) × (text : List ℕ) × IsClassesOf image plan a answered text × Failed w text
