-- Why there is no answer, or not all of it, and what that leaves.
use Rattle.std.specs.Prelude.{◌≡◌, ◌⊎◌, ℕ, List, [], ◌++◌, codes}
use Rattle.ir_files.specs.Writers.{Writer, Took, Failed}
use Rattle.ir_files.specs.declared.exit_status.ExitStatus.{ExitStatus}
use Rattle.ir_image.specs.Guest.{Guest}
use Rattle.ir_explore.specs.Faults.{HasNoGuest, IsExplorable, explore_fault_status, explore_fault_words}
use Rattle.ir_explore.specs.Plan.{ExplorePlan}
use Rattle.ir_explore.specs.declared.fault.ExploreFault.TheVariants as explore
use Rattle.ir_within.specs.Aspects.{Aspects}
use Rattle.ir_within.specs.Within.{IsWithinAnswer, verdict_status}
use Rattle.ir_within.specs.declared.fault.WithinFault.{WithinFault}
use Rattle.ir_within.specs.declared.fault.WithinFault.TheVariants.{Image, Other, Unwritten}
use Rattle.ir_within.specs.declared.verdict.Verdict.{Verdict}

-- the two guests that are compared, and how
pub record Comparison : Type 0 where
  pub image : List ℕ
  pub other : List ℕ
  pub plan : ExplorePlan
  pub aspects : Aspects

-- the answer about the guests that both images encode
pub record IsAnswerFor (c : Comparison) (verdict : Verdict) (text : List ℕ) : Type 0 where
  pub guest : Guest
  pub other : Guest
  pub is : IsExplorable c.image c.plan.profile guest
  pub other_is : IsExplorable c.other c.plan.profile other
  pub answer : IsWithinAnswer c.aspects guest other c.plan verdict text

-- it was written whole
pub record TellsWithin (c : Comparison) (answered : ExitStatus) (w : Writer) : Type 0 where
  pub verdict : Verdict
  pub text : List ℕ
  pub is : IsAnswerFor c verdict text
  pub status : answered ≡ verdict_status verdict
  pub took : Took w text

-- the exit status of a fault
abbrev pub within_fault_status : WithinFault → ExitStatus
within_fault_status (Image e) = explore_fault_status e
within_fault_status (Other e) = explore_fault_status e
within_fault_status (Unwritten e) = explore_fault_status e

-- the words of a fault: a fault of the other image may be told as such, if there is memory for it
abbrev pub AreFaultWords : WithinFault → List ℕ → Type 0
AreFaultWords (Image e) words = words ≡ explore_fault_words e
AreFaultWords (Other e) words = (words ≡ codes "OTHER: " ++ explore_fault_words e) ⊎ (words ≡ explore_fault_words e)
AreFaultWords (Unwritten e) words = words ≡ explore_fault_words e

-- An image is refused, or its guest is too large, and nothing is written; or memory ran out before anything was written; or the writer failed.
abbrev pub ToldNone : WithinFault → Comparison → Writer → Type 0
ToldNone (Image e) c w = HasNoGuest e c.image c.plan w
ToldNone (Other e) c w = HasNoGuest e c.other c.plan w
ToldNone (Unwritten explore.NoMem) c w = Took w []
ToldNone (Unwritten explore.Write) c w = (verdict : Verdict) × (text : List ℕ) × IsAnswerFor c verdict text × Failed w text
ToldNone (Unwritten other) c w = ⊥
