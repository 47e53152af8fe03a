-- Why a guest's answer wasn't printed, or not all of it, and what that leaves.
use Rattle.std.specs.Prelude.{◌≡◌, ◌⊎◌, ℕ, List, [], codes, Ok, Err}
use Rattle.ir_files.specs.Writers.{Writer, Took, Failed}
use Rattle.ir_files.specs.declared.exit_status.ExitStatus.{ExitStatus}
use Rattle.ir_files.specs.declared.exit_status.ExitStatus.TheVariants as status
use Rattle.ir_image.specs.Guest.{Guest, guest_at}
use Rattle.ir_image.specs.declared.image_err.ImageErr.{ImageErr}
use Rattle.ir_image.specs.declared.image_err.ImageErr.TheVariants as image
use Rattle.ir_record_command.specs.Faults.{image_words}
use Rattle.ir_record_command.specs.Faults as record_run
use Rattle.ir_record_command.specs.declared.record_fault.RecordFault.TheVariants as record_run_fault
use Rattle.ir_thread.specs.State.{IsAllowed}
use Rattle.ir_thread.specs.declared.profile.Profile.{Profile}
use Rattle.ir_explore.specs.Printed.{EndsEarly}
use Rattle.ir_explore.specs.Texts.{IsAnswerAbout}
use Rattle.ir_explore.specs.Plan.{ExplorePlan, setup_of}
use Rattle.ir_explore.specs.declared.fault.ExploreFault.{ExploreFault}
use Rattle.ir_explore.specs.declared.fault.ExploreFault.TheVariants.{Image, TooLarge, NoMem, Write}

-- the fault that a refusal of the image is
abbrev pub explore_image_fault : ImageErr → ExploreFault
explore_image_fault image.NoMem = NoMem
explore_image_fault image.Short = Image image.Short
explore_image_fault image.Magic = Image image.Magic
explore_image_fault image.Count = Image image.Count
explore_image_fault image.Entry = Image image.Entry
explore_image_fault image.Trailing = Image image.Trailing

-- the exit status of a fault
abbrev pub explore_fault_status : ExploreFault → ExitStatus
explore_fault_status (Image e) = status.Refused
explore_fault_status TooLarge = status.Refused
explore_fault_status NoMem = status.Failed
explore_fault_status Write = status.Failed

-- a fault in words
abbrev pub explore_fault_words : ExploreFault → List ℕ
explore_fault_words (Image e) = image_words e
explore_fault_words TooLarge = record_run.record_fault_words record_run_fault.TooLarge
explore_fault_words NoMem = codes "memory ran out"
explore_fault_words Write = codes "standard output can't be written"

-- these bytes encode the guest, which the profile allows
abbrev pub IsExplorable : List ℕ → Profile → Guest → Type 0
IsExplorable bytes profile guest = (guest_at bytes ≡ Ok guest) × IsAllowed profile guest

-- the answer about the guest that these bytes encode was written whole
pub record TellsSearch (bytes : List ℕ) (plan : ExplorePlan) (answered : ExitStatus) (w : Writer) : Type 0 where
  pub guest : Guest
  pub is : IsExplorable bytes plan.profile guest
  pub text : List ℕ
  pub answer : IsAnswerAbout guest plan answered text
  pub took : Took w text

-- why the answer about a guest isn't printed whole: out of memory, or the writer failed, while outcomes were printed, or in all of the answer
abbrev pub StopsPrinting : ExploreFault → Guest → ExplorePlan → Writer → Type 0
StopsPrinting e guest plan w = EndsEarly e (setup_of guest plan) w
    ⊎ ((e ≡ Write) × (answered : ExitStatus) × (text : List ℕ) × IsAnswerAbout guest plan answered text × Failed w text)

-- Why no guest is explored, and nothing is written: the image is refused, or its guest is too large; or memory ran out.
abbrev pub HasNoGuest : ExploreFault → List ℕ → ExplorePlan → Writer → Type 0
HasNoGuest (Image e) bytes plan w = (guest_at bytes ≡ Err e) × Took w []
HasNoGuest TooLarge bytes plan w = ((guest : Guest) × (guest_at bytes ≡ Ok guest) × (IsAllowed plan.profile guest → ⊥)) × Took w []
HasNoGuest NoMem bytes plan w = Took w []
HasNoGuest Write bytes plan w = ⊥

-- Why there is no answer, or not all of it. The image is refused for its first fault, or its guest is too large: then nothing is written. Or memory
-- ran out, before anything was written or while outcomes were printed; or the writer failed.
abbrev pub ToldNothing : ExploreFault → List ℕ → ExplorePlan → Writer → Type 0
ToldNothing (Image e) bytes plan w = HasNoGuest (Image e) bytes plan w
ToldNothing TooLarge bytes plan w = HasNoGuest TooLarge bytes plan w
ToldNothing NoMem bytes plan w = Took w [] ⊎ ((guest : Guest) × IsExplorable bytes plan.profile guest × StopsPrinting NoMem guest plan w)
ToldNothing Write bytes plan w = (guest : Guest) × IsExplorable bytes plan.profile guest × StopsPrinting Write guest plan w
