-- Whether a guest has each object whose words count.
use Rattle.std.proofs.Common.{◌≡◌, ◌∙◌, ◌⊎◌, List, ℕ, Option, Some, [], inl, inr, subst, sym}
use Rattle.std.specs.Prelude.{Ok, false}
use Rattle.std.specs.String.{string_bytes}
use Rattle.std.proofs.KnownBytes.{Appends-nil}
use Rattle.ir_arguments.specs.declared.within.ClassesArguments.{ClassesArguments}
use Rattle.ir_arguments.specs.declared.within.Counted.{Counted}
use Rattle.ir_explore.specs.Faults.{HasNoGuest, explore_fault_status}
use Rattle.ir_explore.specs.Plan.{ExplorePlan}
use Rattle.ir_explore.specs.declared.fault.ExploreFault.{ExploreFault}
use Rattle.ir_files.specs.Writers.{Writer, Took, writer_of}
use Rattle.ir_files.specs.declared.exit_status.ExitStatus.{ExitStatus}
use Rattle.ir_files.specs.declared.exit_status.ExitStatus.TheVariants as status
use Rattle.ir_image.specs.Guest.{Guest, guest_at}
use Rattle.ir_thread.specs.declared.profile.Profile.{Profile}
use Rattle.ir_commands.specs.Exploring.{HasCounted, HasObjects, IsStatusOfLack, IsStatusOfNoClasses, LacksCounted}
use Rattle.ir_commands.specs.Files.{IsImageIn}
use Rattle.ir_commands.specs.Printing.{Paths}
use Rattle.ir_commands.proofs.Refused.{explored_lacks_guest, guests_are_same}

-- a refused guest isn't explored, so no explored guest lacks an object
pub refused_has_counted : (e : ExploreFault) (image : List ℕ) (plan : ExplorePlan) (counted : Counted)
    → ((w : Writer) → Took w [] → HasNoGuest e image plan w) → explore_fault_status e ≡ status.Refused → HasCounted image plan.profile counted
refused_has_counted e image plan counted refused is guest explored =
    let bytes : Option (List ℕ) = Some [] in
    absurd (explored_lacks_guest e image plan (writer_of bytes bytes false) (refused (writer_of bytes bytes false) (Appends-nil bytes)) is guest explored.0 explored.1)

-- bytes encode a single guest
pub guest_has_counted : (image : List ℕ) (profile : Profile) (counted : Counted) (guest : Guest) → guest_at image ≡ Ok guest → HasObjects guest counted
    → HasCounted image profile counted
guest_has_counted image profile counted guest is has other explored = subst (λ (g : Guest). HasObjects g counted) (guests_are_same guest other (sym is ∙ explored.0)) has

-- the exit status where a guest isn't shown to have each object whose words count
pub no_classes_for_lack : (at : Paths) (arguments : ClassesArguments) {image first : List ℕ} {profile : Profile} {answered : ExitStatus}
    → IsImageIn (at (string_bytes arguments.explore.image)) image → first ≡ image → profile ≡ arguments.explore.profile
    → IsStatusOfLack (LacksCounted first profile arguments.counted) answered → IsStatusOfNoClasses at arguments answered
no_classes_for_lack at arguments is same allowed (inl failed) = inl (inl failed)
no_classes_for_lack at arguments {image} {first} is same allowed (inr h) = inr (
  h.0,
  (
    image,
    is,
    subst (λ z. LacksCounted z arguments.explore.profile arguments.counted) same (subst (λ p. LacksCounted first p arguments.counted) allowed h.1),
  ),
)

-- the first of two guests isn't shown to have each object
pub lack_of_first : (image other : List ℕ) {profile asked : Profile} (counted : Counted) {answered : ExitStatus} → profile ≡ asked
    → IsStatusOfLack (LacksCounted image profile counted) answered → IsStatusOfLack (LacksCounted image asked counted ⊎ LacksCounted other asked counted) answered
lack_of_first image other counted same (inl failed) = inl failed
lack_of_first image other counted same (inr h) = inr (h.0, inl (subst (λ p. LacksCounted image p counted) same h.1))

-- the second isn't
pub lack_of_second : (image other : List ℕ) {profile asked : Profile} (counted : Counted) {answered : ExitStatus} → profile ≡ asked
    → IsStatusOfLack (LacksCounted other profile counted) answered → IsStatusOfLack (LacksCounted image asked counted ⊎ LacksCounted other asked counted) answered
lack_of_second image other counted same (inl failed) = inl failed
lack_of_second image other counted same (inr h) = inr (h.0, inr (subst (λ p. LacksCounted other p counted) same h.1))
