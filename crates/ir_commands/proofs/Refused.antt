-- Why commands that record answer status 3.
use Rattle.std.proofs.Common.{◌≡◌, ◌⊎◌, ◌∙◌, List, ℕ, Bool, true, false, true≢false, Option, Some, None, ap, inl, inr, refl, subst, sym, length, arith}
use Rattle.std.specs.Option.{option_map_or, is_some}
use Rattle.std.specs.Prelude.{Result, Ok, Err, IfSome}
use Rattle.ir_explore.specs.Faults.{HasNoGuest, explore_fault_status}
use Rattle.ir_explore.specs.Hang.{HasNoHangAnswer}
use Rattle.ir_explore.specs.Plan.{ExplorePlan}
use Rattle.ir_explore.specs.Until.{HasNoAnswer}
use Rattle.ir_explore.specs.declared.fault.ExploreFault.{ExploreFault}
use Rattle.ir_explore.specs.declared.fault.ExploreFault.TheVariants as explore
use Rattle.ir_files.specs.Outputs.{OutputWriter}
use Rattle.ir_files.specs.Statuses.{status_number}
use Rattle.ir_files.specs.Writers.{Writer}
use Rattle.ir_files.specs.declared.exit_status.ExitStatus.{ExitStatus}
use Rattle.ir_files.specs.declared.exit_status.ExitStatus.TheVariants as status
use Rattle.ir_hunt.specs.Stopping.{RefusesHunt}
use Rattle.ir_image.specs.Guest.{Guest, guest_at}
use Rattle.ir_image.specs.declared.image_err.ImageErr.{ImageErr}
use Rattle.ir_record_command.specs.Faults.{RefusesRecord, StopsRecord, fault_status}
use Rattle.ir_record_command.specs.Order.{order_of}
use Rattle.ir_record_command.specs.Plan.{Plan}
use Rattle.ir_record_command.specs.declared.record_fault.RecordFault.{RecordFault}
use Rattle.ir_record_command.specs.declared.record_fault.RecordFault.TheVariants.{Clock, Image, TooLarge, Order, NoMem, Trace, Output, Lines}
use Rattle.ir_schedule.specs.Conditions.{Condition}
use Rattle.ir_thread.specs.State.{IsAllowed}
use Rattle.ir_thread.specs.declared.profile.Profile.{Profile}
use Rattle.ir_commands.specs.Files.{IsNoGuest, IsStatusOfNone, LacksGuest}
use Rattle.ir_commands.specs.Writing.{IsStatusOfNoRecording}

pub failed_is_not_refused : {A : Type 0} → status.Failed ≡ status.Refused → A
failed_is_not_refused e = let bad : 1 ≡ 3 = ap status_number e in absurd (omega (arith, bad))

abbrev is_ok : {A E : Type 0} → Result A E → Bool
is_ok (Ok x) = true
is_ok (Err e) = false

abbrev guest_or : Guest → Result Guest ImageErr → Guest
guest_or other (Ok guest) = guest
guest_or other (Err e) = other

pub guests_are_same : (a b : Guest) → ◌≡◌ {A = Result Guest ImageErr} (Ok a) (Ok b) → a ≡ b
guests_are_same a b e = ap (guest_or a) e

lists_are_same : {a b : List ℕ} → Some a ≡ Some b → a ≡ b
lists_are_same {a} {b} e = ap (λ (o : Option (List ℕ)). option_map_or (λ z. z) o a) e

-- ---- statuses

-- what refuses may stand for what follows from it
pub refused_since : {one other : Type 0} {answered : ExitStatus} → (one → other) → IsStatusOfNoRecording one answered → IsStatusOfNoRecording other answered
refused_since to (inl bad) = inl bad
refused_since to (inr (inl failed)) = inr (inl failed)
refused_since to (inr (inr refused)) = inr (inr (refused.0, to refused.1))

-- the status of a fault is that of no recording
pub fault_is_no_recording : {refuses : Type 0} (e : RecordFault) {answered : ExitStatus} → (fault_status e ≡ status.Refused → refuses) → answered ≡ fault_status e
    → IsStatusOfNoRecording refuses answered
fault_is_no_recording (Image e) why p = inr (inr (p, why refl))
fault_is_no_recording TooLarge why p = inr (inr (p, why refl))
fault_is_no_recording (Order threads) why p = inr (inr (p, why refl))
fault_is_no_recording NoMem why p = inr (inl p)
fault_is_no_recording Clock why p = inr (inl p)
fault_is_no_recording Trace why p = inr (inl p)
fault_is_no_recording Output why p = inr (inl p)
fault_is_no_recording Lines why p = inr (inl p)

pub explore_fault_is : {refuses : Type 0} (e : ExploreFault) {answered : ExitStatus} → (explore_fault_status e ≡ status.Refused → refuses)
    → answered ≡ explore_fault_status e → IsStatusOfNoRecording refuses answered
explore_fault_is (explore.Image e) why p = inr (inr (p, why refl))
explore_fault_is explore.TooLarge why p = inr (inr (p, why refl))
explore_fault_is explore.NoMem why p = inr (inl p)
explore_fault_is explore.Write why p = inr (inl p)

-- the status where no image is had of a file
pub none_is_no_recording : {refuses : Type 0} (known : Option (List ℕ)) {answered : ExitStatus} → (IfSome known IsNoGuest → refuses)
    → IsStatusOfNone known answered → IsStatusOfNoRecording refuses answered
none_is_no_recording known to (inl failed) = inr (inl failed)
none_is_no_recording known to (inr refused) = inr (inr (refused.0, to refused.1))

-- ---- guests

-- an image that is refused has no guest
pub faulty_lacks_guest : (image : List ℕ) (profile : Profile) (e : ImageErr) → guest_at image ≡ Err e → LacksGuest image profile
faulty_lacks_guest image profile e bad guest is allowed = true≢false (sym (ap is_ok (sym bad ∙ is)))

-- a guest that isn't allowed is none
pub unallowed_lacks_guest : (image : List ℕ) (profile : Profile) (large : Guest) → guest_at image ≡ Ok large → (IsAllowed profile large → ⊥) → LacksGuest image profile
unallowed_lacks_guest image profile large is not guest same allowed =
    not (subst (IsAllowed profile) (guests_are_same guest large (sym same ∙ is)) allowed)

-- why a hunt tries no seed
pub hunt_lacks_guest : (e : RecordFault) (image : List ℕ) (plan : Plan) → RefusesHunt e image plan → fault_status e ≡ status.Refused → LacksGuest image plan.profile
hunt_lacks_guest (Image e) image plan r is = faulty_lacks_guest image plan.profile e r.refused
hunt_lacks_guest TooLarge image plan r is = unallowed_lacks_guest image plan.profile r.refused.0 r.refused.1 r.refused.2
hunt_lacks_guest (Order threads) image plan r is = absurd (r.no_list threads refl)
hunt_lacks_guest NoMem image plan r is = failed_is_not_refused is
hunt_lacks_guest Clock image plan r is = failed_is_not_refused is
hunt_lacks_guest Trace image plan r is = failed_is_not_refused is
hunt_lacks_guest Output image plan r is = failed_is_not_refused is
hunt_lacks_guest Lines image plan r is = failed_is_not_refused is

spells_none : (image list : List ℕ) (plan : Plan) (guest : Guest) (threads : ℕ) → guest_at image ≡ Ok guest → plan.order ≡ Some list
    → RefusesRecord (Order threads) image plan → order_of (length guest.entries) list ≡ None
spells_none image list plan guest threads is order r =
    let own : r.0 ≡ guest = guests_are_same r.0 guest (sym r.2 ∙ is) in
    let same : r.1 ≡ list = lists_are_same (sym r.7 ∙ order) in
    let many : threads ≡ length guest.entries = r.4 ∙ ap (λ (g : Guest). length g.entries) own in
    ap (λ n. order_of n list) (sym many) ∙ ap (order_of threads) (sym same) ∙ r.8

-- why the recording of a guest by a list stopped
pub stopped_lacks_guest : (e : RecordFault) (image list : List ℕ) (plan : Plan) (guest : Guest) (trace : Writer) (outputs : OutputWriter) (out : Writer) (all later last : Type 0)
    → guest_at image ≡ Ok guest → plan.order ≡ Some list → StopsRecord e image plan trace outputs out all later last → fault_status e ≡ status.Refused
    → LacksGuest image plan.profile ⊎ (order_of (length guest.entries) list ≡ None)
stopped_lacks_guest (Image e) image list plan guest trace outputs out all later last is order (inl r) refused = inl (faulty_lacks_guest image plan.profile e r.0)
stopped_lacks_guest (Image e) image list plan guest trace outputs out all later last is order (inr w) refused = absurd w.3
stopped_lacks_guest TooLarge image list plan guest trace outputs out all later last is order (inl r) refused = inl (unallowed_lacks_guest image plan.profile r.0.0 r.0.1 r.0.2)
stopped_lacks_guest TooLarge image list plan guest trace outputs out all later last is order (inr w) refused = absurd w.3
stopped_lacks_guest (Order threads) image list plan guest trace outputs out all later last is order (inl r) refused = inr (spells_none image list plan guest threads is order r.0)
stopped_lacks_guest (Order threads) image list plan guest trace outputs out all later last is order (inr w) refused = absurd w.3
stopped_lacks_guest NoMem image list plan guest trace outputs out all later last is order s refused = failed_is_not_refused refused
stopped_lacks_guest Clock image list plan guest trace outputs out all later last is order s refused = failed_is_not_refused refused
stopped_lacks_guest Trace image list plan guest trace outputs out all later last is order s refused = failed_is_not_refused refused
stopped_lacks_guest Output image list plan guest trace outputs out all later last is order s refused = failed_is_not_refused refused
stopped_lacks_guest Lines image list plan guest trace outputs out all later last is order s refused = failed_is_not_refused refused

-- the same where the list spells an order
pub spelled_lacks_guest : {T lacks : Type 0} (spelled : T) {order : Option T} → order ≡ Some spelled → lacks ⊎ (order ≡ None) → lacks
spelled_lacks_guest spelled is (inl lacks) = lacks
spelled_lacks_guest spelled is (inr none) = absurd (true≢false (sym (ap is_some (sym none ∙ is))))

-- why no guest is explored
pub explored_lacks_guest : (e : ExploreFault) (image : List ℕ) (plan : ExplorePlan) (w : Writer) → HasNoGuest e image plan w → explore_fault_status e ≡ status.Refused
    → LacksGuest image plan.profile
explored_lacks_guest (explore.Image e) image plan w h is = faulty_lacks_guest image plan.profile e h.0
explored_lacks_guest explore.TooLarge image plan w h is = unallowed_lacks_guest image plan.profile h.0.0 h.0.1 h.0.2
explored_lacks_guest explore.NoMem image plan w h is = failed_is_not_refused is
explored_lacks_guest explore.Write image plan w h is = failed_is_not_refused is

pub answer_lacks_guest : (e : ExploreFault) (image : List ℕ) (plan : ExplorePlan) (conditions : List Condition) (w : Writer) → HasNoAnswer e image plan conditions w
    → explore_fault_status e ≡ status.Refused → LacksGuest image plan.profile
answer_lacks_guest (explore.Image e) image plan conditions w h is = explored_lacks_guest (explore.Image e) image plan w h is
answer_lacks_guest explore.TooLarge image plan conditions w h is = explored_lacks_guest explore.TooLarge image plan w h is
answer_lacks_guest explore.NoMem image plan conditions w h is = failed_is_not_refused is
answer_lacks_guest explore.Write image plan conditions w h is = failed_is_not_refused is

pub hang_lacks_guest : (e : ExploreFault) (image : List ℕ) (plan : ExplorePlan) (w : Writer) → HasNoHangAnswer e image plan w
    → explore_fault_status e ≡ status.Refused → LacksGuest image plan.profile
hang_lacks_guest (explore.Image e) image plan w h is = explored_lacks_guest (explore.Image e) image plan w h is
hang_lacks_guest explore.TooLarge image plan w h is = explored_lacks_guest explore.TooLarge image plan w h is
hang_lacks_guest explore.NoMem image plan w h is = failed_is_not_refused is
hang_lacks_guest explore.Write image plan w h is = failed_is_not_refused is
