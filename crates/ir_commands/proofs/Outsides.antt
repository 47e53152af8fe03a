-- What a comparison that records leaves where nothing is recorded.
use Rattle.std.proofs.Common.{◌≡◌, ◌∙◌, ◌⊎◌, List, ℕ, Option, Some, inl, inr, refl, subst, sym}
use Rattle.std.specs.String.{string_bytes}
use Rattle.ir_arguments.specs.declared.within.Counted.{Counted}
use Rattle.ir_arguments.specs.declared.within.OutsideArguments.{OutsideArguments}
use Rattle.ir_arguments.specs.declared.within.WithinArguments.{WithinArguments}
use Rattle.ir_files.specs.Writers.{Writer}
use Rattle.ir_files.specs.declared.exit_status.ExitStatus.{ExitStatus}
use Rattle.ir_files.specs.declared.exit_status.ExitStatus.TheVariants as status
use Rattle.ir_record_command.specs.Stopping.{Tellings, Devices, lines_between}
use Rattle.ir_explore.specs.Until.{recording}
use Rattle.ir_explore.specs.declared.fault.ExploreFault.TheVariants as explore
use Rattle.ir_thread.specs.declared.profile.Profile.{Profile}
use Rattle.ir_within.specs.Faults.{Comparison, ToldNone, within_fault_status}
use Rattle.ir_within.specs.Outside.{StopsOutside}
use Rattle.ir_within.specs.declared.fault.WithinFault.{WithinFault}
use Rattle.ir_within.specs.declared.fault.WithinFault.TheVariants as within
use Rattle.ir_commands.specs.Exploring.{AsksComparison, IsComparisonOf, IsInput, IsPlanOf, IsStatusOfLack, IsStatusOfNoComparison, LacksCounted, LacksIn}
use Rattle.ir_commands.specs.Files.{IsImageIn, LacksGuest, RefusesGuest}
use Rattle.ir_commands.specs.Outside.{IsComparisonAnswer, IsComparisonAnswerTo, MissesOutside, RefusesEither, TellsNoneOutside}
use Rattle.ir_commands.specs.Printing.{Paths}
use Rattle.ir_commands.specs.Searching.{TellsNoSearch}
use Rattle.ir_commands.specs.Sought.{PrintsPart}
use Rattle.ir_commands.specs.Writing.{IsStatusOfNoRecording}
use Rattle.ir_commands.proofs.Printed.{explore_fault_is_not_bad, fault_is_not_bad, leaves_in_part, none_since}
use Rattle.ir_commands.proofs.Searched.{nothing_without_guest}
use Rattle.ir_commands.proofs.Refused.{explore_fault_is, explored_lacks_guest, failed_is_not_refused, fault_is_no_recording, none_is_no_recording}
use Rattle.ir_commands.proofs.Refused.{spelled_lacks_guest, stopped_lacks_guest}
use Rattle.ir_commands.proofs.Stored.{reported_is_told}

-- what is compared, by what was read
pub comparison_asked : {at : Paths} {within : WithinArguments} {image other input first second read : List ℕ} {c : Comparison}
    → IsComparisonOf within first second read c → first ≡ image → IsImageIn (at (string_bytes within.explore.image)) image
    → second ≡ other → IsImageIn (at (string_bytes within.other)) other → read ≡ input → IsInput at within.explore.input input
    → AsksComparison at within c
comparison_asked {at} {within} {image} {other} {input} {c = c} is same is_image same_other is_other got is_input = record {
  input = input;
  is_image = subst (IsImageIn (at (string_bytes within.explore.image))) (sym (is.is_image ∙ same)) is_image;
  is_other = subst (IsImageIn (at (string_bytes within.other))) (sym (is.is_other ∙ same_other)) is_other;
  is_input = is_input;
  is = record {
    is_image = refl;
    is_other = refl;
    is_plan = subst (λ z. IsPlanOf within.explore z c.plan) got is.is_plan;
    counts = is.counts;
    has = is.has;
    other_has = is.other_has;
  };
}

-- why no comparison is told
told_lacks_guest : (e : WithinFault) (c : Comparison) (w : Writer) → ToldNone e c w → within_fault_status e ≡ status.Refused
    → LacksGuest c.image c.plan.profile ⊎ LacksGuest c.other c.plan.profile
told_lacks_guest (within.Image e) c w h is = inl (explored_lacks_guest e c.image c.plan w h is)
told_lacks_guest (within.Other e) c w h is = inr (explored_lacks_guest e c.other c.plan w h is)
told_lacks_guest (within.Unwritten explore.NoMem) c w h is = failed_is_not_refused is
told_lacks_guest (within.Unwritten explore.Write) c w h is = failed_is_not_refused is
told_lacks_guest (within.Unwritten (explore.Image e)) c w h is = absurd h
told_lacks_guest (within.Unwritten explore.TooLarge) c w h is = absurd h

-- the status of a fault of a comparison is that of no recording
within_fault_is : {refuses : Type 0} (e : WithinFault) {answered : ExitStatus} → (within_fault_status e ≡ status.Refused → refuses)
    → answered ≡ within_fault_status e → IsStatusOfNoRecording refuses answered
within_fault_is (within.Image e) why p = explore_fault_is e why p
within_fault_is (within.Other e) why p = explore_fault_is e why p
within_fault_is (within.Unwritten e) why p = explore_fault_is e why p

within_fault_is_not_bad : {A : Type 0} (e : WithinFault) → within_fault_status e ≡ status.BadArguments → A
within_fault_is_not_bad (within.Image e) p = explore_fault_is_not_bad e p
within_fault_is_not_bad (within.Other e) p = explore_fault_is_not_bad e p
within_fault_is_not_bad (within.Unwritten e) p = explore_fault_is_not_bad e p

-- what is printed of a comparison that isn't told
comparison_in_part : (e : WithinFault) (c : Comparison) (w : Writer) → ToldNone e c w → PrintsPart (IsComparisonAnswer c) w
comparison_in_part (within.Image e) c w h = inl (nothing_without_guest e c.image c.plan w h)
comparison_in_part (within.Other e) c w h = inl (nothing_without_guest e c.other c.plan w h)
comparison_in_part (within.Unwritten explore.NoMem) c w h = inl h
comparison_in_part (within.Unwritten explore.Write) c w h = inr (h.1, inl (h.0, h.2), h.3.0)
comparison_in_part (within.Unwritten (explore.Image e)) c w h = absurd h
comparison_in_part (within.Unwritten explore.TooLarge) c w h = absurd h

-- and so is the status where two images aren't had
pub no_comparison_no_recording : (at : Paths) (arguments : WithinArguments) {answered : ExitStatus} → IsStatusOfNoComparison at arguments answered
    → IsStatusOfNoRecording (RefusesGuest (at (string_bytes arguments.explore.image)) arguments.explore.profile
    ⊎ RefusesGuest (at (string_bytes arguments.other)) arguments.explore.profile) answered
no_comparison_no_recording at arguments (inl none) = none_is_no_recording _ (λ refused. inl (inl refused)) none
no_comparison_no_recording at arguments (inr (inl none)) = none_is_no_recording _ (λ refused. inr (inl refused)) none
no_comparison_no_recording at arguments (inr (inr bad)) = inl bad.0

-- what a comparison tells that records nothing
pub outside_tells_none : {W P O : Type 0} (d : Tellings W P O) (answered : ExitStatus) (c : Comparison) (old new : Devices W P O) (reports : Writer)
    {same : Type 0} → StopsOutside d answered c old new reports same
    → TellsNoneOutside c answered (lines_between d old new)
    ⊎ TellsNoSearch (LacksGuest c.image c.plan.profile ⊎ LacksGuest c.other c.plan.profile) (IsComparisonAnswer c) answered (lines_between d old new) reports
outside_tells_none d answered c old new reports (inl h) = inl h.3
outside_tells_none d answered c old new reports (inr (inl h)) = inr (record {
  because = within_fault_is h.0 (told_lacks_guest h.0 c _ h.4) h.1;
  told = (h.5.0, h.5.2);
  printed = comparison_in_part h.0 c _ h.4;
  unprinted = λ bad. within_fault_is_not_bad h.0 (sym h.1 ∙ bad);
})
outside_tells_none d answered c old new reports (inr (inr h)) =
    let part = leaves_in_part d h.0 c.image (recording c.plan (Some h.3)) old new h.4 reports h.2 h.6 h.7 in
    inr (record {
      because = fault_is_no_recording h.0 (λ r. inl (spelled_lacks_guest _ h.5.told.first.leads.spelled
          (stopped_lacks_guest h.0 c.image h.3 (recording c.plan (Some h.3)) h.5.guest _ _ _ _ _ _ h.5.is.0 refl h.7.1 r))) h.1;
      told = reported_is_told h.0 c.image _ _ _ reports h.7.0;
      printed = inr (part.0, inr (h.3, h.2, h.5, part.1), part.2);
      unprinted = λ bad. fault_is_not_bad h.0 (sym h.1 ∙ bad);
    })

either_refused : (at : Paths) (arguments : OutsideArguments) (c : Comparison) → AsksComparison at arguments.within c
    → LacksGuest c.image c.plan.profile ⊎ LacksGuest c.other c.plan.profile → RefusesEither at arguments
either_refused at arguments c asked (inl lacks) = inl (inr (c.image, asked.is_image, subst (λ p. LacksGuest c.image p) asked.is.is_plan.profile lacks))
either_refused at arguments c asked (inr lacks) = inr (inr (c.other, asked.is_other, subst (λ p. LacksGuest c.other p) asked.is.is_plan.profile lacks))

-- no outcome is known to be outside, or nothing was compared
pub outside_misses : {at : Paths} {arguments : OutsideArguments} {c : Comparison} {told faults : Writer} (answered : ExitStatus) (out : Writer)
    → AsksComparison at arguments.within c → told ≡ faults
    → TellsNoneOutside c answered out
    ⊎ TellsNoSearch (LacksGuest c.image c.plan.profile ⊎ LacksGuest c.other c.plan.profile) (IsComparisonAnswer c) answered out told
    → MissesOutside at arguments answered out ⊎ TellsNoSearch (RefusesEither at arguments) (IsComparisonAnswerTo at arguments) answered out faults
outside_misses {at} {arguments} {c} answered out asked same (inl h) = inl (record { comparison = c; asked = asked; vain = h })
outside_misses {at} {arguments} {c} answered out asked same (inr h) =
    inr (subst (λ w. TellsNoSearch (RefusesEither at arguments) (IsComparisonAnswerTo at arguments) answered out w) same
    (none_since (either_refused at arguments c asked) (λ text x. (c, asked, x)) h))

-- the guest of one of two files lacks an object whose words count
either_lacks : (known others : Option (List ℕ)) {image other first second : List ℕ} (profile : Profile) (counted : Counted) → IsImageIn known image
    → IsImageIn others other → first ≡ image → second ≡ other → LacksCounted first profile counted ⊎ LacksCounted second profile counted
    → LacksIn known profile counted ⊎ LacksIn others profile counted
either_lacks known others {image} {other} profile counted is is_other same same_other (inl h) = inl (image, is, subst (λ z. LacksCounted z profile counted) same h)
either_lacks known others {image} {other} profile counted is is_other same same_other (inr h) =
    inr (other, is_other, subst (λ z. LacksCounted z profile counted) same_other h)

-- the exit status where a guest of two isn't shown to have each object whose words count
pub no_comparison_for_lack : (at : Paths) (arguments : WithinArguments) {image other first second : List ℕ} {answered : ExitStatus}
    → IsImageIn (at (string_bytes arguments.explore.image)) image → IsImageIn (at (string_bytes arguments.other)) other → first ≡ image → second ≡ other
    → IsStatusOfLack (LacksCounted first arguments.explore.profile arguments.counted ⊎ LacksCounted second arguments.explore.profile arguments.counted) answered
    → IsStatusOfNoComparison at arguments answered
no_comparison_for_lack at arguments is is_other same same_other (inl failed) = inl (inl failed)
no_comparison_for_lack at arguments is is_other same same_other (inr h) =
    inr (inr (h.0, either_lacks _ _ arguments.explore.profile arguments.counted is is_other same same_other h.1))
