-- What is told of outcomes, whatever else holds of the call that tells it.
use Rattle.std.proofs.Common.{◌≡◌, ◌⊎◌, ℕ, List, inl, inr}
use Rattle.ir_explore.specs.Faults.{TellsSearch, ToldNothing, explore_fault_status, explore_fault_words}
use Rattle.ir_explore.specs.Plan.{ExplorePlan}
use Rattle.ir_explore.specs.declared.fault.ExploreFault.{ExploreFault}
use Rattle.ir_files.specs.Writers.{Writer, Reports, fault_text}
use Rattle.ir_files.specs.declared.exit_status.ExitStatus.{ExitStatus}
use Rattle.ir_within.specs.Aspects.{Aspects}
use Rattle.ir_within.specs.Classes.{TellsClasses, HasNoClasses}
use Rattle.ir_within.specs.Faults.{Comparison, TellsWithin, ToldNone, AreFaultWords, within_fault_status}
use Rattle.ir_within.specs.declared.fault.WithinFault.{WithinFault}
use Rattle.ir_commands.specs.Exploring.{Tells, TellsByClass, TellsComparison}

pub told_search : {K : Type 0} (image : List ℕ) (plan : ExplorePlan) (answered : ExitStatus) (out faults : Writer) → (TellsSearch image plan answered out × K)
    ⊎ ((e : ExploreFault) × (answered ≡ explore_fault_status e) × ToldNothing e image plan out × Reports faults (fault_text (explore_fault_words e)))
    → Tells image plan answered out faults
told_search image plan answered out faults (inl h) = inl h.0
told_search image plan answered out faults (inr h) = inr h

-- the same of classes
pub told_by_class : {K : Type 0} (image : List ℕ) (plan : ExplorePlan) (aspects : Aspects) (answered : ExitStatus) (out faults : Writer)
    → (TellsClasses image plan aspects answered out × K)
    ⊎ ((e : ExploreFault) × (answered ≡ explore_fault_status e) × HasNoClasses e image plan aspects out × Reports faults (fault_text (explore_fault_words e)))
    → TellsByClass image plan aspects answered out faults
told_by_class image plan aspects answered out faults (inl h) = inl h.0
told_by_class image plan aspects answered out faults (inr h) = inr h

-- the same of two guests that are compared
pub told_comparison : {K : Type 0} (c : Comparison) (answered : ExitStatus) (out faults : Writer) → (TellsWithin c answered out × K)
    ⊎ ((e : WithinFault) × (answered ≡ within_fault_status e) × ToldNone e c out
    × ((words : List ℕ) × AreFaultWords e words × Reports faults (fault_text words)))
    → TellsComparison c answered out faults
told_comparison c answered out faults (inl h) = inl h.0
told_comparison c answered out faults (inr h) = inr h
