-- The number of an event.
use Rattle.std.proofs.Common.{◌≡◌, ℕ, ◌<◌, ◌^◌, List, length, subst, arith}
use Rattle.ir_coherence.proofs.CallerLemmas.{recorded_thread_fits}
use Rattle.ir_fit.specs.Fit.{FittedTrace}
use Rattle.ir_fit.specs.Within.{IsFitted}
use Rattle.ir_fit.proofs.CallerLemmas.{entries_count_events}
use Rattle.ir_events.specs.Events.{entries_of}

-- the number of an event fits
pub event_number_fits_32 : (f : FittedTrace) → IsFitted f → (t i : ℕ) (steps : List ℕ) → t < length f.guest.entries → steps ≡ entries_of f t → i < length steps → i < 2 ^ 32
event_number_fits_32 f fitted t i steps l is within =
    let long = entries_count_events f fitted.run t l in
    let same = fitted.run.whole.0.threads in
    let few = (recorded_thread_fits f.recorded fitted.within t (omega (arith, l, same))).few_events in
    let here : i < length (entries_of f t) = subst (λ (xs : List ℕ). i < length xs) is within in
    omega (arith, long, few, here)
