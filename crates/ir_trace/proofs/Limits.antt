-- What is recorded is within the limits of any profile.
use Rattle.std.proofs.Common.{◌≤◌, length, arith}
use Rattle.ir_image.specs.Guest.{most_threads, most_objects}
use Rattle.ir_image.proofs.CallerLemmas.{form_threads_within, form_objects_within}
use Rattle.ir_thread.specs.State.{largest}
use Rattle.ir_trace.specs.Recorded.{Recorded}
use Rattle.ir_trace.specs.Bounds.{IsRecorded}

pub recorded_threads_within : (r : Recorded) → IsRecorded r → length r.threads ≤ most_threads
recorded_threads_within r fits = let few = fits.few_threads in let most = form_threads_within (largest r.profile) in omega (arith, few, most)

pub recorded_objects_within : (r : Recorded) → IsRecorded r → r.objects ≤ most_objects
recorded_objects_within r fits = let few = fits.few_objects in let most = form_objects_within (largest r.profile) in omega (arith, few, most)
