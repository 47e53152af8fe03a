-- A guest before its first step.
use Rattle.std.proofs.Common.{◌≡◌, length, ap, ◌∙◌}
use Rattle.ir_image.specs.Guest.{Guest}
use Rattle.ir_flat.proofs.CallerLemmas.{length_of_start_threads}
use Rattle.ir_record_command.specs.Plan.{Plan}
use Rattle.ir_schedule.specs.Moments.{Moment}
use Rattle.ir_hunt.specs.Seeking.{fresh_guest}

-- it has as many threads as the image
pub fresh_thread_count : (guest : Guest) (plan : Plan) (b : Moment) → b ≡ fresh_guest guest plan → length b.flat.threads ≡ length guest.entries
fresh_thread_count guest plan b e = ap (λ (m : Moment). length m.flat.threads) e ∙ length_of_start_threads guest plan.budget plan.profile 0 (length guest.entries)
