-- A guest's threads and objects at the start.
use Rattle.std.proofs.Common.{◌≡◌, ℕ, zero, suc, ◌<◌, length, None, refl, ap, arith, get_or}
use Rattle.std.specs.Prelude.{option_map}
use Rattle.ir_image.specs.Guest.{Guest}
use Rattle.ir_thread.specs.State.{IsAllowed, end_number, end_code, thread_machine}
use Rattle.ir_flat.specs.Flat.{idle, tables, start_threads, start_flat}
use Rattle.ir_runs.specs.Events.{IsLive}
use Rattle.ir_trace.specs.Recorded.{Recorded}
use Rattle.ir_trace.specs.Bounds.{IsRecorded}
use Rattle.ir_fit.specs.Fit.{HasHeader}
pub use Rattle.ir_fit.specs.Placed.{guest_start_is_start}
use Rattle.ir_thread.specs.declared.profile.Profile.{Profile}

start_has_not_ended : (g : Guest) (budget : ℕ) (profile : Profile) (from n t : ℕ) → t < n → (get_or (start_threads g budget profile from n) t idle).ended ≡ None
start_has_not_ended g budget profile from zero t l = absurd (omega arith)
start_has_not_ended g budget profile from (suc n) zero l = refl
start_has_not_ended g budget profile from (suc n) (suc t) l = start_has_not_ended g budget profile (suc from) n t (omega arith)

pub guest_start_is_live : (g : Guest) (budget : ℕ) (profile : Profile) → IsLive (thread_machine g.code) (tables (start_flat g budget profile)) (length g.entries)
guest_start_is_live g budget profile t l = ap (option_map (λ e. (end_number e, end_code e))) (start_has_not_ended g budget profile 0 (length g.entries) t l)

-- a guest whose header a trace has is allowed by the trace's profile
pub header_guest_is_allowed : (g : Guest) (r : Recorded) → IsRecorded r → HasHeader g r → IsAllowed r.profile g
header_guest_is_allowed g r fits header =
    let threads = header.threads in let objects = header.objects in
    let few = fits.few_threads in let less = fits.few_objects in
    (omega (arith, threads, few), omega (arith, objects, less))
