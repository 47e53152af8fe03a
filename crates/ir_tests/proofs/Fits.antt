-- A recorded trace is a run's.
use Rattle.std.proofs.Common.{◌≡◌, ℕ, List, length, sym, subst}
use Rattle.ir_image.specs.Guest.{Guest}
use Rattle.ir_thread.specs.declared.profile.Profile.{Profile}
use Rattle.ir_flat.specs.Flat.{start_flat, tables, machine}
use Rattle.ir_runs.specs.Run.{Step, IsWhole}
use Rattle.ir_trace.specs.Recorded.{Recorded, trace_of}
use Rattle.ir_record.specs.Recording.{IsTraceOf}
use Rattle.ir_fit.specs.Fit.{IsRunOf}

-- what is recorded of a run is its trace, under the recorded budget and profile
pub trace_of_run_has_run : (guest : Guest) (budget : ℕ) (profile : Profile) (run : List Step) (trace : Recorded)
    → IsTraceOf guest budget profile run trace → IsRunOf guest trace run
trace_of_run_has_run guest budget profile run trace emitted = (
  record { threads = emitted.threads; objects = emitted.objects },
  subst (λ (z : ℕ × Profile). IsWhole (machine (start_flat guest z.0 z.1)) (tables (start_flat guest z.0 z.1)) (length guest.entries)
      (trace_of trace) run) (λ i. (sym emitted.limit i, sym emitted.profile_is i)) emitted.whole,
)
