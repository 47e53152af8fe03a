use Rattle.std.proofs.Common.{length}
use Rattle.ir_thread.specs.State.{thread_machine}
use Rattle.ir_thread.proofs.CallerLemmas.{thread_machine_lawful, thread_machine_closing}
use Rattle.ir_flat.specs.Flat.{tables, start_flat}
use Rattle.ir_runs.proofs.CallerLemmas.{state_invariant_start, done_follower_is_whole, whole_run_follower_done}
use Rattle.ir_flat.proofs.CallerLemmas.{guest_start_is_idle}
use Rattle.ir_fit.proofs.Guests.{guest_start_is_start, guest_start_is_live}
use Rattle.ir_fit.proofs.laws.fits_exactly.Goals as goal

pub returns : goal.returns
returns c = λ g budget profile tr co run f top.
    let m = thread_machine g.code in
    let s = tables (start_flat g budget profile) in (
      λ h. (run, done_follower_is_whole (length g.entries) m (thread_machine_closing g.code) tr s (guest_start_is_live g budget profile) run f h),
      λ w t. whole_run_follower_done (length g.entries) m (thread_machine_lawful g.code) (thread_machine_closing g.code) tr co s
          (state_invariant_start m s (guest_start_is_start g budget profile)) (guest_start_is_start g budget profile)
          (guest_start_is_idle g budget profile) run f top w.0 w.1 t,
    )
