use Rattle.ir_thread.specs.State.{thread_machine}
use Rattle.ir_thread.proofs.CallerLemmas.{thread_machine_lawful, thread_machine_closing as closes}
use Rattle.ir_flat.specs.Flat.{tables, start_flat}
use Rattle.ir_runs.specs.Bounds.{trace}
use Rattle.ir_runs.proofs.CallerLemmas.{state_invariant_start, maximal_reaches_own_run, complete_run_follows}
use Rattle.ir_runs.specs.Verdicts.{closing}
use Rattle.ir_fit.proofs.Guests.{guest_start_is_start}
use Rattle.ir_fit.proofs.laws.complete_fits.Goals as goal

pub returns : goal.returns
returns c = λ g budget profile run ok.
    let k = complete_run_follows (thread_machine g.code) (closes g.code) (tables (start_flat g budget profile)) run ok.0 ok.1 in (
      k.0,
      k.1,
      λ follower f top. maximal_reaches_own_run (closing (thread_machine g.code)
          (trace (thread_machine g.code) (tables (start_flat g budget profile)) run)) (thread_machine g.code) (thread_machine_lawful g.code)
          (tables (start_flat g budget profile)) (state_invariant_start (thread_machine g.code) (tables (start_flat g budget profile)) (guest_start_is_start g budget profile)) run k.0
          follower f top,
    )
