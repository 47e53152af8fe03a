use Rattle.std.proofs.Common.{length}
use Rattle.ir_thread.specs.State.{thread_machine}
use Rattle.ir_thread.proofs.CallerLemmas.{thread_machine_lawful}
use Rattle.ir_flat.specs.Flat.{tables, start_flat}
use Rattle.ir_runs.specs.Run.{end, trail, log, count}
use Rattle.ir_runs.proofs.CallerLemmas.{state_invariant_start, maximal_reach_same_end, verdict_exists, verdict_unique, same_reach_same_verdict}
use Rattle.ir_flat.proofs.CallerLemmas.{guest_start_is_idle}
use Rattle.ir_runs.specs.Verdicts.{closing, left_log, left_steps}
use Rattle.ir_runs.specs.Bounds.{NoneTakes}
use Rattle.ir_fit.proofs.Guests.{guest_start_is_start}
use Rattle.ir_fit.proofs.laws.one_verdict.Goals as goal

pub returns : goal.returns
returns c = λ g budget profile tr co ev run f top.
    let m = thread_machine g.code in
    let s = tables (start_flat g budget profile) in
    let good = state_invariant_start m s (guest_start_is_start g budget profile) in (
      λ t. let j = verdict_exists (length g.entries) m (thread_machine_lawful g.code) tr co ev s good (guest_start_is_start g budget profile) (guest_start_is_idle g budget profile) run f top t in (
        j.0,
        j.1,
        λ w h. verdict_unique m (tr.ends t) (NoneTakes m s tr t (count m s run t)) ((end m s run).now t)
            (left_steps (trail m s run t) (tr.steps t)) (left_log (trail m s run t) (tr.logs t)) (length (log m s run t))
            (count m s run t) j.0 w j.1 h,
      ),
      λ run' f' top' t v h. same_reach_same_verdict m s tr run run'
          (maximal_reach_same_end (closing m tr) (length g.entries) m (thread_machine_lawful g.code) tr co s good
          (guest_start_is_start g budget profile) (guest_start_is_idle g budget profile) run run' f
          top f' top') t v h,
    )
