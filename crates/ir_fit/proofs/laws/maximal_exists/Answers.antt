use Rattle.std.proofs.Common.{suc, arith, length}
use Rattle.ir_thread.specs.State.{thread_machine}
use Rattle.ir_thread.proofs.CallerLemmas.{thread_machine_lawful}
use Rattle.ir_flat.specs.Flat.{tables, start_flat}
use Rattle.ir_runs.proofs.CallerLemmas.{state_invariant_start, MaximalRun, maximal_run_exists}
use Rattle.ir_flat.proofs.CallerLemmas.{guest_start_is_idle}
use Rattle.ir_runs.specs.Verdicts.{sum_below}
use Rattle.ir_fit.proofs.Guests.{guest_start_is_start}
use Rattle.ir_fit.proofs.laws.maximal_exists.Goals as goal

pub returns : goal.returns
returns c = λ g budget profile tr.
    let m = thread_machine g.code in
    let s = tables (start_flat g budget profile) in
    let b : MaximalRun m tr s tr.steps tr.logs = maximal_run_exists (suc (sum_below (length g.entries) tr.steps)) (length g.entries) m (thread_machine_lawful g.code) tr s
    (state_invariant_start m s (guest_start_is_start g budget profile)) (guest_start_is_idle g budget profile) tr.steps tr.logs (omega arith) in
    (b.run, b.ok, b.top)
