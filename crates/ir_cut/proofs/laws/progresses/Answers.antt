use Rattle.std.proofs.Common.{arith}
use Rattle.ir_thread.specs.State.{thread_machine}
use Rattle.ir_thread.proofs.CallerLemmas.{thread_machine_lawful}
use Rattle.ir_flat.specs.Flat.{tables, start_flat}
use Rattle.ir_runs.proofs.CallerLemmas.{state_invariant_start, Progress, progress_to_consistent}
use Rattle.ir_fit.proofs.CallerLemmas.{guest_start_is_start}
use Rattle.ir_cut.proofs.laws.progresses.Goals as goal

pub returns : goal.returns
returns c = λ g budget profile run ok p q cp cq cut le t lt. let k : Progress (thread_machine g.code) (tables (start_flat g budget profile)) run p q =
    progress_to_consistent (thread_machine g.code) (thread_machine_lawful g.code) (tables (start_flat g budget profile))
    (state_invariant_start (thread_machine g.code) (tables (start_flat g budget profile)) (guest_start_is_start g budget profile)) run ok p q cp cq cut t lt in
    (k.thread, k.below, (omega (arith, k.below, cut k.thread), k.consistent))
