use Rattle.ir_thread.specs.State.{thread_machine}
use Rattle.ir_thread.proofs.CallerLemmas.{thread_machine_lawful}
use Rattle.ir_flat.specs.Flat.{tables, start_flat}
use Rattle.ir_runs.proofs.CallerLemmas.{state_invariant_start, admitted_by_log}
use Rattle.ir_fit.proofs.CallerLemmas.{guest_start_is_start}
use Rattle.ir_cut.proofs.laws.followers_admitted.Goals as goal

pub returns : goal.returns
returns c = λ g budget profile run ok p cut con t r k can emits l. admitted_by_log (thread_machine g.code) (thread_machine_lawful g.code) (tables (start_flat g budget profile))
    (state_invariant_start (thread_machine g.code) (tables (start_flat g budget profile)) (guest_start_is_start g budget profile)) run ok p cut con t r k can emits l
