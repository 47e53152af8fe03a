use Rattle.std.proofs.Common.{length}
use Rattle.ir_thread.specs.State.{thread_machine}
use Rattle.ir_thread.proofs.CallerLemmas.{thread_machine_lawful}
use Rattle.ir_flat.specs.Flat.{tables, start_flat}
use Rattle.ir_runs.proofs.CallerLemmas.{state_invariant_start, own_trace_is_coherent}
use Rattle.ir_flat.proofs.CallerLemmas.{guest_start_is_idle}
use Rattle.ir_fit.proofs.Guests.{guest_start_is_start}
use Rattle.ir_fit.proofs.laws.own_trace_coherent.Goals as goal

pub returns : goal.returns
returns c = λ g budget profile run ok. own_trace_is_coherent (length g.entries) (thread_machine g.code) (thread_machine_lawful g.code) (tables (start_flat g budget profile))
    (state_invariant_start (thread_machine g.code) (tables (start_flat g budget profile)) (guest_start_is_start g budget profile))
    (guest_start_is_start g budget profile) (guest_start_is_idle g budget profile) run ok
