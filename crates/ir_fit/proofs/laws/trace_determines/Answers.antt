use Rattle.std.proofs.Common.{◌∙◌, ap, inl, inr, length, sym}
use Rattle.std.proofs.lemmas.Bool.{cases_lt}
use Rattle.ir_thread.specs.State.{thread_machine}
use Rattle.ir_thread.proofs.CallerLemmas.{thread_machine_lawful}
use Rattle.ir_flat.specs.Flat.{tables, start_flat}
use Rattle.ir_flat.proofs.CallerLemmas.{guest_start_is_idle}
use Rattle.ir_runs.specs.Run.{events}
use Rattle.ir_runs.proofs.CallerLemmas.{state_invariant_start, same_trace_same_run}
use Rattle.ir_fit.proofs.Guests.{guest_start_is_start}
use Rattle.ir_fit.proofs.Placements.{idle_has_empty_trail}
use Rattle.ir_fit.proofs.laws.trace_determines.Goals as goal

pub returns-clause-runs : goal.returns-clause-runs
returns-clause-runs c = λ g budget profile run run' ok ok' same. same_trace_same_run (thread_machine g.code) (thread_machine_lawful g.code) (tables (start_flat g budget profile))
    (state_invariant_start (thread_machine g.code) (tables (start_flat g budget profile)) (guest_start_is_start g budget profile)) run run' ok ok' same

pub returns-clause-recorded : goal.returns-clause-recorded
returns-clause-recorded c = λ g r run run' is is'.
    let m = thread_machine g.code in
    let s = tables (start_flat g r.budget r.profile) in
    let n = length g.entries in
    same_trace_same_run m (thread_machine_lawful g.code) s (state_invariant_start m s (guest_start_is_start g r.budget r.profile)) run run' is.1.runs is'.1.runs
    (λ t. elim (cases_lt t n) [
      | inl l ↦ (is.1.logs t l ∙ sym (is'.1.logs t l), is.1.steps t l ∙ sym (is'.1.steps t l))
      | inr l ↦
          let no = idle_has_empty_trail m s n (guest_start_is_idle g r.budget r.profile) run is.1.runs t l
          ∙ sym (idle_has_empty_trail m s n (guest_start_is_idle g r.budget r.profile) run' is'.1.runs t l) in
          (ap events no, ap length no)
    ])
