use Rattle.ir_thread.specs.State.{thread_machine}
use Rattle.ir_flat.specs.Flat.{tables, start_flat}
use Rattle.ir_runs.proofs.CallerLemmas.{max_is_consistent, min_is_consistent}
use Rattle.ir_cut.proofs.laws.lattice.Goals as goal

pub returns : goal.returns
returns c = λ g budget profile run p q cp cq. (
  max_is_consistent (thread_machine g.code) (tables (start_flat g budget profile)) run p q cp cq,
  min_is_consistent
      (thread_machine g.code) (tables (start_flat g budget profile)) run p q cp cq,
)
