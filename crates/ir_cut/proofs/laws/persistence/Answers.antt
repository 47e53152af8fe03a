use Rattle.ir_thread.specs.State.{thread_machine}
use Rattle.ir_flat.specs.Flat.{tables, start_flat}
use Rattle.ir_runs.proofs.CallerLemmas.{admitted_persists}
use Rattle.ir_cut.proofs.laws.persistence.Goals as goal

pub returns : goal.returns
returns c = λ g budget profile run p q t. admitted_persists (thread_machine g.code) (tables (start_flat g budget profile)) run p q t
