use Rattle.ir_thread.specs.State.{thread_machine}
use Rattle.ir_flat.specs.Flat.{tables, start_flat}
use Rattle.ir_runs.proofs.CallerLemmas.{maximal_if_none_go_on}
use Rattle.ir_fit.proofs.laws.one_step_each.Goals as goal

pub returns : goal.returns
returns c = λ g budget profile tr run none. maximal_if_none_go_on (thread_machine g.code) tr (tables (start_flat g budget profile)) run none
