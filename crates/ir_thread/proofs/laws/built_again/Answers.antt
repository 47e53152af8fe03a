use Rattle.ir_mach.proofs.CallerLemmas.{pages_of_are_pages}
use Rattle.ir_thread.proofs.Framed.{thread_of_own_frame}
use Rattle.ir_thread.proofs.laws.built_again.Goals as goal

pub returns-clause-pages : goal.returns-clause-pages
returns-clause-pages c = λ s size. pages_of_are_pages s.core.memory size

pub returns-clause-same : goal.returns-clause-same
returns-clause-same c = thread_of_own_frame
