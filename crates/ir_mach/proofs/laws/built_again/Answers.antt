use Rattle.ir_mach.proofs.Pages.{pages_of_are_pages, core_of_own_pages}
use Rattle.ir_mach.proofs.laws.built_again.Goals as goal

pub returns-clause-pages : goal.returns-clause-pages
returns-clause-pages c = λ core size. pages_of_are_pages core.memory size

pub returns-clause-same : goal.returns-clause-same
returns-clause-same c = core_of_own_pages
