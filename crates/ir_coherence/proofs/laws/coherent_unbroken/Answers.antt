use Rattle.ir_coherence.proofs.Causes.{coherent_is_unbroken}
use Rattle.ir_coherence.proofs.laws.coherent_unbroken.Goals as goal

pub returns : goal.returns
returns c = coherent_is_unbroken
