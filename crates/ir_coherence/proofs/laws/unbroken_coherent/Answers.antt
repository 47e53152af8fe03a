use Rattle.ir_coherence.proofs.Causes.{unbroken_is_coherent}
use Rattle.ir_coherence.proofs.laws.unbroken_coherent.Goals as goal

pub returns : goal.returns
returns c = unbroken_is_coherent
