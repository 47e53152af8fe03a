use Rattle.ir_weave.specs.Table.{IsLaid}
use Rattle.ir_weave.proofs.ends.lay.Given as goal

abbrev pub invariant-loop-k : goal.invariant-loop-k
invariant-loop-k l = IsLaid l.objects l.words.items l.k
