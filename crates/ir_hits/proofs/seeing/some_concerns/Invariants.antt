use Rattle.ir_hits.proofs.Seen.{NoneConcerns}
use Rattle.ir_hits.proofs.seeing.some_concerns.Given as goal

abbrev pub invariant-loop-i : goal.invariant-loop-i
invariant-loop-i l = NoneConcerns l.t l.points l.i
