use Rattle.ir_hits.specs.Seeing.{IsLowestOf}
use Rattle.ir_hits.proofs.seeing.lowest.Given as goal

abbrev pub invariant-loop-i : goal.invariant-loop-i
invariant-loop-i l = IsLowestOf l.t l.last l.thread l.notes l.points l.i l.found
