use Rattle.ir_opened.proofs.CallerLemmas.{ArePairedTo}
use Rattle.ir_run_picture.specs.Spans.{IsSpanOfBox}
use Rattle.ir_run_picture.proofs.spans.spans_of.Given as goal

abbrev pub invariant-loop-own : goal.invariant-loop-own
invariant-loop-own l = ArePairedTo (IsSpanOfBox l.fitted) l.boxes l.own-index l.spans.items
