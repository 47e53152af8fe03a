use Rattle.std.specs.String.{string_bytes}
use Rattle.ir_picture.proofs.Folded.{ArePairs}
use Rattle.ir_picture.proofs.folds.pairs_read.Given as goal

abbrev pub invariant-loop-object : goal.invariant-loop-object
invariant-loop-object l = ArePairs l.object l.events l.comma (string_bytes l.text)
