use Rattle.std.proofs.Common.{◌≡◌, take, replicate}
use Rattle.ir_record.proofs.in_order.conversion.repeats.Given as goal

abbrev pub invariant-loop-index : goal.invariant-loop-index
invariant-loop-index l = take l.index l.order ≡ replicate l.index l.entry
