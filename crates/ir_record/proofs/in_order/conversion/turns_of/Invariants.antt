use Rattle.std.proofs.Common.{◌≡◌, ◌≤◌, ◌-◌, length, take}
use Rattle.ir_record.specs.Recording.{order_of_turns}
use Rattle.ir_record.proofs.in_order.conversion.turns_of.Given as goal

abbrev pub invariant-order : goal.invariant-order
invariant-order l = record {
  within : l.at ≤ length l.order;
  written : order_of_turns l.turns.items ≡ take l.at l.order;
}

abbrev pub decreases-order : goal.decreases-order
decreases-order l = length l.order - l.at
