use Rattle.std.proofs.Common.{◌≡◌, take}
use Rattle.ir_record.specs.Recording.{order_of_turns, turns_of_items}
use Rattle.ir_record.specs.Refusing.{plain_turns}
use Rattle.ir_record.proofs.in_order.conversion.items_of.Given as goal

-- the items are those of the turns so far
abbrev pub invariant-turns : goal.invariant-turns
invariant-turns l = turns_of_items l.items.items ≡ plain_turns (order_of_turns (take l.turns-index l.order))
