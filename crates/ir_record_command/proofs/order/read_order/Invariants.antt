use Rattle.std.proofs.Common.{◌≡◌, Some}
use Rattle.ir_record.specs.Recording.{turns_of_items}
use Rattle.ir_record_command.specs.Order.{order_of, items_joined, items_of}
use Rattle.ir_record_command.proofs.Items.{parts_left, bytes_left_bound}
use Rattle.ir_record_command.proofs.order.read_order.Given as goal

-- what is read so far and what is left spell what the list spells
abbrev pub invariant-items : goal.invariant-items
invariant-items l = order_of l.threads l.fn.list ≡ items_joined (Some (turns_of_items l.order.items)) (items_of l.threads (parts_left l.rest))

abbrev pub decreases-items : goal.decreases-items
decreases-items l = bytes_left_bound l.rest
