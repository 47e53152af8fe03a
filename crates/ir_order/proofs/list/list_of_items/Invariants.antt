use Rattle.std.proofs.Common.{take}
use Rattle.std.specs.String.{string_bytes}
use Rattle.ir_record.specs.Recording.{turns_of_items}
use Rattle.ir_order.specs.Spelling.{IsListOf}
use Rattle.ir_order.proofs.list.list_of_items.Given as goal

-- it is the list of the turns so far
abbrev pub invariant-items : goal.invariant-items
invariant-items l = IsListOf (string_bytes l.list) (turns_of_items (take l.each-index l.items))
