use Rattle.std.proofs.Common.{take}
use Rattle.std.specs.String.{string_bytes}
use Rattle.ir_record.specs.Recording.{order_of_turns}
use Rattle.ir_record.specs.Refusing.{plain_turns}
use Rattle.ir_order.specs.Spelling.{IsListOf}
use Rattle.ir_order.proofs.list.list_of.Given as goal

-- it is the list of the turns so far
abbrev pub invariant-turns : goal.invariant-turns
invariant-turns l = IsListOf (string_bytes l.list) (plain_turns (order_of_turns (take l.each-index l.turns)))
