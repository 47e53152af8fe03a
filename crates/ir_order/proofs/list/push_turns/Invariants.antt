use Rattle.std.proofs.Common.{◌≤◌, ◌-◌, ◌++◌, List, replicate}
use Rattle.std.specs.String.{string_bytes}
use Rattle.ir_record.specs.Refusing.{Turn}
use Rattle.ir_order.specs.Spelling.{IsListOf}
use Rattle.ir_order.proofs.list.push_turns.Given as goal

-- the list spells what it did, and the turns so far
abbrev pub invariant-items : goal.invariant-items
invariant-items l = record {
  within : l.left ≤ l.fn.item.count;
  spelled : (turns : List Turn) → IsListOf (string_bytes l.fn.list) turns
      → IsListOf (string_bytes l.list) (turns ++ replicate (l.fn.item.count - l.left) (l.fn.item.thread, l.fn.item.refused));
}

abbrev pub decreases-items : goal.decreases-items
decreases-items l = l.left
