use Rattle.std.proofs.Common.{◌≡◌}
use Rattle.std.specs.Prelude.{◌==◌}
use Rattle.std.specs.List.{slice_split}
use Rattle.ir_record_command.specs.Order.{first_bad}
use Rattle.ir_record_command.proofs.Items.{parts_left, bytes_left_bound}
use Rattle.ir_record_command.proofs.order.bad_item.Given as goal

-- each item so far spells steps
abbrev pub invariant-items : goal.invariant-items
invariant-items l = first_bad l.threads (slice_split (λ b. b == 44) l.fn.list) ≡ first_bad l.threads (parts_left l.rest)

abbrev pub decreases-items : goal.decreases-items
decreases-items l = bytes_left_bound l.rest
