use Rattle.ir_record_command.proofs.Items.{unspelled_list_is_bad}
use Rattle.ir_record_command.proofs.recording.tell_order.Goals as goal

pub unreachable-requires : goal.unreachable-requires
unreachable-requires g c = unspelled_list_is_bad c.args.threads c.args.list.now c.requires.bad (rw c.in-None.is at c.bad_item.ensures)

pub returns : goal.returns
returns g c = (c.in-Some.item.now, c.in-Some.ensures.0, rw c.in-Some.ensures.1 at c.tell_of.ensures)
