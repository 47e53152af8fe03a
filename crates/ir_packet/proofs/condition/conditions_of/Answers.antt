use Rattle.std.proofs.Common.{rules, ◌≡◌, true, length, is_some}
use Rattle.ir_packet.specs.Requests.{conditions_in}
use Rattle.ir_packet.proofs.Conditions.{all_are_put}
use Rattle.ir_packet.proofs.condition.conditions_of.Goals as goal

pub returns : goal.returns
returns c =
    let some : is_some (conditions_in (length c.args.text.now) c.args.text.now) ≡ true = search rules in
    all_are_put (conditions_in (length c.args.text.now) c.args.text.now) c.new-each.result.items c.put_conditions.new.out.items some c.new-each.ensures.items
    c.in_ok-put_conditions.ensures
