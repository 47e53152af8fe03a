use Rattle.std.proofs.Common.{take, subst, arith}
use Rattle.std.proofs.lemmas.List.{take_all}
use Rattle.std.specs.String.{string_bytes}
use Rattle.ir_record.specs.Recording.{order_of_turns}
use Rattle.ir_record.specs.Refusing.{plain_turns}
use Rattle.ir_order.specs.Spelling.{IsListOf}
use Rattle.ir_order.proofs.Lists.{list_of_plain_step, plain_list_spells_order}
use Rattle.ir_order.proofs.list.list_of.Goals as goal

pub turns-preserved : goal.turns-preserved
turns-preserved c = list_of_plain_step c.args.turns.now c.turns.each-index _ (string_bytes c.push_turns.new.list) c.turns-test.true
    (c.in_ok-push_turns.ensures (plain_turns (order_of_turns (take c.turns.each-index c.args.turns.now))) c.turns.invariant)

pub returns-clause-spelled : goal.returns-clause-spelled
returns-clause-spelled c some = plain_list_spells_order (string_bytes c.turns.list) (order_of_turns c.args.turns.now)
    (subst (λ z. IsListOf (string_bytes c.turns.list) (plain_turns (order_of_turns z)))
    (take_all c.turns.each-index c.args.turns.now (omega (arith, c.turns-test.false))) c.turns.invariant) some
