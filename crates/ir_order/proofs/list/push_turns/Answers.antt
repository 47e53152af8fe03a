use Rattle.std.proofs.Common.{arith}
use Rattle.std.proofs.lemmas.Bool.Decides.{nat_tests}
use Rattle.std.specs.String.{string_bytes}
use Rattle.ir_order.proofs.Lists.{is_list_of_turns_step}
use Rattle.ir_order.proofs.list.push_turns.Goals as goal

pub items-preserved : goal.items-preserved
items-preserved c = record {
  within = omega (arith, c.items.invariant.within);
  spelled = is_list_of_turns_step (string_bytes c.args.list.now) (string_bytes c.items.list) (string_bytes c.push_item.new.list) c.args.item.thread c.args.item.refused
      c.args.item.count c.items.left c.min-count.result (omega arith) c.items.invariant.within
      (grind (arith, nat_tests, c.min-count.ensures, c.items-test.true)) (grind (arith, nat_tests, c.min-count.ensures))
      (grind (arith, nat_tests, c.min-count.ensures)) c.in_ok-push_item.ensures c.items.invariant.spelled;
}
