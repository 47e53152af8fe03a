use Rattle.std.proofs.Common.{arith}
use Rattle.ir_stale_run.proofs.Joined.{kept_of_no_rests, kept_of_one_more_rest}
use Rattle.ir_stale_run.proofs.lines.kept_of.Goals as goal

pub loop-i-init : goal.loop-i-init
loop-i-init c = record { count = kept_of_no_rests c.args.rests.now; few = omega arith }

pub loop-i-preserved : goal.loop-i-preserved
loop-i-preserved c = record {
  count = kept_of_one_more_rest c.args.rests.now c.loop-i.i c.loop-i.kept c.one_if-kept.result c.loop-i.invariant.count c.one_if-kept.ensures.value;
  few = let a = c.loop-i.invariant.few in let b = c.one_if-kept.ensures.small in omega (arith, a, b);
}
