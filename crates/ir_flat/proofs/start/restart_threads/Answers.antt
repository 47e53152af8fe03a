use Rattle.std.proofs.Common.{◌<◌, ◌∙◌, length, length-set, arith}
use Rattle.ir_flat.proofs.Renewed.{renewed_threads_step}
use Rattle.ir_flat.proofs.start.restart_threads.Goals as goal

pub loop-number-preserved : goal.loop-number-preserved
loop-number-preserved c = record {
  size = length-set c.loop-number.threads c.loop-number.number c.restart.new.self ∙ c.loop-number.invariant.size;
  threads = renewed_threads_step c.args.image.now c.args.budget c.args.profile c.loop-number.number c.args.threads.now c.loop-number.threads
      c.restart.new.self c.loop-number.invariant.threads
      (let size = c.loop-number.invariant.size in omega (arith, size, c.loop-number-test.true)) c.restart.ensures;
}
