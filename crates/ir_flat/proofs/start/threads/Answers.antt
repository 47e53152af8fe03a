use Rattle.ir_flat.proofs.Fresh.{made_start_threads_step}
use Rattle.ir_flat.proofs.start.threads.Goals as goal

pub loop-number-preserved : goal.loop-number-preserved
loop-number-preserved c = made_start_threads_step c.args.image.now c.args.budget c.args.profile c.loop-number.number c.loop-number.threads.items c.push.new.self.items
    c.in_ok-new.field-0 c.loop-number.invariant c.in_ok-new.ensures c.in_ok-push.ensures.items
