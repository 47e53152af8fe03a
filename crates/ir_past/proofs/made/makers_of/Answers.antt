use Rattle.std.proofs.Common.{◌∙◌, arith}
use Rattle.ir_past.proofs.Noted.{makes_at_start, makes_of_equal_thread}
use Rattle.ir_past.proofs.made.makers_of.Goals as goal

pub loop-thread-init : goal.loop-thread-init
loop-thread-init c = makes_at_start c.args.trace.now c.in_ok-makers.makers (c.in_ok-makers.ensures.objects ∙ c.objects.ensures.value)
    c.in_ok-makers.ensures.none

pub returns-clause-makes : goal.returns-clause-makes
returns-clause-makes c = makes_of_equal_thread c.args.trace.now c.loop-thread.thread _ c.loop-thread.makers
    (omega (arith, c.loop-thread-test.false, c.loop-thread.auto.thread-end, c.thread_count-thread-end.ensures)) c.loop-thread.invariant
