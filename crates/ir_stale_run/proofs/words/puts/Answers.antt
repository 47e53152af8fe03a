use Rattle.std.proofs.Common.{sym, ◌∙◌}
use Rattle.ir_stale_run.proofs.Looked.{puts_true_at_call, puts_step_no_put, puts_false_at_end}
use Rattle.ir_stale_run.proofs.words.puts.Goals as goal

pub returns-then-puts_now : goal.returns-then-puts_now
returns-then-puts_now c = puts_true_at_call c.args.object c.loop-call.hold c.loop-call.call-index c.args.calls.now _ _ c.loop-call.invariant
    c.loop-call-test.true (sym c.puts_now.ensures ∙ c.if-puts_now.true)

pub loop-call-preserved : goal.loop-call-preserved
loop-call-preserved c = puts_step_no_put c.args.object c.loop-call.hold c.hold_after-hold.result c.loop-call.call-index c.args.calls.now _ _
    c.loop-call.invariant c.loop-call-test.true (sym c.puts_now.ensures ∙ c.if-puts_now.false) c.hold_after-hold.ensures

pub returns : goal.returns
returns c = puts_false_at_end c.args.object c.loop-call.hold c.loop-call.call-index c.args.calls.now _ c.loop-call.invariant c.loop-call-test.false
