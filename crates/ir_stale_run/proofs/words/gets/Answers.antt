use Rattle.std.proofs.Common.{sym, ◌∙◌}
use Rattle.ir_stale_run.proofs.Looked.{gets_true_at_call, gets_step_no_get, gets_false_at_end}
use Rattle.ir_stale_run.proofs.words.gets.Goals as goal

pub returns-then-gets_now : goal.returns-then-gets_now
returns-then-gets_now c = gets_true_at_call c.args.object c.args.index c.loop-call.hold c.loop-call.call-index c.args.calls.now _ _ c.loop-call.invariant
    c.loop-call-test.true (sym c.gets_now.ensures ∙ c.if-gets_now.true)

pub loop-call-preserved : goal.loop-call-preserved
loop-call-preserved c = gets_step_no_get c.args.object c.args.index c.loop-call.hold c.hold_after-hold.result c.loop-call.call-index c.args.calls.now _ _
    c.loop-call.invariant c.loop-call-test.true (sym c.gets_now.ensures ∙ c.if-gets_now.false) c.hold_after-hold.ensures

pub returns : goal.returns
returns c = gets_false_at_end c.args.object c.args.index c.loop-call.hold c.loop-call.call-index c.args.calls.now _ c.loop-call.invariant
    c.loop-call-test.false
