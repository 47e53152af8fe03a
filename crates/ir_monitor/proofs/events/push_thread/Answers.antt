use Rattle.std.proofs.Common.{sym, append-nil}
use Rattle.ir_events.specs.Texts.{first_event_lines}
use Rattle.ir_monitor.proofs.Joined.{next_nameless_line}
use Rattle.ir_monitor.proofs.events.push_thread.Goals as goal

pub loop-number-init : goal.loop-number-init
unfolding first_event_lines
loop-number-init c = sym (append-nil c.args.text.now.items)

pub loop-number-preserved : goal.loop-number-preserved
loop-number-preserved c = next_nameless_line c.args.fitted.now c.args.pcs.now c.args.thread c.loop-number.number c.logged_at-logged.result
    c.args.text.now.items c.loop-number.text.items c.push_line.new.text.items c.logged_at-logged.ensures.there c.logged_at-logged.ensures.is
    c.loop-number.invariant c.in_ok-push_line.ensures
