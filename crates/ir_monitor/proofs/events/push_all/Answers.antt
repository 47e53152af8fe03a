use Rattle.std.proofs.Common.{sym, append-nil}
use Rattle.ir_events.specs.Texts.{first_threads}
use Rattle.ir_monitor.proofs.Joined.{next_nameless_thread}
use Rattle.ir_monitor.proofs.events.push_all.Goals as goal

pub loop-thread-init : goal.loop-thread-init
unfolding first_threads
loop-thread-init c = sym (append-nil c.args.text.now.items)

pub loop-thread-preserved : goal.loop-thread-preserved
loop-thread-preserved c = next_nameless_thread c.args.fitted.now c.args.pcs.now c.loop-thread.thread c.args.text.now.items c.loop-thread.text.items
    c.push_thread.new.text.items c.loop-thread.invariant c.in_ok-push_thread.ensures
