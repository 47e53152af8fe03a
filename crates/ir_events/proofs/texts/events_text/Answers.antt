use Rattle.ir_events.specs.Texts.{first_threads}
use Rattle.ir_events.proofs.Joined.{first_threads_step}
use Rattle.ir_events.proofs.texts.events_text.Goals as goal

pub loop-t-init : goal.loop-t-init
unfolding first_threads
loop-t-init c = c.new-text.ensures.items

pub loop-t-preserved : goal.loop-t-preserved
loop-t-preserved c = first_threads_step c.args.fitted.now c.args.pcs.now c.args.symbols.now c.loop-t.t c.loop-t.text.items c.push_thread.new.text.items
    c.loop-t.invariant c.in_ok-push_thread.ensures
