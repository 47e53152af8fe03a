use Rattle.ir_thread_bytes.proofs.Written.{changes_page_step}
use Rattle.ir_thread_bytes.proofs.freezing.put_changes.Goals as goal

pub loop-i-preserved : goal.loop-i-preserved
loop-i-preserved c =
    changes_page_step c.loop-i.i c.args.start.now c.args.thread.now.core.memory c.loop-i.out.items c.put_page.new.out.items
    c.page_in.result.now c.page.result.now _ c.page_in.ensures.value c.page.ensures.value c.page_in.ensures.size c.page.ensures.size
    c.in_ok-put_page.ensures c.loop-i.invariant
