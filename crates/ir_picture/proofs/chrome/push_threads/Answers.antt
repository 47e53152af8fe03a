use Rattle.std.proofs.Common.{refl}
use Rattle.ir_picture.proofs.Texts.{all_threads_step, append_no_threads}
use Rattle.ir_picture.proofs.chrome.push_threads.Goals as goal

pub loop-thread-init : goal.loop-thread-init
loop-thread-init c = append_no_threads c.args.text.now.items

pub loop-thread-preserved : goal.loop-thread-preserved
loop-thread-preserved c = all_threads_step c.loop-thread.thread c.args.text.now.items c.loop-thread.text.items _ _ c.loop-thread.invariant refl
    c.in_ok-push_thread.ensures
