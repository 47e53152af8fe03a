use Rattle.std.proofs.Common.{◌*◌, take, drop, map, length, ap, ◌∙◌}
use Rattle.ir_thread.specs.Frames.{ThreadFrame, framed_thread}
use Rattle.ir_checkpoint.specs.Store.{Page, in_force}
use Rattle.ir_checkpoint.proofs.Rebuilt.{pages_reach_past, rebuilt_threads_step}
use Rattle.ir_checkpoint.proofs.store.threads_at.Goals as goal

pub thread_at-requires-clause-fits : goal.thread_at-requires-clause-fits
thread_at-requires-clause-fits c = pages_reach_past (length c.args.frames.now) c.loop-t.t c.args.entries.now c.requires.fits c.loop-t-test.true

pub loop-t-preserved : goal.loop-t-preserved
loop-t-preserved c =
    let force = in_force c.args.entries.now in
    let t = c.loop-t.t in
    rebuilt_threads_step c.args.frames.now force t c.index-frames-t.result c.loop-t.threads.items _ _ _ c.loop-t-test.true c.in_ok-push.ensures.items
    (c.in_ok-thread_at.ensures ∙ ap (λ (f : ThreadFrame). framed_thread f (map (λ (p : Page). p.bytes) (take 16 (drop (16 * t) force)))) c.index-frames-t.is)
    c.loop-t.invariant
