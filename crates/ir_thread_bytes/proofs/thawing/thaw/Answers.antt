use Rattle.std.proofs.Common.{◌≡◌, ◌∙◌, subst}
use Rattle.std.specs.Prelude.{IfOk}
use Rattle.ir_mach.specs.Pages.{pages_of}
use Rattle.ir_thread.specs.Frames.{framed_thread}
use Rattle.ir_thread_bytes.specs.Thawed.{changed_pages}
use Rattle.ir_thread_bytes.proofs.thawing.thaw.Goals as goal

pub returns : goal.returns
returns c =
    subst (λ z. IfOk c.with_memory.result (λ thread. thread ≡ framed_thread c.args.frame.now (pages_of z)))
    (c.change.ensures.value ∙ (λ i. changed_pages (c.in_ok-memory.ensures.items i) (c.tail.ensures i)))
    c.with_memory.ensures
