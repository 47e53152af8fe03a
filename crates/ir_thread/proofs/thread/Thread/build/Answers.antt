use Rattle.std.proofs.Common.{◌≡◌, ◌∙◌, ap, map, subst}
use Rattle.std.specs.Prelude.{IfOk}
use Rattle.ir_mach.specs.Pages.{pages_of}
use Rattle.ir_mach.proofs.CallerLemmas.{pages_of_joined_pages}
use Rattle.ir_thread.specs.Frames.{framed_thread}
use Rattle.ir_thread.proofs.thread.Thread.build.Goals as goal

pub returns : goal.returns
returns c =
    subst (λ pages. IfOk c.with_memory.result (λ thread. thread ≡ framed_thread c.args.frame.now pages))
    (ap pages_of c.in_ok-joined.ensures.value ∙ pages_of_joined_pages (map (λ page. page.now) c.args.pages.now) c.requires)
    c.with_memory.ensures
