use Rattle.std.proofs.Common.{◌≡◌, ◌∙◌, [], ap, subst}
use Rattle.std.specs.Prelude.{IfOk}
use Rattle.ir_mach.specs.Core.{Core}
use Rattle.ir_mach.specs.Pages.{core_of, pages_of}
use Rattle.ir_thread.specs.Frames.{ThreadFrame, framed_thread}
use Rattle.ir_thread.proofs.thread.Thread.with_memory.Goals as goal

pub returns : goal.returns
returns c =
    subst (λ (core : Core). IfOk c.on_machine.result (λ thread. thread ≡ record (framed_thread c.args.frame.now []) { core = core }))
    (c.with_memory.ensures ∙ ap (λ (frame : ThreadFrame). core_of frame.registers (pages_of c.args.memory.items)) c.frame.view_is)
    c.on_machine.ensures
