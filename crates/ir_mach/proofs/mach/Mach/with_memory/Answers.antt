use Rattle.std.proofs.Common.{◌∙◌, sym, ap}
use Rattle.ir_mach.proofs.Pages.{core_of_own_pages, with_memory}
use Rattle.ir_mach.proofs.mach.Mach.with_memory.Goals as goal

pub returns : goal.returns
returns c =
    ap (with_memory c.args.memory.items) c.regs.view_is
    ∙ sym (core_of_own_pages (with_memory c.args.memory.items c.args.regs.now) c.requires)
