use Rattle.std.proofs.Common.{rules}
use Rattle.ir_mach.specs.Core.{memory_size}
use Rattle.ir_mach.proofs.Lists.{filled_is_zero_padded}
use Rattle.ir_mach.proofs.mach.start_memory.Goals as goal

pub returns : goal.returns
returns c =
    filled_is_zero_padded c.resize.new.self.items c.extend_from_slice.new.self.items c.args.bytes.now memory_size _ c.requires
    (search rules) (search rules) c.in_ok-resize.ensures.items
