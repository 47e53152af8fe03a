use Rattle.std.proofs.Common.{◌≡◌, ◌++◌, flat_map, drop}
use Rattle.ir_thread_bytes.specs.Frozen.{word}
use Rattle.ir_liveness.specs.Table.{kept_registers}
use Rattle.ir_thread_bytes.proofs.freezing.put_registers.Given as goal

abbrev pub invariant-loop-n : goal.invariant-loop-n
invariant-loop-n l =
    l.out.items ++ flat_map word (drop l.n (kept_registers l.live l.mach)) ≡ l.fn.out.items ++ word l.mach.pc ++ flat_map word (kept_registers l.live l.mach)
