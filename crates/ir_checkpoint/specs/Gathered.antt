-- What is known of threads whose frames were taken.
use Rattle.std.specs.Prelude.{◌≡◌, length}
use Rattle.ir_mach.specs.Core.{memory_size}
use Rattle.ir_thread.specs.State as thread

abbrev pub HasMemory : thread.ThreadState → Type 0
HasMemory t = length t.core.memory ≡ memory_size
