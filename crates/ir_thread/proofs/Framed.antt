-- A thread built from its frame and its pages.
use Rattle.std.proofs.Common.{◌≡◌, length, ap}
use Rattle.ir_mach.specs.Core.{Core, memory_size}
use Rattle.ir_mach.specs.Pages.{pages_of}
use Rattle.ir_mach.proofs.CallerLemmas as mach
use Rattle.ir_thread.specs.State.{ThreadState}
use Rattle.ir_thread.specs.Frames.{frame_of, framed_thread}

abbrev with_core : ThreadState → Core → ThreadState
with_core s core = record s { core = core }

pub thread_of_own_frame : (s : ThreadState) → length s.core.memory ≡ memory_size → framed_thread (frame_of s) (pages_of s.core.memory) ≡ s
thread_of_own_frame s size = ap (with_core s) (mach.core_of_own_pages s.core size)
