-- A thread without the private memory that is as at the start, beside what answers it.
use Rattle.std.specs.Prelude.{◌≡◌, ℕ, Bool, List, [], ◌++◌, length, take, if◌then◌else◌}
use Rattle.ir_world.specs.Sources.{Source}
use Rattle.ir_thread.specs.Frames.{ThreadFrame}
use Rattle.ir_thread.specs.State.{ThreadState}
use Rattle.ir_thread_bytes.specs.Basis.{Basis}
use Rattle.ir_thread_bytes.specs.Frozen.{page_changes, frozen, is_over}
use Rattle.ir_thread_bytes.specs.Thawed.{before_changes, thawed}

-- the bytes of a thread with the changes of its private memory, at which of them these begin, and whether the thread is over
pub record Packed : Type 0 where
  pub bytes : List ℕ
  pub at : ℕ
  pub over : Bool

-- Those of this thread. Where it isn't over, its frozen bytes end with the changes; else the changes come behind them.
abbrev pub packed_of : Basis → ThreadState → Packed
packed_of basis s = record {
  bytes = if is_over s then frozen basis s [] ++ page_changes 0 basis.memory s.core.memory else frozen basis s [];
  at = if is_over s then length (frozen basis s []) else before_changes s 0;
  over = is_over s;
}

-- the frozen bytes among these
abbrev pub seen_in : Packed → List ℕ
seen_in packed = if packed.over then take packed.at packed.bytes else packed.bytes

-- the frame of a thread, its bytes with the changes of its private memory, what answers it, and the number of a thread that looks the same
pub record StoreRow : Type 0 where
  pub frame : ThreadFrame
  pub packed : Packed
  pub source : Source
  pub look : ℕ

-- the thread whose private memory was `start` at first
abbrev pub thread_in : List ℕ → StoreRow → ThreadState
thread_in start row = thawed start row.frame row.packed.at row.packed.bytes

-- beside what answers it
abbrev pub beside_in : List ℕ → StoreRow → ThreadState × Source
beside_in start row = (thread_in start row, row.source)

-- the bytes that a row has are its own thread's
abbrev pub HasOwnBytes : Basis → StoreRow → Type 0
HasOwnBytes basis row = row.packed ≡ packed_of basis (thread_in basis.memory row)

abbrev pub look_of : StoreRow → ℕ
look_of row = row.look
