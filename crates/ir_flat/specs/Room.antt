-- Threads with a place for each object.
use Rattle.std.specs.Prelude.{◌≡◌, ◌<◌, ℕ, List, length, slice_index, Option, ◌+◌, if◌then◌else◌}
use Rattle.std.specs.List.{slice_index_or}
use Rattle.ir_thread.specs.State.{ThreadState}
use Rattle.ir_flat.specs.Flat.{idle}
use Rattle.ir_object.specs.Cell.{Cell, readers, has_writer}
use Rattle.ir_runs.specs.Machine.{Object}
use Rattle.ir_runs.specs.declared.access.Access.{Access}

-- each of these threads has a place for each of this many objects
abbrev pub HaveRoom : List ThreadState → ℕ → Type 0
HaveRoom threads objects = (t : ℕ) → t < length threads → length (slice_index_or threads t idle).held ≡ objects

-- the object whose word and contents these are, with these threads inside
abbrev pub object_with : Cell → (ℕ → Option Access) → Object
object_with c inside = record { version = c.fields.version; left = c.fields.left; inside = inside; words = slice_index c.words }

-- how many entries an object has seen at least
abbrev pub entries_seen : ℕ → Object → ℕ
entries_seen n b = b.version + b.left + readers n b.inside + (if has_writer n b.inside then 1 else 0)
