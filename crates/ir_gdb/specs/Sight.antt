-- What a thread in hand has: registers, and bytes at addresses.
use Rattle.std.specs.Prelude.{ℕ, ◌-◌, ◌/◌, ◌%◌, nat_lt, List, slice_get, slice_index, Option, None, option_map, if◌then◌else◌}
use Rattle.ir_image.specs.Guest.{Guest, object_words, object_count}
use Rattle.ir_mach.specs.Core.{Core}
use Rattle.ir_mach.specs.Execution.{byte_at}
use Rattle.ir_object.specs.Cell.{Cell}
use Rattle.ir_agent.specs.Evaluation.{Seen, scene_of}
use Rattle.ir_hits.specs.Hits.{objects_start, object_size}
use Rattle.ir_gdb.specs.Reads.{register_words, word_byte}

-- a guest, a thread of it, and its objects
pub record Sight : Type 0 where
  pub guest : Guest
  pub core : Core
  pub objects : List Cell

abbrev pub sight_of : Guest → Core → List Cell → Sight
sight_of guest core objects = record { guest = guest; core = core; objects = objects }

-- the byte of the objects, by how far it is from their start
abbrev pub object_byte_seen : Sight → ℕ → Option ℕ
object_byte_seen s offset =
    if nat_lt (offset / object_size) (object_count s.guest)
    then option_map (λ (cell : Cell). word_byte (object_words s.guest) (slice_index cell.words) (offset % object_size)) (slice_get s.objects (offset / object_size))
    else None

-- the byte at an address
abbrev pub byte_in_sight : Sight → ℕ → Option ℕ
byte_in_sight s address =
    if nat_lt address objects_start then byte_at s.guest.code s.core.memory address else object_byte_seen s (address - objects_start)

-- x0 to x31, and pc
abbrev pub register_in_sight : Sight → ℕ → Option ℕ
register_in_sight s n = slice_get (register_words s.core) n

-- what a condition reads
abbrev pub seen_in : Sight → Seen
seen_in s = scene_of (register_in_sight s) (byte_in_sight s)
