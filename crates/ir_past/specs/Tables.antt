-- The tables of a pass over a trace.
use Rattle.std.specs.Prelude.{ℕ, List, [], Option, None}
use Rattle.std.specs.List.{slice_get, slice_index_or}
use Rattle.std.specs.Option.{option_map_or}
use Rattle.ir_past.specs.declared.place.Place.{Place}
use Rattle.ir_past.specs.declared.makers.ObjectMakers.{ObjectMakers}
use Rattle.ir_past.specs.declared.makers.Makers.{Makers}
use Rattle.ir_past.specs.declared.reads.ObjectReads.{ObjectReads}
use Rattle.ir_past.specs.declared.reads.Reads.{Reads}
use Rattle.ir_past.specs.declared.last_reads.ReadEntry.{ReadEntry}

-- the write entry that is noted at a version
abbrev pub made_at : ObjectMakers → ℕ → Option Place
made_at m v = slice_index_or m.writes.items v None

-- the write entry of object o that is noted at version v
abbrev pub maker_in : Makers → ℕ → ℕ → Option Place
maker_in m o v = option_map_or (λ (x : ObjectMakers). made_at x v) (slice_get m.objects.items o) None

-- the read entries that are noted at a version
abbrev pub read_at_row : ObjectReads → ℕ → List Place
read_at_row m v = option_map_or (λ x. x.items) (slice_get m.versions.items v) []

-- the read entries of object o that are noted at version v
abbrev pub read_in : Reads → ℕ → ℕ → List Place
read_in m o v = option_map_or (λ (x : ObjectReads). read_at_row x v) (slice_get m.objects.items o) []

-- the read entry that is the last entry of object o, where that is noted
abbrev pub last_read : List (Option ReadEntry) → ℕ → Option ReadEntry
last_read table o = slice_index_or table o None
