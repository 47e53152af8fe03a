-- Points that may be set.
use Rattle.std.specs.Prelude.{⊤, ◌<◌, List}
use Rattle.std.specs.List.{AllByRecursion}
use Rattle.ir_mach.specs.Within.{IsMemoryWord}
use Rattle.ir_command.specs.declared.command.Point.{Point}
use Rattle.ir_command.specs.declared.command.Point.TheVariants.{Break, Watch, WatchObject}
use Rattle.ir_hits.specs.Hits.{Numbered, objects_start}

-- a watched word below the objects' is one of private memory
abbrev pub IsWatchable : Point → Type 0
IsWatchable (Break t address) = ⊤
IsWatchable (Watch t address) = address < objects_start → IsMemoryWord address
IsWatchable (WatchObject object) = ⊤

abbrev pub AreWatchable : List Numbered → Type 0
AreWatchable points = AllByRecursion (λ p. IsWatchable p.point) points
