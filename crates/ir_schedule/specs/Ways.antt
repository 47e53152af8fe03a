-- The ways in which a seed chooses which thread continues.
use Rattle.std.specs.Prelude.{ℕ, ◌+◌, ◌/◌, ◌%◌, ◌==◌, if◌then◌else◌}
use Rattle.ir_schedule.specs.declared.way.Way.{Way}
use Rattle.ir_schedule.specs.declared.way.Way.TheVariants.{Walk, Priorities, Mix}

-- what a seed of a mix does: an even one walks, an odd one goes by priorities, of depth 2, 3 and 4 in turn
abbrev pub mixed : ℕ → Way
mixed seed = if seed % 2 == 0 then Walk else Priorities (2 + seed / 2 % 3)

-- how a seed chooses
abbrev pub way_of : Way → ℕ → Way
way_of Walk seed = Walk
way_of (Priorities depth) seed = Priorities depth
way_of Mix seed = mixed seed
