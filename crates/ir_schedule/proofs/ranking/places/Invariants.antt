use Rattle.std.proofs.Common.{◌≡◌, ◌++◌, ◌-◌}
use Rattle.ir_schedule.specs.Ranking.{first_places}
use Rattle.ir_schedule.proofs.ranking.places.Given as goal

abbrev pub invariant-places : goal.invariant-places
invariant-places l = l.places.items ++ first_places l.choices (l.count - l.counter) l.random ≡ first_places l.choices l.count l.fn.random
