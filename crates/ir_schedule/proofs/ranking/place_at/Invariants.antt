use Rattle.std.proofs.Common.{◌≡◌, drop}
use Rattle.ir_schedule.specs.Ranking.{place_from}
use Rattle.ir_schedule.proofs.ranking.place_at.Given as goal

abbrev pub invariant-threads : goal.invariant-threads
invariant-threads l = place_from l.thread (drop l.thread l.choices) l.choice ≡ place_from 0 l.choices l.number
