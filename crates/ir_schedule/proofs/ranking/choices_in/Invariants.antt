use Rattle.std.proofs.Common.{◌≡◌, drop}
use Rattle.ir_schedule.specs.Ranking.{choices_from}
use Rattle.ir_schedule.proofs.ranking.choices_in.Given as goal

abbrev pub invariant-threads : goal.invariant-threads
invariant-threads l = choices_from l.total (drop l.count-index l.choices) ≡ choices_from 0 l.choices
