use Rattle.std.proofs.Common.{◌≡◌, ◌++◌, ◌-◌}
use Rattle.ir_schedule.specs.Ranking.{first_priorities, after_words}
use Rattle.ir_schedule.proofs.ranking.priorities.Given as goal

abbrev pub invariant-threads : goal.invariant-threads
invariant-threads l = record {
  priorities : l.priorities.items ++ first_priorities (l.threads - l.counter) l.random ≡ first_priorities l.threads l.fn.random;
  generator : after_words (l.threads - l.counter) l.random ≡ after_words l.threads l.fn.random;
}
