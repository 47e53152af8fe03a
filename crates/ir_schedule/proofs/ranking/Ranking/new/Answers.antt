use Rattle.std.proofs.Common.{◌∙◌, ap, length}
use Rattle.ir_schedule.proofs.Words.{length-first_priorities}
use Rattle.ir_schedule.proofs.ranking.Ranking.new.Goals as goal

pub returns-clause-threads : goal.returns-clause-threads
returns-clause-threads c = ap length c.in_ok-priorities.ensures.value ∙ length-first_priorities c.args.threads c.args.random.now
