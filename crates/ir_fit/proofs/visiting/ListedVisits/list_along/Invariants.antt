use Rattle.ir_fit.specs.PartlyListed.{AreListed}
use Rattle.ir_fit.proofs.visiting.ListedVisits.list_along.Given as goal

abbrev pub invariant-loop-stretch : goal.invariant-loop-stretch
invariant-loop-stretch l = AreListed l.run l.self.counts.items l.self.visits
