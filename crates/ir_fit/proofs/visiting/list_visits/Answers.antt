use Rattle.ir_fit.proofs.PartlyListed.{listing_by_counts}
use Rattle.ir_fit.proofs.visiting.list_visits.Goals as goal

pub returns : goal.returns
returns c = listing_by_counts c.args.run.now c.list_rest.new.self.counts.items c.list_rest.new.self.visits c.sort.new.self
    c.in_ok-list_rest.ensures.listed c.in_ok-list_rest.ensures.all c.in_ok-sort.ensures
