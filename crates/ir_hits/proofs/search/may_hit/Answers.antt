use Rattle.ir_hits.proofs.Hitting.{unconcerned_has_no_hit}
use Rattle.ir_hits.proofs.search.may_hit.Goals as goal

pub returns : goal.returns
returns c never f run k n h = unconcerned_has_no_hit f run c.args.points.now c.args.t k n (c.some_concerns.ensures never) h
