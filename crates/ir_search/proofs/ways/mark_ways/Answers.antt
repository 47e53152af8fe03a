use Rattle.std.proofs.Common.{◌∙◌}
use Rattle.ir_search.proofs.Marked.{has_old_marked_by_new, closed_back_is_marked}
use Rattle.ir_search.proofs.ways.mark_ways.Goals as goal

pub returns-then-not-sweep-clause-exact : goal.returns-then-not-sweep-clause-exact
returns-then-not-sweep-clause-exact g c = λ v. (
  λ is.
      has_old_marked_by_new (g.S.Successors.shape c.args.graph.now).noted c.args.threads c.args.marks.now c.sweeps.marks c.sweeps.invariant.nodes
      c.sweeps.invariant.ways v (c.sweep.ensures.ways v is),
  λ way.
      closed_back_is_marked (g.S.Successors.shape c.args.graph.now).noted c.args.threads c.args.marks.now c.sweep.new.marks
      (c.sweep.ensures.nodes ∙ c.sweeps.invariant.nodes) (λ w is. c.sweep.ensures.stays w (c.sweeps.invariant.stays w is))
      (c.sweep.ensures.back c.if-not-sweep.true) v way,
)

pub sweeps-preserved : goal.sweeps-preserved
sweeps-preserved g c = record {
  nodes = c.sweep.ensures.nodes ∙ c.sweeps.invariant.nodes;
  stays = λ v is. c.sweep.ensures.stays v (c.sweeps.invariant.stays v is);
  ways = λ v is.
      has_old_marked_by_new (g.S.Successors.shape c.args.graph.now).noted c.args.threads c.args.marks.now c.sweeps.marks c.sweeps.invariant.nodes
      c.sweeps.invariant.ways v (c.sweep.ensures.ways v is);
}
