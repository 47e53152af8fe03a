use Rattle.std.proofs.Common.{◌∙◌, ap, subst}
use Rattle.ir_shrink.specs.Shrinking.{endless_at, goal_of, IsNoBetter}
use Rattle.ir_shrink.proofs.judging.Judge.longer_at.Goals as goal

pub returns : goal.returns
returns g c = record {
  left_out = c.requires.left_out;
  endless = subst (IsNoBetter (goal_of c.args.self.now.image.now c.args.self.now.plan.now) c.args.kept.now.switches)
      (c.as_slice-2.ensures.value ∙ c.in_ok-longer.ensures ∙ ap (endless_at c.endless_of-endless.result c.args.place 0) c.as_slice.ensures.value
      ∙ ap (λ e. endless_at e c.args.place 0 c.args.kept.now.items.items) c.endless_of-endless.ensures) (rw c.in-None.is at c.in_ok-found.ensures);
  merged = c.requires.merged;
}
