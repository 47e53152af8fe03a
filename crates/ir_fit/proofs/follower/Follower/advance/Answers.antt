use Rattle.std.proofs.Common.{refl, subst, ◌∙◌}
use Rattle.ir_fit.specs.Follower.{FollowerGoesOn}
use Rattle.ir_fit.proofs.Moves.{goes_on_is_reflexive, goes_on_is_transitive}
use Rattle.ir_fit.proofs.follower.Follower.advance.Goals as goal

pub told-init : goal.told-init
told-init g c = record {
  goes = goes_on_is_reflexive c.args.self.now.trace c.args.self.now.flat c.args.self.now.places.items;
  trace = refl;
  sized =
      c.requires.sized;
}

pub told-preserved : goal.told-preserved
told-preserved g c = record {
  goes = goes_on_is_transitive c.args.self.now.trace c.args.self.now.flat c.told.self.flat c.advance_untold-taken.new.self.flat
      c.args.self.now.places.items c.told.self.places.items c.advance_untold-taken.new.self.places.items c.told.invariant.goes
      (subst (λ z. FollowerGoesOn z c.told.self.flat c.told.self.places.items c.advance_untold-taken.new.self.flat c.advance_untold-taken.new.self.places.items)
      c.told.invariant.trace c.advance_untold-taken.ensures.goes);
  trace = c.advance_untold-taken.ensures.trace ∙ c.told.invariant.trace;
  sized = c.advance_untold-taken.ensures.sized;
}
