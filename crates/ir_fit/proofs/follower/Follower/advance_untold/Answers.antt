use Rattle.std.proofs.Common.{arith, refl, sym, subst, ◌∙◌}
use Rattle.std.specs.Prelude.{◌<◌, ◌≤◌}
use Rattle.ir_fit.specs.Follower.{all_ahead, FollowerGoesOn}
use Rattle.ir_fit.proofs.Moves.{goes_on_is_reflexive, goes_on_past_private, ahead_fewer_past_private, placed_after_private}
use Rattle.ir_fit.proofs.follower.Follower.advance_untold.Goals as goal

pub steps-init : goal.steps-init
steps-init c = record {
  goes = goes_on_is_reflexive c.args.self.now.trace c.args.self.now.flat c.args.self.now.places.items;
  trace = refl;
  sized =
      c.requires.sized;
}

pub steps-smaller : goal.steps-smaller
steps-smaller c = ahead_fewer_past_private c.steps.self.trace c.follow_ask.new.self.trace c.steps.self.flat c.run_to_ask-steps.new.self c.follow_ask.new.self.flat
    c.args.t c.run_to_ask-steps.result.0 c.run_to_ask-steps.ensures.went c.in_default.ensures.fewer

pub steps-preserved : goal.steps-preserved
steps-preserved c = record {
  goes = goes_on_past_private c.args.self.now.trace c.steps.self.trace c.args.self.now.flat c.steps.self.flat c.run_to_ask-steps.new.self
      c.follow_ask.new.self.flat c.args.self.now.places.items c.steps.self.places.items c.follow_ask.new.self.places.items c.args.t
      c.run_to_ask-steps.result.0 c.steps_left-ahead.result c.steps.invariant.trace c.steps.invariant.goes c.run_to_ask-steps.ensures.went
      (let a = c.run_to_ask-steps.ensures.within in let m = c.step_limit-limit.ensures in omega (arith, a, m)) c.steps_left-ahead.ensures c.follow_ask.ensures.goes;
  trace = c.follow_ask.ensures.trace ∙ c.steps.invariant.trace;
  sized = c.follow_ask.ensures.sized;
}

pub follow_ask-requires-clause-sized : goal.follow_ask-requires-clause-sized
follow_ask-requires-clause-sized c = record {
  emitted = c.steps.invariant.sized.emitted ∙ sym c.run_to_ask-steps.ensures.went.threads;
  known = c.steps.invariant.sized.known ∙ sym c.run_to_ask-steps.ensures.went.threads;
  placed = placed_after_private c.steps.self.trace c.steps.self.flat c.run_to_ask-steps.new.self c.steps.self.places.items c.args.t
      c.run_to_ask-steps.result.0 c.steps.invariant.sized.placed c.run_to_ask-steps.ensures.went;
}

pub returns-in-Some-clause-goes : goal.returns-in-Some-clause-goes
returns-in-Some-clause-goes c = subst (λ z. FollowerGoesOn c.args.self.now.trace c.args.self.now.flat c.args.self.now.places.items z c.note.new.self.places.items)
    (sym c.note.ensures.flat)
    (subst (FollowerGoesOn c.args.self.now.trace c.args.self.now.flat c.args.self.now.places.items c.follow_ask.new.self.flat)
    (sym c.note.ensures.places)
    (goes_on_past_private c.args.self.now.trace c.steps.self.trace c.args.self.now.flat c.steps.self.flat c.run_to_ask-steps.new.self
    c.follow_ask.new.self.flat c.args.self.now.places.items c.steps.self.places.items c.follow_ask.new.self.places.items c.args.t
    c.run_to_ask-steps.result.0 c.steps_left-ahead.result c.steps.invariant.trace c.steps.invariant.goes c.run_to_ask-steps.ensures.went
    (let a = c.run_to_ask-steps.ensures.within in let m = c.step_limit-limit.ensures in omega (arith, a, m)) c.steps_left-ahead.ensures c.follow_ask.ensures.goes))

pub returns-then-steps-pause-clause-goes : goal.returns-then-steps-pause-clause-goes
returns-then-steps-pause-clause-goes c = subst (λ z. FollowerGoesOn c.args.self.now.trace c.args.self.now.flat c.args.self.now.places.items z c.pause.new.self.places.items)
    (sym c.pause.ensures.flat)
    (subst (FollowerGoesOn c.args.self.now.trace c.args.self.now.flat c.args.self.now.places.items c.follow_ask.new.self.flat)
    (sym c.pause.ensures.places)
    (goes_on_past_private c.args.self.now.trace c.steps.self.trace c.args.self.now.flat c.steps.self.flat c.run_to_ask-steps.new.self
    c.follow_ask.new.self.flat c.args.self.now.places.items c.steps.self.places.items c.follow_ask.new.self.places.items c.args.t
    c.run_to_ask-steps.result.0 c.steps_left-ahead.result c.steps.invariant.trace c.steps.invariant.goes c.run_to_ask-steps.ensures.went
    (let a = c.run_to_ask-steps.ensures.within in let m = c.step_limit-limit.ensures in omega (arith, a, m)) c.steps_left-ahead.ensures c.follow_ask.ensures.goes))

pub returns-then-taken-ge-MOST_UNTOLD-clause-goes : goal.returns-then-taken-ge-MOST_UNTOLD-clause-goes
returns-then-taken-ge-MOST_UNTOLD-clause-goes c = goes_on_past_private c.args.self.now.trace c.steps.self.trace c.args.self.now.flat c.steps.self.flat c.run_to_ask-steps.new.self
    c.follow_ask.new.self.flat c.args.self.now.places.items c.steps.self.places.items c.follow_ask.new.self.places.items c.args.t
    c.run_to_ask-steps.result.0 c.steps_left-ahead.result c.steps.invariant.trace c.steps.invariant.goes c.run_to_ask-steps.ensures.went
    (let a = c.run_to_ask-steps.ensures.within in let m = c.step_limit-limit.ensures in omega (arith, a, m)) c.steps_left-ahead.ensures c.follow_ask.ensures.goes

pub returns-then-taken-ge-MOST_UNTOLD-clause-fewer : goal.returns-then-taken-ge-MOST_UNTOLD-clause-fewer
returns-then-taken-ge-MOST_UNTOLD-clause-fewer c more =
    let less : all_ahead c.follow_ask.new.self.trace c.follow_ask.new.self.flat < all_ahead c.steps.self.trace c.steps.self.flat =
    ahead_fewer_past_private c.steps.self.trace c.follow_ask.new.self.trace c.steps.self.flat c.run_to_ask-steps.new.self c.follow_ask.new.self.flat
    c.args.t c.run_to_ask-steps.result.0 c.run_to_ask-steps.ensures.went c.in_default.ensures.fewer in
    let most : all_ahead c.steps.self.trace c.steps.self.flat ≤ all_ahead c.args.self.now.trace c.args.self.now.flat =
    subst (λ z. all_ahead z c.steps.self.flat ≤ all_ahead c.args.self.now.trace c.args.self.now.flat) (sym c.steps.invariant.trace) c.steps.invariant.goes.fewer in
    omega (arith, less, most)
