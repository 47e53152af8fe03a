use Rattle.std.proofs.Common.{refl, ◌∙◌}
use Rattle.ir_fit.specs.Follower.{FollowerGoesOn}
use Rattle.ir_fit.proofs.Moves.{goes_on_is_reflexive, goes_on_if_end_same, goes_on_trans_3, ahead_fewer_goes_on}
use Rattle.ir_fit.proofs.Passed.{follower_is_along_trace, passed_states_equal}
use Rattle.ir_fit.proofs.follower.Follower.follow.Given as given
use Rattle.ir_fit.proofs.follower.Follower.follow.Goals as goal
use Rattle.ir_fit.proofs.follower.Follower.follow.Goals.{After-note_stretch}

advanced : (g : given.Over) (c : After-note_stretch g) → FollowerGoesOn c.take.new.self.trace c.take.new.self.flat c.take.new.self.places.items c.note_stretch.new.self.flat
    c.note_stretch.new.self.places.items
advanced g c = goes_on_if_end_same c.take.new.self.trace c.take.new.self.flat c.advance.new.self.flat c.note_stretch.new.self.flat
    c.take.new.self.places.items c.advance.new.self.places.items c.note_stretch.new.self.places.items c.note_stretch.ensures.flat
    c.note_stretch.ensures.places c.advance.ensures.goes

pub moves-init : goal.moves-init
moves-init g c = record {
  goes = goes_on_is_reflexive c.args.self.now.trace c.args.self.now.flat c.args.self.now.places.items;
  trace = refl;
  sized =
      c.requires;
  passed = λ guest k passed. passed;
}

pub moves-preserved : goal.moves-preserved
moves-preserved g c = record {
  goes = goes_on_trans_3 c.args.self.now.trace c.next.new.self.trace c.take.new.self.trace c.args.self.now.flat c.moves.self.flat
      c.next.new.self.flat c.take.new.self.flat c.note_stretch.new.self.flat
      c.args.self.now.places.items c.moves.self.places.items c.next.new.self.places.items c.take.new.self.places.items
      c.note_stretch.new.self.places.items
      c.moves.invariant.goes c.next.ensures.flat c.next.ensures.places (c.next.ensures.trace ∙ c.moves.invariant.trace) c.take.ensures.goes
      c.take.ensures.trace (advanced g c);
  trace = c.note_stretch.ensures.trace ∙ c.advance.ensures.trace ∙ c.take.ensures.trace ∙ c.next.ensures.trace ∙ c.moves.invariant.trace;
  sized = c.note_stretch.ensures.sized;
  passed = λ guest k passed. passed_states_equal guest c.args.self.now.trace c.moves.self.trace c.moves.self.flat c.moves.self.flat
      c.moves.passing.states.items c.next.new.passing.states.items c.moves.invariant.trace refl (c.next.ensures.passed guest)
      (follower_is_along_trace guest c.args.self.now.trace c.moves.self.flat c.moves.self.places.items (c.moves.invariant.goes.follows guest k))
      (c.moves.invariant.passed guest k passed);
}

pub returns-clause-passed : goal.returns-clause-passed
returns-clause-passed g c = λ guest k passed. passed_states_equal guest c.args.self.now.trace c.moves.self.trace c.moves.self.flat c.moves.self.flat
    c.moves.passing.states.items c.next.new.passing.states.items c.moves.invariant.trace refl (c.next.ensures.passed guest)
    (follower_is_along_trace guest c.args.self.now.trace c.moves.self.flat c.moves.self.places.items (c.moves.invariant.goes.follows guest k))
    (c.moves.invariant.passed guest k passed)

pub moves-smaller : goal.moves-smaller
moves-smaller g c = ahead_fewer_goes_on c.moves.self.trace c.next.new.self.trace c.take.new.self.trace c.note_stretch.new.self.trace
    c.moves.self.flat c.next.new.self.flat c.take.new.self.flat c.note_stretch.new.self.flat c.take.new.self.places.items
    c.note_stretch.new.self.places.items c.next.ensures.flat c.next.ensures.trace c.take.ensures.fewer (advanced g c)
    (c.note_stretch.ensures.trace ∙ c.advance.ensures.trace)
