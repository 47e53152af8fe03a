use Rattle.std.proofs.Common.{◌≡◌, ◌≤◌, ◌∙◌, ap, arith}
use Rattle.ir_weave.specs.Standing.{flat_in, positions}
use Rattle.ir_hits.specs.Searching.{reached_position}
use Rattle.ir_cut.specs.Positions.{last_of}
use Rattle.ir_timeline.proofs.Searches.{steps_are_own_position, next_hit_is_first_above, no_hit_above_extends, first_above_is_none}
use Rattle.ir_timeline.proofs.searching.hit_above.Goals as goal

pub returns-in-Some-clause-hit : goal.returns-in-Some-clause-hit
returns-in-Some-clause-hit g c =
    let f = c.args.fitted.now in
    let t = c.args.t in
    next_hit_is_first_above f c.args.points.now t (positions (flat_in f c.args.hand.now.state) t) (positions (flat_in f c.stretches.hand.state) t)
    c.stretch_end-to.result c.in_ok-found.found c.in-Some.hit c.stretches.invariant.above c.stretches.invariant.none
    c.in_ok-found.ensures.hit c.in-Some.is

pub stretches-preserved : goal.stretches-preserved
stretches-preserved g c =
    let f = c.args.fitted.now in
    let t = c.args.t in
    let old = positions (flat_in f c.stretches.hand.state) t in
    let new = positions (flat_in f c.first_hit.new.state) t in
    let to = c.stretch_end-to.result in
    let at : new ≡ to = c.in_ok-found.ensures.reached ∙ ap (reached_position to) c.in_default.is in
    let here : c.position_of-in-stretches.result ≡ old =
    steps_are_own_position f c.stretches.hand.state t c.position_of-in-stretches.result c.position_of-in-stretches.ensures in
    let above = c.stretches.invariant.above in
    record {
      hand = record { stands = c.first_hit.ensures.stands; checkpoints = c.pass.ensures };
      above = omega (arith, above, at, here, c.stretch_end-to.ensures.above);
      none = no_hit_above_extends f c.args.points.now t (positions (flat_in f c.args.hand.now.state) t) old to new c.in_ok-found.found
          c.stretches.invariant.none c.in_ok-found.ensures.hit c.in_ok-found.ensures.reached c.in_default.is;
    }

pub returns-clause-hit : goal.returns-clause-hit
returns-clause-hit g c =
    let f = c.args.fitted.now in
    let t = c.args.t in
    let now = positions (flat_in f c.stretches.hand.state) t in
    let here : c.position_of.result ≡ now = steps_are_own_position f c.stretches.hand.state t c.position_of.result c.position_of.ensures in
    let all : last_of f t ≤ now = omega (arith, c.last_position-last.ensures, here, c.stretches-test.false) in
    first_above_is_none f c.args.points.now t (positions (flat_in f c.args.hand.now.state) t) now c.requires.thread all c.stretches.invariant.none
