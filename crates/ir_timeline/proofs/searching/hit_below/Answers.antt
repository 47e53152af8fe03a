use Rattle.std.proofs.Common.{◌≡◌, ◌<◌, arith}
use Rattle.ir_weave.specs.Standing.{flat_in, positions}
use Rattle.ir_hits.specs.Searching.{window_start}
use Rattle.ir_timeline.proofs.Searches.{steps_are_own_position, last_hit_of_window, last_hit_is_none, no_hit_below_above_zero, nonzero_below_end}
use Rattle.ir_timeline.proofs.searching.hit_below.Goals.{then-position-eq0-via-then-position-eq0, then-position-eq0-via-else-position-eq0+then-not-may_hit}
use Rattle.ir_timeline.proofs.searching.hit_below.Goals as goal

pub returns-then-position-eq0-clause-hit : goal.returns-then-position-eq0-clause-hit
returns-then-position-eq0-clause-hit g c = elim c.then-position-eq0.branch [
  | then-position-eq0-via-then-position-eq0 w ↦ λ run whole j n low high h. omega (arith, high, w.if-position-eq0.true)
  | then-position-eq0-via-else-position-eq0+then-not-may_hit w ↦ λ run whole j n low high h.
      w.may_hit.ensures w.if-not-may_hit.true c.args.fitted.now run j n h
]

pub returns-in-Some-clause-hit : goal.returns-in-Some-clause-hit
returns-in-Some-clause-hit g c =
    let f = c.args.fitted.now in
    let t = c.args.t in
    last_hit_of_window f c.args.points.now t (window_start (positions (flat_in f c.in_ok-hand.field-0) t)) c.windows.to c.args.position
    c.in_ok-found.found c.in-Some.hit c.windows.invariant.within c.windows.invariant.none c.in_ok-found.ensures.hit c.in-Some.is

pub returns-then-from-eq0-clause-hit : goal.returns-then-from-eq0-clause-hit
returns-then-from-eq0-clause-hit g c =
    let f = c.args.fitted.now in
    let t = c.args.t in
    last_hit_is_none f c.args.points.now t (positions (flat_in f c.in_ok-hand.field-0) t) c.position_of-from.result c.windows.to c.args.position
    c.in_ok-found.found (steps_are_own_position f c.in_ok-hand.field-0 t c.position_of-from.result c.position_of-from.ensures) c.if-from-eq0.true
    c.windows.invariant.none c.in_ok-found.ensures.hit c.in_default.is

pub windows-preserved : goal.windows-preserved
windows-preserved g c =
    let f = c.args.fitted.now in
    let t = c.args.t in
    let from = c.position_of-from.result in
    let here : from ≡ positions (flat_in f c.in_ok-hand.field-0) t =
    steps_are_own_position f c.in_ok-hand.field-0 t from c.position_of-from.ensures in
    let less : from < c.windows.to =
    nonzero_below_end f t c.windows.to from c.in_ok-hand.field-0 c.in_ok-hand.ensures.before here c.if-from-eq0.false in
    record {
      hand = record { stands = c.last_hit.ensures.stands; checkpoints = c.restore_before.ensures.checkpoints };
      within = (let within = c.windows.invariant.within in omega (arith, less, within));
      none = no_hit_below_above_zero f c.args.points.now t (positions (flat_in f c.in_ok-hand.field-0) t) from c.windows.to c.args.position
          c.in_ok-found.found here c.if-from-eq0.false c.windows.invariant.none c.in_ok-found.ensures.hit c.in_default.is;
    }
