use Rattle.std.proofs.Common.{◌≡◌, ◌<◌, ◌-◌, ◌∙◌, ap, subst, arith}
use Rattle.ir_weave.specs.Standing.{flat_in, positions}
use Rattle.ir_hits.specs.Searching.{IsNextHit, reached_position, window_start}
use Rattle.ir_hits.proofs.Windows.{reached_is_hit_position, next_hit_is_last_to, last_hit_without_next}
use Rattle.ir_hits.proofs.search.last_in.Goals as goal

pub hits-smaller : goal.hits-smaller
hits-smaller g c =
    let f = c.args.search.fitted.now in
    let old = positions (flat_in f c.hits.state) c.args.search.t in
    let new = positions (flat_in f c.next_hit.new.state) c.args.search.t in
    let run = c.known.ensures.run.run in
    let next = subst (IsNextHit f run c.args.search.points.now c.args.search.t old c.args.search.to) c.in-Some.is
    (c.in_ok-hit.ensures.hit run c.known.ensures.run.whole) in
    let at : new ≡ c.in-Some.hit.position = reached_is_hit_position c.args.search.to new c.in_ok-hit.field-0 c.in-Some.hit
    c.in_ok-hit.ensures.reached c.in-Some.is in
    let less : c.args.search.to - new < c.args.search.to - old = omega (arith, next.0, next.1, at) in
    less

pub hits-preserved : goal.hits-preserved
hits-preserved g c =
    let f = c.args.search.fitted.now in
    let old = positions (flat_in f c.hits.state) c.args.search.t in
    let new = positions (flat_in f c.next_hit.new.state) c.args.search.t in
    let run = c.known.ensures.run.run in
    let next = subst (IsNextHit f run c.args.search.points.now c.args.search.t old c.args.search.to) c.in-Some.is
    (c.in_ok-hit.ensures.hit run c.known.ensures.run.whole) in
    let at : new ≡ c.in-Some.hit.position = reached_is_hit_position c.args.search.to new c.in_ok-hit.field-0 c.in-Some.hit
    c.in_ok-hit.ensures.reached c.in-Some.is in
    let above = c.hits.invariant.above in
    record {
      stands = c.next_hit.ensures.stands;
      within = omega (arith, at, next.1);
      above = omega (arith, above, at, next.0);
      last = λ run whole. next_hit_is_last_to f run c.args.search.points.now c.args.search.t (positions (flat_in f c.args.state.now) c.args.search.t) old c.args.search.to new
          c.in-Some.hit above at
          (subst (IsNextHit f run c.args.search.points.now c.args.search.t old c.args.search.to) c.in-Some.is (c.in_ok-hit.ensures.hit run whole));
      size = c.next_hit.ensures.size ∙ c.hits.invariant.size;
    }

pub returns-clause-hit : goal.returns-clause-hit
returns-clause-hit g c run whole =
    let f = c.args.search.fitted.now in
    let old = positions (flat_in f c.hits.state) c.args.search.t in
    last_hit_without_next f run c.args.search.points.now c.args.search.t (window_start (positions (flat_in f c.args.state.now) c.args.search.t)) old c.args.search.to
    c.hits.invariant.within c.hits.found (c.hits.invariant.last run whole)
    (subst (IsNextHit f run c.args.search.points.now c.args.search.t old c.args.search.to) c.in_default.is (c.in_ok-hit.ensures.hit run whole))

pub returns-clause-reached : goal.returns-clause-reached
returns-clause-reached g c = c.in_ok-hit.ensures.reached ∙ ap (reached_position c.args.search.to) c.in_default.is
