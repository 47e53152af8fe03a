use Rattle.std.proofs.Common.{◌≤◌, ◌∙◌, ℕ, sym, ap, subst, arith}
use Rattle.ir_cut.specs.Positions.{EachRun, cut_of, last_of}
use Rattle.ir_hits.specs.Searching.{IsNextHit}
use Rattle.ir_timeline.specs.Hand.{IsCutOf}
use Rattle.ir_gdb.specs.Stub.{Stub, stub_spoken}
use Rattle.ir_gdb.specs.Points.{downwards_of}
use Rattle.ir_gdb.specs.Conditions.{StopsDownwards}
use Rattle.ir_gdb.proofs.Nexts.{hit_is_between, stop_at_of_spoken}
use Rattle.ir_command.specs.declared.command.Direction.TheVariants.{Backwards}
use Rattle.ir_gdb.proofs.Previous.{downwards_of_spoken, next_hit_by_points, lowest_hit_downwards, lowest_of_next_hit, comes_back_further, back_to_spoken}
use Rattle.ir_gdb.proofs.Previous.{none_in_empty_stretch, last_from_if_no_hit, last_from_with_hit, last_from_at_end, last_to_top, last_with_latest}
use Rattle.ir_gdb.proofs.remote.Remote.last_stop_from.Goals as goal

pub cut_down-requires-clause-from : goal.cut_down-requires-clause-from
cut_down-requires-clause-from g c = subst (λ (x : Stub). IsCutOf x.desk.fitted c.args.top.now) (sym c.speak.ensures) c.requires.cut

pub hits-init : goal.hits-init
hits-init g c =
    let s = c.args.self.now.stub in
    let low = c.requires.within in
    let to = c.position-to.ensures in
    record {
      stub = c.speak.ensures;
      cut = c.in_ok-at.ensures.cut;
      there = c.in_ok-at.ensures.there;
      above = omega arith;
      within = omega (arith, low, to);
      last = λ run whole. none_in_empty_stretch (StopsDownwards run s c.args.thread c.args.watched) _;
    }

pub next_hit-requires-clause-within : goal.next_hit-requires-clause-within
next_hit-requires-clause-within g c κs within =
    let s = c.args.self.now.stub in
    let t = c.args.thread in
    let is = c.hits.invariant in
    let there = is.there in
    let high = is.within in
    let to = c.position-to.ensures in
    let last = ap (λ (x : Stub). last_of x.desk.fitted t) is.stub in
    let end = c.requires.last in
    (omega (arith, there, high), omega (arith, to, last, end))

pub returns-in_default-clause-stop : goal.returns-in_default-clause-stop
returns-in_default-clause-stop g c =
    let s = c.args.self.now.stub in
    let t = c.args.thread in
    let w = c.args.watched in
    let is = c.hits.invariant in
    let are = c.as_slice-points.ensures.value ∙ c.in_ok-points.ensures.points ∙ downwards_of_spoken s c.speak.new.self.stub t w c.speak.ensures in
    let finds = subst (λ (n : ℕ). EachRun s.desk.fitted (λ run. IsNextHit s.desk.fitted run (downwards_of s t w) t n c.position-to.result c.in_ok-next.next)) is.there
    (next_hit_by_points s c.hits.self.stub t (cut_of c.hits.at t) c.position-to.result c.as_slice-points.result.now (downwards_of s t w) c.in_ok-next.next is.stub are
    c.in_ok-next.ensures.finds) in
    last_to_top s t w c.args.low c.position-to.result c.args.top.now c.hits.found c.position-to.ensures
    (last_from_if_no_hit s t _ c.hits.position c.position-to.result w c.hits.found c.in_ok-next.next c.in_default.is is.within is.last finds)

pub cut_down-requires-in-hits-clause-from : goal.cut_down-requires-in-hits-clause-from
cut_down-requires-in-hits-clause-from g c =
    let same = c.next_hit.ensures.stub ∙ ap (λ (x : Stub). stub_spoken x) c.hits.invariant.stub in
    subst (λ (x : Stub). IsCutOf x.desk.fitted c.args.top.now) (sym same) c.requires.cut

pub decide_below-requires-clause-comes : goal.decide_below-requires-clause-comes
decide_below-requires-clause-comes g c κs within =
    let s = c.args.self.now.stub in
    let t = c.args.thread in
    let h = c.in-Some.hit in
    let same = c.next_hit.ensures.stub ∙ ap (λ (x : Stub). stub_spoken x) c.hits.invariant.stub in
    let between = hit_is_between (cut_of c.hits.at t) c.position-to.result c.in_ok-next.next h c.in-Some.is c.in_ok-next.ensures.between in
    let high = between.1 in
    let to = c.position-to.ensures in
    back_to_spoken s c.next_hit.new.self.stub t h.position c.in_ok-at-2.at same
    (comes_back_further s c.next_hit.new.self.stub t (cut_of c.args.top.now t) h.position c.args.top.now c.in_ok-at-2.at same (omega (arith, high, to)) c.requires.comes
    c.in_ok-at-2.ensures.greatest)

pub decide_below-requires-clause-lowest : goal.decide_below-requires-clause-lowest
decide_below-requires-clause-lowest g c κs within =
    let s = c.args.self.now.stub in
    let t = c.args.thread in
    let w = c.args.watched in
    let is = c.hits.invariant in
    let h = c.in-Some.hit in
    let same = c.next_hit.ensures.stub ∙ ap (λ (x : Stub). stub_spoken x) is.stub in
    let are = c.as_slice-points.ensures.value ∙ c.in_ok-points.ensures.points ∙ downwards_of_spoken s c.speak.new.self.stub t w c.speak.ensures in
    let finds = next_hit_by_points s c.hits.self.stub t (cut_of c.hits.at t) c.position-to.result c.as_slice-points.result.now (downwards_of s t w) c.in_ok-next.next is.stub
    are c.in_ok-next.ensures.finds in
    lowest_hit_downwards s c.next_hit.new.self.stub t h.position h.number w same
    (lowest_of_next_hit s t (cut_of c.hits.at t) c.position-to.result (downwards_of s t w) c.in_ok-next.next h c.in-Some.is finds)

pub hits-preserved : goal.hits-preserved
hits-preserved g c =
    let s = c.args.self.now.stub in
    let t = c.args.thread in
    let w = c.args.watched in
    let is = c.hits.invariant in
    let h = c.in-Some.hit in
    let cut = c.in_ok-at-2.at in
    let same = c.next_hit.ensures.stub ∙ ap (λ (x : Stub). stub_spoken x) is.stub in
    let between = hit_is_between (cut_of c.hits.at t) c.position-to.result c.in_ok-next.next h c.in-Some.is c.in_ok-next.ensures.between in
    let up = between.0 in
    let there = is.there in
    let above = is.above in
    let are = c.as_slice-points.ensures.value ∙ c.in_ok-points.ensures.points ∙ downwards_of_spoken s c.speak.new.self.stub t w c.speak.ensures in
    let finds = subst (λ (n : ℕ). EachRun s.desk.fitted (λ run. IsNextHit s.desk.fitted run (downwards_of s t w) t n c.position-to.result c.in_ok-next.next)) is.there
    (next_hit_by_points s c.hits.self.stub t (cut_of c.hits.at t) c.position-to.result c.as_slice-points.result.now (downwards_of s t w) c.in_ok-next.next is.stub are
    c.in_ok-next.ensures.finds) in
    record {
      stub = c.decide_below.ensures.stub ∙ ap (λ (x : Stub). stub_spoken x) same;
      cut = subst (λ (x : Stub). IsCutOf x.desk.fitted cut) (sym c.decide_below.ensures.stub) c.in_ok-at-2.ensures.cut;
      there = c.in_ok-at-2.ensures.there;
      above = omega (arith, above, up, there);
      within = between.1;
      last = last_with_latest s t w c.args.low c.hits.found c.in_ok-decided.decided c.latest-found.result h c.latest-found.ensures
          (last_from_with_hit s t _ c.hits.position c.position-to.result w c.hits.found c.in_ok-next.next c.in_ok-decided.decided h c.in-Some.is (omega (arith, above))
          is.last finds (stop_at_of_spoken s c.next_hit.new.self.stub Backwards t w h.position c.in_ok-decided.decided same c.in_ok-decided.ensures.stop));
    }

pub returns-clause-stop : goal.returns-clause-stop
returns-clause-stop g c =
    let s = c.args.self.now.stub in
    let t = c.args.thread in
    let w = c.args.watched in
    let is = c.hits.invariant in
    let test = c.hits-test.false in
    let past : c.position-to.result ≤ c.hits.position = grind (arith, test) in
    let high = is.within in
    last_to_top s t w c.args.low c.position-to.result c.args.top.now c.hits.found c.position-to.ensures
    (last_from_at_end s t _ c.hits.position c.position-to.result w c.hits.found (omega (arith, past, high)) is.last)
