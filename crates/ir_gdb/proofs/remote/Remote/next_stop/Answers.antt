use Rattle.std.proofs.Common.{◌≤◌, ◌∙◌, ℕ, List, sym, ap, subst, arith}
use Rattle.ir_cut.specs.Positions.{EachRun, cut_of}
use Rattle.ir_command.specs.declared.command.Direction.TheVariants.{Forwards}
use Rattle.ir_debug.specs.Machine.{StopsAt}
use Rattle.ir_hits.specs.Searching.{IsNextHit}
use Rattle.ir_timeline.specs.Hand.{IsCutOf}
use Rattle.ir_gdb.specs.Stub.{Stub, stub_spoken}
use Rattle.ir_gdb.specs.Points.{upwards_of}
use Rattle.ir_gdb.specs.Stops.{position_of}
use Rattle.ir_gdb.proofs.Nexts.{upwards_of_spoken, next_hit_of_spoken, lowest_hit_of_next, comes_at_start, comes_onward, none_stops_at_start, next_stop_if_no_hit}
use Rattle.ir_gdb.proofs.Nexts.{hit_is_between, none_stops_up_to_hit, next_stop_at_hit, next_stop_at_end, stop_at_of_spoken}
use Rattle.ir_gdb.proofs.remote.Remote.next_stop.Goals as goal

pub hits-init : goal.hits-init
hits-init g c =
    let s = c.args.self.now.stub in
    let u = c.speak.new.self.stub in
    let t = c.args.thread in
    let here = c.position-position.ensures.value ∙ ap (λ (x : Stub). position_of x t) c.speak.ensures in
    let low = c.requires.within.0 in
    record {
      stub = c.speak.ensures;
      cut = c.in_ok-at.ensures.cut;
      there = ap (λ (x : List ℕ). cut_of x t) c.in_ok-at.ensures.value ∙ sym c.position-position.ensures.value;
      above = omega (arith, here);
      within = omega (arith, here, low);
      comes = comes_at_start s u t c.position-position.result c.in_ok-at.at c.speak.ensures c.in_ok-at.ensures.value c.position-position.ensures.value c.in_ok-at.ensures.cut;
      none = none_stops_at_start s t c.position-position.result c.args.watched here;
    }

pub returns-in_default-clause-stop : goal.returns-in_default-clause-stop
returns-in_default-clause-stop g c =
    let s = c.args.self.now.stub in
    let t = c.args.thread in
    let w = c.args.watched in
    let is = c.hits.invariant in
    let are = c.as_slice-points.ensures.value ∙ c.in_ok-points.ensures.points ∙ upwards_of_spoken s c.speak.new.self.stub t w c.speak.ensures in
    let finds = subst (λ (n : ℕ). EachRun s.desk.fitted (λ run. IsNextHit s.desk.fitted run (upwards_of s t w) t n c.args.to c.in_ok-found.found)) is.there
    (next_hit_of_spoken s c.hits.self.stub t (cut_of c.hits.at t) c.args.to w c.as_slice-points.result.now c.in_ok-found.found is.stub are c.in_ok-found.ensures.finds) in
    next_stop_if_no_hit s t c.hits.position c.args.to w c.in_ok-found.found c.in_default.is is.none finds

pub cut_on-requires-clause-from : goal.cut_on-requires-clause-from
cut_on-requires-clause-from g c = subst (λ (x : Stub). IsCutOf x.desk.fitted c.hits.at) (sym c.next_hit.ensures.stub) c.hits.invariant.cut

pub decide-requires-clause-comes : goal.decide-requires-clause-comes
decide-requires-clause-comes g c κs within =
    let s = c.args.self.now.stub in
    let t = c.args.thread in
    let is = c.hits.invariant in
    let h = c.in-Some.hit in
    let same = c.next_hit.ensures.stub ∙ ap (λ (x : Stub). stub_spoken x) is.stub in
    let between = hit_is_between (cut_of c.hits.at t) c.args.to c.in_ok-found.found c.in-Some.hit c.in-Some.is c.in_ok-found.ensures.between in
    let up = between.0 in
    let there = is.there in
    let low : c.hits.position ≤ h.position = omega (arith, up, there) in
    subst (λ (x : Stub). EachRun x.desk.fitted (λ run. StopsAt run x.desk.fitted x.desk.at t Forwards h.position c.in_ok-at-2.at)) (sym same)
    (comes_onward s c.next_hit.new.self.stub t c.hits.position h.position c.hits.at c.in_ok-at-2.at same low is.comes c.in_ok-at-2.ensures.least)

pub decide-requires-clause-lowest : goal.decide-requires-clause-lowest
decide-requires-clause-lowest g c κs within =
    let s = c.args.self.now.stub in
    let t = c.args.thread in
    let w = c.args.watched in
    let is = c.hits.invariant in
    let same = c.next_hit.ensures.stub ∙ ap (λ (x : Stub). stub_spoken x) is.stub in
    let are = c.as_slice-points.ensures.value ∙ c.in_ok-points.ensures.points ∙ upwards_of_spoken s c.speak.new.self.stub t w c.speak.ensures in
    let finds =
    next_hit_of_spoken s c.hits.self.stub t (cut_of c.hits.at t) c.args.to w c.as_slice-points.result.now c.in_ok-found.found is.stub are c.in_ok-found.ensures.finds in
    lowest_hit_of_next s c.next_hit.new.self.stub t (cut_of c.hits.at t) c.args.to w c.in_ok-found.found c.in-Some.hit same c.in-Some.is finds

pub returns-in-Some-decided-clause-stop : goal.returns-in-Some-decided-clause-stop
returns-in-Some-decided-clause-stop g c =
    let s = c.args.self.now.stub in
    let t = c.args.thread in
    let w = c.args.watched in
    let is = c.hits.invariant in
    let h = c.in-Some.hit in
    let same = c.next_hit.ensures.stub ∙ ap (λ (x : Stub). stub_spoken x) is.stub in
    let are = c.as_slice-points.ensures.value ∙ c.in_ok-points.ensures.points ∙ upwards_of_spoken s c.speak.new.self.stub t w c.speak.ensures in
    let finds = subst (λ (n : ℕ). EachRun s.desk.fitted (λ run. IsNextHit s.desk.fitted run (upwards_of s t w) t n c.args.to c.in_ok-found.found)) is.there
    (next_hit_of_spoken s c.hits.self.stub t (cut_of c.hits.at t) c.args.to w c.as_slice-points.result.now c.in_ok-found.found is.stub are c.in_ok-found.ensures.finds) in
    next_stop_at_hit s t c.hits.position c.args.to w c.in_ok-found.found c.in_ok-decided.decided h c.in-Some-decided.stop c.in-Some.is c.in-Some-decided.is is.above is.none finds
    (stop_at_of_spoken s c.next_hit.new.self.stub Forwards t w h.position c.in_ok-decided.decided same c.in_ok-decided.ensures.stop)

pub hits-preserved : goal.hits-preserved
hits-preserved g c =
    let s = c.args.self.now.stub in
    let t = c.args.thread in
    let w = c.args.watched in
    let is = c.hits.invariant in
    let h = c.in-Some.hit in
    let cut = c.in_ok-at-2.at in
    let same = c.next_hit.ensures.stub ∙ ap (λ (x : Stub). stub_spoken x) is.stub in
    let between = hit_is_between (cut_of c.hits.at t) c.args.to c.in_ok-found.found c.in-Some.hit c.in-Some.is c.in_ok-found.ensures.between in
    let up = between.0 in
    let there = is.there in
    let above = is.above in
    let low : c.hits.position ≤ h.position = omega (arith, up, there) in
    let are = c.as_slice-points.ensures.value ∙ c.in_ok-points.ensures.points ∙ upwards_of_spoken s c.speak.new.self.stub t w c.speak.ensures in
    let finds = subst (λ (n : ℕ). EachRun s.desk.fitted (λ run. IsNextHit s.desk.fitted run (upwards_of s t w) t n c.args.to c.in_ok-found.found)) is.there
    (next_hit_of_spoken s c.hits.self.stub t (cut_of c.hits.at t) c.args.to w c.as_slice-points.result.now c.in_ok-found.found is.stub are c.in_ok-found.ensures.finds) in
    record {
      stub = c.decide.ensures.stub ∙ ap (λ (x : Stub). stub_spoken x) same;
      cut = subst (λ (x : Stub). IsCutOf x.desk.fitted cut) (sym c.decide.ensures.stub) c.in_ok-at-2.ensures.cut;
      there = c.in_ok-at-2.ensures.there;
      above = omega (arith, above, low);
      within = between.1;
      comes = comes_onward s c.next_hit.new.self.stub t c.hits.position h.position c.hits.at cut same low is.comes c.in_ok-at-2.ensures.least;
      none = none_stops_up_to_hit s t c.hits.position c.args.to w c.in_ok-found.found c.in_ok-decided.decided h c.in-Some.is c.in_default-decided.is is.none finds
          (stop_at_of_spoken s c.next_hit.new.self.stub Forwards t w h.position c.in_ok-decided.decided same c.in_ok-decided.ensures.stop);
    }

pub returns-clause-stop : goal.returns-clause-stop
returns-clause-stop g c =
    let test = c.hits-test.false in
    let past : c.args.to ≤ c.hits.position = grind (arith, test) in
    next_stop_at_end c.args.self.now.stub c.args.thread c.hits.position c.args.to c.args.watched past c.hits.invariant.none
