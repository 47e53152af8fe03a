use Rattle.std.proofs.Common.{◌≡◌, ◌≤◌, ◌∙◌, sym, ap, subst}
use Rattle.ir_fit.specs.Fit.{FittedTrace}
use Rattle.ir_cut.specs.Positions.{last_of}
use Rattle.ir_timeline.specs.Hand.{IsCutOf}
use Rattle.ir_gdb.specs.Serving.{Serving}
use Rattle.ir_gdb.specs.Stub.{Stub, stub_spoken}
use Rattle.ir_gdb.proofs.Stopping.{serving_seen}
use Rattle.ir_gdb.proofs.Over.{own_within_target, cut_within_last, search_points_are_over, has_hit_by_found}
use Rattle.ir_gdb.proofs.remote.Remote.has_hit.Goals as goal

pub search_up_to-requires-clause-cut : goal.search_up_to-requires-clause-cut
search_up_to-requires-clause-cut g c κs within =
    subst (λ (x : Serving). IsCutOf x.stub.desk.fitted c.in_ok-here.here) (sym c.self.view_is) c.in_ok-here.ensures.cut

pub search_up_to-requires-clause-within : goal.search_up_to-requires-clause-within
search_up_to-requires-clause-within g c κs within =
    let s = c.args.self.now.stub in
    let u = (serving_seen c.self.view_is).stub in
    let t = c.args.thread in
    let to = c.position-to.result in
    let same : u ≡ stub_spoken s = ap (λ (x : Serving). x.stub) c.self.view_is ∙ c.speak.ensures in
    let fitted = ap (λ (x : Stub). x.desk.fitted) same in
    let most = cut_within_last s.desk.fitted c.args.cut.now t c.has_run.ensures c.requires.cut c.requires.thread in
    let far = own_within_target to c.position.result t c.in_ok-here.here c.speak.new.self.stub.desk.at c.if-to-position.false c.in_ok-here.ensures.value
    c.position.ensures.value in
    (far, subst (λ (f : FittedTrace). to ≤ last_of f t) (sym fitted) (subst (λ (n : _). n ≤ last_of s.desk.fitted t) (sym c.position-to.ensures) most))

pub returns-clause-hit : goal.returns-clause-hit
returns-clause-hit g c =
    let s = c.args.self.now.stub in
    let u = (serving_seen c.self.view_is).stub in
    let same : u ≡ stub_spoken s = ap (λ (x : Serving). x.stub) c.self.view_is ∙ c.speak.ensures in
    let are = c.as_slice-points.ensures.value
    ∙ search_points_are_over s c.speak.new.self.stub c.args.pc c.args.thread c.in_ok-points.points.items c.halts.result.watches.now c.halts.result.breaks.now
    c.halts.result.own.now c.speak.ensures c.in_ok-points.ensures.points c.halts.ensures.watches c.halts.ensures.breaks c.halts.ensures.own in
    has_hit_by_found s u.desk.fitted c.args.pc c.args.thread c.position-to.result c.args.cut.now c.in_ok-here.here c.as_slice-points.result.now
    c.in_ok-hit.hit c.is_some.result (ap (λ (x : Stub). x.desk.fitted) same)
    (c.in_ok-here.ensures.value ∙ ap (λ (x : Stub). x.desk.at) c.speak.ensures) c.position-to.ensures are c.in_ok-hit.ensures.finds
    c.is_some.ensures
