use Rattle.std.proofs.Common.{◌≡◌, ◌+◌, ◌∙◌, ℕ, List, sym, ap, subst}
use Rattle.ir_fit.specs.Fit.{FittedTrace}
use Rattle.ir_cut.specs.Positions.{cut_of}
use Rattle.ir_timeline.specs.Hand.{IsCutOf}
use Rattle.ir_gdb.specs.declared.point.Watched.{Watched}
use Rattle.ir_gdb.specs.Points.{watch_points}
use Rattle.ir_gdb.specs.Serving.{Serving}
use Rattle.ir_gdb.specs.Stub.{Stub, stub_spoken}
use Rattle.ir_gdb.proofs.Stopping.{serving_seen, watches_if_ignores_both, watches_if_ignores_spoken, watch_next_of_hit}
use Rattle.ir_gdb.proofs.remote.Remote.watch_next.Goals as goal

pub search_up_to-requires-clause-cut : goal.search_up_to-requires-clause-cut
search_up_to-requires-clause-cut g c κs within =
    let same = ap (λ (x : Serving). x.stub.desk.fitted) c.self.view_is ∙ ap (λ (x : Stub). x.desk.fitted) c.speak.ensures in
    subst (λ (f : FittedTrace). IsCutOf f c.args.from.now) (sym same) c.requires.cut

pub returns-clause-watch : goal.returns-clause-watch
returns-clause-watch g c =
    let s = c.args.self.now.stub in
    let t = c.args.thread in
    let w = c.args.watched in
    let u = (serving_seen c.self.view_is).stub in
    let same : u ≡ stub_spoken s = ap (λ (x : Serving). x.stub) c.self.view_is ∙ c.speak.ensures in
    let before = watches_if_ignores_spoken s c.speak.new.self.stub w c.speak.ensures in
    let are = c.as_slice-points.ensures.value ∙ c.in_ok-points.ensures.points
    ∙ ap (λ (x : List Watched). watch_points t 0 x) (c.watches_if.ensures.value ∙ before) in
    let first = c.watches_if-2.ensures.value ∙ watches_if_ignores_both s u c.search_up_to.new.self.desk w same in
    watch_next_of_hit c.self.inside.debugger.desk.fitted s t (cut_of c.args.from.now t) (c.position-to.result + 1) w c.as_slice-points.result.now
    c.in_ok-hit.hit c.watches_if-2.result.now c.reason_of_hit.result (ap (λ (x : Stub). x.desk.fitted) same) are first
    (ap (λ (n : ℕ). n + 1) c.position-to.ensures) c.in_ok-hit.ensures.finds c.reason_of_hit.ensures
