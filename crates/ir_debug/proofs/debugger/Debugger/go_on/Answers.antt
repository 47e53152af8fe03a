use Rattle.std.proofs.Common.{◌<◌, refl, sym, ap, subst, ◌∙◌}
use Rattle.ir_cut.specs.Positions.{IsConsistentCut, EachRun, cut_of, threads_of}
use Rattle.ir_fit.specs.Fit.{FittedTrace, HasRun}
use Rattle.ir_command.specs.declared.command.Command.TheVariants as command
use Rattle.ir_hits.specs.Hits.{Finds}
use Rattle.ir_timeline.specs.Hand.{IsCutOf}
use Rattle.ir_debug.specs.Debugging.{Debugging}
use Rattle.ir_debug.proofs.Desks.{moved_is_debugging}
use Rattle.ir_debug.proofs.Passed.{named_thread_exists}
use Rattle.ir_debug.proofs.Leading.{stop_le_last}
use Rattle.ir_debug.proofs.debugger.Debugger.go_on.Goals as goal

pub search-requires-clause-thread : goal.search-requires-clause-thread
search-requires-clause-thread g c κs within =
    subst (λ (f : FittedTrace). c.args.thread < threads_of f) (sym (ap (λ (d : Debugging). d.desk.fitted) c.self.view_is))
    (named_thread_exists c.args.self.now.desk (command.Continue c.args.thread c.args.direction) c.args.thread c.requires refl)

pub invariant_of-self : goal.invariant_of-self
invariant_of-self g c = moved_is_debugging _ _ _ c.search.ensures.fitted refl refl refl refl c.self.invariant.desk

pub invariant_of-self-in_err-cut : goal.invariant_of-self-in_err-cut
invariant_of-self-in_err-cut g c = moved_is_debugging _ _ _ c.search.ensures.fitted refl refl refl refl c.self.invariant.desk

pub invariant_of-self-2 : goal.invariant_of-self-2
invariant_of-self-2 g c = moved_is_debugging _ _ _ c.search.ensures.fitted refl refl refl refl c.self.invariant.desk

pub stop-requires-clause-cut : goal.stop-requires-clause-cut
stop-requires-clause-cut g c =
    let held = c.self.invariant.desk in
    subst (λ (f : FittedTrace). IsCutOf f c.self.inside.at) (sym (c.fitted-fitted.ensures.value ∙ c.search.ensures.fitted)) (held.size, held.at)

pub stop-requires-clause-thread : goal.stop-requires-clause-thread
stop-requires-clause-thread g c =
    subst (λ (f : FittedTrace). c.args.thread < threads_of f)
    (sym (c.fitted-fitted.ensures.value ∙ c.search.ensures.fitted ∙ ap (λ (d : Debugging). d.desk.fitted) c.self.view_is))
    (named_thread_exists c.args.self.now.desk (command.Continue c.args.thread c.args.direction) c.args.thread c.requires refl)

pub stop-requires-clause-within : goal.stop-requires-clause-within
stop-requires-clause-within g c =
    let there = c.fitted-fitted.ensures.value ∙ c.search.ensures.fitted in
    let same = there ∙ ap (λ (d : Debugging). d.desk.fitted) c.self.view_is in
    let f = c.self.inside.timeline.fitted in
    let finds = subst (λ points. EachRun f (λ run. Finds run f points c.args.thread (cut_of c.self.inside.at c.args.thread)
    c.args.direction c.in_ok-hit.hit)) c.as_slice-points.ensures c.in_ok-hit.ensures.finds in
    stop_le_last c.fitted-fitted.result.now c.args.self.now.desk c.args.thread c.args.direction c.in_ok-hit.hit (sym same)
    (subst HasRun (sym there) c.self.invariant.desk.run) (stop-requires-clause-thread g c)
    (subst (λ (z : Debugging). EachRun z.desk.fitted (λ run. Finds run z.desk.fitted z.desk.points c.args.thread
    (cut_of z.desk.at c.args.thread) c.args.direction c.in_ok-hit.hit)) c.self.view_is finds)

pub go_to-requires-clause-consistent : goal.go_to-requires-clause-consistent
go_to-requires-clause-consistent g c κs within =
    subst (λ (f : FittedTrace). IsConsistentCut f c.in_ok-cut.cut) c.fitted-fitted.ensures.value c.in_ok-cut.ensures.consistent
