use Rattle.std.proofs.Common.{◌≡◌, ◌∙◌, IfErr, List, length, slice_get, Some, sym, subst}
use Rattle.std.proofs.lemmas.Result.{err_from_is_err_and}
use Rattle.ir_trace.specs.Recorded.{Recorded, trace_of}
use Rattle.ir_trace.specs.Bounds.{IsRecorded}
use Rattle.ir_runs.specs.Coherent.{IsCoherent}
use Rattle.ir_fit.specs.Fit.{IsRefused}
use Rattle.ir_fit.specs.Follower.{AreStanding}
use Rattle.ir_fit.specs.Within.{BreaksBy}
use Rattle.ir_runs.specs.declared.thread_verdict.ThreadVerdict.{ThreadVerdict}
use Rattle.ir_fit.proofs.Furthest.{incoherence_refuses, differing_refuses}
use Rattle.ir_fit.proofs.Placements.{all_same_equal_trace}
use Rattle.ir_fit.proofs.fitting.fit_with.Goals as goal

pub returns-in_err-coherent-clause-refused : goal.returns-in_err-coherent-clause-refused
returns-in_err-coherent-clause-refused g c =
    let p = err_from_is_err_and c.from_residual-in_err-coherent.result c.from_residual-in_err-coherent.ensures.1 in
    subst (λ z. IfErr z (IsRefused c.args.image c.args.trace)) (sym p.1)
    (subst (IsRefused c.args.image c.args.trace) (sym p.2)
    (incoherence_refuses c.args.image c.args.trace c.in_default.ensures.same c.in_err-coherent.field-0.0
    (subst (λ z. BreaksBy z c.in_err-coherent.field-0.0) c.in_ok-follower.ensures.trace c.in_err-coherent.ensures.breaks)))

pub returns-then-not-all_same-clause-refused : goal.returns-then-not-all_same-clause-refused
returns-then-not-all_same-clause-refused g c =
    let r : Recorded = c.args.trace in
    let vs : List ThreadVerdict = c.in_ok-verdicts.verdicts.items in
    let is : IsRecorded r = subst IsRecorded c.trace.view_is c.trace.invariant in
    let n = c.in_default.ensures.same.threads in
    let co : IsCoherent (length c.args.image.entries) (trace_of r) =
    subst (λ k. IsCoherent k (trace_of r)) n
    (subst (λ z. IsCoherent (length z.threads) (trace_of z)) c.in_ok-follower.ensures.trace c.in_ok-coherent.ensures.coherent) in
    let stand : AreStanding r c.in_ok-follower.follower.flat c.in_ok-follower.follower.places.items vs =
    subst (λ z. AreStanding z c.in_ok-follower.follower.flat c.in_ok-follower.follower.places.items vs) c.in_ok-follower.ensures.trace
    c.in_ok-verdicts.ensures.stand in
    let w = c.all_same.ensures.another c.if-not-all_same.true in
    differing_refuses c.args.image r is c.in_default.ensures.same co c.in_ok-follower.follower.flat c.in_ok-follower.follower.places.items
    c.in_ok-follower.ensures.followed vs c.in_ok-verdicts.ensures.each stand w.0 w.1
    (subst (λ xs. slice_get xs w.0 ≡ Some w.1) c.deref.ensures.value w.2) w.3

pub new-requires-clause-run : goal.new-requires-clause-run
new-requires-clause-run g c =
    (all_same_equal_trace c.args.image c.args.trace c.into_parts-trace.result.0 c.in_default.ensures.same c.in_ok-follower.follower.flat
    c.in_ok-follower.follower.places.items c.into_parts-trace.result.1.items c.in_ok-follower.ensures.followed
    c.in_ok-follower.ensures.sized.placed.each c.in_ok-verdicts.verdicts.items c.in_ok-verdicts.ensures.each
    (subst (λ z. AreStanding z c.in_ok-follower.follower.flat c.in_ok-follower.follower.places.items c.in_ok-verdicts.verdicts.items)
    c.in_ok-follower.ensures.trace c.in_ok-verdicts.ensures.stand)
    (λ t v at. c.all_same.ensures.same c.if-not-all_same.false t v (subst (λ xs. slice_get xs t ≡ Some v) (sym c.deref.ensures.value) at))
    (c.into_parts-trace.ensures.trace ∙ c.in_ok-follower.ensures.trace) c.into_parts-trace.ensures.places c.in_ok-places.places.items
    c.in_ok-places.ensures).0

pub new-requires-clause-places : goal.new-requires-clause-places
new-requires-clause-places g c =
    (all_same_equal_trace c.args.image c.args.trace c.into_parts-trace.result.0 c.in_default.ensures.same c.in_ok-follower.follower.flat
    c.in_ok-follower.follower.places.items c.into_parts-trace.result.1.items c.in_ok-follower.ensures.followed
    c.in_ok-follower.ensures.sized.placed.each c.in_ok-verdicts.verdicts.items c.in_ok-verdicts.ensures.each
    (subst (λ z. AreStanding z c.in_ok-follower.follower.flat c.in_ok-follower.follower.places.items c.in_ok-verdicts.verdicts.items)
    c.in_ok-follower.ensures.trace c.in_ok-verdicts.ensures.stand)
    (λ t v at. c.all_same.ensures.same c.if-not-all_same.false t v (subst (λ xs. slice_get xs t ≡ Some v) (sym c.deref.ensures.value) at))
    (c.into_parts-trace.ensures.trace ∙ c.in_ok-follower.ensures.trace) c.into_parts-trace.ensures.places c.in_ok-places.places.items
    c.in_ok-places.ensures).1
