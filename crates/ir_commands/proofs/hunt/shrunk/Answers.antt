use Rattle.std.proofs.Common.{ap, inl, inr, refl}
use Rattle.std.proofs.KnownBytes.{Appends-nil}
use Rattle.ir_files.specs.Writers.{writer_of}
use Rattle.ir_files.proofs.CallerLemmas.{if_err_handed_on}
use Rattle.std.proofs.lemmas.Result.{IfErr-weaker, IfOk-weaker, err_from_is_err_and}
use Rattle.ir_commands.proofs.Searched.{found_refuses, found_shrinks}
use Rattle.ir_commands.proofs.hunt.shrunk.Goals as goal

pub returns-clause-done : goal.returns-clause-done
returns-clause-done g c = IfOk-weaker c.recorded_into.result _ _
    (λ shrunk h. found_shrinks c.plan.view_is (record { how = c.plan_like.ensures; conditions = refl; stale = refl; seconds = refl }) h) c.recorded_into.ensures.found

pub returns-clause-stopped : goal.returns-clause-stopped
returns-clause-stopped g c =
    let new = c.recorded_into.new.faults in
    IfErr-weaker c.recorded_into.result _ _ (λ answered h. found_refuses c.plan.view_is
    (record { how = c.plan_like.ensures; conditions = refl; stale = refl; seconds = refl })
    (ap (λ f. writer_of (g.E.Sink.written f) (g.E.Sink.written new) (g.E.Sink.broken new)) c.in_ok-texts.ensures.kept) h) c.recorded_into.ensures.none

pub returns-in_err-texts-clause-stopped : goal.returns-in_err-texts-clause-stopped
returns-in_err-texts-clause-stopped g c =
    let p = err_from_is_err_and c.from_residual.result c.from_residual.ensures.1 in
    if_err_handed_on _ c.from_residual.result c.in_err-texts.field-0.0 p.0 p.1 p.2
    (inr (inr (inl c.in_err-texts.ensures.status), inl (Appends-nil (g.O.Sink.written c.args.out.now))))
