use Rattle.std.proofs.Common.{subst, inr}
use Rattle.std.specs.String.{string_bytes}
use Rattle.std.proofs.KnownBytes.{Appends-trans}
use Rattle.std.proofs.lemmas.Result.{err_from_is_err_and}
use Rattle.ir_files.proofs.CallerLemmas.{if_err_handed_on}
use Rattle.ir_explore.specs.Until.{found_bytes}
use Rattle.ir_within.specs.Outside.{IsOutsideAnswer}
use Rattle.ir_within.specs.Plans.{comparison_of}
use Rattle.ir_within.proofs.First.{recorded_if_by_list}
use Rattle.ir_within.proofs.outside.outside_run.Goals as goal

pub returns-in_err-recorded-clause-stopped : goal.returns-in_err-recorded-clause-stopped
returns-in_err-recorded-clause-stopped g c =
    let p = err_from_is_err_and c.from_residual.result c.from_residual.ensures.1 in
    let told = c.in-Ok-Ok.ensures.told in
    let says = subst (λ z. IsOutsideAnswer (comparison_of c.args.plan.now) (found_bytes z) told.0) c.in-Ok-Ok.field-0-is told.1 in
    let stopped = rw c.as_str-list.ensures.value at (rw c.recording-how.ensures at c.in_err-recorded.ensures.stopped) in
    if_err_handed_on _ c.from_residual.result c.in_err-recorded.field-0.0 p.0 p.1 p.2 (inr (inr (
      stopped.0,
      stopped.1,
      told.0,
      string_bytes c.in-Ok-Ok.list,
      c.tell_outside.new.out,
      says,
      told.2,
      stopped.2,
    )))

pub returns-clause-found : goal.returns-clause-found
returns-clause-found g c =
    let list = string_bytes c.in-Ok-Ok.list in
    let told = c.in-Ok-Ok.ensures.told in
    let says = subst (λ z. IsOutsideAnswer (comparison_of c.args.plan.now) (found_bytes z) told.0) c.in-Ok-Ok.field-0-is told.1 in
    let done = rw c.as_str-list.ensures.value at (rw c.recording-how.ensures at c.in_ok-recorded.ensures.done) in (
      told.0,
      list,
      done.0,
      recorded_if_by_list (comparison_of c.args.plan.now) list told.0 c.in_ok-recorded.recorded done.0 says done.1,
      done.2,
      done.3,
      Appends-trans (g.O.Sink.written c.args.out.now) (g.O.Sink.written c.tell_outside.new.out) (g.O.Sink.written c.record_by_list.new.out) _ _ told.2 done.4,
    )
