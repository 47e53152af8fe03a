use Rattle.std.proofs.Common.{inr}
use Rattle.std.proofs.KnownBytes.{Appends-trans}
use Rattle.std.proofs.lemmas.Result.{err_from_is_err_and}
use Rattle.ir_files.proofs.CallerLemmas.{if_err_handed_on}
use Rattle.ir_explore.proofs.hang.explore_hang.Goals as goal

pub returns-in_err-recorded-clause-stopped : goal.returns-in_err-recorded-clause-stopped
returns-in_err-recorded-clause-stopped g c =
    let p = err_from_is_err_and c.from_residual.result c.from_residual.ensures.1 in
    let told = c.in-Ok-Ok.ensures.told in
    let stopped = rw c.recording-how.ensures at c.in_err-recorded.ensures.stopped in
    if_err_handed_on _ c.from_residual.result c.in_err-recorded.field-0.0 p.0 p.1 p.2 (inr (inr (
      stopped.0,
      stopped.1,
      c.in-Ok-Ok.order,
      told.0,
      c.tell_hang.new.out,
      rw c.in-Ok-Ok.field-0-is at told.1,
      told.2,
      stopped.2,
    )))

pub returns-clause-found : goal.returns-clause-found
returns-clause-found g c =
    let told = c.in-Ok-Ok.ensures.told in
    let done = rw c.recording-how.ensures at c.in_ok-recorded.ensures.done in (
      c.in-Ok-Ok.order,
      told.0,
      done.0,
      (rw c.in-Ok-Ok.field-0-is at told.1, done.1),
      done.2,
      done.3,
      Appends-trans (g.O.Sink.written c.args.out.now) (g.O.Sink.written c.tell_hang.new.out) (g.O.Sink.written c.record_by_list.new.out) _ _ told.2 done.4,
    )
