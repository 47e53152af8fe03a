use Rattle.std.proofs.Common.{arith}
use Rattle.std.proofs.lemmas.Result.{err_from_is_err_and}
use Rattle.ir_files.proofs.CallerLemmas.{if_err_handed_on}
use Rattle.ir_commands.proofs.Listed.{buffered_listing, stopped_in_listing, listing_appended_at_end}
use Rattle.ir_commands.proofs.listing.put_threads.Goals as goal

pub loop-number-preserved : goal.loop-number-preserved
loop-number-preserved g c = record {
  text = buffered_listing _ _ _ c.loop-number.number c.args.threads.now c.index-threads-number.result _ c.loop-number-test.true
      c.index-threads-number.is c.loop-number.invariant.text c.in_ok-put_thread.ensures.ok;
  works = c.in_ok-put_thread.ensures.works;
}

pub returns-in_err-put_thread-clause-fails : goal.returns-in_err-put_thread-clause-fails
returns-in_err-put_thread-clause-fails g c =
    let p = err_from_is_err_and c.from_residual.result c.from_residual.ensures.1 in
    if_err_handed_on _ c.from_residual.result c.in_err-put_thread.field-0.0 p.0 p.1 p.2
    (stopped_in_listing c.in_err-put_thread.field-0.0 _ _ _ _ c.loop-number.number c.args.threads.now c.index-threads-number.result _
    c.loop-number-test.true c.index-threads-number.is c.loop-number.invariant.text c.in_err-put_thread.ensures.fails)

pub returns-clause-ok : goal.returns-clause-ok
returns-clause-ok g c = listing_appended_at_end _ _ c.loop-number.number c.args.threads.now _
    (omega (arith, c.loop-number-test.false, c.loop-number.auto.number-end)) c.loop-number.invariant.text
