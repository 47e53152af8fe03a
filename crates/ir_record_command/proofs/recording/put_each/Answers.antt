use Rattle.std.proofs.Common.{arith, refl, ◌∙◌}
use Rattle.ir_files.proofs.CallerLemmas.{on_err_if_holds}
use Rattle.ir_files.proofs.CallerLemmas.{unchanged_gains_none, gains_first_step, gains_all_at_end, failed_at_next_output}
use Rattle.ir_record_command.proofs.recording.put_each.Goals as goal

pub loop-thread-init : goal.loop-thread-init
loop-thread-init g c = (unchanged_gains_none (g.P.OutputSink.taken c.args.outputs.now), refl)

pub loop-thread-preserved : goal.loop-thread-preserved
loop-thread-preserved g c = (
  gains_first_step (λ b. b.items) _ _ _ c.loop-thread.thread c.args.printed.now c.index-printed-thread.result _
      c.loop-thread-test.true c.index-printed-thread.is c.as_slice.ensures.value c.loop-thread.invariant.0 c.in_ok-put.ensures.taken,
  c.in_ok-put.ensures.home ∙ c.loop-thread.invariant.1,
)

pub returns-in_err-put-clause-failed : goal.returns-in_err-put-clause-failed
returns-in_err-put-clause-failed g c = on_err_if_holds _ c.from_residual.result
    (failed_at_next_output (λ b. b.items) _ _ _ _ c.loop-thread.thread c.args.printed.now c.loop-thread-test.true c.loop-thread.invariant.0
    c.in_err-put.ensures.kept c.in_err-put.ensures.err)

pub returns-clause-ok : goal.returns-clause-ok
returns-clause-ok g c = gains_all_at_end (λ b. b.items) _ _ c.loop-thread.thread c.args.printed.now
    (omega (arith, c.loop-thread-test.false, c.loop-thread.auto.thread-end)) c.loop-thread.invariant.0
