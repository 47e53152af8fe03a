use Rattle.std.proofs.Common.{arith, ◌∙◌}
use Rattle.ir_stream.proofs.CallerLemmas.{writes_or_fails_whole, writes_or_fails_error}
use Rattle.ir_text.proofs.Buffers.{buffered_line, prefix_by_failed_line, written_none_left}
use Rattle.ir_text.proofs.ThreadLines.{threads_text_step, threads_text_at_end}
use Rattle.ir_text.proofs.verdicts.write_threads.Goals as goal

pub loop-t-preserved : goal.loop-t-preserved
loop-t-preserved g c = record {
  text = buffered_line _ _ _ _ _ _ _ c.loop-t.invariant.text
      (threads_text_step c.loop-t.t c.args.verdicts.now _ _ c.as_slice.result.now c.loop-t-test.true c.new-text.ensures
      (c.as_slice.ensures.value ∙ c.put_thread.ensures))
      c.in_ok-write_all.ensures.ok;
  broken = c.in_ok-write_all.ensures.stays ∙ c.loop-t.invariant.broken;
}

pub returns-in_err-write_all : goal.returns-in_err-write_all
returns-in_err-write_all g c =
    writes_or_fails_error _ c.from_residual.result c.from_residual.ensures.1 (prefix_by_failed_line _ _ _ _ _ _ _ c.loop-t.invariant.text
    (threads_text_step c.loop-t.t c.args.verdicts.now _ _ c.as_slice.result.now c.loop-t-test.true c.new-text.ensures
    (c.as_slice.ensures.value ∙ c.put_thread.ensures))
    c.in_err-write_all.ensures.prefix) c.in_err-write_all.ensures.err

pub returns : goal.returns
returns g c = writes_or_fails_whole (written_none_left _ _ _ _ c.loop-t.invariant.text
    (threads_text_at_end c.loop-t.t c.args.verdicts.now (omega (arith, c.loop-t-test.false, c.loop-t.auto.t-end)))) c.loop-t.invariant.broken
