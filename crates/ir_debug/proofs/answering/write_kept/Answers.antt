use Rattle.std.proofs.Common.{arith, ◌∙◌}
use Rattle.ir_stream.proofs.CallerLemmas.{writes_or_fails_whole, writes_or_fails_error}
use Rattle.ir_text.proofs.CallerLemmas.{buffered_line, prefix_by_failed_line, written_none_left}
use Rattle.ir_debug.proofs.KeptCuts.{kept_text_step, kept_text_at_end}
use Rattle.ir_debug.proofs.answering.write_kept.Goals as goal

pub loop-i-preserved : goal.loop-i-preserved
loop-i-preserved g c = record {
  text = buffered_line _ _ _ _ _ _ _ c.loop-i.invariant.text
      (kept_text_step c.args.kept.now c.loop-i.i c.index-kept-i.result _ c.as_slice.result.now c.loop-i-test.true c.index-kept-i.is c.new-text.ensures
      (c.as_slice.ensures.value ∙ c.put_kept.ensures))
      c.in_ok-write_all.ensures.ok;
  broken = c.in_ok-write_all.ensures.stays ∙ c.loop-i.invariant.broken;
}

pub returns-in_err-write_all : goal.returns-in_err-write_all
returns-in_err-write_all g c =
    writes_or_fails_error _ c.from_residual.result c.from_residual.ensures.1 (prefix_by_failed_line _ _ _ _ _ _ _ c.loop-i.invariant.text
    (kept_text_step c.args.kept.now c.loop-i.i c.index-kept-i.result _ c.as_slice.result.now c.loop-i-test.true c.index-kept-i.is c.new-text.ensures
    (c.as_slice.ensures.value ∙ c.put_kept.ensures))
    c.in_err-write_all.ensures.prefix) c.in_err-write_all.ensures.err

pub returns : goal.returns
returns g c = writes_or_fails_whole (written_none_left _ _ _ _ c.loop-i.invariant.text
    (kept_text_at_end c.args.kept.now c.loop-i.i (omega (arith, c.loop-i-test.false, c.loop-i.auto.i-end)))) c.loop-i.invariant.broken
