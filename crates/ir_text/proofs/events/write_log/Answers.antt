use Rattle.std.proofs.Common.{rules, ◌≤◌, ◌∙◌, length, map}
use Rattle.ir_log.specs.Logging.{label_of}
use Rattle.ir_text.specs.Texts.{log_text}
use Rattle.ir_stream.proofs.CallerLemmas.{writes_or_fails_error}
use Rattle.ir_text.proofs.Buffers.{buffered_after_line_put, prefix_by_failed_write, writes_by_last_buffer}
use Rattle.ir_text.proofs.Lines.{event_lines_step, event_lines_at_end}
use Rattle.ir_text.proofs.events.write_log.Goals as goal

pub returns-in_err-make_room : goal.returns-in_err-make_room
returns-in_err-make_room g c =
    writes_or_fails_error _ c.from_residual.result c.from_residual.ensures.1
    (prefix_by_failed_write _ _ _ _ _ _ c.loop-index.invariant.text c.in_err-make_room.ensures.writes.prefix) c.in_err-make_room.ensures.writes.err

pub loop-index-preserved : goal.loop-index-preserved
loop-index-preserved g c = record {
  text = buffered_after_line_put _ _ _ _ _ _ _ _ _ _ c.loop-index.invariant.text c.in_ok-make_room.ensures.writes.ok c.put_event.ensures
      (event_lines_step c.args.so_far.now c.loop-index.index _ (search rules));
  broken = c.in_ok-make_room.ensures.writes.stays ∙ c.loop-index.invariant.broken;
}

pub returns : goal.returns
returns g c =
    let past : length c.args.so_far.now ≤ c.loop-index.index = search rules in
    writes_by_last_buffer g.W.Sink.written _ _ (log_text (map label_of c.args.so_far.now) c.args.all) _ c.write_all.result c.loop-index.invariant.text
    (event_lines_at_end c.args.so_far.now c.loop-index.index past)
    c.as_slice.ensures.value c.loop-index.invariant.broken c.write_all.ensures
