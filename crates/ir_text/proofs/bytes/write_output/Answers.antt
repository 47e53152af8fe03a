use Rattle.std.proofs.Common.{rules, ◌≡◌, ◌<◌, ◌∙◌, length}
use Rattle.ir_stream.proofs.CallerLemmas.{writes_or_fails_error}
use Rattle.ir_text.proofs.Buffers.{buffered_after_line_put, prefix_by_failed_write, writes_by_last_buffer}
use Rattle.ir_text.proofs.Lines.{output_lines_step, output_lines_of_nothing}
use Rattle.ir_text.proofs.bytes.write_output.Goals as goal

pub returns-in_err-make_room : goal.returns-in_err-make_room
returns-in_err-make_room g c =
    writes_or_fails_error _ c.from_residual.result c.from_residual.ensures.1
    (prefix_by_failed_write _ _ _ _ _ _ c.loop-rest.invariant.text c.in_err-make_room.ensures.writes.prefix) c.in_err-make_room.ensures.writes.err

pub loop-rest-preserved : goal.loop-rest-preserved
loop-rest-preserved g c =
    let some : 0 < length c.loop-rest.rest.now = search rules in
    record {
      text = buffered_after_line_put _ _ _ _ _ _ _ _ _ _ c.loop-rest.invariant.text c.in_ok-make_room.ensures.writes.ok c.put_output_line.ensures
          (output_lines_step c.loop-rest.rest.now c.split_at.result.0.now c.split_at.result.1.now c.min.result some c.min.ensures
          c.split_at.ensures.front c.split_at.ensures.back);
      broken = c.in_ok-make_room.ensures.writes.stays ∙ c.loop-rest.invariant.broken;
    }

pub returns : goal.returns
returns g c =
    let none : length c.loop-rest.rest.now ≡ 0 = search rules in
    writes_by_last_buffer g.W.Sink.written _ _ _ _ c.write_all.result c.loop-rest.invariant.text (output_lines_of_nothing c.loop-rest.rest.now none)
    c.as_slice.ensures.value c.loop-rest.invariant.broken c.write_all.ensures
