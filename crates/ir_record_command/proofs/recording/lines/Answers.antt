use Rattle.std.proofs.Common.{◌∙◌}
use Rattle.std.specs.String.{string_bytes}
use Rattle.ir_record_command.proofs.Printed.{lines_from_start_step}
use Rattle.ir_record_command.proofs.recording.lines.Goals as goal

pub loop-number-preserved : goal.loop-number-preserved
loop-number-preserved c = record {
  lines = lines_from_start_step c.loop-number.number c.args.trace.now.threads c.threads-thread-items.result.now c.thread-item.result
      (string_bytes c.loop-number.lines) (string_bytes c.push_str.new.self) c.as_str.result.now
      c.loop-number.invariant.items c.loop-number-test.true c.thread-item.is c.loop-number.invariant.lines
      (c.as_str.ensures.value ∙ c.in_ok-line.ensures) c.in_ok-push_str.ensures.bytes;
  items = c.loop-number.invariant.items;
}
