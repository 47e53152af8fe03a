use Rattle.std.proofs.Common.{◌≡◌, take}
use Rattle.std.specs.String.{string_bytes}
use Rattle.ir_record_command.specs.Recording.{recording_lines_from}
use Rattle.ir_record_command.proofs.recording.lines.Given as goal

abbrev pub invariant-loop-number : goal.invariant-loop-number
invariant-loop-number l = record {
  lines : string_bytes l.lines ≡ recording_lines_from 0 (take l.number l.trace.threads);
  items : l.thread-items ≡ l.trace.threads;
}
