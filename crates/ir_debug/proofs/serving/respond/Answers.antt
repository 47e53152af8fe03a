use Rattle.std.proofs.Common.{refl}
use Rattle.ir_stream.proofs.CallerLemmas.{writes_or_fails_whole, writes_or_fails_part}
use Rattle.ir_debug.proofs.Replying.{appended_is_replied, appended_prefix_replied, no_command_no_reply}
use Rattle.ir_debug.proofs.serving.respond.Goals as goal

pub returns-in_default-clause-writes : goal.returns-in_default-clause-writes
returns-in_default-clause-writes g c = writes_or_fails_whole (no_command_no_reply c.parse_line-asked.result c.args.line.now c.args.debugger.now c.carry_out.new.debugger
    (g.W.Sink.written c.args.writer.now) c.parse_line-asked.ensures c.in_default.ensures.none.0 c.in_default.ensures.none.1) refl

pub returns-in-Ok-clause-writes : goal.returns-in-Ok-clause-writes
returns-in-Ok-clause-writes g c = writes_or_fails_whole (appended_is_replied c.parse_line-asked.result c.args.line.now c.args.debugger.now c.carry_out.new.debugger
    c.in-Some.answer (g.W.Sink.written c.args.writer.now) (g.W.Sink.written c.write_answer.new.writer) c.parse_line-asked.ensures
    c.in-Some.ensures.some
    c.in-Ok.ensures.ok) c.in-Ok.ensures.stays

pub returns-clause-writes : goal.returns-clause-writes
returns-clause-writes g c = writes_or_fails_part (appended_prefix_replied c.parse_line-asked.result c.args.line.now c.args.debugger.now c.carry_out.new.debugger
    c.in-Some.answer (g.W.Sink.written c.args.writer.now) (g.W.Sink.written c.write_answer.new.writer) c.parse_line-asked.ensures
    c.in-Some.ensures.some c.in-Err.ensures.prefix) c.in-Err.ensures.err
