use Rattle.std.proofs.Common.{◌∙◌}
use Rattle.ir_files.specs.Writers.{writer_of}
use Rattle.ir_monitor.specs.Telling.{said_line}
use Rattle.ir_monitor.proofs.Told.{stopped_line_is_not_said}
use Rattle.ir_monitor.proofs.saying.say_line.Goals as goal

pub returns-clause-fails : goal.returns-clause-fails
returns-clause-fails g c = stopped_line_is_not_said c.put_bytes.result (said_line c.args.words.now) c.as_bytes.result.now
    (writer_of (g.O.Sink.written c.args.out.now) (g.O.Sink.written c.put_bytes.new.out) (g.O.Sink.broken c.put_bytes.new.out))
    (c.as_bytes.ensures.value ∙ c.in_ok-line.ensures) c.put_bytes.ensures.fails
