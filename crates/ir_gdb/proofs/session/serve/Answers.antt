use Rattle.std.proofs.Common.{◌≡◌, ◌∙◌, true, false, sym, subst}
use Rattle.ir_stream.specs.Answers.{ReadsUpTo}
use Rattle.ir_packet.specs.Stream.{items}
use Rattle.ir_debug.specs.Session.{most_input}
use Rattle.ir_gdb.specs.Connection.{Link, WroteReplies, WroteRepliesInPart}
use Rattle.ir_gdb.proofs.Sessions.{link_is_first_link, serves_by_read_input, serves_by_known_input, if_served_from_if_ended}
use Rattle.ir_gdb.proofs.Sessions.{served_is_not_refused, end_is_not_no_memory, read_end_is_read_fault, write_end_is_fault}
use Rattle.ir_gdb.proofs.session.serve.Goals as goal

pub returns-clause-ended : goal.returns-clause-ended
returns-clause-ended g c =
    serves_by_read_input c.args.debugger.desk c.in-Ok-new.connection.link c.ended.result c.serve.result (g.R.Source.left c.args.reader.now)
    (g.R.Source.left c.serve.new.reader) (g.W.Sink.written c.args.writer.now) (g.W.Sink.written c.serve.new.writer) c.ended.ensures
    (link_is_first_link c.in-Ok-new.connection.link c.in-Ok.remote.stub c.args.debugger.desk c.in-Ok-new.ensures.link c.in-Ok.ensures) c.serve.ensures.ended

pub returns-clause-works : goal.returns-clause-works
returns-clause-works g c = if_served_from_if_ended c.ended.result c.serve.result _ c.ended.ensures c.serve.ensures.works

pub returns-clause-known : goal.returns-clause-known
returns-clause-known g c =
    serves_by_known_input c.args.debugger.desk c.in-Ok-new.connection.link c.ended.result c.serve.result (g.R.Source.left c.args.reader.now)
    (g.W.Sink.written c.args.writer.now) (g.W.Sink.written c.serve.new.writer) c.ended.ensures
    (link_is_first_link c.in-Ok-new.connection.link c.in-Ok.remote.stub c.args.debugger.desk c.in-Ok-new.ensures.link c.in-Ok.ensures) c.serve.ensures.known

pub returns-clause-opened : goal.returns-clause-opened
returns-clause-opened g c = served_is_not_refused c.ended.result c.serve.result c.ended.ensures

pub returns-clause-no_memory : goal.returns-clause-no_memory
returns-clause-no_memory g c = λ e. absurd (end_is_not_no_memory c.serve.result (sym c.ended.ensures ∙ e))

pub returns-clause-read : goal.returns-clause-read
returns-clause-read g c = λ e.
    subst (λ (x : Link). (g.R.Source.broken c.serve.new.reader ≡ true) × (g.W.Sink.broken c.serve.new.writer ≡ false)
    × ReadsUpTo most_input (g.R.Source.left c.args.reader.now) (g.R.Source.left c.serve.new.reader) (λ consumed.
    WroteReplies x (items consumed) false (g.W.Sink.written c.args.writer.now) (g.W.Sink.written c.serve.new.writer)))
    (link_is_first_link c.in-Ok-new.connection.link c.in-Ok.remote.stub c.args.debugger.desk c.in-Ok-new.ensures.link c.in-Ok.ensures)
    (c.serve.ensures.read (read_end_is_read_fault c.serve.result (sym c.ended.ensures ∙ e)))

pub returns-clause-write : goal.returns-clause-write
returns-clause-write g c = λ e.
    subst (λ (x : Link). (g.R.Source.broken c.serve.new.reader ≡ false) × (g.W.Sink.broken c.serve.new.writer ≡ true)
    × ReadsUpTo most_input (g.R.Source.left c.args.reader.now) (g.R.Source.left c.serve.new.reader) (λ consumed.
    WroteRepliesInPart x (items consumed) (g.W.Sink.written c.args.writer.now) (g.W.Sink.written c.serve.new.writer)))
    (link_is_first_link c.in-Ok-new.connection.link c.in-Ok.remote.stub c.args.debugger.desk c.in-Ok-new.ensures.link c.in-Ok.ensures)
    (c.serve.ensures.write (write_end_is_fault c.serve.result (sym c.ended.ensures ∙ e)))
