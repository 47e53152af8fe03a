use Rattle.std.proofs.Common.{sym, ap, ◌∙◌, subst}
use Rattle.std.specs.Prelude.{option_map}
use Rattle.ir_files.specs.Writers.{writer_of}
use Rattle.ir_record_command.specs.Plan.{Plan}
use Rattle.ir_record_command.specs.Faults.{IsReported, unwritten_of}
use Rattle.ir_record_command.specs.declared.record_fault.RecordFault.{RecordFault}
use Rattle.ir_record_command.proofs.Reported.{order_reported_by_item, nameless_is_reported}
use Rattle.ir_record_command.proofs.recording.tell_fault.Goals as goal

pub returns-in-Trace : goal.returns-in-Trace
returns-in-Trace g c = subst (λ (e : RecordFault). IsReported e c.args.image.now c.args.plan.now
    (unwritten_of (g.W.WholeSink.called c.args.trace.now) (g.W.WholeSink.cause c.args.trace.now))
    (unwritten_of (g.P.OutputSink.called c.args.outputs.now) (g.P.OutputSink.cause c.args.outputs.now))
    (writer_of (g.E.Sink.written c.args.faults.now) (g.E.Sink.written c.tell_of.new.faults) (g.E.Sink.broken c.tell_of.new.faults)))
    (sym c.in-Trace.is) (rw c.name.ensures at (rw c.why.ensures at c.tell_of.ensures))

pub returns-in-Output : goal.returns-in-Output
returns-in-Output g c = subst (λ (e : RecordFault). IsReported e c.args.image.now c.args.plan.now
    (unwritten_of (g.W.WholeSink.called c.args.trace.now) (g.W.WholeSink.cause c.args.trace.now))
    (unwritten_of (g.P.OutputSink.called c.args.outputs.now) (g.P.OutputSink.cause c.args.outputs.now))
    (writer_of (g.E.Sink.written c.args.faults.now) (g.E.Sink.written c.tell_of-in-Output.new.faults)
    (g.E.Sink.broken c.tell_of-in-Output.new.faults)))
    (sym c.in-Output.is) (rw c.name-in-Output.ensures at (rw c.why-in-Output.ensures at c.tell_of-in-Output.ensures))

pub returns-in-Image : goal.returns-in-Image
returns-in-Image g c = nameless_is_reported c.args.why.now _ _ _ _ _ c.in-Image.is (rw c.words.ensures at c.tell.ensures)

pub returns-in-Some : goal.returns-in-Some
returns-in-Some g c = subst (λ (e : RecordFault). IsReported e c.args.image.now c.args.plan.now
    (unwritten_of (g.W.WholeSink.called c.args.trace.now) (g.W.WholeSink.cause c.args.trace.now))
    (unwritten_of (g.P.OutputSink.called c.args.outputs.now) (g.P.OutputSink.cause c.args.outputs.now))
    (writer_of (g.E.Sink.written c.args.faults.now) (g.E.Sink.written c.tell_order.new.faults) (g.E.Sink.broken c.tell_order.new.faults)))
    (sym c.in-Order.is) (order_reported_by_item c.in-Order.threads c.args.image.now c.in-Some.list.now c.args.plan.now
    (writer_of (g.E.Sink.written c.args.faults.now) (g.E.Sink.written c.tell_order.new.faults) (g.E.Sink.broken c.tell_order.new.faults)) (c.requires.listed c.in-Order.threads c.in-Order.is)
    (sym (ap (λ (p : Plan). p.order) c.plan.view_is) ∙ ap (option_map (λ s. s.now)) c.in-Some.is) c.tell_order.ensures)
