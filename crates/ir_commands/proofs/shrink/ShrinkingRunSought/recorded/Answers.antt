use Rattle.std.proofs.Common.{refl}
use Rattle.std.proofs.lemmas.Result.{IfErr-weaker, IfOk-weaker}
use Rattle.ir_files.specs.Writers.{writer_of}
use Rattle.ir_record_command.specs.Stopping.{devices, telling, tellings}
use Rattle.ir_commands.proofs.CallerLemmas.{quiet_goes_on}
use Rattle.ir_shrink.specs.Lines.{shrunk_lines}
use Rattle.ir_commands.proofs.Searched.{shrink_stops}
use Rattle.ir_commands.proofs.shrink.ShrinkingRunSought.recorded.Goals as goal

pub returns-clause-found : goal.returns-clause-found
returns-clause-found g c = IfOk-weaker c.shrink_run.result _ _ (λ shrunk done. record {
  printed = done.3;
  text = shrunk_lines done.0 done.1 done.2 shrunk.is_minimal;
  found = record { before = done.0; after = done.1; list = done.2; shrinking = done.4; line = refl };
  kept = (done.5, done.6);
  lines = done.7;
}) c.shrink_run.ensures.done

pub returns-clause-none : goal.returns-clause-none
returns-clause-none g c =
    let old = devices c.args.files.now.trace c.args.files.now.outputs c.args.out.now in
    let new = devices c.shrink_run.new.files.trace c.shrink_run.new.files.outputs c.shrink_run.new.out in
    let reports = writer_of (g.E.Sink.written c.args.faults.now) (g.E.Sink.written c.shrink_run.new.faults) (g.E.Sink.broken c.shrink_run.new.faults) in
    IfErr-weaker c.shrink_run.result _ _ (λ answered h. shrink_stops
    (tellings (telling g.W.Sink.written g.W.Sink.broken g.W.WholeSink.called g.W.WholeSink.cause)
    (telling g.P.OutputSink.taken g.P.OutputSink.broken g.P.OutputSink.called g.P.OutputSink.cause) g.O.Sink.written g.O.Sink.broken)
    answered c.args.self.now.image.now c.args.self.now.plan.now c.args.self.now.trace.now old new reports h) c.shrink_run.ensures.stopped

pub returns-clause-grows : goal.returns-clause-grows
returns-clause-grows g c = quiet_goes_on g.E.Sink.written c.shrink_run.result c.args.faults.now c.shrink_run.new.faults c.shrink_run.ensures.quiet
