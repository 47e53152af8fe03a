use Rattle.std.proofs.Common.{ap, refl}
use Rattle.std.proofs.lemmas.Result.{IfErr-weaker, IfOk-weaker}
use Rattle.ir_files.specs.Writers.{writer_of}
use Rattle.ir_hunt.specs.Lines.{found_line}
use Rattle.ir_record_command.specs.Stopping.{devices, telling, tellings}
use Rattle.ir_commands.proofs.Searched.{hunt_tells_none, left_out_is_told}
use Rattle.ir_commands.proofs.hunt.hunted_in.Goals as goal

pub returns-clause-found : goal.returns-clause-found
returns-clause-found g c = IfOk-weaker c.hunt_run.result _ _ (λ recorded done. record {
  printed = done.3;
  text = found_line done.1 done.2;
  found = record {
    left_out = done.0;
    seed = done.1;
    list = done.2;
    finding = done.4;
    line = refl;
    told = left_out_is_told done.0 _ (ap g.E.Sink.written) done.8;
  };
  kept = (done.5, done.6);
  lines = done.7;
}) c.hunt_run.ensures.done

pub returns-clause-none : goal.returns-clause-none
returns-clause-none g c =
    let old = devices c.args.files.now.trace c.args.files.now.outputs c.args.out.now in
    let new = devices c.hunt_run.new.files.trace c.hunt_run.new.files.outputs c.hunt_run.new.out in
    let reports = writer_of (g.E.Sink.written c.args.faults.now) (g.E.Sink.written c.hunt_run.new.faults) (g.E.Sink.broken c.hunt_run.new.faults) in
    IfErr-weaker c.hunt_run.result _ _ (λ answered h. hunt_tells_none
    (tellings (telling g.W.Sink.written g.W.Sink.broken g.W.WholeSink.called g.W.WholeSink.cause)
    (telling g.P.OutputSink.taken g.P.OutputSink.broken g.P.OutputSink.called g.P.OutputSink.cause) g.O.Sink.written g.O.Sink.broken)
    answered c.args.hunted.image.now c.args.hunted.plan.now old new reports (ap g.E.Sink.written) h) c.hunt_run.ensures.stopped
