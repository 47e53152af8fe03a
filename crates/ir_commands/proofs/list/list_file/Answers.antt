use Rattle.std.proofs.Common.{inl, subst}
use Rattle.ir_files.specs.Writers.{Reports, fault_text, writer_of}
use Rattle.ir_listing.specs.Code.{RefusesImage}
use Rattle.ir_past.specs.Answers.{fault_words}
use Rattle.ir_commands.specs.Printing.{Lists}
use Rattle.ir_commands.proofs.Written.{holds_of_named_image}
use Rattle.ir_commands.proofs.list.list_file.Goals as goal

pub returns-in-Ok-clause-prints : goal.returns-in-Ok-clause-prints
returns-in-Ok-clause-prints g c =
    let new = c.list_report.new.faults in
    let out = writer_of (g.O.Sink.written c.args.out.now) (g.O.Sink.written c.list_report.new.out) (g.O.Sink.broken c.list_report.new.out) in
    let faults = writer_of (g.E.Sink.written c.args.faults.now) (g.E.Sink.written new) (g.E.Sink.broken new) in
    let names = c.in-Ok.named.names in
    let lists : Lists c.as_slice.result.now names c.list_report.result out faults = record {
      one = c.list_report.ensures.one;
      done = λ done. (c.list_report.ensures.done done).0;
      refused = λ refused. subst (λ f. RefusesImage c.as_slice.result.now out (writer_of (g.E.Sink.written f) (g.E.Sink.written new) (g.E.Sink.broken new)))
          c.in-Ok.ensures.kept (c.list_report.ensures.refused refused);
      stopped = λ stopped. let why = c.list_report.ensures.stopped stopped in (
        why.0,
        why.1,
        subst (λ f. Reports (writer_of (g.E.Sink.written f) (g.E.Sink.written new) (g.E.Sink.broken new)) (fault_text (fault_words why.0))) c.in-Ok.ensures.kept why.2,
      );
    } in
    inl (holds_of_named_image (λ bytes symbols. Lists bytes symbols c.list_report.result out faults) c.in-Ok.ensures.named
    (subst (λ bytes. Lists bytes names c.list_report.result out faults) c.as_slice.ensures.value lists))
