use Rattle.std.proofs.Common.{ap, refl, sym}
use Rattle.ir_files.specs.Writers.{writer_of}
use Rattle.ir_program.proofs.dispatch.plain.Goals as goal

pub returns : goal.returns
returns g c = record {
  asked = c.parsed-asked.result;
  is_asked = c.parsed-asked.ensures;
  told = writer_of (g.E.Sink.written c.args.faults.now) (g.E.Sink.written c.serve-status.new.faults) (g.E.Sink.broken c.serve-status.new.faults);
  done = c.serve-status.ensures;
  explained = record {
    begins = refl;
    goes_on = c.explain.ensures.grows;
    no_more = λ other. ap (λ w. writer_of (g.E.Sink.written c.args.faults.now) (g.E.Sink.written w) (g.E.Sink.broken w)) (sym (c.explain.ensures.kept other));
    broken = λ failed. ap (λ w. writer_of (g.E.Sink.written c.args.faults.now) (g.E.Sink.written w) (g.E.Sink.broken w)) (sym (c.explain.ensures.broken failed));
  };
}
