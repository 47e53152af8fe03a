use Rattle.std.proofs.Common.{false, inl, inr, refl, subst, sym, ◌∙◌, ◌≡◌}
use Rattle.ir_files.specs.Writers.{writer_of}
use Rattle.ir_listing.specs.Events.{AreEventLines}
use Rattle.ir_opened.specs.Answers.{IsFitAnswerOf}
use Rattle.ir_commands.specs.Files.{IsFileIn, TellsFault}
use Rattle.ir_commands.specs.Printing.{IsPrinted}
use Rattle.ir_commands.proofs.Written.{holds_of_named_image}
use Rattle.ir_commands.proofs.events.events_file.Goals as goal

pub returns-in-Ok-clause-prints : goal.returns-in-Ok-clause-prints
returns-in-Ok-clause-prints g c =
    let at = g.D.Folder.bytes_at c.args.folder.now in
    let new = c.of_run.new.faults in
    let answered = c.of_run.result in
    let out = writer_of (g.O.Sink.written c.args.out.now) (g.O.Sink.written c.of_run.new.out) (g.O.Sink.broken c.of_run.new.out) in
    let faults = writer_of (g.E.Sink.written c.args.faults.now) (g.E.Sink.written new) (g.E.Sink.broken new) in
    let image = c.in-Ok.named.image.items in
    let names = c.in-Ok.named.names in
    let trace = c.in-Some.trace.items in
    inl (record {
      trace = trace;
      is_trace = subst (λ p. IsFileIn (at p) trace) c.as_str-path.ensures.value c.in-Some.ensures.bytes;
      so = holds_of_named_image (λ bytes symbols. IsPrinted (IsFitAnswerOf (AreEventLines symbols) bytes trace) answered out faults) c.in-Ok.ensures.named
          (subst (λ f. IsPrinted (IsFitAnswerOf (AreEventLines names) image trace) answered out (writer_of (g.E.Sink.written f) (g.E.Sink.written new) (g.E.Sink.broken new)))
          (c.in-Ok.ensures.kept ∙ c.in-Some.ensures.kept)
          (subst (λ z. IsPrinted (IsFitAnswerOf (AreEventLines names) z trace) answered out
          (writer_of (g.E.Sink.written c.named_image.new.faults) (g.E.Sink.written new) (g.E.Sink.broken new))) c.as_slice-image.ensures.value
          (subst (λ z. IsPrinted (IsFitAnswerOf (AreEventLines names) c.as_slice-image.result.now z) answered out
          (writer_of (g.E.Sink.written c.named_image.new.faults) (g.E.Sink.written new) (g.E.Sink.broken new))) c.as_slice-trace.ensures.value
          c.of_run.ensures.prints)));
    })

pub returns-clause-prints : goal.returns-clause-prints
returns-clause-prints g c =
    let new = c.named_image.new.faults in
    let kept = c.in-Some.ensures.kept in
    inr (record {
      status = c.in-Err.ensures.status;
      kept = refl;
      told = subst (λ f. TellsFault (writer_of (g.E.Sink.written f) (g.E.Sink.written new) (g.E.Sink.broken new))) kept
          (c.in-Err.ensures.told (subst (λ f. g.E.Sink.broken f ≡ false) (sym kept) c.requires.reports));
    })
