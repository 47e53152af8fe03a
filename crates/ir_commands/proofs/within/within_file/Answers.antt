use Rattle.std.proofs.Common.{◌≡◌, ◌∙◌, false, inl, inr, refl, subst, sym}
use Rattle.ir_files.specs.Writers.{writer_of}
use Rattle.ir_within.specs.Faults.{Comparison}
use Rattle.ir_within.specs.Plans.{comparison_of}
use Rattle.ir_commands.specs.Exploring.{TellsComparison}
use Rattle.ir_commands.specs.Files.{TellsFault}
use Rattle.ir_commands.proofs.Explored.{told_comparison}
use Rattle.ir_commands.proofs.Outsides.{comparison_asked, no_comparison_for_lack}
use Rattle.ir_commands.proofs.within.within_file.Goals as goal

pub returns-in-Ok-comparison_plan : goal.returns-in-Ok-comparison_plan
returns-in-Ok-comparison_plan g c =
    let comparison : Comparison = comparison_of c.in-Ok-comparison_plan.plan in
    let answered = c.within_run.result in
    let out = writer_of (g.O.Sink.written c.args.out.now) (g.O.Sink.written c.within_run.new.out) (g.O.Sink.broken c.within_run.new.out) in
    let between =
    writer_of (g.E.Sink.written c.comparison_plan.new.faults) (g.E.Sink.written c.within_run.new.faults) (g.E.Sink.broken c.within_run.new.faults) in
    record {
      prints = inl (record {
        comparison = comparison;
        asked = comparison_asked c.in-Ok-comparison_plan.ensures.plan c.both_images-both.ensures.0 c.in-Ok.ensures.image c.both_images-both.ensures.1
            c.in-Ok.ensures.other c.as_slice-input.ensures.value c.in-Ok.ensures.input;
        tells = subst (λ f. TellsComparison comparison answered out
            (writer_of (g.E.Sink.written f) (g.E.Sink.written c.within_run.new.faults) (g.E.Sink.broken c.within_run.new.faults)))
            (c.in-Ok-comparison_plan.ensures.kept ∙ c.in-Ok.ensures.kept) (told_comparison comparison answered out between c.within_run.ensures.done);
      });
    }

pub returns-in-Err : goal.returns-in-Err
returns-in-Err g c = record {
  prints = inr (record {
    status = c.in-Err.ensures.status;
    kept = refl;
    told = c.in-Err.ensures.told c.requires.reports;
  });
}

pub returns : goal.returns
returns g c =
    let new = c.comparison_plan.new.faults in
    let kept = c.in-Ok.ensures.kept in
    record {
      prints = inr (record {
        status = no_comparison_for_lack (g.D.Folder.bytes_at c.args.around.now.folder.now) c.args.arguments.now c.in-Ok.ensures.image c.in-Ok.ensures.other
            c.both_images-both.ensures.0 c.both_images-both.ensures.1 c.in-Err-comparison_plan.ensures.lacks;
        kept = refl;
        told = subst (λ f. TellsFault (writer_of (g.E.Sink.written f) (g.E.Sink.written new) (g.E.Sink.broken new))) kept
            (c.in-Err-comparison_plan.ensures.told (subst (λ f. g.E.Sink.broken f ≡ false) (sym kept) c.requires.reports));
      });
    }
