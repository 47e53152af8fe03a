use Rattle.std.proofs.Common.{◌≡◌, ◌∙◌, false, inl, inr, refl, subst, sym}
use Rattle.ir_files.specs.Writers.{writer_of}
use Rattle.ir_within.specs.Plans.{aspects_of}
use Rattle.ir_commands.specs.Exploring.{HasCounted, IsPlanOf, TellsByClass, counted_asked}
use Rattle.ir_commands.specs.Files.{TellsFault}
use Rattle.ir_commands.proofs.Counted.{no_classes_for_lack}
use Rattle.ir_commands.proofs.Explored.{told_by_class}
use Rattle.ir_commands.proofs.within.classes_file.Goals as goal

pub returns-in-Ok-check_counted : goal.returns-in-Ok-check_counted
returns-in-Ok-check_counted g c =
    let arguments = c.args.arguments.now in
    let image = c.in-Ok.files.image.items in
    let plan = c.plan_of.result in
    let answered = c.classes_run.result in
    let same = c.new-image.ensures ∙ c.as_slice.ensures.value in
    let out = writer_of (g.O.Sink.written c.args.out.now) (g.O.Sink.written c.classes_run.new.out) (g.O.Sink.broken c.classes_run.new.out) in
    let between =
    writer_of (g.E.Sink.written c.check_counted.new.faults) (g.E.Sink.written c.classes_run.new.faults) (g.E.Sink.broken c.classes_run.new.faults) in
    record {
      prints = inl (record {
        image = image;
        input = c.in-Ok.files.input.items;
        plan = plan;
        is_image = c.in-Ok.ensures.image;
        is_input = c.in-Ok.ensures.input;
        is_plan = subst (λ z. IsPlanOf arguments.explore z plan) c.as_slice-2.ensures.value c.plan_of.ensures;
        has = subst (λ z. HasCounted z plan.profile arguments.counted) same c.in-Ok-check_counted.ensures.has;
        tells = subst (λ f. TellsByClass image plan (counted_asked arguments.counted) answered out
            (writer_of (g.E.Sink.written f) (g.E.Sink.written c.classes_run.new.faults) (g.E.Sink.broken c.classes_run.new.faults)))
            (c.in-Ok-check_counted.ensures.kept ∙ c.in-Ok.ensures.kept)
            (subst (λ a. TellsByClass image plan a answered out between) c.aspects_of.ensures
            (subst (λ z. TellsByClass z plan (aspects_of c.aspects_of.result) answered out between) same
            (told_by_class c.new-image.result plan (aspects_of c.aspects_of.result) answered out between c.classes_run.ensures.done)));
      });
    }

pub returns : goal.returns
returns g c =
    let new = c.check_counted.new.faults in
    let kept = c.in-Ok.ensures.kept in
    record {
      prints = inr (record {
        status = no_classes_for_lack (g.D.Folder.bytes_at c.args.around.now.folder.now) c.args.arguments.now c.in-Ok.ensures.image
            (c.new-image.ensures ∙ c.as_slice.ensures.value) c.plan_of.ensures.profile c.in-Err-check_counted.ensures.lacks;
        kept = refl;
        told = subst (λ f. TellsFault (writer_of (g.E.Sink.written f) (g.E.Sink.written new) (g.E.Sink.broken new))) kept
            (c.in-Err-check_counted.ensures.told (subst (λ f. g.E.Sink.broken f ≡ false) (sym kept) c.requires.reports));
      });
    }
