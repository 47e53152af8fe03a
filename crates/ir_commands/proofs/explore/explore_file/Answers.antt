use Rattle.std.proofs.Common.{inl, subst}
use Rattle.ir_files.specs.Writers.{writer_of}
use Rattle.ir_commands.specs.Exploring.{IsPlanOf, Tells}
use Rattle.ir_commands.proofs.Explored.{told_search}
use Rattle.ir_commands.proofs.explore.explore_file.Goals as goal

pub returns : goal.returns
returns g c =
    let at = g.D.Folder.bytes_at c.args.around.now.folder.now in
    let arguments = c.args.arguments.now in
    let image = c.in-Ok.files.image.items in
    let plan = c.plan_of-plan.result in
    let answered = c.explore_run.result in
    let out = writer_of (g.O.Sink.written c.args.out.now) (g.O.Sink.written c.explore_run.new.out) (g.O.Sink.broken c.explore_run.new.out) in
    let between = writer_of (g.E.Sink.written c.of.new.faults) (g.E.Sink.written c.explore_run.new.faults) (g.E.Sink.broken c.explore_run.new.faults) in
    record {
      prints = inl (record {
        image = image;
        input = c.in-Ok.files.input.items;
        plan = plan;
        is_image = c.in-Ok.ensures.image;
        is_input = c.in-Ok.ensures.input;
        is_plan = subst (λ z. IsPlanOf arguments z plan) c.as_slice.ensures.value c.plan_of-plan.ensures;
        tells = subst (λ f. Tells image plan answered out (writer_of (g.E.Sink.written f) (g.E.Sink.written c.explore_run.new.faults) (g.E.Sink.broken c.explore_run.new.faults)))
            c.in-Ok.ensures.kept (subst (λ z. Tells z plan answered out between) c.as_slice-image.ensures.value
            (told_search c.as_slice-image.result.now plan answered out between c.explore_run.ensures.done));
      });
    }
