use Rattle.std.proofs.Common.{◌∙◌, ap, ap₂, inl, option_map, refl, subst, sym}
use Rattle.std.proofs.lemmas.Result.{IfErr-weaker}
use Rattle.std.specs.String.{string_bytes}
use Rattle.ir_files.specs.Writers.{writer_of}
use Rattle.ir_trace.specs.Encoding.{encoding}
use Rattle.ir_commands.specs.Files.{IsImageIn, TellsFault}
use Rattle.ir_commands.specs.Writing.{AreOutputPaths, AsksFor, plan_asked, storing, texts_of_paths}
use Rattle.ir_commands.proofs.Kept.{kept_as_asked, outputs_in_place, texts_of_lent}
use Rattle.ir_commands.proofs.Stored.{both_if_ok, reported_is_told, stops_because, stored_in_place}
use Rattle.ir_commands.proofs.record.recorded_by.Goals as goal

pub returns-clause-done : goal.returns-clause-done
returns-clause-done g c =
    let at = g.D.Folder.bytes_at c.args.around.now.folder.now in
    let arguments = c.args.arguments.now in
    let image = c.new-image.result in
    let files = c.record_files-files.result in
    let after = c.record_run.new.files in
    let folder = c.args.around.now.folder.now in
    let stored = storing g.D.Folder.known g.D.Folder.known_closed (g.D.Folder.knows folder) (g.D.Folder.was_put folder) in
    let outs = subst (AreOutputPaths arguments.options.output) (sym (texts_of_lent (λ v. v.items) c.new-places.result.outputs c.in_ok-beside.beside.outputs
    c.new-places.ensures.outputs)) c.in_ok-beside.ensures.outputs in
    let asked : AsksFor at arguments image c.plan-plan.result = record {
      input = c.in_ok-beside.beside.input.items;
      order = option_map string_bytes c.in_ok-beside.beside.list;
      is_image = subst (λ p. IsImageIn (at p) image) c.as_str.ensures.value
          (subst (λ z. IsImageIn (at c.as_str.result.now) z) (sym (c.new-image.ensures ∙ c.as_slice.ensures.value)) c.in_ok-image.ensures.bytes);
      is_input = c.in_ok-beside.ensures.input;
      is_order = c.in_ok-beside.ensures.order;
      is_plan = c.plan-plan.ensures ∙ ap₂ (plan_asked arguments) c.text_in-order.ensures c.as_slice-input.ensures.value;
    } in
    both_if_ok c.record_run.result (λ whole recorded done. record {
      image = image;
      plan = c.plan-plan.result;
      printed = done.0;
      asked = asked;
      is = done.1;
      kept = kept_as_asked stored _ _ (c.new-places.ensures.trace ∙ c.as_str-2.ensures.value) outs (encoding recorded) done.0 (
        stored_in_place g.D.Folder.known g.D.Folder.knows g.D.Folder.was_put (λ m. m.file) c.args.around.now.folder.now files.trace.folder.now
            after.trace.folder.now c.new-places.result.trace.now files.trace.place.now after.trace.place.now files.trace.made after.trace.made
            (encoding recorded) c.record_files-files.ensures.folder c.record_files-files.ensures.place
            c.record_run.ensures.homes.0 c.record_files-files.ensures.empty (after.trace.put whole) done.2,
        outputs_in_place g.D.Folder.known_closed g.D.Folder.knows g.D.Folder.was_put (λ o. o.thread) (λ o. o.file) folder
            files.outputs.folder.now after.outputs.folder.now (texts_of_paths c.new-places.result.outputs) (texts_of_paths files.outputs.paths)
            (texts_of_paths after.outputs.paths) files.outputs.each.items after.outputs.each.items done.0 c.record_files-files.ensures.folders
            (ap texts_of_paths c.record_files-files.ensures.paths) c.record_run.ensures.homes.1 c.record_files-files.ensures.none done.3,
      );
      lines = done.4;
    }) c.record_run.ensures.whole c.record_run.ensures.done

pub returns-clause-stopped : goal.returns-clause-stopped
returns-clause-stopped g c =
    let at = g.D.Folder.bytes_at c.args.around.now.folder.now in
    let arguments = c.args.arguments.now in
    let image = c.new-image.result in
    let asked : AsksFor at arguments image c.plan-plan.result = record {
      input = c.in_ok-beside.beside.input.items;
      order = option_map string_bytes c.in_ok-beside.beside.list;
      is_image = subst (λ p. IsImageIn (at p) image) c.as_str.ensures.value
          (subst (λ z. IsImageIn (at c.as_str.result.now) z) (sym (c.new-image.ensures ∙ c.as_slice.ensures.value)) c.in_ok-image.ensures.bytes);
      is_input = c.in_ok-beside.ensures.input;
      is_order = c.in_ok-beside.ensures.order;
      is_plan = c.plan-plan.ensures ∙ ap₂ (plan_asked arguments) c.text_in-order.ensures c.as_slice-input.ensures.value;
    } in
    let kept = c.in_ok-beside.ensures.kept ∙ c.in_ok-image.ensures.kept ∙ c.if-loses_input.ensures.kept refl in
    IfErr-weaker c.record_run.result _ _ (λ answered h. inl (record {
      image = image;
      plan = c.plan-plan.result;
      fault = h.0;
      asked = asked;
      status = h.1;
      because = stops_because h.0 image c.plan-plan.result _ _
          (writer_of (g.O.Sink.written c.args.out.now) (g.O.Sink.written c.record_run.new.out) (g.O.Sink.broken c.record_run.new.out))
          (λ all. all.2) (λ later. later.1) (λ same. sym (ap g.O.Sink.written same)) h.2.1;
      told = subst (λ f. TellsFault (writer_of (g.E.Sink.written f) (g.E.Sink.written c.record_run.new.faults) (g.E.Sink.broken c.record_run.new.faults))) kept
          (reported_is_told h.0 image c.plan-plan.result _ _ _ h.2.0);
    })) c.record_run.ensures.stopped
