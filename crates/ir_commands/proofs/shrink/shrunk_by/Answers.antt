use Rattle.std.proofs.KnownBytes.{Appends-nil}
use Rattle.ir_files.proofs.CallerLemmas.{if_err_handed_on}
use Rattle.ir_commands.specs.Conditions.{AreAboutNothing}
use Rattle.ir_commands.specs.Files.{IsImageIn, TellsFault}
use Rattle.ir_commands.proofs.Printed.{nothing_searched}
use Rattle.ir_commands.proofs.Refused.{refused_since}
use Rattle.std.proofs.Common.{◌≡◌, ◌∙◌, List, ℕ, [], ap, false, inl, inr, refl, subst, sym}
use Rattle.std.specs.String.{string_bytes}
use Rattle.std.specs.Io.KnownBytes.{Appends}
use Rattle.std.proofs.lemmas.Result.{IfErr-weaker, IfOk-weaker, err_from_is_err_and}
use Rattle.ir_files.specs.Writers.{writer_of}
use Rattle.ir_shrink.specs.declared.plan.ShrinkPlan.{ShrinkPlan}
use Rattle.ir_commands.specs.Conditions.{AreWritten}
use Rattle.ir_commands.specs.Exploring.{IsInput}
use Rattle.ir_commands.specs.Writing.{storing}
use Rattle.ir_commands.proofs.Kept.{kept_as_asked, output_paths_as_asked}
use Rattle.ir_commands.proofs.Searched.{run_kept_at, shrink_asked, shrink_refuses, unfit_shrinks_nothing}
use Rattle.ir_commands.proofs.shrink.shrunk_by.Goals as goal

pub returns-clause-done : goal.returns-clause-done
returns-clause-done g c =
    let folder = c.args.around.now.folder.now in
    let stored = storing g.D.Folder.known g.D.Folder.known_closed (g.D.Folder.knows folder) (g.D.Folder.was_put folder) in
    let arguments = c.args.arguments.now in
    let files = c.in_ok-files.files in
    let plan : ShrinkPlan = record {
      «record» = c.plan_like.result;
      conditions = c.as_slice-3.result;
      texts = c.as_slice-4.result;
      stale = arguments.stale;
      seconds = arguments.seconds;
      is_shown = c.args.explains;
    } in
    let outs = output_paths_as_asked (λ v. v.items) c.paths.result.output c.new-places.result.outputs files.outputs c.paths.ensures.output
    c.new-places.ensures.outputs c.in_ok-files.ensures.paths in
    IfOk-weaker c.recorded_into.result _ _ (λ shrunk h. record {
      image = c.new-image.result;
      given = c.in_ok-trace.trace;
      plan = plan;
      recorded = shrunk.trace;
      asked = shrink_asked c.in_ok-given.given.trace.items (c.new-image.ensures ∙ c.as_slice.ensures.value) c.in_ok-given.ensures.image c.in_ok-given.ensures.trace c.in_ok-trace.ensures.reads
          (subst (λ f. IsInput (g.D.Folder.bytes_at folder) f files.input.items) c.paths.ensures.input c.in_ok-files.ensures.input)
          c.as_slice-2.ensures.value c.plan_like.ensures c.as_slice-3.ensures.value
          (subst (λ t. AreWritten t files.conditions.items) c.as_slice-until.ensures.value c.in_ok-files.ensures.read) refl refl;
      shrunk = run_kept_at (kept_as_asked stored _ _ (c.new-places.ensures.trace ∙ c.as_str.ensures.value) outs) (ap (λ o. writer_of (g.O.Sink.written o) (g.O.Sink.written
          c.recorded_into.new.out) (g.O.Sink.broken c.recorded_into.new.out)) c.in_ok-trace.ensures.quiet) h;
    }) c.recorded_into.ensures.found

pub returns-clause-stopped : goal.returns-clause-stopped
returns-clause-stopped g c =
    let folder = c.args.around.now.folder.now in
    let arguments = c.args.arguments.now in
    let files = c.in_ok-files.files in
    let plan : ShrinkPlan = record {
      «record» = c.plan_like.result;
      conditions = c.as_slice-3.result;
      texts = c.as_slice-4.result;
      stale = arguments.stale;
      seconds = arguments.seconds;
      is_shown = c.args.explains;
    } in
    let asked = shrink_asked {plan = plan} c.in_ok-given.given.trace.items (c.new-image.ensures ∙ c.as_slice.ensures.value)
    c.in_ok-given.ensures.image c.in_ok-given.ensures.trace c.in_ok-trace.ensures.reads
    (subst (λ f. IsInput (g.D.Folder.bytes_at folder) f files.input.items) c.paths.ensures.input c.in_ok-files.ensures.input)
    c.as_slice-2.ensures.value c.plan_like.ensures c.as_slice-3.ensures.value
    (subst (λ t. AreWritten t files.conditions.items) c.as_slice-until.ensures.value c.in_ok-files.ensures.read) refl refl in
    let kept = c.in_ok-texts.ensures.kept ∙ c.in_ok-files.ensures.kept ∙ c.in_ok-trace.ensures.kept ∙ c.in_ok-given.ensures.kept in
    IfErr-weaker c.recorded_into.result _ _ (λ answered h. shrink_refuses answered asked (ap (λ o. writer_of (g.O.Sink.written o) (g.O.Sink.written
    c.recorded_into.new.out) (g.O.Sink.broken c.recorded_into.new.out)) c.in_ok-trace.ensures.quiet) (ap (λ f. writer_of (g.E.Sink.written f) (g.E.Sink.written
    c.recorded_into.new.faults) (g.E.Sink.broken c.recorded_into.new.faults)) kept) h) c.recorded_into.ensures.none

pub returns-in_err-given-clause-stopped : goal.returns-in_err-given-clause-stopped
returns-in_err-given-clause-stopped g c =
    let p = err_from_is_err_and c.from_residual.result c.from_residual.ensures.1 in
    if_err_handed_on _ c.from_residual.result c.in_err-given.field-0.0 p.0 p.1 p.2
    (inr (inr (nothing_searched (refused_since (λ n. inl n) c.in_err-given.ensures.status) (c.in_err-given.ensures.told c.requires.reports)
    (Appends-nil (g.O.Sink.written c.args.out.now)))))

pub returns-in_err-trace-clause-stopped : goal.returns-in_err-trace-clause-stopped
returns-in_err-trace-clause-stopped g c =
    let p = err_from_is_err_and c.from_residual-in_err-trace.result c.from_residual-in_err-trace.ensures.1 in
    let new = c.fitting_trace.new.faults in
    if_err_handed_on _ c.from_residual-in_err-trace.result c.in_err-trace.field-0.0 p.0 p.1 p.2
    (unfit_shrinks_nothing c.in_ok-given.ensures.image c.in_ok-given.ensures.trace
    (ap (λ f. writer_of (g.E.Sink.written f) (g.E.Sink.written new) (g.E.Sink.broken new)) c.in_ok-given.ensures.kept) c.in_err-trace.ensures.stopped)

pub returns-in_err-files-clause-stopped : goal.returns-in_err-files-clause-stopped
returns-in_err-files-clause-stopped g c =
    let at = g.D.Folder.bytes_at c.args.around.now.folder.now in
    let arguments = c.args.arguments.now in
    let p = err_from_is_err_and c.from_residual-in_err-files.result c.from_residual-in_err-files.ensures.1 in
    let image = c.new-image.result in
    let kept = c.in_ok-trace.ensures.kept ∙ c.in_ok-given.ensures.kept in
    let told : TellsFault (writer_of (g.E.Sink.written c.args.faults.now) (g.E.Sink.written c.of.new.faults) (g.E.Sink.broken c.of.new.faults)) =
    subst (λ f. TellsFault (writer_of (g.E.Sink.written f) (g.E.Sink.written c.of.new.faults) (g.E.Sink.broken c.of.new.faults))) kept
    (c.in_err-files.ensures.told (subst (λ f. g.E.Sink.broken f ≡ false) (sym kept) c.requires.reports)) in
    let is_image : IsImageIn (at (string_bytes arguments.image)) image = subst (λ z. IsImageIn (at (string_bytes arguments.image)) z)
    (sym (c.new-image.ensures ∙ c.as_slice.ensures.value)) c.in_ok-given.ensures.image in
    if_err_handed_on _ c.from_residual-in_err-files.result c.in_err-files.field-0.0 p.0 p.1 p.2
    (inr (inr (nothing_searched (refused_since (λ about. inr (
      c.in_ok-given.given.trace.items,
      c.in_ok-trace.trace,
      c.in_ok-given.ensures.trace,
      c.in_ok-trace.ensures.reads,
      inr (image, is_image, subst (λ t. AreAboutNothing t image) c.as_slice-until.ensures.value about),
    )) c.in_err-files.ensures.status) told
    (subst (λ o. Appends (g.O.Sink.written c.args.out.now) (g.O.Sink.written o) []) (sym c.in_ok-trace.ensures.quiet) (Appends-nil (g.O.Sink.written c.args.out.now))))))

pub returns-in_err-texts-clause-stopped : goal.returns-in_err-texts-clause-stopped
returns-in_err-texts-clause-stopped g c =
    let p = err_from_is_err_and c.from_residual-in_err-texts.result c.from_residual-in_err-texts.ensures.1 in
    let kept = c.in_ok-files.ensures.kept ∙ c.in_ok-trace.ensures.kept ∙ c.in_ok-given.ensures.kept in
    let told : TellsFault (writer_of (g.E.Sink.written c.args.faults.now) (g.E.Sink.written c.texts_of.new.faults) (g.E.Sink.broken c.texts_of.new.faults)) =
    subst (λ f. TellsFault (writer_of (g.E.Sink.written f) (g.E.Sink.written c.texts_of.new.faults) (g.E.Sink.broken c.texts_of.new.faults))) kept
    (c.in_err-texts.ensures.told (subst (λ f. g.E.Sink.broken f ≡ false) (sym kept) c.requires.reports)) in
    if_err_handed_on _ c.from_residual-in_err-texts.result c.in_err-texts.field-0.0 p.0 p.1 p.2
    (inr (inr (nothing_searched (inr (inl c.in_err-texts.ensures.status)) told
    (subst (λ o. Appends (g.O.Sink.written c.args.out.now) (g.O.Sink.written o) []) (sym c.in_ok-trace.ensures.quiet) (Appends-nil (g.O.Sink.written c.args.out.now))))))
