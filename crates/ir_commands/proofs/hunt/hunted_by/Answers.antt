use Rattle.std.specs.Prelude.{IfSome}
use Rattle.std.proofs.KnownBytes.{Appends-nil}
use Rattle.ir_files.proofs.CallerLemmas.{if_err_handed_on}
use Rattle.ir_commands.specs.Conditions.{AreAboutNothing}
use Rattle.ir_commands.specs.Files.{IsImageIn, IsNoGuest, TellsFault}
use Rattle.ir_commands.specs.Writing.{IsStatusOfNoRecording}
use Rattle.ir_commands.proofs.Printed.{nothing_searched}
use Rattle.ir_commands.proofs.Refused.{refused_since}
use Rattle.std.proofs.Common.{◌≡◌, ◌∙◌, List, ℕ, ap, false, inl, inr, refl, subst, sym}
use Rattle.std.specs.String.{string_bytes}
use Rattle.std.proofs.lemmas.Result.{err_from_is_err_and}
use Rattle.ir_files.specs.Writers.{writer_of}
use Rattle.ir_hunt.specs.declared.plan.HuntPlan.{HuntPlan}
use Rattle.ir_commands.specs.Conditions.{AreWritten}
use Rattle.ir_commands.specs.Exploring.{IsInput}
use Rattle.ir_commands.specs.Searching.{AsksHunt, HuntsFile, hunt_plan_asked}
use Rattle.ir_commands.specs.Writing.{KeptAt, storing, texts_of_paths}
use Rattle.ir_commands.proofs.Kept.{kept_as_asked, output_paths_as_asked}
use Rattle.ir_commands.proofs.Searched.{hunt_comes_to}
use Rattle.ir_commands.proofs.hunt.hunted_by.Goals as goal

pub returns-clause-done : goal.returns-clause-done
returns-clause-done g c =
    let folder = c.args.around.now.folder.now in
    let at = g.D.Folder.bytes_at folder in
    let stored = storing g.D.Folder.known g.D.Folder.known_closed (g.D.Folder.knows folder) (g.D.Folder.was_put folder) in
    let arguments = c.args.arguments.now in
    let image = c.new-image.result in
    let plan : HuntPlan = record {
      «record» = c.plan.result;
      way = arguments.way;
      seeds = arguments.seeds;
      conditions = c.as_slice-4.result;
      stale = arguments.stale;
      jobs = arguments.jobs;
      seconds = arguments.seconds;
      is_shown = c.args.explains;
    } in
    let asked : AsksHunt at arguments image plan = record {
      input = c.in_ok-files.files.input.items;
      is_image = subst (λ p. IsImageIn (at p) image) c.paths-paths.ensures.image
          (subst (λ z. IsImageIn (at c.paths-paths.result.image.now) z) (sym (c.new-image.ensures ∙ c.as_slice.ensures.value)) c.in_ok-image.ensures.bytes);
      is_input = subst (λ f. IsInput at f c.in_ok-files.files.input.items) c.paths-paths.ensures.input c.in_ok-files.ensures.input;
      is_plan = record {
        how = c.plan.ensures ∙ ap (hunt_plan_asked arguments) c.as_slice-3.ensures.value;
        way = refl;
        seeds = refl;
        conditions = subst (λ z. AreWritten arguments.until.items z) (sym c.as_slice-4.ensures.value)
            (subst (λ t. AreWritten t c.in_ok-files.files.conditions.items) c.as_slice-2.ensures.value c.in_ok-files.ensures.read);
        stale = refl;
        jobs = refl;
        seconds = refl;
      };
    } in
    let outs = output_paths_as_asked (λ v. v.items) c.paths-paths.result.output c.new-places.result.outputs c.in_ok-files.files.outputs c.paths-paths.ensures.output
    c.new-places.ensures.outputs c.in_ok-files.ensures.paths in
    let kept = c.in_ok-files.ensures.kept ∙ c.in_ok-image.ensures.kept in
    subst (λ f. HuntsFile at stored arguments c.ended.result
    (writer_of (g.O.Sink.written c.args.out.now) (g.O.Sink.written c.ended.new.out) (g.O.Sink.broken c.ended.new.out))
    (writer_of (g.E.Sink.written f) (g.E.Sink.written c.ended.new.faults) (g.E.Sink.broken c.ended.new.faults))) kept
    (hunt_comes_to g.O.Sink.written g.O.Sink.broken g.E.Sink.written g.E.Sink.broken at stored arguments image plan
    c.args.out.now c.hunted_into-found.new.out c.ended.new.out c.of.new.faults c.hunted_into-found.new.faults c.ended.new.faults c.ended.result
    (KeptAt stored c.new-places.result.trace.now (texts_of_paths c.new-places.result.outputs)) c.hunted_into-found.result asked
    (kept_as_asked stored _ _ (c.new-places.ensures.trace ∙ c.paths-paths.ensures.trace) outs)
    c.hunted_into-found.ensures.found c.hunted_into-found.ensures.none c.ended.ensures.stopped c.ended.ensures.quiet c.ended.ensures.kept c.ended.ensures.done
    c.ended.ensures.shrunk)

pub returns-in_err-image-clause-stopped : goal.returns-in_err-image-clause-stopped
returns-in_err-image-clause-stopped g c =
    let at = g.D.Folder.bytes_at c.args.around.now.folder.now in
    let arguments = c.args.arguments.now in
    let p = err_from_is_err_and c.from_residual.result c.from_residual.ensures.1 in
    let e = c.in_err-image.field-0.0 in
    let because = subst (λ b. IsStatusOfNoRecording (IfSome (at b) IsNoGuest) e) c.paths-paths.ensures.image c.in_err-image.ensures.status in
    if_err_handed_on _ c.from_residual.result e p.0 p.1 p.2
    (nothing_searched (refused_since (λ n. inl (inl n)) because) (c.in_err-image.ensures.told c.requires.reports) (Appends-nil (g.O.Sink.written c.args.out.now)))

pub returns-in_err-files-clause-stopped : goal.returns-in_err-files-clause-stopped
returns-in_err-files-clause-stopped g c =
    let at = g.D.Folder.bytes_at c.args.around.now.folder.now in
    let arguments = c.args.arguments.now in
    let p = err_from_is_err_and c.from_residual-in_err-files.result c.from_residual-in_err-files.ensures.1 in
    let image = c.new-image.result in
    let kept = c.in_ok-image.ensures.kept in
    let told : TellsFault (writer_of (g.E.Sink.written c.args.faults.now) (g.E.Sink.written c.of.new.faults) (g.E.Sink.broken c.of.new.faults)) =
    subst (λ f. TellsFault (writer_of (g.E.Sink.written f) (g.E.Sink.written c.of.new.faults) (g.E.Sink.broken c.of.new.faults))) kept
    (c.in_err-files.ensures.told (subst (λ f. g.E.Sink.broken f ≡ false) (sym kept) c.requires.reports)) in
    let is_image : IsImageIn (at (string_bytes arguments.image)) image = subst (λ b. IsImageIn (at b) image) c.paths-paths.ensures.image
    (subst (λ z. IsImageIn (at c.paths-paths.result.image.now) z) (sym (c.new-image.ensures ∙ c.as_slice.ensures.value)) c.in_ok-image.ensures.bytes) in
    if_err_handed_on _ c.from_residual-in_err-files.result c.in_err-files.field-0.0 p.0 p.1 p.2
    (nothing_searched (refused_since (λ about. inr (image, is_image, subst (λ t. AreAboutNothing t image) c.as_slice-2.ensures.value about)) c.in_err-files.ensures.status)
    told (Appends-nil (g.O.Sink.written c.args.out.now)))
