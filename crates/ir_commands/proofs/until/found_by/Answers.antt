use Rattle.std.specs.Prelude.{IfSome}
use Rattle.std.proofs.KnownBytes.{Appends-nil}
use Rattle.ir_files.proofs.CallerLemmas.{if_err_handed_on}
use Rattle.ir_commands.specs.Conditions.{AreAboutNothing}
use Rattle.ir_commands.specs.Files.{IsImageIn, IsNoGuest, TellsFault}
use Rattle.ir_commands.specs.Writing.{IsStatusOfNoRecording}
use Rattle.ir_commands.proofs.Printed.{nothing_searched}
use Rattle.ir_commands.proofs.Refused.{refused_since}
use Rattle.std.proofs.Common.{◌≡◌, ◌∙◌, List, ℕ, ap, false, inl, inr, refl, subst, sym}
use Rattle.std.specs.String.{string_bytes}
use Rattle.std.proofs.lemmas.Result.{IfErr-weaker, err_from_is_err_and}
use Rattle.ir_files.specs.Writers.{writer_of}
use Rattle.ir_commands.specs.Conditions.{AreWritten}
use Rattle.ir_commands.specs.Exploring.{IsInput}
use Rattle.ir_commands.specs.Writing.{storing}
use Rattle.ir_commands.proofs.Kept.{kept_as_asked, output_paths_as_asked, run_kept}
use Rattle.ir_commands.proofs.Searched.{ok_gives, search_asked, search_misses}
use Rattle.ir_commands.proofs.until.found_by.Goals as goal

pub returns-clause-found : goal.returns-clause-found
returns-clause-found g c =
    let folder = c.args.around.now.folder.now in
    let stored = storing g.D.Folder.known g.D.Folder.known_closed (g.D.Folder.knows folder) (g.D.Folder.was_put folder) in
    let files = c.in_ok-files.files in
    let outs = output_paths_as_asked (λ v. v.items) c.paths-paths.result.output c.new-places.result.outputs files.outputs c.paths-paths.ensures.output
    c.new-places.ensures.outputs c.in_ok-files.ensures.paths in
    ok_gives c.recorded_into.result (λ recorded found. record {
      image = c.new-image.result;
      plan = c.plan_of.result;
      conditions = c.as_slice-4.result.now;
      recorded = recorded;
      asked = search_asked c.paths-paths.ensures.image (c.new-image.ensures ∙ c.as_slice.ensures.value) c.in_ok-image.ensures.bytes
          (subst (λ f. IsInput (g.D.Folder.bytes_at folder) f files.input.items) c.paths-paths.ensures.input c.in_ok-files.ensures.input)
          c.as_slice-3.ensures.value c.plan_of.ensures c.as_slice-4.ensures.value
          (subst (λ t. AreWritten t files.conditions.items) c.as_slice-2.ensures.value c.in_ok-files.ensures.read);
      found = run_kept (kept_as_asked stored _ _ (c.new-places.ensures.trace ∙ c.paths-paths.ensures.trace) outs) found;
    }) c.recorded_into.ensures.found

pub returns-clause-none : goal.returns-clause-none
returns-clause-none g c =
    let folder = c.args.around.now.folder.now in
    let files = c.in_ok-files.files in
    let out = writer_of (g.O.Sink.written c.args.out.now) (g.O.Sink.written c.recorded_into.new.out) (g.O.Sink.broken c.recorded_into.new.out) in
    let kept = c.in_ok-files.ensures.kept ∙ c.in_ok-image.ensures.kept in
    IfErr-weaker c.recorded_into.result _ _ (λ answered h. search_misses answered out (search_asked c.paths-paths.ensures.image
    (c.new-image.ensures ∙ c.as_slice.ensures.value) c.in_ok-image.ensures.bytes
    (subst (λ f. IsInput (g.D.Folder.bytes_at folder) f files.input.items) c.paths-paths.ensures.input c.in_ok-files.ensures.input)
    c.as_slice-3.ensures.value c.plan_of.ensures c.as_slice-4.ensures.value
    (subst (λ t. AreWritten t files.conditions.items) c.as_slice-2.ensures.value c.in_ok-files.ensures.read))
    (ap (λ f. writer_of (g.E.Sink.written f) (g.E.Sink.written c.recorded_into.new.faults) (g.E.Sink.broken c.recorded_into.new.faults)) kept) h)
    c.recorded_into.ensures.none

pub returns-in_err-image-clause-none : goal.returns-in_err-image-clause-none
returns-in_err-image-clause-none g c =
    let at = g.D.Folder.bytes_at c.args.around.now.folder.now in
    let arguments = c.args.arguments.now in
    let p = err_from_is_err_and c.from_residual.result c.from_residual.ensures.1 in
    let e = c.in_err-image.field-0.0 in
    let because = subst (λ b. IsStatusOfNoRecording (IfSome (at b) IsNoGuest) e) c.paths-paths.ensures.image c.in_err-image.ensures.status in
    if_err_handed_on _ c.from_residual.result e p.0 p.1 p.2
    (inr (nothing_searched (refused_since (λ n. inl (inl (inl n))) because) (c.in_err-image.ensures.told c.requires.reports) (Appends-nil (g.O.Sink.written c.args.out.now))))

pub returns-in_err-files-clause-none : goal.returns-in_err-files-clause-none
returns-in_err-files-clause-none g c =
    let at = g.D.Folder.bytes_at c.args.around.now.folder.now in
    let arguments = c.args.arguments.now in
    let p = err_from_is_err_and c.from_residual-in_err-files.result c.from_residual-in_err-files.ensures.1 in
    let image = c.new-image.result in
    let kept = c.in_ok-image.ensures.kept in
    let told : TellsFault (writer_of (g.E.Sink.written c.args.faults.now) (g.E.Sink.written c.of.new.faults) (g.E.Sink.broken c.of.new.faults)) =
    subst (λ f. TellsFault (writer_of (g.E.Sink.written f) (g.E.Sink.written c.of.new.faults) (g.E.Sink.broken c.of.new.faults))) kept
    (c.in_err-files.ensures.told (subst (λ f. g.E.Sink.broken f ≡ false) (sym kept) c.requires.reports)) in
    let is_image : IsImageIn (at (string_bytes arguments.explore.image)) image = subst (λ b. IsImageIn (at b) image) c.paths-paths.ensures.image
    (subst (λ z. IsImageIn (at c.paths-paths.result.image.now) z) (sym (c.new-image.ensures ∙ c.as_slice.ensures.value)) c.in_ok-image.ensures.bytes) in
    if_err_handed_on _ c.from_residual-in_err-files.result c.in_err-files.field-0.0 p.0 p.1 p.2
    (inr (nothing_searched (refused_since (λ about. inl (inr (image, is_image, subst (λ t. AreAboutNothing t image) c.as_slice-2.ensures.value about))) c.in_err-files.ensures.status)
    told (Appends-nil (g.O.Sink.written c.args.out.now))))
