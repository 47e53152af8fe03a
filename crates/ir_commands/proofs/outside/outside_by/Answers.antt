use Rattle.std.proofs.Common.{◌≡◌, false, inl, inr, ◌∙◌, List, ℕ, ap, refl, subst, sym}
use Rattle.std.proofs.lemmas.Result.{IfErr-weaker, err_from_is_err_and}
use Rattle.ir_files.specs.Writers.{writer_of}
use Rattle.ir_within.specs.Faults.{Comparison}
use Rattle.ir_within.specs.Plans.{comparison_of}
use Rattle.ir_commands.specs.Exploring.{AsksComparison}
use Rattle.ir_files.proofs.CallerLemmas.{if_err_handed_on}
use Rattle.ir_commands.specs.Files.{TellsFault}
use Rattle.std.proofs.KnownBytes.{Appends-nil}
use Rattle.ir_commands.specs.Writing.{storing}
use Rattle.ir_commands.proofs.Kept.{kept_as_asked, output_paths_as_asked, run_kept}
use Rattle.ir_commands.proofs.Outsides.{comparison_asked, no_comparison_for_lack, no_comparison_no_recording, outside_misses}
use Rattle.ir_commands.proofs.Printed.{nothing_searched}
use Rattle.ir_commands.proofs.Refused.{refused_since}
use Rattle.ir_commands.proofs.Searched.{ok_gives}
use Rattle.ir_commands.proofs.outside.outside_by.Goals as goal

pub returns-clause-found : goal.returns-clause-found
returns-clause-found g c =
    let folder = c.args.around.now.folder.now in
    let at = g.D.Folder.bytes_at folder in
    let stored = storing g.D.Folder.known g.D.Folder.known_closed (g.D.Folder.knows folder) (g.D.Folder.was_put folder) in
    let within = c.args.arguments.now.within in
    let comparison : Comparison = comparison_of c.in_ok-plan.plan in
    let asked : AsksComparison at within comparison = comparison_asked c.in_ok-plan.ensures.plan c.both_images-both.ensures.0 c.in_ok-files.ensures.image
    c.both_images-both.ensures.1 c.in_ok-files.ensures.other c.as_slice-input.ensures.value c.in_ok-files.ensures.input in
    let out = writer_of (g.O.Sink.written c.args.out.now) (g.O.Sink.written c.recorded_into.new.out) (g.O.Sink.broken c.recorded_into.new.out) in
    let outs = output_paths_as_asked (λ v. v.items) c.paths-paths.result.output c.new-places.result.outputs c.in_ok-outputs.outputs c.paths-paths.ensures.output
    c.new-places.ensures.outputs c.in_ok-outputs.ensures.paths in
    ok_gives c.recorded_into.result (λ recorded found. record {
      comparison = comparison;
      recorded = recorded;
      asked = asked;
      found = run_kept (kept_as_asked stored _ _ (c.new-places.ensures.trace ∙ c.paths-paths.ensures.trace) outs) found;
    }) c.recorded_into.ensures.found

pub returns-clause-none : goal.returns-clause-none
returns-clause-none g c =
    let at = g.D.Folder.bytes_at c.args.around.now.folder.now in
    let within = c.args.arguments.now.within in
    let comparison : Comparison = comparison_of c.in_ok-plan.plan in
    let asked : AsksComparison at within comparison = comparison_asked c.in_ok-plan.ensures.plan c.both_images-both.ensures.0 c.in_ok-files.ensures.image
    c.both_images-both.ensures.1 c.in_ok-files.ensures.other c.as_slice-input.ensures.value c.in_ok-files.ensures.input in
    let out = writer_of (g.O.Sink.written c.args.out.now) (g.O.Sink.written c.recorded_into.new.out) (g.O.Sink.broken c.recorded_into.new.out) in
    let kept = c.in_ok-outputs.ensures.kept ∙ c.in_ok-plan.ensures.kept ∙ c.in_ok-files.ensures.kept ∙ c.if-loses_input.ensures.kept refl in
    IfErr-weaker c.recorded_into.result _ _ (λ answered h. outside_misses answered out asked (ap
    (λ f. writer_of (g.E.Sink.written f) (g.E.Sink.written c.recorded_into.new.faults) (g.E.Sink.broken c.recorded_into.new.faults)) kept) h) c.recorded_into.ensures.none

pub returns-in_err-files-clause-none : goal.returns-in_err-files-clause-none
returns-in_err-files-clause-none g c =
    let p = err_from_is_err_and c.from_residual.result c.from_residual.ensures.1 in
    let kept = c.if-loses_input.ensures.kept refl in
    let reports = writer_of (g.E.Sink.written c.args.faults.now) (g.E.Sink.written c.compared_files.new.faults) (g.E.Sink.broken c.compared_files.new.faults) in
    let told : TellsFault reports = subst (λ f. TellsFault (writer_of (g.E.Sink.written f) (g.E.Sink.written c.compared_files.new.faults)
    (g.E.Sink.broken c.compared_files.new.faults))) kept
    (c.in_err-files.ensures.told (subst (λ f. g.E.Sink.broken f ≡ false) (sym kept) c.requires.reports)) in
    if_err_handed_on _ c.from_residual.result c.in_err-files.field-0.0 p.0 p.1 p.2
    (inr (nothing_searched (no_comparison_no_recording (g.D.Folder.bytes_at c.args.around.now.folder.now) c.args.arguments.now.within c.in_err-files.ensures.status)
    told (Appends-nil (g.O.Sink.written c.args.out.now))))

pub returns-in_err-outputs-clause-none : goal.returns-in_err-outputs-clause-none
returns-in_err-outputs-clause-none g c =
    let p = err_from_is_err_and c.from_residual-in_err-outputs.result c.from_residual-in_err-outputs.ensures.1 in
    let kept = c.in_ok-plan.ensures.kept ∙ c.in_ok-files.ensures.kept ∙ c.if-loses_input.ensures.kept refl in
    let told : TellsFault (writer_of (g.E.Sink.written c.args.faults.now) (g.E.Sink.written c.output_places.new.faults) (g.E.Sink.broken c.output_places.new.faults)) =
    subst (λ f. TellsFault (writer_of (g.E.Sink.written f) (g.E.Sink.written c.output_places.new.faults) (g.E.Sink.broken c.output_places.new.faults))) kept
    (c.in_err-outputs.ensures.told (subst (λ f. g.E.Sink.broken f ≡ false) (sym kept) c.requires.reports)) in
    if_err_handed_on _ c.from_residual-in_err-outputs.result c.in_err-outputs.field-0.0 p.0 p.1 p.2
    (inr (nothing_searched (refused_since (λ never. absurd never) c.in_err-outputs.ensures.status) told (Appends-nil (g.O.Sink.written c.args.out.now))))

pub returns-in_err-plan-clause-none : goal.returns-in_err-plan-clause-none
returns-in_err-plan-clause-none g c =
    let p = err_from_is_err_and c.from_residual-in_err-plan.result c.from_residual-in_err-plan.ensures.1 in
    let new = c.comparison_plan.new.faults in
    let within = c.args.arguments.now.within in
    let kept = c.in_ok-files.ensures.kept ∙ c.if-loses_input.ensures.kept refl in
    let told : TellsFault (writer_of (g.E.Sink.written c.args.faults.now) (g.E.Sink.written new) (g.E.Sink.broken new)) =
    subst (λ f. TellsFault (writer_of (g.E.Sink.written f) (g.E.Sink.written new) (g.E.Sink.broken new))) kept
    (c.in_err-plan.ensures.told (subst (λ f. g.E.Sink.broken f ≡ false) (sym kept) c.requires.reports)) in
    if_err_handed_on _ c.from_residual-in_err-plan.result c.in_err-plan.field-0.0 p.0 p.1 p.2
    (inr (nothing_searched (no_comparison_no_recording (g.D.Folder.bytes_at c.args.around.now.folder.now) within
    (no_comparison_for_lack (g.D.Folder.bytes_at c.args.around.now.folder.now) within c.in_ok-files.ensures.image c.in_ok-files.ensures.other
    c.both_images-both.ensures.0 c.both_images-both.ensures.1 c.in_err-plan.ensures.lacks)) told (Appends-nil (g.O.Sink.written c.args.out.now))))
