use Rattle.std.proofs.Common.{◌≡◌, ◌∙◌, ◌⊎◌, Ok, Err, inl, inr, refl, subst, sym, ap, arith, map, ℕ, List}
use Rattle.std.specs.Prelude.{option_map}
use Rattle.std.specs.Io.KnownBytes.{Appends}
use Rattle.std.specs.String.{string_bytes}
use Rattle.ir_files.specs.Statuses.{status_number}
use Rattle.ir_asm.specs.Passes.{labels_of}
use Rattle.ir_make.specs.Assembling.{image_bytes, masked, report}
use Rattle.ir_symbols.specs.Maps.{map_text}
use Rattle.ir_files.specs.Writers.{writer_of}
use Rattle.ir_files.specs.declared.exit_status.ExitStatus.TheVariants as status
use Rattle.ir_commands.specs.Files.{IsFileIn, IsTold}
use Rattle.ir_commands.specs.Writing.{StoresLabels, storing}
use Rattle.ir_commands.proofs.Made.{assembling_stops, err_is_not_done, left_alone, refused_is_not_failed, stop_is_failure, stopped_is_not_done, told_of_made}
use Rattle.ir_commands.proofs.Stored.{told_is_one, labels_are_one, labels_never_refused, stored_in_place}
use Rattle.ir_commands.proofs.assemble.assemble_file.Goals as goal

pub returns-in-Some-map : goal.returns-in-Some-map
returns-in-Some-map g c =
    let at = g.D.Folder.bytes_at c.args.folder.now in
    let stored = storing g.D.Folder.known g.D.Folder.known_closed (g.D.Folder.knows c.args.folder.now) (g.D.Folder.was_put c.args.folder.now) in
    let source = c.in-Some.bytes.items in
    let image = c.asm_run.new.image in
    let done = c.in-Ok.ensures.done in
    let put = c.put_labels.ensures in
    let written = g.E.Sink.written in
    let broken = g.E.Sink.broken in
    let begins = c.if-tells_failed.ensures.kept refl ∙ done.3 ∙ c.in-Some.ensures.kept ∙ c.if-loses_file.ensures.kept refl in
    record {
      one = labels_are_one put.status;
      made = λ e. let labels = put.done e in record {
        source = source;
        image = done.0;
        is_source = subst (λ p. IsFileIn (at p) source) c.as_str-source.ensures.value c.in-Some.ensures.bytes;
        is_image = subst (λ z. image_bytes z ≡ Ok done.0) c.as_slice.ensures.value done.1;
        stored_image = stored_in_place g.D.Folder.known g.D.Folder.knows g.D.Folder.was_put (λ m. m.file) c.args.folder.now c.new-file.result.folder.now
            image.folder.now (string_bytes c.args.arguments.now.image) c.new-file.result.place.now image.place.now
            c.new-file.result.made image.made done.0 c.new-file.ensures.folder (c.new-file.ensures.place ∙ c.as_str.ensures.value)
            c.in-Ok.ensures.home c.new-file.ensures.empty (image.put c.in-Ok.ensures.whole) done.2;
        stored_labels = subst (λ o. StoresLabels stored o source) (sym c.in-Some-map.is) (
          c.in-Ok.labels,
          labels.0,
          subst (λ z. labels_of (map masked z) ≡ Ok c.in-Ok.labels) c.as_slice.ensures.value c.in-Ok.ensures.labels,
          labels.1,
          subst (λ p. stored.whole p (map_text labels.0)) c.as_str-in-Some-map.ensures.value labels.2,
        );
      };
      unmade = labels_never_refused put.status;
      told = λ h. subst (λ f. IsTold (writer_of (written f) (written c.put_labels.new.faults) (broken c.put_labels.new.faults))) begins (put.told (stopped_is_not_done h));
    }

pub returns : goal.returns
returns g c =
    let at = g.D.Folder.bytes_at c.args.folder.now in
    let stored = storing g.D.Folder.known g.D.Folder.known_closed (g.D.Folder.knows c.args.folder.now) (g.D.Folder.was_put c.args.folder.now) in
    let source = c.in-Some.bytes.items in
    let image = c.asm_run.new.image in
    let done = c.in-Ok.ensures.done in
    record {
      one = inl refl;
      made = λ e. record {
        source = source;
        image = done.0;
        is_source = subst (λ p. IsFileIn (at p) source) c.as_str-source.ensures.value c.in-Some.ensures.bytes;
        is_image = subst (λ z. image_bytes z ≡ Ok done.0) c.as_slice.ensures.value done.1;
        stored_image = stored_in_place g.D.Folder.known g.D.Folder.knows g.D.Folder.was_put (λ m. m.file) c.args.folder.now c.new-file.result.folder.now
            image.folder.now (string_bytes c.args.arguments.now.image) c.new-file.result.place.now image.place.now
            c.new-file.result.made image.made done.0 c.new-file.ensures.folder (c.new-file.ensures.place ∙ c.as_str.ensures.value)
            c.in-Ok.ensures.home c.new-file.ensures.empty (image.put c.in-Ok.ensures.whole) done.2;
        stored_labels = subst (λ o. StoresLabels stored o source) (sym c.in-None.is) tt;
      };
      unmade = λ e. let bad : 0 ≡ 3 = ap status_number e in absurd (omega (arith, bad));
      told = λ h. absurd (stopped_is_not_done h refl);
    }

pub returns-in-Err : goal.returns-in-Err
returns-in-Err g c =
    let at = g.D.Folder.bytes_at c.args.folder.now in
    let source = c.in-Some.bytes.items in
    let name = option_map (λ s. s.now) c.then_some-explained.result in
    let written = g.E.Sink.written in
    let broken = g.E.Sink.broken in
    let first = c.args.faults.now in
    let begun = c.bytes_of.new.faults in
    let after = c.asm_run.new.faults in
    let last = c.told_of_file.new.faults in
    let ran = c.in-Err.ensures in
    let told = c.told_of_file.ensures in
    let begins : begun ≡ first = c.in-Some.ensures.kept ∙ c.if-loses_file.ensures.kept refl in
    let own : (c.in-Err.status ≡ status.Done) ⊎ ((c.in-Err.status ≡ status.Failed) ⊎ (c.in-Err.status ≡ status.Refused)) = inr ran.status in
    record {
      one = told_is_one told.status own;
      made = λ d. absurd (err_is_not_done ran.status (told.done d));
      unmade = λ e. let refused = ran.refused (told.refused e) in record {
        source = source;
        fault = refused.0;
        is_source = subst (λ p. IsFileIn (at p) source) c.as_str-source.ensures.value c.in-Some.ensures.bytes;
        is_none = subst (λ z. image_bytes z ≡ Err refused.0) c.as_slice.ensures.value refused.1;
        explained = name;
        told = subst (λ f. Appends (written f) (written last) (report name (map masked source) refused.0)) begins
            (subst (λ f. Appends (written begun) (written f) (report name (map masked source) refused.0)) (sym (told.kept (refused_is_not_failed e)))
            (subst (λ z. Appends (written begun) (written after) (report name (map masked z) refused.0)) c.as_slice.ensures.value refused.2));
      };
      told = λ h. told_of_made written broken first begun after last begins
          (left_alone broken own (λ d. absurd (err_is_not_done ran.status d))
          (λ x. assembling_stops name c.as_slice.result.now _ (writer_of (written begun) (written after) (broken after)) (ran.stopped x)))
          (λ r. ap (λ w. w.failed) (ran.unwritten (ran.refused r).0 (ran.refused r).1) ∙ c.new-file.ensures.works) told.failed told.told told.stays own
          (stop_is_failure told.status own h);
    }
