use Rattle.std.proofs.Common.{◌≡◌, ◌≢◌, ◌∙◌, Ok, Err, ap, refl, subst, sym}
use Rattle.std.specs.Prelude.{option_map}
use Rattle.std.specs.Io.KnownBytes.{Appends}
use Rattle.std.specs.String.{string_bytes}
use Rattle.ir_files.specs.Writers.{writer_of}
use Rattle.ir_files.specs.declared.exit_status.ExitStatus.TheVariants as status
use Rattle.ir_make.specs.Converting.{elf_image_bytes, refusal_report}
use Rattle.ir_commands.specs.Files.{IsFileIn, IsTold}
use Rattle.ir_commands.proofs.Made.{elf_stops, left_alone, refused_is_not_done, refused_is_not_failed, stop_is_failure, stopped_is_not_done, told_of_made}
use Rattle.ir_commands.proofs.Stored.{stored_in_place, told_is_one}
use Rattle.ir_commands.proofs.elf.convert_file.Goals as goal

pub returns : goal.returns
returns g c =
    let at = g.D.Folder.bytes_at c.args.folder.now in
    let bytes = c.in-Some.bytes.items in
    let is_file = subst (λ p. IsFileIn (at p) bytes) c.as_str-elf.ensures.value c.in-Some.ensures.bytes in
    let told = c.told_of_file-status.ensures in
    let name = option_map (λ s. s.now) c.then_some-explained.result in
    let ran = c.elf_run-status.ensures in
    let image = c.elf_run-status.new.image in
    let written = g.E.Sink.written in
    let broken = g.E.Sink.broken in
    let first = c.args.faults.now in
    let after = c.elf_run-status.new.faults in
    let last = c.told_of_file-status.new.faults in
    let end = c.tell_own_bytes.new.faults in
    let begins : c.bytes_of.new.faults ≡ first = c.in-Some.ensures.kept ∙ c.if-is_lost.ensures.kept refl in
    let ends : (c.told_of_file-status.result ≢ status.Done) → end ≡ last = c.tell_own_bytes.ensures in
    record {
      one = told_is_one told.status ran.status;
      made = λ e. let done = ran.done (told.done e) in record {
        file = bytes;
        image = done.0;
        is_file = is_file;
        is_image = subst (λ z. elf_image_bytes z ≡ Ok done.0) c.as_slice.ensures.value done.1;
        stored_image = stored_in_place g.D.Folder.known g.D.Folder.knows g.D.Folder.was_put (λ m. m.file) c.args.folder.now c.new-file.result.folder.now
            image.folder.now (string_bytes c.args.arguments.now.image) c.new-file.result.place.now image.place.now
            c.new-file.result.made image.made done.0 c.new-file.ensures.folder (c.new-file.ensures.place ∙ c.as_str-image.ensures.value)
            ran.home c.new-file.ensures.empty (image.put (ran.whole (told.done e))) done.2;
      };
      unmade = λ e. let refused = ran.refused (told.refused e) in record {
        file = bytes;
        refusal = refused.0;
        is_file = is_file;
        is_none = subst (λ z. elf_image_bytes z ≡ Err refused.0) c.as_slice.ensures.value refused.1;
        explained = name;
        told = subst (λ f. Appends (written f) (written end) (refusal_report name refused.0)) begins
            (subst (λ f. Appends (written c.bytes_of.new.faults) (written f) (refusal_report name refused.0))
            (sym (ends (refused_is_not_done e) ∙ told.kept (refused_is_not_failed e))) refused.2);
      };
      told = λ h. let f = stop_is_failure told.status ran.status h in
          subst (λ w. IsTold (writer_of (written first) (written w) (broken w))) (sym (ends (stopped_is_not_done h)))
          (told_of_made written broken first c.bytes_of.new.faults after last begins
          (left_alone broken ran.status (λ d. (ran.done d).3) (λ x. elf_stops name c.as_slice.result.now _ (writer_of (written c.bytes_of.new.faults) (written after) (broken after)) (ran.stopped x)))
          (λ r. ap (λ w. w.failed) (ran.unwritten (ran.refused r).0 (ran.refused r).1) ∙ c.new-file.ensures.works) told.failed told.told told.stays
          ran.status f);
    }
