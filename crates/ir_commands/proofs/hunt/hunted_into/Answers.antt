use Rattle.std.proofs.Common.{ap}
use Rattle.ir_trace.specs.Encoding.{encoding}
use Rattle.ir_commands.specs.Writing.{texts_of_paths}
use Rattle.ir_commands.proofs.Kept.{outputs_in_place}
use Rattle.ir_commands.proofs.Stored.{both_if_ok, stored_in_place}
use Rattle.ir_commands.proofs.hunt.hunted_into.Goals as goal

pub returns-clause-found : goal.returns-clause-found
returns-clause-found g c =
    let files = c.record_files-files.result in
    let after = c.hunted_in.new.files in
    both_if_ok c.hunted_in.result (λ whole run found. record {
      printed = found.printed;
      text = found.text;
      found = found.found;
      kept = (
        stored_in_place g.D.Folder.known g.D.Folder.knows g.D.Folder.was_put (λ m. m.file) c.args.around.now.folder.now files.trace.folder.now
            after.trace.folder.now c.args.places.trace.now files.trace.place.now after.trace.place.now files.trace.made after.trace.made
            (encoding run) c.record_files-files.ensures.folder c.record_files-files.ensures.place
            c.hunted_in.ensures.home c.record_files-files.ensures.empty (after.trace.put whole) found.kept.0,
        outputs_in_place g.D.Folder.known_closed g.D.Folder.knows g.D.Folder.was_put (λ o. o.thread) (λ o. o.file) c.args.around.now.folder.now
            files.outputs.folder.now after.outputs.folder.now (texts_of_paths c.args.places.outputs) (texts_of_paths files.outputs.paths)
            (texts_of_paths after.outputs.paths) files.outputs.each.items after.outputs.each.items found.printed c.record_files-files.ensures.folders
            (ap texts_of_paths c.record_files-files.ensures.paths) c.hunted_in.ensures.places c.record_files-files.ensures.none found.kept.1,
      );
      lines = found.lines;
    }) c.hunted_in.ensures.whole c.hunted_in.ensures.found
