use Rattle.std.proofs.Common.{◌≡◌, ◌∙◌, ℕ, List, Option, Some, ap, inl, inr, refl, subst, sym}
use Rattle.std.specs.Borrow.{Bor}
use Rattle.std.specs.Prelude.{option_map}
use Rattle.ir_commands.specs.Files.{TellsFault}
use Rattle.ir_commands.specs.Writing.{storing}
use Rattle.ir_files.specs.Writers.{writer_of}
use Rattle.ir_files.specs.declared.exit_status.ExitStatus.TheVariants as exit
use Rattle.ir_names.specs.Lines.{IsNamesFault, names_at}
use Rattle.ir_names.specs.Taken.{known_plain}
use Rattle.ir_program.specs.Doing.{Does}
use Rattle.ir_program.specs.Named.{DoesByFile, PutsNames}
use Rattle.ir_program.proofs.NamedOutput.{named_request_weaker}
use Rattle.ir_program.proofs.ServedWords.{lacks_names, puts_from_start, tells_one_file}
use Rattle.ir_program.proofs.dispatch.with_names.Goals as goal

pub returns-in_default : goal.returns-in_default
returns-in_default g c =
    let folder = c.args.around.now.folder.now in
    let stored = storing g.D.Folder.known g.D.Folder.known_closed (g.D.Folder.knows folder) (g.D.Folder.was_put folder) in
    tells_one_file c.args.request.file (λ file. file.now) (g.D.Folder.bytes_at folder) stored c.args.request.lists c.args.asked.now c.told.result
    (g.I.Source.left c.args.input)
    (writer_of (g.O.Sink.written c.args.out.now.sink) (g.O.Sink.written c.args.out.now.sink) (g.O.Sink.broken c.args.out.now.sink))
    (writer_of (g.E.Sink.written c.args.faults.now) (g.E.Sink.written c.told.new.faults) (g.E.Sink.broken c.told.new.faults))
    (c.args.out.now.sink ≡ c.args.out.now.sink) c.in_default.not-Some (c.told.ensures.status, refl, c.told.ensures.told)

pub returns-in-Err : goal.returns-in-Err
returns-in-Err g c =
    let folder = c.args.around.now.folder.now in
    let at = g.D.Folder.bytes_at folder in
    let stored = storing g.D.Folder.known g.D.Folder.known_closed (g.D.Folder.knows folder) (g.D.Folder.was_put folder) in
    let out = writer_of (g.O.Sink.written c.args.out.now.sink) (g.O.Sink.written c.args.out.now.sink) (g.O.Sink.broken c.args.out.now.sink) in
    let faults = writer_of (g.E.Sink.written c.args.faults.now) (g.E.Sink.written c.names_refused.new.faults) (g.E.Sink.broken c.names_refused.new.faults) in
    subst (λ (file : Option (Bor (List ℕ))). DoesByFile at stored (option_map (λ path. path.now) file) c.args.request.lists c.args.asked.now c.names_refused.result
    (g.I.Source.left c.args.input) out faults (c.args.out.now.sink ≡ c.args.out.now.sink)) (sym c.in-Some.is)
    (inl (lacks_names (at c.in-Some.path.now) c.in-Some-bytes_of.bytes.items c.in-Err.why c.names_refused.result faults (c.args.out.now.sink ≡ c.args.out.now.sink)
    c.in-Some-bytes_of.ensures.bytes (subst (λ b. IsNamesFault c.in-Err.why (names_at b)) c.as_slice.ensures.value c.in-Err.ensures.faulty)
    c.names_refused.ensures.status refl
    (subst (λ f. TellsFault (writer_of (g.E.Sink.written f) (g.E.Sink.written c.names_refused.new.faults) (g.E.Sink.broken c.names_refused.new.faults)))
    c.in-Some-bytes_of.ensures.kept c.names_refused.ensures.told)))

pub returns : goal.returns
returns g c =
    let folder = c.args.around.now.folder.now in
    let at = g.D.Folder.bytes_at folder in
    let stored = storing g.D.Folder.known g.D.Folder.known_closed (g.D.Folder.knows folder) (g.D.Folder.was_put folder) in
    let lists = c.args.request.lists in
    let what = c.args.asked.now in
    let answered = c.serve-status.result in
    let input = g.I.Source.left c.args.input in
    let begun = c.begin.new.self in
    let ended = c.serve-status.new.out in
    let told_to = c.serve-status.new.faults in
    let names = c.in-Ok.names in
    let same = c.args.out.now.sink in
    let out = writer_of (g.O.Sink.written same) (g.O.Sink.written ended.sink) (g.O.Sink.broken ended.sink) in
    let faults = writer_of (g.E.Sink.written c.args.faults.now) (g.E.Sink.written c.explain.new.faults) (g.E.Sink.broken c.explain.new.faults) in
    let plain = writer_of (known_plain begun.names begun.reached (g.O.Sink.broken begun.sink) (g.O.Sink.written begun.sink))
    (known_plain ended.names ended.reached (g.O.Sink.broken ended.sink) (g.O.Sink.written ended.sink)) (g.O.Sink.broken ended.sink) in
    let told = writer_of (g.E.Sink.written c.args.faults.now) (g.E.Sink.written told_to) (g.E.Sink.broken told_to) in
    subst (λ (file : Option (Bor (List ℕ))). DoesByFile at stored (option_map (λ path. path.now) file) lists what answered input out faults (ended.sink ≡ same)) (sym c.in-Some.is)
    (inr (record {
      file = c.in-Some-bytes_of.bytes.items;
      is_file = c.in-Some-bytes_of.ensures.bytes;
      names = names;
      are_names = ap names_at (sym c.as_slice.ensures.value) ∙ c.in-Ok.ensures.read;
      plain = plain;
      told = told;
      done = named_request_weaker at stored lists what answered input plain told c.requires.takes (λ kept. ap (λ n. n.sink) kept ∙ c.begin.ensures.sink)
          (subst (λ f. Does at stored what answered input plain (writer_of (g.E.Sink.written f) (g.E.Sink.written told_to) (g.E.Sink.broken told_to)) (ended ≡ begun))
          c.in-Some-bytes_of.ensures.kept c.serve-status.ensures);
      puts = subst (λ s. PutsNames names lists plain (writer_of (g.O.Sink.written s) (g.O.Sink.written ended.sink) (g.O.Sink.broken ended.sink)))
          c.begin.ensures.sink (puts_from_start names begun.names ended.names lists (g.O.Sink.broken begun.sink) (g.O.Sink.broken ended.sink) begun.reached
          ended.reached (g.O.Sink.written begun.sink) (g.O.Sink.written ended.sink) c.begin.ensures.names c.begin.ensures.reached);
      explained = record {
        begins = refl;
        goes_on = c.explain.ensures.grows;
        no_more = λ other. ap (λ f. writer_of (g.E.Sink.written c.args.faults.now) (g.E.Sink.written f) (g.E.Sink.broken f)) (sym (c.explain.ensures.kept other));
        broken = λ failed. ap (λ f. writer_of (g.E.Sink.written c.args.faults.now) (g.E.Sink.written f) (g.E.Sink.broken f)) (sym (c.explain.ensures.broken failed));
      };
    }))
