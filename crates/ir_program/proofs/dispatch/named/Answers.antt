use Rattle.std.proofs.Common.{◌≡◌, ◌∙◌, refl, sym}
use Rattle.std.specs.Prelude.{map, option_map}
use Rattle.std.specs.String.{string_bytes}
use Rattle.ir_commands.specs.Writing.{storing}
use Rattle.ir_files.specs.Writers.{writer_of}
use Rattle.ir_names.specs.Words.{only_file}
use Rattle.ir_program.specs.declared.names_use.NamesUse.TheVariants.{Unasked, NotTaken, Named}
use Rattle.ir_program.proofs.ServedWords.{serves_request}
use Rattle.ir_program.proofs.dispatch.named.Goals as goal

pub returns-in-Unasked : goal.returns-in-Unasked
returns-in-Unasked g c =
    let folder = c.args.around.now.folder.now in
    let stored = storing g.D.Folder.known g.D.Folder.known_closed (g.D.Folder.knows folder) (g.D.Folder.was_put folder) in
    serves_request (g.D.Folder.bytes_at folder) stored c.args.split.now (map string_bytes c.others.result.now) c.parsed-asked.result Unasked
    (only_file c.args.split.now) c.serve.result (g.I.Source.left c.args.input)
    (writer_of (g.O.Sink.written c.args.out.now.sink) (g.O.Sink.written c.serve.new.out) (g.O.Sink.broken c.serve.new.out))
    (writer_of (g.E.Sink.written c.args.faults.now) (g.E.Sink.written c.serve.new.faults) (g.E.Sink.broken c.serve.new.faults))
    (c.serve.new.out ≡ c.args.out.now.sink) c.parsed-asked.ensures c.others.ensures (sym c.in-Unasked.is ∙ c.use_of.ensures) refl c.serve.ensures

pub returns-in-NotTaken : goal.returns-in-NotTaken
returns-in-NotTaken g c =
    let folder = c.args.around.now.folder.now in
    let stored = storing g.D.Folder.known g.D.Folder.known_closed (g.D.Folder.knows folder) (g.D.Folder.was_put folder) in
    serves_request (g.D.Folder.bytes_at folder) stored c.args.split.now (map string_bytes c.others.result.now) c.parsed-asked.result NotTaken
    (only_file c.args.split.now) c.told.result (g.I.Source.left c.args.input)
    (writer_of (g.O.Sink.written c.args.out.now.sink) (g.O.Sink.written c.args.out.now.sink) (g.O.Sink.broken c.args.out.now.sink))
    (writer_of (g.E.Sink.written c.args.faults.now) (g.E.Sink.written c.told.new.faults) (g.E.Sink.broken c.told.new.faults))
    (c.args.out.now.sink ≡ c.args.out.now.sink) c.parsed-asked.ensures c.others.ensures (sym c.in-NotTaken.is ∙ c.use_of.ensures) refl
    (c.told.ensures.status, refl, c.told.ensures.told)

pub returns-in-Named : goal.returns-in-Named
returns-in-Named g c =
    let folder = c.args.around.now.folder.now in
    let stored = storing g.D.Folder.known g.D.Folder.known_closed (g.D.Folder.knows folder) (g.D.Folder.was_put folder) in
    serves_request (g.D.Folder.bytes_at folder) stored c.args.split.now (map string_bytes c.others.result.now) c.parsed-asked.result (Named c.in-Named.lists)
    (option_map (λ file. file.now) c.only_file.result) c.with_names.result (g.I.Source.left c.args.input)
    (writer_of (g.O.Sink.written c.args.out.now.sink) (g.O.Sink.written c.with_names.new.out.sink) (g.O.Sink.broken c.with_names.new.out.sink))
    (writer_of (g.E.Sink.written c.args.faults.now) (g.E.Sink.written c.with_names.new.faults) (g.E.Sink.broken c.with_names.new.faults))
    (c.with_names.new.out.sink ≡ c.args.out.now.sink) c.parsed-asked.ensures c.others.ensures (sym c.in-Named.is ∙ c.use_of.ensures) c.only_file.ensures
    c.with_names.ensures
