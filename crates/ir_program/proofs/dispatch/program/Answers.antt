use Rattle.std.proofs.Common.{◌≡◌, refl}
use Rattle.std.specs.Prelude.{map}
use Rattle.std.specs.String.{string_bytes}
use Rattle.ir_commands.specs.Writing.{storing}
use Rattle.ir_files.specs.Writers.{writer_of}
use Rattle.ir_names.specs.Words.{split_words, wants_names}
use Rattle.ir_program.proofs.ServedWords.{serves_named, serves_plain, serves_without_memory}
use Rattle.ir_program.proofs.dispatch.program.Goals as goal

pub returns-in_default : goal.returns-in_default
returns-in_default g c =
    let folder = c.args.around.folder.now in
    let stored = storing g.D.Folder.known g.D.Folder.known_closed (g.D.Folder.knows folder) (g.D.Folder.was_put folder) in
    let words = map string_bytes c.args.invocation.now.arguments.now in
    serves_without_memory (wants_names (split_words words)) (g.D.Folder.bytes_at folder) stored words c.told.result (g.I.Source.left c.args.input)
    (writer_of (g.O.Sink.written c.args.out.now.sink) (g.O.Sink.written c.args.out.now.sink) (g.O.Sink.broken c.args.out.now.sink))
    (writer_of (g.E.Sink.written c.args.faults.now) (g.E.Sink.written c.told.new.faults) (g.E.Sink.broken c.told.new.faults))
    (c.args.out.now.sink ≡ c.args.out.now.sink) (c.told.ensures.status, refl, c.told.ensures.told)

pub returns-then-wants_names : goal.returns-then-wants_names
returns-then-wants_names g c =
    let folder = c.args.around.folder.now in
    let stored = storing g.D.Folder.known g.D.Folder.known_closed (g.D.Folder.knows folder) (g.D.Folder.was_put folder) in
    serves_named (g.D.Folder.bytes_at folder) stored (map string_bytes c.args.invocation.now.arguments.now) c.in-Ok.split c.wants_names.result c.named.result
    (g.I.Source.left c.args.input)
    (writer_of (g.O.Sink.written c.args.out.now.sink) (g.O.Sink.written c.named.new.out.sink) (g.O.Sink.broken c.named.new.out.sink))
    (writer_of (g.E.Sink.written c.args.faults.now) (g.E.Sink.written c.named.new.faults) (g.E.Sink.broken c.named.new.faults))
    (c.named.new.out.sink ≡ c.args.out.now.sink) c.in-Ok.ensures c.wants_names.ensures c.if-wants_names.true c.named.ensures

pub returns : goal.returns
returns g c =
    let folder = c.args.around.folder.now in
    let stored = storing g.D.Folder.known g.D.Folder.known_closed (g.D.Folder.knows folder) (g.D.Folder.was_put folder) in
    serves_plain (g.D.Folder.bytes_at folder) stored (map string_bytes c.args.invocation.now.arguments.now) c.in-Ok.split c.wants_names.result c.plain.result
    (g.I.Source.left c.args.input)
    (writer_of (g.O.Sink.written c.args.out.now.sink) (g.O.Sink.written c.plain.new.out) (g.O.Sink.broken c.plain.new.out))
    (writer_of (g.E.Sink.written c.args.faults.now) (g.E.Sink.written c.plain.new.faults) (g.E.Sink.broken c.plain.new.faults))
    (c.plain.new.out ≡ c.args.out.now.sink) c.in-Ok.ensures c.wants_names.ensures c.if-wants_names.false c.plain.ensures
