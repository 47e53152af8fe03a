use Rattle.ir_files.specs.Writers.{writer_of}
use Rattle.ir_commands.proofs.Asked.{stale_printed_of_files}
use Rattle.ir_commands.proofs.Versions.{said_otherwise}
use Rattle.ir_commands.proofs.stale.stale_file.Goals as goal

pub returns-clause-prints : goal.returns-clause-prints
returns-clause-prints g c =
    let arguments = c.args.arguments.now in
    said_otherwise (stale_printed_of_files (g.D.Folder.bytes_at c.args.folder.now) arguments.trace arguments.image c.answer_of_files.result
    (writer_of (g.O.Sink.written c.args.out.now) (g.O.Sink.written c.answer_of_files.new.out) (g.O.Sink.broken c.answer_of_files.new.out))
    (writer_of (g.E.Sink.written c.args.faults.now) (g.E.Sink.written c.answer_of_files.new.faults) (g.E.Sink.broken c.answer_of_files.new.faults)))
    c.answer_of_files.ensures.prints
