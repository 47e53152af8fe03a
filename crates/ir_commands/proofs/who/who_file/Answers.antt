use Rattle.std.proofs.Common.{None, Some}
use Rattle.ir_files.specs.Writers.{writer_of}
use Rattle.ir_commands.proofs.Versions.{printed_by_word, said_otherwise}
use Rattle.ir_commands.proofs.who.who_file.Goals as goal

pub returns-in-None-clause-prints : goal.returns-in-None-clause-prints
returns-in-None-clause-prints g c =
    said_otherwise (printed_by_word (g.D.Folder.bytes_at c.args.folder.now) c.args.arguments.now c.answer_of_files.result
    (writer_of (g.O.Sink.written c.args.out.now) (g.O.Sink.written c.answer_of_files.new.out) (g.O.Sink.broken c.answer_of_files.new.out))
    (writer_of (g.E.Sink.written c.args.faults.now) (g.E.Sink.written c.answer_of_files.new.faults) (g.E.Sink.broken c.answer_of_files.new.faults)) None c.in-None.is)
    c.answer_of_files.ensures.prints

pub returns-in-Some-clause-prints : goal.returns-in-Some-clause-prints
returns-in-Some-clause-prints g c =
    said_otherwise (printed_by_word (g.D.Folder.bytes_at c.args.folder.now) c.args.arguments.now c.answer_of_files-in-Some.result
    (writer_of (g.O.Sink.written c.args.out.now) (g.O.Sink.written c.answer_of_files-in-Some.new.out) (g.O.Sink.broken c.answer_of_files-in-Some.new.out))
    (writer_of (g.E.Sink.written c.args.faults.now) (g.E.Sink.written c.answer_of_files-in-Some.new.faults) (g.E.Sink.broken c.answer_of_files-in-Some.new.faults))
    (Some c.in-Some.word) c.in-Some.is) c.answer_of_files-in-Some.ensures.prints
