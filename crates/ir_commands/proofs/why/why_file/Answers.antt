use Rattle.std.proofs.Common.{◌≡◌, refl}
use Rattle.ir_files.specs.Writers.{writer_of}
use Rattle.ir_commands.specs.Printing.{why_asked}
use Rattle.ir_commands.proofs.Asked.{why_printed_of_files}
use Rattle.ir_commands.proofs.why.why_file.Goals as goal

pub returns-clause-prints : goal.returns-clause-prints
returns-clause-prints g c =
    let new = c.answer_of_files.new in
    why_printed_of_files (g.D.Folder.bytes_at c.args.folder.now) c.args.arguments.now (record { what = why_asked c.args.arguments.now; at = c.take.result })
    c.answer_of_files.result (writer_of (g.O.Sink.written c.args.out.now) (g.O.Sink.written new.out) (g.O.Sink.broken new.out))
    (writer_of (g.E.Sink.written c.args.faults.now) (g.E.Sink.written new.faults) (g.E.Sink.broken new.faults)) (new.out ≡ c.args.out.now) refl
    c.take.ensures.value c.answer_of_files.ensures.prints
