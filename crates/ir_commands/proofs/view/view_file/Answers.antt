use Rattle.std.proofs.Common.{◌≡◌, ◌⊎◌, subst}
use Rattle.ir_files.specs.Writers.{writer_of}
use Rattle.ir_picture.specs.Answers.{IsViewAnswer, IsViewUnanswered}
use Rattle.ir_picture.specs.declared.asked.Asked.{Asked}
use Rattle.ir_run_picture.specs.Answers.{IsRunViewAnswer, IsRunViewUnanswered}
use Rattle.ir_trace.specs.Recorded.{recorded_at}
use Rattle.ir_commands.specs.Files.{IsUnread}
use Rattle.ir_commands.specs.Printing.{LeavesUnread, PrintedIfThere, PrintsOfFiles}
use Rattle.ir_commands.proofs.view.view_file.Goals as goal

pub returns-clause-prints : goal.returns-clause-prints
returns-clause-prints g c =
    let at = g.D.Folder.bytes_at c.args.folder.now in
    let arguments = c.args.arguments.now in
    let answered = c.answer_of_files.result in
    let out = writer_of (g.O.Sink.written c.args.out.now) (g.O.Sink.written c.answer_of_files.new.out) (g.O.Sink.broken c.answer_of_files.new.out) in
    let faults = writer_of (g.E.Sink.written c.args.faults.now) (g.E.Sink.written c.answer_of_files.new.faults) (g.E.Sink.broken c.answer_of_files.new.faults) in
    subst (λ (asked : Asked). PrintsOfFiles at arguments.trace arguments.image
    (λ trace. PrintedIfThere (IsViewAnswer asked (recorded_at trace)) (IsViewUnanswered asked (recorded_at trace)))
    (λ image trace. PrintedIfThere (IsRunViewAnswer asked image trace) (IsRunViewUnanswered asked image trace)) answered out faults
    ⊎ LeavesUnread (IsUnread at arguments.image answered) (c.answer_of_files.new.out ≡ c.args.out.now) faults)
    c.picture_asked-asked.ensures c.answer_of_files.ensures.prints
