use Rattle.std.proofs.Common.{refl, inl}
use Rattle.ir_gdb.proofs.Answering.{on_ok_of_implied, on_err_if_holds}
use Rattle.ir_gdb.proofs.Lines.{question_responds}
use Rattle.ir_gdb.proofs.remote.Remote.hear.Goals as goal

pub returns-in-Some : goal.returns-in-Some
returns-in-Some g c = record {
  ok = on_ok_of_implied c.answer_question.result _ _
      (question_responds c.in-Some.asked c.asked_of.result c.args.self.now.stub c.args.line.now (g.W.Sink.written c.args.writer.now)
      (g.W.Sink.written c.answer_question.new.writer) (g.W.Sink.broken c.answer_question.new.writer) c.asked_of.ensures c.in-Some.is)
      c.answer_question.ensures.ok;
  err = on_err_if_holds c.answer_question.result _ (inl refl);
}
