use Rattle.std.proofs.Common.{◌≡◌, ◌∙◌, refl, sym, ap, subst}
use Rattle.std.specs.Io.KnownBytes.{Appends}
use Rattle.std.proofs.KnownBytes.{Appends-nil}
use Rattle.ir_stream.specs.Answers.{AppendsPrefix}
use Rattle.ir_debug.specs.Debugging.{IsAnswer}
use Rattle.ir_gdb.specs.Stub.{Stub}
use Rattle.ir_gdb.specs.Serving.{Serving, debugging_of}
use Rattle.ir_gdb.specs.Connection.{RespondsInSession, with_desk}
use Rattle.ir_stream.proofs.CallerLemmas.{writes_or_fails_whole, writes_or_fails_mono}
use Rattle.ir_gdb.proofs.Lines.{responds_by_answer, no_command_no_response}
use Rattle.ir_gdb.proofs.remote.Remote.respond.Goals as goal

pub returns-in_default : goal.returns-in_default
returns-in_default g c = writes_or_fails_whole (let none = c.in_default.ensures.none in
    subst (λ (s : Stub). RespondsInSession c.args.self.now.stub c.args.line.now s (Appends (g.W.Sink.written c.args.writer.now) (g.W.Sink.written c.args.writer.now)))
    (sym (ap (λ (x : Serving). x.stub) none.1))
    (no_command_no_response c.parse_line-asked.result c.args.line.now c.args.self.now.stub
    (Appends (g.W.Sink.written c.args.writer.now) (g.W.Sink.written c.args.writer.now)) c.parse_line-asked.ensures none.0
    (Appends-nil (g.W.Sink.written c.args.writer.now)))) refl

pub returns : goal.returns
returns g c =
    let answers : IsAnswer c.parse_line-asked.result (debugging_of c.args.self.now) c.self.inside.debugger c.in-Some.answer =
    subst (λ (x : Serving). IsAnswer c.parse_line-asked.result (debugging_of c.args.self.now) (debugging_of x) c.in-Some.answer)
    (sym c.self.view_is) c.in-Some.ensures.some in
    let after : c.consult.new.self.stub ≡ with_desk c.args.self.now.stub c.self.inside.debugger.desk = c.in-Some.ensures.stub
    ∙ ap (λ (x : Serving). with_desk c.args.self.now.stub x.stub.desk) (sym c.self.view_is) in
    writes_or_fails_mono c.write_answer.result
    (λ t. responds_by_answer c.parse_line-asked.result c.args.line.now c.args.self.now.stub c.consult.new.self.stub
    (debugging_of c.args.self.now) c.self.inside.debugger c.in-Some.answer
    (Appends (g.W.Sink.written c.args.writer.now) (g.W.Sink.written c.write_answer.new.writer)) c.parse_line-asked.ensures refl after answers t)
    (λ t. responds_by_answer c.parse_line-asked.result c.args.line.now c.args.self.now.stub c.consult.new.self.stub
    (debugging_of c.args.self.now) c.self.inside.debugger c.in-Some.answer
    (AppendsPrefix (g.W.Sink.written c.args.writer.now) (g.W.Sink.written c.write_answer.new.writer)) c.parse_line-asked.ensures refl after answers t)
    c.write_answer.ensures
