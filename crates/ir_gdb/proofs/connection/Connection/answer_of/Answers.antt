use Rattle.std.proofs.Common.{◌≡◌, ◌∙◌, ◌++◌, List, ℕ, ap}
use Rattle.ir_packet.specs.Requests.{console_line}
use Rattle.ir_gdb.specs.Connection.{Connecting}
use Rattle.ir_gdb.proofs.Lines.{line_does_not_quit, responds_kept_text, responds_without_memory}
use Rattle.ir_gdb.proofs.connection.Connection.answer_of.Goals as goal

pub returns-clause-answer : goal.returns-clause-answer
returns-clause-answer g c =
    let line : c.put_line.new.out.items ≡ console_line c.args.self.now.reading.payload = c.put_line.ensures.line
    ∙ ap (λ (xs : List ℕ). xs ++ console_line c.payload.result.now) c.clear.ensures.items
    ∙ ap console_line (c.payload.ensures ∙ ap (λ (x : Connecting). x.reading.payload) c.self.view_is) in (
      line_does_not_quit (console_line c.args.self.now.reading.payload) c.as_slice.result.now c.quits.result c.quits.ensures
          (c.as_slice.ensures.value ∙ line) c.if-quits.false,
      (
        c.hear.new.self.stub,
        responds_kept_text c.self.inside.remote.stub c.args.self.now.link.stub c.as_slice-line.result.now
            (console_line c.args.self.now.reading.payload) c.hear.new.self.stub c.in-Ok.answered.bytes.items
            c.hear.new.writer.bytes.items (ap (λ (x : Connecting). x.link.stub) c.self.view_is) (c.as_slice-line.ensures.value ∙ line)
            c.in-Ok.ensures.bytes c.in-Ok-hear.ensures.ok,
        ap (λ (x : Connecting). record x.link { stub = c.hear.new.self.stub }) c.self.view_is,
      ),
    )

pub returns-in_default-hear-clause-answer : goal.returns-in_default-hear-clause-answer
returns-in_default-hear-clause-answer g c =
    let line : c.put_line.new.out.items ≡ console_line c.args.self.now.reading.payload = c.put_line.ensures.line
    ∙ ap (λ (xs : List ℕ). xs ++ console_line c.payload.result.now) c.clear.ensures.items
    ∙ ap console_line (c.payload.ensures ∙ ap (λ (x : Connecting). x.reading.payload) c.self.view_is) in (
      line_does_not_quit (console_line c.args.self.now.reading.payload) c.as_slice.result.now c.quits.result c.quits.ensures
          (c.as_slice.ensures.value ∙ line) c.if-quits.false,
      responds_without_memory c.args.self.now.link (record {
        stub = c.hear.new.self.stub;
        acknowledges = c.self.inside.acknowledges;
        is_owed = c.self.inside.is_owed;
        last = c.self.inside.packet.items;
      }) c.self.inside.remote.stub c.hear.new.self.stub c.as_slice-line.result.now
          (console_line c.args.self.now.reading.payload) (ap (λ (x : Connecting). x.link.stub) c.self.view_is) (c.as_slice-line.ensures.value ∙ line)
          (ap (λ (x : Connecting). record x.link { stub = c.hear.new.self.stub }) c.self.view_is) c.in_default-hear.ensures.err,
    )
