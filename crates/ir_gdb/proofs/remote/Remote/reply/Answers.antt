use Rattle.std.proofs.Common.{◌≡◌, ◌∙◌, ◌++◌, ℕ, List, length, None, sym, ap, arith}
use Rattle.ir_gdb.specs.Stub.{Stub}
use Rattle.ir_gdb.specs.Replies.{plain_reply}
use Rattle.ir_gdb.proofs.Written.{reply_text_is_short}
use Rattle.ir_gdb.proofs.Answering.{on_ok_of_implied, on_err_of_implied}
use Rattle.ir_gdb.proofs.Replying.{reply_put_plain, after_plain_keeps_stub, reply_put_of_equal_stub, lacks_of_equal_stub}
use Rattle.ir_gdb.proofs.remote.Remote.reply.Goals as goal

pub put_text-requires : goal.put_text-requires
put_text-requires g c =
    let text = ap (λ (xs : List ℕ). length xs) c.reply_text.ensures in
    let short = reply_text_is_short c.in-Some.reply in
    let room = c.requires.room in
    omega (arith, text, short, room)

pub returns-in-Some-clause-ok : goal.returns-in-Some-clause-ok
returns-in-Some-clause-ok g c = reply_put_plain c.args.self.now.stub c.args.request c.in-Some.reply c.plain_reply.new.self.stub
    c.args.out.now.items c.put_text.new.out.items (sym c.plain_reply.ensures.reply ∙ c.in-Some.is) c.plain_reply.ensures.stub
    (c.put_text.ensures.bytes ∙ ap (λ (xs : List ℕ). c.args.out.now.items ++ xs) c.reply_text.ensures)

pub put_read-requires-clause-reads : goal.put_read-requires-clause-reads
put_read-requires-clause-reads g c κs within =
    let none : plain_reply c.args.self.now.stub c.args.request ≡ None = sym c.plain_reply.ensures.reply ∙ c.in-None.is in
    ap (λ (x : Stub). plain_reply x c.args.request)
    (c.plain_reply.ensures.stub ∙ after_plain_keeps_stub c.args.self.now.stub c.args.request none) ∙ none

pub returns-in-None-clause-ok : goal.returns-in-None-clause-ok
returns-in-None-clause-ok g c =
    let none : plain_reply c.args.self.now.stub c.args.request ≡ None = sym c.plain_reply.ensures.reply ∙ c.in-None.is in
    on_ok_of_implied c.put_read.result _ _ (reply_put_of_equal_stub c.args.self.now.stub c.plain_reply.new.self.stub c.args.request c.put_read.new.self.stub
    c.args.out.now.items c.put_read.new.out.items
    (c.plain_reply.ensures.stub ∙ after_plain_keeps_stub c.args.self.now.stub c.args.request none)) c.put_read.ensures.ok

pub returns-in-None-clause-err : goal.returns-in-None-clause-err
returns-in-None-clause-err g c =
    let none : plain_reply c.args.self.now.stub c.args.request ≡ None = sym c.plain_reply.ensures.reply ∙ c.in-None.is in
    on_err_of_implied c.put_read.result _ _ (lacks_of_equal_stub c.args.self.now.stub c.plain_reply.new.self.stub c.args.request c.put_read.new.self.stub
    c.args.out.now.items c.put_read.new.out.items
    (c.plain_reply.ensures.stub ∙ after_plain_keeps_stub c.args.self.now.stub c.args.request none)) c.put_read.ensures.err
