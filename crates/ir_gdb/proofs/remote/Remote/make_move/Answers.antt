use Rattle.std.proofs.Common.{◌∙◌, ℕ, List, length, sym, ap, arith}
use Rattle.std.proofs.lemmas.Result.{on_ok_weaker}
use Rattle.ir_packet.specs.declared.reply.Reply.TheVariants as reply
use Rattle.ir_gdb.proofs.Written.{reply_text_is_short}
use Rattle.ir_gdb.proofs.Moving.{replies_to_move}
use Rattle.ir_gdb.proofs.remote.Remote.make_move.Goals as goal

pub put_text-requires : goal.put_text-requires
put_text-requires g c =
    let text = ap (λ (xs : List ℕ). length xs) c.reply_text.ensures in
    let short = reply_text_is_short reply.NotPermitted in
    let room = c.requires in
    omega (arith, text, short, room)

pub returns-clause-ok : goal.returns-clause-ok
returns-clause-ok g c =
    on_ok_weaker c.carry_out.result
    (replies_to_move c.args.self.now.stub c.carry_out.new.self.stub _ c.in-Some.who c.args.motion c.args.out.now.items c.carry_out.new.out.items
    c.has_run.ensures (sym c.moving_of.ensures.value ∙ c.in-Some.is))
    c.carry_out.ensures.ok
