use Rattle.std.proofs.Common.{rules, ◌≡◌, ◌∙◌, ℕ, List, true, length, sym, ap, arith}
use Rattle.ir_packet.specs.declared.reply.Reply.TheVariants.{NotPermitted}
use Rattle.ir_gdb.specs.Serving.{Serving}
use Rattle.ir_gdb.proofs.Written.{reply_text_is_short}
use Rattle.ir_gdb.proofs.Restarting.{restart_put_at}
use Rattle.ir_gdb.proofs.remote.Remote.restart.Goals as goal

pub put_text-requires : goal.put_text-requires
put_text-requires g c =
    let text = ap (λ (xs : List ℕ). length xs) c.reply_text.ensures in
    let short = reply_text_is_short NotPermitted in
    let room = c.requires in
    omega (arith, text, short, room)

pub returns-clause-ok : goal.returns-clause-ok
returns-clause-ok g c =
    let may : c.self.inside.extended ≡ true = search rules in
    restart_put_at c.args.self.now.stub c.speak.new.self.stub c.args.number c.put_stop_here.new.self.stub c.args.out.now.items
    c.put_stop_here.new.out.items c.speak.ensures c.settle.new.self.stub c.in-Some.cut c.has_run.ensures
    (sym (ap (λ (x : Serving). x.stub.extended) c.self.view_is) ∙ may)
    (sym c.in_ok-cut.ensures.value ∙ c.in-Some.is) c.in_ok-settle.ensures.ok c.put_stop_here.ensures.stub c.put_stop_here.ensures.bytes
