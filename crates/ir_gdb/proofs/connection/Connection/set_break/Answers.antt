use Rattle.std.proofs.Common.{◌∙◌, ℕ, List, ap, subst}
use Rattle.ir_packet.specs.Requests.{break_conditions}
use Rattle.ir_gdb.specs.Guards.{guarded}
use Rattle.ir_gdb.specs.Connection.{Connecting, Link, IsBreakSet}
use Rattle.ir_gdb.proofs.Answering.{connecting_seen, break_set_by_parts}
use Rattle.ir_gdb.proofs.connection.Connection.set_break.Goals as goal

pub returns-clause-link : goal.returns-clause-link
returns-clause-link c =
    let s = c.set_break.new.self.stub in
    let seen = connecting_seen c.self.view_is in
    let l : Link = record seen.link { stub = s } in
    let is = c.new.ensures ∙ ap (λ (xs : List (List ℕ)). guarded c.args.point xs) (c.in-Ok.ensures ∙ ap break_conditions c.payload.ensures) in
    subst (λ (x : Connecting). IsBreakSet x.link (guarded c.args.point (break_conditions x.reading.payload)) c.set_break.result l) c.self.view_is
    (break_set_by_parts seen.link (guarded c.args.point (break_conditions seen.reading.payload)) c.new.result s c.set_break.result is
    c.set_break.ensures.reply c.set_break.ensures.stub)
