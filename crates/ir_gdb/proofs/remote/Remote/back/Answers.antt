use Rattle.std.proofs.Common.{◌-◌, ◌∙◌, ℕ, Option, sym, ap}
use Rattle.ir_packet.specs.declared.reply.Reason.{Reason}
use Rattle.ir_packet.specs.declared.reply.Reason.TheVariants as reason
use Rattle.ir_gdb.specs.Stops.{stopped, position_of, after_back}
use Rattle.ir_gdb.proofs.Stopping.{positive_if_not_zero, steps_back_to_watch}
use Rattle.ir_gdb.proofs.remote.Remote.back.Goals as goal

pub returns-clause-stops : goal.returns-clause-stops
returns-clause-stops g c =
    let s = c.args.self.now.stub in
    let t = c.args.thread in
    let p = c.position-position.result in
    let here = c.position-position.ensures.value in
    let is = ap (λ (n : ℕ). stopped (n - 1) reason.Step) here ∙ ap (λ (x : Option Reason). after_back (position_of s t - 1) x) (sym c.in_default.is) in
    steps_back_to_watch s t c.args.watched c.in_ok-reason.field-0 (stopped (p - 1) reason.Step) (positive_if_not_zero p (position_of s t) c.if-position-eq0.false here)
    c.in_ok-reason.ensures.watch is
