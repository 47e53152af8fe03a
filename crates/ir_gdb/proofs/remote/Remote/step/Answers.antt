use Rattle.std.proofs.Common.{◌≡◌, ◌∙◌, ◌+◌, ℕ, List, Option, sym, ap}
use Rattle.ir_cut.specs.Positions.{cut_of, last_of}
use Rattle.ir_packet.specs.declared.reply.Reason.{Reason}
use Rattle.ir_packet.specs.declared.reply.Reason.TheVariants as reason
use Rattle.ir_gdb.specs.Stub.{Stub}
use Rattle.ir_gdb.specs.Stops.{stopped, position_of, after_step}
use Rattle.ir_gdb.proofs.Stopping.{own_position_below_last, steps_to_after_step}
use Rattle.ir_gdb.proofs.remote.Remote.step.Goals as goal

pub returns-clause-stops : goal.returns-clause-stops
returns-clause-stops g c =
    let s = c.args.self.now.stub in
    let u = c.speak.new.self.stub in
    let t = c.args.thread in
    let p = cut_of c.in_ok-here.here t in
    let why = c.in_ok-reason.field-0 in
    let said = ap (λ (x : Stub). position_of x t) c.speak.ensures in
    let at : p ≡ position_of s t = ap (λ (x : List ℕ). cut_of x t) c.in_ok-here.ensures.value ∙ said in
    let here : c.position-position.result ≡ position_of s t = c.position-position.ensures.value ∙ said in
    let last : c.last.result ≡ last_of s.desk.fitted t = c.last.ensures ∙ ap (λ (x : Stub). last_of x.desk.fitted t) c.speak.ensures in
    let is = ap (λ (n : ℕ). stopped (n + 1) reason.Step) (here ∙ sym at) ∙ ap (λ (x : Option Reason). after_step p x) (sym c.in_default.is) in
    steps_to_after_step s u t p c.args.watched why (stopped (c.position-position.result + 1) reason.Step) c.speak.ensures at
    (own_position_below_last c.position-position.result c.last.result (last_of u.desk.fitted t) (position_of s t) (last_of s.desk.fitted t) c.if-position-last.false
    c.last.ensures last here c.position-position.ensures.within) c.in_ok-reason.ensures.watch is
