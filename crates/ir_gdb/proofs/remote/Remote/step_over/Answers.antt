use Rattle.std.proofs.Common.{◌∙◌, ℕ, Bool, List, sym, ap, subst}
use Rattle.std.proofs.lemmas.Result.{on_ok_weaker}
use Rattle.ir_cut.specs.Positions.{last_of}
use Rattle.ir_timeline.specs.Hand.{IsCutOf}
use Rattle.ir_packet.specs.declared.reply.Reason.{Reason}
use Rattle.ir_packet.specs.declared.reply.Reason.TheVariants as reason
use Rattle.ir_gdb.specs.Stub.{Stub}
use Rattle.ir_gdb.specs.Together.{halt}
use Rattle.ir_gdb.specs.Over.{stepped_over, reason_over}
use Rattle.ir_gdb.proofs.Over.{steps_over_and_settles}
use Rattle.ir_gdb.proofs.remote.Remote.step_over.Goals as goal

pub settle-requires-2-clause-cut : goal.settle-requires-2-clause-cut
settle-requires-2-clause-cut g c κs within =
    subst (λ (x : Stub). IsCutOf x.desk.fitted c.in_ok-cut.cut) (sym c.passes_hit.ensures.stub) c.in_ok-cut.ensures.cut

pub returns-then-branch-clause-ok : goal.returns-then-branch-clause-ok
returns-then-branch-clause-ok g c =
    let s = c.args.self.now.stub in
    let t = c.args.thread in
    let here = c.in_ok-here.ensures.value ∙ ap (λ (x : Stub). x.desk.at) c.passes_hit.ensures.stub ∙ ap (λ (x : Stub). x.desk.at) c.stop_of.ensures.stub in
    let ends = ap (λ (x : List ℕ). halt t x reason.Waits) here
    ∙ sym (ap (λ (b : Bool). stepped_over b s t c.in_ok-cut.cut c.in_ok-to.to) c.if-branch.true) in
    on_ok_weaker c.settle.result
    (steps_over_and_settles s c.stop_of.new.self.stub c.passes_hit.new.self.stub c.settle.new.self.stub t c.in_ok-to.to c.in_ok-cut.cut
    c.in_ok-passes_hit.field-0 (halt t c.in_ok-here.here reason.Waits) c.stop_of.ensures.stub c.passes_hit.ensures.stub c.in_ok-to.ensures.stops
    c.in_ok-cut.ensures.comes c.in_ok-passes_hit.ensures.hit ends)
    c.settle.ensures.ok

pub returns-clause-ok : goal.returns-clause-ok
returns-clause-ok g c =
    let s = c.args.self.now.stub in
    let t = c.args.thread in
    let why = c.reason_over-reason.result in
    let last = ap (λ (x : Stub). last_of x.desk.fitted t) c.passes_hit.ensures.stub ∙ ap (λ (x : Stub). last_of x.desk.fitted t) c.stop_of.ensures.stub in
    let is = c.reason_over-reason.ensures ∙ ap (λ (n : ℕ). reason_over n c.in_ok-to.to) last in
    let ends = ap (λ (x : Reason). halt t c.in_ok-cut.cut x) is
    ∙ sym (ap (λ (b : Bool). stepped_over b s t c.in_ok-cut.cut c.in_ok-to.to) c.if-branch.false) in
    on_ok_weaker c.settle-2.result
    (steps_over_and_settles s c.stop_of.new.self.stub c.passes_hit.new.self.stub c.settle-2.new.self.stub t c.in_ok-to.to c.in_ok-cut.cut
    c.in_ok-passes_hit.field-0 (halt t c.in_ok-cut.cut why) c.stop_of.ensures.stub c.passes_hit.ensures.stub c.in_ok-to.ensures.stops
    c.in_ok-cut.ensures.comes c.in_ok-passes_hit.ensures.hit ends)
    c.settle-2.ensures.ok
