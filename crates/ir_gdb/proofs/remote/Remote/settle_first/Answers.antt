use Rattle.std.proofs.Common.{◌∙◌, List, ℕ, Option, sym, ap, subst, slice_index_or}
use Rattle.std.proofs.lemmas.Result.{on_ok_weaker}
use Rattle.ir_cut.specs.Positions.{EachRun}
use Rattle.ir_timeline.specs.Hand.{IsCutOf}
use Rattle.ir_packet.specs.declared.reply.Reason.TheVariants as reason
use Rattle.ir_gdb.specs.declared.stopped.Stopped.{Stopped}
use Rattle.ir_gdb.specs.Stub.{Stub}
use Rattle.ir_gdb.specs.Stops.{stopped}
use Rattle.ir_gdb.specs.Together.{halt, AreStops, halt_or, first_met}
use Rattle.ir_gdb.proofs.Moving.{met_stop_ignores_default, met_first_settles}
use Rattle.ir_gdb.proofs.remote.Remote.settle_first.Goals as goal

pub settle-requires-in-None-clause-cut : goal.settle-requires-in-None-clause-cut
settle-requires-in-None-clause-cut g c κs within =
    subst (λ (x : Stub). IsCutOf x.desk.fitted c.args.cut) (sym c.stops.ensures.stub) c.requires.cut

pub returns-in-Some-clause-ok : goal.returns-in-Some-clause-ok
returns-in-Some-clause-ok g c =
    let s = c.args.self.now.stub in
    let u = c.stops.new.self.stub in
    let t = c.args.thread in
    let d = c.args.direction in
    let each = c.as_slice-each.result.now in
    let own = halt t c.args.cut c.args.reason in
    let first : Stopped = slice_index_or each c.in-Some.other (stopped 0 reason.Step) in
    let h = halt c.in-Some.other c.in-Some.own first.reason in
    let same = met_stop_ignores_default s u each c.in_ok-each.each.items c.in_ok-other.field-0 c.in-Some.other c.in-Some.own (stopped 0 reason.Step) c.stops.ensures.stub
    c.as_slice-each.ensures.value c.in_ok-each.ensures.within c.in-Some.is c.in_ok-other.ensures.threads in
    let is = ap (λ (x : Stopped). halt c.in-Some.other c.in-Some.own x.reason) same in
    let stops = subst (λ (ys : List Stopped). EachRun s.desk.fitted (λ run. AreStops run s d t ys)) (sym c.as_slice-each.ensures.value) c.in_ok-each.ensures.stops in
    on_ok_weaker c.settle.result
    (met_first_settles s u c.settle.new.self.stub d t c.args.cut c.args.reason each c.in_ok-other.field-0 h c.stops.ensures.stub stops
    c.in_ok-other.ensures.met (is ∙ sym (ap (λ (x : Option (ℕ × List ℕ)). halt_or (first_met each x) own) c.in-Some.is)))
    c.settle.ensures.ok

pub returns-in-None-clause-ok : goal.returns-in-None-clause-ok
returns-in-None-clause-ok g c =
    let s = c.args.self.now.stub in
    let u = c.stops.new.self.stub in
    let t = c.args.thread in
    let d = c.args.direction in
    let each = c.as_slice-each.result.now in
    let own = halt t c.args.cut c.args.reason in
    let stops = subst (λ (ys : List Stopped). EachRun s.desk.fitted (λ run. AreStops run s d t ys)) (sym c.as_slice-each.ensures.value) c.in_ok-each.ensures.stops in
    on_ok_weaker c.settle-in-None.result
    (met_first_settles s u c.settle-in-None.new.self.stub d t c.args.cut c.args.reason each c.in_ok-other.field-0 own c.stops.ensures.stub stops
    c.in_ok-other.ensures.met (sym (ap (λ (x : Option (ℕ × List ℕ)). halt_or (first_met each x) own) c.in-None.is)))
    c.settle-in-None.ensures.ok
