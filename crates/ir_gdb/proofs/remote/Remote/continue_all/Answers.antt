use Rattle.std.proofs.Common.{◌≡◌, ◌∙◌, List, ℕ, Option, sym, ap, subst, slice_index_or}
use Rattle.std.proofs.lemmas.Result.{on_ok_weaker}
use Rattle.ir_cut.specs.Positions.{EachRun}
use Rattle.ir_packet.specs.declared.reply.Reason.{Reason}
use Rattle.ir_packet.specs.declared.reply.Reason.TheVariants as reason
use Rattle.ir_gdb.specs.declared.stopped.Stopped.{Stopped}
use Rattle.ir_gdb.specs.Stops.{stopped, reason_at_end}
use Rattle.ir_gdb.specs.Together.{halt, AreStops, halt_or, first_met, furthest}
use Rattle.ir_gdb.proofs.Moving.{met_stop_ignores_default, continues_among}
use Rattle.ir_gdb.proofs.remote.Remote.continue_all.Goals as goal

pub returns-in-Some-clause-ok : goal.returns-in-Some-clause-ok
returns-in-Some-clause-ok g c =
    let s = c.args.self.now.stub in
    let u = c.stops.new.self.stub in
    let t = c.args.thread in
    let d = c.args.direction in
    let each = c.as_slice-each.result.now in
    let own = halt t (furthest u d) (reason_at_end d) in
    let first : Stopped = slice_index_or each c.in-Some.other (stopped 0 reason.Step) in
    let h = halt c.in-Some.other c.in-Some.cut first.reason in
    let same = met_stop_ignores_default s u each c.in_ok-each.each.items c.in_ok-other.field-0 c.in-Some.other c.in-Some.cut (stopped 0 reason.Step) c.stops.ensures.stub
    c.as_slice-each.ensures.value c.in_ok-each.ensures.within c.in-Some.is c.in_ok-other.ensures.threads in
    let is = ap (λ (x : Stopped). halt c.in-Some.other c.in-Some.cut x.reason) same in
    let stops = subst (λ (ys : List Stopped). EachRun s.desk.fitted (λ run. AreStops run s d t ys)) (sym c.as_slice-each.ensures.value) c.in_ok-each.ensures.stops in
    on_ok_weaker c.settle.result
    (continues_among s u c.settle.new.self.stub t d each c.in_ok-other.field-0 h c.stops.ensures.stub stops c.in_ok-other.ensures.stops
    (is ∙ sym (ap (λ (x : Option (ℕ × List ℕ)). halt_or (first_met each x) own) c.in-Some.is)))
    c.settle.ensures.ok

pub returns-clause-ok : goal.returns-clause-ok
returns-clause-ok g c =
    let s = c.args.self.now.stub in
    let u = c.stops.new.self.stub in
    let t = c.args.thread in
    let d = c.args.direction in
    let each = c.as_slice-each.result.now in
    let own = halt t (furthest u d) (reason_at_end d) in
    let h = halt t c.in_ok-cut-in-None.cut c.end_of.result in
    let stops = subst (λ (ys : List Stopped). EachRun s.desk.fitted (λ run. AreStops run s d t ys)) (sym c.as_slice-each.ensures.value) c.in_ok-each.ensures.stops in
    let is : h ≡ own = ap (λ (x : List ℕ). halt t x c.end_of.result) c.in_ok-cut-in-None.ensures.value ∙ ap (λ (x : Reason). halt t (furthest u d) x) c.end_of.ensures in
    on_ok_weaker c.settle-in-None.result
    (continues_among s u c.settle-in-None.new.self.stub t d each c.in_ok-other.field-0 h c.stops.ensures.stub stops c.in_ok-other.ensures.stops
    (is ∙ sym (ap (λ (x : Option (ℕ × List ℕ)). halt_or (first_met each x) own) c.in-None.is)))
    c.settle-in-None.ensures.ok
