use Rattle.std.proofs.Common.{◌≡◌, ◌≤◌, ◌∙◌, ℕ, List, sym, ap, subst, arith}
use Rattle.std.proofs.lemmas.Result.{IfOk-weaker}
use Rattle.ir_cut.specs.Positions.{EachRun, cut_of, last_of}
use Rattle.ir_command.specs.declared.command.Direction.TheVariants.{Backwards}
use Rattle.ir_debug.specs.Machine.{StopsAt}
use Rattle.ir_timeline.specs.Hand.{IsCutOf}
use Rattle.ir_gdb.specs.Stub.{Stub, stub_spoken}
use Rattle.ir_gdb.specs.Stops.{position_of}
use Rattle.ir_gdb.proofs.Nexts.{stop_at_of_spoken}
use Rattle.ir_gdb.proofs.Previous.{back_at_start, comes_back_further, back_to_spoken, last_from_to_position, last_stop_in_stretch, none_in_stretch, last_stop_at_start}
use Rattle.ir_gdb.proofs.remote.Remote.last_stop_under.Goals as goal

pub cut_down-requires-clause-within : goal.cut_down-requires-clause-within
cut_down-requires-clause-within g c =
    let t = c.args.thread in
    let at = ap (λ (x : List ℕ). cut_of x t) (c.in_ok-here.ensures.value ∙ ap (λ (x : Stub). x.desk.at) c.speak.ensures) in
    let less = c.requires.within in
    omega (arith, at, less)

pub stretches-init : goal.stretches-init
stretches-init g c =
    let s = c.args.self.now.stub in
    record {
      stub = c.speak.ensures;
      cut = c.in_ok-top.ensures.cut;
      there = c.in_ok-top.ensures.there;
      within = c.requires.within;
      comes = back_at_start s c.speak.new.self.stub c.args.thread c.args.under c.in_ok-here.here c.in_ok-top.top c.speak.ensures c.in_ok-here.ensures.value
          c.in_ok-top.ensures.greatest;
      none = c.requires.none;
    }

pub last_stop_from-requires-clause-within : goal.last_stop_from-requires-clause-within
last_stop_from-requires-clause-within g c κs within =
    let less = c.stretch_start-low.ensures in
    let there = c.stretches.invariant.there in
    omega (arith, less, there)

pub last_stop_from-requires-clause-last : goal.last_stop_from-requires-clause-last
last_stop_from-requires-clause-last g c κs within =
    let t = c.args.thread in
    let is = c.stretches.invariant in
    let there = is.there in
    let high = is.within in
    let here = c.position.ensures.value ∙ ap (λ (x : Stub). position_of x t) c.speak.ensures in
    let last = ap (λ (x : Stub). last_of x.desk.fitted t) c.speak.ensures in
    let end = ap (λ (x : Stub). last_of x.desk.fitted t) is.stub in
    let low = c.position.ensures.within in
    omega (arith, there, high, here, last, end, low)

pub last_stop_from-requires-clause-comes : goal.last_stop_from-requires-clause-comes
last_stop_from-requires-clause-comes g c κs within =
    let s = c.args.self.now.stub in
    let t = c.args.thread in
    let is = c.stretches.invariant in
    back_to_spoken s c.stretches.self.stub t (cut_of c.stretches.top t) c.stretches.top is.stub
    (subst (λ (n : ℕ). EachRun s.desk.fitted (λ run. StopsAt run s.desk.fitted s.desk.at t Backwards n c.stretches.top)) (sym is.there) is.comes)

pub returns-in-Some-clause-stop : goal.returns-in-Some-clause-stop
returns-in-Some-clause-stop g c =
    let s = c.args.self.now.stub in
    let t = c.args.thread in
    let w = c.args.watched in
    let is = c.stretches.invariant in
    last_stop_in_stretch s t c.stretch_start-low.result c.stretches.to w c.in_ok-stop.stop c.in-Some.stop c.in-Some.is is.within
    (last_from_to_position s c.stretches.self.stub t w _ c.stretches.to c.stretches.top c.in_ok-stop.stop is.stub is.there c.in_ok-stop.ensures.stop) is.none

pub cut_down-requires-in-stretches-clause-from : goal.cut_down-requires-in-stretches-clause-from
cut_down-requires-in-stretches-clause-from g c =
    subst (λ (x : Stub). IsCutOf x.desk.fitted c.stretches.top) (sym c.last_stop_from.ensures.stub) c.stretches.invariant.cut

pub cut_down-requires-in-stretches-clause-within : goal.cut_down-requires-in-stretches-clause-within
cut_down-requires-in-stretches-clause-within g c =
    let less = c.stretch_start-low.ensures in
    let there = c.stretches.invariant.there in
    omega (arith, less, there)

pub stretches-preserved : goal.stretches-preserved
stretches-preserved g c =
    let s = c.args.self.now.stub in
    let t = c.args.thread in
    let w = c.args.watched in
    let is = c.stretches.invariant in
    let low = c.stretch_start-low.result in
    let less = c.stretch_start-low.ensures in
    let high = is.within in
    let same = c.last_stop_from.ensures.stub ∙ ap (λ (x : Stub). stub_spoken x) is.stub in
    record {
      stub = same;
      cut = c.in_ok-top-2.ensures.cut;
      there = c.in_ok-top-2.ensures.there;
      within = omega (arith, less, high);
      comes = comes_back_further s c.last_stop_from.new.self.stub t c.stretches.to low c.stretches.top c.in_ok-top-2.top same (omega (arith, less)) is.comes
          c.in_ok-top-2.ensures.greatest;
      none = none_in_stretch s t low c.stretches.to w c.in_ok-stop.stop c.in_default.is is.within
          (last_from_to_position s c.stretches.self.stub t w _ c.stretches.to c.stretches.top c.in_ok-stop.stop is.stub is.there c.in_ok-stop.ensures.stop) is.none;
    }

pub stop_at_start-requires-clause-there : goal.stop_at_start-requires-clause-there
stop_at_start-requires-clause-there g c κs within =
    let test = c.stretches-test.false in
    let past : c.stretches.to ≤ 0 = grind (arith, test) in
    let there = c.stretches.invariant.there in
    omega (arith, past, there)

pub stop_at_start-requires-clause-steps : goal.stop_at_start-requires-clause-steps
stop_at_start-requires-clause-steps g c κs within =
    let s = c.args.self.now.stub in
    let t = c.args.thread in
    let is = c.stretches.invariant in
    let some = is.within in
    let here = c.position.ensures.value ∙ ap (λ (x : Stub). position_of x t) c.speak.ensures in
    let last = ap (λ (x : Stub). last_of x.desk.fitted t) c.speak.ensures in
    let end = ap (λ (x : Stub). last_of x.desk.fitted t) is.stub in
    let low = c.position.ensures.within in
    omega (arith, some, here, last, end, low)

pub stop_at_start-requires-clause-comes : goal.stop_at_start-requires-clause-comes
stop_at_start-requires-clause-comes g c κs within =
    let s = c.args.self.now.stub in
    let t = c.args.thread in
    let is = c.stretches.invariant in
    let test = c.stretches-test.false in
    let past : c.stretches.to ≤ 0 = grind (arith, test) in
    let zero : c.stretches.to ≡ 0 = omega (arith, past) in
    back_to_spoken s c.stretches.self.stub t 0 c.stretches.top is.stub
    (subst (λ (n : ℕ). EachRun s.desk.fitted (λ run. StopsAt run s.desk.fitted s.desk.at t Backwards n c.stretches.top)) zero is.comes)

pub returns-clause-stop : goal.returns-clause-stop
returns-clause-stop g c =
    let s = c.args.self.now.stub in
    let t = c.args.thread in
    let w = c.args.watched in
    let is = c.stretches.invariant in
    let test = c.stretches-test.false in
    let past : c.stretches.to ≤ 0 = grind (arith, test) in
    let high = is.within in
    IfOk-weaker c.stop_at_start.result _ _
    (λ stop at. last_stop_at_start s t c.stretches.to w stop past (omega (arith, high)) is.none
    (stop_at_of_spoken s c.stretches.self.stub Backwards t w 0 stop is.stub at)) c.stop_at_start.ensures.stop
