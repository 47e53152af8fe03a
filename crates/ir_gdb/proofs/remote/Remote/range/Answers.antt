use Rattle.std.proofs.Common.{◌≡◌, ◌≤◌, ◌∙◌, ℕ, refl, sym, ap, subst}
use Rattle.ir_fit.specs.Fit.{HasRun}
use Rattle.ir_cut.specs.Positions.{last_of}
use Rattle.ir_gdb.specs.Stub.{Stub, stub_spoken}
use Rattle.ir_gdb.specs.Stops.{position_of, after_range}
use Rattle.ir_gdb.proofs.Nexts.{next_stop_of_spoken}
use Rattle.ir_gdb.proofs.Ranging.{after_range_between, ranges_to_next_stop, ranged_stop_within_last}
use Rattle.ir_gdb.proofs.remote.Remote.range.Goals as goal

pub next_stop-requires-clause-within : goal.next_stop-requires-clause-within
next_stop-requires-clause-within g c κs within =
    let s = c.args.self.now.stub in
    let u = c.leaves.new.self.stub in
    let t = c.args.thread in
    let same = c.leaves.ensures.stub in
    let here = c.position.ensures.within in
    let own = subst (λ (n : ℕ). n ≤ last_of s.desk.fitted t) c.position.ensures.value here in
    let is = c.after_range-end.ensures ∙ ap (λ (n : ℕ). after_range n c.in_ok-left.left) c.last-last.ensures in
    after_range_between s u t c.args.low c.args.high c.in_ok-left.left u.desk.at c.after_range-end.result same
    (subst (λ (x : Stub). HasRun x.desk.fitted) (sym same) c.has_run.ensures) (subst (λ (x : Stub). position_of x t ≤ last_of x.desk.fitted t) (sym same) own)
    c.in_ok-left.ensures.leaves refl is

pub returns-clause-stops : goal.returns-clause-stops
returns-clause-stops g c =
    let s = c.args.self.now.stub in
    let v = c.next_stop.new.self.stub in
    let t = c.args.thread in
    let w = c.args.watched in
    let left = c.in_ok-left.left in
    let e = c.after_range-end.result in
    let same : v ≡ stub_spoken s = c.next_stop.ensures.stub ∙ ap (λ (x : Stub). stub_spoken x) c.leaves.ensures.stub in
    let is = c.after_range-end.ensures ∙ ap (λ (n : ℕ). after_range n left) c.last-last.ensures in
    let finds = next_stop_of_spoken s c.leaves.new.self.stub t w e.position c.in_ok-hit.hit c.leaves.ensures.stub c.in_ok-hit.ensures.stop in
    ranges_to_next_stop s v t c.args.low c.args.high w left e c.stop_or_end.result c.in_ok-hit.hit c.halts-halts.result.watches.now
    c.halts-halts.result.breaks.now same c.in_ok-left.ensures.leaves is finds c.halts-halts.ensures.watches c.halts-halts.ensures.breaks c.stop_or_end.ensures

pub returns-clause-within : goal.returns-clause-within
returns-clause-within g c =
    let s = c.args.self.now.stub in
    let u = c.leaves.new.self.stub in
    let t = c.args.thread in
    let w = c.args.watched in
    let left = c.in_ok-left.left in
    let e = c.after_range-end.result in
    let same = c.leaves.ensures.stub in
    let own = subst (λ (n : ℕ). n ≤ last_of s.desk.fitted t) c.position.ensures.value c.position.ensures.within in
    let is = c.after_range-end.ensures ∙ ap (λ (n : ℕ). after_range n left) c.last-last.ensures in
    let between = after_range_between s u t c.args.low c.args.high left u.desk.at e same (subst (λ (x : Stub). HasRun x.desk.fitted) (sym same) c.has_run.ensures)
    (subst (λ (x : Stub). position_of x t ≤ last_of x.desk.fitted t) (sym same) own) c.in_ok-left.ensures.leaves refl is in
    let le = subst (λ (x : Stub). e.position ≤ last_of x.desk.fitted t) same between.1 in
    let finds = next_stop_of_spoken s u t w e.position c.in_ok-hit.hit same c.in_ok-hit.ensures.stop in
    ranged_stop_within_last s t w e c.stop_or_end.result c.in_ok-hit.hit c.halts-halts.result.watches.now c.halts-halts.result.breaks.now c.has_run.ensures le finds
    c.stop_or_end.ensures
