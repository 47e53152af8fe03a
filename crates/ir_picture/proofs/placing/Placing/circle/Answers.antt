use Rattle.std.proofs.Common.{◌≡◌, ◌<◌, inl, inr, length, sym, ap, ◌∙◌, subst, arith}
use Rattle.std.proofs.lemmas.Bool.{cases_lt}
use Rattle.ir_picture.specs.Placing.{IsOverBox, version_in}
use Rattle.ir_picture.specs.Needs.{IsCircleAt}
use Rattle.ir_picture.specs.declared.event_box.EventBox.{EventBox}
use Rattle.ir_picture.specs.declared.placed_box.PlacedBox.{PlacedBox}
use Rattle.std.specs.Prelude.{slice_get, List, Some}
use Rattle.ir_picture.proofs.Reached.{lane_of_thread, beyond_last_is_over, no_next_box_is_over}
use Rattle.ir_picture.proofs.Circles.{circle_at_lowest}
use Rattle.ir_picture.proofs.placing.Placing.circle.Goals as goal

pub returns-in-Some : goal.returns-in-Some
returns-in-Some c =
    let r = c.args.trace.now in
    let p = c.args.self.now in
    let t = c.loop-thread.thread in
    let lane = c.index-lane.result.now in
    let f = c.in-Some.ensures.found in
    let within : t < length r.threads = omega (arith, c.loop-thread-test.true, c.thread_count-thread-end.ensures) in
    let found : IsCircleAt r t f.0.events.event = circle_at_lowest r p.boxes.items p.lanes.items (version_in p.table) c.requires.coherent c.requires.stuck.placing.are
    c.requires.stuck.waits t lane f.0 (lane_of_thread r p t lane c.requires.stuck.placing within c.index-lane.ensures)
    (subst (λ (bs : List PlacedBox). slice_get bs lane.next ≡ Some f.0) c.deref.ensures.value f.1) f.3 c.loop-thread.invariant in
    subst (λ z. IsCircleAt r z c.in-Some.own.event) (sym f.3 ∙ ap (λ (x : EventBox). x.thread) f.2)
    (subst (λ (x : EventBox). IsCircleAt r t x.event) f.2 found)

pub loop-thread-preserved : goal.loop-thread-preserved
loop-thread-preserved c = λ t less.
    let r = c.args.trace.now in
    let p = c.args.self.now in
    let n = c.loop-thread.thread in
    let lane = c.index-lane.result.now in
    let within : n < length r.threads = omega (arith, c.loop-thread-test.true, c.thread_count-thread-end.ensures) in
    elim (cases_lt t n) [
      | inl old ↦ c.loop-thread.invariant t old
      | inr not ↦
          let here : n ≡ t = omega (arith, less, not) in
          subst (IsOverBox p) here (no_next_box_is_over p n lane c.deref.result.now c.deref.ensures.value
          (lane_of_thread r p n lane c.requires.stuck.placing within c.index-lane.ensures) c.in_default.ensures.none)
    ]

pub returns : goal.returns
returns c = λ t. elim (cases_lt t c.loop-thread.thread) [
  | inl less ↦ c.loop-thread.invariant t less
  | inr past ↦ beyond_last_is_over c.args.trace.now c.args.self.now t c.requires.stuck.placing
      (omega (arith, past, c.loop-thread-test.false, c.loop-thread.auto.thread-end, c.thread_count-thread-end.ensures))
]
