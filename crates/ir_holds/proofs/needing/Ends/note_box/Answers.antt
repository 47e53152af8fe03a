use Rattle.std.proofs.Common.{◌≡◌, ◌∙◌, ◌<◌, Some, List, get_or, refl, ap, sym, subst, arith}
use Rattle.std.specs.List.{slice_get}
use Rattle.std.proofs.lemmas.Option.{slice_get-get_or}
use Rattle.ir_log.specs.declared.event.Event.{Event}
use Rattle.ir_picture.specs.declared.placed_box.Point.{Point}
use Rattle.ir_holds.specs.Needing.{place_in, with_read, with_write}
use Rattle.ir_holds.proofs.Defaults.{no_box, no_event}
use Rattle.ir_holds.proofs.Needs.{ends_hold_to_first_event, ends_hold_to_next_event, ends_hold_to_next_box}
use Rattle.ir_holds.proofs.needing.Ends.note_box.Goals as goal

pub events_of-events-requires : goal.events_of-events-requires
events_of-events-requires c = (c.requires.boxes c.args.number _ (slice_get-get_or c.args.boxes.now c.args.number no_box c.requires.number)).thread

pub overflow_add-event-end : goal.overflow_add-event-end
overflow_add-event-end c =
    let box = c.requires.boxes c.args.number _ (slice_get-get_or c.args.boxes.now c.args.number no_box c.requires.number) in
    let within = box.within in
    let count = c.events_of-events.ensures.count in
    let few = c.events_of-events.ensures.few in
    omega (arith, within, count, few)

pub loop-event-init : goal.loop-event-init
loop-event-init c = record {
  made = c.requires.made;
  left = c.requires.left;
  holds = ends_hold_to_first_event c.args.trace.now c.args.boxes.now c.args.number (get_or c.args.boxes.now c.args.number no_box) c.args.self.now
      (slice_get-get_or c.args.boxes.now c.args.number no_box c.requires.number) c.requires.holds;
}

pub bounds-events-event : goal.bounds-events-event
bounds-events-event c =
    let box = c.requires.boxes c.args.number _ (slice_get-get_or c.args.boxes.now c.args.number no_box c.requires.number) in
    let within = box.within in
    let count = c.events_of-events.ensures.count in
    let below = c.loop-event-test.true in
    let end = c.loop-event.auto.event-end in
    omega (arith, within, count, below, end)

pub note-requires-clause-made : goal.note-requires-clause-made
note-requires-clause-made c = λ o is.
    let box = c.requires.boxes c.args.number _ (slice_get-get_or c.args.boxes.now c.args.number no_box c.requires.number) in
    let within = box.within in
    let count = c.events_of-events.ensures.count in
    let below = c.loop-event-test.true in
    let end = c.loop-event.auto.event-end in
    subst (λ n. o < n) (sym c.loop-event.invariant.made)
    (c.events_of-events.ensures.fits c.loop-event.event o _
    (slice_get-get_or c.events_of-events.result.now c.loop-event.event no_event (omega (arith, within, count, below, end))) is)

pub note-requires-clause-left : goal.note-requires-clause-left
note-requires-clause-left c = λ o is.
    let box = c.requires.boxes c.args.number _ (slice_get-get_or c.args.boxes.now c.args.number no_box c.requires.number) in
    let within = box.within in
    let count = c.events_of-events.ensures.count in
    let below = c.loop-event-test.true in
    let end = c.loop-event.auto.event-end in
    subst (λ n. o < n) (sym c.loop-event.invariant.left)
    (c.events_of-events.ensures.fits c.loop-event.event o _
    (slice_get-get_or c.events_of-events.result.now c.loop-event.event no_event (omega (arith, within, count, below, end))) is)

pub loop-event-preserved : goal.loop-event-preserved
loop-event-preserved c =
    let there = slice_get-get_or c.args.boxes.now c.args.number no_box c.requires.number in
    let box = c.requires.boxes c.args.number _ there in
    let within = box.within in
    let count = c.events_of-events.ensures.count in
    let below = c.loop-event-test.true in
    let from = c.loop-event.auto.event in
    let end = c.loop-event.auto.event-end in
    let what : Event = get_or c.events_of-events.result.now c.loop-event.event no_event in
    record {
      made = c.in_ok-note.ensures.made_objects ∙ c.loop-event.invariant.made;
      left = c.in_ok-note.ensures.left_objects ∙ c.loop-event.invariant.left;
      holds = ends_hold_to_next_event c.args.trace.now c.args.boxes.now c.args.number c.loop-event.event (get_or c.args.boxes.now c.args.number no_box) what c.loop-event.self
          c.note.new.self there
          (record { thread = refl; from = omega (arith, from); below = omega (arith, below, end) })
          (subst (λ (es : List Event). slice_get es c.loop-event.event ≡ Some what) c.events_of-events.ensures.events
          (slice_get-get_or c.events_of-events.result.now c.loop-event.event no_event (omega (arith, within, count, below, end))))
          (λ o v. c.in_ok-note.ensures.made o v ∙ ap (λ (p : Point). with_write what p (place_in c.loop-event.self.made) o v) c.right_of-after.ensures)
          (λ o v. c.in_ok-note.ensures.left o v ∙ ap (λ (p : Point). with_read what p (place_in c.loop-event.self.left) o v) c.right_of-after.ensures)
          c.loop-event.invariant.holds;
    }

pub returns-clause-holds : goal.returns-clause-holds
returns-clause-holds c =
    let past = c.loop-event-test.false in
    let end = c.loop-event.auto.event-end in
    ends_hold_to_next_box c.args.trace.now c.args.boxes.now c.args.number c.loop-event.event (get_or c.args.boxes.now c.args.number no_box)
    c.loop-event.self
    (slice_get-get_or c.args.boxes.now c.args.number no_box c.requires.number) (omega (arith, past, end)) c.loop-event.invariant.holds
