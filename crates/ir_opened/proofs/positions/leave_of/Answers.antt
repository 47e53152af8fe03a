use Rattle.std.proofs.Common.{arith, sym, ap, subst}
use Rattle.std.specs.List.Sorted.{IsNonDecreasingBy}
use Rattle.ir_fit.specs.declared.leave.Leave.{Leave}
use Rattle.ir_trace.specs.Recorded.{Recorded}
use Rattle.ir_past.specs.Past.{event_at}
use Rattle.std.specs.Prelude.{◌≡◌, ◌+◌, Some}
use Rattle.ir_opened.proofs.Leaves.{entry_position_fits_64, inside_below_events, leaves_are_in_order, IsSoughtLeave, found_leave_is_of_event, event_never_left}
use Rattle.ir_opened.proofs.positions.leave_of.Goals as goal

sought : (c : goal.After-first_of) → IsSoughtLeave c.args.fitted.now c.args.place.thread c.args.place.event (c.step_of.result + 1) c.leaves-leaves.result.now
    c.count_below-start.result c.in_ok-stay.stay.object c.in_ok-stay.stay.access c.in_ok-stay.stay.version
sought c = record {
  event = c.event_of.result;
  there = subst (λ (r : Recorded). event_at r c.args.place.thread c.args.place.event ≡ Some c.event_of.result) c.trace.ensures.value c.event_of.ensures;
  behind = ap (λ k. k + 1) c.step_of.ensures;
  enters = c.in_ok-stay.ensures;
  leaves = record { leaves = c.leaves-leaves.ensures; point = c.count_below-start.ensures.point };
}

pub event_of-requires-clause-event : goal.event_of-requires-clause-event
event_of-requires-clause-event c =
    inside_below_events c.args.fitted.now c.known.ensures.run c.args.place.thread c.args.place.event c.requires c.trace.result.now c.trace.ensures.value

pub overflow_add-step_of : goal.overflow_add-step_of
overflow_add-step_of c =
    let fits = entry_position_fits_64 c.args.fitted.now c.known.ensures c.args.place.thread c.args.place.event c.requires in
    let same = c.step_of.ensures in omega (arith, fits, same)

pub count_below-start-requires : goal.count_below-start-requires
count_below-start-requires c = subst (IsNonDecreasingBy (λ (l : Leave). l.position)) (sym c.leaves-leaves.ensures)
    (leaves_are_in_order c.args.fitted.now c.known.ensures.run c.args.place.thread c.requires.thread)

pub returns-clause-found : goal.returns-clause-found
returns-clause-found c = found_leave_is_of_event c.args.fitted.now c.known.ensures.run c.args.place.thread c.args.place.event (c.step_of.result + 1)
    c.leaves-leaves.result.now c.count_below-start.result c.in_ok-stay.stay.object c.in_ok-stay.stay.access c.in_ok-stay.stay.version c.first_of.result
    c.requires.thread (sought c) c.first_of.ensures.found

pub returns-clause-none : goal.returns-clause-none
returns-clause-none c = event_never_left c.args.fitted.now c.known.ensures.run c.args.place.thread c.args.place.event (c.step_of.result + 1)
    c.leaves-leaves.result.now c.count_below-start.result c.in_ok-stay.stay.object c.in_ok-stay.stay.access c.in_ok-stay.stay.version c.first_of.result
    (sought c) c.first_of.ensures.none
