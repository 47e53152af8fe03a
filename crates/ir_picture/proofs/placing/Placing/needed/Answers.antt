use Rattle.ir_picture.proofs.Reached.{lane_of_thread, next_box_if_found, found_box_is_box, ready_after_needs, waiting_after_no_needs, no_next_box_waits}
use Rattle.ir_picture.proofs.placing.Placing.needed.Goals as goal

pub first_of-requires : goal.first_of-requires
first_of-requires c = found_box_is_box c.args.trace.now c.args.self.now c.args.thread c.index-lane.result.now.next c.deref.result.now c.in-Some.own
    c.requires.placing c.deref.ensures.value c.in-Some.ensures.found

pub returns-in-None-clause-waits : goal.returns-in-None-clause-waits
returns-in-None-clause-waits c = no_next_box_waits c.args.trace.now c.args.self.now c.args.thread c.index-lane.result.now c.deref.result.now
    c.deref.ensures.value
    (lane_of_thread c.args.trace.now c.args.self.now c.args.thread c.index-lane.result.now c.requires.placing c.requires.thread c.index-lane.ensures)
    c.in-None.ensures.none

pub returns-in-Some-clause-ready : goal.returns-in-Some-clause-ready
returns-in-Some-clause-ready c =
    let at = lane_of_thread c.args.trace.now c.args.self.now c.args.thread c.index-lane.result.now c.requires.placing c.requires.thread c.index-lane.ensures in
    ready_after_needs c.args.trace.now c.args.self.now c.args.thread c.index-lane.result.now c.first_of.result c.place_after_needs.result
    (next_box_if_found c.args.trace.now c.args.self.now c.args.thread c.index-lane.result.now c.deref.result.now c.in-Some.own c.first_of.result
    c.deref.ensures.value at c.in-Some.ensures.found c.first_of.ensures) c.place_after_needs.ensures

pub returns-in-Some-clause-waits : goal.returns-in-Some-clause-waits
returns-in-Some-clause-waits c =
    let at = lane_of_thread c.args.trace.now c.args.self.now c.args.thread c.index-lane.result.now c.requires.placing c.requires.thread c.index-lane.ensures in
    waiting_after_no_needs c.args.trace.now c.args.self.now c.args.thread c.index-lane.result.now c.first_of.result c.place_after_needs.result
    (next_box_if_found c.args.trace.now c.args.self.now c.args.thread c.index-lane.result.now c.deref.result.now c.in-Some.own c.first_of.result
    c.deref.ensures.value at c.in-Some.ensures.found c.first_of.ensures) c.place_after_needs.ensures
