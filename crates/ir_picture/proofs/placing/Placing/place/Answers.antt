use Rattle.std.proofs.Common.{List, length, vec_len, refl, sym, ap, subst, arith}
use Rattle.std.proofs.lemmas.Option.{slice_get_within}
use Rattle.std.proofs.lemmas.Result.{on_ok_weaker}
use Rattle.ir_log.specs.declared.event.Event.{Event}
use Rattle.ir_past.specs.Progress.{FitsSoFar}
use Rattle.ir_picture.proofs.Reached.{lane_of_ready_thread, ready_parts_by_get_or, placing_box_is_box, free_place_within_limit}
use Rattle.ir_picture.proofs.Reached.{needed_place_within, placed_box_end_within, readers_and_box_bound, box_events_fit_objects}
use Rattle.ir_picture.proofs.Reached.{on_ok_both_imply, placing_after_placed, boxes_left_falls}
use Rattle.ir_picture.proofs.placing.Placing.place.Goals as goal

pub first_of-requires : goal.first_of-requires
first_of-requires c =
    let reads = ready_parts_by_get_or c.args.trace.now c.args.self.now c.args.ready.thread c.args.ready.needed c.index-lane.result.now c.index.result.now
    c.requires.placing c.requires.ready c.index-lane.ensures c.index.ensures in
    placing_box_is_box c.args.trace.now c.args.self.now c.requires.placing c.index-lane.result.now.next c.index.result.now reads.there

pub placed_box-placed-requires-clause-free : goal.placed_box-placed-requires-clause-free
placed_box-placed-requires-clause-free c =
    let at = lane_of_ready_thread c.args.trace.now c.args.self.now c.args.ready.thread c.args.ready.needed c.index-lane.result.now c.requires.ready c.index-lane.ensures in
    omega (arith, (free_place_within_limit c.args.trace.now c.args.self.now c.args.ready.thread c.index-lane.result.now c.requires.placing at).0)

pub placed_box-placed-requires-clause-needed : goal.placed_box-placed-requires-clause-needed
placed_box-placed-requires-clause-needed c =
    omega (arith, (needed_place_within c.args.trace.now c.args.self.now c.args.ready.thread c.args.ready.needed c.requires.placing c.requires.ready).0)

pub right_of-free-requires-clause-x : goal.right_of-free-requires-clause-x
right_of-free-requires-clause-x c =
    let at = lane_of_ready_thread c.args.trace.now c.args.self.now c.args.ready.thread c.args.ready.needed c.index-lane.result.now c.requires.ready c.index-lane.ensures in
    let free = free_place_within_limit c.args.trace.now c.args.self.now c.args.ready.thread c.index-lane.result.now c.requires.placing at in
    let needed = needed_place_within c.args.trace.now c.args.self.now c.args.ready.thread c.args.ready.needed c.requires.placing c.requires.ready in
    (placed_box_end_within c.index.result.now.events c.first_of.result c.index-lane.result.now.free c.args.ready.needed c.placed_box-placed.result
    c.placed_box-placed.ensures free.0 needed.0 free.1 needed.1).0

pub right_of-free-requires-clause-u : goal.right_of-free-requires-clause-u
right_of-free-requires-clause-u c =
    let at = lane_of_ready_thread c.args.trace.now c.args.self.now c.args.ready.thread c.args.ready.needed c.index-lane.result.now c.requires.ready c.index-lane.ensures in
    let free = free_place_within_limit c.args.trace.now c.args.self.now c.args.ready.thread c.index-lane.result.now c.requires.placing at in
    let needed = needed_place_within c.args.trace.now c.args.self.now c.args.ready.thread c.args.ready.needed c.requires.placing c.requires.ready in
    (placed_box_end_within c.index.result.now.events c.first_of.result c.index-lane.result.now.free c.args.ready.needed c.placed_box-placed.result
    c.placed_box-placed.ensures free.0 needed.0 free.1 needed.1).1

pub index_mut-requires : goal.index_mut-requires
index_mut-requires c =
    let reads = ready_parts_by_get_or c.args.trace.now c.args.self.now c.args.ready.thread c.args.ready.needed c.index-lane.result.now c.index.result.now
    c.requires.placing c.requires.ready c.index-lane.ensures c.index.ensures in
    omega (arith, slice_get_within c.args.self.now.boxes.items c.index-lane.result.now.next c.index.result.now reads.there, c.args.self.now.boxes.ok.0)

pub overflow_add-lane : goal.overflow_add-lane
overflow_add-lane c =
    let reads = ready_parts_by_get_or c.args.trace.now c.args.self.now c.args.ready.thread c.args.ready.needed c.index-lane.result.now c.index.result.now
    c.requires.placing c.requires.ready c.index-lane.ensures c.index.ensures in
    omega (
      arith,
      slice_get_within c.args.self.now.boxes.items c.index-lane.result.now.next c.index.result.now reads.there,
      c.args.self.now.boxes.ok.0,
      c.args.self.now.boxes.small,
    )

pub events_in-requires : goal.events_in-requires
events_in-requires c =
    let reads = ready_parts_by_get_or c.args.trace.now c.args.self.now c.args.ready.thread c.args.ready.needed c.index-lane.result.now c.index.result.now
    c.requires.placing c.requires.ready c.index-lane.ensures c.index.ensures in
    placing_box_is_box c.args.trace.now c.args.self.now c.requires.placing c.index-lane.result.now.next c.index.result.now reads.there

pub note_all-requires-clause-fits : goal.note_all-requires-clause-fits
note_all-requires-clause-fits c =
    let reads = ready_parts_by_get_or c.args.trace.now c.args.self.now c.args.ready.thread c.args.ready.needed c.index-lane.result.now c.index.result.now
    c.requires.placing c.requires.ready c.index-lane.ensures c.index.ensures in
    subst (λ (es : List Event). FitsSoFar es (vec_len c.args.self.now.table.objects)) (sym c.events_in.ensures)
    (box_events_fit_objects c.args.trace.now c.args.self.now c.index.result.now.events c.requires.placing
    (placing_box_is_box c.args.trace.now c.args.self.now c.requires.placing c.index-lane.result.now.next c.index.result.now reads.there))

pub note_all-requires-clause-room : goal.note_all-requires-clause-room
note_all-requires-clause-room c = λ o v.
    let reads = ready_parts_by_get_or c.args.trace.now c.args.self.now c.args.ready.thread c.args.ready.needed c.index-lane.result.now c.index.result.now
    c.requires.placing c.requires.ready c.index-lane.ensures c.index.ensures in
    omega (
      arith,
      ap (λ (es : List Event). length es) c.events_in.ensures,
      readers_and_box_bound c.args.trace.now c.args.self.now c.index.result.now.events c.requires.placing
          (placing_box_is_box c.args.trace.now c.args.self.now c.requires.placing c.index-lane.result.now.next c.index.result.now reads.there) o v,
    )

pub returns-clause-placing : goal.returns-clause-placing
returns-clause-placing c =
    let reads = ready_parts_by_get_or c.args.trace.now c.args.self.now c.args.ready.thread c.args.ready.needed c.index-lane.result.now c.index.result.now
    c.requires.placing c.requires.ready c.index-lane.ensures c.index.ensures in
    on_ok_both_imply c.note_all.result _ _ _ c.note_all.ensures.objects c.note_all.ensures.noted
    (λ objects noted. placing_after_placed c.args.trace.now c.args.self.now _ c.args.ready.thread c.args.ready.needed c.index-lane.result.now c.index.result.now
    c.placed_box-placed.result c.first_of.result c.right_of-free.result c.events_in.result.now c.requires.coherent c.requires.placing reads
    c.first_of.ensures c.placed_box-placed.ensures c.right_of-free.ensures c.events_in.ensures refl refl objects noted)

pub returns-clause-fewer : goal.returns-clause-fewer
returns-clause-fewer c =
    let reads = ready_parts_by_get_or c.args.trace.now c.args.self.now c.args.ready.thread c.args.ready.needed c.index-lane.result.now c.index.result.now
    c.requires.placing c.requires.ready c.index-lane.ensures c.index.ensures in
    on_ok_weaker c.note_all.result
    (λ objects. boxes_left_falls c.args.trace.now c.args.self.now c.args.ready.thread c.args.ready.needed c.index-lane.result.now c.index.result.now
    c.placed_box-placed.result c.right_of-free.result reads) c.note_all.ensures.objects
