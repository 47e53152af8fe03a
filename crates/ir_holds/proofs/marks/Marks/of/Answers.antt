use Rattle.std.proofs.Common.{◌∙◌, List, map, sym, ap, subst}
use Rattle.std.specs.List.Sorted.{IsPermutation}
use Rattle.ir_holds.specs.Stops.{right_height, late_height}
use Rattle.ir_holds.specs.declared.heights.Height.{Height}
use Rattle.ir_holds.specs.declared.stops.Stop.{Stop}
use Rattle.ir_holds.proofs.Noted.{EachIsNear, contained_stop_is_near, near_boxes_near_stops}
use Rattle.ir_holds.proofs.marks.Marks.of.Goals as goal

pub returns : goal.returns
returns c =
    let stops : List Stop = c.in_ok-stops.stops.items in
    let right : List Height = c.in_ok-right.right.each.items in
    let late : List Height = c.in_ok-late.late.each.items in
    record {
      stops = stops;
      are = c.in_ok-stops.ensures;
      noted = record {
        near = contained_stop_is_near stops (near_boxes_near_stops c.args.boxes.now c.args.spans.now stops c.in_ok-stops.ensures c.requires.near);
        right = c.in_ok-right.ensures.are;
        rights = subst (λ (xs : List Height). IsPermutation xs right) (c.in_ok-rights_of.ensures ∙ ap (map right_height) c.deref.ensures.value) c.in_ok-right.ensures.same;
        late = c.in_ok-late.ensures.are;
        lates = subst (λ (xs : List Height). IsPermutation xs late) (c.in_ok-lates_of.ensures ∙ ap (map late_height) c.deref-2.ensures.value) c.in_ok-late.ensures.same;
      };
    }

pub rights_of-requires : goal.rights_of-requires
rights_of-requires c = subst EachIsNear (sym c.deref.ensures.value)
    (near_boxes_near_stops c.args.boxes.now c.args.spans.now c.in_ok-stops.stops.items c.in_ok-stops.ensures c.requires.near)

pub lates_of-requires : goal.lates_of-requires
lates_of-requires c = subst EachIsNear (sym c.deref-2.ensures.value)
    (near_boxes_near_stops c.args.boxes.now c.args.spans.now c.in_ok-stops.stops.items c.in_ok-stops.ensures c.requires.near)
