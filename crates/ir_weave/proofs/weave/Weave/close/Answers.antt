use Rattle.std.proofs.Common.{◌∙◌, ◌<◌, length, ap, sym, arith}
use Rattle.std.specs.Slots.{slots_items}
use Rattle.ir_object.specs.Layout.{table_length}
use Rattle.ir_weave.specs.Woven.{IsEnd}
use Rattle.ir_weave.proofs.Opening.{final_table_is_end, end_cells_count_objects, are_objects_at_zero, are_objects_step, all_objects_closed}
use Rattle.ir_weave.proofs.weave.Weave.close.Goals as goal
use Rattle.ir_weave.proofs.weave.Weave.close.Goals.{After-close_with-closed}

pub loop-o-init : goal.loop-o-init
loop-o-init c e = are_objects_at_zero c.args.self.table.shared.key c.args.seat.me.0 (slots_items c.close_with-closed.result.words) e
    c.args.objects.now c.requires.room

pub object_at-requires-clause-table : goal.object_at-requires-clause-table
object_at-requires-clause-table c =
    let e : IsEnd c.args.self.table.shared.key c.args.seat.me.0 (slots_items c.close_with-closed.result.words) =
    final_table_is_end c.args.self.table.shared.key c.args.seat.id c.args.seat.me.0 (slots_items c.close_with-closed.result.words) _
    c.close_with-closed.ensures.values.2 in
    let count = end_cells_count_objects c.args.self.table.shared.key c.args.seat.me.0 (slots_items c.close_with-closed.result.words) e in (
      c.args.self.table.shared.key,
      c.args.seat.me.0,
      e,
      (let room = c.requires.room in let l = c.loop-o-test.true in omega (arith, room, l, count)),
      c.close_with-closed.ensures.counts.0 ∙ c.args.self.words ∙ ap table_length (sym count),
    )

pub loop-o-preserved : goal.loop-o-preserved
loop-o-preserved c e =
    let inv = c.loop-o.invariant e in let size = c.loop-o.auto.objects in let l = c.loop-o-test.true in
    let inside : c.loop-o.o < length c.loop-o.objects = omega (arith, size, l) in
    are_objects_step e.cells c.loop-o.objects c.loop-o.o c.object_at.result inv inside
    (c.object_at.ensures c.args.self.table.shared.key c.args.seat.me.0 e (let s = inv.size in omega (arith, s, inside)))

pub free-requires : goal.free-requires
free-requires c k lt = let e = c.close_with-closed.ensures.counts.1 in let s = c.args.self.slots in absurd (omega (arith, e, s, lt))

pub returns : goal.returns
returns c =
    let e : IsEnd c.args.self.table.shared.key c.args.seat.me.0 (slots_items c.close_with-closed.result.words) =
    final_table_is_end c.args.self.table.shared.key c.args.seat.id c.args.seat.me.0 (slots_items c.close_with-closed.result.words) _
    c.close_with-closed.ensures.values.2 in
    all_objects_closed c.args.self.table.shared.key c.args.seat.me.0 (slots_items c.close_with-closed.result.words) e c.loop-o.objects c.loop-o.o
    (c.loop-o.invariant e) (let size = c.loop-o.auto.objects in let l = c.loop-o-test.false in omega (arith, size, l))
