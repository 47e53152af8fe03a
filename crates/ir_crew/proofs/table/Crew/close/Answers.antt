use Rattle.std.proofs.Common.{arith}
use Rattle.std.specs.Slots.{slots_items}
use Rattle.ir_crew.proofs.Ending.{final_table_is_end, final_content_32_bits}
use Rattle.ir_crew.proofs.table.Crew.close.Goals as goal

pub object-requires-clause-there : goal.object-requires-clause-there
object-requires-clause-there c = let e = c.close_with-closed.ensures.counts.0 in let w = c.args.self.words in let t = c.loop-o-test.true in
    let r = c.requires.room in omega (arith, e, w, t, r)

pub object-requires-clause-small : goal.object-requires-clause-small
object-requires-clause-small c i word lt e = let t = c.loop-o-test.true in let r = c.requires.room in
    final_content_32_bits c.args.self.table.shared.key c.args.seat.id c.args.seat.me.0 (slots_items c.close_with-closed.result.words) _
    c.close_with-closed.ensures.values.2 c.loop-o.o i word (omega (arith, t, r)) lt e

pub returns : goal.returns
returns c = let f = c.loop-o-test.false in let r = c.requires.room in
    final_table_is_end c.args.self.table.shared.key c.args.seat.id c.args.seat.me.0 (slots_items c.close_with-closed.result.words) _ c.loop-o.objects
    c.close_with-closed.ensures.values.2 (λ o lt. c.loop-o.invariant o (omega (arith, f, r, lt)))
