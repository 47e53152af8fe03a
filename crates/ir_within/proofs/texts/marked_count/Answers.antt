use Rattle.std.proofs.Common.{false, arith}
use Rattle.ir_within.proofs.Marks.{marked_count_more, marked_count_of_marked, marked_count_of_unmarked}
use Rattle.ir_within.proofs.texts.marked_count.Goals as goal
use Rattle.ir_within.proofs.texts.marked_count.Goals.{then-is_outside, else-is_outside}

pub loop-is_outside-preserved : goal.loop-is_outside-preserved
loop-is_outside-preserved c = elim c.if-is_outside.branch [
  | then-is_outside w ↦
      let tally = c.loop-is_outside.invariant.tally in
      let few = c.loop-is_outside.invariant.few in
      let is = w.count-is in
      let more = marked_count_more c.args.outside.now c.loop-is_outside.is_outside-index false c.loop-is_outside-test.true in
      let one = marked_count_of_marked _ w.if-is_outside.true in
      record { tally = omega (arith, tally, is, more, one); few = omega (arith, few, is) }
  | else-is_outside w ↦
      let tally = c.loop-is_outside.invariant.tally in
      let few = c.loop-is_outside.invariant.few in
      let is = w.count-is in
      let more = marked_count_more c.args.outside.now c.loop-is_outside.is_outside-index false c.loop-is_outside-test.true in
      let none = marked_count_of_unmarked _ w.if-is_outside.false in
      record { tally = omega (arith, tally, is, more, none); few = omega (arith, few, is) }
]
