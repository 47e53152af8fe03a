use Rattle.std.proofs.Common.{rules, ◌≡◌, ◌<◌, length}
use Rattle.ir_text.proofs.Lines.{memory_text_step, memory_text_at_end, memory_line_has_room}
use Rattle.ir_text.proofs.bytes.put_memory.Goals as goal

pub loop-rest-preserved : goal.loop-rest-preserved
loop-rest-preserved c =
    let some : 0 < length c.loop-rest.rest.now = search rules in
    record {
      text = memory_text_step _ _ _ _ _ _ c.loop-rest.at c.min.result some c.min.ensures c.split_at.ensures.front c.split_at.ensures.back
          c.put_memory_line.ensures.text c.loop-rest.invariant.text;
      more = memory_line_has_room _ _ _ _ c.loop-rest.at c.min.result c.min.ensures c.split_at.ensures.back_len c.put_memory_line.ensures.len
          (c.loop-rest.invariant.more some);
    }

pub returns : goal.returns
returns c =
    let none : length c.loop-rest.rest.now ≡ 0 = search rules in
    memory_text_at_end _ _ _ c.loop-rest.at none c.loop-rest.invariant.text
