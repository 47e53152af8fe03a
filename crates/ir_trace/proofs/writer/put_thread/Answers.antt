use Rattle.std.proofs.Common.{length, rules}
use Rattle.std.specs.List.{flat_map}
use Rattle.byteorder.specs.Endian.{little_bytes}
use Rattle.ir_trace.specs.Encoding.{event_encoding, end_encoding, thread_encoding}
use Rattle.ir_trace.proofs.Joined.{four_appends_are_append}
use Rattle.ir_trace.proofs.writer.put_thread.Goals as goal

pub returns : goal.returns
unfolding thread_encoding
returns c =
    let t = c.args.thread.now in
    four_appends_are_append c.args.out.now.items (little_bytes 8 t.steps) (end_encoding t.end) (little_bytes 4 (length t.events))
    (flat_map event_encoding t.events)
    c.put_double.new.out.items c.put_end.new.out.items c.put_word.new.out.items c.put_events.new.out.items (search rules) (search rules)
    (search rules) (search rules)
