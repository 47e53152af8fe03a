use Rattle.std.proofs.Common.{arith}
use Rattle.ir_program.proofs.TakenLines.{takes_line_at_input_end, takes_line_at_feed_byte, consumed_long_line, too_long_is_refused, in_line_after_plain}
use Rattle.ir_program.proofs.line.read_line.Goals as goal

pub returns-in-Failed-clause-fails : goal.returns-in-Failed-clause-fails
returns-in-Failed-clause-fails g c = (
  c.in-Failed.ensures.broken,
  in_line_after_plain (g.R.Source.left c.args.reader.now)
      (g.R.Source.left c.loop.reader) (g.R.Source.left c.next_byte.new.reader) c.loop.line.items c.loop.invariant.plain c.loop.invariant.taken
      c.in-Failed.ensures.bytes,
)

pub returns-in-End-clause-ok : goal.returns-in-End-clause-ok
returns-in-End-clause-ok g c = takes_line_at_input_end (g.R.Source.left c.args.reader.now) (g.R.Source.left c.loop.reader)
    (g.R.Source.left c.next_byte.new.reader) c.loop.line.items c.loop.invariant.plain c.loop.invariant.taken c.in-End.ensures.bytes.0
    c.in-End.ensures.bytes.1

pub returns-then-byte-eq10-clause-ok : goal.returns-then-byte-eq10-clause-ok
returns-then-byte-eq10-clause-ok g c = takes_line_at_feed_byte (g.R.Source.left c.args.reader.now) (g.R.Source.left c.loop.reader)
    (g.R.Source.left c.next_byte.new.reader) c.loop.line.items c.in-Byte.byte c.if-byte-eq10.true c.loop.invariant.plain
    c.loop.invariant.taken c.in-Byte.ensures.bytes

pub returns-clause-fails : goal.returns-clause-fails
returns-clause-fails g c = (
  too_long_is_refused (g.R.Source.left c.args.reader.now)
      (consumed_long_line (g.R.Source.left c.args.reader.now) (g.R.Source.left c.loop.reader) c.loop.line.items 4194305 c.loop.invariant.plain
      c.loop.invariant.taken (omega (arith, c.loop.line.ok))),
  c.loop.invariant.works,
)
