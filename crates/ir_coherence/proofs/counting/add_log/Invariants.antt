use Rattle.std.proofs.Common.{map, take}
use Rattle.ir_log.specs.Logging.{label_of}
use Rattle.ir_coherence.specs.Counting.{CountsMore}
use Rattle.ir_coherence.proofs.counting.add_log.Given as goal

abbrev pub invariant-loop-event : goal.invariant-loop-event
invariant-loop-event l = CountsMore l.fn.counts l.counts (map label_of (take l.event-index l.events))
