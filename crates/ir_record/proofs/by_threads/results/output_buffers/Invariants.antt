use Rattle.ir_record.specs.Threads.{AreOutputBuffers}
use Rattle.ir_record.proofs.by_threads.results.output_buffers.Given as goal

abbrev pub invariant-loop-number : goal.invariant-loop-number
invariant-loop-number l = AreOutputBuffers l.number l.buffers.items
