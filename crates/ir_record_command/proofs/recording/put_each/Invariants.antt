use Rattle.std.proofs.Common.{◌≡◌, map, take}
use Rattle.ir_files.specs.Outputs.{by_thread, Gains}
use Rattle.ir_record_command.proofs.recording.put_each.Given as goal

-- the outputs of the threads so far, in the same home
abbrev pub invariant-loop-thread : goal.invariant-loop-thread
invariant-loop-thread g l = Gains (g.P.OutputSink.taken l.fn.outputs) (g.P.OutputSink.taken l.outputs)
    (take l.thread (by_thread (map (λ b. b.items) l.printed)))
    × (g.P.OutputSink.home l.outputs ≡ g.P.OutputSink.home l.fn.outputs)
