use Rattle.std.proofs.Common.{ℕ, ◌<◌}
use Rattle.ir_flat.specs.Flat.{thread_of}
use Rattle.ir_likeness.specs.Seen.{Same, view}
use Rattle.ir_state_store.specs.Nodes.{source_of}
use Rattle.ir_graph.proofs.likeness.same_state.Given as goal

abbrev pub invariant-loop-t : goal.invariant-loop-t
invariant-loop-t l = (u : ℕ) → u < l.t
    → Same l.basis.code (view (thread_of l.first.flat u), source_of l.first u) (view (thread_of l.second.flat u), source_of l.second u)
