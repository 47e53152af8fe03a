use Rattle.std.proofs.Common.{◌<◌, length}
use Rattle.std.specs.List.{slice_index_or}
use Rattle.ir_state_store.specs.Hashes.{PassesOver}
use Rattle.ir_state_store.specs.Nodes.{AreSameNumbers}
use Rattle.ir_state_store.specs.Places.{no_node}
use Rattle.ir_state_store.proofs.store.find_node.Given as goal

abbrev pub invariant-loop-steps : goal.invariant-loop-steps
invariant-loop-steps l = PassesOver l.index l.hash l.steps (λ v. (v < length l.nodes) × AreSameNumbers l.table.looks l.node (slice_index_or l.nodes v no_node))
