use Rattle.std.proofs.Common.{◌≡◌, drop}
use Rattle.ir_state_store.specs.Hashes.{after_numbers}
use Rattle.ir_state_store.specs.Nodes.{node_words_in}
use Rattle.ir_state_store.proofs.compare.after_spots.Given as goal

abbrev pub invariant-loop-spot : goal.invariant-loop-spot
invariant-loop-spot l = after_numbers l.hash (node_words_in (drop l.spot-index l.spots)) ≡ after_numbers l.fn.hash (node_words_in l.spots)
