use Rattle.std.proofs.Common.{◌≡◌}
use Rattle.std.specs.Prelude.{map}
use Rattle.std.specs.List.{range_with_len}
use Rattle.ir_world.specs.Sources.{seed_of, source}
use Rattle.ir_graph.proofs.setup.Setup.sources.Given as goal

abbrev pub invariant-loop-thread : goal.invariant-loop-thread
invariant-loop-thread l = l.sources.items ≡ map (λ t. source (seed_of l.self.random t) l.self.input) (range_with_len 0 l.thread)
