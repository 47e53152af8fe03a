use Rattle.std.proofs.Common.{◌≡◌, ◌++◌, map, length}
use Rattle.std.specs.Vec.Iter.{into_iter_items, into_iter_len}
use Rattle.ir_fit.specs.Growing.{grown}
use Rattle.ir_fit.proofs.follower.growing.all_grown.Given as goal

abbrev pub invariant-loop-each : goal.invariant-loop-each
invariant-loop-each l = record {
  parts : l.yielded ++ into_iter_items l.each-iterator ≡ l.fn.growing.items;
  size : into_iter_len l.each-iterator ≡ length (into_iter_items l.each-iterator);
  places : l.places.items ≡ map grown l.yielded;
}
