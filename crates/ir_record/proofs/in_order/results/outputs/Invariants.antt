use Rattle.std.proofs.Common.{◌≡◌, ◌++◌, map, length, take}
use Rattle.std.specs.Vec.Iter.{into_iter_items, into_iter_len}
use Rattle.ir_record.proofs.in_order.results.outputs.Given as goal

abbrev pub invariant-loop-world : goal.invariant-loop-world
invariant-loop-world g l = record {
  parts : l.yielded ++ into_iter_items l.world-iterator ≡ l.fn.worlds.items;
  size : into_iter_len l.world-iterator ≡ length (into_iter_items l.world-iterator);
  worlds : map (λ x. x.world) l.each.items ≡ l.yielded;
  bytes : map (λ x. x.bytes.items) l.each.items ≡ take (length l.each.items) (map (λ x. x.output) l.threads);
}
