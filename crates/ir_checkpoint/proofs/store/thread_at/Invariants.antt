use Rattle.std.proofs.Common.{◌≡◌, ◌*◌, take, drop, map, length}
use Rattle.ir_checkpoint.specs.Store.{in_force}
use Rattle.ir_checkpoint.proofs.store.thread_at.Given as goal

abbrev pub invariant-loop-i : goal.invariant-loop-i
invariant-loop-i l = record {
  many : length l.pages ≡ 16;
  made : map (λ page. page.now) (take l.i l.pages) ≡ map (λ p. p.bytes) (take l.i (drop (16 * l.t) (in_force l.entries)));
}
