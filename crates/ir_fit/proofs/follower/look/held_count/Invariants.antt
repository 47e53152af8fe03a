use Rattle.std.proofs.Common.{◌≡◌, ◌≤◌, take}
use Rattle.ir_thread.specs.Permitted.{held_count}
use Rattle.ir_fit.proofs.follower.look.held_count.Given as goal

abbrev pub invariant-loop-place : goal.invariant-loop-place
invariant-loop-place l = record {
  counted : l.count ≡ held_count (take l.place-index l.held);
  within : l.count ≤ l.place-index;
}
