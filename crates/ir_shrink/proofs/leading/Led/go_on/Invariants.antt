use Rattle.std.proofs.Common.{◌≡◌, ◌<◌, length}
use Rattle.ir_shrink.proofs.leading.Led.go_on.Given as goal

-- the thread is still there
abbrev pub invariant-steps : goal.invariant-steps
invariant-steps l = record {
  thread : l.t < length l.self.flat.threads;
  same : length l.self.flat.threads ≡ length l.fn.self.flat.threads;
}
