use Rattle.std.proofs.Common.{◌≡◌, ◌≤◌, ◌<◌, ℕ, length}
use Rattle.ir_cut.specs.Positions.{EachRun, last_of}
use Rattle.ir_gdb.specs.Stub.{stub_spoken}
use Rattle.ir_gdb.specs.Together.{OwnStop, stop_among}
use Rattle.ir_gdb.proofs.remote.Remote.stops.Given as goal

abbrev pub invariant-threads : goal.invariant-threads
invariant-threads g l = record {
  stub : l.self.stub ≡ stub_spoken l.fn.self.stub;
  len : length l.stops.items ≡ l.thread;
  own : EachRun l.fn.self.stub.desk.fitted (λ run. (k : ℕ) → k < l.thread → OwnStop run l.fn.self.stub l.direction l.mover k (stop_among l.stops.items k));
  within : (k : ℕ) → k < l.thread → (stop_among l.stops.items k).position ≤ last_of l.fn.self.stub.desk.fitted k;
}
