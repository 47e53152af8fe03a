use Rattle.std.proofs.Common.{◌≡◌, ℕ, ◌<◌, length}
use Rattle.ir_thread.specs.State.{ask_of}
use Rattle.ir_flat.specs.Flat.{IsFlat, thread_of}
use Rattle.ir_graph.specs.Plain.{GoesPlain, Rests}
use Rattle.ir_graph.proofs.start.rest_all.Given as goal

abbrev pub invariant-loop-thread : goal.invariant-loop-thread
invariant-loop-thread l = record {
  goes : GoesPlain l.fn.state l.state;
  rest : (t : ℕ) → t < l.thread → Rests (ask_of l.state.flat.code (thread_of l.state.flat t));
  threads : length l.state.flat.threads ≡ length l.fn.state.flat.threads;
  sources : length l.state.sources ≡ length l.fn.state.sources;
  flat : IsFlat l.state.flat;
}
