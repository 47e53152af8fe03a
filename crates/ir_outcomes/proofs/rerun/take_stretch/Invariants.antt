use Rattle.std.proofs.Common.{◌<◌, length, replicate}
use Rattle.ir_flat.specs.Flat.{thread_of}
use Rattle.ir_graph.specs.Plain.{Rests}
use Rattle.ir_graph.specs.Turn.{GoesAlone}
use Rattle.ir_thread.specs.State.{ask_of}
use Rattle.ir_outcomes.specs.Along.{ArrivesBy}
use Rattle.ir_outcomes.proofs.rerun.take_stretch.Given as goal

abbrev pub invariant-loop : goal.invariant-loop
invariant-loop l = record {
  alone : GoesAlone l.fn.state l.state l.stretch.thread l.stretch.refused l.steps l.counter;
  rests : Rests (ask_of l.state.flat.code (thread_of l.state.flat l.stretch.thread));
  thread : l.stretch.thread < length l.state.flat.threads;
  source : l.stretch.thread < length l.state.sources;
  arrives : ArrivesBy l.stretch.thread (replicate l.counter l.stretch.refused) l.fn.state l.state;
}
