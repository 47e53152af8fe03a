use Rattle.std.proofs.Common.{◌≡◌, ◌<◌, ℕ, Bool, List, length}
use Rattle.ir_flat.specs.Flat.{thread_of}
use Rattle.ir_record.specs.Recording.{turns_of_items}
use Rattle.ir_graph.specs.Plain.{GoesPlain, Rests}
use Rattle.ir_graph.specs.Setup.{Setup}
use Rattle.ir_thread.specs.State.{ask_of}
use Rattle.ir_outcomes.specs.Again.{IsAgain}
use Rattle.ir_outcomes.proofs.rerun.add_rests.Given as goal

abbrev pub invariant-loop-thread : goal.invariant-loop-thread
invariant-loop-thread l = record {
  again : (setup : Setup) (ways : List (ℕ × Bool)) → IsAgain setup (turns_of_items l.fn.items.items) ways l.fn.state
      → IsAgain setup (turns_of_items l.items.items) ways l.state;
  goes : GoesPlain l.fn.state l.state;
  rest : (t : ℕ) → t < l.thread → Rests (ask_of l.state.flat.code (thread_of l.state.flat t));
  threads : length l.state.flat.threads ≡ length l.fn.state.flat.threads;
  sources : length l.state.sources ≡ length l.fn.state.sources;
}
