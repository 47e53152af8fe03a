use Rattle.std.proofs.Common.{◌≡◌, ◌<◌, ℕ, length, get_or}
use Rattle.ir_thread.specs.State.{ask_of}
use Rattle.ir_thread.specs.declared.ask.Ask.TheVariants.{Done}
use Rattle.ir_flat.specs.Flat.{thread_of}
use Rattle.ir_record.proofs.in_order.recorder.Recorder.ask_all.Given as goal

abbrev pub invariant-loop-number : goal.invariant-loop-number
invariant-loop-number g l = record {
  places : length l.asks.items ≡ length l.self.guest.flat.threads;
  asked : (u : ℕ) → u < l.number → get_or l.asks.items u Done ≡ ask_of l.self.guest.flat.code (thread_of l.self.guest.flat u);
}
