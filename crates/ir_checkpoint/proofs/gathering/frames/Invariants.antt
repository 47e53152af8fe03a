use Rattle.std.proofs.Common.{◌≡◌, take, map}
use Rattle.std.specs.List.{All}
use Rattle.ir_thread.specs.Frames.{frame_of}
use Rattle.ir_checkpoint.specs.Gathered.{HasMemory}
use Rattle.ir_checkpoint.proofs.gathering.frames.Given as goal

abbrev pub invariant-loop-thread : goal.invariant-loop-thread
invariant-loop-thread l = record {
  made : l.frames.items ≡ map frame_of (take l.thread-index l.threads);
  memories : All HasMemory (take l.thread-index l.threads);
}
