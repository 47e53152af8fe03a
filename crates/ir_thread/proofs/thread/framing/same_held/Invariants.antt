use Rattle.std.proofs.Common.{◌≡◌, take}
use Rattle.ir_thread.proofs.thread.framing.same_held.Given as goal

abbrev pub invariant-loop-o : goal.invariant-loop-o
invariant-loop-o l = take l.o l.first ≡ take l.o l.second
