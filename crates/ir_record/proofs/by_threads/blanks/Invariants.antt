use Rattle.std.proofs.Common.{◌≡◌, length}
use Rattle.ir_record.proofs.by_threads.blanks.Given as goal

abbrev pub invariant-loop-o : goal.invariant-loop-o
invariant-loop-o l = length l.objects.items ≡ l._o
