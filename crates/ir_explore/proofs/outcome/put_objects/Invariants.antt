use Rattle.std.proofs.Common.{◌≡◌, ◌++◌}
use Rattle.ir_explore.specs.Texts.{objects_text}
use Rattle.ir_explore.proofs.outcome.put_objects.Given as goal

abbrev pub invariant-loop-o : goal.invariant-loop-o
invariant-loop-o l = l.text.items ≡ l.fn.text.items ++ objects_text l.started.words l.started.first.now l.now l.o
