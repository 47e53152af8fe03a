use Rattle.std.proofs.Common.{◌≡◌, drop}
use Rattle.ir_stale_run.specs.WhatIf.{puts}
use Rattle.ir_stale_run.specs.declared.hold.Hold.TheVariants.{Reading}
use Rattle.ir_stale_run.proofs.words.puts.Given as goal

-- what is found among the calls is found among the others
abbrev pub invariant-loop-call : goal.invariant-loop-call
invariant-loop-call l = puts l.object Reading l.calls ≡ puts l.object l.hold (drop l.call-index l.calls)
