use Rattle.std.proofs.Common.{◌≡◌, drop}
use Rattle.ir_stale_run.specs.WhatIf.{gets}
use Rattle.ir_stale_run.specs.declared.hold.Hold.TheVariants.{Reading}
use Rattle.ir_stale_run.proofs.words.gets.Given as goal

-- what is found among the calls is found among the others
abbrev pub invariant-loop-call : goal.invariant-loop-call
invariant-loop-call l = gets l.object l.index Reading l.calls ≡ gets l.object l.index l.hold (drop l.call-index l.calls)
