use Rattle.std.proofs.Common.{◌≡◌, drop}
use Rattle.ir_event_walk.specs.Calls.{AllSuit}
use Rattle.ir_stale_run.specs.WhatIf.{what_if}
use Rattle.ir_stale_run.specs.declared.hold.Hold.TheVariants.{Reading}
use Rattle.ir_stale_run.proofs.what_if.what_if.Given as goal

-- what comes of the other calls is what comes of all
abbrev pub invariant-loop-call : goal.invariant-loop-call
invariant-loop-call l = record {
  same : what_if l.code l.object l.fresh Reading l.fuel l.fn.thread l.calls ≡ what_if l.code l.object l.fresh l.hold l.left l.thread
      (drop l.call-index l.calls);
  suit : AllSuit (drop l.call-index l.calls);
}
