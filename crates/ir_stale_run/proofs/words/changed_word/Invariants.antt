use Rattle.std.proofs.Common.{◌≡◌}
use Rattle.std.specs.Prelude.{None}
use Rattle.ir_stale_run.specs.WhatIf.{least_below, is_changed}
use Rattle.ir_stale_run.proofs.words.changed_word.Given as goal

-- no word below is one
abbrev pub invariant-loop-index : goal.invariant-loop-index
invariant-loop-index l = least_below (is_changed l.object l.was l.now l.calls) l.index ≡ None
