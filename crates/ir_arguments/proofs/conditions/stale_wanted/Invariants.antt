use Rattle.std.proofs.Common.{◌≡◌, drop, None}
use Rattle.ir_arguments.specs.Conditions.{stale_after}
use Rattle.ir_arguments.proofs.Wishes.{texts_of}
use Rattle.ir_arguments.proofs.conditions.stale_wanted.Given as goal

-- what is left asks for the same, after what was asked so far
abbrev pub invariant-texts : goal.invariant-texts
invariant-texts l = stale_after l.asked (texts_of (drop l.text-index l.fn.texts)) ≡ stale_after None (texts_of l.fn.texts)
