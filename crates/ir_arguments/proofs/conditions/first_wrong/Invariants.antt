use Rattle.std.proofs.Common.{◌≡◌, drop}
use Rattle.std.specs.List.{list_all}
use Rattle.ir_arguments.specs.Exploring.{is_of_outcome}
use Rattle.ir_arguments.proofs.Wishes.{texts_of}
use Rattle.ir_arguments.proofs.conditions.first_wrong.Given as goal

-- each text so far holds of outcomes
abbrev pub invariant-texts : goal.invariant-texts
invariant-texts l = list_all is_of_outcome (texts_of (drop l.text-index l.fn.texts)) ≡ list_all is_of_outcome (texts_of l.fn.texts)
