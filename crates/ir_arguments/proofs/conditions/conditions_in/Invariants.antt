use Rattle.std.proofs.Common.{◌≡◌, drop}
use Rattle.ir_arguments.specs.Conditions.{conditions_given}
use Rattle.ir_arguments.proofs.Wishes.{texts_of, with_more}
use Rattle.ir_arguments.proofs.conditions.conditions_in.Given as goal

-- the conditions so far and those of what is left are those of all texts
abbrev pub invariant-texts : goal.invariant-texts
invariant-texts l = with_more l.conditions.items (conditions_given (texts_of (drop l.text-index l.fn.texts))) ≡ conditions_given (texts_of l.fn.texts)
