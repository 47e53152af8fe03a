use Rattle.std.proofs.Common.{◌≡◌, drop}
use Rattle.std.specs.Prelude.{map}
use Rattle.ir_arguments.specs.Parser.{and_rules, app_in, rule_of_form}
use Rattle.ir_arguments.proofs.forms.with_forms.Given as goal

-- with the arguments that are left the command is whole
abbrev pub invariant-forms : goal.invariant-forms
invariant-forms l = and_rules (app_in l.command) (map rule_of_form (drop l.form-index l.forms)) ≡ and_rules (app_in l.fn.command) (map rule_of_form l.fn.forms)
