use Rattle.std.proofs.Common.{sym, ap, ◌∙◌}
use Rattle.std.specs.List.{list_all}
use Rattle.std.specs.Char.{is_ascii_digit}
use Rattle.ir_record_command.proofs.Items.{digit_tests_agree}
use Rattle.ir_record_command.proofs.order.is_digits.Goals as goal

pub returns-then-not-is_empty : goal.returns-then-not-is_empty
returns-then-not-is_empty c = c.all_are_digits.ensures ∙ ap (list_all is_ascii_digit) c.as_bytes.ensures.value
    ∙ digit_tests_agree c.args.text.now (sym c.is_empty.ensures ∙ c.if-not-is_empty.true)
