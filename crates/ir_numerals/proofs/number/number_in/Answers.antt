use Rattle.ir_numerals.proofs.Values.{ten_digits_value_bound}
use Rattle.ir_numerals.proofs.number.number_in.Goals as goal

pub returns-in-48-clause-small : goal.returns-in-48-clause-small
returns-in-48-clause-small c decimal hexadecimal = ten_digits_value_bound c.numeral.result c.args.hexadecimal hexadecimal c.numeral.ensures.small

pub returns-in_default-clause-small : goal.returns-in_default-clause-small
returns-in_default-clause-small c decimal hexadecimal = ten_digits_value_bound c.numeral-in_default.result c.args.decimal decimal c.numeral-in_default.ensures.small
