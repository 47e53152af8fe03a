use Rattle.std.proofs.Common.{arith}
use Rattle.std.proofs.lemmas.Str.Pattern.{starts_char}
use Rattle.ir_record_command.proofs.Numerals.{first_byte_is_no_plus, number_within_of_parsed, unparsed_no_number}
use Rattle.ir_record_command.proofs.numeral.number_within.Goals as goal

pub returns-then-number-high-clause-value : goal.returns-then-number-high-clause-value
returns-then-number-high-clause-value c =
    let plain = first_byte_is_no_plus c.args.text.now c.starts_with.result c.if-starts_with.false
    (starts_char 43 c.args.text.now c.starts_with.result c.starts_with.ensures.cases (omega arith) (omega arith)) in
    number_within_of_parsed c.args.low c.args.high c.in-Ok.number c.args.text.now c.in-Ok.ensures.value.0 plain c.if-low-number.true
    c.if-number-high.true

pub returns-in_default-clause-value : goal.returns-in_default-clause-value
returns-in_default-clause-value c =
    let plain = first_byte_is_no_plus c.args.text.now c.starts_with.result c.if-starts_with.false
    (starts_char 43 c.args.text.now c.starts_with.result c.starts_with.ensures.cases (omega arith) (omega arith)) in
    unparsed_no_number c.args.low c.args.high c.in_default.field-0 c.args.text.now c.in_default.ensures.value.0 plain c.ranges.high.fits
