use Rattle.std.proofs.Common.{arith}
use Rattle.std.specs.Char.{digit_value}
use Rattle.ir_numerals.proofs.Values.{digit_below_radix, value_digit_below_128_bits, value_of_prefix_step}
use Rattle.ir_numerals.proofs.number.value.Goals as goal

pub overflow_mul-value : goal.overflow_mul-value
overflow_mul-value c =
    let d = digit_below_radix c.in_ok-digit.digit (digit_value c.from.result) c.args.radix c.in_ok-digit.ensures.value in
    let f = value_digit_below_128_bits c.loop-byte.value c.args.radix c.in_ok-digit.digit c.loop-byte.byte-index c.loop-byte.invariant.small c.requires.high d
    (omega arith) in
    omega arith

pub overflow_add-value : goal.overflow_add-value
overflow_add-value c =
    let d = digit_below_radix c.in_ok-digit.digit (digit_value c.from.result) c.args.radix c.in_ok-digit.ensures.value in
    let f = value_digit_below_128_bits c.loop-byte.value c.args.radix c.in_ok-digit.digit c.loop-byte.byte-index c.loop-byte.invariant.small c.requires.high d
    (omega arith) in
    omega arith

pub loop-byte-preserved : goal.loop-byte-preserved
loop-byte-preserved c =
    value_of_prefix_step c.args.radix c.loop-byte.byte-index c.loop-byte.value c.in_ok-digit.digit c.from.result c.args.digits.now c.loop-byte-test.true
    c.from.ensures c.in_ok-digit.ensures.value c.requires.high c.loop-byte.invariant
