use Rattle.std.proofs.Common.{arith, length}
use Rattle.ir_numerals.proofs.Values.{found_value_bound}
use Rattle.ir_numerals.proofs.number.numeral.Goals as goal

pub returns-clause-small : goal.returns-clause-small
returns-clause-small c = found_value_bound c.value.result (length c.args.digits.now) c.args.most (omega arith) c.value.ensures.small
