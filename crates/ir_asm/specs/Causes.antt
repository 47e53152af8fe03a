-- The numbers of the causes.
use Rattle.std.specs.Prelude.{ℕ}
use Rattle.ir_asm.specs.declared.cause.Cause.{Cause}
use Rattle.ir_asm.specs.declared.cause.Cause.TheVariants.{BadByte, UnknownStatement, WrongOperands, UnknownRegister, BadNumber, LabelTwice}
use Rattle.ir_asm.specs.declared.cause.Cause.TheVariants.{LabelMissing, TooFar, WrongSection, BadSize, BadCount, BadLabel}

-- the number that a cause goes by
abbrev pub number_of_cause : Cause → ℕ
number_of_cause BadByte = 1
number_of_cause UnknownStatement = 2
number_of_cause WrongOperands = 3
number_of_cause UnknownRegister = 4
number_of_cause BadNumber = 5
number_of_cause LabelTwice = 6
number_of_cause LabelMissing = 7
number_of_cause TooFar = 8
number_of_cause WrongSection = 9
number_of_cause BadSize = 10
number_of_cause BadCount = 11
number_of_cause BadLabel = 12
