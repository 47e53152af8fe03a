use Rattle.std.proofs.Common.{sym, ◌∙◌}
use Rattle.ir_packet.proofs.Decimal.{decimal_from_two_digits}
use Rattle.ir_packet.proofs.number.+decimal_from.Goals as goal

pub returns-in_ok-decimal_more-in-len1-up-digits : goal.returns-in_ok-decimal_more-in-len1-up-digits
returns-in_ok-decimal_more-in-len1-up-digits t c =
    decimal_from_two_digits _ _ _ _ c.in-len1-up.len_at_least c.in-len1-up-digits.len_at_least (sym c.decimal_more.ensures ∙ c.in_ok-decimal_more-in-len1-up-digits.was)
    c.decimal_from.ensures
