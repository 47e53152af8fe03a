use Rattle.std.proofs.Common.{◌≡◌, ◌-◌, rules, arith}
use Rattle.ir_symbols.proofs.name.name_by.Goals as goal

pub returns-in-0 : goal.returns-in-0
returns-in-0 c = let here : c.args.address - c.args.symbol.now.address ≡ 0 = omega (arith, c.in-0.is, c.address.ensures) in rw here (search rules)
