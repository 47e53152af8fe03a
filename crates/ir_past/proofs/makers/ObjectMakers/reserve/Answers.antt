use Rattle.std.proofs.Common.{◌<◌, length, refl, rules, arith}
use Rattle.ir_past.proofs.Tables.{get_or_no_growth}
use Rattle.ir_past.proofs.makers.ObjectMakers.reserve.Goals as goal

pub returns-clause-same : goal.returns-clause-same
returns-clause-same c = λ v.
    let longer : length c.args.self.now.writes.items < c.args.versions = search rules in
    get_or_no_growth c.args.self.now.writes.items c.resize.new.self.items c.args.versions longer (search rules)
    (λ k d inside within. c.in_ok-resize.ensures.by_index.0 k d inside (omega (arith, within, c.args.self.now.writes.ok.0)))
    (λ k d past inside. c.in_ok-resize.ensures.by_index.1 k d refl (omega (arith, past, c.args.self.now.writes.ok.0)) inside) v
