use Rattle.ir_cut.specs.Positions.{cut_of}
use Rattle.ir_hits.proofs.Standing.{cut_stands_at_own}
use Rattle.ir_hits.proofs.stepping.bring.Goals as goal

pub returns-in-Ok-clause-stands : goal.returns-in-Ok-clause-stands
returns-in-Ok-clause-stands g c = cut_stands_at_own c.args.fitted.now (cut_of c.args.target.now) c.in-Ok.there c.in-Ok.ensures.ok
