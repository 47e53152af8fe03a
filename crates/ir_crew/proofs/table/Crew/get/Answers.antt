use Rattle.std.proofs.Common.{arith}
use Rattle.ir_crew.proofs.Steps.{get_is_allowed}
use Rattle.ir_crew.proofs.table.Crew.get.Goals as goal

pub load-requires : goal.load-requires
load-requires c = (
  c.requires.seat.0,
  (let o = c.requires.object.0 in let i = c.requires.object.1 in let w = c.args.self.now.words in omega (arith, o, i, w)),
  get_is_allowed _ _ _ c.args.object c.args.index c.args.seat.now.me c.requires.seat.1 c.requires.object.0 c.requires.object.1 c.requires.inside,
)
