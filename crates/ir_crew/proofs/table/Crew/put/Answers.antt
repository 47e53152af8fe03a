use Rattle.std.proofs.Common.{arith}
use Rattle.ir_crew.proofs.Steps.{put_is_allowed}
use Rattle.ir_crew.proofs.table.Crew.put.Goals as goal

pub store-requires : goal.store-requires
store-requires c = (
  c.requires.seat.0,
  (let o = c.requires.object.0 in let i = c.requires.object.1 in let w = c.args.self.now.words in omega (arith, o, i, w)),
  put_is_allowed _ _ _ c.args.object c.args.index c.from.result c.args.seat.now.me c.requires.seat.1 c.requires.object.0 c.requires.object.1
      (omega (arith, c.from.ensures, c.ranges.value)) c.requires.inside,
)
