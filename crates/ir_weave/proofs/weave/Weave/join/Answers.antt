use Rattle.std.proofs.Common.{arith}
use Rattle.ir_weave.proofs.Opening.{woven_seats_join}
use Rattle.ir_weave.proofs.weave.Weave.join.Goals as goal

pub join_seat-requires : goal.join_seat-requires
join_seat-requires c = (c.requires.seat.0, c.requires.other.0, c.requires.other.1, omega (arith, c.args.self.now.words), woven_seats_join _ _ _ _ _)
