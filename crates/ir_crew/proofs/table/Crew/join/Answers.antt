use Rattle.std.proofs.Common.{arith}
use Rattle.ir_crew.proofs.Seats.{kept_seats_join}
use Rattle.ir_crew.proofs.table.Crew.join.Goals as goal

pub join_seat-requires : goal.join_seat-requires
join_seat-requires c = (
  c.requires.seat.0,
  c.requires.other.0,
  c.requires.other.1,
  (let w = c.args.self.now.words in omega (arith, w)),
  kept_seats_join _ _ _ _ _,
)
