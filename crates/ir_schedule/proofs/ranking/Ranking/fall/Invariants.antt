use Rattle.std.proofs.Common.{◌≡◌, length, drop}
use Rattle.ir_schedule.specs.Ranking.{fallen}
use Rattle.ir_schedule.proofs.ranking.Ranking.fall.Given as goal

abbrev pub invariant-places : goal.invariant-places
invariant-places l = record {
  places : l.self-inside.places.items ≡ l.fn.self.places;
  taken : l.self-inside.taken.items ≡ l.fn.self.taken;
  last : l.self-inside.last ≡ l.fn.self.last;
  patience : l.self-inside.patience ≡ l.fn.self.patience;
  limit : l.self-inside.limit ≡ l.fn.self.limit;
  lowest : l.self-inside.lowest ≡ l.fn.self.lowest;
  threads : length l.self-inside.priorities.items ≡ length l.fn.self.priorities;
  rest : fallen l.ready l.fn.self.taken l.number (drop l.number l.fn.self.places) l.self-inside.priorities.items ≡ fallen l.ready l.fn.self.taken 0 l.fn.self.places l.fn.self.priorities;
}
