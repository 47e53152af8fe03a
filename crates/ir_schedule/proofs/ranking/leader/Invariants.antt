use Rattle.std.proofs.Common.{◌≡◌, ◌<◌, length, drop}
use Rattle.std.specs.List.{Contains}
use Rattle.ir_schedule.specs.Ranking.{highest_rank, leader}
use Rattle.ir_schedule.proofs.ranking.leader.Given as goal

abbrev pub invariant-ready : goal.invariant-ready
invariant-ready l = record {
  below : l.best < length l.priorities;
  member : Contains l.ready l.best;
  rest : highest_rank l.priorities (drop l.thread-index l.ready) l.best ≡ leader l.priorities l.ready;
}
