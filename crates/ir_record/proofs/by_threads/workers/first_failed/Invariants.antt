use Rattle.std.proofs.Common.{◌≡◌, ◌<◌, ℕ, map, get_or, false}
use Rattle.ir_record.proofs.by_threads.workers.first_failed.Given as goal

abbrev pub invariant-loop-t : goal.invariant-loop-t
invariant-loop-t g l = (u : ℕ) → u < l.t → get_or (map (λ w. g.W.World.broken w.world) l.workers) u false ≡ false
