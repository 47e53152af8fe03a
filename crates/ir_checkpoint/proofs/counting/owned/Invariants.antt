use Rattle.std.proofs.Common.{◌≡◌, ◌+◌, ◌≤◌, drop}
use Rattle.ir_checkpoint.specs.Store.{owned}
use Rattle.ir_checkpoint.proofs.counting.owned.Given as goal

abbrev pub invariant-loop-page : goal.invariant-loop-page
invariant-loop-page l = record { low : l.own ≤ l.page-index; rest : l.own + owned (drop l.page-index l.pages) ≡ owned l.pages }
