use Rattle.std.proofs.Common.{◌≡◌, ◌++◌, take, drop, length}
use Rattle.ir_checkpoint.specs.Store.{handed}
use Rattle.ir_checkpoint.proofs.entry.hand_on.Given as goal

abbrev pub invariant-loop-i : goal.invariant-loop-i
invariant-loop-i l = record { same : length l.own ≡ length l.gifts.items; rest : take l.i l.own ++ handed (drop l.i l.own) (drop l.i l.gifts.items) ≡ handed l.fn.own l.fn.gifts.items }
