use Rattle.std.proofs.Common.{◌≡◌, [], length, map, take}
use Rattle.ir_fit.proofs.follower.ending.rooms.Given as goal

abbrev pub invariant-loop-thread : goal.invariant-loop-thread
invariant-loop-thread l = l.places.items ≡ map (λ t. record { entries = []; leaves = []; room = length t.events })
    (take l.thread-index l.emitted)
