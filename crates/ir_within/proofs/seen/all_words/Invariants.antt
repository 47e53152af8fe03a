use Rattle.std.proofs.Common.{◌≡◌, take, map}
use Rattle.ir_within.proofs.seen.all_words.Given as goal

abbrev pub invariant-loop-object : goal.invariant-loop-object
invariant-loop-object l = map (λ w. w.items) l.words.items ≡ map (λ c. c.words) (take l.object-index l.objects)
