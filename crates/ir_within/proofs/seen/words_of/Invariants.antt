use Rattle.std.proofs.Common.{◌≡◌, [], take, map}
use Rattle.std.specs.List.{slice_index_or}
use Rattle.ir_within.proofs.seen.words_of.Given as goal

abbrev pub invariant-loop-number : goal.invariant-loop-number
invariant-loop-number l = map (λ w. w.items) l.words.items ≡ map (λ o. slice_index_or (map (λ c. c.words) l.objects) o []) (take l.number-index l.chosen)
