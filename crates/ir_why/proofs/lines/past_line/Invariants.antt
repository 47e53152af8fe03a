use Rattle.std.proofs.Common.{◌≡◌, ◌++◌, ℕ, drop, codes, decimal, flat_map}
use Rattle.std.specs.String.{string_bytes}
use Rattle.ir_why.specs.Lines.{past_line}
use Rattle.ir_why.proofs.lines.past_line.Given as goal

abbrev pub invariant-loop-count : goal.invariant-loop-count
invariant-loop-count l =
    string_bytes l.line ++ (flat_map (λ (n : ℕ). codes " " ++ decimal n) (drop l.count-index l.counts) ++ codes "\n") ≡ past_line l.counts
