use Rattle.std.proofs.Common.{◌≡◌, ◌++◌, ℕ, drop, codes, decimal, flat_map}
use Rattle.std.specs.String.{string_bytes}
use Rattle.ir_why.specs.FitLines.{least_line}
use Rattle.ir_why.proofs.fit_lines.least_line.Given as goal

abbrev pub invariant-loop-position : goal.invariant-loop-position
invariant-loop-position l =
    string_bytes l.line ++ (flat_map (λ (n : ℕ). codes " " ++ decimal n) (drop l.position-index l.position-items) ++ codes "\n")
    ≡ least_line l.cut
