use Rattle.std.proofs.Common.{ap, sym, not, List, ℕ}
use Rattle.ir_names.specs.Taken.{has_no_bytes}
use Rattle.ir_names.proofs.sink.has_name.Goals as goal

pub returns-in-Some : goal.returns-in-Some
returns-in-Some c = ap (λ (text : List ℕ). not (has_no_bytes text)) (sym c.in-Some.ensures)

pub returns-in-None : goal.returns-in-None
returns-in-None c = ap (λ (text : List ℕ). not (has_no_bytes text)) (sym c.in-None.ensures)
