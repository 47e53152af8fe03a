use Rattle.std.proofs.Common.{◌≡◌, ℕ, List, IfOk, subst}
use Rattle.std.specs.String.{string_bytes}
use Rattle.ir_diff.specs.Lines.{differs_line}
use Rattle.ir_diff.proofs.lines.differs_line.Goals as goal

pub returns : goal.returns
returns c = subst (λ (x : List ℕ). IfOk c.format.result (λ s. string_bytes s ≡ differs_line c.args.thread c.args.event x))
    c.ready_text-ready.ensures c.format.ensures.ok
