use Rattle.std.proofs.Common.{ℕ, List, ap, ◌∙◌}
use Rattle.std.specs.Prelude.{codes, decimal, ◌++◌}
use Rattle.ir_text.proofs.Lines.{append_two_steps}
use Rattle.ir_text.proofs.verdicts.put_incoherent.Goals as goal

pub returns-clause-text : goal.returns-clause-text
returns-clause-text c =
    let old : List ℕ = c.args.text.now.items in
    let first : List ℕ = codes "incoherent thread " ++ decimal c.args.thread in
    let second : List ℕ = first ++ codes " event " ++ decimal c.args.event in
    append_two_steps old second (codes " cause ") (decimal c.number.result) _ _
    (append_two_steps old first (codes " event ") (decimal c.args.event) _ _ c.put_number.ensures.text c.put_number-2.ensures.text)
    c.put_number-3.ensures.text
    ∙ ap (λ (n : ℕ). old ++ (second ++ codes " cause " ++ decimal n)) c.number.ensures
