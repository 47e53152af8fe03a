use Rattle.std.specs.Prelude.{codes, decimal, ◌++◌}
use Rattle.ir_text.proofs.Lines.{append_two_steps}
use Rattle.ir_text.proofs.verdicts.put_disagrees.Goals as goal

pub returns-clause-text : goal.returns-clause-text
returns-clause-text c = append_two_steps c.args.text.now.items (codes " disagrees event " ++ decimal c.args.event) (codes " step ")
    (decimal c.args.step) _ _ c.put_number.ensures.text c.put_number-2.ensures.text
