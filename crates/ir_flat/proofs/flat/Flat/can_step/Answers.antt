use Rattle.ir_flat.proofs.Keeps.{step_test_iff_can}
use Rattle.ir_flat.proofs.flat.Flat.can_step.Goals as goal

pub returns : goal.returns
returns c = step_test_iff_can c.self.inside.parts c.args.self.now c.args.t 0 c.ask-asked.result c.may.result c.self.view_is c.requires
    c.self.invariant c.ask-asked.ensures.value c.may.ensures
