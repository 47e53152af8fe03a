use Rattle.ir_flat.proofs.Alone.{flat_after_equal_run, alone_after_equal_run}
use Rattle.ir_flat.proofs.flat.Flat.run_unmarked.Goals as goal

pub invariant_of-self : goal.invariant_of-self
invariant_of-self c = flat_after_equal_run c.self.inside.parts c.args.self.now c.run_unmarked.new.self c.args.t c.run_unmarked.result
    c.self.view_is c.requires.thread c.self.invariant c.run_unmarked.ensures.each c.run_unmarked.ensures.moved

pub returns-clause-went : goal.returns-clause-went
returns-clause-went c = alone_after_equal_run c.self.inside.parts c.args.self.now c.run_unmarked.new.self c.args.t c.run_unmarked.result
    c.self.view_is c.requires.thread c.self.invariant c.run_unmarked.ensures.each c.run_unmarked.ensures.moved
