use Rattle.ir_flat.proofs.Alone.{flat_after_equal_run, alone_after_equal_run}
use Rattle.ir_flat.proofs.flat.Flat.run_to_ask.Goals as goal

pub invariant_of-self : goal.invariant_of-self
invariant_of-self c = flat_after_equal_run c.self.inside.parts c.args.self.now c.run_to_ask.new.self c.args.t c.run_to_ask.result.0
    c.self.view_is c.requires c.self.invariant c.run_to_ask.ensures.each c.run_to_ask.ensures.moved

pub returns-clause-went : goal.returns-clause-went
returns-clause-went c = alone_after_equal_run c.self.inside.parts c.args.self.now c.run_to_ask.new.self c.args.t c.run_to_ask.result.0
    c.self.view_is c.requires c.self.invariant c.run_to_ask.ensures.each c.run_to_ask.ensures.moved

pub returns-clause-still_flat : goal.returns-clause-still_flat
returns-clause-still_flat c = flat_after_equal_run c.self.inside.parts c.args.self.now c.run_to_ask.new.self c.args.t c.run_to_ask.result.0
    c.self.view_is c.requires c.self.invariant c.run_to_ask.ensures.each c.run_to_ask.ensures.moved
