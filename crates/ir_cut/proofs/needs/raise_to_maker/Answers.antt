use Rattle.ir_runs.specs.declared.access.Access.TheVariants.{Writing}
use Rattle.ir_cut.proofs.Needed.{raised_for_reading}
use Rattle.ir_cut.proofs.Sought.{leave_places_are_placed}
use Rattle.ir_cut.proofs.needs.raise_to_maker.Goals as goal

pub raise-requires : goal.raise-requires
raise-requires c = leave_places_are_placed c.args.fitted.now c.requires.fitted c.args.object Writing c.in-Some.before c.leaves_at.result.now
    c.leaves_at.ensures.only c.leaves_at.ensures.all _ c.requires.size

pub returns-in-Some-clause-raised : goal.returns-in-Some-clause-raised
returns-in-Some-clause-raised c = raised_for_reading c.args.fitted.now c.requires.fitted c.args.object c.args.version c.in-Some.before
    c.leaves_at.result.now c.leaves_at.ensures.only c.leaves_at.ensures.all c.args.positions.now.items c.raise.new.positions.items
    c.in-Some.ensures c.raise.ensures
