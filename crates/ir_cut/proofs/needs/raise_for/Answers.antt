use Rattle.ir_runs.specs.declared.access.Access.TheVariants.{Reading}
use Rattle.ir_cut.proofs.Needed.{raised_for_write_event}
use Rattle.ir_cut.proofs.Sought.{leave_places_are_placed}
use Rattle.std.proofs.Common.{◌∙◌}
use Rattle.ir_cut.proofs.needs.raise_for.Goals as goal

pub raise-requires : goal.raise-requires
raise-requires c = leave_places_are_placed c.args.fitted.now c.requires.fitted c.in-Write.object Reading c.in-Write.version
    c.leaves_at-left.result.now c.leaves_at-left.ensures.only c.leaves_at-left.ensures.all _
    (c.raise_to_maker-in-Write.ensures.size ∙ c.requires.size)

pub returns-in-Write-clause-raised : goal.returns-in-Write-clause-raised
returns-in-Write-clause-raised c = raised_for_write_event c.args.fitted.now c.requires.fitted c.args.event c.in-Write.object c.in-Write.version
    c.in-Write.readers c.leaves_at-left.result.now c.leaves_at-left.ensures.only c.leaves_at-left.ensures.all c.args.positions.now.items
    c.raise_to_maker-in-Write.new.positions.items c.raise.new.positions.items c.in-Write.is c.raise_to_maker-in-Write.ensures.raised
    c.raise.ensures
