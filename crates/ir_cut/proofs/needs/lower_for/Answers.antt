use Rattle.ir_runs.specs.declared.access.Access.TheVariants.{Writing}
use Rattle.ir_cut.proofs.Needed.{lowered_for_read_leave, lowered_for_write_leave, last_leave_no_lowering}
use Rattle.ir_cut.proofs.Sought.{entry_places_are_placed}
use Rattle.ir_cut.proofs.needs.lower_for.Goals as goal

pub lower-requires : goal.lower-requires
lower-requires c = entry_places_are_placed c.args.fitted.now c.requires.fitted c.args.leave.object Writing c.args.leave.version
    c.entries_at.result.now c.entries_at.ensures.only c.entries_at.ensures.all _ c.requires.size

pub returns-in-Reading-clause-lowered : goal.returns-in-Reading-clause-lowered
returns-in-Reading-clause-lowered c = lowered_for_read_leave c.args.fitted.now c.requires.fitted c.args.leave c.entries_at.result.now
    c.entries_at.ensures.only c.entries_at.ensures.all c.args.positions.now.items c.lower.new.positions.items c.in-Reading.is
    c.lower.ensures

pub returns-in-Some-clause-lowered : goal.returns-in-Some-clause-lowered
returns-in-Some-clause-lowered c = lowered_for_write_leave c.args.fitted.now c.args.leave c.in-Some.made c.args.positions.now.items
    c.lower_from.new.positions.items c.in-Writing.is c.in-Some.ensures.1 c.lower_from.ensures.lowered

pub returns-in_default-clause-lowered : goal.returns-in_default-clause-lowered
returns-in_default-clause-lowered c = last_leave_no_lowering c.args.fitted.now c.requires.fitted c.args.leave c.args.positions.now.items
    c.in-Writing.is c.in_default.ensures
