use Rattle.ir_runs.specs.declared.access.Access.TheVariants.{Reading, Writing}
use Rattle.ir_cut.proofs.Needed.{lowered_for_any_entry}
use Rattle.ir_cut.proofs.Sought.{entry_places_are_placed}
use Rattle.std.proofs.Common.{◌∙◌}
use Rattle.ir_cut.proofs.needs.lower_from.Goals as goal

pub lower-requires : goal.lower-requires
lower-requires c = entry_places_are_placed c.args.fitted.now c.requires.fitted c.args.object Reading c.args.version c.entries_at.result.now
    c.entries_at.ensures.only c.entries_at.ensures.all _ c.requires.size

pub lower-requires-2 : goal.lower-requires-2
lower-requires-2 c = entry_places_are_placed c.args.fitted.now c.requires.fitted c.args.object Writing c.args.version c.entries_at-2.result.now
    c.entries_at-2.ensures.only c.entries_at-2.ensures.all _ (c.lower.ensures.size ∙ c.requires.size)

pub returns-clause-lowered : goal.returns-clause-lowered
returns-clause-lowered c = lowered_for_any_entry c.args.fitted.now c.requires.fitted c.args.object c.args.version c.entries_at.result.now
    c.entries_at-2.result.now c.entries_at.ensures.only c.entries_at.ensures.all c.entries_at-2.ensures.only c.entries_at-2.ensures.all
    c.args.positions.now.items c.lower.new.positions.items c.lower-2.new.positions.items c.lower.ensures c.lower-2.ensures
