use Rattle.ir_runs.specs.declared.access.Access.TheVariants.{Reading}
use Rattle.ir_cut.proofs.Needed.{read_event_needs_test, write_event_needs_test, false_write_needs_test}
use Rattle.ir_cut.proofs.Sought.{leave_places_are_placed}
use Rattle.ir_cut.proofs.needs.are_met.Goals as goal

pub are_inside-requires : goal.are_inside-requires
are_inside-requires c = leave_places_are_placed c.args.fitted.now c.requires.fitted c.in-Write.object Reading c.in-Write.version
    c.leaves_at-readers.result.now c.leaves_at-readers.ensures.only c.leaves_at-readers.ensures.all _ c.requires.size

pub returns-in-Read : goal.returns-in-Read
returns-in-Read c = read_event_needs_test c.args.fitted.now c.args.event c.in-Read.object c.in-Read.version c.args.positions.now c.is_made.result
    c.in-Read.is c.is_made.ensures

pub returns-then-is_made : goal.returns-then-is_made
returns-then-is_made c = write_event_needs_test c.args.fitted.now c.requires.fitted c.args.event c.in-Write.object c.in-Write.version
    c.in-Write.readers c.leaves_at-readers.result.now c.leaves_at-readers.ensures.only c.leaves_at-readers.ensures.all c.args.positions.now
    c.is_made-in-Write.result c.are_inside.result c.in-Write.is c.if-is_made.true c.is_made-in-Write.ensures c.are_inside.ensures

pub returns-else-is_made : goal.returns-else-is_made
returns-else-is_made c = false_write_needs_test c.args.fitted.now c.args.event c.in-Write.object c.in-Write.version c.in-Write.readers
    c.args.positions.now c.is_made-in-Write.result c.in-Write.is c.if-is_made.false c.is_made-in-Write.ensures
