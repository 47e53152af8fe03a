use Rattle.ir_runs.specs.declared.access.Access.TheVariants.{Writing}
use Rattle.ir_cut.proofs.Needed.{reading_needs_test}
use Rattle.ir_cut.proofs.Sought.{leave_places_are_placed}
use Rattle.ir_cut.proofs.needs.is_made.Goals as goal

pub are_inside-requires : goal.are_inside-requires
are_inside-requires c = leave_places_are_placed c.args.fitted.now c.requires.fitted c.args.object Writing c.in-Some.before
    c.leaves_at-places.result.now c.leaves_at-places.ensures.only c.leaves_at-places.ensures.all _ c.requires.size

pub returns-in-Some : goal.returns-in-Some
returns-in-Some c = reading_needs_test c.args.fitted.now c.requires.fitted c.args.object c.args.version c.in-Some.before
    c.leaves_at-places.result.now c.leaves_at-places.ensures.only c.leaves_at-places.ensures.all c.args.positions.now c.are_inside.result
    c.in-Some.ensures c.are_inside.ensures
