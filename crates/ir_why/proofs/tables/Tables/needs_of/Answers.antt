use Rattle.std.proofs.Common.{List, sym, subst}
use Rattle.ir_past.specs.declared.place.Place.{Place}
use Rattle.ir_why.specs.Needed.{AreNeeds}
use Rattle.ir_why.proofs.NeedLists.{needs_in_are_needs}
use Rattle.ir_why.proofs.Gathered.{needed_events_exist}
use Rattle.ir_why.proofs.tables.Tables.needs_of.Goals as goal

pub returns-clause-needs : goal.returns-clause-needs
returns-clause-needs c =
    subst (λ (needs : List Place). AreNeeds c.args.trace.now c.args.here.thread c.args.here.event needs) (sym c.in_ok-needs.ensures)
    (needs_in_are_needs c.args.trace.now c.args.self.now c.args.here.thread c.args.here.event c.event_of.result c.requires.coherent c.requires.tables
    c.event_of.ensures)

pub returns-clause-there : goal.returns-clause-there
returns-clause-there c = needed_events_exist c.args.trace.now c.args.here.thread c.args.here.event c.in_ok-needs.needs.items c.threads.ensures.within
    (subst (λ (needs : List Place). AreNeeds c.args.trace.now c.args.here.thread c.args.here.event needs) (sym c.in_ok-needs.ensures)
    (needs_in_are_needs c.args.trace.now c.args.self.now c.args.here.thread c.args.here.event c.event_of.result c.requires.coherent c.requires.tables
    c.event_of.ensures))
