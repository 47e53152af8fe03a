use Rattle.std.proofs.Common.{◌∙◌}
use Rattle.ir_coherence.proofs.Far.{bounds_by_occurrences, bounds_by_previous}
use Rattle.ir_coherence.proofs.far_versions.FarVersions.both.Goals as goal

pub returns-clause-before : goal.returns-clause-before
returns-clause-before c = c.saturating_sub.ensures
    ∙ bounds_by_previous c.args.version c.args.self.now.versions.items c.below-before.result c.next-here.result c.requires.later
    c.below-before.ensures.below c.below-before.ensures.from c.next-here.ensures.below c.next-here.ensures.from

pub returns-clause-here : goal.returns-clause-here
returns-clause-here c = c.saturating_sub-2.ensures
    ∙ bounds_by_occurrences c.args.version c.args.self.now.versions.items c.next-here.result c.next-after.result c.next-here.ensures.below
    c.next-here.ensures.from c.next-after.ensures.below c.next-after.ensures.from
