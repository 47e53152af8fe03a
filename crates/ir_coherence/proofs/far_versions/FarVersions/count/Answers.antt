use Rattle.std.proofs.Common.{◌∙◌}
use Rattle.ir_coherence.proofs.Far.{bounds_by_occurrences}
use Rattle.ir_coherence.proofs.far_versions.FarVersions.count.Goals as goal

pub returns : goal.returns
returns c = c.saturating_sub.ensures ∙ bounds_by_occurrences c.args.version c.args.self.now.versions.items c.below-first.result c.next.result
    c.below-first.ensures.below c.below-first.ensures.from c.next.ensures.below c.next.ensures.from
