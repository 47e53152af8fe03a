use Rattle.std.proofs.Common.{◌∙◌, subst}
use Rattle.ir_past.specs.declared.place.Place.{Place}
use Rattle.ir_why.specs.Before.{IsPast}
use Rattle.ir_why.proofs.Gathered.{all_scanned_is_past}
use Rattle.ir_why.proofs.before.past_of.Goals as goal

pub returns : goal.returns
returns c =
    subst (λ (p : Place). IsPast c.args.trace.now p.thread p.event c.pass.new.past.counts.items)
    (c.in_ok-pass.ensures.of ∙ c.loop-past.invariant.of)
    (all_scanned_is_past c.args.trace.now c.pass.new.past.of.thread c.pass.new.past.of.event c.pass.new.past.counts.items c.pass.new.past.scanned.items
    c.in_ok-pass.ensures.gathered (c.in_ok-pass.ensures.none c.if-branch.false))
