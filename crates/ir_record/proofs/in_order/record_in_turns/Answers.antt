use Rattle.std.proofs.Common.{IfOk, IfErr, ap, ◌∙◌, subst}
use Rattle.ir_record.specs.Recording.{IsRecordedInTurns, IsFailureInTurns, turns_of_items}
use Rattle.ir_record.proofs.in_order.record_in_turns.Goals as goal

pub returns-clause-recorded : goal.returns-clause-recorded
returns-clause-recorded g c =
    subst (λ turns. IfOk c.record_with_refusals.result (IsRecordedInTurns g.W.World.answers c.args.image.now c.args.budget c.args.profile turns c.args.worlds.items))
    (ap turns_of_items c.as_slice.ensures.value ∙ c.in_ok-items.ensures) c.record_with_refusals.ensures.recorded

pub returns-clause-failed : goal.returns-clause-failed
returns-clause-failed g c =
    subst (λ turns. IfErr c.record_with_refusals.result
    (IsFailureInTurns g.W.World.answers g.W.World.broken g.W.World.origin c.args.image.now c.args.budget c.args.profile turns c.args.worlds.items))
    (ap turns_of_items c.as_slice.ensures.value ∙ c.in_ok-items.ensures) c.record_with_refusals.ensures.failed
