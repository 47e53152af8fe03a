use Rattle.std.proofs.Common.{subst}
use Rattle.ir_record.specs.Recording.{turns_of_items}
use Rattle.ir_shrink.specs.Stale.{IsWantedInTurns}
use Rattle.ir_shrink.proofs.Judged.{met_is_verdict, unwanted_is_verdict}
use Rattle.ir_shrink.proofs.judging.Judge.stale_judged.Goals as goal

pub returns-then-is_good : goal.returns-then-is_good
returns-then-is_good g c = λ items p. let plan = c.args.self.now.plan.now in
    met_is_verdict c.args.self.now.image.now plan items c.args.played.now.items.items c.args.played.now.flat p c.requires
    (subst (λ b. IsWantedInTurns c.args.self.now.image.now plan.record (turns_of_items c.args.played.now.items.items) plan.stale b) c.if-is_good.true
    (subst (λ xs. IsWantedInTurns c.args.self.now.image.now plan.record (turns_of_items xs) plan.stale c.in_ok-is_good.is_good) c.as_slice.ensures.value
    c.in_ok-is_good.ensures))

pub returns : goal.returns
returns g c = λ items p. let plan = c.args.self.now.plan.now in
    unwanted_is_verdict c.args.self.now.image.now plan items c.args.played.now.items.items c.args.played.now.flat p
    (subst (λ b. IsWantedInTurns c.args.self.now.image.now plan.record (turns_of_items c.args.played.now.items.items) plan.stale b) c.if-is_good.false
    (subst (λ xs. IsWantedInTurns c.args.self.now.image.now plan.record (turns_of_items xs) plan.stale c.in_ok-is_good.is_good) c.as_slice.ensures.value
    c.in_ok-is_good.ensures))
