use Rattle.std.proofs.Common.{◌<◌, ◌∙◌, length, get_or, sym, subst}
use Rattle.std.specs.List.{Contains}
use Rattle.std.proofs.lemmas.List.Elements.{All-get_or}
use Rattle.ir_schedule.proofs.Leaders.{highest_rank_next, higher_is_second, higher_is_first, get_or_is_contained}
use Rattle.ir_schedule.proofs.ranking.leader.Goals as goal
use Rattle.ir_schedule.proofs.ranking.leader.Goals.{then-priorities-best, else-priorities-best}

pub ready-preserved : goal.ready-preserved
ready-preserved c = elim c.if-priorities-best.branch [
  | then-priorities-best w ↦ record {
    below = subst (λ t. t < length c.args.priorities.now) (sym w.best-is)
        (All-get_or (λ t. t < length c.args.priorities.now) c.args.ready.now c.ready.thread-index 0 c.ready-test.true c.requires.within);
    member = get_or_is_contained c.args.ready.now c.ready.thread-index c.if-priorities-best.best c.ready-test.true w.best-is;
    rest = highest_rank_next c.args.priorities.now c.args.ready.now c.ready.thread-index c.ready.best c.if-priorities-best.best c.ready-test.true
        (higher_is_second c.args.priorities.now c.ready.best (get_or c.args.ready.now c.ready.thread-index 0) c.if-priorities-best.best w.if-priorities-best.true w.best-is)
        ∙ c.ready.invariant.rest;
  }
  | else-priorities-best w ↦ record {
    below = subst (λ t. t < length c.args.priorities.now) (sym w.best-is) c.ready.invariant.below;
    member = subst (λ t. Contains c.args.ready.now t) (sym w.best-is) c.ready.invariant.member;
    rest = highest_rank_next c.args.priorities.now c.args.ready.now c.ready.thread-index c.ready.best c.if-priorities-best.best c.ready-test.true
        (higher_is_first c.args.priorities.now c.ready.best (get_or c.args.ready.now c.ready.thread-index 0) c.if-priorities-best.best w.if-priorities-best.false w.best-is)
        ∙ c.ready.invariant.rest;
  }
]
