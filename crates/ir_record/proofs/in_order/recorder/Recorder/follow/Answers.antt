use Rattle.std.proofs.Common.{◌+◌, ◌++◌, take, drop, refl, ◌∙◌}
use Rattle.ir_record.specs.Progress.{Progress}
use Rattle.ir_record.specs.Recorders.{progress_of}
use Rattle.ir_record.specs.Recording.{turns_of_items}
use Rattle.ir_record.proofs.Steps.{took_turns_of_empty}
use Rattle.ir_record.proofs.Following.{took_next_item, turns_split_at_item, took_all_items}
use Rattle.ir_record.proofs.Stopped.{if_err_of_its_error, stopped_in_longer_turns, stopped_turns_after}
use Rattle.ir_record.proofs.Ready.{stays_ready_first_failed}
use Rattle.ir_record.proofs.in_order.recorder.Recorder.follow.Goals as goal

pub order-init : goal.order-init
order-init g c = record {
  took = took_turns_of_empty (progress_of g.W.World.answers c.args.self.now);
  ready =
      c.requires;
  kept = refl;
}

pub order-preserved : goal.order-preserved
order-preserved g c = record {
  took = took_next_item c.args.order.now c.order.item-index _
      (progress_of g.W.World.answers c.args.self.now)
      (progress_of g.W.World.answers c.order.self)
      (progress_of g.W.World.answers c.follow_item.new.self)
      c.order-test.true c.order.invariant.took c.in_ok-follow_item.ensures.took;
  ready = c.in_ok-follow_item.ensures.stays.ready;
  kept = c.follow_item.ensures.stays.same_worlds ∙ c.order.invariant.kept;
}

pub returns-clause-took : goal.returns-clause-took
returns-clause-took g c = took_all_items c.args.order.now c.order.item-index
    (progress_of g.W.World.answers c.args.self.now)
    (progress_of g.W.World.answers c.order.self) c.order-test.false c.order.invariant.took

pub returns-in_err-follow_item-clause-stopped : goal.returns-in_err-follow_item-clause-stopped
returns-in_err-follow_item-clause-stopped g c = if_err_of_its_error _ c.from_residual.result c.in_err-follow_item.field-0.0 c.from_residual.ensures.1 (
    let entry : Progress = progress_of g.W.World.answers c.args.self.now in
    let before : Progress = progress_of g.W.World.answers c.order.self in
    let first = turns_of_items (take c.order.item-index c.args.order.now) in
    stopped_in_longer_turns (first ++ _) (turns_of_items (drop (c.order.item-index + 1) c.args.order.now)) (turns_of_items c.args.order.now)
    entry _ _ (turns_split_at_item c.args.order.now c.order.item-index _ c.order-test.true)
    (stopped_turns_after first _ entry before _ _ c.order.invariant.took c.in_err-follow_item.ensures.stopped)
    )

pub returns-clause-stays : goal.returns-clause-stays
returns-clause-stays g c = record { ready = c.order.invariant.ready; failed = tt; same_worlds = c.order.invariant.kept }

pub returns-in_err-follow_item-clause-stays : goal.returns-in_err-follow_item-clause-stays
returns-in_err-follow_item-clause-stays g c = stays_ready_first_failed g.W.World.answers g.W.World.broken g.W.World.origin
    c.args.self.now c.follow_item.new.self c.from_residual.result c.in_err-follow_item.field-0.0 c.from_residual.ensures.1 c.in_err-follow_item.ensures.stays.failed
    (c.follow_item.ensures.stays.same_worlds ∙ c.order.invariant.kept)
