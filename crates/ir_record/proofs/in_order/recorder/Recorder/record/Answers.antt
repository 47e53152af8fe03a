use Rattle.std.proofs.Common.{[], ◌++◌, length, map, replicate, refl, sym, ap, ◌∙◌, subst}
use Rattle.ir_flat.specs.Flat.{tables}
use Rattle.ir_runs.specs.Run.{rounds}
use Rattle.ir_record.specs.Failures.{StoppedAt}
use Rattle.ir_record.specs.Progress.{Progress, TookSteps}
use Rattle.ir_record.specs.Recorders.{progress_of}
use Rattle.ir_record.specs.Recording.{turns_of_items}
use Rattle.ir_record.specs.Refusing.{plain_turns}
use Rattle.ir_record.proofs.Steps.{took_turns_of_append, took_plain_turns}
use Rattle.ir_record.proofs.Stopped.{if_err_of_its_error, stopped_plain_turns, stopped_in_longer_turns, stopped_turns_after}
use Rattle.ir_record.proofs.Ready.{stays_ready_first_failed}
use Rattle.ir_record.proofs.in_order.recorder.Recorder.record.Goals as goal

pub returns-clause-took : goal.returns-clause-took
returns-clause-took g c =
    let entry = progress_of g.W.World.answers c.args.self.now in
    let mid = progress_of g.W.World.answers c.follow.new.self in
    let new = progress_of g.W.World.answers c.rounds.new.self in
    let n = length c.args.self.now.guest.flat.threads in
    let count = c.in_ok-rounds.ensures.took.0 in (
      count,
      took_turns_of_append (turns_of_items c.args.order.now) (plain_turns (rounds n count)) entry mid new c.in_ok-follow.ensures.took
          (took_plain_turns (rounds n count) mid new
          (subst (λ k. TookSteps (rounds k count) mid new) c.in_ok-follow.ensures.took.moved.threads c.in_ok-rounds.ensures.took.1)),
    )

pub rounds-requires-clause-level : goal.rounds-requires-clause-level
rounds-requires-clause-level g c = c.requires.level ∙ ap (λ n. replicate n 0) (sym c.in_ok-follow.ensures.took.moved.threads)

pub rounds-requires-clause-asks : goal.rounds-requires-clause-asks
rounds-requires-clause-asks g c = c.requires.asks ∙ sym c.in_ok-follow.ensures.took.moved.threads

pub returns-in_err-follow-clause-stopped : goal.returns-in_err-follow-clause-stopped
returns-in_err-follow-clause-stopped g c = if_err_of_its_error _ c.from_residual.result c.in_err-follow.field-0.0 c.from_residual.ensures.1 (
    let turns = turns_of_items c.args.order.now in (
      0,
      stopped_in_longer_turns turns [] (turns ++ plain_turns (rounds (length c.args.self.now.guest.flat.threads) 0))
          (progress_of g.W.World.answers c.args.self.now) _ _ refl c.in_err-follow.ensures.stopped,
    )
    )

pub returns-in_err-rounds-clause-stopped : goal.returns-in_err-rounds-clause-stopped
returns-in_err-rounds-clause-stopped g c = if_err_of_its_error _ c.from_residual-in_err-rounds.result c.in_err-rounds.field-0.0 c.from_residual-in_err-rounds.ensures.1 (
    let entry : Progress = progress_of g.W.World.answers c.args.self.now in
    let mid : Progress = progress_of g.W.World.answers c.follow.new.self in
    let n = length c.args.self.now.guest.flat.threads in
    let failed = c.in_err-rounds.field-0.0.thread in
    let answers = map g.W.World.answers c.rounds.new.self.worlds.items in
    let k = c.in_err-rounds.ensures.stopped in (
      k.0,
      stopped_turns_after (turns_of_items c.args.order.now) (plain_turns (rounds n k.0)) entry mid failed answers c.in_ok-follow.ensures.took
          (stopped_plain_turns (rounds n k.0) mid failed answers
          (subst (λ i. StoppedAt (rounds i k.0) (tables mid.flat) mid failed answers) c.in_ok-follow.ensures.took.moved.threads k.1)),
    )
    )

pub returns-clause-stays : goal.returns-clause-stays
returns-clause-stays g c = record { ready = c.in_ok-rounds.ensures.stays.ready; failed = tt; same_worlds = c.rounds.ensures.stays.same_worlds ∙ c.follow.ensures.stays.same_worlds }

pub returns-in_err-follow-clause-stays : goal.returns-in_err-follow-clause-stays
returns-in_err-follow-clause-stays g c = stays_ready_first_failed g.W.World.answers g.W.World.broken g.W.World.origin
    c.args.self.now c.follow.new.self c.from_residual.result c.in_err-follow.field-0.0 c.from_residual.ensures.1 c.in_err-follow.ensures.stays.failed
    c.follow.ensures.stays.same_worlds

pub returns-in_err-rounds-clause-stays : goal.returns-in_err-rounds-clause-stays
returns-in_err-rounds-clause-stays g c = stays_ready_first_failed g.W.World.answers g.W.World.broken g.W.World.origin
    c.args.self.now c.rounds.new.self c.from_residual-in_err-rounds.result c.in_err-rounds.field-0.0 c.from_residual-in_err-rounds.ensures.1 c.in_err-rounds.ensures.stays.failed
    (c.rounds.ensures.stays.same_worlds ∙ c.follow.ensures.stays.same_worlds)
