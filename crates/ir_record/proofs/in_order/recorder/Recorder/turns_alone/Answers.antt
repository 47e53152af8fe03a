use Rattle.std.proofs.Common.{◌+◌, [], ◌∷◌, arith, map, replicate, refl, subst, ◌∙◌}
use Rattle.ir_flat.specs.Flat.{tables}
use Rattle.ir_record.specs.Failures.{StoppedAt}
use Rattle.ir_record.specs.Progress.{Progress, progress}
use Rattle.ir_record.specs.Recorders.{progress_of}
use Rattle.ir_record.proofs.Single.{took_private_then_turn, replicate_with_one_more, only_thread_lowers_left}
use Rattle.ir_record.proofs.Steps.{took_no_turns}
use Rattle.ir_record.proofs.Joining.{ready_after_took_order}
use Rattle.ir_record.proofs.Following.{passed_turn_leaves_none, turns_of_thread_add_up}
use Rattle.ir_record.proofs.Stopped.{if_err_of_its_error, stopped_at_unanswered, stopped_after_turns}
use Rattle.ir_record.proofs.Ready.{stays_ready_first_failed}
use Rattle.ir_record.proofs.in_order.recorder.Recorder.turns_alone.Goals as goal

pub turns-init : goal.turns-init
turns-init g c = record {
  took = (0, took_no_turns (progress_of g.W.World.answers c.args.self.now));
  one = c.requires.one;
  ready = c.requires.ready;
  kept = refl;
}

pub turn_by_ask-requires-clause-ready : goal.turn_by_ask-requires-clause-ready
turn_by_ask-requires-clause-ready g c =
    ready_after_took_order (replicate c.run-ran.result.0 0) (progress_of g.W.World.answers c.turns.self)
    (progress c.run-ran.new.self (map g.W.World.answers c.turns.self.worlds.items)) (map g.W.World.broken c.turns.self.worlds.items)
    c.turns.invariant.ready (c.run-ran.ensures.took (map g.W.World.answers c.turns.self.worlds.items)) c.run-ran.ensures.has_logs refl

pub turn_by_ask-requires-clause-thread : goal.turn_by_ask-requires-clause-thread
turn_by_ask-requires-clause-thread g c =
    let ran = c.run-ran.ensures.took (map g.W.World.answers c.turns.self.worlds.items) in
    let one = c.turns.invariant.one in
    omega (arith, one, ran.threads)

pub returns-then-not-branch-clause-took : goal.returns-then-not-branch-clause-took
returns-then-not-branch-clause-took g c =
    let before : Progress = progress_of g.W.World.answers c.turns.self in
    let ran : Progress = progress c.run-ran.new.self (map g.W.World.answers c.turns.self.worlds.items) in (
      c.turns.invariant.took.0 + c.run-ran.result.0 + 1,
      took_private_then_turn 0 c.turns.invariant.took.0 c.run-ran.result.0 (progress_of g.W.World.answers c.args.self.now) before ran
          (progress_of g.W.World.answers c.turn_by_ask.new.self) c.in_ok-turn_by_ask.field-0 c.turns.invariant.took.1
          (c.run-ran.ensures.took (map g.W.World.answers c.turns.self.worlds.items)) c.in_ok-turn_by_ask.ensures.took,
    )

pub returns-then-not-branch-clause-over : goal.returns-then-not-branch-clause-over
returns-then-not-branch-clause-over g c =
    passed_turn_leaves_none 0 (progress c.run-ran.new.self (map g.W.World.answers c.turns.self.worlds.items))
    (progress_of g.W.World.answers c.turn_by_ask.new.self) c.in_ok-turn_by_ask.field-0 c.if-not-branch.true c.in_ok-turn_by_ask.ensures.took

pub turns-preserved : goal.turns-preserved
turns-preserved g c =
    let before : Progress = progress_of g.W.World.answers c.turns.self in
    let ran : Progress = progress c.run-ran.new.self (map g.W.World.answers c.turns.self.worlds.items) in
    let took = c.run-ran.ensures.took (map g.W.World.answers c.turns.self.worlds.items) in
    record {
      took = (
        c.turns.invariant.took.0 + c.run-ran.result.0 + 1,
        took_private_then_turn 0 c.turns.invariant.took.0 c.run-ran.result.0 (progress_of g.W.World.answers c.args.self.now) before ran
            (progress_of g.W.World.answers c.turn_by_ask.new.self) c.in_ok-turn_by_ask.field-0 c.turns.invariant.took.1 took
            c.in_ok-turn_by_ask.ensures.took,
      );
      one = c.in_ok-turn_by_ask.ensures.took.took.threads ∙ took.threads ∙ c.turns.invariant.one;
      ready = c.in_ok-turn_by_ask.ensures.stays.ready;
      kept = c.turn_by_ask.ensures.stays.same_worlds ∙ c.turns.invariant.kept;
    }

pub turns-smaller : goal.turns-smaller
turns-smaller g c =
    only_thread_lowers_left c.run-ran.result.0 (progress_of g.W.World.answers c.turns.self)
    (progress c.run-ran.new.self (map g.W.World.answers c.turns.self.worlds.items)) (progress_of g.W.World.answers c.turn_by_ask.new.self)
    c.in_ok-turn_by_ask.field-0 c.if-not-branch.false c.turns.invariant.one
    (c.run-ran.ensures.took (map g.W.World.answers c.turns.self.worlds.items)) c.in_ok-turn_by_ask.ensures.took

pub returns-in_err-turn_by_ask-clause-stopped : goal.returns-in_err-turn_by_ask-clause-stopped
returns-in_err-turn_by_ask-clause-stopped g c = if_err_of_its_error _ c.from_residual.result c.in_err-turn_by_ask.field-0.0 c.from_residual.ensures.1 (
    let entry : Progress = progress_of g.W.World.answers c.args.self.now in
    let before : Progress = progress_of g.W.World.answers c.turns.self in
    let ran : Progress = progress c.run-ran.new.self (map g.W.World.answers c.turns.self.worlds.items) in
    let failed = map g.W.World.broken c.turns.self.worlds.items in
    let took = c.run-ran.ensures.took (map g.W.World.answers c.turns.self.worlds.items) in
    let named = c.in_err-turn_by_ask.field-0.0.thread in
    let answers = map g.W.World.answers c.turn_by_ask.new.self.worlds.items in
    let taken = c.turns.invariant.took.0 + c.run-ran.result.0 in (
      taken + 1,
      subst (λ order. StoppedAt order (tables entry.flat) entry named answers) (replicate_with_one_more 0 taken)
          (stopped_after_turns (replicate taken 0) (0 ∷ []) entry ran named answers
          (turns_of_thread_add_up 0 c.turns.invariant.took.0 c.run-ran.result.0 taken entry before ran refl c.turns.invariant.took.1 took)
          (stopped_at_unanswered 0 (tables ran.flat) ran named answers failed
          (ready_after_took_order (replicate c.run-ran.result.0 0) before ran failed c.turns.invariant.ready took c.run-ran.ensures.has_logs refl)
          refl c.in_err-turn_by_ask.ensures.stopped)),
    )
    )

pub returns-then-not-branch-clause-stays : goal.returns-then-not-branch-clause-stays
returns-then-not-branch-clause-stays g c = record { ready = c.in_ok-turn_by_ask.ensures.stays.ready; failed = tt; same_worlds = c.turn_by_ask.ensures.stays.same_worlds ∙ c.turns.invariant.kept }

pub returns-in_err-turn_by_ask-clause-stays : goal.returns-in_err-turn_by_ask-clause-stays
returns-in_err-turn_by_ask-clause-stays g c = stays_ready_first_failed g.W.World.answers g.W.World.broken g.W.World.origin
    c.args.self.now c.turn_by_ask.new.self c.from_residual.result c.in_err-turn_by_ask.field-0.0 c.from_residual.ensures.1 c.in_err-turn_by_ask.ensures.stays.failed
    (c.turn_by_ask.ensures.stays.same_worlds ∙ c.turns.invariant.kept)
