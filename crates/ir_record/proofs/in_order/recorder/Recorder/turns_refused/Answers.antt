use Rattle.std.proofs.Common.{◌≡◌, ◌-◌, true, [], ◌∷◌, ◌++◌, replicate, refl, subst, ◌∙◌, arith}
use Rattle.ir_record.specs.Progress.{Progress, TookTurns}
use Rattle.ir_record.specs.Recorders.{progress_of}
use Rattle.ir_record.specs.Refusing.{Turn}
use Rattle.ir_record.proofs.Following.{took_one_more_repeat, replicate_around, took_all_without_step}
use Rattle.ir_record.proofs.Steps.{took_turns_of_empty}
use Rattle.ir_record.proofs.Stopped.{if_err_of_its_error, stopped_in_longer_turns, stopped_turns_after}
use Rattle.ir_record.proofs.Ready.{stays_ready_first_failed}
use Rattle.ir_record.proofs.in_order.recorder.Recorder.turns_refused.Goals as goal

pub turns-init : goal.turns-init
turns-init g c =
    let entry : Progress = progress_of g.W.World.answers c.args.self.now in
    record {
      few = omega arith;
      took = subst (λ n. TookTurns (replicate n (c.args.t, true)) entry entry) (let e : 0 ≡ c.args.count - c.args.count = omega arith in e)
          (took_turns_of_empty entry);
      ready = c.requires;
      kept = refl;
    }

pub turns-preserved : goal.turns-preserved
turns-preserved g c =
    let few = c.turns.invariant.few in
    record {
      few = omega (arith, few);
      took = took_one_more_repeat (c.args.t, true) c.args.count c.turns.left (progress_of g.W.World.answers c.args.self.now)
          (progress_of g.W.World.answers c.turns.self) (progress_of g.W.World.answers c.turn_refused.new.self) few
          (omega (arith, c.turns-test.true)) c.turns.invariant.took c.in_ok-turn_refused.ensures.took;
      ready = c.in_ok-turn_refused.ensures.stays.ready;
      kept = c.turn_refused.ensures.stays.same_worlds ∙ c.turns.invariant.kept;
    }

pub returns-then-not-branch-clause-took : goal.returns-then-not-branch-clause-took
returns-then-not-branch-clause-took g c =
    let few = c.turns.invariant.few in
    took_all_without_step c.args.t c.args.count (c.turns.left - 1) true (progress_of g.W.World.answers c.args.self.now)
    (progress_of g.W.World.answers c.turn_refused.new.self) (omega (arith, few))
    (took_one_more_repeat (c.args.t, true) c.args.count c.turns.left (progress_of g.W.World.answers c.args.self.now)
    (progress_of g.W.World.answers c.turns.self) (progress_of g.W.World.answers c.turn_refused.new.self) few
    (omega (arith, c.turns-test.true)) c.turns.invariant.took c.in_ok-turn_refused.ensures.took)
    (c.in_ok-turn_refused.ensures.none c.if-not-branch.true)

pub returns-in_err-turn_refused-clause-stopped : goal.returns-in_err-turn_refused-clause-stopped
returns-in_err-turn_refused-clause-stopped g c = if_err_of_its_error _ c.from_residual.result c.in_err-turn_refused.field-0.0 c.from_residual.ensures.1 (
    let entry : Progress = progress_of g.W.World.answers c.args.self.now in
    let one : Turn = (c.args.t, true) in
    let first = replicate (c.args.count - c.turns.left) one in
    let few = c.turns.invariant.few in
    stopped_in_longer_turns (first ++ one ∷ []) (replicate (c.turns.left - 1) one) (replicate c.args.count one) entry _ _
    (replicate_around one c.args.count c.turns.left few (omega (arith, c.turns-test.true)))
    (stopped_turns_after first (one ∷ []) entry (progress_of g.W.World.answers c.turns.self) _ _ c.turns.invariant.took
    c.in_err-turn_refused.ensures.stopped)
    )

pub returns-then-not-branch-clause-stays : goal.returns-then-not-branch-clause-stays
returns-then-not-branch-clause-stays g c = record { ready = c.in_ok-turn_refused.ensures.stays.ready; failed = tt; same_worlds = c.turn_refused.ensures.stays.same_worlds ∙ c.turns.invariant.kept }

pub returns-clause-stays : goal.returns-clause-stays
returns-clause-stays g c = record { ready = c.turns.invariant.ready; failed = tt; same_worlds = c.turns.invariant.kept }

pub returns-in_err-turn_refused-clause-stays : goal.returns-in_err-turn_refused-clause-stays
returns-in_err-turn_refused-clause-stays g c = stays_ready_first_failed g.W.World.answers g.W.World.broken g.W.World.origin
    c.args.self.now c.turn_refused.new.self c.from_residual.result c.in_err-turn_refused.field-0.0 c.from_residual.ensures.1 c.in_err-turn_refused.ensures.stays.failed
    (c.turn_refused.ensures.stays.same_worlds ∙ c.turns.invariant.kept)
