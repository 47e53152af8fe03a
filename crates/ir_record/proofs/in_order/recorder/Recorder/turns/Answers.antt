use Rattle.std.proofs.Common.{◌≡◌, ◌-◌, ◌+◌, [], ◌∷◌, ◌++◌, arith, map, length, replicate, refl, ap, subst, ◌∙◌}
use Rattle.ir_flat.specs.Flat.{tables}
use Rattle.ir_record.specs.Progress.{Progress, progress, TookSteps}
use Rattle.ir_record.specs.Recorders.{progress_of}
use Rattle.ir_record.proofs.Steps.{took_no_turns}
use Rattle.ir_record.proofs.Joining.{ready_after_took_order}
use Rattle.ir_record.proofs.Following.{missing_has_no_step, passed_turn_leaves_none, took_all_repeats, turns_of_thread_add_up, took_private_and_turn}
use Rattle.ir_record.proofs.Stopped.{if_err_of_its_error, replicate_around_later, stopped_at_unanswered, stopped_in_longer_order, stopped_after_turns}
use Rattle.ir_record.proofs.Ready.{stays_ready_first_failed}
use Rattle.ir_record.proofs.in_order.recorder.Recorder.turns.Goals as goal

pub turns-init : goal.turns-init
turns-init g c =
    let entry : Progress = progress_of g.W.World.answers c.args.self.now in
    record {
      few = omega arith;
      took = subst (λ n. TookSteps (replicate n c.args.t) entry entry) (let e : 0 ≡ c.args.count - c.args.count = omega arith in e)
          (took_no_turns entry);
      ready = c.requires;
      kept = refl;
    }

pub returns-then-t-threads-clause-took : goal.returns-then-t-threads-clause-took
returns-then-t-threads-clause-took g c =
    took_all_repeats c.args.t c.args.count c.turns.left (progress_of g.W.World.answers c.args.self.now)
    (progress_of g.W.World.answers c.turns.self) c.turns.invariant.few c.turns.invariant.took
    (missing_has_no_step c.turns.self.guest.flat c.args.t
    (let e : length c.threads.result.now ≡ length c.turns.self.guest.flat.threads = ap (λ xs. length xs) c.threads.ensures.value in
    omega (arith, e, c.if-t-threads.true)))

pub turn_asked-requires-clause-ready : goal.turn_asked-requires-clause-ready
turn_asked-requires-clause-ready g c =
    ready_after_took_order (replicate c.run-ran.result.0 c.args.t) (progress_of g.W.World.answers c.turns.self)
    (progress c.run-ran.new.self (map g.W.World.answers c.turns.self.worlds.items)) (map g.W.World.broken c.turns.self.worlds.items)
    c.turns.invariant.ready (c.run-ran.ensures.took (map g.W.World.answers c.turns.self.worlds.items)) c.run-ran.ensures.has_logs refl

pub turn_asked-requires-clause-thread : goal.turn_asked-requires-clause-thread
turn_asked-requires-clause-thread g c =
    let e : length c.threads.result.now ≡ length c.turns.self.guest.flat.threads = ap (λ xs. length xs) c.threads.ensures.value in
    let ran = c.run-ran.ensures.took (map g.W.World.answers c.turns.self.worlds.items) in
    omega (arith, e, ran.threads, c.if-t-threads.false)

pub returns-then-not-branch-clause-took : goal.returns-then-not-branch-clause-took
returns-then-not-branch-clause-took g c =
    let entry : Progress = progress_of g.W.World.answers c.args.self.now in
    let before : Progress = progress_of g.W.World.answers c.turns.self in
    let ran : Progress = progress c.run-ran.new.self (map g.W.World.answers c.turns.self.worlds.items) in
    let new : Progress = progress_of g.W.World.answers c.turn_asked.new.self in
    let few = c.turns.invariant.few in
    let within = c.run-ran.ensures.within in
    took_all_repeats c.args.t c.args.count (c.turns.left - (c.run-ran.result.0 + 1)) entry new (omega (arith, few))
    (took_private_and_turn c.args.t c.args.count c.turns.left c.run-ran.result.0 entry before ran new c.in_ok-turn_asked.field-0 few
    (omega (arith, c.turns-test.true)) (omega (arith, within)) c.turns.invariant.took
    (c.run-ran.ensures.took (map g.W.World.answers c.turns.self.worlds.items)) c.in_ok-turn_asked.ensures.took)
    (passed_turn_leaves_none c.args.t ran new c.in_ok-turn_asked.field-0 c.if-not-branch.true c.in_ok-turn_asked.ensures.took)

pub turns-preserved : goal.turns-preserved
turns-preserved g c =
    let entry : Progress = progress_of g.W.World.answers c.args.self.now in
    let before : Progress = progress_of g.W.World.answers c.turns.self in
    let ran : Progress = progress c.run-ran.new.self (map g.W.World.answers c.turns.self.worlds.items) in
    let new : Progress = progress_of g.W.World.answers c.turn_asked.new.self in
    let few = c.turns.invariant.few in
    let within = c.run-ran.ensures.within in
    record {
      few = omega (arith, few);
      took = took_private_and_turn c.args.t c.args.count c.turns.left c.run-ran.result.0 entry before ran new c.in_ok-turn_asked.field-0 few
          (omega (arith, c.turns-test.true)) (omega (arith, within)) c.turns.invariant.took
          (c.run-ran.ensures.took (map g.W.World.answers c.turns.self.worlds.items)) c.in_ok-turn_asked.ensures.took;
      ready = c.in_ok-turn_asked.ensures.stays.ready;
      kept = c.turn_asked.ensures.stays.same_worlds ∙ c.turns.invariant.kept;
    }

pub returns-in_err-turn_asked-clause-stopped : goal.returns-in_err-turn_asked-clause-stopped
returns-in_err-turn_asked-clause-stopped g c = if_err_of_its_error _ c.from_residual.result c.in_err-turn_asked.field-0.0 c.from_residual.ensures.1 (
    let entry : Progress = progress_of g.W.World.answers c.args.self.now in
    let before : Progress = progress_of g.W.World.answers c.turns.self in
    let ran : Progress = progress c.run-ran.new.self (map g.W.World.answers c.turns.self.worlds.items) in
    let failed = map g.W.World.broken c.turns.self.worlds.items in
    let few = c.turns.invariant.few in
    let within = c.run-ran.ensures.within in
    let took = c.run-ran.ensures.took (map g.W.World.answers c.turns.self.worlds.items) in
    let taken = c.args.count - c.turns.left + c.run-ran.result.0 in
    stopped_in_longer_order (replicate taken c.args.t ++ c.args.t ∷ []) (replicate (c.turns.left - (c.run-ran.result.0 + 1)) c.args.t)
    (replicate c.args.count c.args.t) (tables entry.flat) entry _ _
    (replicate_around_later c.args.t c.args.count c.turns.left c.run-ran.result.0 few (omega (arith, c.turns-test.true)) (omega (arith, within)))
    (stopped_after_turns (replicate taken c.args.t) (c.args.t ∷ []) entry ran _ _
    (turns_of_thread_add_up c.args.t (c.args.count - c.turns.left) c.run-ran.result.0 taken entry before ran refl c.turns.invariant.took took)
    (stopped_at_unanswered c.args.t (tables ran.flat) ran _ _ failed
    (ready_after_took_order (replicate c.run-ran.result.0 c.args.t) before ran failed c.turns.invariant.ready took c.run-ran.ensures.has_logs refl)
    refl c.in_err-turn_asked.ensures.stopped))
    )

pub returns-then-not-branch-clause-stays : goal.returns-then-not-branch-clause-stays
returns-then-not-branch-clause-stays g c = record { ready = c.in_ok-turn_asked.ensures.stays.ready; failed = tt; same_worlds = c.turn_asked.ensures.stays.same_worlds ∙ c.turns.invariant.kept }

pub returns-then-t-threads-clause-stays : goal.returns-then-t-threads-clause-stays
returns-then-t-threads-clause-stays g c = record { ready = c.turns.invariant.ready; failed = tt; same_worlds = c.turns.invariant.kept }

pub returns-clause-stays : goal.returns-clause-stays
returns-clause-stays g c = record { ready = c.turns.invariant.ready; failed = tt; same_worlds = c.turns.invariant.kept }

pub returns-in_err-turn_asked-clause-stays : goal.returns-in_err-turn_asked-clause-stays
returns-in_err-turn_asked-clause-stays g c = stays_ready_first_failed g.W.World.answers g.W.World.broken g.W.World.origin
    c.args.self.now c.turn_asked.new.self c.from_residual.result c.in_err-turn_asked.field-0.0 c.from_residual.ensures.1 c.in_err-turn_asked.ensures.stays.failed
    (c.turn_asked.ensures.stays.same_worlds ∙ c.turns.invariant.kept)
