use Rattle.std.proofs.Common.{◌≡◌, ℕ, suc, arith, length, map, replicate, sym, ap, ◌∙◌, subst, refl}
use Rattle.std.proofs.lemmas.Bool.{not-false, not-true}
use Rattle.std.proofs.lemmas.List.{length-replicate}
use Rattle.std.specs.List.{range_with_len}
use Rattle.ir_flat.specs.Flat.{tables}
use Rattle.ir_runs.specs.Run.{rounds}
use Rattle.ir_record.specs.Failures.{StoppedAt}
use Rattle.ir_record.specs.Progress.{Progress}
use Rattle.ir_record.specs.Recorders.{progress_of}
use Rattle.ir_record.proofs.Going.{WentRounds, reached, ahead_of_reached_state, no_rounds_change_nothing, one_more_round, caught, all_over}
use Rattle.ir_record.proofs.Joining.{rounds_with_round_added}
use Rattle.ir_record.proofs.Skipping.{RoundThenSkips, round_then_skips}
use Rattle.ir_record.proofs.Single.{only_thread_rounds_took, only_thread_rounds_stop}
use Rattle.ir_record.proofs.Ready.{stays_ready_first_failed}
use Rattle.ir_record.proofs.in_order.recorder.Recorder.rounds.Given as given
use Rattle.ir_record.proofs.Stopped.{if_err_of_its_error, stopped_past_turns}
use Rattle.ir_record.proofs.in_order.recorder.Recorder.rounds.Goals as goal

pub rounds-init : goal.rounds-init
rounds-init g c =
    let n : ℕ = length c.args.self.now.guest.flat.threads in
    let a : Progress = progress_of g.W.World.answers c.args.self.now in
    record {
      went = subst (WentRounds n a a) (sym c.requires.level) (no_rounds_change_nothing n a);
      places = record { leads = ap (λ xs. length xs) c.requires.level ∙ length-replicate {A = ℕ} n 0; asks = c.ask_all.ensures };
      ready = c.requires.ready;
      kept = refl;
    }

-- the rounds so far, the round that was taken, and those that are skipped
skipped : (g : given.Over) (c : goal.After-lower g) → RoundThenSkips c.in_ok-round.round.moved (progress_of g.W.World.answers c.args.self.now)
    (progress_of g.W.World.answers c.rounds.self) (progress_of g.W.World.answers c.round.new.self) c.rounds.ahead.items
    c.lower.new.ahead.items
skipped g c = round_then_skips c.in_ok-round.round.free (one_more_round c.rounds.invariant.went c.rounds.invariant.places.leads c.in_ok-round.ensures.went)
    c.in_ok-round.ensures.places.leads c.lower.ensures.size c.in_ok-round.ensures.free c.lower.ensures.each

pub rounds-preserved : goal.rounds-preserved
rounds-preserved g c = record {
  went = (skipped g c).rounding;
  places = record { leads = c.lower.ensures.size ∙ c.in_ok-round.ensures.places.leads; asks = c.in_ok-round.ensures.places.asks };
  ready = c.in_ok-round.ensures.stays.ready;
  kept = c.round.ensures.stays.same_worlds ∙ c.rounds.invariant.kept;
}

pub rounds-smaller : goal.rounds-smaller
rounds-smaller g c = (skipped g c).fewer (not-false c.in_ok-round.round.moved c.if-not-round.false)

pub returns-then-not-round-clause-took : goal.returns-then-not-round-clause-took
returns-then-not-round-clause-took g c =
    caught (one_more_round c.rounds.invariant.went c.rounds.invariant.places.leads c.in_ok-round.ensures.went)
    (not-true c.in_ok-round.round.moved c.if-not-round.true)

pub returns-then-not-round-clause-over : goal.returns-then-not-round-clause-over
returns-then-not-round-clause-over g c =
    all_over (one_more_round c.rounds.invariant.went c.rounds.invariant.places.leads c.in_ok-round.ensures.went)
    (not-true c.in_ok-round.round.moved c.if-not-round.true)

pub returns-in_err-round-clause-stopped : goal.returns-in_err-round-clause-stopped
returns-in_err-round-clause-stopped g c = if_err_of_its_error _ c.from_residual.result c.in_err-round.field-0.0 c.from_residual.ensures.1 (
    let n : ℕ = length c.args.self.now.guest.flat.threads in
    let a : Progress = progress_of g.W.World.answers c.args.self.now in
    let b : Progress = progress_of g.W.World.answers c.rounds.self in
    let failed : ℕ = c.in_err-round.field-0.0.thread in
    let answers = map g.W.World.answers c.round.new.self.worlds.items in
    let p : WentRounds n a b c.rounds.ahead.items = c.rounds.invariant.went in (
      suc p.0,
      subst (λ order. StoppedAt order (tables a.flat) a failed answers) (rounds_with_round_added n p.0)
          (stopped_past_turns (rounds n p.0) (range_with_len 0 n) (tables a.flat) a b (replicate n 0) c.rounds.ahead.items failed answers p.1
          (subst (λ k. StoppedAt (range_with_len 0 k) (reached p.1) b failed answers) p.1.threads
          (c.in_err-round.ensures.stopped (reached p.1)
          (ahead_of_reached_state (rounds n p.0) (tables a.flat) a b (replicate n 0) c.rounds.ahead.items p.1)))),
    )
    )

pub returns-then-threads-eq1-clause-took : goal.returns-then-threads-eq1-clause-took
returns-then-threads-eq1-clause-took g c =
    let e : length c.threads.result.now ≡ length c.args.self.now.guest.flat.threads = ap (λ xs. length xs) c.threads.ensures.value in
    let one : length c.args.self.now.guest.flat.threads ≡ 1 = omega (arith, e, c.if-threads-eq1.true) in
    only_thread_rounds_took c.turns_alone.result (length c.args.self.now.guest.flat.threads) (progress_of g.W.World.answers c.args.self.now)
    (progress_of g.W.World.answers c.turns_alone.new.self) one c.turns_alone.ensures.took

pub returns-then-threads-eq1-clause-stopped : goal.returns-then-threads-eq1-clause-stopped
returns-then-threads-eq1-clause-stopped g c =
    let e : length c.threads.result.now ≡ length c.args.self.now.guest.flat.threads = ap (λ xs. length xs) c.threads.ensures.value in
    let one : length c.args.self.now.guest.flat.threads ≡ 1 = omega (arith, e, c.if-threads-eq1.true) in
    only_thread_rounds_stop c.turns_alone.result (length c.args.self.now.guest.flat.threads) (tables c.args.self.now.guest.flat)
    (progress_of g.W.World.answers c.args.self.now) (map g.W.World.answers c.turns_alone.new.self.worlds.items) one c.turns_alone.ensures.stopped

pub returns-then-not-round-clause-stays : goal.returns-then-not-round-clause-stays
returns-then-not-round-clause-stays g c = record { ready = c.in_ok-round.ensures.stays.ready; failed = tt; same_worlds = c.round.ensures.stays.same_worlds ∙ c.rounds.invariant.kept }

pub returns-in_err-round-clause-stays : goal.returns-in_err-round-clause-stays
returns-in_err-round-clause-stays g c = stays_ready_first_failed g.W.World.answers g.W.World.broken g.W.World.origin
    c.args.self.now c.round.new.self c.from_residual.result c.in_err-round.field-0.0 c.from_residual.ensures.1 c.in_err-round.ensures.stays.failed
    (c.round.ensures.stays.same_worlds ∙ c.rounds.invariant.kept)
