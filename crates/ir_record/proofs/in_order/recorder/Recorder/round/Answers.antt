use Rattle.std.proofs.Common.{◌≡◌, ◌<◌, ◌+◌, ◌-◌, ℕ, List, [], ◌∷◌, ◌++◌, arith, length, ap, sym, subst, refl, ◌∙◌}
use Rattle.std.specs.List.{range_with_len}
use Rattle.ir_record.specs.Ahead.{lead_of_thread, CanSkip, WentIf}
use Rattle.ir_flat.specs.Flat.{tables, machine}
use Rattle.ir_record.specs.RoundResults.{Noted}
use Rattle.ir_record.specs.Progress.{Progress}
use Rattle.ir_record.specs.Recorders.{progress_of}
use Rattle.ir_record.proofs.Going.{lead_is_element, went_no_turns, reached, ahead_of_reached_state}
use Rattle.ir_record.proofs.RoundResults.{round_after_no_turns, round_after_turns_step, went_noted_turn}
use Rattle.ir_record.proofs.Stopped.{if_err_of_its_error, range_splits_at_number, stopped_in_longer_order, stopped_past_turns}
use Rattle.ir_record.proofs.Ready.{stays_ready_first_failed}
use Rattle.ir_record.proofs.in_order.recorder.Recorder.round.Goals as goal

pub loop-t-init : goal.loop-t-init
loop-t-init g c = record {
  went = λ s h. subst (λ z. WentIf z [] s (progress_of g.W.World.answers c.args.self.now)
      c.args.ahead.now.items (progress_of g.W.World.answers c.args.self.now) c.args.ahead.now.items)
      (sym c.new-round.ensures.moved)
      (went_no_turns s (progress_of g.W.World.answers c.args.self.now) c.args.ahead.now.items h);
  so_far = round_after_no_turns c.new-round.result c.args.ahead.now.items c.args.self.now.guest.flat;
  places = c.requires.places;
  threads = refl;
  ready = c.requires.ready;
  kept = refl;
}

pub loop-t-preserved : goal.loop-t-preserved
loop-t-preserved g c = record {
  went = λ s h.
      let a : Progress = progress_of g.W.World.answers c.args.self.now in
      let b : Progress = progress_of g.W.World.answers c.loop-t.self in
      let e : Progress = progress_of g.W.World.answers c.turn_ahead.new.self in
      let p : WentIf c.loop-t.round.moved (range_with_len 0 c.loop-t.t) s a c.args.ahead.now.items b c.loop-t.ahead.items =
      c.loop-t.invariant.went s h in
      let q = c.in_ok-outcome.ensures.went (reached p.went)
      (ahead_of_reached_state (range_with_len 0 c.loop-t.t) s a b c.args.ahead.now.items c.loop-t.ahead.items p.went) in
      went_noted_turn c.in_ok-outcome.outcome c.loop-t.t c.index.result.now c.loop-t.round c.note.new.self s a b e c.args.ahead.now.items
      c.loop-t.ahead.items c.turn_ahead.new.ahead.items p q c.note.ensures;
  so_far =
      let d : List ℕ = c.turn_ahead.new.ahead.items in
      let below : c.loop-t.t < length d = (let e : length c.threads-t-end.result.now ≡ length c.args.self.now.guest.flat.threads =
      ap (λ xs. length xs) c.threads-t-end.ensures.value in
      omega (
        arith,
        e,
        c.loop-t-test.true,
        c.loop-t.auto.t-end,
        c.in_ok-outcome.ensures.places.leads,
        c.in_ok-outcome.ensures.turn.threads,
        c.loop-t.invariant.threads,
      )) in
      let here : lead_of_thread d c.loop-t.t ≡ c.index.result.now = lead_is_element d c.loop-t.t c.index.result.now below c.index.ensures in
      round_after_turns_step c.in_ok-outcome.outcome c.loop-t.t c.loop-t.round c.note.new.self c.loop-t.ahead.items d c.loop-t.self.guest.flat
      c.turn_ahead.new.self.guest.flat c.loop-t.invariant.so_far
      c.in_ok-outcome.ensures.turn
      (subst (λ k. Noted c.in_ok-outcome.outcome k c.loop-t.round c.note.new.self) (sym here) c.note.ensures);
  places = c.in_ok-outcome.ensures.places;
  threads = c.in_ok-outcome.ensures.turn.threads ∙ c.loop-t.invariant.threads;
  ready = c.in_ok-outcome.ensures.stays.ready;
  kept = c.turn_ahead.ensures.stays.same_worlds ∙ c.loop-t.invariant.kept;
}

pub returns-clause-went : goal.returns-clause-went
returns-clause-went g c = λ s h. subst (λ n. WentIf c.loop-t.round.moved (range_with_len 0 n) s
    (progress_of g.W.World.answers c.args.self.now) c.args.ahead.now.items
    (progress_of g.W.World.answers c.loop-t.self) c.loop-t.ahead.items)
    (let e : length c.threads-t-end.result.now ≡ length c.args.self.now.guest.flat.threads =
    ap (λ xs. length xs) c.threads-t-end.ensures.value in omega (arith, e, c.loop-t-test.false, c.loop-t.auto.t-end))
    (c.loop-t.invariant.went s h)

pub returns-clause-free : goal.returns-clause-free
returns-clause-free g c =
    let e : length c.threads-t-end.result.now ≡ length c.args.self.now.guest.flat.threads =
    ap (λ xs. length xs) c.threads-t-end.ensures.value in
    let all : c.loop-t.t ≡ length c.loop-t.self.guest.flat.threads =
    omega (arith, e, c.loop-t-test.false, c.loop-t.auto.t-end, c.loop-t.invariant.threads) in
    subst (λ n. CanSkip (machine c.loop-t.self.guest.flat) n c.loop-t.round.free c.loop-t.ahead.items (tables c.loop-t.self.guest.flat)) all
    c.loop-t.invariant.so_far.each

pub returns-in_err-outcome-clause-stopped : goal.returns-in_err-outcome-clause-stopped
returns-in_err-outcome-clause-stopped g c = if_err_of_its_error _ c.from_residual.result c.in_err-outcome.field-0.0 c.from_residual.ensures.1 (
    λ s h.
    let a : Progress = progress_of g.W.World.answers c.args.self.now in
    let b : Progress = progress_of g.W.World.answers c.loop-t.self in
    let n : ℕ = length c.args.self.now.guest.flat.threads in
    let e : length c.threads-t-end.result.now ≡ n = ap (λ xs. length xs) c.threads-t-end.ensures.value in
    let below : c.loop-t.t < n = omega (arith, e, c.loop-t-test.true, c.loop-t.auto.t-end) in
    let p : WentIf c.loop-t.round.moved (range_with_len 0 c.loop-t.t) s a c.args.ahead.now.items b c.loop-t.ahead.items =
    c.loop-t.invariant.went s h in
    stopped_in_longer_order (range_with_len 0 c.loop-t.t ++ c.loop-t.t ∷ []) (range_with_len (c.loop-t.t + 1) (n - (c.loop-t.t + 1)))
    (range_with_len 0 n) s a _ _ (range_splits_at_number c.loop-t.t n below)
    (stopped_past_turns (range_with_len 0 c.loop-t.t) (c.loop-t.t ∷ []) s a b c.args.ahead.now.items c.loop-t.ahead.items _ _ p.went
    (c.in_err-outcome.ensures.stopped (reached p.went)
    (ahead_of_reached_state (range_with_len 0 c.loop-t.t) s a b c.args.ahead.now.items c.loop-t.ahead.items p.went)))
    )

pub returns-clause-stays : goal.returns-clause-stays
returns-clause-stays g c = record { ready = c.loop-t.invariant.ready; failed = tt; same_worlds = c.loop-t.invariant.kept }

pub returns-in_err-outcome-clause-stays : goal.returns-in_err-outcome-clause-stays
returns-in_err-outcome-clause-stays g c = stays_ready_first_failed g.W.World.answers g.W.World.broken g.W.World.origin
    c.args.self.now c.turn_ahead.new.self c.from_residual.result c.in_err-outcome.field-0.0 c.from_residual.ensures.1 c.in_err-outcome.ensures.stays.failed
    (c.turn_ahead.ensures.stays.same_worlds ∙ c.loop-t.invariant.kept)
