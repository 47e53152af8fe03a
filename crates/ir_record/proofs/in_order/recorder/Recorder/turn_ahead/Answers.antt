use Rattle.std.proofs.Common.{◌≡◌, ◌<◌, ◌-◌, ℕ, suc, List, [], ◌∷◌, length, map, set, sym, ap, ◌∙◌, subst, arith, length-set, true, refl, replicate, get_or-set_other}
use Rattle.ir_flat.specs.Flat.{machine, tables}
use Rattle.ir_record.specs.Ahead.{alone, lead_of_thread, AreAsks, WentIf}
use Rattle.ir_record.specs.Progress.{Progress, progress, TookIf}
use Rattle.ir_record.specs.Recorders.{progress_of}
use Rattle.ir_record.proofs.Going.{lead_is_element, passed_leaves_no_step, ahead_turn_lowers_lead, went_passed_turn, went_turn_and_private}
use Rattle.ir_record.proofs.Kept.{get_or_done_element, asks_after_turn}
use Rattle.ir_record.proofs.Joining.{ready_after_took_order}
use Rattle.ir_record.proofs.Stopped.{if_err_of_its_error, stopped_at_unanswered}
use Rattle.ir_record.proofs.Ready.{stays_ready_first_failed}
use Rattle.ir_record.proofs.in_order.recorder.Recorder.turn_ahead.Goals as goal

pub returns-then-lead-gt0-clause-went : goal.returns-then-lead-gt0-clause-went
returns-then-lead-gt0-clause-went g c = λ s h.
    let a : Progress = progress_of g.W.World.answers c.args.self.now in
    let l : c.args.t < length c.args.ahead.now.items = omega (arith, c.requires.places.leads, c.requires.thread) in
    let here : lead_of_thread c.args.ahead.now.items c.args.t ≡ c.index-lead.result.now =
    lead_is_element c.args.ahead.now.items c.args.t c.index-lead.result.now l c.index-lead.ensures in
    ahead_turn_lowers_lead s a c.args.ahead.now.items c.args.t (c.index-lead.result.now - 1) l
    (here ∙ (let e : c.index-lead.result.now ≡ suc (c.index-lead.result.now - 1) = omega (arith, c.if-lead-gt0.true) in e)) h

pub returns-then-not-branch-clause-went : goal.returns-then-not-branch-clause-went
returns-then-not-branch-clause-went g c = λ s h.
    let l : c.args.t < length c.args.ahead.now.items = omega (arith, c.requires.places.leads, c.requires.thread) in
    let here : lead_of_thread c.args.ahead.now.items c.args.t ≡ c.index-lead.result.now =
    lead_is_element c.args.ahead.now.items c.args.t c.index-lead.result.now l c.index-lead.ensures in
    went_passed_turn s (progress_of g.W.World.answers c.args.self.now)
    (progress_of g.W.World.answers c.turn_asked.new.self) c.args.ahead.now.items c.args.t
    c.in_ok-turn_asked.field-0 c.if-not-branch.true
    (omega (arith, here, c.if-lead-gt0.false)) h c.in_ok-turn_asked.ensures.took

pub returns-clause-went : goal.returns-clause-went
returns-clause-went g c = λ s h.
    let a : Progress = progress_of g.W.World.answers c.args.self.now in
    let b : Progress = progress_of g.W.World.answers c.turn_asked.new.self in
    let ahead : List ℕ = c.args.ahead.now.items in
    let l : c.args.t < length ahead = omega (arith, c.requires.places.leads, c.requires.thread) in
    let here : lead_of_thread ahead c.args.t ≡ c.index-lead.result.now = lead_is_element ahead c.args.t c.index-lead.result.now l c.index-lead.ensures in
    let took : TookIf true (c.args.t ∷ []) a b =
    subst (λ z. TookIf z (c.args.t ∷ []) a b) c.if-not-branch.false c.in_ok-turn_asked.ensures.took in
    subst (λ ls. WentIf true (c.args.t ∷ []) s a ahead (record b { flat = c.run-ran.new.self.flat; logs = ls.items })
    (set ahead c.args.t c.run-ran.result.0)) (sym c.run-ran.ensures.logs)
    (went_turn_and_private s a b c.run-ran.new.self.flat ahead c.args.t c.run-ran.result.0 l c.requires.thread c.run-ran.ensures.flat
    (omega (arith, here, c.if-lead-gt0.false)) h took c.run-ran.ensures.alone)

pub turn_asked-requires-clause-asked : goal.turn_asked-requires-clause-asked
turn_asked-requires-clause-asked g c =
    let l : c.args.t < length c.args.asks.now.items = omega (arith, c.requires.places.asks.places, c.requires.thread) in
    sym (get_or_done_element c.args.asks.now.items c.args.t c.index.result.now l c.index.ensures) ∙ c.requires.places.asks.asked c.args.t c.requires.thread

pub returns-in_err-turn_asked-clause-stopped : goal.returns-in_err-turn_asked-clause-stopped
returns-in_err-turn_asked-clause-stopped g c = if_err_of_its_error _ c.from_residual.result c.in_err-turn_asked.field-0.0 c.from_residual.ensures.1 (
    λ s h.
    let a : Progress = progress_of g.W.World.answers c.args.self.now in
    let l : c.args.t < length c.args.ahead.now.items = omega (arith, c.requires.places.leads, c.requires.thread) in
    let here : lead_of_thread c.args.ahead.now.items c.args.t ≡ c.index-lead.result.now =
    lead_is_element c.args.ahead.now.items c.args.t c.index-lead.result.now l c.index-lead.ensures in
    let level : lead_of_thread c.args.ahead.now.items c.args.t ≡ 0 = omega (arith, here, c.if-lead-gt0.false) in
    stopped_at_unanswered c.args.t s a _ _ (map g.W.World.broken c.args.self.now.worlds.items) c.requires.ready
    (sym (h.threads c.args.t ∙ ap (λ k. alone (machine a.flat) k (s.now c.args.t)) level)) c.in_err-turn_asked.ensures.stopped
    )

pub returns-then-lead-gt0-clause-places : goal.returns-then-lead-gt0-clause-places
returns-then-lead-gt0-clause-places g c = record {
  leads = length-set c.args.ahead.now.items c.args.t _ ∙ c.requires.places.leads;
  asks = c.requires.places.asks;
}

pub returns-then-not-branch-clause-places : goal.returns-then-not-branch-clause-places
returns-then-not-branch-clause-places g c = record {
  leads = c.requires.places.leads ∙ sym c.in_ok-turn_asked.ensures.took.took.threads;
  asks = subst (AreAsks c.args.asks.now.items) (sym (c.in_ok-turn_asked.ensures.none c.if-not-branch.true)) c.requires.places.asks;
}

pub returns-clause-places : goal.returns-clause-places
returns-clause-places g c = record {
  leads = length-set c.args.ahead.now.items c.args.t _ ∙ c.requires.places.leads
      ∙ sym (c.run-ran.ensures.alone.threads ∙ c.in_ok-turn_asked.ensures.took.took.threads);
  asks = asks_after_turn c.args.asks.now.items (progress_of g.W.World.answers c.args.self.now)
      (progress_of g.W.World.answers c.turn_asked.new.self) c.run-ran.new.self.flat c.args.t c.run-ran.result.0 c.run-ran.result.1
      c.in_ok-turn_asked.field-0 c.requires.thread c.requires.places.asks c.run-ran.ensures.still_flat c.in_ok-turn_asked.ensures.took
      c.run-ran.ensures.alone c.run-ran.ensures.asked;
}

pub returns-then-lead-gt0-clause-turn : goal.returns-then-lead-gt0-clause-turn
returns-then-lead-gt0-clause-turn g c = record {
  code = refl;
  threads = refl;
  others = λ u ne. get_or-set_other c.args.ahead.now.items c.args.t u _ 0 ne;
  rests = λ _. refl;
  waits = λ is. absurd (cc is);
}

pub returns-then-not-branch-clause-turn : goal.returns-then-not-branch-clause-turn
returns-then-not-branch-clause-turn g c = record {
  code = c.in_ok-turn_asked.ensures.took.took.code;
  threads = c.in_ok-turn_asked.ensures.took.took.threads;
  others = λ u ne. refl;
  rests = λ _. ap tables (c.in_ok-turn_asked.ensures.none c.if-not-branch.true);
  waits = λ is.
      let a : Progress = progress_of g.W.World.answers c.args.self.now in
      let b : Progress = progress_of g.W.World.answers c.turn_asked.new.self in
      passed_leaves_no_step a b c.args.t c.in_ok-turn_asked.field-0 c.if-not-branch.true c.in_ok-turn_asked.ensures.took;
}

pub returns-clause-turn : goal.returns-clause-turn
returns-clause-turn g c = record {
  code = c.run-ran.ensures.alone.code ∙ c.in_ok-turn_asked.ensures.took.took.code;
  threads = c.run-ran.ensures.alone.threads ∙ c.in_ok-turn_asked.ensures.took.took.threads;
  others = λ u ne. get_or-set_other c.args.ahead.now.items c.args.t u _ 0 ne;
  rests = λ ne. absurd (ne refl);
  waits = λ is. absurd (cc is);
}

pub returns-then-lead-gt0-clause-stays : goal.returns-then-lead-gt0-clause-stays
returns-then-lead-gt0-clause-stays g c = record { ready = c.requires.ready; failed = tt; same_worlds = refl }

pub returns-then-not-branch-clause-stays : goal.returns-then-not-branch-clause-stays
returns-then-not-branch-clause-stays g c = record { ready = c.in_ok-turn_asked.ensures.stays.ready; failed = tt; same_worlds = c.turn_asked.ensures.stays.same_worlds }

pub returns-clause-stays : goal.returns-clause-stays
returns-clause-stays g c = record {
  ready = let b : Progress = progress_of g.W.World.answers c.turn_asked.new.self in
      let answers = map g.W.World.answers c.turn_asked.new.self.worlds.items in
      ready_after_took_order (replicate c.run-ran.result.0 c.args.t) b (progress c.run-ran.new.self answers)
      (map g.W.World.broken c.turn_asked.new.self.worlds.items) c.in_ok-turn_asked.ensures.stays.ready (c.run-ran.ensures.took answers)
      c.run-ran.ensures.has_logs refl;
  failed = tt;
  same_worlds = c.turn_asked.ensures.stays.same_worlds;
}

pub returns-in_err-turn_asked-clause-stays : goal.returns-in_err-turn_asked-clause-stays
returns-in_err-turn_asked-clause-stays g c = stays_ready_first_failed g.W.World.answers g.W.World.broken g.W.World.origin
    c.args.self.now c.turn_asked.new.self c.from_residual.result c.in_err-turn_asked.field-0.0 c.from_residual.ensures.1 c.in_err-turn_asked.ensures.stays.failed
    c.turn_asked.ensures.stays.same_worlds
