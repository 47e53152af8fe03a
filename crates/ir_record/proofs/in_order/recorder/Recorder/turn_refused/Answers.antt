use Rattle.std.proofs.Common.{◌≡◌, true, [], ◌∷◌, length, map, refl, ap, arith}
use Rattle.ir_record.specs.Progress.{progress}
use Rattle.ir_record.specs.Recorders.{progress_of}
use Rattle.ir_record.proofs.Following.{missing_has_no_step, passed_turn_leaves_none}
use Rattle.ir_record.proofs.Joining.{ready_after_took_turns}
use Rattle.ir_record.proofs.Steps.{took_turn_without_step}
use Rattle.ir_record.proofs.Stopped.{if_err_of_its_error, stopped_turns_unanswered}
use Rattle.ir_record.proofs.Ready.{stays_ready_first_failed}
use Rattle.ir_record.proofs.in_order.recorder.Recorder.turn_refused.Goals as goal

pub returns-then-t-threads-clause-took : goal.returns-then-t-threads-clause-took
returns-then-t-threads-clause-took g c = took_turn_without_step c.args.t true (progress_of g.W.World.answers c.args.self.now)
    (missing_has_no_step c.args.self.now.guest.flat c.args.t
    (let e : length c.threads.result.now ≡ length c.args.self.now.guest.flat.threads = ap (λ xs. length xs) c.threads.ensures.value in
    omega (arith, e, c.if-t-threads.true)))

pub returns-in_err-moved-clause-stopped : goal.returns-in_err-moved-clause-stopped
returns-in_err-moved-clause-stopped g c = if_err_of_its_error _ c.from_residual.result c.in_err-moved.field-0.0 c.from_residual.ensures.1
    (stopped_turns_unanswered c.args.t true (progress_of g.W.World.answers c.args.self.now) _ _ (map g.W.World.broken c.args.self.now.worlds.items)
    c.requires.ready c.in_err-moved.ensures.stopped)

pub returns-then-t-threads-clause-none : goal.returns-then-t-threads-clause-none
returns-then-t-threads-clause-none g c e = missing_has_no_step c.args.self.now.guest.flat c.args.t
    (let n : length c.threads.result.now ≡ length c.args.self.now.guest.flat.threads = ap (λ xs. length xs) c.threads.ensures.value in
    omega (arith, n, c.if-t-threads.true))

pub returns-clause-none : goal.returns-clause-none
returns-clause-none g c e = passed_turn_leaves_none c.args.t (progress_of g.W.World.answers c.args.self.now)
    (progress_of g.W.World.answers c.turn_asked.new.self) c.in_ok-moved.moved e c.in_ok-moved.ensures.took

pub returns-in-Try-clause-stays : goal.returns-in-Try-clause-stays
returns-in-Try-clause-stays g c = record {
  ready = ready_after_took_turns ((c.args.t, true) ∷ []) (progress_of g.W.World.answers c.args.self.now)
      (progress c.refuse.new.self (map g.W.World.answers c.args.self.now.worlds.items)) (map g.W.World.broken c.args.self.now.worlds.items)
      c.requires.ready (c.refuse.ensures.took (map g.W.World.answers c.args.self.now.worlds.items)) c.refuse.ensures.has_logs refl;
  failed = tt;
  same_worlds = refl;
}

pub returns-then-t-threads-clause-stays : goal.returns-then-t-threads-clause-stays
returns-then-t-threads-clause-stays g c = record { ready = c.requires.ready; failed = tt; same_worlds = refl }

pub returns-in_err-moved-clause-stays : goal.returns-in_err-moved-clause-stays
returns-in_err-moved-clause-stays g c = stays_ready_first_failed g.W.World.answers g.W.World.broken g.W.World.origin
    c.args.self.now c.turn_asked.new.self c.from_residual.result c.in_err-moved.field-0.0 c.from_residual.ensures.1 c.in_err-moved.ensures.stays.failed
    c.turn_asked.ensures.stays.same_worlds

pub returns-clause-stays : goal.returns-clause-stays
returns-clause-stays g c = record { ready = c.in_ok-moved.ensures.stays.ready; failed = tt; same_worlds = c.turn_asked.ensures.stays.same_worlds }
