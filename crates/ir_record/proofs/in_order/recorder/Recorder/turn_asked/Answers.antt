use Rattle.std.proofs.Common.{true, [], ◌∷◌, refl, ap, ◌∙◌, arith, length, map, length-set}
use Rattle.ir_record.specs.Progress.{progress, TookIf}
use Rattle.ir_record.specs.Recorders.{progress_of}
use Rattle.ir_record.proofs.in_order.recorder.Recorder.turn_asked.Given.{Over}
use Rattle.ir_record.proofs.Ready.{ready_after_turn, stays_ready_first_failed}
use Rattle.ir_record.proofs.in_order.recorder.Recorder.turn_asked.Goals as goal

took : (g : Over) (c : goal.After-answer g) → TookIf true (c.args.t ∷ [])
    (progress_of g.W.World.answers c.args.self.now)
    (progress c.answer.new.self (map g.W.World.answers c.answer_to.new.worlds.items))
took g c = c.answer.ensures.took (map g.W.World.answers c.args.self.now.worlds.items) (map g.W.World.answers c.answer_to.new.worlds.items)
    (let n = c.requires.ready.worlds in omega (arith, n, c.requires.thread)) c.in_ok-value-in-Env.ensures.gained

pub returns-in_ok-value-in-Env-clause-took : goal.returns-in_ok-value-in-Env-clause-took
returns-in_ok-value-in-Env-clause-took g c = took g c

pub returns-in_ok-value-in-Env-clause-stays : goal.returns-in_ok-value-in-Env-clause-stays
returns-in_ok-value-in-Env-clause-stays g c = record {
  ready = ready_after_turn c.args.t true
      (progress_of g.W.World.answers c.args.self.now)
      (progress c.answer.new.self (map g.W.World.answers c.answer_to.new.worlds.items))
      (map g.W.World.broken c.args.self.now.worlds.items) (map g.W.World.broken c.answer_to.new.worlds.items)
      c.requires.ready (took g c) c.answer.ensures.has_logs
      (ap (λ xs. length xs) c.in_ok-value-in-Env.ensures.gained
      ∙ length-set (map g.W.World.answers c.args.self.now.worlds.items) c.args.t _) c.in_ok-value-in-Env.ensures.works;
  failed = tt;
  same_worlds = c.answer_to.ensures.kept;
}

pub returns-in-Enter-clause-took : goal.returns-in-Enter-clause-took
returns-in-Enter-clause-took g c = c.enter.ensures.took (map g.W.World.answers c.args.self.now.worlds.items)

pub returns-in-Enter-clause-stays : goal.returns-in-Enter-clause-stays
returns-in-Enter-clause-stays g c = record {
  ready = ready_after_turn c.args.t c.enter.result
      (progress_of g.W.World.answers c.args.self.now)
      (progress c.enter.new.self (map g.W.World.answers c.args.self.now.worlds.items)) (map g.W.World.broken c.args.self.now.worlds.items)
      (map g.W.World.broken c.args.self.now.worlds.items)
      c.requires.ready (c.enter.ensures.took (map g.W.World.answers c.args.self.now.worlds.items)) c.enter.ensures.has_logs
      refl c.requires.ready.works;
  failed = tt;
  same_worlds = refl;
}

pub returns-in_default : goal.returns-in_default
returns-in_default g c = record {
  took = c.go.ensures.took (map g.W.World.answers c.args.self.now.worlds.items);
  stays = record {
    ready = ready_after_turn c.args.t c.go.result (progress_of g.W.World.answers c.args.self.now)
        (progress c.go.new.self (map g.W.World.answers c.args.self.now.worlds.items)) (map g.W.World.broken c.args.self.now.worlds.items)
        (map g.W.World.broken c.args.self.now.worlds.items)
        c.requires.ready (c.go.ensures.took (map g.W.World.answers c.args.self.now.worlds.items)) c.go.ensures.has_logs
        refl c.requires.ready.works;
    failed = tt;
    same_worlds = refl;
  };
  none = c.go.ensures.none;
  stopped = tt;
}

pub returns-in-Try-clause-stays : goal.returns-in-Try-clause-stays
returns-in-Try-clause-stays g c = record {
  ready = ready_after_turn c.args.t true
      (progress_of g.W.World.answers c.args.self.now)
      (progress c.try_to_enter.new.self (map g.W.World.answers c.args.self.now.worlds.items))
      (map g.W.World.broken c.args.self.now.worlds.items) (map g.W.World.broken c.args.self.now.worlds.items)
      c.requires.ready (c.try_to_enter.ensures.took (map g.W.World.answers c.args.self.now.worlds.items)) c.try_to_enter.ensures.has_logs
      refl c.requires.ready.works;
  failed = tt;
  same_worlds = refl;
}

pub returns-in-Try-clause-took : goal.returns-in-Try-clause-took
returns-in-Try-clause-took g c = c.try_to_enter.ensures.took (map g.W.World.answers c.args.self.now.worlds.items)

pub returns-in_err-value-in-Env-clause-stays : goal.returns-in_err-value-in-Env-clause-stays
returns-in_err-value-in-Env-clause-stays g c = stays_ready_first_failed g.W.World.answers g.W.World.broken g.W.World.origin
    c.args.self.now (record c.args.self.now { worlds = c.answer_to.new.worlds }) c.from_residual.result c.in_err-value-in-Env.field-0.0 c.from_residual.ensures.1 c.in_err-value-in-Env.ensures.failed
    c.answer_to.ensures.kept
