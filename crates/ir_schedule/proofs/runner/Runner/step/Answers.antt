use Rattle.std.proofs.Common.{◌∙◌, refl, sym, subst}
use Rattle.ir_schedule.proofs.Runs.{Acted, acted_if_ask_is_no_call, acted_by_answered_call, took_if_acted_and_noted, others_rest_after_step, took_step_took_one, other_ask_is_no_call}
use Rattle.ir_schedule.specs.Moments.{IsNoCall, TookStep, moment_of}
use Rattle.ir_schedule.proofs.runner.Runner.step.Given.{Over}
use Rattle.ir_schedule.proofs.runner.Runner.step.Goals.{in-Env+in_ok-value-in-Env, in-Try, in_default}
use Rattle.ir_schedule.proofs.runner.Runner.step.Goals as goal

acted : (g : Over) (c : goal.In_ok-note g) → Acted g.W.World.answers g.W.World.broken c.args.t c.args.self.now c.match-asked.self
acted g c = elim c.match-asked.branch [
  | in-Env+in_ok-value-in-Env w ↦
      subst (Acted g.W.World.answers g.W.World.broken c.args.t c.args.self.now) (sym w.self-is)
      (acted_by_answered_call g.W.World.answers g.W.World.broken c.args.t w.in_ok-value-in-Env.value w.in-Env.kind c.args.self.now
      (record c.args.self.now { flat = w.go.new.flat; worlds = w.answer_to.new.worlds }) c.requires.ready c.requires.thread w.go.ensures
      (sym w.in-Env.is ∙ c.requires.asked) refl w.in_ok-value-in-Env.ensures.gained w.in_ok-value-in-Env.ensures.each
      w.in_ok-value-in-Env.ensures.works)
  | in-Try w ↦
      subst (Acted g.W.World.answers g.W.World.broken c.args.t c.args.self.now) (sym w.self-is)
      (acted_if_ask_is_no_call g.W.World.answers g.W.World.broken c.args.t w.enter_or_pass.result c.args.asked c.args.self.now
      (record c.args.self.now { flat = w.enter_or_pass.new.flat }) c.requires.ready w.enter_or_pass.ensures c.requires.asked
      (subst IsNoCall (sym w.in-Try.is) tt) refl refl)
  | in_default w ↦
      subst (Acted g.W.World.answers g.W.World.broken c.args.t c.args.self.now) (sym w.self-is)
      (acted_if_ask_is_no_call g.W.World.answers g.W.World.broken c.args.t 0 c.args.asked c.args.self.now
      (record c.args.self.now { flat = w.go-in_default.new.flat }) c.requires.ready w.go-in_default.ensures c.requires.asked
      (other_ask_is_no_call c.args.asked w.in_default.not-Env) refl refl)
]

took : (g : Over) (c : goal.In_ok-note g) → TookStep c.args.t (moment_of g.W.World.answers c.args.self.now)
    (record (moment_of g.W.World.answers c.match-asked.self) { turns = c.note.new.turns.items })
took g c = took_if_acted_and_noted g.W.World.answers g.W.World.broken c.args.t c.args.self.now c.match-asked.self c.note.new.turns.items
    (acted g c) c.in_ok-note.ensures.noted

pub returns-clause-took : goal.returns-clause-took
returns-clause-took g c = took g c

pub returns-clause-ready : goal.returns-clause-ready
returns-clause-ready g c = record { worlds = (acted g c).ready.worlds; works = (acted g c).ready.works }

pub returns-clause-others : goal.returns-clause-others
returns-clause-others g c = λ tries. others_rest_after_step tries (moment_of g.W.World.answers c.args.self.now)
    (record (moment_of g.W.World.answers c.match-asked.self) { turns = c.note.new.turns.items }) c.args.t (took g c)

pub returns-clause-fewer : goal.returns-clause-fewer
returns-clause-fewer g c = took_step_took_one (moment_of g.W.World.answers c.args.self.now)
    (record (moment_of g.W.World.answers c.match-asked.self) { turns = c.note.new.turns.items }) c.args.t c.requires.flat
    c.requires.thread (took g c)
