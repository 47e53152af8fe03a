use Rattle.std.proofs.Common.{rules, ◌<◌, ◌∙◌, List, length, sym, ap, subst}
use Rattle.std.specs.List.{slice_index_or}
use Rattle.ir_thread.specs.State as thread
use Rattle.ir_schedule.proofs.Ready.{each_ready, chosen_ready_has_step, none_ready_ran_to_end}
use Rattle.ir_schedule.proofs.Runs.{ran_transitive, took_one_lowers_left}
use Rattle.ir_schedule.specs.Choices.{CanChoose}
use Rattle.ir_schedule.specs.Moments.{Ran, moment_of}
use Rattle.ir_schedule.specs.Schedules.{AreReady}
use Rattle.ir_flat.specs.Flat.{machine, tables}
use Rattle.ir_schedule.proofs.runner.Runner.run.Given.{Over}
use Rattle.ir_schedule.proofs.runner.Runner.run.Goals as goal

pub choices-init : goal.choices-init
choices-init g c = record {
  kept = c.in_ok-go_to_rests.ensures.kept;
  ran = c.in_ok-go_to_rests.ensures.ran c.args.chooser.now;
  ready = c.in_ok-go_to_rests.ensures.ready;
  rest = c.in_ok-go_to_rests.ensures.rest;
  serves = subst (λ n. CanChoose n c.args.chooser.now) (sym (c.in_ok-go_to_rests.ensures.ran c.args.chooser.now).gained.threads)
      c.requires.serves;
}

pub returns-then-is_empty-clause-ran : goal.returns-then-is_empty-clause-ran
returns-then-is_empty-clause-ran g c = none_ready_ran_to_end c.args.tries (moment_of g.W.World.answers c.args.self.now)
    (moment_of g.W.World.answers c.choices.self) c.args.chooser.now c.choices.chooser c.ready-ready.result.items c.requires.start
    c.choices.invariant.ran c.ready-ready.ensures.are (search rules)

-- what is handed to the chooser are the threads that have a step
listed : (g : Over) (c : goal.After-as_slice g) → AreReady (machine c.choices.self.flat) (tables c.choices.self.flat)
    (length c.choices.self.flat.threads) c.as_slice.result.now
listed g c = subst (AreReady (machine c.choices.self.flat) (tables c.choices.self.flat) (length c.choices.self.flat.threads))
    (sym c.as_slice.ensures.value) c.ready-ready.ensures.are

pub choose-thread-requires-clause-within : goal.choose-thread-requires-clause-within
choose-thread-requires-clause-within g c = λ k d l.
    subst (λ (xs : List thread.ThreadState). slice_index_or c.as_slice.result.now k d < length xs) (sym c.threads.ensures.value)
    (each_ready (machine c.choices.self.flat) (tables c.choices.self.flat) (length c.choices.self.flat.threads) c.as_slice.result.now
    (listed g c) k d l).0

pub turn-requires-clause-thread : goal.turn-requires-clause-thread
turn-requires-clause-thread g c = (chosen_ready_has_step c.choices.self.flat c.as_slice.result.now c.ready-ready.result.items c.choose-thread.result
    c.as_slice.ensures.value c.ready-ready.ensures.are c.choose-thread.ensures.member).0

pub turn-requires-clause-can : goal.turn-requires-clause-can
turn-requires-clause-can g c = (chosen_ready_has_step c.choices.self.flat c.as_slice.result.now c.ready-ready.result.items c.choose-thread.result
    c.as_slice.ensures.value c.ready-ready.ensures.are c.choose-thread.ensures.member).1

ran : (g : Over) (c : goal.In_ok-turn g) → Ran c.args.tries (moment_of g.W.World.answers c.choices.self) c.choices.chooser
    (moment_of g.W.World.answers c.turn.new.self) c.choose-thread.new.self
ran g c = c.in_ok-turn.ensures.ran c.choices.chooser c.choose-thread.new.self (record {
  rest = c.choices.invariant.rest;
  ready = c.as_slice.result.now;
  are = subst (AreReady (machine c.choices.self.flat) (tables c.choices.self.flat) (length c.choices.self.flat.threads))
      (sym c.as_slice.ensures.value) c.ready-ready.ensures.are;
  choice = c.choose-thread.ensures.value;
})

pub choices-preserved : goal.choices-preserved
choices-preserved g c = record {
  kept = c.in_ok-turn.ensures.kept ∙ c.choices.invariant.kept;
  ran = ran_transitive c.args.tries (moment_of g.W.World.answers c.args.self.now) (moment_of g.W.World.answers c.choices.self)
      (moment_of g.W.World.answers c.turn.new.self) c.args.chooser.now c.choices.chooser c.choose-thread.new.self c.choices.invariant.ran
      (ran g c);
  ready = c.in_ok-turn.ensures.ready;
  rest = c.in_ok-turn.ensures.rest;
  serves = subst (λ n. CanChoose n c.choose-thread.new.self)
      (ap (λ (xs : List thread.ThreadState). length xs) c.threads.ensures.value ∙ sym (ran g c).gained.threads) c.choose-thread.ensures.serves;
}

pub choices-smaller : goal.choices-smaller
choices-smaller g c = took_one_lowers_left c.choices.self.flat c.turn.new.self.flat (ran g c).gained.threads c.in_ok-turn.ensures.fewer
