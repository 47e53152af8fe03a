use Rattle.std.proofs.Common.{refl, ◌≡◌, ◌++◌, sym, subst, arith, append-nil, replicate}
use Rattle.ir_schedule.proofs.Runs.{ran_by_private_steps, alone_keeps_steps_left, others_rest_by_private}
use Rattle.ir_schedule.specs.Moments.{moment_of}
use Rattle.ir_record.specs.Recording.{order_of_turns}
use Rattle.ir_schedule.proofs.runner.Runner.run_to_ask.Goals as goal

pub returns-in_ok-note-clause-ran : goal.returns-in_ok-note-clause-ran
returns-in_ok-note-clause-ran g c = λ tries lower d.
    ran_by_private_steps tries (moment_of g.W.World.answers c.args.self.now)
    (record (moment_of g.W.World.answers c.args.self.now) { flat = c.run_to_ask-count.new.self; turns = c.note.new.turns.items }) c.args.t
    c.run_to_ask-count.result.0 d c.requires.thread lower c.run_to_ask-count.ensures.went c.in_ok-note.ensures.noted refl

pub returns-in_ok-note-clause-others : goal.returns-in_ok-note-clause-others
returns-in_ok-note-clause-others g c = λ tries.
    others_rest_by_private tries c.args.self.now.flat c.run_to_ask-count.new.self c.args.t c.run_to_ask-count.result.0
    c.run_to_ask-count.ensures.went

pub returns-in_ok-note-clause-fewer : goal.returns-in_ok-note-clause-fewer
returns-in_ok-note-clause-fewer g c = alone_keeps_steps_left c.args.self.now.flat c.run_to_ask-count.new.self c.args.t c.run_to_ask-count.result.0
    c.run_to_ask-count.ensures.flat c.requires.thread c.run_to_ask-count.ensures.went

pub returns-else-count-gt0-clause-others : goal.returns-else-count-gt0-clause-others
returns-else-count-gt0-clause-others g c = λ tries.
    others_rest_by_private tries c.args.self.now.flat c.run_to_ask-count.new.self c.args.t c.run_to_ask-count.result.0
    c.run_to_ask-count.ensures.went

pub returns-else-count-gt0-clause-fewer : goal.returns-else-count-gt0-clause-fewer
returns-else-count-gt0-clause-fewer g c = alone_keeps_steps_left c.args.self.now.flat c.run_to_ask-count.new.self c.args.t c.run_to_ask-count.result.0
    c.run_to_ask-count.ensures.flat c.requires.thread c.run_to_ask-count.ensures.went

pub returns-else-count-gt0-clause-ran : goal.returns-else-count-gt0-clause-ran
returns-else-count-gt0-clause-ran g c = λ tries lower d.
    let no = c.if-count-gt0.false in
    let none : c.run_to_ask-count.result.0 ≡ 0 = omega (arith, no) in
    let turns = order_of_turns c.args.self.now.turns.items in
    ran_by_private_steps tries (moment_of g.W.World.answers c.args.self.now)
    (record (moment_of g.W.World.answers c.args.self.now) { flat = c.run_to_ask-count.new.self }) c.args.t
    c.run_to_ask-count.result.0 d c.requires.thread lower c.run_to_ask-count.ensures.went
    (subst (λ k. turns ≡ turns ++ replicate k c.args.t) (sym none) (sym (append-nil turns))) refl
