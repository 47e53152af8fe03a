use Rattle.std.proofs.Common.{◌∙◌, inl, inr, refl, sym, arith}
use Rattle.ir_shrink.specs.Moments.{moment_of}
use Rattle.ir_shrink.proofs.Moves.{took_nothing, took_private_steps, turns_and_one_more, turns_until_none}
use Rattle.ir_shrink.proofs.mover.Mover.turns.Goals as goal

pub turns-init : goal.turns-init
turns-init g c = record {
  within = omega arith;
  thread = c.requires.thread;
  took = took_nothing (moment_of g.W.World.answers c.args.self.now);
  ready = c.requires.ready;
  items = refl;
  kept = refl;
}

pub turn-requires-clause-ready : goal.turn-requires-clause-ready
turn-requires-clause-ready g c = record {
  worlds = c.turns.invariant.ready.worlds ∙ sym c.run_to_ask-ran.ensures.went.threads;
  works = c.turns.invariant.ready.works;
}

pub turn-requires-clause-thread : goal.turn-requires-clause-thread
turn-requires-clause-thread g c = let same = c.run_to_ask-ran.ensures.went.threads in let l = c.turns.invariant.thread in omega (arith, same, l)

pub returns-then-not-branch-clause-took : goal.returns-then-not-branch-clause-took
returns-then-not-branch-clause-took g c =
    let ran = took_private_steps c.args.t c.run_to_ask-ran.result.0 c.args.refused (moment_of g.W.World.answers c.turns.self)
    (moment_of g.W.World.answers (record c.turns.self { flat = c.run_to_ask-ran.new.self })) c.turns.invariant.thread c.run_to_ask-ran.ensures.went refl in
    (turns_until_none c.args.t c.turns.taken c.run_to_ask-ran.result.0 c.args.refused c.in_ok-turn.field-0
    (moment_of g.W.World.answers c.args.self.now) (moment_of g.W.World.answers c.turns.self)
    (moment_of g.W.World.answers (record c.turns.self { flat = c.run_to_ask-ran.new.self })) (moment_of g.W.World.answers c.turn.new.self)
    c.if-not-branch.true c.turns.invariant.took ran c.in_ok-turn.ensures.turn).0

pub returns-then-not-branch-clause-rest : goal.returns-then-not-branch-clause-rest
returns-then-not-branch-clause-rest g c =
    let ran = took_private_steps c.args.t c.run_to_ask-ran.result.0 c.args.refused (moment_of g.W.World.answers c.turns.self)
    (moment_of g.W.World.answers (record c.turns.self { flat = c.run_to_ask-ran.new.self })) c.turns.invariant.thread c.run_to_ask-ran.ensures.went refl in
    inr (turns_until_none c.args.t c.turns.taken c.run_to_ask-ran.result.0 c.args.refused c.in_ok-turn.field-0
    (moment_of g.W.World.answers c.args.self.now) (moment_of g.W.World.answers c.turns.self)
    (moment_of g.W.World.answers (record c.turns.self { flat = c.run_to_ask-ran.new.self })) (moment_of g.W.World.answers c.turn.new.self)
    c.if-not-branch.true c.turns.invariant.took ran c.in_ok-turn.ensures.turn).1

pub returns-clause-rest : goal.returns-clause-rest
returns-clause-rest g c = inl (let few = c.turns.invariant.within in omega (arith, few, c.turns-test.false))

pub turns-preserved : goal.turns-preserved
turns-preserved g c =
    let ran = took_private_steps c.args.t c.run_to_ask-ran.result.0 c.args.refused (moment_of g.W.World.answers c.turns.self)
    (moment_of g.W.World.answers (record c.turns.self { flat = c.run_to_ask-ran.new.self })) c.turns.invariant.thread c.run_to_ask-ran.ensures.went refl in
    let took = turns_and_one_more c.args.t c.turns.taken c.run_to_ask-ran.result.0 c.args.refused c.in_ok-turn.field-0
    (moment_of g.W.World.answers c.args.self.now) (moment_of g.W.World.answers c.turns.self)
    (moment_of g.W.World.answers (record c.turns.self { flat = c.run_to_ask-ran.new.self })) (moment_of g.W.World.answers c.turn.new.self)
    c.if-not-branch.false c.turns.invariant.took ran c.in_ok-turn.ensures.turn in
    let few = c.run_to_ask-ran.ensures.within in
    record {
      within = omega (arith, few, c.turns-test.true);
      thread = let l = c.requires.thread in let same = took.threads in omega (arith, l, same);
      took = took;
      ready = c.in_ok-turn.ensures.ready;
      items = c.turn.ensures.items ∙ c.turns.invariant.items;
      kept = c.turn.ensures.kept ∙ c.turns.invariant.kept;
    }

pub turns-smaller : goal.turns-smaller
turns-smaller g c = let few = c.run_to_ask-ran.ensures.within in omega (arith, few, c.turns-test.true)
