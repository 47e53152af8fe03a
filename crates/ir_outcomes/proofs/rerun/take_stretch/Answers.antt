use Rattle.std.proofs.Common.{◌≡◌, ◌+◌, ◌-◌, ◌∷◌, ◌++◌, [], replicate, sym, subst, arith}
use Rattle.ir_graph.specs.Turn.{GoesAlone}
use Rattle.ir_graph.proofs.CallerLemmas.{goes_alone_append}
use Rattle.ir_outcomes.specs.Along.{ArrivesBy, FailsBy}
use Rattle.ir_outcomes.proofs.Arriving.{arrives_append, arrives_by_plain_steps, fails_after, fails_append, fails_at_rest, replicate_splits_at, replicate_push_plus_one}
use Rattle.ir_outcomes.proofs.rerun.take_stretch.Goals as goal

pub loop-init : goal.loop-init
loop-init c =
    let goes = c.run_to_rest.ensures.goes in
    record {
      alone = c.in-Ok.ensures.alone c.args.stretch.refused;
      rests = c.in-Ok.ensures.rests;
      thread = let a = goes.threads in let b = c.requires.thread in omega (arith, a, b);
      source = let a = goes.sources in let b = c.requires.source in omega (arith, a, b);
      arrives = arrives_by_plain_steps c.args.stretch.thread c.args.state.now c.run_to_rest.new.state goes;
    }

pub loop-preserved : goal.loop-preserved
loop-preserved c =
    let one = c.in-Ok-enter.ensures.alone in
    let stretch = c.args.stretch in
    let sum = c.in-Some.ensures.1 in
    record {
      alone = subst (λ z. GoesAlone c.args.state.now c.enter.new.state stretch.thread stretch.refused z (c.loop.counter + 1)) (sym sum)
          (goes_alone_append c.args.state.now c.loop.state c.enter.new.state stretch.thread stretch.refused c.loop.steps c.in-Ok-enter.more c.loop.counter 1
          c.loop.invariant.alone one);
      rests = c.in-Ok-enter.ensures.rests;
      thread = let a = one.threads in let b = c.loop.invariant.thread in omega (arith, a, b);
      source = let a = one.sources in let b = c.loop.invariant.source in omega (arith, a, b);
      arrives = subst (λ z. ArrivesBy stretch.thread z c.args.state.now c.enter.new.state) (replicate_push_plus_one c.loop.counter stretch.refused)
          (arrives_append stretch.thread (replicate c.loop.counter stretch.refused) (stretch.refused ∷ []) c.args.state.now c.loop.state c.enter.new.state
          c.loop.invariant.arrives c.in-Ok-enter.ensures.arrives);
    }

pub returns-in-Err-clause-fails : goal.returns-in-Err-clause-fails
returns-in-Err-clause-fails c =
    let stretch = c.args.stretch in
    fails_at_rest c.args.limit stretch.thread (replicate stretch.steps stretch.refused) c.args.state.now c.run_to_rest.new.state c.in-Err.stop
    c.run_to_rest.ensures.goes c.in-Err.ensures.stopped

pub returns-in-Err-enter-clause-fails : goal.returns-in-Err-enter-clause-fails
returns-in-Err-enter-clause-fails c =
    let stretch = c.args.stretch in
    let k = c.loop.counter in
    let own = stretch.refused ∷ [] in
    let more = replicate (stretch.steps - k - 1) stretch.refused in
    subst (λ z. FailsBy c.args.limit stretch.thread z c.args.state.now c.in-Err-enter.e) (sym (replicate_splits_at stretch.steps k stretch.refused c.loop-test.true))
    (fails_after c.args.limit stretch.thread (replicate k stretch.refused) (own ++ more) c.args.state.now c.loop.state c.in-Err-enter.e c.loop.invariant.arrives
    (fails_append c.args.limit stretch.thread own more c.loop.state c.in-Err-enter.e c.in-Err-enter.ensures.fails))

pub returns-clause-arrives : goal.returns-clause-arrives
returns-clause-arrives c =
    let stretch = c.args.stretch in
    let all : c.loop.counter ≡ stretch.steps = (let a = c.loop-test.false in let b = c.loop.auto.counter-end in omega (arith, a, b)) in
    subst (λ z. ArrivesBy stretch.thread (replicate z stretch.refused) c.args.state.now c.loop.state) all c.loop.invariant.arrives
