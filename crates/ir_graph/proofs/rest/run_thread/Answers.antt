use Rattle.std.proofs.Common.{◌+◌, false, refl, sym, ap, ◌∙◌, subst, arith}
use Rattle.ir_search_laws.specs.Sources.{answer_of, left_of_source}
use Rattle.ir_thread.specs.State.{shared_ask}
use Rattle.ir_world.specs.Sources.{given}
use Rattle.ir_graph.specs.Plain.{sourced_flat, IsFair}
use Rattle.std.specs.Prelude.{slice_set}
use Rattle.ir_graph.specs.Stops.{IsNotFollowed}
use Rattle.ir_graph.specs.Turn.{GoesAlone}
use Rattle.ir_graph.proofs.Beside.{RunsBeside, runs_beside_no_steps, runs_beside_private, runs_beside_fair_step, runs_beside_append, stops_at_refused_source, spent_ask_is_refused}
use Rattle.ir_graph.proofs.rest.run_thread.Goals as goal

pub private-init : goal.private-init
private-init c = record {
  runs = runs_beside_no_steps c.args.flat.now c.args.source.now c.args.thread;
  thread = c.requires;
  within = omega arith;
}

pub returns-in-Err-clause-goes : goal.returns-in-Err-clause-goes
returns-in-Err-clause-goes c =
    (runs_beside_append c.args.flat.now c.private.flat c.run_to_ask-steps.new.self c.args.source.now c.private.source c.private.source c.args.thread
    c.private.taken c.run_to_ask-steps.result.0 c.private.invariant.runs
    (runs_beside_private c.private.flat c.run_to_ask-steps.new.self c.private.source c.args.thread c.run_to_ask-steps.result.0
    c.run_to_ask-steps.ensures.went)).goes

pub returns-in-Err-clause-others : goal.returns-in-Err-clause-others
returns-in-Err-clause-others c =
    (runs_beside_append c.args.flat.now c.private.flat c.run_to_ask-steps.new.self c.args.source.now c.private.source c.private.source c.args.thread
    c.private.taken c.run_to_ask-steps.result.0 c.private.invariant.runs
    (runs_beside_private c.private.flat c.run_to_ask-steps.new.self c.private.source c.args.thread c.run_to_ask-steps.result.0
    c.run_to_ask-steps.ensures.went)).others

pub returns-then-rests-clause-goes : goal.returns-then-rests-clause-goes
returns-then-rests-clause-goes c =
    (runs_beside_append c.args.flat.now c.private.flat c.run_to_ask-steps.new.self c.args.source.now c.private.source c.private.source c.args.thread
    c.private.taken c.run_to_ask-steps.result.0 c.private.invariant.runs
    (runs_beside_private c.private.flat c.run_to_ask-steps.new.self c.private.source c.args.thread c.run_to_ask-steps.result.0
    c.run_to_ask-steps.ensures.went)).goes

pub returns-then-rests-clause-alone : goal.returns-then-rests-clause-alone
returns-then-rests-clause-alone c =
    (runs_beside_append c.args.flat.now c.private.flat c.run_to_ask-steps.new.self c.args.source.now c.private.source c.private.source c.args.thread
    c.private.taken c.run_to_ask-steps.result.0 c.private.invariant.runs
    (runs_beside_private c.private.flat c.run_to_ask-steps.new.self c.private.source c.args.thread c.run_to_ask-steps.result.0
    c.run_to_ask-steps.ensures.went)).alone

pub returns-then-rests-clause-others : goal.returns-then-rests-clause-others
returns-then-rests-clause-others c =
    (runs_beside_append c.args.flat.now c.private.flat c.run_to_ask-steps.new.self c.args.source.now c.private.source c.private.source c.args.thread
    c.private.taken c.run_to_ask-steps.result.0 c.private.invariant.runs
    (runs_beside_private c.private.flat c.run_to_ask-steps.new.self c.private.source c.args.thread c.run_to_ask-steps.result.0
    c.run_to_ask-steps.ensures.went)).others

pub returns-then-taken-limit-clause-goes : goal.returns-then-taken-limit-clause-goes
returns-then-taken-limit-clause-goes c =
    (runs_beside_append c.args.flat.now c.private.flat c.run_to_ask-steps.new.self c.args.source.now c.private.source c.private.source c.args.thread
    c.private.taken c.run_to_ask-steps.result.0 c.private.invariant.runs
    (runs_beside_private c.private.flat c.run_to_ask-steps.new.self c.private.source c.args.thread c.run_to_ask-steps.result.0
    c.run_to_ask-steps.ensures.went)).goes

pub returns-then-taken-limit-clause-others : goal.returns-then-taken-limit-clause-others
returns-then-taken-limit-clause-others c =
    (runs_beside_append c.args.flat.now c.private.flat c.run_to_ask-steps.new.self c.args.source.now c.private.source c.private.source c.args.thread
    c.private.taken c.run_to_ask-steps.result.0 c.private.invariant.runs
    (runs_beside_private c.private.flat c.run_to_ask-steps.new.self c.private.source c.args.thread c.run_to_ask-steps.result.0
    c.run_to_ask-steps.ensures.went)).others

pub returns-in-Err-answer-clause-goes : goal.returns-in-Err-answer-clause-goes
returns-in-Err-answer-clause-goes c =
    (subst (λ z. RunsBeside c.args.flat.now c.args.source.now c.run_to_ask-steps.new.self z c.args.thread (c.private.taken + c.run_to_ask-steps.result.0))
    (sym c.in-Err-answer.ensures.unchanged)
    (runs_beside_append c.args.flat.now c.private.flat c.run_to_ask-steps.new.self c.args.source.now c.private.source c.private.source c.args.thread
    c.private.taken c.run_to_ask-steps.result.0 c.private.invariant.runs
    (runs_beside_private c.private.flat c.run_to_ask-steps.new.self c.private.source c.args.thread c.run_to_ask-steps.result.0
    c.run_to_ask-steps.ensures.went))).goes

pub returns-in-Err-answer-clause-others : goal.returns-in-Err-answer-clause-others
returns-in-Err-answer-clause-others c =
    (subst (λ z. RunsBeside c.args.flat.now c.args.source.now c.run_to_ask-steps.new.self z c.args.thread (c.private.taken + c.run_to_ask-steps.result.0))
    (sym c.in-Err-answer.ensures.unchanged)
    (runs_beside_append c.args.flat.now c.private.flat c.run_to_ask-steps.new.self c.args.source.now c.private.source c.private.source c.args.thread
    c.private.taken c.run_to_ask-steps.result.0 c.private.invariant.runs
    (runs_beside_private c.private.flat c.run_to_ask-steps.new.self c.private.source c.args.thread c.run_to_ask-steps.result.0
    c.run_to_ask-steps.ensures.went))).others

pub returns-in-Err-clause-stopped : goal.returns-in-Err-clause-stopped
returns-in-Err-clause-stopped c = λ sources at.
    let why = c.in-Err.ensures.stopped in
    let g = c.run_to_ask-steps.new.self in
    stops_at_refused_source c.args.flat.now g sources c.args.thread c.args.limit c.args.source.now c.private.source c.in-Err.stop at
    (subst (λ z. IsNotFollowed c.args.thread z c.private.source c.in-Err.stop) c.run_to_ask-steps.ensures.asked
    (spent_ask_is_refused c.args.thread c.run_to_ask-steps.result.1 c.private.source c.in-Err.stop why.0 why.1))

pub returns-then-taken-limit-clause-stopped : goal.returns-then-taken-limit-clause-stopped
returns-then-taken-limit-clause-stopped c = λ sources at. (
  refl,
  subst (λ z. GoesAlone (sourced_flat c.args.flat.now sources)
      (sourced_flat c.run_to_ask-steps.new.self (slice_set sources c.args.thread c.private.source)) c.args.thread false z 0) c.if-taken-limit.true
      ((runs_beside_append c.args.flat.now c.private.flat c.run_to_ask-steps.new.self c.args.source.now c.private.source c.private.source c.args.thread
      c.private.taken c.run_to_ask-steps.result.0 c.private.invariant.runs
      (runs_beside_private c.private.flat c.run_to_ask-steps.new.self c.private.source c.args.thread c.run_to_ask-steps.result.0
      c.run_to_ask-steps.ensures.went)).alone sources at false),
  subst IsFair c.run_to_ask-steps.ensures.asked (c.in-Ok.ensures.plain c.if-rests.false),
)

pub returns-in-Err-answer-clause-stopped : goal.returns-in-Err-answer-clause-stopped
returns-in-Err-answer-clause-stopped c = λ sources at.
    stops_at_refused_source c.args.flat.now c.run_to_ask-steps.new.self sources c.args.thread c.args.limit c.args.source.now c.answer.new.source
    c.in-Err-answer.stop at
    (subst (λ z. IsNotFollowed c.args.thread z c.answer.new.source c.in-Err-answer.stop) c.run_to_ask-steps.ensures.asked c.in-Err-answer.ensures.stopped)

pub private-preserved : goal.private-preserved
private-preserved c =
    let f = c.args.flat.now in
    let g = c.run_to_ask-steps.new.self in
    let h = c.take.new.self in
    let t = c.args.thread in
    let a = c.private.source in
    let asked = c.run_to_ask-steps.ensures.asked in
    let one = c.in-Ok-take.ensures in
    let fair = subst IsFair asked (c.in-Ok.ensures.plain c.if-rests.false) in
    let answer = c.in-Ok-answer.ensures.answer ∙ ap (λ z. answer_of given (shared_ask z) a) asked in
    let left = c.in-Ok-answer.ensures.left ∙ ap (λ z. left_of_source given (shared_ask z) a) asked in record {
      runs = runs_beside_append f g h c.args.source.now a c.answer.new.source t (c.private.taken + c.run_to_ask-steps.result.0) 1
          (runs_beside_append c.args.flat.now c.private.flat c.run_to_ask-steps.new.self c.args.source.now c.private.source c.private.source c.args.thread
          c.private.taken c.run_to_ask-steps.result.0 c.private.invariant.runs
          (runs_beside_private c.private.flat c.run_to_ask-steps.new.self c.private.source c.args.thread c.run_to_ask-steps.result.0
          c.run_to_ask-steps.ensures.went))
          (runs_beside_fair_step g h a c.answer.new.source t c.in-Ok-answer.answer fair answer left one.admitted one.taken one.code one.threads one.objects);
      thread = let n = one.threads in let w = c.run_to_ask-steps.ensures.went.threads in let b = c.private.invariant.thread in omega (arith, n, w, b);
      within = let n = c.private.invariant.within in let b = c.run_to_ask-steps.ensures.within in let d = c.if-taken-limit.false in
          omega (arith, n, b, d);
    }
