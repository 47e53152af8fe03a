use Rattle.std.proofs.Common.{◌≡◌, ◌<◌, ◌+◌, ap, ◌∙◌, sym, subst, arith}
use Rattle.std.proofs.lemmas.Result.{on_ok_weaker}
use Rattle.ir_weave.specs.Standing.{flat_in, positions}
use Rattle.ir_hits.specs.Passing.{HasPassed}
use Rattle.ir_hits.proofs.Passing.{has_passed_by_stretch, has_passed_by_step}
use Rattle.ir_hits.proofs.Standing.{last_are_consistent, steps_are_position}
use Rattle.ir_hits.proofs.stepping.take_steps.Goals as goal

pub advance_unmarked-there-requires-clause-target : goal.advance_unmarked-there-requires-clause-target
advance_unmarked-there-requires-clause-target g c =
    (c.requires.search.ends.size, last_are_consistent c.args.search.fitted.now c.args.search.last.now c.requires.search.ends)

pub returns-then-taken-gt0-clause-passed : goal.returns-then-taken-gt0-clause-passed
returns-then-taken-gt0-clause-passed g c =
    let f = c.args.search.fitted.now in
    let t = c.args.search.t in
    let new = flat_in f c.advance_unmarked-there.result.0 in
    let at : c.steps.result ≡ positions (flat_in f c.args.state.now) t =
    steps_are_position f c.args.state.now t c.steps.result c.thread_of.result.now c.thread_of.ensures c.steps.ensures.value in
    let here : c.steps.result ≡ positions (flat_in f c.replace-here.result) t =
    at ∙ ap (λ z. positions (flat_in f z) t) (sym c.replace-here.ensures.value) in
    subst (λ z. HasPassed c.args.search.code.now t c.args.search.to (flat_in f z) new) c.replace-here.ensures.value
    (has_passed_by_stretch c.args.search.code.now t c.args.search.to c.steps.result c.advance_unmarked-there.result.1 (flat_in f c.replace-here.result) new here
    (omega (arith, at, c.requires.below)) c.if-taken-gt0.true
    (let w = c.advance_unmarked-there.ensures.within in let m = c.min-most.ensures in omega (arith, w, m))
    c.advance_unmarked-there.ensures.gone c.advance_unmarked-there.ensures.unmarked)

pub returns-clause-passed : goal.returns-clause-passed
returns-clause-passed g c =
    let f = c.args.search.fitted.now in
    let t = c.args.search.t in
    let middle = c.advance_unmarked-there.result.0 in
    on_ok_weaker c.take_step.result
    (λ (one : positions (flat_in f c.take_step.new.state) t ≡ positions (flat_in f middle) t + 1).
    subst (λ z. HasPassed c.args.search.code.now t c.args.search.to (flat_in f z) (flat_in f c.take_step.new.state)) c.replace-here.ensures.value
    (has_passed_by_step c.args.search.code.now t c.args.search.to c.advance_unmarked-there.result.1 (flat_in f c.replace-here.result) (flat_in f middle)
    (flat_in f c.take_step.new.state)
    (subst (λ z. positions (flat_in f z) t < c.args.search.to) (sym c.replace-here.ensures.value) c.requires.below)
    c.if-taken-gt0.false c.advance_unmarked-there.ensures.gone one)) c.take_step.ensures.taken
