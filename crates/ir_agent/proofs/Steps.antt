-- An evaluation, step by step.
use Rattle.std.proofs.Common.{◌≡◌, ◌<◌, ◌≤◌, ◌+◌, ◌-◌, ◌∙◌, ℕ, zero, suc, List, Result, Err, refl, sym, ap, subst, arith}
use Rattle.ir_agent.specs.declared.evaluate_err.EvaluateErr.{EvaluateErr}
use Rattle.ir_agent.specs.declared.evaluate_err.EvaluateErr.TheVariants.{TooManySteps}
use Rattle.ir_agent.specs.declared.turn.Turn.{Turn}
use Rattle.ir_agent.specs.declared.turn.Turn.TheVariants as turn
use Rattle.ir_agent.specs.Evaluation.{Seen, Course, Goes, Ends, expression_step, course_result, evaluates_from, evaluates, most_expression_steps, IsTurnOf}

-- with a step left it goes on as the step says
evaluates_by_step : (seen : Seen) (code : List ℕ) (n place : ℕ) (stack : List ℕ) (c : Course) → 0 < n → expression_step seen code place stack ≡ c
    → evaluates_from seen code n place stack ≡ course_result (evaluates_from seen code (n - 1)) c
unfolding evaluates_from
evaluates_by_step seen code zero place stack c some is = absurd (omega (arith, some))
evaluates_by_step seen code (suc n) place stack c some is =
    let less : n ≡ suc n - 1 = omega arith in
    ap (course_result (evaluates_from seen code n)) is ∙ ap (λ k. course_result (evaluates_from seen code k) c) less

no_step_left : (seen : Seen) (code : List ℕ) (place : ℕ) (stack : List ℕ) → evaluates_from seen code zero place stack ≡ Err TooManySteps
unfolding evaluates_from
no_step_left seen code place stack = refl

-- the step that ends it
pub ends_by_step : (seen : Seen) (code : List ℕ) (taken place : ℕ) (stack : List ℕ) (t : Turn) (new : List ℕ) (result : Result ℕ EvaluateErr) → taken < most_expression_steps
    → evaluates_from seen code (most_expression_steps - taken) place stack ≡ evaluates seen code → IsTurnOf t new (expression_step seen code place stack) → t ≡ turn.Ends result
    → result ≡ evaluates seen code
ends_by_step seen code taken place stack t new result below so follows is =
    let ends : expression_step seen code place stack ≡ Ends result = subst (λ x. IsTurnOf x new (expression_step seen code place stack)) is follows in
    let some : 0 < most_expression_steps - taken = omega (arith, below) in
    sym (evaluates_by_step seen code (most_expression_steps - taken) place stack (Ends result) some ends) ∙ so

-- a step that goes on
pub goes_by_step : (seen : Seen) (code : List ℕ) (taken place : ℕ) (stack : List ℕ) (t : Turn) (new : List ℕ) (next : ℕ) → taken < most_expression_steps
    → evaluates_from seen code (most_expression_steps - taken) place stack ≡ evaluates seen code → IsTurnOf t new (expression_step seen code place stack) → t ≡ turn.Goes next
    → evaluates_from seen code (most_expression_steps - (taken + 1)) next new ≡ evaluates seen code
goes_by_step seen code taken place stack t new next below so follows is =
    let goes : expression_step seen code place stack ≡ Goes next new = subst (λ x. IsTurnOf x new (expression_step seen code place stack)) is follows in
    let some : 0 < most_expression_steps - taken = omega (arith, below) in
    let less : most_expression_steps - (taken + 1) ≡ most_expression_steps - taken - 1 = omega arith in
    ap (λ k. evaluates_from seen code k next new) less
    ∙ sym (evaluates_by_step seen code (most_expression_steps - taken) place stack (Goes next new) some goes) ∙ so

-- no step is left
pub out_of_steps : (seen : Seen) (code : List ℕ) (taken place : ℕ) (stack : List ℕ) → most_expression_steps ≤ taken
    → evaluates_from seen code (most_expression_steps - taken) place stack ≡ evaluates seen code → Err TooManySteps ≡ evaluates seen code
out_of_steps seen code taken place stack past so =
    let none : most_expression_steps - taken ≡ zero = omega (arith, past) in
    sym (no_step_left seen code place stack) ∙ ap (λ k. evaluates_from seen code k place stack) (sym none) ∙ so
