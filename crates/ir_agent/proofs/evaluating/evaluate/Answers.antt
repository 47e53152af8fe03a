use Rattle.std.proofs.Common.{◌<◌, ◌≤◌, arith}
use Rattle.ir_agent.specs.Evaluation.{scene_of, most_expression_steps}
use Rattle.ir_agent.proofs.Steps.{ends_by_step, goes_by_step, out_of_steps}
use Rattle.ir_agent.proofs.evaluating.evaluate.Goals as goal

pub returns-in-Ends : goal.returns-in-Ends
returns-in-Ends g c =
    let test = c.steps-test.true in
    let below : c.steps.taken < most_expression_steps = omega (arith, test) in
    ends_by_step (scene_of (g.S.Seen.registers c.args.seen.now) (g.S.Seen.bytes c.args.seen.now)) c.args.code.now c.steps.taken c.steps.place c.steps.stack
    c.step.result c.step.new.stack c.in-Ends.result below c.steps.invariant c.step.ensures c.in-Ends.is

pub steps-preserved : goal.steps-preserved
steps-preserved g c =
    let test = c.steps-test.true in
    let below : c.steps.taken < most_expression_steps = omega (arith, test) in
    goes_by_step (scene_of (g.S.Seen.registers c.args.seen.now) (g.S.Seen.bytes c.args.seen.now)) c.args.code.now c.steps.taken c.steps.place c.steps.stack
    c.step.result c.step.new.stack c.in-Goes.next below c.steps.invariant c.step.ensures c.in-Goes.is

pub returns : goal.returns
returns g c =
    let test = c.steps-test.false in
    let past : most_expression_steps ≤ c.steps.taken = grind (arith, test) in
    out_of_steps (scene_of (g.S.Seen.registers c.args.seen.now) (g.S.Seen.bytes c.args.seen.now)) c.args.code.now c.steps.taken c.steps.place c.steps.stack
    past c.steps.invariant
