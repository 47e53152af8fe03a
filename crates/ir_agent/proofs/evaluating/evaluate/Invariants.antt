use Rattle.std.proofs.Common.{◌≡◌, ◌-◌}
use Rattle.ir_agent.specs.Evaluation.{scene_of, most_expression_steps, evaluates_from, evaluates}
use Rattle.ir_agent.proofs.evaluating.evaluate.Given as goal

abbrev pub invariant-steps : goal.invariant-steps
invariant-steps g l =
    evaluates_from (scene_of (g.S.Seen.registers l.seen) (g.S.Seen.bytes l.seen)) l.code (most_expression_steps - l.taken) l.place l.stack
    ≡ evaluates (scene_of (g.S.Seen.registers l.seen) (g.S.Seen.bytes l.seen)) l.code
