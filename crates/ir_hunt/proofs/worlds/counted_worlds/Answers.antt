use Rattle.std.proofs.Common.{ℕ, List, [], length, true, ap, ◌∙◌}
use Rattle.std.proofs.lemmas.Result.{IfOk-weaker}
use Rattle.std.specs.Prelude.{replicate}
use Rattle.ir_record.specs.Worlds.{AnsweredCall}
use Rattle.ir_world.specs.Sources.{origins}
use Rattle.ir_hunt.proofs.worlds.counted_worlds.Goals as goal

pub returns-clause-origins : goal.returns-clause-origins
returns-clause-origins g c = IfOk-weaker c.worlds.result _ _
    (λ worlds h. h ∙ (λ i. origins true (c.plan.view_is i).random (c.plan.view_is i).input (length (c.entries-threads.ensures.value i)))) c.worlds.ensures.origins

pub returns-clause-fresh : goal.returns-clause-fresh
returns-clause-fresh g c = IfOk-weaker c.worlds.result _ _
    (λ worlds h. h ∙ ap (λ (z : List ℕ). replicate {A = List AnsweredCall} (length z) []) c.entries-threads.ensures.value) c.worlds.ensures.fresh
