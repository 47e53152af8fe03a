use Rattle.std.proofs.Common.{◌≡◌, ◌∙◌}
use Rattle.std.proofs.lemmas.List.{take_all}
use Rattle.ir_trace.proofs.trace.Trace.copy.Goals as goal

pub invariant_of-result : goal.invariant_of-result
invariant_of-result c =
    let same : c.loop-thread.threads.items ≡ c.self.inside.threads.items = c.loop-thread.invariant ∙ take_all _ _ c.loop-thread-test.false
    ∙ c.deref-thread-items.ensures.value in
    rw same c.self.invariant
