use Rattle.std.proofs.Common.{◌++◌, ◌∙◌, ℕ, List, ap}
use Rattle.ir_diff.proofs.ThreadTexts.{thread_texts_step}
use Rattle.ir_diff.proofs.texts.diff_text.Goals as goal

pub loop-thread-preserved : goal.loop-thread-preserved
loop-thread-preserved c =
    thread_texts_step c.args.a.trace.now c.args.b.trace.now c.args.part.now c.loop-thread.thread c.loop-thread.text.items
    c.in_ok-thread_text.field-0.items c.extend_from_slice-in-loop-thread.new.self.items c.loop-thread.invariant c.in_ok-thread_text.ensures
    (c.in_ok-extend_from_slice-2.ensures.items ∙ ap (λ (x : List ℕ). c.loop-thread.text.items ++ x) c.deref.ensures.value)
