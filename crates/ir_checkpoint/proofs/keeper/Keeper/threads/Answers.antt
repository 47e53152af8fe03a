use Rattle.std.proofs.Common.{length, ap, ◌∙◌}
use Rattle.ir_checkpoint.specs.Store.{Entry, thread_count}
use Rattle.ir_checkpoint.proofs.Calls.{kept_count_is_newest}
use Rattle.ir_checkpoint.proofs.keeper.Keeper.threads.Goals as goal

pub returns : goal.returns
returns c =
    let entries = c.self.inside.entries.items in
    kept_count_is_newest (thread_count entries) c.self.inside.last _ entries c.index-entry.result.now c.args.self.now c.self.invariant c.self.view_is
    (c.len.ensures ∙ c.entry.inside.frames.ok.0 ∙ ap (λ (e : Entry). length e.frames) (c.entry.view_is ∙ c.index-entry.ensures))
