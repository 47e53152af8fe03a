use Rattle.std.proofs.Common.{◌≡◌, ◌+◌, ◌<◌, length, ap, sym, ◌∙◌, subst, arith}
use Rattle.ir_checkpoint.specs.Keeping.{Keeping, after_keep}
use Rattle.ir_checkpoint.specs.Store.{AreEntries, thread_count}
use Rattle.ir_checkpoint.proofs.Calls.{like_state_thread_count, is_store_after_keep, keeping_after_keep}
use Rattle.ir_checkpoint.proofs.keeper.Keeper.keep.Goals as goal

pub entry_of-requires : goal.entry_of-requires
entry_of-requires c =
    let entries = c.self.inside.entries.items in
    let same : length c.args.state.now.threads ≡ thread_count entries =
    like_state_thread_count (thread_count entries) c.self.inside.last entries c.args.state.now c.args.self.now c.self.invariant c.self.view_is c.requires.threads in
    subst (AreEntries (length c.args.state.now.threads)) (sym c.as_slice.ensures.value) (subst (λ n. AreEntries n entries) (sym same) c.self.invariant.each)

pub invariant_of-self-2 : goal.invariant_of-self-2
invariant_of-self-2 c =
    let entries = c.self.inside.entries.items in
    let last = c.self.inside.last in
    let same : length c.args.state.now.threads ≡ thread_count entries =
    like_state_thread_count (thread_count entries) last entries c.args.state.now c.args.self.now c.self.invariant c.self.view_is c.requires.threads in
    let few : length entries < 65 =
    omega (arith, c.if-len-ge-MOST_CHECKPOINTS.false, c.len.ensures, c.as_slice.ensures.len, ap length c.as_slice.ensures.value) in
    is_store_after_keep (thread_count entries) last c.args.state.now entries c.as_slice.result.now c.insert.new.self.items c.in_ok-entry.entry c.self.invariant few
    c.in_ok-entry.ensures.memories same (c.as_slice.ensures.value, c.in_ok-entry.ensures.value, c.in_ok-insert.ensures.items)

pub returns-clause-kept : goal.returns-clause-kept
returns-clause-kept c =
    let entries = c.self.inside.entries.items in
    let last = c.self.inside.last in
    let same : length c.args.state.now.threads ≡ thread_count entries =
    like_state_thread_count (thread_count entries) last entries c.args.state.now c.args.self.now c.self.invariant c.self.view_is c.requires.threads in (
      ap (λ (k : Keeping). k.last + 1) c.self.view_is,
      keeping_after_keep (thread_count entries) last c.args.state.now entries c.as_slice.result.now c.insert.new.self.items c.in_ok-entry.entry c.self.invariant
          c.in_ok-entry.ensures.memories same (c.as_slice.ensures.value, c.in_ok-entry.ensures.value, c.in_ok-insert.ensures.items)
          ∙ ap (after_keep c.args.state.now) c.self.view_is,
    )
