use Rattle.ir_checkpoint.proofs.Calls.{is_store_after_new, keeping_after_new}
use Rattle.ir_checkpoint.proofs.keeper.Keeper.new.Goals as goal

pub invariant_of-result : goal.invariant_of-result
invariant_of-result c =
    is_store_after_new c.args.fitted.now c.in_ok-start.start c.in_ok-entries.entries.items c.push.new.self.items c.in_ok-entry_of.field-0 c.in_ok-start.ensures.start
    c.in_ok-entry_of.ensures.memories c.in_ok-entries.ensures.items c.in_ok-entry_of.ensures.value c.in_ok-push.ensures.items

pub returns : goal.returns
returns c =
    keeping_after_new c.args.fitted.now c.in_ok-start.start c.in_ok-entries.entries.items c.push.new.self.items c.in_ok-entry_of.field-0 c.in_ok-start.ensures.start
    c.in_ok-entry_of.ensures.memories c.in_ok-entries.ensures.items c.in_ok-entry_of.ensures.value c.in_ok-push.ensures.items
