use Rattle.std.proofs.Common.{ap, ◌∙◌, arith}
use Rattle.ir_checkpoint.specs.Store.{Entry}
use Rattle.ir_checkpoint.proofs.Calls.{entry_number_is_kept, no_kept_number_past_end}
use Rattle.ir_checkpoint.proofs.keeper.Keeper.number_at.Goals as goal

pub returns-then-place-len : goal.returns-then-place-len
returns-then-place-len c =
    no_kept_number_past_end c.self.inside.last c.args.place c.self.inside.entries.items c.args.self.now c.self.view_is
    (omega (arith, c.if-place-len.true, c.len.ensures))

pub returns : goal.returns
returns c =
    entry_number_is_kept c.self.inside.last c.args.place c.entry.inside.number c.self.inside.entries.items c.index-entry.result.now c.args.self.now
    c.self.view_is (omega (arith, c.if-place-len.false, c.len.ensures)) (ap (λ (e : Entry). e.number) (c.entry.view_is ∙ c.index-entry.ensures))
