use Rattle.std.proofs.Common.{◌∙◌, ap, sym, subst}
use Rattle.ir_log.specs.declared.event.Event.TheVariants.{Write}
use Rattle.ir_picture.specs.Placing.{later_of}
use Rattle.ir_picture.specs.declared.table.Version.{Version}
use Rattle.ir_holds.specs.Needing.{NeedsLike, IsAfterThese}
use Rattle.ir_holds.proofs.Needs.{after_needs_of_write}
use Rattle.ir_holds.proofs.needing.Ends.after_needs.Goals as goal

pub returns-in-Read : goal.returns-in-Read
returns-in-Read c = λ r boxes holds. subst (λ e. IsAfterThese r boxes (NeedsLike e) c.after_maker.result) (sym c.in-Read.is) (c.after_maker.ensures r boxes holds)

pub returns-in-Write : goal.returns-in-Write
returns-in-Write c = λ r boxes holds.
    let o = c.in-Write.object in
    let v = c.in-Write.version in
    let l = c.in-Write.readers in
    let p = c.after_maker-in-Write.result in
    subst (λ e. IsAfterThese r boxes (NeedsLike e) c.later.result) (sym c.in-Write.is)
    (subst (IsAfterThese r boxes (NeedsLike (Write o v l))) (sym (c.later.ensures ∙ ap (λ (x : Version). later_of p x.left) c.get-known.ensures))
    (after_needs_of_write r boxes c.args.self.now o v l p holds (c.after_maker-in-Write.ensures r boxes holds)))
