use Rattle.std.proofs.Common.{get_or, None, ap, sym, ◌∙◌}
use Rattle.ir_checkpoint.specs.Store.{Entry, Page}
use Rattle.ir_checkpoint.proofs.Laid.{in_force_own_page, in_force_older_page}
use Rattle.ir_checkpoint.proofs.store.page_at.Goals as goal

pub returns-in-Some : goal.returns-in-Some
returns-in-Some c =
    let entries = c.args.entries.now in
    let i = c.loop-entry.entry-index in
    let d = c.entry-item.result in
    c.bytes.ensures ∙ ap (λ (p : Page). p.bytes)
    (sym (in_force_own_page entries i c.args.place d _ c.loop-entry-test.true (c.requires i d c.loop-entry-test.true)
    (ap (λ (e : Entry). get_or e.pages c.args.place None) (sym c.entry-item.is) ∙ c.in-Some.ensures))
    ∙ c.loop-entry.invariant)

pub loop-entry-preserved : goal.loop-entry-preserved
loop-entry-preserved c =
    let entries = c.args.entries.now in
    let i = c.loop-entry.entry-index in
    let d = c.entry-item.result in
    sym (in_force_older_page entries i c.args.place d c.loop-entry-test.true (c.requires i d c.loop-entry-test.true)
    (ap (λ (e : Entry). get_or e.pages c.args.place None) (sym c.entry-item.is) ∙ c.in_default.ensures))
    ∙ c.loop-entry.invariant
