use Rattle.std.proofs.Common.{◌<◌, List, length, ap, sym, ◌∙◌, subst, arith}
use Rattle.std.specs.List.{All}
use Rattle.ir_checkpoint.specs.Keeping.{page_count}
use Rattle.ir_checkpoint.specs.Store.{Entry, stored_pages, thread_count}
use Rattle.ir_checkpoint.proofs.Counted.{different_origins_stored, stored_pages_bound, page_counts_below}
use Rattle.ir_checkpoint.proofs.keeper.Keeper.pages.Goals as goal

pub stored-requires-clause-all : goal.stored-requires-clause-all
stored-requires-clause-all c =
    let entries = c.self.inside.entries.items in
    let store = c.self.invariant in
    let low : stored_pages entries < 4294967296 = omega (arith, stored_pages_bound (thread_count entries) entries store.each store.threads, store.few) in
    subst (λ (l : List Entry). stored_pages l < 4294967296) (sym c.as_slice.ensures.value) low

pub stored-requires-clause-each : goal.stored-requires-clause-each
stored-requires-clause-each c =
    let entries = c.self.inside.entries.items in
    let store = c.self.invariant in
    subst (All (λ (e : Entry). length e.pages < 4294967296)) (sym c.as_slice.ensures.value) (page_counts_below (thread_count entries) entries store.each store.threads)

pub returns : goal.returns
returns c =
    let entries = c.self.inside.entries.items in
    let store = c.self.invariant in
    c.stored.ensures ∙ ap stored_pages c.as_slice.ensures.value ∙ sym (different_origins_stored (thread_count entries) entries store.each store.laid) ∙ ap page_count c.self.view_is
