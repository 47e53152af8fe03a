use Rattle.std.proofs.Common.{◌≡◌, ap, ◌∙◌, sym, subst, get_or, length, ◌<◌}
use Rattle.ir_lemmas.proofs.CallerLemmas.{slice_get_satisfies}
use Rattle.ir_world.specs.Sources.{Source}
use Rattle.ir_thread.specs.State.{ThreadState}
use Rattle.ir_state_store.specs.Rows.{thread_in, beside_in}
use Rattle.ir_state_store.specs.Table.{idle_beside}
use Rattle.ir_state_store.specs.Table as table
use Rattle.ir_state_store.proofs.Rowed.{looked_up_row_is_get_or, looked_up_row_is_mapped}
use Rattle.ir_state_store.proofs.rows.Rows.thread.Goals as goal

pub returns-clause-found : goal.returns-clause-found
returns-clause-found c =
    let start = c.self.inside.basis.memory in
    let row = c.index-row.result.now in
    let less = subst (λ (z : table.Table). c.args.n < length z.items) (sym c.self.view_is) c.requires in
    c.in_ok-thread.ensures ∙ ap (λ l. thread_in l row) c.memory.ensures.value
    ∙ ap (λ (x : ThreadState × Source). x.0) (looked_up_row_is_get_or (beside_in start) c.self.inside.rows.items row c.args.n idle_beside less c.index-row.ensures)
    ∙ ap (λ (z : table.Table). (get_or z.items c.args.n idle_beside).0) c.self.view_is

pub returns-clause-form : goal.returns-clause-form
returns-clause-form c =
    let start = c.self.inside.basis.memory in
    let row = c.index-row.result.now in
    let less = subst (λ (z : table.Table). c.args.n < length z.items) (sym c.self.view_is) c.requires in
    let here = looked_up_row_is_mapped (beside_in start) c.self.inside.rows.items row c.args.n (beside_in start row) less c.index-row.ensures (λ i. beside_in start row) in
    ap (λ (s : ThreadState). s.form) (c.in_ok-thread.ensures ∙ ap (λ l. thread_in l row) c.memory.ensures.value)
    ∙ slice_get_satisfies (λ (x : ThreadState × Source). x.0.form ≡ c.self.inside.form) _ c.args.n (beside_in start row) c.self.invariant.0 here
    ∙ ap (λ (z : table.Table). z.form) c.self.view_is
