use Rattle.std.proofs.Common.{◌<◌, ap, ◌∙◌, sym, subst, get_or, length, Some}
use Rattle.std.proofs.lemmas.Option.{slice_get-get_or}
use Rattle.ir_lemmas.proofs.CallerLemmas.{slice_get_satisfies, length_of_map}
use Rattle.ir_thread_bytes.specs.Frozen.{is_over}
use Rattle.ir_world.specs.Sources.{Source}
use Rattle.ir_thread.specs.State.{ThreadState}
use Rattle.ir_state_store.specs.Rows.{Packed, beside_in, HasOwnBytes}
use Rattle.ir_state_store.specs.Table.{idle_beside}
use Rattle.ir_state_store.specs.Table as table
use Rattle.ir_state_store.proofs.Rowed.{looked_up_row_is_get_or}
use Rattle.ir_state_store.proofs.rows.Rows.over.Goals as goal

pub returns : goal.returns
returns c =
    let start = c.self.inside.basis.memory in
    let rows = c.self.inside.rows.items in
    let row = c.index-row.result.now in
    let less = subst (λ (z : table.Table). c.args.n < length z.items) (sym c.self.view_is) c.requires in
    let stands = slice_get-get_or rows c.args.n row (subst (λ k. c.args.n < k) (length_of_map (beside_in start) rows) less)
    ∙ ap Some (sym c.index-row.ensures) in
    c.over.ensures ∙ ap (λ (p : Packed). p.over) (slice_get_satisfies (HasOwnBytes c.self.inside.basis) rows c.args.n row c.self.invariant.2 stands)
    ∙ ap (λ (x : ThreadState × Source). is_over x.0) (looked_up_row_is_get_or (beside_in start) rows row c.args.n idle_beside less c.index-row.ensures)
    ∙ ap (λ (z : table.Table). is_over (get_or z.items c.args.n idle_beside).0) c.self.view_is
