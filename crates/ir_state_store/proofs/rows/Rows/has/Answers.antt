use Rattle.std.proofs.Common.{◌≡◌, ap, ◌∙◌, sym, subst, arith, length, map, List, Some}
use Rattle.std.specs.Prelude.{slice_get}
use Rattle.std.proofs.lemmas.Option.{same_Some, slice_get-get_or, slice_get_within}
use Rattle.ir_lemmas.proofs.CallerLemmas.{slice_get_satisfies, length_of_map}
use Rattle.ir_world.specs.Sources.{Source}
use Rattle.ir_thread.specs.Frames.{frame_of}
use Rattle.ir_thread.specs.State.{ThreadState}
use Rattle.ir_state_store.specs.Rows.{StoreRow, packed_of, thread_in, beside_in, HasOwnBytes}
use Rattle.ir_state_store.specs.Table as table
use Rattle.ir_state_store.proofs.Packs.{thread_in_own_row}
use Rattle.ir_state_store.proofs.Rowed.{element_of_row_found}
use Rattle.ir_state_store.proofs.rows.Rows.has.Goals as goal

pub returns-in-Some-clause-same : goal.returns-in-Some-clause-same
returns-in-Some-clause-same c = λ is.
    let basis = c.self.inside.basis in
    let start = basis.memory in
    let rows = c.self.inside.rows.items in
    let row = c.in-Some.row.now in
    let stands : slice_get rows c.args.n ≡ Some row =
    subst (λ l. slice_get l c.args.n ≡ Some row) c.deref.ensures.value
    (slice_get-get_or c.deref.result.now c.args.n row c.in-Some.ensures.lookup.3.0 ∙ ap Some (sym c.in-Some.ensures.lookup.1)) in
    let bytes : row.packed ≡ packed_of basis c.args.thread.now =
    c.has.ensures.packed is ∙ c.requires ∙ ap (λ (z : table.Table). packed_of z.basis c.args.thread.now) (sym c.self.view_is) in
    let thread : thread_in start row ≡ c.args.thread.now =
    thread_in_own_row c.comes_back.ensures basis c.is_whole.ensures c.args.thread.now c.bounded.ensures row (sym (c.has.ensures.frame is)) bytes in
    subst (λ (z : table.Table). slice_get z.items c.args.n ≡ Some (c.args.thread.now, c.args.source.now)) c.self.view_is
    (element_of_row_found (beside_in start) rows row c.args.n stands ∙ (λ i. Some (thread i, c.has.ensures.source is i)))

pub returns-in-Some-clause-other : goal.returns-in-Some-clause-other
returns-in-Some-clause-other c = λ isnt at.
    let basis = c.self.inside.basis in
    let start = basis.memory in
    let rows = c.self.inside.rows.items in
    let row = c.in-Some.row.now in
    let x : ThreadState × Source = (c.args.thread.now, c.args.source.now) in
    let stands : slice_get rows c.args.n ≡ Some row =
    subst (λ l. slice_get l c.args.n ≡ Some row) c.deref.ensures.value
    (slice_get-get_or c.deref.result.now c.args.n row c.in-Some.ensures.lookup.3.0 ∙ ap Some (sym c.in-Some.ensures.lookup.1)) in
    let there : slice_get (map (beside_in start) rows) c.args.n ≡ Some x =
    subst (λ (z : table.Table). slice_get z.items c.args.n ≡ Some x) (sym c.self.view_is) at in
    let kept : beside_in start row ≡ x = same_Some (beside_in start row) x (sym (element_of_row_found (beside_in start) rows row c.args.n stands) ∙ there) in
    let own = slice_get_satisfies (HasOwnBytes basis) rows c.args.n row c.self.invariant.2 stands in
    c.has.ensures.other isnt (ap (λ (z : ThreadState × Source). frame_of z.0) (sym kept))
    (own ∙ ap (λ (z : ThreadState × Source). packed_of basis z.0) kept
    ∙ ap (λ (z : table.Table). packed_of z.basis c.args.thread.now) c.self.view_is ∙ sym c.requires)
    (ap (λ (z : ThreadState × Source). z.1) kept)

pub returns-in-None-clause-other : goal.returns-in-None-clause-other
returns-in-None-clause-other c = λ _ at.
    let start = c.self.inside.basis.memory in
    let rows = c.self.inside.rows.items in
    let x : ThreadState × Source = (c.args.thread.now, c.args.source.now) in
    let there : slice_get (map (beside_in start) rows) c.args.n ≡ Some x =
    subst (λ (z : table.Table). slice_get z.items c.args.n ≡ Some x) (sym c.self.view_is) at in
    absurd (let a = c.in-None.ensures.lookup.3 in let e = ap (λ (l : List StoreRow). length l) c.deref.ensures.value in let b = slice_get_within (map (beside_in start) rows) c.args.n x there in
    let m = length_of_map (beside_in start) rows in omega (arith, a, b, e, m))
