use Rattle.std.proofs.Common.{◌≡◌, ◌∙◌, [], sym, ap, subst, arith, length, map, List, Some}
use Rattle.std.specs.Prelude.{slice_get}
use Rattle.std.proofs.lemmas.Option.{same_Some, slice_get-get_or, slice_get_within}
use Rattle.ir_lemmas.proofs.CallerLemmas.{slice_get_satisfies, length_of_map}
use Rattle.ir_thread_bytes.specs.Frozen.{frozen}
use Rattle.ir_world.specs.Sources.{Source}
use Rattle.ir_thread.specs.State.{ThreadState}
use Rattle.ir_state_store.specs.Rows.{StoreRow, beside_in, HasOwnBytes}
use Rattle.ir_state_store.specs.Table.{LooksLike}
use Rattle.ir_state_store.specs.Table as table
use Rattle.ir_state_store.proofs.Packs.{seen_in_row_is_frozen}
use Rattle.ir_state_store.proofs.Rowed.{element_of_row_found}
use Rattle.ir_state_store.proofs.rows.Rows.looks_like.Goals as goal

pub returns-in-Some-clause-like : goal.returns-in-Some-clause-like
returns-in-Some-clause-like c = λ is.
    let basis = c.self.inside.basis in
    let rows = c.self.inside.rows.items in
    let row = c.in-Some.row.now in
    let x : ThreadState × Source = (c.args.thread.now, c.args.source.now) in
    let stands : slice_get rows c.args.n ≡ Some row =
    subst (λ l. slice_get l c.args.n ≡ Some row) c.deref.ensures.value
    (slice_get-get_or c.deref.result.now c.args.n row c.in-Some.ensures.lookup.3.0 ∙ ap Some (sym c.in-Some.ensures.lookup.1)) in
    let own = slice_get_satisfies (HasOwnBytes basis) rows c.args.n row c.self.invariant.2 stands in
    subst (λ (z : table.Table). LooksLike z.basis z.items c.args.n x) c.self.view_is (record {
      kept = beside_in basis.memory row;
      at = element_of_row_found (beside_in basis.memory) rows row c.args.n stands;
      bytes = sym (seen_in_row_is_frozen basis row own) ∙ c.looks_like.ensures.bytes is ∙ c.requires
          ∙ ap (λ (z : table.Table). frozen z.basis x.0 []) (sym c.self.view_is);
      source = c.looks_like.ensures.source is;
    })

pub returns-in-Some-clause-other : goal.returns-in-Some-clause-other
returns-in-Some-clause-other c = λ isnt like.
    let basis = c.self.inside.basis in
    let start = basis.memory in
    let rows = c.self.inside.rows.items in
    let row = c.in-Some.row.now in
    let x : ThreadState × Source = (c.args.thread.now, c.args.source.now) in
    let stands : slice_get rows c.args.n ≡ Some row =
    subst (λ l. slice_get l c.args.n ≡ Some row) c.deref.ensures.value
    (slice_get-get_or c.deref.result.now c.args.n row c.in-Some.ensures.lookup.3.0 ∙ ap Some (sym c.in-Some.ensures.lookup.1)) in
    let own = slice_get_satisfies (HasOwnBytes basis) rows c.args.n row c.self.invariant.2 stands in
    let alike : LooksLike basis (map (beside_in start) rows) c.args.n x =
    subst (λ (z : table.Table). LooksLike z.basis z.items c.args.n x) (sym c.self.view_is) like in
    let kept : beside_in start row ≡ alike.kept =
    same_Some (beside_in start row) alike.kept (sym (element_of_row_found (beside_in start) rows row c.args.n stands) ∙ alike.at) in
    c.looks_like.ensures.other isnt
    (seen_in_row_is_frozen basis row own ∙ ap (λ (z : ThreadState × Source). frozen basis z.0 []) kept ∙ alike.bytes
    ∙ ap (λ (z : table.Table). frozen z.basis x.0 []) c.self.view_is ∙ sym c.requires)
    (λ goes. ap (λ (z : ThreadState × Source). z.1) kept ∙ alike.source goes)

pub returns-in-None-clause-other : goal.returns-in-None-clause-other
returns-in-None-clause-other c = λ _ like.
    let basis = c.self.inside.basis in
    let start = basis.memory in
    let rows = c.self.inside.rows.items in
    let x : ThreadState × Source = (c.args.thread.now, c.args.source.now) in
    let alike : LooksLike basis (map (beside_in start) rows) c.args.n x =
    subst (λ (z : table.Table). LooksLike z.basis z.items c.args.n x) (sym c.self.view_is) like in
    absurd (let a = c.in-None.ensures.lookup.3 in let e = ap (λ (l : List StoreRow). length l) c.deref.ensures.value
    in let b = slice_get_within (map (beside_in start) rows) c.args.n alike.kept alike.at in
    let m = length_of_map (beside_in start) rows in omega (arith, a, b, e, m))
