use Rattle.std.proofs.Common.{◌≡◌, ◌⊎◌, ◌++◌, [], ◌∷◌, ap, ◌∙◌, sym, subst, length, map, List}
use Rattle.std.proofs.lemmas.List.{map_push}
use Rattle.std.proofs.lemmas.Result.{on_ok_weaker, on_err_weaker}
use Rattle.ir_thread_bytes.specs.Twins.{KeepsBounds}
use Rattle.ir_world.specs.Sources.{Source}
use Rattle.ir_thread.specs.State.{ThreadState}
use Rattle.ir_state_store.specs.Rows.{StoreRow, packed_of, thread_in, beside_in, look_of, HasOwnBytes}
use Rattle.ir_state_store.specs.Table.{LooksLike}
use Rattle.ir_state_store.specs.Table as table
use Rattle.ir_state_store.proofs.Lists.{all_same_or_pushed}
use Rattle.ir_state_store.proofs.Packs.{thread_in_own_row}
use Rattle.ir_state_store.proofs.Rowed.{all_mapped_or_pushed, looks_same_or_pushed}
use Rattle.ir_state_store.proofs.rows.Rows.push.Goals as goal

pub invariant_of-self : goal.invariant_of-self
invariant_of-self c =
    let basis = c.self.inside.basis in
    let start = basis.memory in
    let form = c.self.inside.form in
    let rows = c.self.inside.rows.items in
    let new = c.put.new.items.items in
    let row = c.in_ok-row.row in
    let bytes : row.packed ≡ packed_of basis c.args.thread.now =
    c.in_ok-row.ensures.packed ∙ c.requires.packed ∙ ap (λ (z : table.Table). packed_of z.basis c.args.thread.now) (sym c.self.view_is) in
    let thread : thread_in start row ≡ c.args.thread.now =
    thread_in_own_row c.comes_back.ensures basis c.is_whole.ensures c.args.thread.now c.bounded.ensures row c.in_ok-row.ensures.frame bytes in
    let made : beside_in start row ≡ (c.args.thread.now, c.args.source.now) = λ i. (thread i, c.in_ok-row.ensures.source i) in
    let look : look_of row ≡ c.args.look = c.in_ok-row.ensures.look in
    let is : (look_of row ≡ length (map (beside_in start) rows)) ⊎ LooksLike basis (map (beside_in start) rows) (look_of row) (beside_in start row) =
    subst (λ z. (look_of row ≡ length (map (beside_in start) rows)) ⊎ LooksLike basis (map (beside_in start) rows) (look_of row) z) (sym made)
    (subst (λ k. (k ≡ length (map (beside_in start) rows)) ⊎ LooksLike basis (map (beside_in start) rows) k (c.args.thread.now, c.args.source.now)) (sym look)
    (subst (λ (z : table.Table). (c.args.look ≡ length z.items) ⊎ LooksLike z.basis z.items c.args.look (c.args.thread.now, c.args.source.now))
    (sym c.self.view_is) c.requires.look)) in (
      all_mapped_or_pushed (beside_in start) (λ (x : ThreadState × Source). x.0.form ≡ form) rows new row c.self.invariant.0
          (ap (λ (s : ThreadState). s.form) thread ∙ c.requires.form ∙ ap (λ (z : table.Table). z.form) (sym c.self.view_is)) c.put.ensures.either,
      all_mapped_or_pushed (beside_in start) (λ (x : ThreadState × Source). KeepsBounds x.0) rows new row c.self.invariant.1
          (subst KeepsBounds (sym thread) c.bounded.ensures) c.put.ensures.either,
      all_same_or_pushed (HasOwnBytes basis) rows new row c.self.invariant.2 (bytes ∙ ap (packed_of basis) (sym thread)) c.put.ensures.either,
      looks_same_or_pushed (beside_in start) look_of basis rows new row c.self.invariant.3 is c.put.ensures.either,
    )

pub returns-clause-ok : goal.returns-clause-ok
returns-clause-ok c =
    let basis = c.self.inside.basis in
    let start = basis.memory in
    let form = c.self.inside.form in
    let rows = c.self.inside.rows.items in
    let row = c.in_ok-row.row in
    let bytes : row.packed ≡ packed_of basis c.args.thread.now =
    c.in_ok-row.ensures.packed ∙ c.requires.packed ∙ ap (λ (z : table.Table). packed_of z.basis c.args.thread.now) (sym c.self.view_is) in
    let thread : thread_in start row ≡ c.args.thread.now =
    thread_in_own_row c.comes_back.ensures basis c.is_whole.ensures c.args.thread.now c.bounded.ensures row c.in_ok-row.ensures.frame bytes in
    let made : beside_in start row ≡ (c.args.thread.now, c.args.source.now) = λ i. (thread i, c.in_ok-row.ensures.source i) in
    on_ok_weaker c.put.result
    (λ e. (λ i. record {
      items = (ap (map (beside_in start)) e ∙ map_push (beside_in start) rows row ∙ ap (λ s. map (beside_in start) rows ++ s ∷ []) made) i;
      form = form;
      basis = basis;
      looks = (ap (map look_of) e ∙ map_push look_of rows row ∙ ap (λ k. map look_of rows ++ k ∷ []) c.in_ok-row.ensures.look) i;
    })
    ∙ ap (λ (z : table.Table). record {
      items = z.items ++ (c.args.thread.now, c.args.source.now) ∷ [];
      form = z.form;
      basis = z.basis;
      looks = z.looks ++ c.args.look ∷ [];
    }) c.self.view_is) c.put.ensures.ok

pub returns-clause-err : goal.returns-clause-err
returns-clause-err c =
    on_err_weaker c.put.result
    (λ e. ap (λ (l : List StoreRow). record {
      items = map (beside_in c.self.inside.basis.memory) l;
      form = c.self.inside.form;
      basis = c.self.inside.basis;
      looks = map look_of l;
    }) e ∙ c.self.view_is) c.put.ensures.err
