use Rattle.std.proofs.Common.{◌≡◌, ◌<◌, length, get_or, refl, sym, ap, ◌∙◌, subst, arith, Some}
use Rattle.std.specs.Prelude.{slice_get}
use Rattle.ir_lemmas.proofs.CallerLemmas.{get_or_satisfies, length_of_map}
use Rattle.ir_state_store.specs.Nodes.{SourcedFlat, sourced_thread, IsSourced, Shared, Node, Stored, sourced_in}
use Rattle.ir_state_store.specs.Places.{no_node}
use Rattle.ir_state_store.specs.Table.{idle_beside}
use Rattle.ir_state_store.proofs.Stored.{slice_get-map_sourced, node_is, state_is, thread_is}
use Rattle.ir_state_store.proofs.store.Store.thread_number.Goals as goal

pub thread-requires-clause-thread : goal.thread-requires-clause-thread
thread-requires-clause-thread c =
    let shared : Shared = record { threads = c.self.inside.table.items; words = c.self.inside.words } in
    let nodes = c.self.inside.nodes in
    let node : Node = get_or nodes c.args.v no_node in
    let less = subst (λ (z : Stored). c.args.v < length z.items) (sym c.self.view_is) c.requires.node in
    let there = subst (λ (z : Stored). slice_get z.items c.args.v ≡ Some (sourced_in shared node)) c.self.view_is
    (slice_get-map_sourced shared nodes c.args.v less) in
    let few = c.requires.thread (sourced_in shared node) there in
    let many = length_of_map (λ n. (get_or shared.threads n idle_beside).0) node.threads in
    omega (arith, few, many)

pub returns-clause-within : goal.returns-clause-within
returns-clause-within c =
    let shared : Shared = record { threads = c.self.inside.table.items; words = c.self.inside.words } in
    let nodes = c.self.inside.nodes in
    let node : Node = get_or nodes c.args.v no_node in
    let less = subst (λ (z : Stored). c.args.v < length z.items) (sym c.self.view_is) c.requires.node in
    let here = slice_get-map_sourced shared nodes c.args.v less in
    let there = subst (λ (z : Stored). slice_get z.items c.args.v ≡ Some (sourced_in shared node)) c.self.view_is here in
    let few = c.requires.thread (sourced_in shared node) there in
    let many = length_of_map (λ n. (get_or shared.threads n idle_beside).0) node.threads in
    let is = node_is shared nodes c.self.invariant.0 c.args.v node less refl (sourced_in shared node) here in
    let one = c.thread.ensures in
    let in_here : c.thread.result < length shared.threads =
    subst (λ n. n < length shared.threads) (sym one)
    (get_or_satisfies (λ n. n < length shared.threads) node.threads c.args.t 0 is.within.threads (omega (arith, few, many))) in
    subst (λ (z : Stored). c.thread.result < length z.shared.threads) c.self.view_is in_here

pub returns-clause-thread : goal.returns-clause-thread
returns-clause-thread c = λ f at.
    let shared : Shared = record { threads = c.self.inside.table.items; words = c.self.inside.words } in
    let nodes = c.self.inside.nodes in
    let node : Node = get_or nodes c.args.v no_node in
    let less = subst (λ (z : Stored). c.args.v < length z.items) (sym c.self.view_is) c.requires.node in
    let there = subst (λ (z : Stored). slice_get z.items c.args.v ≡ Some f) (sym c.self.view_is) at in
    let few = c.requires.thread f at in
    let state = state_is shared nodes c.self.invariant.0 c.args.v node less refl f there in
    let many = sym (length_of_map (λ n. (get_or shared.threads n idle_beside).0) node.threads) ∙ ap (λ (z : SourcedFlat). length z.flat.threads) state in
    let one = c.thread.ensures in
    subst (λ (z : Stored). get_or z.shared.threads c.thread.result idle_beside ≡ sourced_thread f c.args.t) c.self.view_is
    (thread_is shared nodes c.self.invariant.0 c.args.v node less refl f there c.args.t c.thread.result 0
    (omega (arith, few, many)) one)

pub returns-clause-sourced : goal.returns-clause-sourced
returns-clause-sourced c = λ f at.
    let shared : Shared = record { threads = c.self.inside.table.items; words = c.self.inside.words } in
    let nodes = c.self.inside.nodes in
    let node : Node = get_or nodes c.args.v no_node in
    let less = subst (λ (z : Stored). c.args.v < length z.items) (sym c.self.view_is) c.requires.node in
    let there = subst (λ (z : Stored). slice_get z.items c.args.v ≡ Some f) (sym c.self.view_is) at in
    subst IsSourced (state_is shared nodes c.self.invariant.0 c.args.v node less refl f there)
    (node_is shared nodes c.self.invariant.0 c.args.v node less refl f there).sourced
