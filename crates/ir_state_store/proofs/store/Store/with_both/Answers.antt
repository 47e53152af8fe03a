use Rattle.std.proofs.Common.{◌≡◌, ◌<◌, length, get_or, set, refl, sym, ap, ◌∙◌, subst, arith, Some}
use Rattle.std.specs.Prelude.{slice_get}
use Rattle.ir_lemmas.proofs.CallerLemmas.{length_of_map}
use Rattle.ir_state_store.specs.Nodes.{with_turn, Shared, Node, Stored, cell_in, sourced_in}
use Rattle.ir_state_store.specs.Places.{no_node}
use Rattle.ir_state_store.specs.Table.{idle_beside}
use Rattle.ir_state_store.proofs.Stored.{slice_get-map_sourced, both_is}
use Rattle.ir_state_store.proofs.store.Store.with_both.Goals as goal

pub index_mut-requires : goal.index_mut-requires
index_mut-requires c =
    let shared : Shared = record { threads = c.self.inside.table.items; words = c.self.inside.words } in
    let node : Node = get_or c.self.inside.nodes c.args.v no_node in
    let less = subst (λ (z : Stored). c.args.v < length z.items) (sym c.self.view_is) c.requires.node in
    let there = subst (λ (z : Stored). slice_get z.items c.args.v ≡ Some (sourced_in shared node)) c.self.view_is
    (slice_get-map_sourced shared c.self.inside.nodes c.args.v less) in
    let few = (c.requires.own (sourced_in shared node) there).0 in
    let many = length_of_map (λ n. (get_or shared.threads n idle_beside).0) node.threads in
    let e = ap length (c.in_ok-threads.ensures.items ∙ c.threads.ensures) in
    let k = c.in_ok-threads.threads.ok.0 in
    omega (arith, few, many, e, k)

pub index_mut-requires-2 : goal.index_mut-requires-2
index_mut-requires-2 c =
    let shared : Shared = record { threads = c.self.inside.table.items; words = c.self.inside.words } in
    let node : Node = get_or c.self.inside.nodes c.args.v no_node in
    let less = subst (λ (z : Stored). c.args.v < length z.items) (sym c.self.view_is) c.requires.node in
    let there = subst (λ (z : Stored). slice_get z.items c.args.v ≡ Some (sourced_in shared node)) c.self.view_is
    (slice_get-map_sourced shared c.self.inside.nodes c.args.v less) in
    let few = (c.requires.own (sourced_in shared node) there).1 in
    let many = length_of_map (cell_in shared.words) node.objects in
    let e = ap length (c.in_ok-objects.ensures.items ∙ c.objects.ensures) in
    let k = c.in_ok-objects.objects.ok.0 in
    omega (arith, few, many, e, k)

pub returns-clause-state : goal.returns-clause-state
returns-clause-state c = λ f at.
    let shared : Shared = record { threads = c.self.inside.table.items; words = c.self.inside.words } in
    let nodes = c.self.inside.nodes in
    let node : Node = get_or nodes c.args.v no_node in
    let less = subst (λ (z : Stored). c.args.v < length z.items) (sym c.self.view_is) c.requires.node in
    let there = subst (λ (z : Stored). slice_get z.items c.args.v ≡ Some f) (sym c.self.view_is) at in
    let threads = c.in_ok-threads.ensures.items ∙ c.threads.ensures in
    let objects = c.in_ok-objects.ensures.items ∙ c.objects.ensures in
    let both = both_is shared nodes c.self.invariant.0 c.args.v node less refl f there c.args.t c.args.thread c.args.o c.args.spot in
    subst (λ (z : Stored). sourced_in z.shared (record {
      code = c.code.result.now;
      threads = set c.in_ok-threads.threads.items c.args.t c.in_ok-number.number;
      objects = set c.in_ok-objects.objects.items c.args.o c.args.spot;
    }) ≡ with_turn f c.args.t (get_or z.shared.threads c.args.thread idle_beside) c.args.o (cell_in z.shared.words c.args.spot))
    c.self.view_is
    ((λ i. sourced_in shared (record {
      code = c.code.ensures i;
      threads = set (threads i) c.args.t (c.in_ok-number.ensures.same i);
      objects = set (objects i) c.args.o c.args.spot;
    })) ∙ both)
