use Rattle.std.proofs.Common.{◌≡◌, ◌<◌, length, get_or, refl, sym, ap, ◌∙◌, subst, Some}
use Rattle.std.specs.Prelude.{slice_get, slice_set}
use Rattle.ir_state_store.specs.Nodes.{SourcedFlat, IsSourced, Shared, Node, Stored, sourced_in}
use Rattle.ir_state_store.specs.Others.{HasOthersOf}
use Rattle.ir_state_store.specs.Places.{no_node}
use Rattle.ir_state_store.specs.Table.{threads_at, sources_at}
use Rattle.ir_state_store.proofs.Numbered.{nodes_found_kept}
use Rattle.ir_state_store.proofs.Shared.{nodes_grown, states_grown}
use Rattle.ir_state_store.proofs.Stored.{slice_get-map_sourced, node_is, threads_set, sources_set}
use Rattle.ir_state_store.proofs.store.Store.by_number_of.Goals as goal

pub invariant_of-self : goal.invariant_of-self
invariant_of-self c =
    let old : Shared = record { threads = c.self.inside.table.items; words = c.self.inside.words } in
    let new : Shared = record { threads = c.add_at.new.self.items; words = c.self.inside.words } in (
      nodes_grown old new (record { threads = c.add_at.ensures.keeps; words = λ n s e. e }) c.self.inside.nodes c.self.invariant.0,
      nodes_found_kept c.self.inside.index old c.self.inside.table.looks c.add_at.new.self.looks c.self.inside.nodes c.each.ensures.one.1.each c.add_at.ensures.looks
          c.self.invariant.0 c.self.invariant.1,
    )

pub returns-in_err-threads-clause-items : goal.returns-in_err-threads-clause-items
returns-in_err-threads-clause-items c =
    let old : Shared = record { threads = c.self.inside.table.items; words = c.self.inside.words } in
    let new : Shared = record { threads = c.add_at.new.self.items; words = c.self.inside.words } in
    states_grown old new (record { threads = c.add_at.ensures.keeps; words = λ n s e. e }) c.self.inside.nodes c.self.invariant.0
    ∙ ap (λ (z : Stored). z.items) c.self.view_is

pub invariant_of-self-in_err-objects : goal.invariant_of-self-in_err-objects
invariant_of-self-in_err-objects c =
    let old : Shared = record { threads = c.self.inside.table.items; words = c.self.inside.words } in
    let new : Shared = record { threads = c.add_at.new.self.items; words = c.spots_of.new.words } in (
      nodes_grown old new (record { threads = c.add_at.ensures.keeps; words = c.spots_of.ensures.keeps }) c.self.inside.nodes c.self.invariant.0,
      nodes_found_kept c.self.inside.index old c.self.inside.table.looks c.add_at.new.self.looks c.self.inside.nodes c.each.ensures.one.1.each c.add_at.ensures.looks
          c.self.invariant.0 c.self.invariant.1,
    )

pub returns-in_err-objects-clause-items : goal.returns-in_err-objects-clause-items
returns-in_err-objects-clause-items c =
    let old : Shared = record { threads = c.self.inside.table.items; words = c.self.inside.words } in
    let new : Shared = record { threads = c.add_at.new.self.items; words = c.spots_of.new.words } in
    states_grown old new (record { threads = c.add_at.ensures.keeps; words = c.spots_of.ensures.keeps }) c.self.inside.nodes c.self.invariant.0
    ∙ ap (λ (z : Stored). z.items) c.self.view_is

pub invariant_of-self-2 : goal.invariant_of-self-2
invariant_of-self-2 c =
    let old : Shared = record { threads = c.self.inside.table.items; words = c.self.inside.words } in
    let new : Shared = record { threads = c.add_at.new.self.items; words = c.spots_of.new.words } in (
      nodes_grown old new (record { threads = c.add_at.ensures.keeps; words = c.spots_of.ensures.keeps }) c.self.inside.nodes c.self.invariant.0,
      nodes_found_kept c.self.inside.index old c.self.inside.table.looks c.add_at.new.self.looks c.self.inside.nodes c.each.ensures.one.1.each c.add_at.ensures.looks
          c.self.invariant.0 c.self.invariant.1,
    )

pub returns-clause-items : goal.returns-clause-items
returns-clause-items c =
    let old : Shared = record { threads = c.self.inside.table.items; words = c.self.inside.words } in
    let new : Shared = record { threads = c.add_at.new.self.items; words = c.spots_of.new.words } in
    states_grown old new (record { threads = c.add_at.ensures.keeps; words = c.spots_of.ensures.keeps }) c.self.inside.nodes c.self.invariant.0
    ∙ ap (λ (z : Stored). z.items) c.self.view_is

pub returns-clause-state : goal.returns-clause-state
returns-clause-state c =
    let shared : Shared = record { threads = c.self.inside.table.items; words = c.self.inside.words } in
    let nodes = c.self.inside.nodes in
    let node : Node = get_or nodes c.args.v no_node in
    let s : SourcedFlat = sourced_in shared node in
    let u : SourcedFlat = record { flat = c.state.inside.flat; sources = c.state.inside.sources.items } in
    let less = subst (λ (z : Stored). c.args.v < length z.items) (sym c.self.view_is) c.requires.node in
    let here = slice_get-map_sourced shared nodes c.args.v less in
    let there = subst (λ (z : Stored). slice_get z.items c.args.v ≡ Some s) c.self.view_is here in
    let have : HasOthersOf s u c.args.t = subst (λ z. HasOthersOf s z c.args.t) (sym c.state.view_is) (c.requires.others s there) in
    let was : IsSourced s = (node_is shared nodes c.self.invariant.0 c.args.v node less refl s here).sourced in
    let is : IsSourced u = subst IsSourced (sym c.state.view_is) c.requires.sourced in
    let few : c.args.t < length u.flat.threads = subst (λ (z : SourcedFlat). c.args.t < length z.flat.threads) (sym c.state.view_is) c.requires.thread in
    let x = c.index-threads-t.result in
    let y = c.index.result.now in
    let threads = c.in_ok-threads.ensures.threads ∙ ap (λ l. slice_set (threads_at shared.threads l) c.args.t x) c.threads-numbers.ensures
    ∙ threads_set s u c.args.t was is have few x (c.index-threads-t.is ∙ ap (λ l. get_or l c.args.t x) c.threads.ensures.value) in
    let sources = c.in_ok-threads.ensures.sources ∙ ap (λ l. slice_set (sources_at shared.threads l) c.args.t y) c.threads-numbers.ensures
    ∙ sources_set s u c.args.t was is have few y c.index.ensures in
    (λ i. record {
      flat = record {
        code = c.code.ensures i;
        threads = threads i;
        objects = (c.in_ok-objects.ensures.found ∙ c.objects.ensures.value) i;
      };
      sources = sources i;
    }) ∙ c.state.view_is

pub returns-clause-node : goal.returns-clause-node
returns-clause-node c = record {
  within = record { threads = c.in_ok-threads.ensures.within; words = c.in_ok-objects.ensures.within };
  sourced = subst IsSourced (sym (returns-clause-state c)) c.requires.sourced;
}
