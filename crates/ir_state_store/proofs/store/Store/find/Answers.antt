use Rattle.std.proofs.Common.{◌≡◌, sym, subst, refl, map, get_or, Some, ℕ, List}
use Rattle.std.specs.Prelude.{slice_get}
use Rattle.std.proofs.lemmas.Option.{slice_get_within}
use Rattle.ir_state_store.specs.Nodes.{Shared, Stored, Node, IsWithin, IsSourced, AreMoments, AreSameLooks, sourced_in}
use Rattle.ir_state_store.specs.Places.{no_node}
use Rattle.ir_state_store.proofs.Numbered.{same_numbers_if_same_looks}
use Rattle.ir_state_store.proofs.Stored.{node_less, node_is, state_is}
use Rattle.ir_state_store.proofs.store.Store.find.Goals as goal

pub returns-clause-none : goal.returns-clause-none
returns-clause-none c = λ none v s at moments same.
    let shared : Shared = record { threads = c.self.inside.table.items; words = c.self.inside.words } in
    let nodes = c.self.inside.nodes in
    let a : Node = c.args.node.now in
    let b : Node = get_or nodes v no_node in
    let there = subst (λ (z : Stored). slice_get z.items v ≡ Some s) (sym c.self.view_is) at in
    let less = slice_get_within (map (sourced_in shared) nodes) v s there in
    let is = state_is shared nodes c.self.invariant.0 v b less refl s there in
    let in_a : IsWithin shared a = subst (λ (z : Stored). IsWithin z.shared a) (sym c.self.view_is) c.requires in
    let in_b : IsWithin shared b = (node_is shared nodes c.self.invariant.0 v b less refl s there).within in
    let moments' : AreMoments (sourced_in shared a) (sourced_in shared b) =
    subst (AreMoments (sourced_in shared a)) (sym is) (subst (λ (z : Stored). AreMoments (sourced_in z.shared a) s) (sym c.self.view_is) moments) in
    let code : List ℕ = c.self.inside.table.basis.code in
    let same' : AreSameLooks code (sourced_in shared a) (sourced_in shared b) =
    subst (AreSameLooks code (sourced_in shared a)) (sym is) (subst (λ (z : Stored). AreSameLooks z.code (sourced_in z.shared a) s) (sym c.self.view_is) same) in
    c.find_node.ensures.none none v (node_less shared nodes c.self.invariant.0 v b less refl s there)
    (same_numbers_if_same_looks c.tells_apart.ensures c.each.ensures.one.0 c.self.inside.table c.self.inside.words c.each.ensures.basis c.each.ensures.bounded
    c.each.ensures.one.1 c.each_once.ensures a b in_a in_b moments' same')

pub returns-clause-sourced : goal.returns-clause-sourced
returns-clause-sourced c = λ v s at.
    let shared : Shared = record { threads = c.self.inside.table.items; words = c.self.inside.words } in
    let nodes = c.self.inside.nodes in
    let b : Node = get_or nodes v no_node in
    let there = subst (λ (z : Stored). slice_get z.items v ≡ Some s) (sym c.self.view_is) at in
    let less = slice_get_within (map (sourced_in shared) nodes) v s there in
    subst IsSourced (state_is shared nodes c.self.invariant.0 v b less refl s there) (node_is shared nodes c.self.invariant.0 v b less refl s there).sourced
