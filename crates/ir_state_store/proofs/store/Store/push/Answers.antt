use Rattle.std.proofs.Common.{sym, subst}
use Rattle.ir_lemmas.proofs.CallerLemmas.{all_of_push}
use Rattle.ir_state_store.specs.Hashes.{IsFoundBy}
use Rattle.ir_state_store.specs.Nodes.{Shared, Stored, IsNode, AreKept, AreNodesFound, node_hash}
use Rattle.ir_state_store.proofs.Found.{each_found_push}
use Rattle.ir_state_store.proofs.store.Store.push.Goals as goal

pub invariant_of-self-in_err-push : goal.invariant_of-self-in_err-push
invariant_of-self-in_err-push c =
    let shared : Shared = record { threads = c.self.inside.table.items; words = c.self.inside.words } in
    subst (λ nodes. AreKept shared nodes × AreNodesFound c.note.new.self c.self.inside.table.looks nodes) (sym c.in_err-push.ensures.err)
    (c.self.invariant.0, λ v node at. c.note.ensures.keeps (node_hash c.self.inside.table.looks node) v (c.self.invariant.1 v node at))

pub invariant_of-self-2 : goal.invariant_of-self-2
invariant_of-self-2 c =
    let shared : Shared = record { threads = c.self.inside.table.items; words = c.self.inside.words } in
    let looks = c.self.inside.table.looks in
    let is : IsNode shared c.args.node = subst (λ (z : Stored). IsNode z.shared c.args.node) (sym c.self.view_is) c.requires in
    let here : IsFoundBy c.note.new.self (node_hash looks c.args.node) _ =
    subst (IsFoundBy c.note.new.self (node_hash looks c.args.node)) c.len.ensures
    (subst (λ h. IsFoundBy c.note.new.self h c.len.result) c.hash_of-hash.ensures c.in_ok-note.ensures.found) in
    subst (λ nodes. AreKept shared nodes × AreNodesFound c.note.new.self looks nodes) (sym c.in_ok-push.ensures.ok) (
      all_of_push (IsNode shared) c.self.inside.nodes c.args.node c.self.invariant.0 is,
      each_found_push (node_hash looks) c.self.inside.index c.note.new.self c.self.inside.nodes c.args.node c.note.ensures.keeps c.self.invariant.1 here,
    )
