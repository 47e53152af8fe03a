use Rattle.std.proofs.Common.{ap, ◌∙◌}
use Rattle.ir_state_store.specs.Nodes.{Shared, Stored}
use Rattle.ir_state_store.proofs.Shared.{nodes_grown, states_grown}
use Rattle.ir_state_store.proofs.store.Store.add_object.Goals as goal

pub invariant_of-self : goal.invariant_of-self
invariant_of-self c =
    let old : Shared = record { threads = c.self.inside.table.items; words = c.self.inside.words } in
    let new : Shared = record { threads = c.self.inside.table.items; words = c.spot_of.new.words } in
    (nodes_grown old new (record { threads = λ n s e. e; words = c.spot_of.ensures.keeps }) c.self.inside.nodes c.self.invariant.0, c.self.invariant.1)

pub returns-clause-items : goal.returns-clause-items
returns-clause-items c =
    let old : Shared = record { threads = c.self.inside.table.items; words = c.self.inside.words } in
    let new : Shared = record { threads = c.self.inside.table.items; words = c.spot_of.new.words } in
    states_grown old new (record { threads = λ n s e. e; words = c.spot_of.ensures.keeps }) c.self.inside.nodes c.self.invariant.0
    ∙ ap (λ (z : Stored). z.items) c.self.view_is
