use Rattle.std.proofs.Common.{ap, ◌∙◌}
use Rattle.ir_state_store.specs.Nodes.{Shared, Stored}
use Rattle.ir_state_store.proofs.Numbered.{nodes_found_kept}
use Rattle.ir_state_store.proofs.Shared.{nodes_grown, states_grown}
use Rattle.ir_state_store.proofs.store.Store.by_numbers.Goals as goal

pub invariant_of-self : goal.invariant_of-self
invariant_of-self c =
    let old : Shared = record { threads = c.self.inside.table.items; words = c.self.inside.words } in
    let new : Shared = record { threads = c.add_all.new.self.items; words = c.self.inside.words } in (
      nodes_grown old new (record { threads = c.add_all.ensures.keeps; words = λ n s e. e }) c.self.inside.nodes c.self.invariant.0,
      nodes_found_kept c.self.inside.index old c.self.inside.table.looks c.add_all.new.self.looks c.self.inside.nodes c.each.ensures.one.1.each c.add_all.ensures.looks
          c.self.invariant.0 c.self.invariant.1,
    )

pub returns-in_err-threads-clause-items : goal.returns-in_err-threads-clause-items
returns-in_err-threads-clause-items c =
    let old : Shared = record { threads = c.self.inside.table.items; words = c.self.inside.words } in
    let new : Shared = record { threads = c.add_all.new.self.items; words = c.self.inside.words } in
    states_grown old new (record { threads = c.add_all.ensures.keeps; words = λ n s e. e }) c.self.inside.nodes c.self.invariant.0
    ∙ ap (λ (z : Stored). z.items) c.self.view_is

pub invariant_of-self-in_err-objects : goal.invariant_of-self-in_err-objects
invariant_of-self-in_err-objects c =
    let old : Shared = record { threads = c.self.inside.table.items; words = c.self.inside.words } in
    let new : Shared = record { threads = c.add_all.new.self.items; words = c.spots_of.new.words } in (
      nodes_grown old new (record { threads = c.add_all.ensures.keeps; words = c.spots_of.ensures.keeps }) c.self.inside.nodes c.self.invariant.0,
      nodes_found_kept c.self.inside.index old c.self.inside.table.looks c.add_all.new.self.looks c.self.inside.nodes c.each.ensures.one.1.each c.add_all.ensures.looks
          c.self.invariant.0 c.self.invariant.1,
    )

pub returns-in_err-objects-clause-items : goal.returns-in_err-objects-clause-items
returns-in_err-objects-clause-items c =
    let old : Shared = record { threads = c.self.inside.table.items; words = c.self.inside.words } in
    let new : Shared = record { threads = c.add_all.new.self.items; words = c.spots_of.new.words } in
    states_grown old new (record { threads = c.add_all.ensures.keeps; words = c.spots_of.ensures.keeps }) c.self.inside.nodes c.self.invariant.0
    ∙ ap (λ (z : Stored). z.items) c.self.view_is

pub invariant_of-self-2 : goal.invariant_of-self-2
invariant_of-self-2 c =
    let old : Shared = record { threads = c.self.inside.table.items; words = c.self.inside.words } in
    let new : Shared = record { threads = c.add_all.new.self.items; words = c.spots_of.new.words } in (
      nodes_grown old new (record { threads = c.add_all.ensures.keeps; words = c.spots_of.ensures.keeps }) c.self.inside.nodes c.self.invariant.0,
      nodes_found_kept c.self.inside.index old c.self.inside.table.looks c.add_all.new.self.looks c.self.inside.nodes c.each.ensures.one.1.each c.add_all.ensures.looks
          c.self.invariant.0 c.self.invariant.1,
    )

pub returns-clause-items : goal.returns-clause-items
returns-clause-items c =
    let old : Shared = record { threads = c.self.inside.table.items; words = c.self.inside.words } in
    let new : Shared = record { threads = c.add_all.new.self.items; words = c.spots_of.new.words } in
    states_grown old new (record { threads = c.add_all.ensures.keeps; words = c.spots_of.ensures.keeps }) c.self.inside.nodes c.self.invariant.0
    ∙ ap (λ (z : Stored). z.items) c.self.view_is

pub returns-clause-state : goal.returns-clause-state
returns-clause-state c = (λ i. record {
  flat = record {
    code = c.code.ensures i;
    threads = (c.in_ok-threads.ensures.threads ∙ c.threads.ensures.value) i;
    objects = (c.in_ok-objects.ensures.found ∙ c.objects.ensures.value) i;
  };
  sources = (c.in_ok-threads.ensures.sources ∙ c.as_slice.ensures.value) i;
}) ∙ c.state.view_is
