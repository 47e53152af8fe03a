use Rattle.std.proofs.Common.{◌≡◌, ◌<◌, ap, ◌∙◌, length, get_or, Some}
use Rattle.std.specs.Prelude.{slice_get}
use Rattle.std.proofs.lemmas.Option.{slice_get_within, get_or_from_slice_get}
use Rattle.ir_lemmas.proofs.CallerLemmas.{if_ok_of_implied}
use Rattle.ir_world.specs.Sources.{Source}
use Rattle.ir_thread.specs.State.{ThreadState}
use Rattle.ir_state_store.specs.Nodes.{Shared, Stored}
use Rattle.ir_state_store.specs.Table.{idle_beside}
use Rattle.ir_state_store.proofs.Numbered.{nodes_found_kept}
use Rattle.ir_state_store.proofs.Shared.{nodes_grown, states_grown}
use Rattle.ir_state_store.proofs.store.Store.add_thread.Goals as goal

pub invariant_of-self : goal.invariant_of-self
invariant_of-self c =
    let old : Shared = record { threads = c.self.inside.table.items; words = c.self.inside.words } in
    let new : Shared = record { threads = c.add.new.self.items; words = c.self.inside.words } in (
      nodes_grown old new (record { threads = c.add.ensures.keeps; words = λ n s e. e }) c.self.inside.nodes c.self.invariant.0,
      nodes_found_kept c.self.inside.index old c.self.inside.table.looks c.add.new.self.looks c.self.inside.nodes c.each.ensures.one.1.each c.add.ensures.looks
          c.self.invariant.0 c.self.invariant.1,
    )

pub returns-clause-items : goal.returns-clause-items
returns-clause-items c =
    let old : Shared = record { threads = c.self.inside.table.items; words = c.self.inside.words } in
    let new : Shared = record { threads = c.add.new.self.items; words = c.self.inside.words } in
    states_grown old new (record { threads = c.add.ensures.keeps; words = λ n s e. e }) c.self.inside.nodes c.self.invariant.0
    ∙ ap (λ (z : Stored). z.items) c.self.view_is

pub returns-clause-within : goal.returns-clause-within
returns-clause-within c =
    let x : ThreadState × Source = (c.thread.inside.thread, c.thread.inside.source) in
    if_ok_of_implied (λ n. slice_get c.add.new.self.items n ≡ Some x) (λ n. n < length c.add.new.self.items) c.add.result
    (λ n at. slice_get_within c.add.new.self.items n x at) c.add.ensures.found

pub returns-clause-found : goal.returns-clause-found
returns-clause-found c =
    let x : ThreadState × Source = (c.thread.inside.thread, c.thread.inside.source) in
    if_ok_of_implied (λ n. slice_get c.add.new.self.items n ≡ Some x) (λ n. get_or c.add.new.self.items n idle_beside ≡ c.args.thread.now)
    c.add.result (λ n at. get_or_from_slice_get c.add.new.self.items n x idle_beside at ∙ c.thread.view_is) c.add.ensures.found
