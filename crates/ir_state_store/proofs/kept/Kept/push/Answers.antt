use Rattle.std.proofs.Common.{◌++◌, [], ◌∷◌, ap, sym, ◌∙◌, append-nil, map}
use Rattle.ir_lemmas.proofs.CallerLemmas.{on_ok_of_implied, on_err_holds}
use Rattle.ir_state_store.specs.Places.{StorePlace, node_at}
use Rattle.ir_state_store.proofs.Lists.{on_err_weaker}
use Rattle.ir_state_store.proofs.Placed.{nodes_after_growth, nodes_after_push, placed_after_push}
use Rattle.ir_state_store.proofs.kept.Kept.push.Goals as goal

pub returns-in_err-extend_from_slice-2-clause-err : goal.returns-in_err-extend_from_slice-2-clause-err
returns-in_err-extend_from_slice-2-clause-err c =
    on_err_holds _
    (nodes_after_growth c.self.inside.threads.items c.extend_from_slice.new.self.items c.self.inside.objects.items c.extend_from_slice-2.new.self.items
    (c.as_slice.result.now, c.in_ok-extend_from_slice.ensures.items)
    ([], c.in_err-extend_from_slice-2.ensures.items ∙ sym (append-nil c.self.inside.objects.items)) c.self.inside.places.items c.self.invariant
    ∙ c.self.view_is)

pub invariant_of-self-2 : goal.invariant_of-self-2
invariant_of-self-2 c =
    let place : StorePlace = record {
      code = c.node.inside.code.now;
      thread = c.in_ok-short.field-0;
      threads = c.in_ok-short-2.field-0;
      object = c.in_ok-short-3.field-0;
      objects = c.in_ok-short-4.field-0;
    } in
    placed_after_push c.self.inside.threads.items c.node.inside.threads.items c.extend_from_slice.new.self.items c.self.inside.objects.items
    c.node.inside.objects.items c.extend_from_slice-2.new.self.items
    (c.in_ok-extend_from_slice.ensures.items ∙ ap (λ xs. c.self.inside.threads.items ++ xs) c.as_slice.ensures.value)
    (c.in_ok-extend_from_slice-2.ensures.items ∙ ap (λ xs. c.self.inside.objects.items ++ xs) c.as_slice-2.ensures.value) place
    (c.in_ok-short.ensures.same ∙ c.len.ensures ∙ c.self.inside.threads.ok.0)
    (c.in_ok-short-2.ensures.same ∙ c.len-2.ensures ∙ c.node.inside.threads.ok.0)
    (c.in_ok-short-3.ensures.same ∙ c.len-3.ensures ∙ c.self.inside.objects.ok.0)
    (c.in_ok-short-4.ensures.same ∙ c.len-4.ensures ∙ c.node.inside.objects.ok.0)
    c.self.inside.places.items c.put.new.items.items c.self.invariant c.put.ensures.either

pub returns-clause-ok : goal.returns-clause-ok
returns-clause-ok c =
    let place : StorePlace = record {
      code = c.node.inside.code.now;
      thread = c.in_ok-short.field-0;
      threads = c.in_ok-short-2.field-0;
      object = c.in_ok-short-3.field-0;
      objects = c.in_ok-short-4.field-0;
    } in
    on_ok_of_implied c.put.result
    (λ is. nodes_after_push c.self.inside.threads.items c.node.inside.threads.items c.extend_from_slice.new.self.items c.self.inside.objects.items
    c.node.inside.objects.items c.extend_from_slice-2.new.self.items
    (c.in_ok-extend_from_slice.ensures.items ∙ ap (λ xs. c.self.inside.threads.items ++ xs) c.as_slice.ensures.value)
    (c.in_ok-extend_from_slice-2.ensures.items ∙ ap (λ xs. c.self.inside.objects.items ++ xs) c.as_slice-2.ensures.value) place
    (c.in_ok-short.ensures.same ∙ c.len.ensures ∙ c.self.inside.threads.ok.0)
    (c.in_ok-short-2.ensures.same ∙ c.len-2.ensures ∙ c.node.inside.threads.ok.0)
    (c.in_ok-short-3.ensures.same ∙ c.len-3.ensures ∙ c.self.inside.objects.ok.0)
    (c.in_ok-short-4.ensures.same ∙ c.len-4.ensures ∙ c.node.inside.objects.ok.0)
    c.self.inside.places.items c.put.new.items.items c.self.invariant is
    ∙ (λ i. c.self.view_is i ++ c.node.view_is i ∷ [])) c.put.ensures.ok

pub returns-clause-err : goal.returns-clause-err
returns-clause-err c =
    on_err_weaker c.put.result
    (λ is. ap (map (node_at c.extend_from_slice.new.self.items c.extend_from_slice-2.new.self.items)) is
    ∙ nodes_after_growth c.self.inside.threads.items c.extend_from_slice.new.self.items c.self.inside.objects.items
    c.extend_from_slice-2.new.self.items (c.as_slice.result.now, c.in_ok-extend_from_slice.ensures.items)
    (c.as_slice-2.result.now, c.in_ok-extend_from_slice-2.ensures.items) c.self.inside.places.items c.self.invariant
    ∙ c.self.view_is) c.put.ensures.err
