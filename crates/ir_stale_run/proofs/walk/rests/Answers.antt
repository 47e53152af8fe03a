use Rattle.std.proofs.Common.{◌≡◌, ◌∙◌, List, false, length, map, sym, ap, subst}
use Rattle.std.specs.Vec.{with_items}
use Rattle.std.proofs.lemmas.List.{with_items_is, length-replicate}
use Rattle.std.proofs.lemmas.Result.{IfOk-weaker}
use Rattle.ir_stale_run.specs.WhatIf.{known}
use Rattle.ir_stale_run.specs.Rests.{AreRests}
use Rattle.ir_stale_run.specs.Watch.{AreBegun}
use Rattle.ir_stale_run.specs.declared.found.Found.{Found}
use Rattle.ir_stale_run.proofs.Begun.{begun_without_rests, rests_of_known_found}
use Rattle.ir_stale_run.proofs.walk.rests.Goals as goal

pub walk-requires-clause-begun : goal.walk-requires-clause-begun
walk-requires-clause-begun c = subst (AreBegun false c.args.fitted.now c.args.rows.now) (sym c.deref_mut.ensures.value)
    (begun_without_rests c.args.fitted.now c.args.rows.now c.in_ok-found.found.items c.in_ok-found.ensures)

pub returns : goal.returns
returns c =
    let f = c.args.fitted.now in
    let rows = c.args.rows.now in
    let first = c.in_ok-found.found in
    let once = c.walk.new.rests in
    let again = c.walk_again.new.rests in
    let size_once : length once ≡ length first.items = c.in_ok-walk.ensures.size ∙ ap (λ (xs : List Found). length xs) c.deref_mut.ensures.value in
    let second = with_items first once in
    let items_once : second.items ≡ once = with_items_is first once (size_once ∙ sym first.ok.0) in
    let size_again : length again ≡ length second.items =
    c.in_ok-walk_again.ensures.size ∙ ap (λ (xs : List Found). length xs) c.deref_mut-2.ensures.value in
    let items_again : (with_items second again).items ≡ again = with_items_is second again (size_again ∙ sym second.ok.0) in
    let all : length again ≡ length rows = size_again ∙ ap (λ (xs : List Found). length xs) items_once ∙ size_once
    ∙ ap (λ (xs : List Found). length xs) c.in_ok-found.ensures ∙ length-replicate (length rows) _ in
    IfOk-weaker c.all_known.result (λ v. v.items ≡ map known c.deref.result.now) (λ v. AreRests f rows v.items)
    (λ v e. rests_of_known_found f rows again v.items all c.in_ok-walk_again.ensures.found
    (e ∙ ap (λ (xs : List Found). map known xs) (c.deref.ensures.value ∙ items_again))) c.all_known.ensures
