use Rattle.std.proofs.Common.{◌≡◌, ◌<◌, ◌∙◌, ap, inl, inr, get_or, length, sym, subst, arith}
use Rattle.std.proofs.lemmas.Bool.{cases_lt}
use Rattle.std.proofs.lemmas.Option.{slice_get-get_or}
use Rattle.ir_lemmas.proofs.CallerLemmas.{get_or_satisfies}
use Rattle.ir_state_store.specs.Nodes.{MomentsLookSame}
use Rattle.ir_state_store.specs.Table.{idle_beside, beside_at}
use Rattle.ir_state_store.proofs.Stored.{beside_at_is_element, get_or_map}
use Rattle.ir_state_store.proofs.compare.same_threads.Goals as goal

pub loop-t-preserved : goal.loop-t-preserved
loop-t-preserved c = λ u less.
    let items = c.args.table.now.items in
    let code = c.args.table.now.basis.code in
    let first = c.args.first.now in
    let second = c.args.second.now in
    let t = c.loop-t.t in
    let size : length first ≡ length second = c.if-first-second.false in
    let lt : t < length first = (let a = c.loop-t-test.true in let b = c.loop-t.auto.t-end in omega (arith, a, b)) in
    let lt' : t < length second = omega (arith, lt, size) in
    let m = get_or first t 0 in
    let n = get_or second t 0 in
    let here : MomentsLookSame code (get_or items m idle_beside) (get_or items n idle_beside) =
    c.same_look.ensures.same c.if-not-same_look.false (get_or items m idle_beside) (get_or items n idle_beside)
    (slice_get-get_or items m idle_beside (get_or_satisfies (λ k. k < length items) first t 0 c.requires.first lt))
    (slice_get-get_or items n idle_beside (get_or_satisfies (λ k. k < length items) second t 0 c.requires.second lt')) in
    let there : MomentsLookSame code (beside_at items first t) (beside_at items second t) =
    subst (λ z. MomentsLookSame code z (beside_at items second t)) (sym (beside_at_is_element items first t 0 lt))
    (subst (MomentsLookSame code (get_or items m idle_beside)) (sym (beside_at_is_element items second t 0 lt')) here) in
    elim (cases_lt u t) [
      | inl old ↦ c.loop-t.invariant u old
      | inr late ↦
          let same : t ≡ u = omega (arith, less, late) in
          subst (λ z. MomentsLookSame code (beside_at items first z) (beside_at items second z)) same there
    ]

pub returns-then-not-same_look-clause-other : goal.returns-then-not-same_look-clause-other
returns-then-not-same_look-clause-other c = λ _ same.
    let looks = c.args.table.now.looks in
    let first = c.args.first.now in
    let second = c.args.second.now in
    let t = c.loop-t.t in
    let lt : t < length first = (let a = c.loop-t-test.true in let b = c.loop-t.auto.t-end in omega (arith, a, b)) in
    let lt' : t < length second = (let a = c.if-first-second.false in omega (arith, lt, a)) in
    c.same_look.ensures.other c.if-not-same_look.true
    (sym (get_or_map (λ n. get_or looks n 0) first t 0 0 lt) ∙ ap (λ l. get_or l t 0) same ∙ get_or_map (λ n. get_or looks n 0) second t 0 0 lt')
