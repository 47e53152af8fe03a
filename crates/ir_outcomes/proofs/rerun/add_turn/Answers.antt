use Rattle.std.proofs.Common.{◌≡◌, ◌<◌, ◌+◌, ◌-◌, ◌++◌, [], ◌∷◌, true, false, length, get_or, replicate, refl, sym, ap, ◌∙◌, subst, arith, append_assoc}
use Rattle.ir_search.specs.declared.origin.Refusal.{Refusal}
use Rattle.ir_record.specs.Recording.{turns_of_items}
use Rattle.ir_outcomes.specs.Again.{IsAgain, ways_by}
use Rattle.ir_outcomes.specs.Along.{ArrivesBy, FailsBy}
use Rattle.ir_outcomes.specs.Path.{ways_of}
use Rattle.ir_outcomes.proofs.Again.{again_with_no_ways, again_with_ways, again_with_turn_ways}
use Rattle.ir_outcomes.proofs.Along.{last_ways_come_first, ways_of_turn_unique}
use Rattle.ir_outcomes.proofs.Arriving.{arrives_append, arrives_by_no_ways, fails_after, fails_append}
use Rattle.ir_outcomes.proofs.Paths.{last_ways, last_ways-none, last_ways-next, last_ways-all}
use Rattle.ir_outcomes.proofs.rerun.add_turn.Goals as goal

pub refusals_to-requires : goal.refusals_to-requires
refusals_to-requires c = (c.requires.1.0, c.requires.1.1)

pub loop-k-init : goal.loop-k-init
loop-k-init c =
    let none = sym (last_ways-none c.in-Ok.refusals.items) in
    let t = c.args.origin.thread in record {
      again = λ setup before again.
          let turns = turns_of_items c.args.items.now.items in
          subst (λ z. IsAgain setup turns (before ++ ways_by t z) c.args.state.now) none
          (again_with_no_ways setup turns before c.args.state.now again);
      arrives = subst (λ z. ArrivesBy t z c.args.state.now c.args.state.now) none (arrives_by_no_ways t c.args.state.now);
    }

pub loop-k-preserved : goal.loop-k-preserved
loop-k-preserved c =
    let xs = c.in-Ok.refusals.items in
    let t = c.args.origin.thread in
    let k = c.loop-k.k in
    let x = c.index-refusal.result.now in
    let turns = turns_of_items c.add_refusal.new.items.items in
    let all = c.len-k-end.ensures ∙ c.in-Ok.refusals.ok.0 in
    let many = c.len.ensures ∙ c.in-Ok.refusals.ok.0 in
    let less : k < length xs = (let a = c.loop-k-test.true in omega (arith, a, all)) in
    let at : get_or xs (length xs - 1 - k) x ≡ x = sym (c.index-refusal.ensures ∙ ap (λ n. get_or xs (n - 1 - k) x) many) in
    let next : last_ways xs (k + 1) ≡ last_ways xs k ++ (replicate x.entries false ++ true ∷ []) =
    last_ways-next xs k x less ∙ ap (λ (y : Refusal). last_ways xs k ++ (replicate y.entries false ++ true ∷ [])) at in
    record {
      again = λ setup before again.
          subst (λ z. IsAgain setup turns (before ++ ways_by t z) c.add_refusal.new.state) (sym next)
          (again_with_turn_ways setup turns before c.add_refusal.new.state t (last_ways xs k) (replicate x.entries false ++ true ∷ [])
          (c.in_default-add_refusal.ensures.again setup (before ++ ways_by t (last_ways xs k)) (c.loop-k.invariant.again setup before again)));
      arrives = subst (λ z. ArrivesBy t z c.args.state.now c.add_refusal.new.state) (sym next)
          (arrives_append t (last_ways xs k) (replicate x.entries false ++ true ∷ []) c.args.state.now c.loop-k.state c.add_refusal.new.state
          c.loop-k.invariant.arrives c.in_default-add_refusal.ensures.arrives);
    }

pub returns-in-Ok-add_stretch-clause-again : goal.returns-in-Ok-add_stretch-clause-again
returns-in-Ok-add_stretch-clause-again c = λ setup before again.
    let xs = c.in-Ok.refusals.items in
    let t = c.args.origin.thread in
    let k = c.loop-k.k in
    let n = c.args.origin.entries in
    let turns = turns_of_items c.add_stretch.new.items.items in
    let all = c.len-k-end.ensures ∙ c.in-Ok.refusals.ok.0 in
    let over : k ≡ length xs = (let a = c.loop-k-test.false in let b = c.loop-k.auto.k-end in omega (arith, a, b, all)) in
    let whole : last_ways xs k ≡ ways_of xs = ap (last_ways xs) over ∙ last_ways-all xs in (
      ways_of xs ++ replicate n false,
      (ways_of xs, c.in-Ok.ensures, refl),
      subst (λ z. IsAgain setup turns (before ++ ways_by t (z ++ replicate n false)) c.add_stretch.new.state) whole
          (again_with_ways setup turns before c.add_stretch.new.state t (last_ways xs k) false n
          (c.in-Ok-add_stretch.ensures.again setup (before ++ ways_by t (last_ways xs k)) (c.loop-k.invariant.again setup before again))),
    )

pub returns-in-Ok-add_stretch-clause-arrives : goal.returns-in-Ok-add_stretch-clause-arrives
returns-in-Ok-add_stretch-clause-arrives c = λ own are.
    let xs = c.in-Ok.refusals.items in
    let t = c.args.origin.thread in
    let k = c.loop-k.k in
    let n = c.args.origin.entries in
    let all = c.len-k-end.ensures ∙ c.in-Ok.refusals.ok.0 in
    let over : k ≡ length xs = (let a = c.loop-k-test.false in let b = c.loop-k.auto.k-end in omega (arith, a, b, all)) in
    let whole : last_ways xs k ≡ ways_of xs = ap (last_ways xs) over ∙ last_ways-all xs in
    let same = ways_of_turn_unique c.args.table.now c.args.origin (ways_of xs ++ replicate n false) own (ways_of xs, c.in-Ok.ensures, refl) are in
    subst (λ z. ArrivesBy t z c.args.state.now c.add_stretch.new.state) (ap (λ z. z ++ replicate n false) whole ∙ same)
    (arrives_append t (last_ways xs k) (replicate n false) c.args.state.now c.loop-k.state c.add_stretch.new.state c.loop-k.invariant.arrives
    c.in-Ok-add_stretch.ensures.arrives)

pub returns-in-Err-clause-fails : goal.returns-in-Err-clause-fails
returns-in-Err-clause-fails c = λ own are.
    let xs = c.in-Ok.refusals.items in
    let t = c.args.origin.thread in
    let k = c.loop-k.k in
    let x = c.index-refusal.result.now in
    let all = c.len-k-end.ensures ∙ c.in-Ok.refusals.ok.0 in
    let many = c.len.ensures ∙ c.in-Ok.refusals.ok.0 in
    let less : k < length xs = (let a = c.loop-k-test.true in omega (arith, a, all)) in
    let at : get_or xs (length xs - 1 - k) x ≡ x = sym (c.index-refusal.ensures ∙ ap (λ n. get_or xs (n - 1 - k) x) many) in
    let way = replicate x.entries false ++ true ∷ [] in
    let rest = replicate c.args.origin.entries false in
    let next : last_ways xs (k + 1) ≡ last_ways xs k ++ way =
    last_ways-next xs k x less ∙ ap (λ (y : Refusal). last_ways xs k ++ (replicate y.entries false ++ true ∷ [])) at in
    let tail = last_ways_come_first xs (k + 1) in
    let same = ways_of_turn_unique c.args.table.now c.args.origin (ways_of xs ++ rest) own (ways_of xs, c.in-Ok.ensures, refl) are in
    let apart : last_ways xs k ++ (way ++ (tail.0 ++ rest)) ≡ own =
    sym (append_assoc (last_ways xs k) way (tail.0 ++ rest)) ∙ sym (append_assoc (last_ways xs k ++ way) tail.0 rest)
    ∙ ap (λ z. (z ++ tail.0) ++ rest) (sym next) ∙ ap (λ z. z ++ rest) (sym tail.1) ∙ same in
    subst (λ z. FailsBy c.args.limit t z c.args.state.now c.in-Err.e) apart
    (fails_after c.args.limit t (last_ways xs k) (way ++ (tail.0 ++ rest)) c.args.state.now c.loop-k.state c.in-Err.e c.loop-k.invariant.arrives
    (fails_append c.args.limit t way (tail.0 ++ rest) c.loop-k.state c.in-Err.e c.in-Err.ensures.fails))

pub returns-clause-fails : goal.returns-clause-fails
returns-clause-fails c = λ own are.
    let xs = c.in-Ok.refusals.items in
    let t = c.args.origin.thread in
    let k = c.loop-k.k in
    let n = c.args.origin.entries in
    let all = c.len-k-end.ensures ∙ c.in-Ok.refusals.ok.0 in
    let over : k ≡ length xs = (let a = c.loop-k-test.false in let b = c.loop-k.auto.k-end in omega (arith, a, b, all)) in
    let whole : last_ways xs k ≡ ways_of xs = ap (last_ways xs) over ∙ last_ways-all xs in
    let same = ways_of_turn_unique c.args.table.now c.args.origin (ways_of xs ++ replicate n false) own (ways_of xs, c.in-Ok.ensures, refl) are in
    subst (λ z. FailsBy c.args.limit t z c.args.state.now c.in-Err-add_stretch.e) (ap (λ z. z ++ replicate n false) whole ∙ same)
    (fails_after c.args.limit t (last_ways xs k) (replicate n false) c.args.state.now c.loop-k.state c.in-Err-add_stretch.e c.loop-k.invariant.arrives
    c.in-Err-add_stretch.ensures.fails)
