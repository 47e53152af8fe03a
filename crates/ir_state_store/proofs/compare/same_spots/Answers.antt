use Rattle.std.proofs.Common.{◌<◌, ◌∙◌, ap, sym, length, get_or, arith}
use Rattle.ir_state_store.specs.declared.spot.Spot.{Spot}
use Rattle.ir_state_store.proofs.Stored.{get_or_map}
use Rattle.ir_state_store.proofs.Looks.{same_numbers_same_words}
use Rattle.ir_state_store.proofs.compare.same_spots.Goals as goal

pub returns-clause-same : goal.returns-clause-same
returns-clause-same c = λ _ words o.
    same_numbers_same_words words c.args.first.now c.args.second.now c.if-first-second.false
    (λ p lt. c.loop-o.invariant p (let a = c.loop-o-test.false in let b = c.loop-o.auto.o-end in omega (arith, lt, a, b))) o

pub returns-then-first-o-clause-other : goal.returns-then-first-o-clause-other
returns-then-first-o-clause-other c = λ _ same.
    let o = c.loop-o.o in
    let lt : o < length c.args.first.now = (let a = c.loop-o-test.true in let b = c.loop-o.auto.o-end in omega (arith, a, b)) in
    let lt' : o < length c.args.second.now = (let a = c.if-first-second.false in omega (arith, lt, a)) in
    let d : Spot = record { words = 0; low = 0; high = 0 } in
    c.if-first-o.true
    (sym (get_or_map (λ (s : Spot). s.words) c.args.first.now o d 0 lt) ∙ ap (λ l. get_or l o 0) same
    ∙ get_or_map (λ (s : Spot). s.words) c.args.second.now o d 0 lt')
