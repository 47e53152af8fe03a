use Rattle.std.proofs.Common.{◌≡◌, ◌+◌, Some, get_or, sym, subst}
use Rattle.std.specs.Prelude.{slice_get}
use Rattle.ir_past.specs.declared.place.Place.{Place}
use Rattle.ir_why.proofs.Gathered.{place_is_get_or}
use Rattle.ir_why.proofs.Linked.{StartsFurthest, next_starts_furthest, furthest_stays_next, furthest_is_latest}
use Rattle.ir_why.proofs.chain.latest.Goals.{then-is_later, else-is_later}
use Rattle.ir_why.proofs.chain.latest.Goals as goal

pub loop-place-preserved : goal.loop-place-preserved
loop-place-preserved c =
    let n = c.loop-place.place-index in
    let none : Place = record { thread = 0; event = 0 } in
    let p : Place = get_or c.args.needs.now n none in
    let at : slice_get c.args.needs.now n ≡ Some p = place_is_get_or c.args.needs.now n none c.loop-place-test.true in
    let h = c.loop-place.invariant in
    elim c.if-is_later.branch [
      | then-is_later w ↦ subst (λ (b : Place). StartsFurthest c.args.boxes.now c.args.needs.now (n + 1) b c.if-is_later.most) (sym w.best-is)
          (subst (λ m. StartsFurthest c.args.boxes.now c.args.needs.now (n + 1) p m) (sym w.most-is)
          (next_starts_furthest c.args.boxes.now c.args.needs.now n c.loop-place.best p c.loop-place.most c.start_of-start.result h at c.start_of-start.ensures
          (c.is_later.ensures.set w.if-is_later.true)))
      | else-is_later w ↦ subst (λ (b : Place). StartsFurthest c.args.boxes.now c.args.needs.now (n + 1) b c.if-is_later.most) (sym w.best-is)
          (subst (λ m. StartsFurthest c.args.boxes.now c.args.needs.now (n + 1) c.loop-place.best m) (sym w.most-is)
          (let own = c.is_later.ensures.clear w.if-is_later.false in
          furthest_stays_next c.args.boxes.now c.args.needs.now n c.loop-place.best p c.loop-place.most c.start_of-start.result h at c.start_of-start.ensures
          own.0 own.1))
    ]

pub returns : goal.returns
returns c = furthest_is_latest c.args.boxes.now c.args.needs.now c.loop-place.place-index c.loop-place.best c.loop-place.most c.loop-place.invariant
    c.loop-place-test.false
