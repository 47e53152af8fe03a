use Rattle.std.proofs.Common.{◌+◌, get_or, sym, subst, List}
use Rattle.ir_past.specs.declared.place.Place.{Place}
use Rattle.ir_why.specs.FitAnswers.{IsNeed}
use Rattle.ir_why.specs.declared.need.Need.{Need}
use Rattle.ir_opened.proofs.CallerLemmas.{slice_get_as_get_or, ArePairedTo, paired_to_no_element, paired_to_next_element, paired_if_all_paired_to}
use Rattle.ir_why.proofs.leaves.needs_left.Goals as goal

pub need_of-requires : goal.need_of-requires
need_of-requires c =
    let n = c.loop-place.place-index in
    let none : Place = record { thread = 0; event = 0 } in
    c.requires n (get_or c.args.places.now n none) (slice_get_as_get_or c.args.places.now n none c.loop-place-test.true)

pub loop-place-init : goal.loop-place-init
loop-place-init c = subst (λ (xs : List Need). ArePairedTo (IsNeed c.args.fitted.now) c.args.places.now 0 xs) (sym c.new-needs.ensures.items)
    (paired_to_no_element (IsNeed c.args.fitted.now) c.args.places.now)

pub loop-place-preserved : goal.loop-place-preserved
loop-place-preserved c =
    let n = c.loop-place.place-index in
    let none : Place = record { thread = 0; event = 0 } in
    subst (λ (xs : List Need). ArePairedTo (IsNeed c.args.fitted.now) c.args.places.now (n + 1) xs) (sym c.in_ok-push.ensures.items)
    (paired_to_next_element (IsNeed c.args.fitted.now) c.args.places.now n c.loop-place.needs.items (get_or c.args.places.now n none) c.need_of.result
    c.loop-place.invariant (slice_get_as_get_or c.args.places.now n none c.loop-place-test.true) c.need_of.ensures)

pub returns : goal.returns
returns c = paired_if_all_paired_to (IsNeed c.args.fitted.now) c.args.places.now c.loop-place.place-index c.loop-place.needs.items c.loop-place.invariant
    c.loop-place-test.false c.loop-place.auto.place-index-end
