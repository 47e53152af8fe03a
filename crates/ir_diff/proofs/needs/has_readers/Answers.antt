use Rattle.std.proofs.Common.{get_or, refl, sym, subst, arith, rules}
use Rattle.std.proofs.lemmas.Option.{slice_get-get_or}
use Rattle.ir_past.specs.Past.{AreReaders}
use Rattle.ir_past.specs.declared.place.Place.{Place}
use Rattle.ir_diff.specs.Common.{HasOthersReaders}
use Rattle.ir_diff.specs.Progress.{counts_of_part}
use Rattle.ir_diff.proofs.Told.{true_flag_tells, false_flag_tells}
use Rattle.ir_diff.proofs.Needed.{own_or_among_first_step, all_among_has_readers, lacks_others_readers}
use Rattle.ir_diff.proofs.needs.has_readers.Goals as goal

pub returns-then-not-is_there : goal.returns-then-not-is_there
returns-then-not-is_there c =
    let r = c.args.trace.now in
    let f = counts_of_part c.args.part.now in
    let places = c.deref-place-items.result.now in
    let n = c.loop-place.place-index in
    let first : Place = record { thread = 0; event = 0 } in
    let are = subst (AreReaders r c.args.object c.args.version) (sym c.deref-place-items.ensures.value) c.in_ok-readers.ensures in
    false_flag_tells _ (HasOthersReaders r f c.args.thread c.args.object c.args.version) refl
    (lacks_others_readers r c.args.object c.args.version places n (get_or places n first) f c.args.thread are
    (slice_get-get_or places n first (omega arith)) (c.is_there.ensures.clear (search rules)))

pub loop-place-preserved : goal.loop-place-preserved
loop-place-preserved c =
    let places = c.deref-place-items.result.now in
    let n = c.loop-place.place-index in
    let first : Place = record { thread = 0; event = 0 } in
    own_or_among_first_step places n (counts_of_part c.args.part.now) c.args.thread (get_or places n first) c.loop-place.invariant
    (slice_get-get_or places n first (omega arith)) (c.is_there.ensures.set (search rules))

pub returns : goal.returns
returns c =
    let r = c.args.trace.now in
    let f = counts_of_part c.args.part.now in
    let places = c.deref-place-items.result.now in
    let are = subst (AreReaders r c.args.object c.args.version) (sym c.deref-place-items.ensures.value) c.in_ok-readers.ensures in
    true_flag_tells _ (HasOthersReaders r f c.args.thread c.args.object c.args.version) refl
    (all_among_has_readers r c.args.object c.args.version places c.loop-place.place-index f c.args.thread are c.loop-place.invariant (omega arith))
