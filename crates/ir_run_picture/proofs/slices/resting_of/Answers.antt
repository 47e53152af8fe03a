use Rattle.std.proofs.Common.{◌∙◌, length, refl, sym}
use Rattle.std.proofs.lemmas.Bool.{ltb-false}
use Rattle.std.proofs.lemmas.Option.{slice_get_read}
use Rattle.ir_picture.proofs.CallerLemmas.{IsCountBefore, stale_at_of_all_is_that_of_next, stale_at_past_end}
use Rattle.ir_run_picture.specs.declared.resting.Resting.{Resting}
use Rattle.ir_run_picture.proofs.Kept.{rests_go_with_writes}
use Rattle.ir_run_picture.proofs.slices.resting_of.Goals as goal

pub returns-in-None : goal.returns-in-None
returns-in-None c =
    let t = c.args.own.now.thread in
    let i = c.args.own.now.event in
    let counts : IsCountBefore c.args.stale.now t i c.count_before.result =
    record { before = c.count_before.ensures.before; rest = c.count_before.ensures.rest } in
    sym (stale_at_past_end (λ (x : Resting). x.write) c.args.kept.now c.args.stale.now t i c.count_before.result
    (rests_go_with_writes c.args.kept.now c.args.stale.now c.requires.kept) counts
    (ltb-false c.count_before.result (length c.args.kept.now) (sym c.in-None.ensures.lookup.0)))

pub returns-in-Some : goal.returns-in-Some
returns-in-Some c =
    let t = c.args.own.now.thread in
    let i = c.args.own.now.event in
    let counts : IsCountBefore c.args.stale.now t i c.count_before.result =
    record { before = c.count_before.ensures.before; rest = c.count_before.ensures.rest } in
    c.resting_by.ensures
    ∙ sym (stale_at_of_all_is_that_of_next (λ (x : Resting). x.write) c.args.kept.now c.args.stale.now t i c.count_before.result c.in-Some.row.now
    (rests_go_with_writes c.args.kept.now c.args.stale.now c.requires.kept) c.requires.rising counts
    (slice_get_read c.args.kept.now (length c.args.kept.now) c.count_before.result c.in-Some.row.now refl c.in-Some.ensures.lookup.3.0
    c.in-Some.ensures.lookup.1))
