use Rattle.std.proofs.Common.{◌≡◌, ◌<◌, ◌-◌, suc, length, refl, ap, ◌∙◌, arith}
use Rattle.ir_checkpoint.specs.Store.{Entry}
use Rattle.ir_checkpoint.proofs.Again.{started_is_nonempty}
use Rattle.ir_checkpoint.proofs.Found.{oldest_cut_below_all, length-entry_cut}
use Rattle.ir_checkpoint.proofs.finding.nearest.Goals as goal

pub loop-place-init : goal.loop-place-init
loop-place-init c =
    let entries = c.args.entries.now in
    let cut = c.args.cut.now in
    let last = length entries - 1 in
    let some : 0 < length entries = started_is_nonempty entries c.requires.start in
    let behind : suc last ≡ length entries = omega (arith, some) in
    record {
      there = omega (arith, some);
      below = λ d. (oldest_cut_below_all (length cut) entries d last cut c.requires.each c.requires.start behind refl).0;
      most = λ d. (oldest_cut_below_all (length cut) entries d last cut c.requires.each c.requires.start behind refl).1;
      nearest =
          λ i d lt below. absurd (omega (arith, lt));
    }

pub steps_below-requires-clause-threads : goal.steps_below-requires-clause-threads
steps_below-requires-clause-threads c =
    let d = c.index-entries-place.result in
    ap (λ (e : Entry). length e.cut) c.index-entries-place.is
    ∙ length-entry_cut (length c.args.cut.now) c.loop-place.place c.args.entries.now d c.requires.each c.loop-place-test.true
