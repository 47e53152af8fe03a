use Rattle.std.proofs.Common.{◌<◌, length, ◌∙◌, ap, arith}
use Rattle.std.proofs.lemmas.List.{length-set}
use Rattle.std.proofs.Math.Seq.{map-set_same}
use Rattle.ir_world.specs.Sources.{made_with}
use Rattle.ir_hunt.proofs.Restarting.{take_map_replicate_step}
use Rattle.ir_hunt.proofs.seeker.restart_all.Goals as goal

pub loop-place-preserved : goal.loop-place-preserved
loop-place-preserved g c =
    let old = c.index_mut.result.now in
    let new = c.restart.new.self in
    let long = c.loop-place.invariant.long in
    let there : c.loop-place.place < length c.loop-place.worlds.items = omega (arith, c.loop-place-test.true, c.len-place-end.ensures, long) in
    record {
      long = length-set c.loop-place.worlds.items c.loop-place.place new ∙ long;
      made = map-set_same (λ w. made_with w.time w.seed w.file.now) c.loop-place.worlds.items c.loop-place.place new old
          ((λ i. made_with (c.restart.ensures.time i) (c.restart.ensures.seed i) (c.restart.ensures.file i))
          ∙ ap (λ w. made_with w.time w.seed w.file.now) c.index_mut.ensures.value) ∙ c.loop-place.invariant.made;
      answers = take_map_replicate_step (λ w. w.answers.items) c.loop-place.worlds.items c.loop-place.place new _ there
          c.loop-place.invariant.answers c.restart.ensures.fresh;
      works = take_map_replicate_step (λ w. w.failed) c.loop-place.worlds.items c.loop-place.place new _ there
          c.loop-place.invariant.works c.restart.ensures.works;
    }
