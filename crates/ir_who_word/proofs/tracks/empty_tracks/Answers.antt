use Rattle.std.proofs.Common.{◌+◌, ◌∙◌, ap, length, length-append, [], ◌∷◌, arith}
use Rattle.ir_image.specs.Guest.{Guest}
use Rattle.ir_who_word.proofs.Built.{all_built_of_no_track, all_built_track_added}
use Rattle.ir_who_word.proofs.tracks.empty_tracks.Goals as goal

pub loop-init : goal.loop-init
loop-init c = record {
  size = ap length c.in_ok-tracks.ensures.items;
  built = all_built_of_no_track c.args.guide.route.fitted.now c.args.guide.rows.now c.args.guide.word c.in_ok-tracks.tracks.items c.in_ok-tracks.ensures.items;
}

pub loop-preserved : goal.loop-preserved
loop-preserved c = record {
  size = ap length c.in_ok-push.ensures.items ∙ length-append c.loop.tracks.items (c.empty_track.result ∷ [])
      ∙ ap (λ n. n + 1) c.loop.invariant.size;
  built = all_built_track_added c.args.guide.route.fitted.now c.args.guide.rows.now c.args.guide.word c.loop.tracks.items c.push.new.self.items c.empty_track.result
      c.loop.invariant.built c.in_ok-push.ensures.items c.empty_track.ensures.next c.empty_track.ensures.put c.empty_track.ensures.holds;
}

pub returns-clause-size : goal.returns-clause-size
returns-clause-size c =
    let a = c.loop.invariant.size in
    let b = c.loop-test.false in
    let d = c.loop.auto.counter-end in
    let e = ap length (c.entries-threads.ensures.value ∙ ap (λ (g : Guest). g.entries) c.image.ensures.value) in
    omega (arith, a, b, d, e)

pub returns-clause-built : goal.returns-clause-built
returns-clause-built c = c.loop.invariant.built
