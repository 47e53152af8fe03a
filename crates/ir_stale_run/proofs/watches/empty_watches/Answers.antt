use Rattle.std.proofs.Common.{◌+◌, ◌∙◌, ap, length, length-append, [], ◌∷◌, arith}
use Rattle.ir_image.specs.Guest.{Guest}
use Rattle.ir_stale_run.proofs.Built.{all_built_of_no_watch, all_built_watch_added}
use Rattle.ir_stale_run.proofs.watches.empty_watches.Goals as goal

pub loop-init : goal.loop-init
loop-init c = record {
  size = ap length c.in_ok-watches.ensures.items;
  built = all_built_of_no_watch c.args.guide.copies c.args.guide.route.fitted.now c.args.guide.rows.now c.args.found.now c.in_ok-watches.watches.items c.in_ok-watches.ensures.items;
}

pub loop-preserved : goal.loop-preserved
loop-preserved c = record {
  size = ap length c.in_ok-push.ensures.items ∙ length-append c.loop.watches.items (c.empty_watch.result ∷ [])
      ∙ ap (λ n. n + 1) c.loop.invariant.size;
  built = all_built_watch_added c.args.guide.copies c.args.guide.route.fitted.now c.args.guide.rows.now c.args.found.now c.loop.watches.items c.push.new.self.items c.empty_watch.result
      c.loop.invariant.built c.in_ok-push.ensures.items c.empty_watch.ensures.next c.empty_watch.ensures.spans c.empty_watch.ensures.opened;
}

pub returns-clause-size : goal.returns-clause-size
returns-clause-size c =
    let a = c.loop.invariant.size in
    let b = c.loop-test.false in
    let d = c.loop.auto.counter-end in
    let e = ap length (c.entries-threads.ensures.value ∙ ap (λ (g : Guest). g.entries) c.image.ensures.value) in
    omega (arith, a, b, d, e)

pub returns-clause-built : goal.returns-clause-built
returns-clause-built c = c.loop.invariant.built
