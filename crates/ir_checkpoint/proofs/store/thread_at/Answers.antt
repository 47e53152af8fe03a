use Rattle.std.proofs.Common.{◌+◌, ◌*◌, List, ℕ, ◌∙◌, arith, length-set, Bor}
use Rattle.ir_checkpoint.specs.Store.{in_force}
use Rattle.ir_checkpoint.proofs.Rebuilt.{length-in_force_le, filled_pages_step, filled_pages_all, filled_pages_are_pages}
use Rattle.ir_checkpoint.proofs.store.thread_at.Goals as goal

pub loop-i-preserved : goal.loop-i-preserved
loop-i-preserved c =
    let force = in_force c.args.entries.now in
    let t = c.args.t in
    let pages = c.loop-i.pages in
    record {
      many = length-set pages c.loop-i.i c.page_at.result ∙ c.loop-i.invariant.many;
      made =
          filled_pages_step (λ (page : Bor (List ℕ)). page.now) pages c.page_at.result force c.loop-i.i t (omega (arith, c.loop-i.invariant.many, c.loop-i-test.true))
          (length-in_force_le (16 * t + 16) c.args.entries.now c.requires.some c.requires.fits) c.loop-i-test.true c.page_at.ensures c.loop-i.invariant.made;
    }

pub build-requires : goal.build-requires
build-requires c =
    let force = in_force c.args.entries.now in
    let t = c.args.t in
    filled_pages_are_pages (λ (page : Bor (List ℕ)). page.now) c.loop-i.pages force t c.requires.full (length-in_force_le (16 * t + 16) c.args.entries.now c.requires.some c.requires.fits)
    (filled_pages_all (λ (page : Bor (List ℕ)). page.now) c.loop-i.pages force c.loop-i.i t c.loop-i-test.false c.loop-i.auto.i-end c.loop-i.invariant.many c.loop-i.invariant.made)
