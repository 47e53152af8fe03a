use Rattle.std.proofs.Common.{rules, ℕ, List, arith, ap, length, ◌∙◌, Bor}
use Rattle.ir_mach.proofs.Pages.{joined_pages_step, joined_pages_at_end, length-joined_pages}
use Rattle.ir_mach.proofs.mach.pages.joined.Goals as goal

pub loop-page-init : goal.loop-page-init
loop-page-init c = search rules

pub loop-page-preserved : goal.loop-page-preserved
loop-page-preserved c =
    c.in_ok-extend_from_slice.ensures.items
    ∙ joined_pages_step (λ (page : Bor (List ℕ)). page.now) c.args.pages.now c.loop-page.page-index _ _ c.loop-page-test.true
    c.loop-page.invariant

pub returns-clause-size : goal.returns-clause-size
returns-clause-size c =
    ap length (joined_pages_at_end (λ (page : Bor (List ℕ)). page.now) c.args.pages.now c.loop-page.page-index _
    (omega (arith, c.loop-page-test.false)) c.loop-page.invariant)
    ∙ length-joined_pages _ c.requires

pub returns-clause-value : goal.returns-clause-value
returns-clause-value c =
    joined_pages_at_end (λ (page : Bor (List ℕ)). page.now) c.args.pages.now c.loop-page.page-index _ (omega (arith, c.loop-page-test.false))
    c.loop-page.invariant
