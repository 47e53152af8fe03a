use Rattle.std.proofs.Common.{◌%◌, ap, ◌∙◌}
use Rattle.ir_mach.specs.Pages.{page_of}
use Rattle.ir_thread.specs.State as thread
use Rattle.ir_checkpoint.specs.Store.{in_force}
use Rattle.ir_checkpoint.proofs.Laid.{place_within_all_pages}
use Rattle.ir_checkpoint.proofs.Places.{compared_pages_step, compared_are_whole}
use Rattle.ir_checkpoint.proofs.store.changed.Goals as goal

pub page_at-requires : goal.page_at-requires
page_at-requires c = place_within_all_pages _ c.loop-place.place c.args.entries.now c.requires c.loop-place-test.true

pub loop-place-preserved : goal.loop-place-preserved
loop-place-preserved c =
    compared_pages_step c.args.number c.args.threads.now (in_force c.args.entries.now) c.loop-place.place c.index-threads-place.result
    c.loop-place.pages.items _ _ _ c.page-bytes.result.now c.page_at.result.now c.loop-place-test.true
    c.in_ok-push.ensures.items c.in_ok-if_changed.ensures
    (c.page-bytes.ensures.value
    ∙ ap (λ (t : thread.ThreadState). page_of t.core.memory (c.loop-place.place % 16)) c.index-threads-place.is)
    c.page_at.ensures c.loop-place.invariant

pub returns : goal.returns
returns c = compared_are_whole c.args.number c.args.threads.now (in_force c.args.entries.now) c.loop-place.place c.loop-place.pages.items _ c.loop-place-test.false c.loop-place.invariant
