use Rattle.std.proofs.Common.{◌∙◌, refl, ap}
use Rattle.std.specs.Prelude.{Some, None, if◌then◌else◌}
use Rattle.ir_thread.specs.State.{ThreadState}
use Rattle.ir_stale_run.proofs.Opened.{open_at_read_entry}
use Rattle.ir_stale_run.proofs.opening.open_one.Goals as goal

pub returns-clause-open : goal.returns-clause-open
returns-clause-open c = open_at_read_entry c.args.guide.copies c.args.guide.route.fitted.now c.args.guide.rows.now c.args.state.now c.args.t _ c.requires.guide.route.last.run
    c.requires.way.stands c.requires.span c.requires.here refl
    (c.in_ok-copy_of.ensures ∙ ap (λ (x : ThreadState). if c.args.guide.copies then Some x else None) c.thread_of.ensures) c.in_ok-words_of.ensures
    c.new-2.ensures.items
