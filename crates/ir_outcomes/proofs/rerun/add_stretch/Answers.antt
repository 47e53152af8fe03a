use Rattle.std.proofs.Common.{◌++◌, sym, subst, replicate}
use Rattle.ir_record.specs.Recording.{turns_of_items}
use Rattle.ir_outcomes.specs.Again.{IsAgain}
use Rattle.ir_outcomes.proofs.Again.{again_after_noted}
use Rattle.ir_outcomes.proofs.Arriving.{fails_if_no_thread}
use Rattle.ir_outcomes.proofs.rerun.add_stretch.Goals as goal

pub returns-in-Ok-push-clause-again : goal.returns-in-Ok-push-clause-again
returns-in-Ok-push-clause-again c = λ setup before again.
    subst (λ z. IsAgain setup (turns_of_items z) (before ++ replicate c.args.stretch.steps (c.args.stretch.thread, c.args.stretch.refused)) c.take_stretch.new.state)
    (sym c.in-Ok-push.ensures.items)
    (again_after_noted setup c.args.items.now.items _ before c.args.state.now c.take_stretch.new.state c.args.stretch.steps again
    c.in-Ok.ensures.alone)

pub returns-then-not-has_thread-clause-fails : goal.returns-then-not-has_thread-clause-fails
returns-then-not-has_thread-clause-fails c =
    fails_if_no_thread c.args.limit c.args.stretch.thread c.args.stretch.steps c.args.stretch.refused c.args.state.now c.if-stretch-eq0.false
    (c.has_thread.ensures.none c.if-not-has_thread.true)
