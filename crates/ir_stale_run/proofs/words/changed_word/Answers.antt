use Rattle.std.proofs.Common.{sym, ◌∙◌}
use Rattle.ir_stale_run.specs.WhatIf.{is_changed}
use Rattle.ir_stale_run.proofs.Looked.{least_below_zero, least_below_first, least_below_suc_none}
use Rattle.ir_stale_run.proofs.words.changed_word.Goals as goal

pub loop-index-init : goal.loop-index-init
loop-index-init c = least_below_zero (is_changed c.args.object c.args.was.now c.args.now.now c.args.calls.now)

pub returns-then-is_changed : goal.returns-then-is_changed
returns-then-is_changed c = sym (least_below_first (is_changed c.args.object c.args.was.now c.args.now.now c.args.calls.now) c.loop-index.index _
    c.loop-index.invariant (sym c.is_changed.ensures ∙ c.if-is_changed.true) c.loop-index-test.true)

pub loop-index-preserved : goal.loop-index-preserved
loop-index-preserved c = least_below_suc_none (is_changed c.args.object c.args.was.now c.args.now.now c.args.calls.now) c.loop-index.index
    c.loop-index.invariant (sym c.is_changed.ensures ∙ c.if-is_changed.false)
