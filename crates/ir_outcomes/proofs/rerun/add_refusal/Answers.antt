use Rattle.std.proofs.Common.{◌++◌, ◌∷◌, [], true, false, replicate}
use Rattle.ir_record.specs.Recording.{turns_of_items}
use Rattle.ir_outcomes.proofs.Again.{again_with_refused_try}
use Rattle.ir_outcomes.proofs.Arriving.{arrives_append, fails_after, fails_append}
use Rattle.ir_outcomes.proofs.rerun.add_refusal.Goals as goal

pub returns-in-Ok-clause-again : goal.returns-in-Ok-clause-again
returns-in-Ok-clause-again c = λ setup before again.
    let t = c.args.thread in
    let n = c.args.refusal.entries in
    let last = c.add_stretch-2.new in
    again_with_refused_try setup (turns_of_items last.items.items) before last.state t n
    (c.in-Ok.ensures.again setup (before ++ replicate n (t, false)) (c.in_default.ensures.again setup before again))

pub returns-in-Ok-clause-arrives : goal.returns-in-Ok-clause-arrives
returns-in-Ok-clause-arrives c =
    arrives_append c.args.thread (replicate c.args.refusal.entries false) (true ∷ []) c.args.state.now c.add_stretch.new.state c.add_stretch-2.new.state
    c.in_default.ensures.arrives c.in-Ok.ensures.arrives

pub returns-in-Err-clause-fails : goal.returns-in-Err-clause-fails
returns-in-Err-clause-fails c =
    fails_append c.args.limit c.args.thread (replicate c.args.refusal.entries false) (true ∷ []) c.args.state.now c.in-Err.e c.in-Err.ensures.fails

pub returns-in-Err-add_stretch-clause-fails : goal.returns-in-Err-add_stretch-clause-fails
returns-in-Err-add_stretch-clause-fails c =
    fails_after c.args.limit c.args.thread (replicate c.args.refusal.entries false) (true ∷ []) c.args.state.now c.add_stretch.new.state c.in-Err-add_stretch.e
    c.in_default.ensures.arrives c.in-Err-add_stretch.ensures.fails
