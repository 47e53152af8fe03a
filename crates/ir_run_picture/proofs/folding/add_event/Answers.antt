use Rattle.std.proofs.Common.{true, false, refl, subst, arith}
use Rattle.ir_run_picture.specs.Boxing.{IsFoldIn}
use Rattle.ir_run_picture.proofs.Boxed.{run_boxed_new_box, run_boxed_last_join}
use Rattle.ir_run_picture.proofs.folding.add_event.Goals as goal

pub returns-then-folds : goal.returns-then-folds
returns-then-folds c =
    let fold : IsFoldIn c.args.fitted.now c.args.here.thread c.args.here.event true =
    subst (IsFoldIn c.args.fitted.now c.args.here.thread c.args.here.event) c.if-folds.true c.requires.folds in
    run_boxed_last_join c.args.fitted.now c.args.here.thread c.args.here.event c.len-last.result c.args.boxes.now.items c.index-own.result.now
    (omega (arith, c.len-last.ensures, c.args.boxes.now.ok.0)) c.index-own.ensures c.requires.event fold c.requires.boxed

pub returns : goal.returns
returns c =
    let fold : IsFoldIn c.args.fitted.now c.args.here.thread c.args.here.event false =
    subst (IsFoldIn c.args.fitted.now c.args.here.thread c.args.here.event) c.if-folds.false c.requires.folds in
    rw c.in_ok-push.ensures.items
    (run_boxed_new_box c.args.fitted.now c.args.here.thread c.args.here.event c.args.boxes.now.items
    (record { thread = c.args.here.thread; event = c.args.here.event; count = 1 }) refl refl refl c.requires.thread c.requires.event fold c.requires.boxed)
