use Rattle.std.proofs.Common.{true, false, refl, subst, arith}
use Rattle.ir_trace.specs.Recorded.{recorded_thread}
use Rattle.ir_picture.specs.Boxing.{IsFold}
use Rattle.ir_picture.proofs.Boxed.{boxed_before_new_box, boxed_before_last_join}
use Rattle.ir_picture.proofs.boxes.add_event.Goals as goal

pub returns-then-folds : goal.returns-then-folds
returns-then-folds c =
    let fold : IsFold (recorded_thread c.args.trace.now c.args.here.thread).events c.args.here.event true =
    subst (IsFold (recorded_thread c.args.trace.now c.args.here.thread).events c.args.here.event) c.if-folds.true c.requires.folds in
    boxed_before_last_join c.args.trace.now c.args.here.thread c.args.here.event c.len-last.result c.args.boxes.now.items c.index-own.result.now
    (omega (arith, c.len-last.ensures, c.args.boxes.now.ok.0)) c.index-own.ensures c.requires.event fold c.requires.boxed

pub returns : goal.returns
returns c =
    let fold : IsFold (recorded_thread c.args.trace.now c.args.here.thread).events c.args.here.event false =
    subst (IsFold (recorded_thread c.args.trace.now c.args.here.thread).events c.args.here.event) c.if-folds.false c.requires.folds in
    rw c.in_ok-push.ensures.items
    (boxed_before_new_box c.args.trace.now c.args.here.thread c.args.here.event c.args.boxes.now.items
    (record { thread = c.args.here.thread; event = c.args.here.event; count = 1 }) refl refl refl c.requires.thread c.requires.event fold c.requires.boxed)
