use Rattle.std.proofs.lemmas.Option.{slice_get-get_or}
use Rattle.ir_run_picture.proofs.Lasts.{drawn_to_push}
use Rattle.ir_run_picture.proofs.drawing.all_drawn.Goals as goal

pub drawn_of-requires : goal.drawn_of-requires
drawn_of-requires c = c.requires c.loop-own.own-index _ (slice_get-get_or c.args.boxes.now c.loop-own.own-index _ c.loop-own-test.true)

pub loop-own-preserved : goal.loop-own-preserved
loop-own-preserved c = drawn_to_push c.args.fitted.now c.args.boxes.now c.loop-own.own-index c.loop-own.drawn.items c.push.new.self.items _
    c.drawn_of.result c.loop-own.invariant (slice_get-get_or c.args.boxes.now c.loop-own.own-index _ c.loop-own-test.true) c.drawn_of.ensures
    c.in_ok-push.ensures.items
