use Rattle.std.proofs.Common.{ap, ◌∙◌}
use Rattle.ir_flat.specs.Flat.{start_cell}
use Rattle.ir_flat.proofs.Fresh.{made_start_cells_step}
use Rattle.ir_flat.proofs.start.objects.Goals as goal

pub loop-number-preserved : goal.loop-number-preserved
loop-number-preserved c = made_start_cells_step c.args.image.now c.loop-number.number c.loop-number.objects.items c.push.new.self.items c.new.result
    c.loop-number.invariant (c.new.ensures ∙ ap start_cell c.first_words.ensures) c.in_ok-push.ensures.items
