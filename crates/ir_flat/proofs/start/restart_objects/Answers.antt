use Rattle.std.proofs.Common.{◌<◌, ◌∙◌, length, length-set, ap, arith}
use Rattle.ir_flat.specs.Flat.{start_cell}
use Rattle.ir_flat.proofs.Renewed.{renewed_cells_step}
use Rattle.ir_flat.proofs.start.restart_objects.Goals as goal

pub loop-number-preserved : goal.loop-number-preserved
loop-number-preserved c = record {
  size = length-set c.loop-number.objects c.loop-number.number c.new.result ∙ c.loop-number.invariant.size;
  objects = renewed_cells_step c.args.image.now c.loop-number.number c.args.objects.now c.loop-number.objects c.new.result c.loop-number.invariant.objects
      (let size = c.loop-number.invariant.size in omega (arith, size, c.loop-number-test.true)) (c.new.ensures ∙ ap start_cell c.first_words.ensures);
}
