use Rattle.ir_run_picture.proofs.Shown.{run_box_is_box}
use Rattle.ir_run_picture.proofs.pictures.run_spans_of.Goals as goal

pub spans_of-requires : goal.spans_of-requires
spans_of-requires c = λ k b at. run_box_is_box c.args.fitted.now b (c.requires.each k b at)
