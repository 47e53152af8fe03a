use Rattle.ir_opened.proofs.CallerLemmas.{run_trace_is_coherent}
use Rattle.ir_run_picture.proofs.pictures.run_picture_of.Goals as goal

pub picture_of_held-requires-clause-coherent : goal.picture_of_held-requires-clause-coherent
picture_of_held-requires-clause-coherent c = run_trace_is_coherent c.args.fitted.now c.known.ensures.run
