use Rattle.ir_stream.proofs.CallerLemmas.{writes_or_fails_mono}
use Rattle.ir_debug.proofs.CarriedOut.{text_here_has_property}
use Rattle.ir_debug.proofs.answering.write_answer.Goals as goal

pub returns : goal.returns
returns g c = writes_or_fails_mono c.write_here.result
    (λ done. text_here_has_property c.args.debugger.now c.args.answer.now _ c.requires done)
    (λ prefix. text_here_has_property c.args.debugger.now c.args.answer.now _ c.requires prefix) c.write_here.ensures
