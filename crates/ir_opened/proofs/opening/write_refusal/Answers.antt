use Rattle.std.proofs.Common.{ap, subst, sym, ◌∙◌}
use Rattle.ir_stream.specs.Writing.{WritesText}
use Rattle.ir_opened.specs.Opened.{unfit_text}
use Rattle.ir_opened.proofs.opening.write_refusal.Goals as goal

pub returns-in-NoImage : goal.returns-in-NoImage
returns-in-NoImage g c = subst (λ x. WritesText g.O.Sink.written g.O.Sink.broken c.args.out.now c.write_all.new.writer x c.write_all.result)
    (c.as_slice.ensures.value ∙ c.refusal_line.ensures ∙ sym (ap unfit_text c.in-NoImage.is)) c.write_all.ensures

pub returns-in-NoTrace : goal.returns-in-NoTrace
returns-in-NoTrace g c = subst
    (λ x. WritesText g.O.Sink.written g.O.Sink.broken c.args.out.now c.write_all-in-NoTrace.new.writer x c.write_all-in-NoTrace.result)
    (c.as_slice-in-NoTrace.ensures.value ∙ c.refusal_line-in-NoTrace.ensures ∙ sym (ap unfit_text c.in-NoTrace.is)) c.write_all-in-NoTrace.ensures
