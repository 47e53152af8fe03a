use Rattle.std.proofs.Common.{ℕ, ap, subst, sym, ◌∙◌}
use Rattle.std.specs.Prelude.{Option, codes, unwrap_or}
use Rattle.ir_stream.specs.Writing.{WritesText}
use Rattle.ir_text.specs.Texts.{number_line}
use Rattle.ir_debug.specs.Machine.{opening_text}
use Rattle.ir_debug.specs.Openings.{opening_of}
use Rattle.ir_debug.specs.declared.opening.Opened.{Opened}
use Rattle.ir_debug.proofs.announcing.announce.Goals as goal

pub returns-in-ImageRefused : goal.returns-in-ImageRefused
returns-in-ImageRefused g c = subst
    (λ x. WritesText g.W.Sink.written g.W.Sink.broken c.args.writer.now c.write_refused.new.writer x c.write_refused.result)
    (ap (λ (n : Option ℕ). number_line (codes "image refused ") (unwrap_or n 0)) c.number.ensures
    ∙ sym (ap (λ (o : Opened). opening_text (opening_of o)) c.in-ImageRefused.is)) c.write_refused.ensures

pub returns-in-TraceRefused : goal.returns-in-TraceRefused
returns-in-TraceRefused g c = subst
    (λ x. WritesText g.W.Sink.written g.W.Sink.broken c.args.writer.now c.write_refused-in-TraceRefused.new.writer x c.write_refused-in-TraceRefused.result)
    (ap (λ (n : Option ℕ). number_line (codes "trace refused ") (unwrap_or n 0)) c.number-in-TraceRefused.ensures
    ∙ sym (ap (λ (o : Opened). opening_text (opening_of o)) c.in-TraceRefused.is)) c.write_refused-in-TraceRefused.ensures
