use Rattle.std.proofs.Common.{[], ◌∷◌, ◌++◌, ◌∙◌}
use Rattle.std.specs.Prelude.{codes}
use Rattle.std.proofs.KnownBytes.{Appends-trans}
use Rattle.ir_stream.proofs.CallerLemmas.{appends_prefix_append, appends_prefix_longer, writes_or_fails_error, writes_text_after_part}
use Rattle.ir_files.proofs.telling.put_line.Goals as goal

pub returns-in_err-write_all : goal.returns-in_err-write_all
returns-in_err-write_all g c = writes_or_fails_error _ c.from_residual.result c.from_residual.ensures.1
    (appends_prefix_longer (g.E.Sink.written c.args.faults.now) (g.E.Sink.written c.write_all.new.writer) (codes "ir: ")
    (c.args.words.now ++ 10 ∷ []) c.in_err-write_all.ensures.prefix) c.in_err-write_all.ensures.err

pub returns-in_err-write_all-2 : goal.returns-in_err-write_all-2
returns-in_err-write_all-2 g c =
    writes_or_fails_error _ c.from_residual-in_err-write_all-2.result c.from_residual-in_err-write_all-2.ensures.1
    (appends_prefix_longer (g.E.Sink.written c.args.faults.now) (g.E.Sink.written c.write_all-2.new.writer) (codes "ir: " ++ c.args.words.now)
    (10 ∷ [])
    (appends_prefix_append (g.E.Sink.written c.args.faults.now) (g.E.Sink.written c.write_all.new.writer)
    (g.E.Sink.written c.write_all-2.new.writer) (codes "ir: ") c.args.words.now c.in_ok-write_all.ensures.ok
    (rw c.as_bytes.ensures.value at c.in_err-write_all-2.ensures.prefix))) c.in_err-write_all-2.ensures.err

pub returns : goal.returns
returns g c = writes_text_after_part g.E.Sink.written (codes "ir: " ++ c.args.words.now) (10 ∷ []) c.write_all-3.result
    (Appends-trans (g.E.Sink.written c.args.faults.now) (g.E.Sink.written c.write_all.new.writer)
    (g.E.Sink.written c.write_all-2.new.writer) (codes "ir: ") c.args.words.now c.in_ok-write_all.ensures.ok
    (rw c.as_bytes.ensures.value at c.in_ok-write_all-2.ensures.ok))
    (c.in_ok-write_all-2.ensures.stays ∙ c.in_ok-write_all.ensures.stays) c.write_all-3.ensures
