use Rattle.std.proofs.Common.{[], ◌∷◌, ◌++◌, ◌∙◌}
use Rattle.std.specs.Prelude.{codes}
use Rattle.std.proofs.KnownBytes.{Appends-trans}
use Rattle.ir_stream.proofs.CallerLemmas.{appends_prefix_append, appends_prefix_longer, writes_or_fails_error, writes_text_after_part}
use Rattle.ir_names.proofs.sink.put_tag.Goals as goal

pub returns-in_err-write_all : goal.returns-in_err-write_all
returns-in_err-write_all g c = writes_or_fails_error _ c.from_residual.result c.from_residual.ensures.1
    (appends_prefix_longer (g.W.Sink.written c.args.sink.now) (g.W.Sink.written c.write_all.new.writer) (codes " <")
    (c.args.name.now ++ 62 ∷ []) c.in_err-write_all.ensures.prefix) c.in_err-write_all.ensures.err

pub returns-in_err-write_all-2 : goal.returns-in_err-write_all-2
returns-in_err-write_all-2 g c =
    writes_or_fails_error _ c.from_residual-in_err-write_all-2.result c.from_residual-in_err-write_all-2.ensures.1
    (appends_prefix_longer (g.W.Sink.written c.args.sink.now) (g.W.Sink.written c.write_all-2.new.writer) (codes " <" ++ c.args.name.now)
    (62 ∷ [])
    (appends_prefix_append (g.W.Sink.written c.args.sink.now) (g.W.Sink.written c.write_all.new.writer)
    (g.W.Sink.written c.write_all-2.new.writer) (codes " <") c.args.name.now c.in_ok-write_all.ensures.ok
    c.in_err-write_all-2.ensures.prefix)) c.in_err-write_all-2.ensures.err

pub returns : goal.returns
returns g c = writes_text_after_part g.W.Sink.written (codes " <" ++ c.args.name.now) (62 ∷ []) c.write_all-3.result
    (Appends-trans (g.W.Sink.written c.args.sink.now) (g.W.Sink.written c.write_all.new.writer)
    (g.W.Sink.written c.write_all-2.new.writer) (codes " <") c.args.name.now c.in_ok-write_all.ensures.ok c.in_ok-write_all-2.ensures.ok)
    (c.in_ok-write_all-2.ensures.stays ∙ c.in_ok-write_all.ensures.stays) c.write_all-3.ensures
