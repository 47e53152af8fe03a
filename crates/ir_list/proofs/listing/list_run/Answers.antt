use Rattle.std.proofs.Common.{◌∙◌, List, ℕ, subst}
use Rattle.std.specs.Prelude.{OnErr}
use Rattle.std.specs.Io.KnownBytes.{Appends}
use Rattle.ir_lemmas.proofs.CallerLemmas.{on_err_holds}
use Rattle.ir_stream.specs.Answers.{AppendsPrefix}
use Rattle.ir_stream.proofs.CallerLemmas.{appends_prefix_longer, prefix_after_whole}
use Rattle.ir_list.specs.Listing.{entry_threads_text, code_lines_text}
use Rattle.ir_list.proofs.listing.list_run.Goals as goal

pub returns-in_err-put_threads-clause-prefix : goal.returns-in_err-put_threads-clause-prefix
returns-in_err-put_threads-clause-prefix g c = on_err_holds c.from_residual.result
    (appends_prefix_longer (g.O.Sink.written c.args.out.now) (g.O.Sink.written c.put_threads.new.out) (entry_threads_text c.args.symbols.now c.args.image.now.entries)
    (code_lines_text c.args.symbols.now c.args.image.now.code)
    (subst (λ (l : List ℕ). AppendsPrefix (g.O.Sink.written c.args.out.now) (g.O.Sink.written c.put_threads.new.out) (entry_threads_text c.args.symbols.now l))
    c.entries.ensures.value c.in_err-put_threads.ensures.prefix))

pub returns-clause-prefix : goal.returns-clause-prefix
returns-clause-prefix g c = prefix_after_whole c.put_code.result (g.O.Sink.written c.args.out.now) (g.O.Sink.written c.put_threads.new.out)
    (g.O.Sink.written c.put_code.new.out) (entry_threads_text c.args.symbols.now c.args.image.now.entries) (code_lines_text c.args.symbols.now c.args.image.now.code)
    (subst (λ (l : List ℕ). Appends (g.O.Sink.written c.args.out.now) (g.O.Sink.written c.put_threads.new.out) (entry_threads_text c.args.symbols.now l))
    c.entries.ensures.value c.in_ok-put_threads.ensures.ok)
    (subst (λ (l : List ℕ). OnErr c.put_code.result (AppendsPrefix (g.O.Sink.written c.put_threads.new.out) (g.O.Sink.written c.put_code.new.out) (code_lines_text c.args.symbols.now l)))
    (c.words.ensures ∙ c.code.ensures.value) c.put_code.ensures.prefix)
