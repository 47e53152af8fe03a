use Rattle.std.proofs.Common.{◌∙◌, ◌++◌, List, ℕ, ap, subst, append_assoc}
use Rattle.std.proofs.lemmas.Result.{err_from_is_err_and, on_ok_weaker, IfErr-weaker}
use Rattle.ir_files.specs.Writers.{writer_of}
use Rattle.ir_files.proofs.CallerLemmas.{if_err_handed_on}
use Rattle.ir_text.specs.Buffered.{Buffered}
use Rattle.ir_past.specs.Answers.{Stops}
use Rattle.ir_past.specs.declared.past_err.PastErr.TheVariants.{NoMem}
use Rattle.ir_picture.specs.Numbers.{rows_from, stale_row}
use Rattle.ir_picture.specs.Progress.{stale_head}
use Rattle.ir_picture.proofs.InPieces.{buffered_at_start, buffered_is_prefix}
use Rattle.ir_picture.proofs.data.write_stale.Goals as goal

pub returns-in_err-push_words-clause-fails : goal.returns-in_err-push_words-clause-fails
returns-in_err-push_words-clause-fails g c =
    let p = err_from_is_err_and c.from_residual.result c.from_residual.ensures.1 in
    if_err_handed_on _ c.from_residual.result NoMem p.0 p.1 p.2 (buffered_is_prefix _ _ _ _ (buffered_at_start _ _), c.requires)

pub returns-clause-ok : goal.returns-clause-ok
returns-clause-ok g c =
    let rows = rows_from stale_row 0 c.args.rows.now in
    on_ok_weaker c.write_stale_rows.result
    (subst (Buffered (g.O.Sink.written c.args.out.now) (g.O.Sink.written c.write_stale_rows.new.out) c.write_stale_rows.new.text.items)
    (ap (λ (x : List ℕ). x ++ rows) c.in_ok-push_words.ensures ∙ append_assoc c.args.text.now.items stale_head rows))
    c.write_stale_rows.ensures.ok

pub returns-clause-fails : goal.returns-clause-fails
returns-clause-fails g c =
    let rows = rows_from stale_row 0 c.args.rows.now in
    let w = writer_of (g.O.Sink.written c.args.out.now) (g.O.Sink.written c.write_stale_rows.new.out) (g.O.Sink.broken c.write_stale_rows.new.out) in
    IfErr-weaker c.write_stale_rows.result (λ e. Stops e w (c.push_words.new.text.items ++ rows))
    (λ e. Stops e w (c.args.text.now.items ++ (stale_head ++ rows)))
    (λ e. subst (Stops e w) (ap (λ (x : List ℕ). x ++ rows) c.in_ok-push_words.ensures ∙ append_assoc c.args.text.now.items stale_head rows))
    c.write_stale_rows.ensures.fails
