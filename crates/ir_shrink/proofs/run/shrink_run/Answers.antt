use Rattle.std.proofs.Common.{List, ℕ, refl, sym, ◌∙◌, subst, inl, inr}
use Rattle.std.specs.String.{string_bytes}
use Rattle.std.specs.Io.KnownBytes.{Appends}
use Rattle.std.proofs.KnownBytes.{Appends-trans}
use Rattle.std.proofs.lemmas.Result.{err_from_is_err_and}
use Rattle.ir_stream.specs.Answers.{AppendsPrefix}
use Rattle.ir_files.proofs.CallerLemmas.{if_err_handed_on}
use Rattle.ir_shrink.proofs.Ends.{is_err_tells_which, shrunk_is_shrinking}
use Rattle.ir_shrink.proofs.run.shrink_run.Goals as goal

pub returns-then-is_err-clause-stopped : goal.returns-then-is_err-clause-stopped
returns-then-is_err-clause-stopped g c =
    let f = c.in-Ok.found in
    let failed = (is_err_tells_which c.write_all.result c.is_err.result _ _ c.write_all.ensures.ok c.write_all.ensures.err (sym c.is_err.ensures.value)).0 c.if-is_err.true in
    let prefix = (is_err_tells_which c.write_all.result c.is_err.result _ _ c.write_all.ensures.ok c.write_all.ensures.prefix (sym c.is_err.ensures.value)).0 c.if-is_err.true in
    let lines = c.as_bytes.ensures.value ∙ c.in-Ok.ensures.lines in inr (
      f.before,
      f.after,
      string_bytes f.list,
      f.is_minimal,
      c.in-Ok.ensures.found,
      inl (
        c.refused-then-is_err.ensures.status,
        (
          subst (λ (bytes : List ℕ). AppendsPrefix (g.O.Sink.written c.args.out.now) (g.O.Sink.written c.write_all.new.writer) bytes) lines prefix,
          failed,
        ),
        refl,
        refl,
        c.refused-then-is_err.ensures.told,
      ),
    )

pub returns-in_err-recorded-clause-stopped : goal.returns-in_err-recorded-clause-stopped
returns-in_err-recorded-clause-stopped g c =
    let p = err_from_is_err_and c.from_residual.result c.from_residual.ensures.1 in
    let f = c.in-Ok.found in
    let wrote = (is_err_tells_which c.write_all.result c.is_err.result _ _ c.write_all.ensures.ok c.write_all.ensures.err (sym c.is_err.ensures.value)).1 c.if-is_err.false in
    let lines = c.as_bytes.ensures.value ∙ c.in-Ok.ensures.lines in
    let stopped = rw c.as_str-list.ensures.value at (rw c.by_list.ensures at c.in_err-recorded.ensures.stopped) in
    if_err_handed_on _ c.from_residual.result c.in_err-recorded.field-0.0 p.0 p.1 p.2 (inr (
      f.before,
      f.after,
      string_bytes f.list,
      f.is_minimal,
      c.in-Ok.ensures.found,
      inr (
        stopped.0,
        c.write_all.new.writer,
        stopped.1,
        subst (λ (bytes : List ℕ). Appends (g.O.Sink.written c.args.out.now) (g.O.Sink.written c.write_all.new.writer) bytes) lines wrote,
        stopped.2,
      ),
    ))

pub returns-clause-done : goal.returns-clause-done
returns-clause-done g c =
    let f = c.in-Ok.found in
    let wrote = (is_err_tells_which c.write_all.result c.is_err.result _ _ c.write_all.ensures.ok c.write_all.ensures.err (sym c.is_err.ensures.value)).1 c.if-is_err.false in
    let lines = c.as_bytes.ensures.value ∙ c.in-Ok.ensures.lines in
    let done = rw c.as_str-list.ensures.value at (rw c.by_list.ensures at c.in_ok-recorded.ensures.done) in (
      f.before,
      f.after,
      string_bytes f.list,
      done.0,
      shrunk_is_shrinking c.args.given.now.image.now c.args.plan.now c.args.given.now.trace.now f.before f.after (string_bytes f.list) f.is_minimal c.in_ok-recorded.recorded done.0
          c.in-Ok.ensures.found done.1,
      done.2,
      done.3,
      Appends-trans (g.O.Sink.written c.args.out.now) (g.O.Sink.written c.write_all.new.writer) (g.O.Sink.written c.record_by_list.new.out) _ _
          (subst (λ (bytes : List ℕ). Appends (g.O.Sink.written c.args.out.now) (g.O.Sink.written c.write_all.new.writer) bytes) lines wrote)
          done.4,
    )

pub returns-in-Err-clause-stopped : goal.returns-in-Err-clause-stopped
returns-in-Err-clause-stopped g c = inl (
  c.in-Err.why,
  c.refused.ensures.status,
  (c.in-Err.ensures.refused, refl, refl, refl, c.refused.ensures.told),
)
