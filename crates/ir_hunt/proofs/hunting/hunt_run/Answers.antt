use Rattle.std.proofs.Common.{◌≡◌, List, ℕ, refl, sym, ◌∙◌, subst, inl, inr}
use Rattle.std.specs.String.{string_bytes}
use Rattle.std.specs.Io.KnownBytes.{Appends}
use Rattle.std.proofs.KnownBytes.{Appends-trans}
use Rattle.std.proofs.lemmas.Result.{err_from_is_err_and}
use Rattle.ir_stream.specs.Answers.{AppendsPrefix}
use Rattle.ir_files.proofs.CallerLemmas.{if_err_handed_on}
use Rattle.ir_record_command.specs.declared.record_fault.RecordFault.TheVariants.{Lines}
use Rattle.ir_files.specs.Writers.{writer_of}
use Rattle.ir_hunt.specs.Stopping.{TellsLeftOut}
use Rattle.ir_hunt.proofs.Found.{found_is_finding}
use Rattle.ir_hunt.proofs.Stopping.{error_fact_if_is_err, ok_fact_unless_is_err, line_is_hunt_line}
use Rattle.ir_hunt.proofs.hunting.hunt_run.Goals as goal

pub returns-then-is_err-clause-stopped : goal.returns-then-is_err-clause-stopped
returns-then-is_err-clause-stopped g c =
    let failed = sym c.is_err.ensures.value ∙ c.if-is_err.true in
    let line = string_bytes c.in-Ok.sought.line in
    let sought = c.in-Ok.ensures.sought in
    let prefix = error_fact_if_is_err c.write_all.result _ c.write_all.ensures.prefix failed in inr (
      Lines,
      c.told-then-is_err.ensures.status,
      inr (inl (
        line,
        refl,
        line_is_hunt_line (λ f. f.seed) (λ f. string_bytes f.list) c.args.image.now c.args.plan.now c.in-Ok.sought.found c.in-Ok.sought.last sought.0 line sought.1 c.in-Ok.ensures.line,
        (
          subst (λ (bytes : List ℕ). AppendsPrefix (g.O.Sink.written c.args.out.now) (g.O.Sink.written c.write_all.new.writer) bytes)
              c.as_bytes.ensures.value prefix,
          error_fact_if_is_err c.write_all.result _ c.write_all.ensures.err failed,
        ),
        refl,
        refl,
        c.told-then-is_err.ensures.told,
      )),
    )

pub returns-in_err-recorded-clause-stopped : goal.returns-in_err-recorded-clause-stopped
returns-in_err-recorded-clause-stopped g c =
    let p = err_from_is_err_and c.from_residual.result c.from_residual.ensures.1 in
    let wrote = ok_fact_unless_is_err c.write_all.result _ c.write_all.ensures.ok (sym c.is_err.ensures.value ∙ c.if-is_err.false) in
    let line = c.as_bytes.ensures.value ∙ (rw c.in-Some.is at c.in-Ok.ensures.line) in
    let sought = c.in-Ok.ensures.sought in
    let stopped = rw c.as_str-list.ensures.value at (rw c.by_list.ensures at c.in_err-recorded.ensures.stopped) in
    if_err_handed_on _ c.from_residual.result c.in_err-recorded.field-0.0 p.0 p.1 p.2 (inr (
      stopped.0,
      stopped.1,
      inr (inr (
        sought.0,
        c.in-Some.found.seed,
        string_bytes c.in-Some.found.list,
        c.write_all.new.writer,
        rw c.in-Some.is at sought.1,
        subst (λ (bytes : List ℕ). Appends (g.O.Sink.written c.args.out.now) (g.O.Sink.written c.write_all.new.writer) bytes) line wrote,
        stopped.2,
      )),
    ))

pub returns-clause-done : goal.returns-clause-done
returns-clause-done g c =
    let list = string_bytes c.in-Some.found.list in
    let wrote = ok_fact_unless_is_err c.write_all.result _ c.write_all.ensures.ok (sym c.is_err.ensures.value ∙ c.if-is_err.false) in
    let line = c.as_bytes.ensures.value ∙ (rw c.in-Some.is at c.in-Ok.ensures.line) in
    let sought = c.in-Ok.ensures.sought in
    let done = rw c.as_str-list.ensures.value at (rw c.by_list.ensures at c.in_ok-recorded.ensures.done) in (
      sought.0,
      c.in-Some.found.seed,
      list,
      done.0,
      found_is_finding c.args.image.now c.args.plan.now sought.0 c.in-Some.found.seed list c.in_ok-recorded.recorded done.0
          (rw c.in-Some.is at sought.1) done.1,
      done.2,
      done.3,
      Appends-trans (g.O.Sink.written c.args.out.now) (g.O.Sink.written c.write_all.new.writer) (g.O.Sink.written c.record_by_list.new.out) _ _
          (subst (λ (bytes : List ℕ). Appends (g.O.Sink.written c.args.out.now) (g.O.Sink.written c.write_all.new.writer) bytes) line wrote)
          done.4,
      subst (λ z. TellsLeftOut sought.0 (writer_of (g.E.Sink.written z) (g.E.Sink.written c.tell_left_out-2.new.faults) (g.E.Sink.broken c.tell_left_out-2.new.faults))
          (c.tell_left_out-2.new.faults ≡ z)) c.in_ok-recorded.ensures.quiet (c.tell_left_out-2.ensures sought.0 sought.2),
    )

pub returns-in-Err-clause-stopped : goal.returns-in-Err-clause-stopped
returns-in-Err-clause-stopped g c = inr (
  c.in-Err.why,
  c.told.ensures.status,
  inl (c.in-Err.ensures.refused, refl, refl, refl, c.told.ensures.told),
)
