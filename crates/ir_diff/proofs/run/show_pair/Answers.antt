use Rattle.std.proofs.Common.{◌≡◌, ◌≢◌, List, ℕ, inl, inr, length, refl, sym, ap, ◌∙◌, subst}
use Rattle.std.proofs.lemmas.Result.{err_from_is_err_and}
use Rattle.ir_stream.specs.Answers.{AppendsPrefix}
use Rattle.ir_files.proofs.CallerLemmas.{if_err_handed_on}
use Rattle.ir_files.specs.Writers.{Writer, writer_of}
use Rattle.ir_files.specs.declared.exit_status.ExitStatus.TheVariants.{Done, NotFit}
use Rattle.ir_past.proofs.CallerLemmas.{not_answered_if_stopped}
use Rattle.ir_past.specs.Answers.{NotAnswered, Stops}
use Rattle.ir_past.specs.declared.past_err.PastErr.TheVariants.{Write}
use Rattle.ir_diff.specs.Lines.{differing_header_line, IsPairAnswer}
use Rattle.ir_diff.proofs.Written.{if_err_weaker}
use Rattle.ir_diff.proofs.run.show_pair.Goals as goal

pub returns-then-threads-clause-fails : goal.returns-then-threads-clause-fails
returns-then-threads-clause-fails g c =
    let is = IsPairAnswer c.args.a.now c.args.b.now in
    let w : Writer = writer_of (g.O.Sink.written c.args.out.now) (g.O.Sink.written c.put_header.new.out) (g.O.Sink.broken c.put_header.new.out) in
    let differ : length c.args.a.now.threads ≢ length c.args.b.now.threads =
    λ same. c.if-threads.true (ap length c.threads.ensures.value ∙ same ∙ sym (ap length c.threads-2.ensures.value)) in
    if_err_weaker c.put_header.result (λ e. Stops e w (differing_header_line 1)) (λ e. NotAnswered is e w)
    (λ e stops. not_answered_if_stopped is NotFit (differing_header_line 1) e w (inl (differ, refl, refl)) stops)
    c.put_header.ensures.fails

pub returns-then-objects-clause-fails : goal.returns-then-objects-clause-fails
returns-then-objects-clause-fails g c =
    let is = IsPairAnswer c.args.a.now c.args.b.now in
    let w : Writer = writer_of (g.O.Sink.written c.args.out.now) (g.O.Sink.written c.put_header-then-objects.new.out) (g.O.Sink.broken c.put_header-then-objects.new.out) in
    let threads : length c.args.a.now.threads ≡ length c.args.b.now.threads =
    sym (ap length c.threads.ensures.value) ∙ c.if-threads.false ∙ ap length c.threads-2.ensures.value in
    let differ : c.args.a.now.objects ≢ c.args.b.now.objects =
    λ same. c.if-objects.true (c.objects.ensures.value ∙ same ∙ sym c.objects-2.ensures.value) in
    if_err_weaker c.put_header-then-objects.result (λ e. Stops e w (differing_header_line 2)) (λ e. NotAnswered is e w)
    (λ e stops. not_answered_if_stopped is NotFit (differing_header_line 2) e w (inr (inl (threads, differ, refl, refl))) stops)
    c.put_header-then-objects.ensures.fails

pub returns-in_err-write_all-clause-fails : goal.returns-in_err-write_all-clause-fails
returns-in_err-write_all-clause-fails g c =
    let p = err_from_is_err_and c.from_residual-in_err-write_all.result c.from_residual-in_err-write_all.ensures.1 in
    let is = IsPairAnswer c.args.a.now c.args.b.now in
    let old = g.O.Sink.written c.args.out.now in
    let new = g.O.Sink.written c.write_all.new.writer in
    let w = writer_of old new (g.O.Sink.broken c.write_all.new.writer) in
    let threads : length c.args.a.now.threads ≡ length c.args.b.now.threads =
    sym (ap length c.threads.ensures.value) ∙ c.if-threads.false ∙ ap length c.threads-2.ensures.value in
    let objects : c.args.a.now.objects ≡ c.args.b.now.objects =
    sym c.objects.ensures.value ∙ c.if-objects.false ∙ c.objects-2.ensures.value in
    if_err_handed_on (λ e. NotAnswered is e w) c.from_residual-in_err-write_all.result Write p.0 p.1 p.2
    (not_answered_if_stopped is Done c.in_ok-text.text.items Write w (inr (inr (threads, objects, refl, c.in_ok-text.ensures)))
    (subst (λ (z : List ℕ). AppendsPrefix old new z) c.deref.ensures.value c.in_err-write_all.ensures.prefix, c.in_err-write_all.ensures.err))
