use Rattle.std.proofs.Common.{◌≡◌, ◌⊎◌, ◌++◌, ℕ, true, List, refl, sym, ap, ◌∙◌, subst, inl, inr}
use Rattle.std.specs.Io.KnownBytes.{Appends}
use Rattle.std.proofs.KnownBytes.{Appends-trans}
use Rattle.std.proofs.lemmas.Result.{err_from_is_err_and, IfOk-weaker, IfErr-weaker}
use Rattle.ir_search.specs.declared.stop.Stop.TheVariants.{Memory}
use Rattle.ir_files.proofs.CallerLemmas.{if_err_handed_on}
use Rattle.ir_files.specs.Writers.{writer_of}
use Rattle.ir_files.specs.declared.exit_status.ExitStatus.{ExitStatus}
use Rattle.ir_graph.specs.Stops.{IsStop}
use Rattle.ir_image.specs.Guest.{Guest}
use Rattle.ir_outcomes.specs.Explored.{AreExplored, IsExplored}
use Rattle.ir_stream.specs.Answers.{AppendsPrefix}
use Rattle.ir_explore.specs.Faults.{StopsPrinting}
use Rattle.ir_explore.specs.Printed.{EndsEarly}
use Rattle.ir_explore.specs.Texts.{Objects, objects_of, IsStopReason, IsStopped, IsEnding, IsAnswerAbout, known_of}
use Rattle.ir_explore.specs.declared.fault.ExploreFault.TheVariants.{NoMem, Write}
use Rattle.ir_explore.specs.Plan.{ExplorePlan, setup_of}
use Rattle.ir_explore.proofs.Printed.{no_memory_stops_first, printed_are_part, failed_after_taken_text, lines_and_end_answer}
use Rattle.ir_explore.proofs.run.show.Goals as goal

pub returns-in_err-start-clause-fails : goal.returns-in_err-start-clause-fails
returns-in_err-start-clause-fails g c =
    let p = err_from_is_err_and c.from_residual.result c.from_residual.ensures.1 in
    let out = g.O.Sink.written c.args.out.now in
    let w = writer_of out out (g.O.Sink.broken c.args.out.now) in
    if_err_handed_on (λ e. StopsPrinting e c.args.image.now c.args.plan.now w) c.from_residual.result NoMem p.0 p.1 p.2
    (no_memory_stops_first c.args.image.now c.args.plan.now w refl)

pub returns-in-Err-clause-ok : goal.returns-in-Err-clause-ok
returns-in-Err-clause-ok g c =
    let guest = c.args.image.now in
    let plan = c.args.plan.now in
    let old = g.O.Sink.written c.args.out.now in
    let new = g.O.Sink.written c.show_stop.new.out in
    let why = c.in-Err.why in
    let reason : IsStopReason guest plan why =
    subst (λ z. (why ≡ Memory) ⊎ IsStop z plan.bounds.private why) c.setup-setup.ensures
    (subst (λ (z : ExplorePlan). (why ≡ Memory) ⊎ IsStop c.setup-setup.result z.bounds.private why) c.plan.view_is c.in-Err.ensures.refused) in
    IfOk-weaker c.show_stop.result
    (λ answered. (guest : Guest) (plan : ExplorePlan) → IsStopReason guest plan c.in-Err.why → (text : List ℕ) × IsStopped guest plan answered text × Appends old new text)
    (λ answered. (text : List ℕ) × IsAnswerAbout guest plan answered text × Appends old new text)
    (λ answered p. let q = p guest plan reason in (q.0, inr q.1, q.2))
    c.show_stop.ensures.ok

pub returns-clause-ok : goal.returns-clause-ok
returns-clause-ok g c =
    let guest = c.args.image.now in
    let plan = c.args.plan.now in
    let s = c.print_levels.new.exploring in
    let e = c.end-explored.result in
    let own : Objects = record { words = c.object_words.result; first = c.objects.result.now } in
    let same : own ≡ objects_of guest =
    λ i. record {
      words = c.object_words.ensures.value i;
      first = (c.objects.ensures.value ∙ ap (λ z. z.objects) c.in_ok-start.ensures) i;
    } in
    let same_setup = c.print_levels.ensures.kept.setup ∙ c.in-Ok.ensures.setup ∙ c.setup-setup.ensures in
    let is = subst (λ z. IsExplored z plan.bounds plan.switches e) same_setup
    (subst (λ z. IsExplored s.states.graph.setup z plan.switches e) (c.print_levels.ensures.kept.bounds ∙ c.in-Ok.ensures.bounds ∙ ap (λ (z : ExplorePlan). z.bounds) c.plan.view_is)
    (subst (λ z. IsExplored s.states.graph.setup s.states.graph.bounds z e) (c.print_levels.ensures.kept.most ∙ c.in-Ok.ensures.most ∙ ap (λ (z : ExplorePlan). z.switches) c.plan.view_is)
    c.end-explored.ensures.explored)) in
    let before = c.in_ok-print_levels.ensures.printed in
    let old = g.O.Sink.written c.args.out.now in
    let mid = g.O.Sink.written c.print_levels.new.out in
    let new = g.O.Sink.written c.print_ending.new.out in
    IfOk-weaker c.print_ending.result
    (λ answered. (text : List ℕ) × IsEnding (known_of e) answered text × Appends mid new text)
    (λ answered. (text : List ℕ) × IsAnswerAbout guest plan answered text × Appends old new text)
    (λ answered p. (
      before.0 ++ p.0,
      lines_and_end_answer guest plan own s e before.0 p.0 answered same c.end-explored.ensures.flats c.end-explored.ensures.outcomes is before.1 p.1,
      Appends-trans old mid new before.0 p.0 before.2 p.2,
    ))
    c.print_ending.ensures.ok

pub returns-clause-fails : goal.returns-clause-fails
returns-clause-fails g c =
    let guest = c.args.image.now in
    let plan = c.args.plan.now in
    let s = c.print_levels.new.exploring in
    let e = c.end-explored.result in
    let own : Objects = record { words = c.object_words.result; first = c.objects.result.now } in
    let same : own ≡ objects_of guest =
    λ i. record {
      words = c.object_words.ensures.value i;
      first = (c.objects.ensures.value ∙ ap (λ z. z.objects) c.in_ok-start.ensures) i;
    } in
    let same_setup = c.print_levels.ensures.kept.setup ∙ c.in-Ok.ensures.setup ∙ c.setup-setup.ensures in
    let is = subst (λ z. IsExplored z plan.bounds plan.switches e) same_setup
    (subst (λ z. IsExplored s.states.graph.setup z plan.switches e) (c.print_levels.ensures.kept.bounds ∙ c.in-Ok.ensures.bounds ∙ ap (λ (z : ExplorePlan). z.bounds) c.plan.view_is)
    (subst (λ z. IsExplored s.states.graph.setup s.states.graph.bounds z e) (c.print_levels.ensures.kept.most ∙ c.in-Ok.ensures.most ∙ ap (λ (z : ExplorePlan). z.switches) c.plan.view_is)
    c.end-explored.ensures.explored)) in
    let explored = subst (λ z. AreExplored z s.states.graph.flats.items s.list.levels s.list.outcomes.items) same_setup
    c.print_levels.ensures.kept.is.explored in
    let before = c.in_ok-print_levels.ensures.printed in
    let old = g.O.Sink.written c.args.out.now in
    let mid = g.O.Sink.written c.print_levels.new.out in
    let new = g.O.Sink.written c.print_ending.new.out in
    let w = writer_of old new (g.O.Sink.broken c.print_ending.new.out) in
    IfErr-weaker c.print_ending.result
    (λ f. ((f ≡ NoMem) × (c.print_ending.new.out ≡ c.print_levels.new.out)) ⊎ ((f ≡ Write) × (g.O.Sink.broken c.print_ending.new.out ≡ true)
    × (answered : ExitStatus) × (text : List ℕ) × IsEnding (known_of e) answered text × AppendsPrefix mid new text))
    (λ f. StopsPrinting f guest plan w)
    (λ f p. elim p [
      | inl (memory, stays) ↦ inl (subst (λ z. EndsEarly z (setup_of guest plan) w) (sym memory) (
        before.0,
        printed_are_part (setup_of guest plan) own s before.0 same explored before.1,
        subst (λ z. Appends old (g.O.Sink.written z) before.0) (sym stays) before.2,
      ))
      | inr (write, broken, answered, text, ending, prefix) ↦ inr (
        write,
        answered,
        before.0 ++ text,
        lines_and_end_answer guest plan own s e before.0 text answered same c.end-explored.ensures.flats c.end-explored.ensures.outcomes is before.1 ending,
        failed_after_taken_text w mid before.0 text before.2 prefix broken,
      )
    ])
    c.print_ending.ensures.fails
