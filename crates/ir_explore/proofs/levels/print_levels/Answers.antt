use Rattle.std.proofs.Common.{◌++◌, ◌<◌, ◌-◌, suc, [], None, length, refl, sym, ap, ◌∙◌, subst, arith, inl, inr}
use Rattle.std.specs.Io.KnownBytes.{Appends}
use Rattle.std.proofs.KnownBytes.{Appends-nil, Appends-trans}
use Rattle.std.proofs.lemmas.Result.{err_from_is_err_and}
use Rattle.ir_files.proofs.CallerLemmas.{if_err_handed_on}
use Rattle.ir_files.specs.Writers.{writer_of}
use Rattle.ir_flat.specs.Flat.{start_cells}
use Rattle.ir_graph.specs.Setup.{Setup}
use Rattle.ir_image.specs.Guest.{object_count}
use Rattle.ir_outcomes.specs.Explored.{AreExplored}
use Rattle.ir_outcomes.specs.Exploring.{levels_left}
use Rattle.ir_outcomes.proofs.CallerLemmas.{exploring_goes_on_further, fewer_levels_left}
use Rattle.ir_thread.specs.State.{IsAllowed}
use Rattle.ir_explore.specs.Printed.{HasPrinted, EndsEarly}
use Rattle.ir_explore.specs.Texts.{Objects, objects_in}
use Rattle.ir_explore.proofs.Joined.{no_outcome_no_texts}
use Rattle.ir_explore.proofs.Printed.{printed_are_part, kept_length_le, printed_among_more, failed_after_taken_text}
use Rattle.ir_explore.proofs.levels.print_levels.Goals as goal

pub levels-init : goal.levels-init
levels-init g c =
    let e = c.args.exploring.now in
    let o = objects_in c.args.started in
    record {
      kept = record { is = c.requires.is; setup = refl; bounds = refl; most = refl };
      works = c.requires.works;
      printed = (
        [],
        subst (λ n. HasPrinted o e n []) (sym c.requires.none) (no_outcome_no_texts o e.states.graph.flats.items e.list.outcomes.items),
        Appends-nil (g.O.Sink.written c.args.out.now),
      );
    }

pub go_over-requires-clause-allowed : goal.go_over-requires-clause-allowed
go_over-requires-clause-allowed g c = subst (λ (z : Setup). IsAllowed z.profile z.guest) (sym c.levels.invariant.kept.setup) c.requires.allowed

pub print_from-requires-clause-objects : goal.print_from-requires-clause-objects
print_from-requires-clause-objects g c = λ v s is.
    (c.go_over.ensures.kept.is.search.graph.reached v s is).like.objects
    ∙ ap (λ (z : Setup). length (start_cells z.guest 0 (object_count z.guest))) (c.go_over.ensures.kept.setup ∙ c.levels.invariant.kept.setup)
    ∙ sym (ap (λ (o : Objects). length o.first) c.requires.started)

pub print_from-requires-clause-from : goal.print_from-requires-clause-from
print_from-requires-clause-from g c =
    let before = c.levels.exploring.list.outcomes in
    let same = c.len-printed.ensures in
    let size = before.ok.0 in
    let more = kept_length_le before.items c.go_over.new.self.list.outcomes.items c.go_over.ensures.outcomes in
    omega (arith, same, size, more)

pub levels-preserved : goal.levels-preserved
levels-preserved g c =
    let o = objects_in c.args.started in
    let old = c.levels.exploring in
    let new = c.go_over.new.self in
    let before = c.levels.invariant.printed in
    let size = old.list.outcomes.ok.0 in
    let same = c.len-printed.ensures in
    let kept = printed_among_more o old new c.len-printed.result before.0 (omega (arith, same, size)) c.levels.invariant.kept.is.explored.nodes
    c.go_over.ensures.stay c.go_over.ensures.outcomes before.1 in
    let more = c.in_ok-print_from.ensures.printed before.0 kept in
    record {
      kept = exploring_goes_on_further c.args.exploring.now old new c.levels.invariant.kept c.go_over.ensures.kept;
      works = c.in_ok-print_from.ensures.works;
      printed = (
        before.0 ++ more.0,
        more.1,
        Appends-trans (g.O.Sink.written c.args.out.now) (g.O.Sink.written c.levels.out) (g.O.Sink.written c.print_from.new.out) before.0 more.0
            before.2 more.2,
      );
    }

pub levels-smaller : goal.levels-smaller
levels-smaller g c =
    let old = c.levels.exploring in
    let new = c.go_over.new.self in
    let none = c.goes_on.ensures.stop c.levels-test.true in
    subst (λ z. levels_left new.stop (suc new.most - new.states.search.level.number) < levels_left z (suc old.most - old.states.search.level.number)) (sym none)
    (subst (λ m. levels_left new.stop (suc m - new.states.search.level.number) < levels_left None (suc old.most - old.states.search.level.number)) (sym c.go_over.ensures.kept.most)
    (fewer_levels_left new.stop old.states.search.level.number new.states.search.level.number old.most (c.goes_on.ensures.wanted c.levels-test.true)
    c.go_over.ensures.next))

pub returns-in_err-print_from-clause-kept : goal.returns-in_err-print_from-clause-kept
returns-in_err-print_from-clause-kept g c =
    exploring_goes_on_further c.args.exploring.now c.levels.exploring c.go_over.new.self c.levels.invariant.kept c.go_over.ensures.kept

pub returns-in_err-print_from-clause-failed : goal.returns-in_err-print_from-clause-failed
returns-in_err-print_from-clause-failed g c =
    let p = err_from_is_err_and c.from_residual.result c.from_residual.ensures.1 in
    let setup = c.args.exploring.now.states.graph.setup in
    let w = writer_of (g.O.Sink.written c.args.out.now) (g.O.Sink.written c.print_from.new.out) (g.O.Sink.broken c.print_from.new.out) in
    let o = objects_in c.args.started in
    let old = c.levels.exploring in
    let new = c.go_over.new.self in
    let before = c.levels.invariant.printed in
    let size = old.list.outcomes.ok.0 in
    let same = c.len-printed.ensures in
    let kept = printed_among_more o old new c.len-printed.result before.0 (omega (arith, same, size)) c.levels.invariant.kept.is.explored.nodes
    c.go_over.ensures.stay c.go_over.ensures.outcomes before.1 in
    let explored = subst (λ z. AreExplored z old.states.graph.flats.items old.list.levels old.list.outcomes.items) c.levels.invariant.kept.setup
    c.levels.invariant.kept.is.explored in
    let later = subst (λ z. AreExplored z new.states.graph.flats.items new.list.levels new.list.outcomes.items)
    (c.go_over.ensures.kept.setup ∙ c.levels.invariant.kept.setup) c.go_over.ensures.kept.is.explored in
    if_err_handed_on (λ e. EndsEarly e setup w) c.from_residual.result c.in_err-print_from.field-0.0 p.0 p.1 p.2
    (elim c.in_err-print_from.ensures.failed [
      | inl (memory, stays) ↦ subst (λ z. EndsEarly z setup w) (sym memory) (
        before.0,
        printed_are_part setup o old before.0 c.requires.started explored before.1,
        subst (λ z. Appends (g.O.Sink.written c.args.out.now) (g.O.Sink.written z) before.0) (sym stays) before.2,
      )
      | inr (write, broken, prints) ↦
          let more = prints before.0 kept in
          subst (λ z. EndsEarly z setup w) (sym write) (
            before.0 ++ more.0,
            printed_are_part setup o new (before.0 ++ more.0) c.requires.started later more.1,
            failed_after_taken_text w (g.O.Sink.written c.levels.out) before.0 more.0 before.2 more.2 broken,
          )
    ])
