use Rattle.std.proofs.Common.{◌≤◌, suc, inl, inr, length, refl, sym, subst, arith}
use Rattle.ir_lemmas.proofs.CallerLemmas.{on_ok_of_implied}
use Rattle.ir_search.specs.declared.origin.Level.{Level}
use Rattle.ir_graph.specs.Searched.{AreSearched}
use Rattle.ir_graph.specs.Setup.{Setup}
use Rattle.ir_graph.specs.Stops.{MayStop}
use Rattle.ir_thread.specs.State.{IsAllowed}
use Rattle.ir_outcomes.specs.Explored.{IsFew, MayEnd}
use Rattle.ir_outcomes.specs.Exploring.{HasShown}
use Rattle.ir_outcomes.proofs.Ends.{may_end_by_stop}
use Rattle.ir_outcomes.proofs.Listed.{shown_among}
use Rattle.ir_outcomes.proofs.Steps.{ok_fact_if_no_error, known_error_fact, error_keeps_property}
use Rattle.ir_outcomes.proofs.exploring.Exploring.go_over.Goals as goal

pub show_new-shown-requires-clause-allowed : goal.show_new-shown-requires-clause-allowed
show_new-shown-requires-clause-allowed g c =
    subst (λ (z : Setup). IsAllowed z.profile z.guest) (sym c.go_over-searched.ensures.kept.setup) c.requires.allowed

pub show_new-shown-requires-clause-searched : goal.show_new-shown-requires-clause-searched
show_new-shown-requires-clause-searched g c =
    let s = c.go_over-searched.new.self in
    error_keeps_property (λ (l : Level). AreSearched s.graph.setup s.graph.flats.items s.search.found.nodes.items l.number) c.go_over-searched.result s.search.level
    c.args.self.now.states.search.level c.go_over-searched.ensures.searched c.go_over-searched.ensures.level c.go_over-searched.ensures.part

pub show_new-shown-requires-clause-few : goal.show_new-shown-requires-clause-few
show_new-shown-requires-clause-few g c =
    let going = c.requires.is.going c.requires.stop in
    let a = going.few in let b = c.go_over-searched.ensures.kept.adds.longer in omega (arith, a, b)

pub show_new-shown-requires-clause-has : goal.show_new-shown-requires-clause-has
show_new-shown-requires-clause-has g c =
    let old = c.args.self.now in
    let s = c.go_over-searched.new.self in
    let going = c.requires.is.going c.requires.stop in
    subst (λ z. HasShown z s.graph.flats.items s.search.found.nodes.items old.list.seen old.list.listed.items old.list.outcomes.items)
    (sym c.go_over-searched.ensures.kept.setup)
    (shown_among old.states.graph.setup old.states.graph.flats.items s.graph.flats.items old.states.search.found.nodes.items s.search.found.nodes.items
    old.list.seen old.list.listed.items old.list.outcomes.items going.has
    (let a = going.few in let b = going.between.all in omega (arith, a, b)) going.few c.go_over-searched.ensures.kept.stay
    c.go_over-searched.ensures.kept.adds.stays)

pub show_new-shown-requires-clause-room : goal.show_new-shown-requires-clause-room
show_new-shown-requires-clause-room g c =
    subst (λ z. IsFew z (length c.args.self.now.list.outcomes.items)) (sym c.go_over-searched.ensures.kept.bounds) c.requires.is.few

pub returns-clause-kept : goal.returns-clause-kept
returns-clause-kept g c =
    let s = c.go_over-searched.new.self in
    let searched = c.go_over-searched in
    let shown = c.show_new-shown in
    let may = MayStop s.graph.setup s.graph.flats.items s.graph.bounds in
    let end = MayEnd s.graph.setup s.graph.flats.items s.graph.bounds shown.new.list.outcomes.items in
    let most = c.args.self.now.most in
    record {
      is = record {
        search = searched.ensures.kept.is;
        explored = shown.ensures.explored;
        wanted = error_keeps_property (λ (l : Level). l.number ≤ suc most) searched.result s.search.level c.args.self.now.states.search.level
            (on_ok_of_implied searched.result (λ next. let a = c.requires.wanted in omega (arith, a, next)) searched.ensures.next) searched.ensures.level
            (let a = c.requires.wanted in omega (arith, a));
        going = λ none.
            let n = c.first_stop-self.ensures.none none in
            let whole = ok_fact_if_no_error shown.result n.0 shown.ensures.whole in
            let seen = whole.0 in record {
              between = ok_fact_if_no_error searched.result n.1 searched.ensures.between;
              searched = λ some. ok_fact_if_no_error searched.result n.1 searched.ensures.searched;
              has = ok_fact_if_no_error shown.result n.0 shown.ensures.has;
              few = omega (arith, seen);
              seen = λ some. seen;
              levels = whole.1;
            };
        few = shown.ensures.few;
        stopped = λ why is. elim (c.first_stop-self.ensures.some why is) [
          | inl e ↦ known_error_fact end shown.result why e shown.ensures.refused
          | inr e ↦
              may_end_by_stop s.graph.setup s.graph.flats.items s.graph.bounds shown.new.list.outcomes.items why
              (known_error_fact may searched.result why e searched.ensures.stopped)
        ];
      };
      setup = searched.ensures.kept.setup;
      bounds = searched.ensures.kept.bounds;
      most = refl;
    }

pub returns-clause-next : goal.returns-clause-next
returns-clause-next g c = λ none.
    ok_fact_if_no_error c.go_over-searched.result (c.first_stop-self.ensures.none none).1 c.go_over-searched.ensures.next
