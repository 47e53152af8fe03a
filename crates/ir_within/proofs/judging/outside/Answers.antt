use Rattle.std.proofs.Common.{◌≡◌, ◌∷◌, [], ◌++◌, Some, not, take, sym, ap, ◌∙◌, subst}
use Rattle.std.proofs.lemmas.List.{take_more}
use Rattle.std.proofs.lemmas.Option.{slice_get-get_or}
use Rattle.ir_schedule.specs.Conditions.{end_state}
use Rattle.ir_state_store.specs.Nodes.{SourcedFlat}
use Rattle.ir_within.specs.Aspects.{what_counts}
use Rattle.ir_within.specs.Judging.{AreCompared}
use Rattle.ir_within.specs.Plans.{aspects_of}
use Rattle.ir_within.specs.Seen.{value_of}
use Rattle.ir_lemmas.proofs.CallerLemmas.{false_if_not_is_true}
use Rattle.ir_within.proofs.Compared.{one_more_compared, true_if_not_false}
use Rattle.ir_within.proofs.judging.outside.Goals as goal

pub state_of-requires : goal.state_of-requires
state_of-requires c =
    let xs = c.args.outcomes.now in
    let i = c.loop-shown.shown-index in
    let x = c.shown-item.result in
    c.requires i x (slice_get-get_or xs i x c.loop-shown-test.true ∙ ap Some (sym c.shown-item.is))

pub loop-shown-preserved : goal.loop-shown-preserved
loop-shown-preserved c =
    let xs = c.args.outcomes.now in
    let i = c.loop-shown.shown-index in
    let x = c.shown-item.result in
    let s = c.in_ok-state.state in
    let a = aspects_of c.args.aspects in
    let flats = c.args.flats.now.items in
    let own = c.in_ok-own.own in
    let others = c.args.others.now in
    let marks = c.loop-shown.marks.items in
    let mark = not c.has.result in
    let is : value_of own ≡ what_counts a (end_state s.flat) =
    subst (λ (z : SourcedFlat). value_of own ≡ what_counts a (end_state z.flat)) c.state.view_is c.in_ok-own.ensures in
    subst (λ z. AreCompared a flats z others c.push.new.self.items) (ap (λ y. take i xs ++ y ∷ []) c.shown-item.is ∙ sym (take_more xs i x c.loop-shown-test.true))
    (subst (AreCompared a flats (take i xs ++ x ∷ []) others) (sym c.in_ok-push.ensures.items)
    (one_more_compared a flats (take i xs) others marks x s (value_of own) mark c.loop-shown.invariant c.in_ok-state.ensures.value c.in_ok-state.ensures.flat is
    (λ e. c.has.ensures.some (true_if_not_false c.has.result e))
    (λ e. c.has.ensures.none (false_if_not_is_true c.has.result e))))
