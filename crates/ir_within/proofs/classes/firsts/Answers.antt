use Rattle.std.proofs.Common.{◌≡◌, ◌∷◌, [], ◌++◌, Some, length, take, sym, ap, ◌∙◌, subst}
use Rattle.std.proofs.lemmas.List.{take_more}
use Rattle.std.proofs.lemmas.Option.{slice_get-get_or}
use Rattle.ir_schedule.specs.Conditions.{end_state}
use Rattle.ir_state_store.specs.Nodes.{SourcedFlat}
use Rattle.ir_within.specs.Aspects.{what_counts}
use Rattle.ir_within.specs.Classes.{AreFirstSeen}
use Rattle.ir_within.specs.Judging.{AreSeen, HoldsSame}
use Rattle.ir_within.specs.Plans.{aspects_of}
use Rattle.ir_within.specs.Seen.{value_of}
use Rattle.ir_within.proofs.Compared.{none_seen, one_more_seen}
use Rattle.ir_within.proofs.Kept.{none_kept, kept_more, none_first, one_more_first}
use Rattle.ir_within.proofs.classes.firsts.Goals as goal

pub loop-shown-init : goal.loop-shown-init
loop-shown-init c = (
  [],
  none_seen (aspects_of c.args.aspects) c.args.flats.now.items,
  subst (λ z. HoldsSame z []) (sym c.new-kept.ensures) none_kept,
  subst (AreFirstSeen [] 0) (sym c.new-marks.ensures.items) none_first,
)

pub state_of-requires : goal.state_of-requires
state_of-requires c =
    let xs = c.args.outcomes.now in
    let i = c.loop-shown.shown-index in
    let x = c.shown-item.result in
    c.requires i x (slice_get-get_or xs i x c.loop-shown-test.true ∙ ap Some (sym c.shown-item.is))

pub loop-shown-preserved : goal.loop-shown-preserved
loop-shown-preserved c =
    let xs = c.args.outcomes.now in
    let i = c.loop-shown.shown-index in
    let x = c.shown-item.result in
    let s = c.in_ok-state.state in
    let a = aspects_of c.args.aspects in
    let flats = c.args.flats.now.items in
    let own = value_of c.in_ok-own.own in
    let all = c.loop-shown.invariant.0 in
    let holds = c.loop-shown.invariant.2 in
    let is : own ≡ what_counts a (end_state s.flat) =
    subst (λ (z : SourcedFlat). own ≡ what_counts a (end_state z.flat)) c.state.view_is c.in_ok-own.ensures in (
      all ++ own ∷ [],
      subst (λ z. AreSeen a flats z (all ++ own ∷ [])) (ap (λ y. take i xs ++ y ∷ []) c.shown-item.is ∙ sym (take_more xs i x c.loop-shown-test.true))
          (one_more_seen a flats (take i xs) all x s own c.loop-shown.invariant.1 c.in_ok-state.ensures.value c.in_ok-state.ensures.flat is),
      kept_more all c.loop-shown.kept c.add.new.self own holds c.in_ok-is_new.ensures.also,
      subst (AreFirstSeen (all ++ own ∷ []) (length (all ++ own ∷ []))) (sym c.in_ok-push.ensures.items)
          (one_more_first all c.loop-shown.marks.items own c.in_ok-is_new.is_new c.loop-shown.invariant.3
          (λ old. (holds own).0 (c.in_ok-is_new.ensures.known old)) (λ new has. c.in_ok-is_new.ensures.fresh new ((holds own).1 has))),
    )
