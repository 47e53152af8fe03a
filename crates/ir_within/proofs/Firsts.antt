-- Classes of outcomes: the first of each, and what it stands for.
use Rattle.std.proofs.Common.{◌≡◌, ◌∙◌, ◌<◌, ℕ, zero, suc, Bool, true, false, List, Some, length, refl, sym, ap, subst, arith, inl, inr}
use Rattle.std.specs.Prelude.{◌≤◌, slice_get}
use Rattle.std.proofs.lemmas.Bool.{cases_lt}
use Rattle.std.proofs.lemmas.Option.{same_Some, slice_get_within}
use Rattle.ir_lemmas.proofs.CallerLemmas.{element_below_length}
use Rattle.ir_flat.specs.Flat.{tables}
use Rattle.ir_graph.specs.Outcomes.{run_outcome}
use Rattle.ir_image.specs.Guest.{Guest}
use Rattle.ir_outcomes.specs.Explored.{ShowsState}
use Rattle.ir_outcomes.specs.Shown.{outcome_by, switches_by}
use Rattle.ir_outcomes.specs.declared.shown.Shown.{Shown}
use Rattle.ir_schedule.specs.Conditions.{EndState, end_state}
use Rattle.ir_state_store.specs.Nodes.{SourcedFlat}
use Rattle.ir_explore.specs.Plan.{ExplorePlan, setup_of}
use Rattle.ir_explore.specs.Texts.{Known, AreKnown}
use Rattle.ir_within.specs.Aspects.{Aspects, seen, what_counts}
use Rattle.ir_explore.specs.Faults.{HasNoGuest}
use Rattle.ir_explore.specs.declared.fault.ExploreFault.{ExploreFault}
use Rattle.ir_explore.specs.declared.fault.ExploreFault.TheVariants.{Image, TooLarge, NoMem, Write}
use Rattle.ir_files.specs.Writers.{Writer}
use Rattle.ir_within.specs.Classes.{AreFirstSeen, AreClasses, HasNoClasses}
use Rattle.ir_within.specs.Judging.{AreSeen}
use Rattle.ir_within.specs.Laws.{HasFirst, EachClassIsListed, ClassHasFewest}
use Rattle.ir_within.proofs.Compared.{seen_by_state}

-- ---- classes

-- the first of what counts are the first of their classes
pub classes_if_first : (a : Aspects) (guest : Guest) (plan : ExplorePlan) (k : Known) (all : List EndState) (many : ℕ) (firsts : List Bool)
    → AreKnown guest plan k → AreSeen a k.flats k.outcomes all → many ≡ length k.outcomes → AreFirstSeen all many firsts → AreClasses a guest k firsts
classes_if_first a guest plan k all many firsts are each size marks = record {
  count = marks.count ∙ size;
  later = λ i x s at marked.
      let found = marks.later i (what_counts a (end_state s.flat)) (each.each i x s at) marked in
      let less : found.0 < length k.outcomes =
      (let b = slice_get_within all found.0 (what_counts a (end_state s.flat)) found.2 in let n = each.count in omega (arith, b, n)) in
      let shown = element_below_length k.outcomes found.0 less in
      let state = element_below_length k.flats shown.0.node (are.explored.nodes found.0 shown.0 shown.1) in
      let there : ShowsState k.flats k.outcomes found.0 shown.0 state.0 = (shown.1, state.1) in
      let same : what_counts a (end_state s.flat) ≡ what_counts a (end_state state.0.flat) =
      same_Some (what_counts a (end_state s.flat)) (what_counts a (end_state state.0.flat)) (sym found.2 ∙ each.each found.0 shown.0 state.0 there) in (
        found.0,
        shown.0,
        state.0,
        found.1,
        there,
        sym (seen_by_state a guest plan k are i x s at (each.flat i x s at)) ∙ same
            ∙ seen_by_state a guest plan k are found.0 shown.0 state.0 there (each.flat found.0 shown.0 state.0 there),
      );
  first = λ i x s at marked earlier.
      marks.first i (what_counts a (end_state s.flat)) (each.each i x s at) marked earlier.0 earlier.3 (
      each.each earlier.0 earlier.1 earlier.2 earlier.4 ∙ ap Some (sym (
      seen_by_state a guest plan k are i x s at (each.flat i x s at) ∙ earlier.5
      ∙ sym (seen_by_state a guest plan k are earlier.0 earlier.1 earlier.2 earlier.4 (each.flat earlier.0 earlier.1 earlier.2 earlier.4))
      ))
      );
}

-- ---- the laws

-- the class of each listed outcome has a first one, no later than it
first_of_listed : (a : Aspects) (guest : Guest) (k : Known) (firsts : List Bool) → AreClasses a guest k firsts → (bound i : ℕ) → i < bound
    → (x : Shown) (s : SourcedFlat) → ShowsState k.flats k.outcomes i x s → HasFirst a guest k firsts (run_outcome (tables s.flat))
first_of_listed a guest k firsts are zero i less x s at = absurd (omega (arith, less))
first_of_listed a guest k firsts are (suc bound) i less x s at =
    let size : i < length firsts = (let b = slice_get_within k.outcomes i x at.0 in let n = are.count in omega (arith, b, n)) in
    let mark = element_below_length firsts i size in
    by_mark mark.0 mark.1 (λ j y u before there. first_of_listed a guest k firsts are bound j (omega (arith, before, less)) y u there)
  where
    by_mark : (b : Bool) → slice_get firsts i ≡ Some b
        → ((j : ℕ) (y : Shown) (u : SourcedFlat) → j < i → ShowsState k.flats k.outcomes j y u → HasFirst a guest k firsts (run_outcome (tables u.flat)))
        → HasFirst a guest k firsts (run_outcome (tables s.flat))
    by_mark true marked earlier = (i, x, s, at, marked, refl)
    by_mark false marked earlier =
        let found = are.later i x s at marked in
        let first = earlier found.0 found.1 found.2 found.3 found.4 in
        (first.0, first.1, first.2, first.3, first.4, found.5 ∙ first.5)

pub each_class_is_listed : EachClassIsListed
each_class_is_listed a guest plan k firsts known are over x is =
    let listed = (known.all over x).0 is in
    subst (HasFirst a guest k firsts) listed.4
    (first_of_listed a guest k firsts are (suc listed.0) listed.0 (omega arith) listed.1 listed.2 listed.3)

pub class_has_fewest : ClassHasFewest
class_has_fewest a guest plan k firsts known are over i y s at marked budget steps counted same =
    let setup = setup_of guest plan in
    let x = outcome_by setup budget steps in
    let listed = (known.all over x).0 (budget, steps, counted, refl) in
    let fewest = known.explored.fewest listed.0 listed.1 listed.2 listed.3 budget steps counted (sym listed.4) in
    elim (cases_lt listed.0 i) [
      | inl before ↦
          absurd (are.first i y s at marked (listed.0, listed.1, listed.2, before, listed.3, sym same ∙ ap (seen a guest) (sym listed.4)))
      | inr not ↦ after listed.0 listed.1 listed.3.0 not fewest
    ]
  where
    after : (j : ℕ) (z : Shown) → slice_get k.outcomes j ≡ Some z → i ≤ j → z.level ≤ switches_by (setup_of guest plan) budget steps
        → y.level ≤ switches_by (setup_of guest plan) budget steps
    after j z there not few = elim (cases_lt i j) [
      | inl later ↦ let low = known.explored.rising i j y z at.0 there later in omega (arith, low, few)
      | inr other ↦
          let place : i ≡ j = omega (arith, not, other) in
          let own : y ≡ z = same_Some y z (sym at.0 ∙ ap (slice_get k.outcomes) place ∙ there) in
          subst (λ (w : Shown). w.level ≤ switches_by (setup_of guest plan) budget steps) (sym own) few
    ]

-- ---- faults

pub no_guest_no_classes : (e : ExploreFault) (image : List ℕ) (plan : ExplorePlan) (a : Aspects) (w : Writer) → HasNoGuest e image plan w
    → HasNoClasses e image plan a w
no_guest_no_classes (Image e) image plan a w none = none
no_guest_no_classes TooLarge image plan a w none = none
no_guest_no_classes NoMem image plan a w none = none
no_guest_no_classes Write image plan a w none = absurd none
