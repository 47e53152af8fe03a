-- What the answers mean for the runs of both guests.
use Rattle.std.proofs.Common.{◌≡◌, ℕ, suc, zero, ◌<◌, Bool, true, false, List, [], ◌∷◌, Some, length, refl, sym, ap, ◌∙◌, subst, arith, inl, inr}
use Rattle.std.specs.Prelude.{slice_get}
use Rattle.ir_flat.specs.Flat.{tables}
use Rattle.ir_graph.specs.Outcomes.{RunOutcome, run_outcome}
use Rattle.ir_image.specs.Guest.{Guest}
use Rattle.ir_outcomes.specs.Explored.{IsOutcomeOf, ShowsState, AreExplored, AreAll}
use Rattle.ir_outcomes.specs.declared.shown.Shown.{Shown}
use Rattle.ir_search.proofs.CallerLemmas.{slice_get_some_below}
use Rattle.ir_search.specs.declared.search.Ended.{Ended}
use Rattle.ir_search.specs.declared.search.Ended.TheVariants.{Finished, Covered, Stopped}
use Rattle.ir_state_store.specs.Nodes.{SourcedFlat}
use Rattle.ir_thread.specs.State.{most_budget}
use Rattle.ir_explore.specs.Plan.{ExplorePlan, setup_of}
use Rattle.ir_explore.specs.Texts.{Known}
use Rattle.ir_graph.specs.Setup.{Setup}
use Rattle.ir_within.specs.Aspects.{Aspects, seen}
use Rattle.ir_within.specs.Laws.{HasLike, WithinIsEach, OutsideIsSome}
use Rattle.ir_within.specs.Within.{IsAmong, IsCompared, marked_count, verdict_of}
use Rattle.ir_within.specs.declared.verdict.Verdict.TheVariants.{Within, Outside}

-- ---- the verdict

within_is_finished : (e : Ended) (n : ℕ) → Within ≡ verdict_of e n → (e ≡ Finished) × (n ≡ 0)
within_is_finished e (suc n) h = absurd (cc h)
within_is_finished Finished zero h = (refl, refl)
within_is_finished Covered zero h = absurd (cc h)
within_is_finished (Stopped why) zero h = absurd (cc h)

pub some_are_outside : (e : Ended) (n many : ℕ) → Outside many ≡ verdict_of e n → 0 < n
some_are_outside e (suc n) many h = omega arith
some_are_outside Finished zero many h = absurd (cc h)
some_are_outside Covered zero many h = absurd (cc h)
some_are_outside (Stopped why) zero many h = absurd (cc h)

-- ---- marks

inside_if_none_outside : (outside : List Bool) (i : ℕ) → marked_count outside ≡ 0 → i < length outside → slice_get outside i ≡ Some false
inside_if_none_outside [] i none less = absurd (omega (arith, less))
inside_if_none_outside (true ∷ outside) i none less = absurd (omega (arith, none))
inside_if_none_outside (false ∷ outside) zero none less = refl
inside_if_none_outside (false ∷ outside) (suc i) none less = inside_if_none_outside outside i none (omega (arith, less))

pub outside_mark : (outside : List Bool) → 0 < marked_count outside → (i : ℕ) × (slice_get outside i ≡ Some true)
outside_mark [] some = absurd (omega (arith, some))
outside_mark (true ∷ outside) some = (0, refl)
outside_mark (false ∷ outside) some = let found = outside_mark outside some in (suc found.0, found.1)

-- ---- listed outcomes

-- each that is listed is one of the guest
listed_outcome_is_of_guest : (setup : Setup) (flats : List SourcedFlat) (levels : ℕ) (outcomes : List Shown) → AreExplored setup flats levels outcomes
    → (i : ℕ) (x : Shown) (s : SourcedFlat) → ShowsState flats outcomes i x s → IsOutcomeOf setup (run_outcome (tables s.flat))
listed_outcome_is_of_guest setup flats levels outcomes are i x s at = let shown = are.shown i x s at in (most_budget, shown.steps, shown.counted, shown.same)

like_if_among : (a : Aspects) (guest other : Guest) (plan : ExplorePlan) (m : Known) (x : RunOutcome)
    → AreExplored (setup_of other plan) m.flats m.levels m.outcomes → IsAmong a guest other m x → HasLike a guest other plan x
like_if_among a guest other plan m x are among = (
  run_outcome (tables among.2.flat),
  listed_outcome_is_of_guest (setup_of other plan) m.flats m.levels m.outcomes are among.0 among.1 among.2 among.3,
  among.4,
)

-- an outcome that is compared, and no outcome of the other guest is the same: where the other's are all listed, no listed one is
pub among_if_like : (a : Aspects) (guest other : Guest) (plan : ExplorePlan) (m : Known) (x : RunOutcome)
    → AreAll (setup_of other plan) m.flats m.outcomes → HasLike a guest other plan x → IsAmong a guest other m x
among_if_like a guest other plan m x all like =
    let listed = (all like.0).0 like.1 in
    (listed.0, listed.1, listed.2, listed.3, like.2 ∙ ap (seen a other) (sym listed.4))

-- ---- the laws

-- each listed outcome is one of the other's, if none is outside
compared_within : (a : Aspects) (guest other : Guest) (plan : ExplorePlan) (text : List ℕ) → IsCompared a guest other plan Within text
    → (x : RunOutcome) → IsOutcomeOf (setup_of guest plan) x → HasLike a guest other plan x
compared_within a guest other plan text c x is =
    let over = within_is_finished c.known.ended (marked_count c.outside) c.found in
    let listed = (c.are.all over.0 x).0 is in
    let count = c.judged.count in
    let less : listed.0 < length c.outside =
    (let b = slice_get_some_below c.known.outcomes listed.0 listed.1 listed.3.0 in omega (arith, b, count)) in
    let among = c.judged.among listed.0 listed.1 listed.2 listed.3 (inside_if_none_outside c.outside listed.0 over.1 less) in
    subst (HasLike a guest other plan) listed.4
    (like_if_among a guest other plan c.other_known (run_outcome (tables listed.2.flat)) c.other_are.explored among)

pub within_is_each : WithinIsEach
within_is_each a guest other plan text (inl u) = absurd (cc u.unknown)
within_is_each a guest other plan text (inr (inl u)) = absurd (cc u.unknown)
within_is_each a guest other plan text (inr (inr c)) = compared_within a guest other plan text c

-- the state of a marked outcome
compared_outside : (a : Aspects) (guest other : Guest) (plan : ExplorePlan) (many : ℕ) (text : List ℕ)
    → IsCompared a guest other plan (Outside many) text
    → (x : RunOutcome) × IsOutcomeOf (setup_of guest plan) x × (HasLike a guest other plan x → ⊥)
compared_outside a guest other plan many text c =
    let marked = outside_mark c.outside (some_are_outside c.known.ended (marked_count c.outside) many c.found) in
    let count = c.judged.count in
    let less : marked.0 < length c.known.outcomes =
    (let b = slice_get_some_below c.outside marked.0 true marked.1 in omega (arith, b, count)) in
    let shown = element_of c.known.outcomes marked.0 less in
    let state = element_of c.known.flats shown.0.node (c.are.explored.nodes marked.0 shown.0 shown.1) in (
      run_outcome (tables state.0.flat),
      listed_outcome_is_of_guest (setup_of guest plan) c.known.flats c.known.levels c.known.outcomes c.are.explored marked.0 shown.0 state.0
          (shown.1, state.1),
      λ like. c.judged.none marked.0 shown.0 state.0 (shown.1, state.1) marked.1
          (among_if_like a guest other plan c.other_known (run_outcome (tables state.0.flat)) (c.other_are.all c.finished) like),
    )
  where
    element_of : {A : Type 0} (xs : List A) (i : ℕ) → i < length xs → (x : A) × (slice_get xs i ≡ Some x)
    element_of [] i less = absurd (omega (arith, less))
    element_of (x ∷ xs) zero less = (x, refl)
    element_of (x ∷ xs) (suc i) less = element_of xs i (omega (arith, less))

pub outside_is_some : OutsideIsSome
outside_is_some a guest other plan many text (inl u) = absurd (cc u.unknown)
outside_is_some a guest other plan many text (inr (inl u)) = absurd (cc u.unknown)
outside_is_some a guest other plan many text (inr (inr c)) = compared_outside a guest other plan many text c
