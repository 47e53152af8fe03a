-- Conditions and outcomes.
use Rattle.std.proofs.Common.{◌≡◌, ℕ, suc, ◌<◌, ◌≤◌, false, Some, List, [], ◌∷◌, length, map, get_or, refl, sym, ap, ◌∙◌, subst, arith, inl, inr}
use Rattle.std.specs.Prelude.{slice_get, slice_index}
use Rattle.std.specs.List.{list_all}
use Rattle.std.proofs.lemmas.Bool.{cases_lt}
use Rattle.std.proofs.lemmas.List.Folds.{list_all-map}
use Rattle.ir_schedule.specs.Conditions as conditions
use Rattle.ir_schedule.specs.Conditions.{Condition, as_condition, fulfils}
use Rattle.ir_schedule.specs.declared.condition.Condition as declared
use Rattle.ir_search.proofs.CallerLemmas.{slice_get_some_below}
use Rattle.ir_flat.proofs.CallerLemmas.{length_of_start_threads, length_of_start_cells}
use Rattle.ir_flat.specs.Flat.{Flat, IsFlat, idle, thread_of, cell_of, tables}
use Rattle.ir_state_store.specs.Nodes.{SourcedFlat}
use Rattle.ir_graph.specs.Outcomes.{run_outcome}
use Rattle.ir_graph.specs.Reached.{IsReached}
use Rattle.ir_graph.specs.Setup.{Setup}
use Rattle.ir_image.specs.Guest.{Guest, most_object_words, object_count}
use Rattle.ir_object.specs.Cell.{Cell}
use Rattle.ir_object.specs.Empty.{empty}
use Rattle.ir_outcomes.specs.Explored.{ShowsState, AreExplored, AreAll}
use Rattle.ir_outcomes.specs.Shown.{switches_by}
use Rattle.ir_outcomes.specs.declared.shown.Shown.{Shown}
use Rattle.ir_thread.specs.State.{most_budget}
use Rattle.ir_explore.specs.Conditions.{first_of, seen_outcome, fulfils_each, NeverFulfils, NeverWithin, NoneBefore, OutcomesDecide}

-- ---- the outcome of a state

-- what f gives of each element
map_is_first_of : {A B : Type 0} (f : A → B) (xs : List A) (d : A) → map f xs ≡ first_of (length xs) (λ k. f (get_or xs k d))
map_is_first_of f [] d = refl
map_is_first_of f (x ∷ xs) d = ap (λ z. f x ∷ z) (map_is_first_of f xs d)

list_is_first_of : (xs : List ℕ) → xs ≡ first_of (length xs) (λ k. get_or xs k 0)
list_is_first_of [] = refl
list_is_first_of (x ∷ xs) = ap (λ z. x ∷ z) (list_is_first_of xs)

-- the words of objects that have as many each
words_are_first_of : (n : ℕ) (cells : List Cell) → ((o : ℕ) → o < length cells → length (get_or cells o empty).words ≡ n)
    → map (λ (c : Cell). c.words) cells ≡ first_of (length cells) (λ o. first_of n (λ k. get_or (get_or cells o empty).words k 0))
words_are_first_of n [] all = refl
words_are_first_of n (c ∷ cells) all = λ i.
    (list_is_first_of c.words ∙ ap (λ m. first_of m (λ k. get_or c.words k 0)) (all 0 (omega arith))) i
    ∷ words_are_first_of n cells (λ o l. all (suc o) (omega (arith, l))) i

-- what threads and objects came to is their outcome as conditions see it
pub outcome_is_seen_outcome : (guest : Guest) (f : Flat) → length f.threads ≡ length guest.entries → length f.objects ≡ object_count guest
    → ((o : ℕ) → o < length f.objects → length (cell_of f o).words ≡ most_object_words)
    → conditions.end_state f ≡ seen_outcome guest (run_outcome (tables f))
outcome_is_seen_outcome guest f threads objects words = λ i. record {
  ends = (map_is_first_of (λ x. x.ended) f.threads idle ∙ ap (λ n. first_of n (λ t. (thread_of f t).ended)) threads) i;
  outputs = (map_is_first_of (λ x. x.output) f.threads idle ∙ ap (λ n. first_of n (λ t. (thread_of f t).output)) threads) i;
  words = (words_are_first_of most_object_words f.objects words
      ∙ ap (λ n. first_of n (λ o. first_of most_object_words (slice_index (cell_of f o).words))) objects) i;
}

pub outcomes_decide : OutcomesDecide
outcomes_decide guest c f threads objects words = ap (fulfils c) (outcome_is_seen_outcome guest f threads objects words)

-- the same of a state to which some run leads
pub end_state_is_seen : (setup : Setup) (s : SourcedFlat) → IsReached setup s → IsFlat s.flat
    → conditions.end_state s.flat ≡ seen_outcome setup.guest (run_outcome (tables s.flat))
end_state_is_seen setup s reached flat =
    outcome_is_seen_outcome setup.guest s.flat
    (reached.like.threads ∙ length_of_start_threads setup.guest most_budget setup.profile 0 (length setup.guest.entries))
    (reached.like.objects ∙ length_of_start_cells setup.guest 0 (object_count setup.guest)) (λ o l. (flat.objects o l).words)

-- whether a state's outcome fulfils each condition
pub fulfils_as_outcome : (setup : Setup) (cs : List Condition) (s : SourcedFlat) → IsReached setup s → IsFlat s.flat
    → list_all (λ c. fulfils c (conditions.end_state s.flat)) cs ≡ fulfils_each setup.guest cs (run_outcome (tables s.flat))
fulfils_as_outcome setup cs s reached flat =
    ap (λ z. list_all (λ c. fulfils c z) cs) (end_state_is_seen setup s reached flat)

-- the same of conditions as the code has them
pub declared_as_outcome : (setup : Setup) (cs : List declared.Condition) (s : SourcedFlat) → IsReached setup s → IsFlat s.flat
    → list_all (λ c. fulfils (as_condition c) (conditions.end_state s.flat)) cs ≡ fulfils_each setup.guest (map as_condition cs) (run_outcome (tables s.flat))
declared_as_outcome setup cs s reached flat = sym (list_all-map (λ x. fulfils x (conditions.end_state s.flat)) as_condition cs)
    ∙ fulfils_as_outcome setup (map as_condition cs) s reached flat

-- ---- what the list says of runs

-- none that is listed fulfils them
pub none_before_step : (guest : Guest) (cs : List Condition) (flats : List SourcedFlat) (outcomes : List Shown) (n : ℕ) (x : Shown) (f : SourcedFlat)
    → NoneBefore guest cs flats outcomes n → ShowsState flats outcomes n x f → fulfils_each guest cs (run_outcome (tables f.flat)) ≡ false
    → NoneBefore guest cs flats outcomes (suc n)
none_before_step guest cs flats outcomes n x f before at not i y g less there = elim (cases_lt i n) [
  | inl l ↦ before i y g l there
  | inr m ↦
      let place : i ≡ n = omega (arith, less, m) in
      let one : y ≡ x = same (sym there.0 ∙ ap (slice_get outcomes) place ∙ at.0) in
      let state : g ≡ f = same (sym there.1 ∙ ap (λ z. slice_get flats z.node) one ∙ at.1) in
      ap (λ (z : SourcedFlat). fulfils_each guest cs (run_outcome (tables z.flat))) state ∙ not
]
  where
    same : {A : Type 0} {x y : A} → Some x ≡ Some y → x ≡ y
    same e = cc e

-- no run of few switches does
pub never_within_levels : (setup : Setup) (cs : List Condition) (flats : List SourcedFlat) (outcomes : List Shown) (levels : ℕ)
    → AreExplored setup flats levels outcomes → NoneBefore setup.guest cs flats outcomes (length outcomes) → NeverWithin setup cs levels
never_within_levels setup cs flats outcomes levels e none budget steps counted less =
    let h = e.covered (switches_by setup budget steps) less budget steps counted (omega arith) in
    ap (fulfils_each setup.guest cs) (sym h.4) ∙ none h.0 h.1 h.2 (slice_get_some_below outcomes h.0 h.1 h.3.0) h.3

-- if all are listed, no run does
pub never_fulfils : (setup : Setup) (cs : List Condition) (flats : List SourcedFlat) (outcomes : List Shown) → AreAll setup flats outcomes
    → NoneBefore setup.guest cs flats outcomes (length outcomes) → NeverFulfils setup cs
never_fulfils setup cs flats outcomes all none x is =
    let h = (all x).0 is in
    ap (fulfils_each setup.guest cs) (sym h.4) ∙ none h.0 h.1 h.2 (slice_get_some_below outcomes h.0 h.1 h.3.0) h.3

-- before the first that does, no run of fewer switches does
pub never_within_level : (setup : Setup) (cs : List Condition) (flats : List SourcedFlat) (outcomes : List Shown) (levels place : ℕ) (x : Shown)
    → AreExplored setup flats levels outcomes → slice_get outcomes place ≡ Some x → NoneBefore setup.guest cs flats outcomes place
    → NeverWithin setup cs x.level
never_within_level setup cs flats outcomes levels place x e at none budget steps counted less =
    let most = e.most place x at in
    let h = e.covered (switches_by setup budget steps) (omega (arith, less, most)) budget steps counted (omega arith) in
    let few : h.1.level ≤ switches_by setup budget steps = e.fewest h.0 h.1 h.2 h.3 budget steps counted (sym h.4) in
    let before : h.0 < place = elim (cases_lt h.0 place) [
      | inl l ↦ l
      | inr m ↦ absurd (let l = least h.0 h.1 h.3.0 m in omega (arith, l, few, less))
    ] in
    ap (fulfils_each setup.guest cs) (sym h.4) ∙ none h.0 h.1 h.2 before h.3
  where
    least : (j : ℕ) (y : Shown) → slice_get outcomes j ≡ Some y → place ≤ j → x.level ≤ y.level
    least j y there after = elim (cases_lt place j) [
      | inl l ↦ e.rising place j x y at there l
      | inr m ↦
          let place_is : j ≡ place = omega (arith, after, m) in
          let one : x ≡ y = same (sym at ∙ sym (ap (slice_get outcomes) place_is) ∙ there) in
          subst (λ (z : Shown). x.level ≤ z.level) one (omega arith)
    ]
      where
        same : {A : Type 0} {x y : A} → Some x ≡ Some y → x ≡ y
        same e = cc e
