-- Lists of pcs, and the positions up to which they go.
use Rattle.std.proofs.Common.{◌≡◌, ℕ, ◌+◌, ◌<◌, ◌≤◌, List, [], ◌∷◌, ◌++◌, length, length-append, sym, ap, ◌∙◌, subst, inl, inr, arith}
use Rattle.std.proofs.lemmas.Bool.{cases_lt, cases_eq}
use Rattle.std.proofs.Math.ListN.{get_or-append}
use Rattle.std.proofs.Math.Seq.{get_or-append_seam}
use Rattle.std.specs.Prelude.{slice_index}
use Rattle.std.specs.List.{slice_index_or}
use Rattle.ir_thread.specs.State as thread
use Rattle.ir_flat.specs.Flat.{idle}
use Rattle.ir_runs.specs.Run.{Step}
use Rattle.ir_fit.specs.Fit.{FittedTrace, HasRun, IsRunOf}
use Rattle.ir_fit.proofs.CallerLemmas.{event_positions_rise, entries_count_events, event_position_below}
use Rattle.ir_cut.specs.Positions.{cut_of, thread_at}
use Rattle.ir_weave.specs.Standing.{Standing, StandsAtCut, flat_in, positions}
use Rattle.ir_events.specs.Events.{entries_of, event_entry, pc_of, AreThreadPcs}
use Rattle.ir_events.specs.Walk.{AreEnds, IsListedEvent}

-- before the first step
pub listed_before_first : (f : FittedTrace) (t k : ℕ) → k ≡ 0 → IsListedEvent f t k []
listed_before_first f t k first = record {
  few = omega arith;
  each = λ i l. absurd (omega (arith, l));
  ahead = λ i past l. omega (arith, first);
}

-- a later event has a later position
entry_positions_sorted : (f : FittedTrace) → HasRun f → (t : ℕ) → t < length f.guest.entries → (i j : ℕ) → i ≤ j → j < length (entries_of f t)
    → event_entry f t i ≤ event_entry f t j
entry_positions_sorted f h t l i j up lj = elim (cases_eq j i) [
  | inl same ↦ subst (λ n. event_entry f t i ≤ event_entry f t n) (sym same) (omega arith)
  | inr ne ↦ let less = event_positions_rise f h t l i j (omega (arith, up, ne)) lj in omega (arith, less)
]

-- the thread has gone on, at most to the next event
pub listed_pcs_unchanged : (f : FittedTrace) (t k k' : ℕ) (pcs : List ℕ) → HasRun f → t < length f.guest.entries → IsListedEvent f t k pcs
    → (length pcs < length (entries_of f t) → k' ≤ event_entry f t (length pcs)) → IsListedEvent f t k' pcs
listed_pcs_unchanged f t k k' pcs h l is within = record {
  few = is.few;
  each = is.each;
  ahead = λ i past li. let next = within (omega (arith, past, li)) in let up = entry_positions_sorted f h t l (length pcs) i past li in
      omega (arith, next, up);
}

-- the pc of a thread of the state
pub standing_pc_is_run_pc : (f : FittedTrace) (s : Standing) (t k : ℕ) → StandsAtCut f (positions (flat_in f s)) s → positions (flat_in f s) t ≡ k
    → (run : List Step) → IsRunOf f.guest f.recorded run → (slice_index_or s.threads t idle).core.pc ≡ (thread_at f run t k).core.pc
standing_pc_is_run_pc f s t k stands at run whole =
    ap (λ (x : thread.ThreadState). x.core.pc) ((stands.at.each run whole).threads t ∙ ap (thread_at f run t) at)

-- the next event, by a list of the positions
pub position_le_next_event : (f : FittedTrace) (t i k : ℕ) (es pcs : List ℕ) → es ≡ entries_of f t → length pcs ≡ i → k ≤ slice_index es i
    → k ≤ event_entry f t (length pcs)
position_le_next_event f t i k es pcs same size within = subst (λ (z : List ℕ × ℕ). k ≤ slice_index z.0 z.1) (λ j. (same j, sym size j)) within

position_is_next_event : (f : FittedTrace) (t i k : ℕ) (es pcs : List ℕ) → es ≡ entries_of f t → length pcs ≡ i → k ≡ slice_index es i
    → k ≡ event_entry f t (length pcs)
position_is_next_event f t i k es pcs same size at = at ∙ (λ j. slice_index (same j) (sym size j))

-- one more pc
pub length_push_plus_one : (i pc : ℕ) (pcs pcs' : List ℕ) → pcs' ≡ pcs ++ pc ∷ [] → length pcs ≡ i → length pcs' ≡ i + 1
length_push_plus_one i pc pcs pcs' more size = let n = length-append pcs (pc ∷ []) in let same = ap (λ (xs : List ℕ). length xs) more in
    omega (arith, n, same, size)

listed_after_pc_added : (f : FittedTrace) (t k pc : ℕ) (pcs : List ℕ) (s : Standing) → HasRun f → t < length f.guest.entries
    → IsListedEvent f t k pcs → length pcs < length (entries_of f t) → StandsAtCut f (positions (flat_in f s)) s
    → positions (flat_in f s) t ≡ event_entry f t (length pcs) → pc ≡ (slice_index_or s.threads t idle).core.pc
    → IsListedEvent f t (positions (flat_in f s) t) (pcs ++ pc ∷ [])
listed_after_pc_added f t k pc pcs s h l is more stands at here =
    let size : length (pcs ++ pc ∷ []) ≡ length pcs + 1 = length-append pcs (pc ∷ []) in
    record {
      few = omega (arith, size, more);
      each = λ i li run whole. elim (cases_lt i (length pcs)) [
        | inl before ↦ get_or-append pcs (pc ∷ []) 0 i before ∙ is.each i before run whole
        | inr past ↦
            let last : i ≡ length pcs = omega (arith, past, li, size) in
            subst (λ j. slice_index (pcs ++ pc ∷ []) j ≡ pc_of f run t j) (sym last)
            (get_or-append_seam pcs pc [] 0 ∙ here ∙ standing_pc_is_run_pc f s t (event_entry f t (length pcs)) stands at run whole)
      ];
      ahead = λ i past li. let up = entry_positions_sorted f h t l (length pcs) i (omega (arith, past, size)) li in omega (arith, at, up);
    }

-- the thread is at the next event, whose pc is added
pub listed_at_next_event : (f : FittedTrace) (t i k pc : ℕ) (es pcs pcs' : List ℕ) (s : Standing) → HasRun f → t < length f.guest.entries
    → IsListedEvent f t k pcs → es ≡ entries_of f t → length pcs ≡ i → i < length es → StandsAtCut f (positions (flat_in f s)) s
    → positions (flat_in f s) t ≡ slice_index es i → pc ≡ (slice_index_or s.threads t idle).core.pc → pcs' ≡ pcs ++ pc ∷ []
    → IsListedEvent f t (positions (flat_in f s) t) pcs'
listed_at_next_event f t i k pc es pcs pcs' s h l is same size more stands at here made =
    subst (IsListedEvent f t (positions (flat_in f s) t)) (sym made)
    (listed_after_pc_added f t k pc pcs s h l is (let n = ap (λ (xs : List ℕ). length xs) same in omega (arith, n, size, more)) stands
    (position_is_next_event f t i (positions (flat_in f s) t) es pcs same size at) here)

-- at the end of the thread no event is left
pub listed_are_thread_pcs : (f : FittedTrace) (ends : List ℕ) (t k : ℕ) (pcs : List ℕ) → AreEnds f ends → t < length f.guest.entries
    → IsListedEvent f t k pcs → cut_of ends t ≤ k → AreThreadPcs f t pcs
listed_are_thread_pcs f ends t k pcs are l is done = record {
  size = elim (cases_lt (length pcs) (length (entries_of f t))) [
    | inl less ↦
        let left = is.ahead (length pcs) (omega arith) less in
        let before = event_position_below f are.run t l (length pcs) less in
        let end = are.steps t l in
        absurd (omega (arith, left, before, end, done))
    | inr all ↦ let few = is.few in let long = entries_count_events f are.run t l in omega (arith, few, all, long)
  ];
  each = is.each;
}
