-- The ends of the threads, and that all threads are there where none can go on.
use Rattle.std.proofs.Common.{◌≡◌, ℕ, ◌<◌, ◌≤◌, List, length, sym, ap, ◌∙◌, inl, inr, arith}
use Rattle.std.proofs.lemmas.Bool.{cases_lt}
use Rattle.std.proofs.lemmas.List.{get_or_past}
use Rattle.ir_flat.proofs.CallerLemmas.{guest_start_is_idle}
use Rattle.ir_runs.specs.Run.{Step, trail, count}
use Rattle.ir_fit.specs.Fit.{FittedTrace, IsRunOf}
use Rattle.ir_fit.proofs.CallerLemmas.{idle_has_empty_trail, at_is_get_or}
use Rattle.ir_cut.specs.Positions.{machine_of, start_of, cut_of, IsConsistentCut}
use Rattle.ir_weave.specs.Standing.{Standing, flat_in, positions}
use Rattle.ir_weave.specs.Stepping.{IsTarget, IsUnder, RestsAtTarget}
use Rattle.ir_replay.proofs.CallerLemmas.{all_rest_reaches_target}
use Rattle.ir_events.specs.Walk.{AreEnds, IsOnWalk}

-- each is the number of the thread's steps
pub ends_are_step_counts : (f : FittedTrace) (ends : List ℕ) → AreEnds f ends → (run : List Step) → IsRunOf f.guest f.recorded run → (t : ℕ)
    → cut_of ends t ≡ count (machine_of f) (start_of f) run t
ends_are_step_counts f ends are run whole t = elim (cases_lt t (length f.guest.entries)) [
  | inl l ↦ are.steps t l ∙ sym (whole.1.steps t l)
  | inr past ↦ get_or_past ends t 0 (let n = are.size in omega (arith, n, past)) ∙
      sym (ap length (idle_has_empty_trail (machine_of f) (start_of f) (length f.guest.entries) (guest_start_is_idle f.guest f.recorded.budget f.recorded.profile) run
      whole.1.runs t past))
]

pub ends_are_consistent_cut : (f : FittedTrace) (ends : List ℕ) → AreEnds f ends → IsConsistentCut f ends
ends_are_consistent_cut f ends are run whole = (
  λ t. let all = ends_are_step_counts f ends are run whole t in omega (arith, all),
  λ t k u j a b emitted needed needs less. let all = ends_are_step_counts f ends are run whole u in
      let within = (at_is_get_or (trail (machine_of f) (start_of f) run u) j (needed.0, b) needed.1).0 in
      omega (arith, all, within),
)

-- there is no thread past the last
pub stepping_thread_below : (ends : List ℕ) (t k : ℕ) → k < cut_of ends t → t < length ends
stepping_thread_below ends t k less = elim (cases_lt t (length ends)) [
  | inl l ↦ l
  | inr past ↦ let none : cut_of ends t ≡ 0 = get_or_past ends t 0 past in absurd (omega (arith, none, less))
]

-- where no thread can go on, all are at their ends
pub all_at_ends_if_all_rest : (f : FittedTrace) (ends : List ℕ) (s : Standing) → AreEnds f ends → IsOnWalk f ends s
    → ((t : ℕ) → t < length ends → RestsAtTarget f ends (flat_in f s) t) → (t : ℕ) → cut_of ends t ≤ positions (flat_in f s) t
all_at_ends_if_all_rest f ends s are way rest t =
    let target : IsTarget f ends = record { run = are.run; size = are.size; consistent = ends_are_consistent_cut f ends are } in
    let under : IsUnder f ends (flat_in f s) = record { state = way.stands.at; below = way.below } in
    let same = all_rest_reaches_target f ends (flat_in f s) target under rest t in
    omega (arith, same)
