-- What a guest's complete runs come to, and what a finished search has.
use Rattle.std.proofs.Common.{◌∙◌, ◌≢◌, ◌≡◌, ℕ, suc, zero, List, inl, inr, ◌≤◌, refl, sym, ap, subst}
use Rattle.std.specs.Prelude.{length}
use Rattle.std.specs.List.{slice_index_or}
use Rattle.ir_image.specs.Guest.{Guest}
use Rattle.ir_runs.specs.Machine.{Machine, Try}
use Rattle.ir_runs.specs.Run as run
use Rattle.ir_runs.specs.Run.{IsDone}
use Rattle.ir_runs.proofs.CallerLemmas.{StateInvariant}
use Rattle.ir_thread.specs.State.{ThreadState, thread_machine}
use Rattle.ir_thread.specs.declared.profile.Profile.{Profile}
use Rattle.ir_flat.specs.Flat.{start_flat, start_threads, tables, idle}
use Rattle.ir_flat.proofs.CallerLemmas.{none_inside_at_start}
use Rattle.ir_search_laws.specs.Looks.{Looks}
use Rattle.ir_search_laws.specs.Nodes.{LeadsToNode, Noted, Path}
use Rattle.ir_search_laws.specs.Counting.{is_own, IsAtRest, entering}
use Rattle.ir_search_laws.specs.Outcomes.{IsFinished, Begins, Covers, switches}
use Rattle.ir_search_laws.specs.Sources.{Giving, sourced, by_source, plain_source}
use Rattle.ir_search_laws.specs.Views.{viewed, beside, IsLiveRun, IsUnspoilt}
use Rattle.ir_search_laws.proofs.CallerLemmas.{sourced_is_lawful, looks_alike, seen_good, real_seen, real_all, real_shown, switches_outcome_done, told}
use Rattle.ir_likeness.specs.Seen.{view, seen_machine, IsLive, IsSpoilt, Same, seen_start, IsCounted}
use Rattle.ir_likeness.proofs.Same.{look_same}
use Rattle.ir_likeness.proofs.Start.{start_view_any_budget}
use Rattle.ir_likeness.proofs.View.{recorded_end_number, seen_machine_is_lawful, seen_machine_is_view, live_or_next_spoils}

pub guest_invariant_start : (guest : Guest) (budget : ℕ) (profile : Profile) → StateInvariant (thread_machine guest.code) (tables (start_flat guest budget profile))
guest_invariant_start guest budget profile =
    record { linked = λ t o. refl; exclusive = λ o t u ne w. none_inside_at_start guest budget profile o u }

-- no thread starts spoilt
start_is_unspoilt : (code : List ℕ) (guest : Guest) (budget : ℕ) (profile : Profile) (from n t : ℕ)
    → IsSpoilt code (slice_index_or (start_threads guest budget profile from n) t idle) → ⊥
unfolding recorded_end_number
start_is_unspoilt code guest budget profile from zero t (inl h) = cc (ap recorded_end_number h)
start_is_unspoilt code guest budget profile from zero t (inr h) = cc (ap recorded_end_number h)
start_is_unspoilt code guest budget profile from (suc n) zero (inl h) = cc (ap recorded_end_number h)
start_is_unspoilt code guest budget profile from (suc n) zero (inr h) = cc (ap recorded_end_number h)
start_is_unspoilt code guest budget profile from (suc n) (suc t) h = start_is_unspoilt code guest budget profile (suc from) n t h

pub start_state_is_unspoilt : (guest : Guest) (budget : ℕ) (profile : Profile)
    → IsUnspoilt (IsSpoilt guest.code) (tables (start_flat guest budget profile))
start_state_is_unspoilt guest budget profile t h = start_is_unspoilt guest.code guest budget profile 0 (length guest.entries) t h

module _ {K S X : Type 0} (guest : Guest) (profile : Profile) (given : Giving S) (sources : ℕ → S) (state_of : K → run.State (ThreadState × S))
    (Node : K → Type 0) (Next : Noted K) (first : K)
    (f : IsFinished (sourced (seen_machine guest.code) given) (by_source (seen_machine guest.code) given) (Looks (Same guest.code))
    (seen_start guest profile sources) state_of Node Next first)
    (outcome : run.State ThreadState → X)
    (same : (u v : run.State (ThreadState × S)) → Looks (Same guest.code) u v → outcome (plain_source u) ≡ outcome (plain_source v)) where
  started : (budget : ℕ) → IsFinished (sourced (seen_machine guest.code) given) (by_source (seen_machine guest.code) given)
      (Looks (Same guest.code)) (beside (viewed view (tables (start_flat guest budget profile))) sources) state_of Node Next first
  started budget = subst (λ z. IsFinished (sourced (seen_machine guest.code) given) (by_source (seen_machine guest.code) given)
      (Looks (Same guest.code)) (beside z sources) state_of Node Next first) (start_view_any_budget guest 1 budget profile) f

  good_start : (budget : ℕ) → StateInvariant (sourced (seen_machine guest.code) given)
      (beside (viewed view (tables (start_flat guest budget profile))) sources)
  good_start budget = seen_good (thread_machine guest.code) (seen_machine guest.code) view (IsLive guest.code) (IsSpoilt guest.code)
      (seen_machine_is_view guest.code) (live_or_next_spoils guest.code) given (λ x o. refl) (tables (start_flat guest budget profile)) sources
      (guest_invariant_start guest budget profile)

  -- what a complete run that counts comes to, whatever its budget, a done node comes to
  pub guest_all : (budget : ℕ) (steps : List run.Step) → IsCounted guest budget profile given sources steps
      → (v : K) × Node v × IsDone (sourced (seen_machine guest.code) given) (state_of v)
      × (outcome (plain_source (state_of v)) ≡ outcome (viewed view (run.end (thread_machine guest.code) (tables (start_flat guest budget profile))
      steps)))
  guest_all budget steps h =
      real_all (thread_machine guest.code) (seen_machine guest.code) view (IsLive guest.code) (IsSpoilt guest.code) (seen_machine_is_view guest.code)
      (live_or_next_spoils guest.code) given (sourced_is_lawful (seen_machine guest.code) given (seen_machine_is_lawful guest.code)) (Looks (Same guest.code))
      (looks_alike (sourced (seen_machine guest.code) given) (by_source (seen_machine guest.code) given) (Same guest.code)
      (look_same guest.code given)) (tables (start_flat guest budget profile)) sources (good_start budget) state_of Node Next first
      (started budget) outcome same steps h.complete.0 h.answered h.complete.1 h.unspoilt

  -- what a done node comes to, a complete run that counts comes to, if the run that leads to the node keeps its threads live under a budget
  pub guest_shown : (budget : ℕ) (v : K) → Node v → IsDone (sourced (seen_machine guest.code) given) (state_of v)
      → (steps : List run.Step) × (IsLiveRun (thread_machine guest.code) (IsLive guest.code) (tables (start_flat guest budget profile)) steps
      → IsCounted guest budget profile given sources steps
      × (outcome (viewed view (run.end (thread_machine guest.code) (tables (start_flat guest budget profile)) steps))
      ≡ outcome (plain_source (state_of v))))
  guest_shown budget v is done =
      let r = real_shown (thread_machine guest.code) (seen_machine guest.code) view (IsLive guest.code) (IsSpoilt guest.code)
      (seen_machine_is_view guest.code) (live_or_next_spoils guest.code) given (sourced_is_lawful (seen_machine guest.code) given (seen_machine_is_lawful guest.code))
      (Looks (Same guest.code)) (looks_alike (sourced (seen_machine guest.code) given) (by_source (seen_machine guest.code) given)
      (Same guest.code) (look_same guest.code given)) (tables (start_flat guest budget profile)) sources (good_start budget) state_of Node
      Next first (started budget) outcome same (start_state_is_unspoilt guest budget profile) v is done in (
        r.0,
        λ live. let k = r.1 live in (record { complete = (k.0, k.2); answered = k.1; unspoilt = k.3 }, k.4),
      )

-- what a complete run that counts comes to with at most c switches, whatever its budget, a done node comes to, if c levels are gone over
pub guest_outcome_of_done : {K S X : Type 0} (guest : Guest) (profile : Profile) (given : Giving S) (sources : ℕ → S)
    (state_of : K → run.State (ThreadState × S)) (Open : ℕ → K → ℕ → Type 0) (first : K) (c : ℕ)
    → Covers (sourced (seen_machine guest.code) given) (by_source (seen_machine guest.code) given) (Looks (Same guest.code))
    (seen_start guest profile sources) state_of Open first c
    → (outcome : run.State ThreadState → X)
    → ((u v : run.State (ThreadState × S)) → Looks (Same guest.code) u v → outcome (plain_source u) ≡ outcome (plain_source v))
    → (budget : ℕ) (steps : List run.Step) → IsCounted guest budget profile given sources steps
    → switches (entering (thread_machine guest.code) (tables (start_flat guest budget profile)) steps) ≤ c
    → (k t : ℕ) × (v : K) × (k ≤ c) × Open k v t × IsDone (sourced (seen_machine guest.code) given) (state_of v)
    × (outcome (plain_source (state_of v)) ≡ outcome (viewed view (run.end (thread_machine guest.code) (tables (start_flat guest budget profile))
    steps)))
guest_outcome_of_done {K} {S} {X} guest profile given sources state_of Open first c covers outcome same budget steps h few =
    let s : run.State ThreadState = tables (start_flat guest budget profile) in
    let r = real_seen (thread_machine guest.code) (seen_machine guest.code) view (IsLive guest.code) (IsSpoilt guest.code)
    (seen_machine_is_view guest.code) (live_or_next_spoils guest.code) given s sources steps h.complete.0 h.answered h.complete.1 h.unspoilt in
    switches_outcome_done (sourced (seen_machine guest.code) given) (sourced_is_lawful (seen_machine guest.code) given (seen_machine_is_lawful guest.code))
    (by_source (seen_machine guest.code) given) (Looks (Same guest.code))
    (looks_alike (sourced (seen_machine guest.code) given) (by_source (seen_machine guest.code) given) (Same guest.code)
    (look_same guest.code given)) (beside (viewed view s) sources)
    (seen_good (thread_machine guest.code) (seen_machine guest.code) view (IsLive guest.code) (IsSpoilt guest.code) (seen_machine_is_view guest.code)
    (live_or_next_spoils guest.code) given (λ x o. refl) s sources (guest_invariant_start guest budget profile)) state_of Open first c
    (subst (λ z. Covers (sourced (seen_machine guest.code) given) (by_source (seen_machine guest.code) given) (Looks (Same guest.code))
    (beside z sources) state_of Open first c) (start_view_any_budget guest 1 budget profile) covers)
    (λ u. outcome (plain_source u)) same (outcome (viewed view (run.end (thread_machine guest.code) s steps)))
    (steps, r.0, r.1, ap outcome r.2, subst (λ z. switches z ≤ c) (sym r.3) few)

-- What a complete run that counts comes to, whatever its budget, is what the node comes to at which the path of its entries ends, where no
-- thread tries: whether the search is finished or not.
pub guest_outcome_is_path : {K S X : Type 0} (guest : Guest) (profile : Profile) (given : Giving S) (sources : ℕ → S)
    (state_of : K → run.State (ThreadState × S)) (Node : K → Type 0) (Next : Noted K)
    → ((v : K) → Node v → IsAtRest (sourced (seen_machine guest.code) given) (state_of v))
    → ((v : K) → Node v → (t o : ℕ) → run.asked (sourced (seen_machine guest.code) given) (state_of v) t ≢ Try o)
    → ((v : K) → Node v → (e : run.Step) (w : K) → Next v e w
    → Node w × LeadsToNode (sourced (seen_machine guest.code) given) (by_source (seen_machine guest.code) given) (Looks (Same guest.code))
    (state_of v) e (state_of w))
    → (first : K)
    → Begins (sourced (seen_machine guest.code) given) (by_source (seen_machine guest.code) given) (Looks (Same guest.code))
    (seen_start guest profile sources) (state_of first) → Node first
    → (outcome : run.State ThreadState → X)
    → ((u v : run.State (ThreadState × S)) → Looks (Same guest.code) u v → outcome (plain_source u) ≡ outcome (plain_source v))
    → (budget : ℕ) (steps : List run.Step) → IsCounted guest budget profile given sources steps
    → (v : K) → Path Next first (entering (thread_machine guest.code) (tables (start_flat guest budget profile)) steps) v
    → outcome (viewed view (run.end (thread_machine guest.code) (tables (start_flat guest budget profile)) steps))
    ≡ outcome (plain_source (state_of v))
guest_outcome_is_path {K} {S} {X} guest profile given sources state_of Node Next at_rest no_tries leads first begins is outcome same budget steps h v path =
    let s : run.State ThreadState = tables (start_flat guest budget profile) in
    let w : Machine (ThreadState × S) = sourced (seen_machine guest.code) given in
    let r = real_seen (thread_machine guest.code) (seen_machine guest.code) view (IsLive guest.code) (IsSpoilt guest.code)
    (seen_machine_is_view guest.code) (live_or_next_spoils guest.code) given s sources steps h.complete.0 h.answered h.complete.1 h.unspoilt in
    let alike : Looks (Same guest.code) (run.end w (beside (viewed view s) sources) steps) (state_of v) =
    told w (sourced_is_lawful (seen_machine guest.code) given (seen_machine_is_lawful guest.code))
    (by_source (seen_machine guest.code) given) (Looks (Same guest.code))
    (looks_alike w (by_source (seen_machine guest.code) given) (Same guest.code) (look_same guest.code given)) state_of Node Next at_rest
    no_tries leads (beside (viewed view s) sources) first
    (seen_good (thread_machine guest.code) (seen_machine guest.code) view (IsLive guest.code) (IsSpoilt guest.code)
    (seen_machine_is_view guest.code) (live_or_next_spoils guest.code) given (λ x o. refl) s sources (guest_invariant_start guest budget profile))
    (subst (λ z. Begins w (by_source (seen_machine guest.code) given) (Looks (Same guest.code)) (beside z sources) (state_of first))
    (start_view_any_budget guest 1 budget profile) begins) is steps r.0 (λ t. ap is_own (r.1 t)) v
    (subst (λ z. Path Next first z v) (sym r.3) path) in
    ap outcome (sym r.2) ∙ same (run.end w (beside (viewed view s) sources) steps) (state_of v) alike
