-- Threads and objects of a guest, and the cuts at which they are.
use Rattle.std.proofs.Common.{◌≡◌, ℕ, ◌<◌, List, length, sym, ap, ◌∙◌, subst, inl, inr, arith}
use Rattle.std.specs.List.{slice_index_or}
use Rattle.std.proofs.Math.Path.{fun_ext}
use Rattle.std.proofs.lemmas.Bool.{cases_lt}
use Rattle.std.proofs.lemmas.List.{get_or_past}
use Rattle.ir_thread.specs.State as thread
use Rattle.ir_flat.specs.Flat.{idle}
use Rattle.ir_flat.proofs.CallerLemmas.{guest_start_is_idle}
use Rattle.ir_runs.specs.Run.{Step, trail, count, Cut, IsCut, Consistent}
use Rattle.ir_fit.specs.Fit.{FittedTrace, IsRunOf}
use Rattle.ir_fit.proofs.CallerLemmas.{idle_has_empty_trail, at_is_get_or}
use Rattle.ir_cut.specs.Positions.{machine_of, start_of, cut_of, IsConsistentCut, thread_at}
use Rattle.ir_weave.specs.Standing.{Standing, StandsAtCut, flat_in, positions}
use Rattle.ir_hits.specs.Seeing.{steps_of}
use Rattle.ir_hits.specs.Searching.{AreLast}

-- ---- the last positions

-- each is the number of the thread's steps
last_position_is_count : (f : FittedTrace) (last : List ℕ) → AreLast f last → (run : List Step) → IsRunOf f.guest f.recorded run → (t : ℕ)
    → cut_of last t ≡ count (machine_of f) (start_of f) run t
last_position_is_count f last are run whole t = elim (cases_lt t (length f.guest.entries)) [
  | inl l ↦ are.steps t l ∙ sym (whole.1.steps t l)
  | inr past ↦ get_or_past last t 0 (let n = are.size in omega (arith, n, past)) ∙
      sym (ap length (idle_has_empty_trail (machine_of f) (start_of f) (length f.guest.entries) (guest_start_is_idle f.guest f.recorded.budget f.recorded.profile) run
      whole.1.runs t past))
]

pub last_are_consistent : (f : FittedTrace) (last : List ℕ) → AreLast f last → IsConsistentCut f last
last_are_consistent f last are run whole = (
  λ t. let all = last_position_is_count f last are run whole t in omega (arith, all),
  λ t k u j a b emitted needed needs less. let all = last_position_is_count f last are run whole u in
      let within = (at_is_get_or (trail (machine_of f) (start_of f) run u) j (needed.0, b) needed.1).0 in
      omega (arith, all, within),
)

pub last_position_is_steps : (f : FittedTrace) (last : List ℕ) → AreLast f last → (run : List Step) → IsRunOf f.guest f.recorded run → (t end : ℕ)
    → end ≡ cut_of last t → end ≡ steps_of f run t
last_position_is_steps f last are run whole t end is = is ∙ last_position_is_count f last are run whole t

-- ---- where threads are

-- what is at a cut is at its own positions
pub cut_stands_at_own : (f : FittedTrace) (p : Cut) (s : Standing) → StandsAtCut f p s → StandsAtCut f (positions (flat_in f s)) s
cut_stands_at_own f p s h = subst (λ (q : Cut). StandsAtCut f q s) (fun_ext (λ t. sym (h.at.steps t))) h

-- a thread of the state is the run's
pub standing_is_run_thread : (f : FittedTrace) (s : Standing) → StandsAtCut f (positions (flat_in f s)) s → (run : List Step)
    → IsRunOf f.guest f.recorded run → (t k : ℕ) → positions (flat_in f s) t ≡ k → slice_index_or s.threads t idle ≡ thread_at f run t k
standing_is_run_thread f s stands run whole t k at = (stands.at.each run whole).threads t ∙ ap (thread_at f run t) at

-- how many steps it has taken
pub steps_are_position : (f : FittedTrace) (s : Standing) (t n : ℕ) (x : thread.ThreadState) → x ≡ slice_index_or s.threads t idle → n ≡ x.steps
    → n ≡ positions (flat_in f s) t
steps_are_position f s t n x is steps = steps ∙ ap (λ (y : thread.ThreadState). y.steps) is

-- a list of the threads' positions is the cut at which they are
positions_are_listed : (f : FittedTrace) (s : Standing) (at : List ℕ) → length at ≡ length s.threads
    → ((t : ℕ) → t < length s.threads → cut_of at t ≡ (slice_index_or s.threads t idle).steps) → (t : ℕ)
    → positions (flat_in f s) t ≡ cut_of at t
positions_are_listed f s at size here t = elim (cases_lt t (length s.threads)) [
  | inl l ↦ sym (here t l)
  | inr past ↦ ap (λ (x : thread.ThreadState). x.steps) (get_or_past s.threads t idle past)
      ∙ sym (get_or_past at t 0 (omega (arith, size, past)))
]

pub record IsCutOfStanding (f : FittedTrace) (s : Standing) (at : List ℕ) : Type 0 where
  pub size : length at ≡ length f.guest.entries
  pub consistent : IsConsistentCut f at
  pub here : (t : ℕ) → positions (flat_in f s) t ≡ cut_of at t

listed_cut_of_standing : (f : FittedTrace) (s : Standing) (at : List ℕ) → StandsAtCut f (positions (flat_in f s)) s → length at ≡ length s.threads
    → ((t : ℕ) → t < length s.threads → cut_of at t ≡ (slice_index_or s.threads t idle).steps) → IsCutOfStanding f s at
listed_cut_of_standing f s at stands size here = record {
  size = size ∙ stands.at.threads;
  consistent = λ run whole. subst (λ (p : Cut). IsCut (machine_of f) (start_of f) run p × Consistent (machine_of f) (start_of f) run p)
      (fun_ext (positions_are_listed f s at size here))
      ((stands.at.each run whole).cut, (stands.at.each run whole).consistent);
  here = positions_are_listed f s at size here;
}

-- the cut that is read off these threads
pub equal_steps_are_cut : (f : FittedTrace) (s : Standing) (at : List ℕ) (threads : List thread.ThreadState) → threads ≡ s.threads
    → StandsAtCut f (positions (flat_in f s)) s → length at ≡ length threads
    → ((t : ℕ) → t < length threads → cut_of at t ≡ (slice_index_or threads t idle).steps) → IsCutOfStanding f s at
equal_steps_are_cut f s at threads same stands size here = listed_cut_of_standing f s at stands (size ∙ ap length same)
    (subst (λ (xs : List thread.ThreadState). (t : ℕ) → t < length xs → cut_of at t ≡ (slice_index_or xs t idle).steps) same here)
