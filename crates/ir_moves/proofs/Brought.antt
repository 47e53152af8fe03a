-- Threads and objects that are brought to a cut.
use Rattle.std.proofs.Common.{◌≡◌, ℕ, ◌<◌, ◌≤◌, List, length, sym, ap, subst, ◌∙◌, arith, inl, inr}
use Rattle.std.proofs.Math.Path.{fun_ext}
use Rattle.std.proofs.lemmas.Bool.{cases_lt}
use Rattle.std.proofs.lemmas.List.{get_or_past}
use Rattle.std.specs.List.{slice_index_or}
use Rattle.ir_flat.specs.Flat.{idle}
use Rattle.ir_runs.specs.Run.{Cut}
use Rattle.ir_fit.specs.Fit.{FittedTrace}
use Rattle.ir_cut.specs.Positions.{cut_of}
use Rattle.ir_weave.specs.Standing.{Standing, StandsAtCut, flat_in, positions}
use Rattle.ir_moves.specs.Checkpoints.{StandsAtState}

-- what is at a cut is at its own positions
pub stands_at_own_positions : (f : FittedTrace) (p : Cut) (s : Standing) → StandsAtCut f p s → StandsAtState f s
stands_at_own_positions f p s h = subst (λ (q : Cut). StandsAtCut f q s) (fun_ext (λ t. sym (h.at.steps t))) h

-- a thread that there isn't has taken no step
missing_position_zero : (f : FittedTrace) (s : Standing) (t : ℕ) → length s.threads ≤ t → positions (flat_in f s) t ≡ 0
missing_position_zero f s t past = ap (λ x. x.steps) (get_or_past s.threads t idle past)

missing_target_zero : (f : FittedTrace) (target : List ℕ) (s : Standing) (t : ℕ) → StandsAtState f s → length target ≡ length f.guest.entries
    → length s.threads ≤ t → cut_of target t ≡ 0
missing_target_zero f target s t h size past = get_or_past target t 0 (let e = h.at.threads in omega (arith, past, e, size))

-- all threads are at their targets
pub stands_at_target : (f : FittedTrace) (target : List ℕ) (s : Standing) → StandsAtState f s → length target ≡ length f.guest.entries
    → ((t : ℕ) → t < length s.threads → (slice_index_or s.threads t idle).steps ≡ cut_of target t) → StandsAtCut f (cut_of target) s
stands_at_target f target s h size there = subst (λ (q : Cut). StandsAtCut f q s) (fun_ext (λ t. elim (cases_lt t (length s.threads)) [
  | inl l ↦ there t l
  | inr past ↦ missing_position_zero f s t past ∙ sym (missing_target_zero f target s t h size past)
])) h
