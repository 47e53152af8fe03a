-- Cuts on the way of a move.
use Rattle.std.proofs.Common.{◌≡◌, ◌≤◌, ℕ, List, length, map, sym, ap, ◌∙◌, subst, arith}
use Rattle.std.proofs.Math.Path.{fun_ext}
use Rattle.std.proofs.Math.ListN.{get_or-map}
use Rattle.std.proofs.lemmas.List.{length-map}
use Rattle.std.specs.List.{slice_index_or}
use Rattle.ir_thread.specs.State as thread
use Rattle.ir_flat.specs.Flat.{idle}
use Rattle.ir_runs.specs.Run.{Cut, IsCut, Consistent}
use Rattle.ir_fit.specs.Fit.{FittedTrace, HasRun}
use Rattle.ir_cut.specs.Positions.{machine_of, start_of, cut_of, IsConsistentCut}
use Rattle.ir_cut.specs.Searching.{IsLeastCut}
use Rattle.ir_weave.specs.Standing.{Standing, StandsAtCut, flat_in, IsBetween, positions}
use Rattle.ir_moves.specs.Checkpoints.{StandsAtState}
use Rattle.ir_moves.specs.Parts.{IsOnWay}

-- the least cut with a thread further lies below each such that is above
pub least_toward_on_way : (f : FittedTrace) (low : Cut) (target cut new : List ℕ) (t k : ℕ) → HasRun f → IsConsistentCut f target
    → IsOnWay f low (cut_of target) cut → k ≤ cut_of target t → IsLeastCut f cut t k new → IsConsistentCut f new
    → IsOnWay f low (cut_of target) new
least_toward_on_way f low target cut new t k h target_is way le least consistent =
    let one = least.1 h.run h.whole in
    let aim = target_is h.run h.whole in
    record {
      size = least.0;
      consistent = consistent;
      above = λ u. (let a = way.above u in let b = one.above u in omega (arith, a, b));
      below = one.least (cut_of target) aim.0 aim.1 way.below le;
    }

-- the threads' own positions, as a list
pub cut_of-map_steps : (threads : List thread.ThreadState) (t : ℕ) → cut_of (map (λ x. x.steps) threads) t ≡ (slice_index_or threads t idle).steps
cut_of-map_steps threads t = get_or-map (λ (x : thread.ThreadState). x.steps) threads t idle

pub own_cut_is_positions : (f : FittedTrace) (s : Standing) (cut : List ℕ) → cut ≡ map (λ t. t.steps) s.threads → cut_of cut ≡ positions (flat_in f s)
own_cut_is_positions f s cut is = fun_ext (λ t. ap (λ (c : List ℕ). cut_of c t) is ∙ cut_of-map_steps s.threads t)

own_cut_is_consistent : (f : FittedTrace) (s : Standing) (cut : List ℕ) → StandsAtState f s → cut_of cut ≡ positions (flat_in f s) → IsConsistentCut f cut
own_cut_is_consistent f s cut h same run whole =
    let at = h.at.each run whole in
    subst (λ (q : Cut). IsCut (machine_of f) (start_of f) run q × Consistent (machine_of f) (start_of f) run q) (sym same)
    (at.cut, at.consistent)

-- they are the beginning of the way
pub own_cut_on_way : (f : FittedTrace) (s : Standing) (target cut : List ℕ) → StandsAtState f s → cut ≡ map (λ t. t.steps) s.threads
    → ((t : ℕ) → positions (flat_in f s) t ≤ cut_of target t) → IsOnWay f (cut_of cut) (cut_of target) cut
own_cut_on_way f s target cut h is below =
    let same = own_cut_is_positions f s cut is in
    record {
      size = ap length is ∙ length-map s.threads (λ (x : thread.ThreadState). x.steps) ∙ h.at.threads;
      consistent = own_cut_is_consistent f s cut h same;
      above = λ t. omega arith;
      below = subst (λ (q : Cut). (t : ℕ) → q t ≤ cut_of target t) (sym same) below;
    }

pub on_way_from_own : (f : FittedTrace) (s : Standing) (target from cut : List ℕ) → from ≡ map (λ t. t.steps) s.threads
    → IsOnWay f (cut_of from) (cut_of target) cut → IsOnWay f (positions (flat_in f s)) (cut_of target) cut
on_way_from_own f s target from cut is way = subst (λ (q : Cut). IsOnWay f q (cut_of target) cut) (own_cut_is_positions f s from is) way

-- what is at such a cut isn't past the target
pub on_way_below_target : (f : FittedTrace) (low : Cut) (target cut : List ℕ) (s : Standing) → IsOnWay f low (cut_of target) cut
    → StandsAtCut f (cut_of cut) s → (t : ℕ) → positions (flat_in f s) t ≤ cut_of target t
on_way_below_target f low target cut s way at t = let same = at.at.steps t in let le = way.below t in omega (arith, same, le)

-- what is between isn't either
pub between_below_target : (f : FittedTrace) (low : Cut) (target cut : List ℕ) (old new : Standing) → IsOnWay f low (cut_of target) cut
    → IsBetween f cut old new → (t : ℕ) → positions (flat_in f new) t ≤ cut_of target t
between_below_target f low target cut old new way between t = let b = between.below t in let le = way.below t in omega (arith, b, le)
