-- A thread that advances by itself at no marked word.
use Rattle.std.proofs.Common.{◌≡◌, ℕ, ◌-◌, ◌<◌, ◌≤◌, List, length, sym, subst, arith, inl, inr}
use Rattle.std.proofs.lemmas.Bool.{cases_lt}
use Rattle.ir_mach.specs.Marks.{Marked}
use Rattle.ir_thread.specs.Private.{UnmarkedSteps, StopsUnmarked}
use Rattle.ir_flat.specs.Alone.{WentAlone}
use Rattle.ir_flat.specs.Flat.{Flat, thread_of}
use Rattle.ir_fit.specs.Fit.{FittedTrace, HasRun}
use Rattle.ir_cut.specs.Positions.{cut_of, IsConsistentCut}
use Rattle.ir_weave.specs.Standing.{Standing, StandsAtCut, flat_in, positions}
use Rattle.ir_weave.specs.Stepping.{IsUnder, HasGone}
use Rattle.ir_weave.proofs.CallerLemmas.{under_target_after_alone, position_after_alone}
use Rattle.ir_replay.specs.Alone.{RestsUnmarked}
use Rattle.ir_replay.proofs.Going.{has_gone_if_went_alone}
use Rattle.ir_replay.proofs.Reached.{consistent_is_target, standing_is_under, standing_has_gone}

-- a thread that takes no more steps than are left to it isn't past its target
pub under_after_private : (f : FittedTrace) (target aim : List ℕ) (state : Standing) (s new : Flat) (t n : ℕ) → s ≡ flat_in f state → aim ≡ target
    → HasRun f → (length target ≡ length f.guest.entries) × IsConsistentCut f target
    → StandsAtCut f (positions (flat_in f state)) state → ((u : ℕ) → positions (flat_in f state) u ≤ cut_of target u)
    → n ≤ cut_of aim t - positions s t → WentAlone s new t n → IsUnder f aim new
under_after_private f target aim state s new t n is same run consistent stands below few w =
    under_target_after_alone f aim s new t n (consistent_is_target f target aim same run consistent) (standing_is_under f target aim state s is same stands below) few w

pub standing_gone_alone : (f : FittedTrace) (old state : Standing) (s new : Flat) (t n : ℕ) → s ≡ flat_in f old → WentAlone s new t n
    → state ≡ record { threads = new.threads; objects = new.objects } → HasGone (flat_in f old) (flat_in f state) t n
standing_gone_alone f old state s new t n was w is = standing_has_gone f old state s new t n was (has_gone_if_went_alone s new t n w) is

pub standing_steps_unmarked : (f : FittedTrace) (old state : Standing) (s new : Flat) (code : Marked) (t n : ℕ) → s ≡ flat_in f old
    → UnmarkedSteps code n (thread_of s t) (thread_of new t) → state ≡ record { threads = new.threads; objects = new.objects }
    → UnmarkedSteps code n (thread_of (flat_in f old) t) (thread_of (flat_in f state) t)
standing_steps_unmarked f old state s new code t n was u is =
    subst (λ (z : Flat × Standing). UnmarkedSteps code n (thread_of z.0 t) (thread_of (flat_in f z.1) t)) (λ i. (was i, sym is i)) u

-- one that took fewer than most steps stopped at its target, or before what it doesn't take
pub rests_unmarked_if_fewer : (f : FittedTrace) (target aim : List ℕ) (state : Standing) (s new : Flat) (code : Marked) (t n limit most : ℕ)
    → aim ≡ target → WentAlone s new t n → (n < cut_of aim t - positions s t → n < most → n < limit) → (n < limit → StopsUnmarked code (thread_of new t))
    → state ≡ record { threads = new.threads; objects = new.objects } → n < most → RestsUnmarked target code (flat_in f state) t
rests_unmarked_if_fewer f target aim state s new code t n limit most same w least stops is less =
    subst (λ (z : List ℕ × Standing). RestsUnmarked z.0 code (flat_in f z.1) t) (λ i. (same i, sym is i)) rests
  where
    rests : RestsUnmarked aim code new t
    rests = elim (cases_lt (positions new t) (cut_of aim t)) [
      | inr past ↦ inl past
      | inl below ↦ inr (stops (least (let own = position_after_alone s new t n w in omega (arith, own, below)) less))
    ]
