-- A thread that advances alone, and threads that do so one after the other.
use Rattle.std.proofs.Common.{◌≡◌, refl, ℕ, ◌+◌, ◌-◌, ◌<◌, ◌≤◌, List, length, subst, sym, arith, inl, inr, ◌∙◌}
use Rattle.std.proofs.lemmas.Bool.{cases_eq, cases_lt}
use Rattle.ir_flat.specs.Alone.{WentAlone}
use Rattle.ir_flat.specs.Flat.{Flat}
use Rattle.ir_fit.specs.Fit.{FittedTrace}
use Rattle.ir_runs.proofs.CallerLemmas.{sum_below_is_monotone, sum_below_less}
use Rattle.ir_cut.specs.Positions.{cut_of}
use Rattle.ir_weave.specs.Standing.{positions}
use Rattle.ir_weave.specs.Stepping.{IsTarget, IsUnder, HasGone, IsSameSeat, RestsAtTarget, steps_left}
use Rattle.ir_weave.proofs.CallerLemmas.{position_after_alone, other_position_alone}
use Rattle.ir_replay.specs.Passes.{IsPass}
use Rattle.ir_replay.proofs.Reached.{rests_in_same_state, all_rest_reaches_target}

-- ---- one thread

pub has_gone_no_steps : (s : Flat) (t : ℕ) → HasGone s s t 0
has_gone_no_steps s t = record { own = omega arith; others = λ u ne. refl }

pub has_gone_if_went_alone : (s new : Flat) (t n : ℕ) → WentAlone s new t n → HasGone s new t n
has_gone_if_went_alone s new t n w = record { own = position_after_alone s new t n w; others = other_position_alone s new t n w }

-- by private steps
pub gone_then_private : (old s new : Flat) (t m n : ℕ) → HasGone old s t m → WentAlone s new t n → HasGone old new t (m + n)
gone_then_private old s new t m n h w = record {
  own = let a = h.own in let more = position_after_alone s new t n w in omega (arith, a, more);
  others = λ u ne. other_position_alone s new t n w u ne ∙ h.others u ne;
}

-- and no step
pub gone_then_same : (old s new : Flat) (t m : ℕ) → HasGone old s t m → IsSameSeat s new → HasGone old new t m
gone_then_same old s new t m h same = record {
  own = let a = h.own in let b = same t in omega (arith, a, b);
  others = λ u ne. same u ∙ h.others u ne;
}

-- or a step
pub has_gone_after_step : (old s new : Flat) (t m : ℕ) → HasGone old s t m → HasGone s new t 1 → HasGone old new t (m + 1)
has_gone_after_step old s new t m h gone = record {
  own = let a = h.own in let b = gone.own in omega (arith, a, b);
  others = λ u ne. gone.others u ne ∙ h.others u ne;
}

positions_rise_if_gone : (old new : Flat) (t n : ℕ) → HasGone old new t n → (u : ℕ) → positions old u ≤ positions new u
positions_rise_if_gone old new t n h u = elim (cases_eq u t) [
  | inl same ↦ subst (λ w. positions old w ≤ positions new w) (sym same) (let a = h.own in omega (arith, a))
  | inr ne ↦ let a = h.others u ne in omega (arith, a)
]

gone_none_is_same : (old new : Flat) (t n : ℕ) → HasGone old new t n → n ≡ 0 → IsSameSeat old new
gone_none_is_same old new t n h none u = elim (cases_eq u t) [
  | inl same ↦ subst (λ w. positions new w ≡ positions old w) (sym same) (let a = h.own in omega (arith, a, none))
  | inr ne ↦ h.others u ne
]

-- ---- how many steps are left

pub steps_left_fall : (target : List ℕ) (old new : Flat) → ((t : ℕ) → positions old t ≤ positions new t)
    → steps_left target new ≤ steps_left target old
steps_left_fall target old new above = sum_below_is_monotone (length target) (λ t. cut_of target t - positions new t) (λ t. cut_of target t - positions old t)
    (λ t. let a = above t in omega (arith, a))

gone_steps_left_fewer : (target : List ℕ) (old new : Flat) (t n : ℕ) → t < length target → HasGone old new t n → 0 < n
    → positions new t ≤ cut_of target t → steps_left target new < steps_left target old
gone_steps_left_fewer target old new t n l gone some below =
    sum_below_less (length target) t (λ u. cut_of target u - positions new u) (λ u. cut_of target u - positions old u) l
    (let own = gone.own in omega (arith, own, some, below)) (λ u. let a = positions_rise_if_gone old new t n gone u in omega (arith, a))

-- ---- a pass

pub pass_at_start : (f : FittedTrace) (target : List ℕ) (s : Flat) (most : ℕ) → IsUnder f target s → IsPass f target s s 0 most 0
pass_at_start f target s most under = record {
  under = under;
  above = λ t. omega arith;
  fewer = λ l. absurd (omega (arith, l));
  same = λ e u. refl;
  rest = λ e some t l. absurd (omega (arith, l));
}

-- the next thread has gone on
pub pass_after_next_thread : (f : FittedTrace) (target : List ℕ) (old s new : Flat) (taken most t more : ℕ) → IsPass f target old s taken most t
    → t < length target → IsUnder f target new → HasGone s new t more → (more < most - taken → RestsAtTarget f target new t)
    → IsPass f target old new (taken + more) most (t + 1)
pass_after_next_thread f target old s new taken most t more k l under gone rests = record {
  under = under;
  above = λ u. let a = k.above u in let b = positions_rise_if_gone s new t more gone u in omega (arith, a, b);
  fewer = λ some. elim (cases_lt 0 more) [
    | inl moved ↦ let a = gone_steps_left_fewer target s new t more l gone moved (under.below t) in let b = steps_left_fall target old s k.above in
        omega (arith, a, b)
    | inr still ↦ let a = steps_left_fall target s new (positions_rise_if_gone s new t more gone) in let b = k.fewer (omega (arith, some, still)) in
        omega (arith, a, b)
  ];
  same = λ none u. gone_none_is_same s new t more gone (omega (arith, none)) u ∙ k.same (omega (arith, none)) u;
  rest = λ none some u less. elim (cases_eq u t) [
    | inl here ↦ subst (RestsAtTarget f target new) (sym here) (rests (omega (arith, none, some)))
    | inr ne ↦ rests_in_same_state f target s new u (gone_none_is_same s new t more gone (omega (arith, none)))
        (k.rest (omega (arith, none)) some u (omega (arith, less, ne)))
  ];
}

-- ---- passes

-- after passes that began at old and may take most steps, of which left remain
pub record ArePasses (f : FittedTrace) (target : List ℕ) (old s : Flat) (most left : ℕ) : Type 0 where
  pub under : IsUnder f target s
  pub above : (t : ℕ) → positions old t ≤ positions s t
  pub within : left ≤ most
  pub fewer : left < most → steps_left target s < steps_left target old
  pub same : left ≡ most → IsSameSeat old s

pub passes_at_start : (f : FittedTrace) (target : List ℕ) (s : Flat) (most : ℕ) → IsUnder f target s → ArePasses f target s s most most
passes_at_start f target s most under = record {
  under = under;
  above = λ t. omega arith;
  within = omega arith;
  fewer = λ l. absurd (omega (arith, l));
  same = λ e u. refl;
}

pub passes_after_pass : (f : FittedTrace) (target : List ℕ) (old s new : Flat) (most left taken n : ℕ) → ArePasses f target old s most left
    → IsPass f target s new taken left n → taken ≤ left → (taken ≡ 0 → ⊥) → ArePasses f target old new most (left - taken)
passes_after_pass f target old s new most left taken n k p few some = record {
  under = p.under;
  above = λ t. let a = k.above t in let b = p.above t in omega (arith, a, b);
  within = let a = k.within in omega (arith, a);
  fewer = λ l. let a = p.fewer (elim (cases_lt 0 taken) [ inl l ↦ l | inr none ↦ absurd (some (omega (arith, none))) ]) in let b =
      steps_left_fall target old s k.above in omega (arith, a, b);
  same = λ e. let a = k.within in absurd (some (omega (arith, a, e, few)));
}

-- where a pass takes no step, none was left to those before, or these took some
pub passes_steps_left_fewer : (f : FittedTrace) (target : List ℕ) (old s new : Flat) (most left taken : ℕ) → IsTarget f target
    → ArePasses f target old s most left → IsPass f target s new taken left (length target) → taken ≡ 0 → 0 < left → (t : ℕ)
    → positions old t < cut_of target t → steps_left target new < steps_left target old
passes_steps_left_fewer f target old s new most left taken aim k p none some t less = elim (cases_lt left most) [
  | inl l ↦ let a = k.fewer l in let b = steps_left_fall target s new p.above in omega (arith, a, b)
  | inr all ↦
      let at : positions new t ≡ cut_of target t = all_rest_reaches_target f target new aim p.under (p.rest none some) t in
      let a = p.same none t in
      let b = k.same (let w = k.within in omega (arith, all, w)) t in
      absurd (omega (arith, at, a, b, less))
]
