-- Threads that go on by themselves, one after the other.
use Rattle.std.proofs.Common.{◌≡◌, ℕ, ◌+◌, ◌-◌, ◌<◌, ◌≤◌, List, [], length, set, get_or-set_same, get_or-set_other, length-set, refl, sym, ◌∙◌, subst, inl, inr, arith}
use Rattle.std.proofs.lemmas.Bool.{cases_lt, cases_eq}
use Rattle.std.specs.List.{slice_index_or}
use Rattle.ir_runs.proofs.CallerLemmas.{sum_below_less}
use Rattle.ir_fit.specs.Fit.{FittedTrace}
use Rattle.ir_cut.specs.Positions.{cut_of}
use Rattle.ir_weave.specs.Standing.{Standing, flat_in, positions}
use Rattle.ir_weave.specs.Stepping.{HasGone, IsSameSeat, RestsAtTarget, steps_left}
use Rattle.ir_events.specs.Walk.{AreEnds, IsOnWalk, IsFurther, IsListedEvent, AreEventsListed, IsWalkPass}
use Rattle.ir_replay.proofs.CallerLemmas.{rests_in_same_state}
use Rattle.ir_events.proofs.Ends.{all_at_ends_if_all_rest, stepping_thread_below}

-- ---- one thread

pub further_reflexive : (f : FittedTrace) (t : ℕ) (s : Standing) → IsFurther f t s s
further_reflexive f t s = record { above = omega arith; others = λ u ne. refl }

pub further_after_gone : (f : FittedTrace) (t n : ℕ) (old new : Standing) → HasGone (flat_in f old) (flat_in f new) t n → IsFurther f t old new
further_after_gone f t n old new gone = record { above = let own = gone.own in omega (arith, own); others = gone.others }

pub further_transitive : (f : FittedTrace) (t : ℕ) (old s new : Standing) → IsFurther f t old s → IsFurther f t s new → IsFurther f t old new
further_transitive f t old s new a b = record {
  above = let up = a.above in let more = b.above in omega (arith, up, more);
  others = λ u ne. b.others u ne ∙ a.others u ne;
}

further_never_falls : (f : FittedTrace) (t : ℕ) (old new : Standing) → IsFurther f t old new → (u : ℕ)
    → positions (flat_in f old) u ≤ positions (flat_in f new) u
further_never_falls f t old new h u = elim (cases_eq u t) [
  | inl same ↦ subst (λ w. positions (flat_in f old) w ≤ positions (flat_in f new) w) (sym same) h.above
  | inr ne ↦ let same = h.others u ne in omega (arith, same)
]

-- ---- one after the other

pub pass_at_start : (f : FittedTrace) (ends : List ℕ) (s : Standing) → IsOnWalk f ends s → IsWalkPass f ends 0 s s
pass_at_start f ends s way = record { way = way; above = λ u. omega arith; rest = λ same u l. absurd (omega (arith, l)) }

-- the next thread has gone on
pub pass_after_next_thread : (f : FittedTrace) (ends : List ℕ) (t : ℕ) (old s new : Standing) → IsWalkPass f ends t old s → IsOnWalk f ends new
    → IsFurther f t s new → RestsAtTarget f ends (flat_in f new) t → IsWalkPass f ends (t + 1) old new
pass_after_next_thread f ends t old s new k way further rests = record {
  way = way;
  above = λ u. let a = k.above u in let b = further_never_falls f t s new further u in omega (arith, a, b);
  rest = λ same u less. elim (cases_eq u t) [
    | inl here ↦ subst (RestsAtTarget f ends (flat_in f new)) (sym here) rests
    | inr ne ↦ rests_in_same_state f ends (flat_in f s) (flat_in f new) u (second same) (k.rest (first same) u (omega (arith, less, ne)))
  ];
}
  where
    first : IsSameSeat (flat_in f old) (flat_in f new) → IsSameSeat (flat_in f old) (flat_in f s)
    first same u = let a = k.above u in let b = further_never_falls f t s new further u in let e = same u in omega (arith, a, b, e)

    second : IsSameSeat (flat_in f old) (flat_in f new) → IsSameSeat (flat_in f s) (flat_in f new)
    second same u = let a = k.above u in let b = further_never_falls f t s new further u in let e = same u in omega (arith, a, b, e)

-- its list has grown, and the others are as they were
pub all_listed_goes_on : (f : FittedTrace) (t : ℕ) (old new : Standing) (lists lists' : List (List ℕ)) (list : List ℕ) → AreEventsListed f old lists
    → IsFurther f t old new → IsListedEvent f t (positions (flat_in f new) t) list → t < length lists → lists' ≡ set lists t list
    → AreEventsListed f new lists'
all_listed_goes_on f t old new lists lists' list are further is l made = subst (AreEventsListed f new) (sym made) grown
  where
    grown : AreEventsListed f new (set lists t list)
    grown u lu = elim (cases_eq u t) [
      | inl here ↦ subst (λ w. IsListedEvent f w (positions (flat_in f new) w) (slice_index_or (set lists t list) w [])) (sym here)
          (subst (IsListedEvent f t (positions (flat_in f new) t)) (sym (get_or-set_same lists t list [] l)) is)
      | inr ne ↦ subst (IsListedEvent f u (positions (flat_in f new) u)) (sym (get_or-set_other lists t u list [] ne))
          (subst (λ k. IsListedEvent f u k (slice_index_or lists u [])) (sym (further.others u ne))
          (are u (let n = length-set lists t list in omega (arith, n, lu))))
    ]

-- ---- a pass over all

-- a pass where some thread isn't at its end takes a step
pub pass_lowers_steps_left : (f : FittedTrace) (ends : List ℕ) (n : ℕ) (old new : Standing) → AreEnds f ends → IsWalkPass f ends n old new → length ends ≡ n
    → (t : ℕ) → positions (flat_in f old) t < cut_of ends t → steps_left ends (flat_in f new) < steps_left ends (flat_in f old)
pass_lowers_steps_left f ends n old new are k size t below = elim (cases_lt (steps_left ends (flat_in f new)) (steps_left ends (flat_in f old))) [
  | inl fewer ↦ fewer
  | inr stays ↦
      let same : IsSameSeat (flat_in f old) (flat_in f new) = λ u. unmoved stays u in
      let done = all_at_ends_if_all_rest f ends new are k.way (λ u l. k.rest same u (omega (arith, l, size))) t in
      let e = same t in
      absurd (omega (arith, done, e, below))
]
  where
    moved : (u : ℕ) → positions (flat_in f old) u < positions (flat_in f new) u
        → steps_left ends (flat_in f new) < steps_left ends (flat_in f old)
    moved u up =
        let within = k.way.below u in
        sum_below_less (length ends) u (λ w. cut_of ends w - positions (flat_in f new) w) (λ w. cut_of ends w - positions (flat_in f old) w)
        (stepping_thread_below ends u (positions (flat_in f old) u) (omega (arith, up, within)))
        (omega (arith, up, within)) (λ w. let a = k.above w in omega (arith, a))

    unmoved : steps_left ends (flat_in f old) ≤ steps_left ends (flat_in f new) → (u : ℕ)
        → positions (flat_in f new) u ≡ positions (flat_in f old) u
    unmoved stays u = elim (cases_lt (positions (flat_in f old) u) (positions (flat_in f new) u)) [
      | inl up ↦ let fewer = moved u up in absurd (omega (arith, fewer, stays))
      | inr down ↦ let a = k.above u in omega (arith, a, down)
    ]
