-- Where no breakpoint has conditions, all that hits stops.
use Rattle.std.proofs.Common.{◌≡◌, ◌<◌, ◌≤◌, ◌+◌, ℕ, zero, suc, Bool, true, false, List, [], ◌∷◌, ◌++◌, length, Option, Some, None, sym, subst, arith}
use Rattle.std.specs.Prelude.{slice_get, if◌then◌else◌}
use Rattle.std.specs.List.{AllByRecursion}
use Rattle.std.proofs.lemmas.Bool.Decides.{nat_tests}
use Rattle.ir_runs.specs.Run.{Step}
use Rattle.ir_command.specs.declared.command.Direction.TheVariants.{Forwards, Backwards}
use Rattle.ir_command.specs.declared.hit.Hit.{Hit}
use Rattle.ir_hits.specs.Hits.{Numbered, HitByNumber, IsFirstHit, IsLastHit}
use Rattle.ir_gdb.specs.Guards.{Guarded, is_guarded, guard_offset, has_guard, conditions_at}
use Rattle.ir_gdb.specs.Points.{word_points, watch_points, break_points, own_points, watches_if, upwards_of, downwards_of}
use Rattle.ir_gdb.specs.Conditions.{IsMetBy, StopsUpwards, StopsDownwards, IsFirstStop, IsLastStop}
use Rattle.ir_gdb.specs.Stub.{Stub, most_stub_points}

-- ---- numbers of points without conditions

abbrev pub IsPlain : Numbered → Type 0
IsPlain p = p.number < guard_offset

abbrev pub AreUnguarded : List Guarded → Type 0
AreUnguarded breaks = AllByRecursion (λ b. is_guarded b ≡ false) breaks

appended_are_plain : (xs ys : List Numbered) → AllByRecursion IsPlain xs → AllByRecursion IsPlain ys → AllByRecursion IsPlain (xs ++ ys)
appended_are_plain [] ys one two = two
appended_are_plain (x ∷ xs) ys one two = (one.0, appended_are_plain xs ys one.1 two)

words_are_plain : (t number n address : ℕ) → number < guard_offset → AllByRecursion IsPlain (word_points t number n address)
unfolding word_points
words_are_plain t number zero address low = tt
words_are_plain t number (suc n) address low = (low, words_are_plain t number n (address + 4) low)

breaks_are_plain : (t place : ℕ) (bs : List Guarded) → AreUnguarded bs → place + length bs < guard_offset → AllByRecursion IsPlain (break_points t place bs)
unfolding break_points
breaks_are_plain t place [] all low = tt
breaks_are_plain t place (b ∷ bs) all low = (
  subst (λ (g : Bool). (if g then place + guard_offset else place) < guard_offset) (sym all.0) (omega (arith, low)),
  breaks_are_plain t (place + 1) bs all.1 (omega (arith, low)),
)

own_are_plain : (number : ℕ) (ps : List Numbered) → number < guard_offset → AllByRecursion IsPlain (own_points number ps)
unfolding own_points
own_are_plain number [] low = tt
own_are_plain number (p ∷ ps) low = (low, own_are_plain number ps low)

plain_at : (points : List Numbered) (i : ℕ) (p : Numbered) → AllByRecursion IsPlain points → slice_get points i ≡ Some p → p.number < guard_offset
plain_at [] i p all at = absurd (cc at)
plain_at (x ∷ points) zero p all at = let same : x ≡ p = cc at in subst IsPlain same all.0
plain_at (x ∷ points) (suc i) p all at = plain_at points i p all.1 at

plain_has_no_guard : (n : ℕ) → n < guard_offset → has_guard n ≡ false
plain_has_no_guard n low = grind (arith, nat_tests, low)

-- ---- upwards, without watches

upwards_are_plain : (s : Stub) (t : ℕ) → s.watches ≡ [] → AreUnguarded s.breaks → length s.breaks + length s.watches ≤ most_stub_points
    → AllByRecursion IsPlain (upwards_of s t true)
unfolding watch_points
upwards_are_plain s t none free few =
    subst (λ ws. AllByRecursion IsPlain (watch_points t 0 ws ++ break_points t (length ws) s.breaks ++ own_points (length ws + length s.breaks) s.desk.points)) (sym none)
    (appended_are_plain (break_points t 0 s.breaks) (own_points (0 + length s.breaks) s.desk.points)
    (breaks_are_plain t 0 s.breaks free (omega (arith, few))) (own_are_plain (0 + length s.breaks) s.desk.points (omega (arith, few))))

hit_is_plain : (s : Stub) (run : List Step) (t k n : ℕ) (points : List Numbered) → AllByRecursion IsPlain points
    → HitByNumber s.desk.fitted run points t k n → has_guard n ≡ false
hit_is_plain s run t k n points all (i, p, at, number, hits) = plain_has_no_guard n (subst (λ (m : ℕ). m < guard_offset) number (plain_at points i p all at))

-- ---- downwards, without watches

downwards_are_plain : (s : Stub) (t : ℕ) → s.watches ≡ [] → AreUnguarded s.breaks → length s.breaks + length s.watches ≤ most_stub_points
    → AllByRecursion IsPlain (downwards_of s t true)
unfolding watch_points
downwards_are_plain s t none free few =
    subst (λ ws. AllByRecursion IsPlain (break_points t 0 s.breaks ++ watch_points t (length s.breaks) ws ++ own_points (length s.breaks + length ws) s.desk.points))
    (sym none)
    (appended_are_plain (break_points t 0 s.breaks ++ []) (own_points (length s.breaks + 0) s.desk.points)
    (appended_are_plain (break_points t 0 s.breaks) [] (breaks_are_plain t 0 s.breaks free (omega (arith, few))) tt)
    (own_are_plain (length s.breaks + 0) s.desk.points (omega (arith, few))))

-- what hits stops
module _ (run : List Step) (s : Stub) (t : ℕ) (none : s.watches ≡ []) (free : AreUnguarded s.breaks)
    (few : length s.breaks + length s.watches ≤ most_stub_points) where
  stops_upwards : (k n : ℕ) → HitByNumber s.desk.fitted run (upwards_of s t true) t k n → StopsUpwards run s t true k n
  stops_upwards k n hits = (
    hits,
    subst (λ (b : Bool). IsMetBy b run s Forwards t k (conditions_at s.breaks (length (watches_if s true)) n))
        (sym (hit_is_plain s run t k n (upwards_of s t true) (upwards_are_plain s t none free few) hits)) tt,
  )

  pub first_stop_is_first_hit : (p : ℕ) (hit : Option Hit) → IsFirstStop (StopsUpwards run s t true) p hit → IsFirstHit s.desk.fitted run (upwards_of s t true) t p hit
  first_stop_is_first_hit p None finds = λ j n up hits. finds j n up (stops_upwards j n hits)
  first_stop_is_first_hit p (Some h) finds = (
    finds.0,
    λ j n low high hits. finds.1 j n low high (stops_upwards j n hits),
    record { hits = finds.2.stops.0; lowest = λ m hits. finds.2.lowest m (stops_upwards h.position m hits) },
  )

  stops_downwards : (k n : ℕ) → HitByNumber s.desk.fitted run (downwards_of s t true) t k n → StopsDownwards run s t true k n
  stops_downwards k n hits = (
    hits,
    subst (λ (b : Bool). IsMetBy b run s Backwards t k (conditions_at s.breaks 0 n))
        (sym (hit_is_plain s run t k n (downwards_of s t true) (downwards_are_plain s t none free few) hits)) tt,
  )

  pub last_stop_is_last_hit : (p : ℕ) (hit : Option Hit) → IsLastStop (StopsDownwards run s t true) p hit → IsLastHit s.desk.fitted run (downwards_of s t true) t p hit
  last_stop_is_last_hit p None finds = λ j n low high hits. finds j n low high (stops_downwards j n hits)
  last_stop_is_last_hit p (Some h) finds = (
    finds.0,
    λ j n low high hits. finds.1 j n low high (stops_downwards j n hits),
    record { hits = finds.2.stops.0; lowest = λ m hits. finds.2.lowest m (stops_downwards h.position m hits) },
  )
