-- Stops that are found from hit to hit.
use Rattle.std.proofs.Common.{◌≡◌, ◌<◌, ◌≤◌, ◌+◌, ◌∙◌, ℕ, suc, Bool, true, false, true≢false, List, length, Option, Some, None, inl, inr, refl, sym, ap, subst, arith}
use Rattle.std.specs.Prelude.{not, IfSome}
use Rattle.std.proofs.lemmas.Bool.{cases_lt}
use Rattle.ir_runs.specs.Run.{Step, IsLeast}
use Rattle.ir_fit.specs.Fit.{FittedTrace, HasRun}
use Rattle.ir_cut.specs.Positions.{EachRun, machine_of, start_of, cut_of}
use Rattle.ir_command.specs.declared.command.Direction.{Direction}
use Rattle.ir_command.specs.declared.command.Direction.TheVariants.{Forwards, Backwards}
use Rattle.ir_command.specs.declared.hit.Hit.{Hit}
use Rattle.ir_hits.specs.Hits.{Numbered, NoneWithin, IsLowest, IsFirstHit}
use Rattle.ir_hits.specs.Searching.{IsNextHit}
use Rattle.ir_timeline.specs.Hand.{IsCutOf}
use Rattle.ir_debug.specs.Machine.{StopsAt}
use Rattle.ir_gdb.specs.Guards.{has_guard, guard_offset, conditions_at}
use Rattle.ir_gdb.specs.Points.{watches_if, upwards_of}
use Rattle.ir_gdb.specs.Stub.{Stub, stub_spoken, most_stub_points}
use Rattle.ir_gdb.specs.Stops.{position_of}
use Rattle.ir_gdb.specs.Conditions.{IsMetBy, StopsUpwards, IsLowestThat, IsStopAt, NoneStopsWithin, IsFirstStop, IsNextStop, IsLastStop}
use Rattle.ir_gdb.specs.Seeking.{IsLastStopFrom}
use Rattle.ir_gdb.specs.Conditions.{is_plain_hit, first_met_at}
use Rattle.ir_gdb.proofs.Farther.{own_cut_is_least, least_from_least}
use Rattle.ir_gdb.proofs.Deciding.{points_in, before_breaks, StopsIn, none_met_is_no_stop, first_met_is_stop}

-- ---- hits that are between positions

pub next_hit_is_between : (f : FittedTrace) (points : List Numbered) (t p to : ℕ) (hit : Option Hit) → HasRun f
    → EachRun f (λ run. IsNextHit f run points t p to hit) → IfSome hit (λ h. (p < h.position) × (h.position ≤ to))
next_hit_is_between f points t p to None has finds = tt
next_hit_is_between f points t p to (Some h) has finds = let found = finds has.run has.whole in (found.0, found.1)

pub hit_is_between : (p to : ℕ) (hit : Option Hit) (h : Hit) → hit ≡ Some h → IfSome hit (λ k. (p < k.position) × (k.position ≤ to))
    → (p < h.position) × (h.position ≤ to)
hit_is_between p to hit h is between = subst (λ (x : Option Hit). IfSome x (λ k. (p < k.position) × (k.position ≤ to))) is between

-- ---- a stub that has spoken

pub upwards_of_spoken : (s u : Stub) (t : ℕ) (w : Bool) → u ≡ stub_spoken s → upwards_of u t w ≡ upwards_of s t w
upwards_of_spoken s u t w same = ap (λ (x : Stub). upwards_of x t w) same ∙ by w
  where
    by : (b : Bool) → upwards_of (stub_spoken s) t b ≡ upwards_of s t b
    by true = refl
    by false = refl

met_from_spoken : (run : List Step) (s : Stub) (d : Direction) (t k : ℕ) (conditions : List (List ℕ)) (guard : Bool)
    → IsMetBy guard run (stub_spoken s) d t k conditions → IsMetBy guard run s d t k conditions
met_from_spoken run s d t k conditions true met = met
met_from_spoken run s d t k conditions false met = tt

met_to_spoken : (run : List Step) (s : Stub) (d : Direction) (t k : ℕ) (conditions : List (List ℕ)) (guard : Bool) → IsMetBy guard run s d t k conditions
    → IsMetBy guard run (stub_spoken s) d t k conditions
met_to_spoken run s d t k conditions true met = met
met_to_spoken run s d t k conditions false met = tt

pub stop_from_spoken : (run : List Step) (s : Stub) (d : Direction) (t : ℕ) (w : Bool) (k n : ℕ) → StopsIn d run (stub_spoken s) t w k n → StopsIn d run s t w k n
stop_from_spoken run s Forwards t true k n stops =
    (stops.0, met_from_spoken run s Forwards t k (conditions_at s.breaks (length (watches_if s true)) n) (has_guard n) stops.1)
stop_from_spoken run s Forwards t false k n stops =
    (stops.0, met_from_spoken run s Forwards t k (conditions_at s.breaks (length (watches_if s false)) n) (has_guard n) stops.1)
stop_from_spoken run s Backwards t true k n stops = (stops.0, met_from_spoken run s Backwards t k (conditions_at s.breaks 0 n) (has_guard n) stops.1)
stop_from_spoken run s Backwards t false k n stops = (stops.0, met_from_spoken run s Backwards t k (conditions_at s.breaks 0 n) (has_guard n) stops.1)

pub stop_to_spoken : (run : List Step) (s : Stub) (d : Direction) (t : ℕ) (w : Bool) (k n : ℕ) → StopsIn d run s t w k n → StopsIn d run (stub_spoken s) t w k n
stop_to_spoken run s Forwards t true k n stops =
    (stops.0, met_to_spoken run s Forwards t k (conditions_at s.breaks (length (watches_if s true)) n) (has_guard n) stops.1)
stop_to_spoken run s Forwards t false k n stops =
    (stops.0, met_to_spoken run s Forwards t k (conditions_at s.breaks (length (watches_if s false)) n) (has_guard n) stops.1)
stop_to_spoken run s Backwards t true k n stops = (stops.0, met_to_spoken run s Backwards t k (conditions_at s.breaks 0 n) (has_guard n) stops.1)
stop_to_spoken run s Backwards t false k n stops = (stops.0, met_to_spoken run s Backwards t k (conditions_at s.breaks 0 n) (has_guard n) stops.1)

-- where the same stop, the same is first
module _ (P Q : ℕ → ℕ → Type 0) (there : (k n : ℕ) → P k n → Q k n) (back : (k n : ℕ) → Q k n → P k n) where
  lowest_of_same_stops : (k n : ℕ) → IsLowestThat P k n → IsLowestThat Q k n
  lowest_of_same_stops k n is = record { stops = there k n is.stops; lowest = λ m stops. is.lowest m (back k m stops) }

  stop_of_same_stops : (k : ℕ) (stop : Option Hit) → IsStopAt P k stop → IsStopAt Q k stop
  stop_of_same_stops k None is = λ n stops. is n (back k n stops)
  stop_of_same_stops k (Some h) is = (is.0, lowest_of_same_stops k h.number is.1)

  next_of_same_stops : (p to : ℕ) (stop : Option Hit) → IsNextStop P p to stop → IsNextStop Q p to stop
  next_of_same_stops p to None is = λ j n low high stops. is j n low high (back j n stops)
  next_of_same_stops p to (Some h) is =
      (is.0, is.1, λ j n low high stops. is.2 j n low high (back j n stops), lowest_of_same_stops h.position h.number is.3)

  pub last_of_same_stops : (p : ℕ) (stop : Option Hit) → IsLastStop P p stop → IsLastStop Q p stop
  last_of_same_stops p None is = λ j n low high stops. is j n low high (back j n stops)
  last_of_same_stops p (Some h) is =
      (is.0, λ j n low high stops. is.1 j n low high (back j n stops), lowest_of_same_stops h.position h.number is.2)

  pub last_from_of_same_stops : (from to : ℕ) (stop : Option Hit) → IsLastStopFrom P from to stop → IsLastStopFrom Q from to stop
  last_from_of_same_stops from to None is = λ j n low high stops. is j n low high (back j n stops)
  last_from_of_same_stops from to (Some h) is =
      (is.0, is.1, λ j n low high stops. is.2 j n low high (back j n stops), lowest_of_same_stops h.position h.number is.3)

  first_of_same_stops : (p : ℕ) (stop : Option Hit) → IsFirstStop P p stop → IsFirstStop Q p stop
  first_of_same_stops p None is = λ j n up stops. is j n up (back j n stops)
  first_of_same_stops p (Some h) is =
      (is.0, λ j n low high stops. is.1 j n low high (back j n stops), lowest_of_same_stops h.position h.number is.2)

pub first_upward_stop_from_spoken : (run : List Step) (s : Stub) (t : ℕ) (w : Bool) (stop : Option Hit)
    → IsFirstStop (StopsUpwards run (stub_spoken s) t w) (position_of s t) stop → IsFirstStop (StopsUpwards run s t w) (position_of s t) stop
first_upward_stop_from_spoken run s t w stop is =
    first_of_same_stops (StopsUpwards run (stub_spoken s) t w) (StopsUpwards run s t w) (stop_from_spoken run s Forwards t w) (stop_to_spoken run s Forwards t w)
    (position_of s t) stop is

stop_at_from_spoken : (run : List Step) (s : Stub) (d : Direction) (t : ℕ) (w : Bool) (k : ℕ) (stop : Option Hit)
    → IsStopAt (StopsIn d run (stub_spoken s) t w) k stop → IsStopAt (StopsIn d run s t w) k stop
stop_at_from_spoken run s d t w k stop is =
    stop_of_same_stops (StopsIn d run (stub_spoken s) t w) (StopsIn d run s t w) (stop_from_spoken run s d t w) (stop_to_spoken run s d t w) k stop is

pub stop_at_of_spoken : (s u : Stub) (d : Direction) (t : ℕ) (w : Bool) (k : ℕ) (stop : Option Hit) → u ≡ stub_spoken s
    → EachRun u.desk.fitted (λ run. IsStopAt (StopsIn d run u t w) k stop) → EachRun s.desk.fitted (λ run. IsStopAt (StopsIn d run s t w) k stop)
stop_at_of_spoken s u d t w k stop same is run whole =
    stop_at_from_spoken run s d t w k stop (subst (λ (x : Stub). EachRun x.desk.fitted (λ r. IsStopAt (StopsIn d r x t w) k stop)) same is run whole)

next_stop_from_spoken : (run : List Step) (s : Stub) (t : ℕ) (w : Bool) (to : ℕ) (stop : Option Hit)
    → IsNextStop (StopsUpwards run (stub_spoken s) t w) (position_of s t) to stop → IsNextStop (StopsUpwards run s t w) (position_of s t) to stop
next_stop_from_spoken run s t w to stop is =
    next_of_same_stops (StopsUpwards run (stub_spoken s) t w) (StopsUpwards run s t w) (stop_from_spoken run s Forwards t w) (stop_to_spoken run s Forwards t w)
    (position_of s t) to stop is

pub next_stop_of_spoken : (s u : Stub) (t : ℕ) (w : Bool) (to : ℕ) (stop : Option Hit) → u ≡ stub_spoken s
    → EachRun u.desk.fitted (λ run. IsNextStop (StopsUpwards run u t w) (position_of u t) to stop)
    → EachRun s.desk.fitted (λ run. IsNextStop (StopsUpwards run s t w) (position_of s t) to stop)
next_stop_of_spoken s u t w to stop same is run whole = next_stop_from_spoken run s t w to stop
    (subst (λ (x : Stub). EachRun x.desk.fitted (λ r. IsNextStop (StopsUpwards r x t w) (position_of x t) to stop)) same is run whole)

pub next_hit_of_spoken : (s u : Stub) (t p to : ℕ) (w : Bool) (points : List Numbered) (hit : Option Hit) → u ≡ stub_spoken s → points ≡ upwards_of s t w
    → EachRun u.desk.fitted (λ run. IsNextHit u.desk.fitted run points t p to hit)
    → EachRun s.desk.fitted (λ run. IsNextHit s.desk.fitted run (upwards_of s t w) t p to hit)
next_hit_of_spoken s u t p to w points hit same are finds run whole =
    subst (λ (ps : List Numbered). IsNextHit s.desk.fitted run ps t p to hit) are
    (subst (λ (x : Stub). EachRun x.desk.fitted (λ r. IsNextHit x.desk.fitted r points t p to hit)) same finds run whole)

-- ---- what is asked of a decision

pub lowest_hit_of_next : (s u : Stub) (t p to : ℕ) (w : Bool) (hit : Option Hit) (h : Hit) → u ≡ stub_spoken s → hit ≡ Some h
    → EachRun s.desk.fitted (λ run. IsNextHit s.desk.fitted run (upwards_of s t w) t p to hit)
    → EachRun u.desk.fitted (λ run. IsLowest u.desk.fitted run (upwards_of u t w) t h.position h.number)
lowest_hit_of_next s u t p to w hit h same is finds =
    let one : EachRun s.desk.fitted (λ run. IsLowest s.desk.fitted run (upwards_of s t w) t h.position h.number) =
    λ run whole. (subst (λ (x : Option Hit). IsNextHit s.desk.fitted run (upwards_of s t w) t p to x) is (finds run whole)).3 in
    let other : EachRun u.desk.fitted (λ run. IsLowest u.desk.fitted run (upwards_of s t w) t h.position h.number) =
    subst (λ (x : Stub). EachRun x.desk.fitted (λ run. IsLowest x.desk.fitted run (upwards_of s t w) t h.position h.number)) (sym same) one in
    subst (λ (ps : List Numbered). EachRun u.desk.fitted (λ run. IsLowest u.desk.fitted run ps t h.position h.number)) (sym (upwards_of_spoken s u t w same)) other

pub comes_at_start : (s u : Stub) (t k : ℕ) (at : List ℕ) → u ≡ stub_spoken s → at ≡ u.desk.at → k ≡ position_of u t → IsCutOf u.desk.fitted at
    → EachRun s.desk.fitted (λ run. StopsAt run s.desk.fitted s.desk.at t Forwards k at)
comes_at_start s u t k at same here own cut run whole =
    let is : at ≡ s.desk.at = here ∙ ap (λ (x : Stub). x.desk.at) same in
    let there : cut_of at t ≡ k = ap (λ (x : List ℕ). cut_of x t) here ∙ sym own in
    let held = subst (λ (x : Stub). IsCutOf x.desk.fitted at) same cut in
    let both = held.1 run whole in (
      held.0,
      subst (λ (x : List ℕ). IsLeast (machine_of s.desk.fitted) (start_of s.desk.fitted) run (cut_of x) t k (cut_of at)) is
          (subst (λ (n : ℕ). IsLeast (machine_of s.desk.fitted) (start_of s.desk.fitted) run (cut_of at) t n (cut_of at)) there
          (own_cut_is_least (machine_of s.desk.fitted) (start_of s.desk.fitted) run (cut_of at) t both.0 both.1)),
    )

pub comes_onward : (s u : Stub) (t j k : ℕ) (at cut : List ℕ) → u ≡ stub_spoken s → j ≤ k
    → EachRun s.desk.fitted (λ run. StopsAt run s.desk.fitted s.desk.at t Forwards j at)
    → EachRun u.desk.fitted (λ run. StopsAt run u.desk.fitted at t Forwards k cut)
    → EachRun s.desk.fitted (λ run. StopsAt run s.desk.fitted s.desk.at t Forwards k cut)
comes_onward s u t j k at cut same low first next run whole =
    let one = first run whole in
    let two = subst (λ (x : Stub). EachRun x.desk.fitted (λ r. StopsAt r x.desk.fitted at t Forwards k cut)) same next run whole in
    (two.0, least_from_least (machine_of s.desk.fitted) (start_of s.desk.fitted) run (cut_of s.desk.at) (cut_of at) (cut_of cut) t j k low one.1 two.1)

-- ---- the loop

none_up_to_stop : (P : ℕ → ℕ → Type 0) (p q k : ℕ) → NoneStopsWithin P (suc p) (suc q) → NoneStopsWithin P (suc q) k → NoneStopsWithin P (suc p) k
none_up_to_stop P p q k before after j n low high stops = elim (cases_lt q j) [
  | inl less ↦ after j n less high stops
  | inr from ↦ before j n low (omega (arith, from)) stops
]

none_up_to_and_at : (P : ℕ → ℕ → Type 0) (p k : ℕ) → NoneStopsWithin P (suc p) k → ((n : ℕ) → P k n → ⊥) → NoneStopsWithin P (suc p) (suc k)
none_up_to_and_at P p k before none j n low high stops = elim (cases_lt j k) [
  | inl less ↦ before j n low less stops
  | inr from ↦ (let at : j ≡ k = omega (arith, from, high) in none n (subst (λ (i : ℕ). P i n) at stops))
]

no_hit_is_no_stop : (run : List Step) (s : Stub) (t : ℕ) (w : Bool) (a b : ℕ) → NoneWithin s.desk.fitted run (upwards_of s t w) t a b
    → NoneStopsWithin (StopsUpwards run s t w) a b
no_hit_is_no_stop run s t w a b none j n low high stops = none j n low high stops.0

-- nothing stops at the thread's own position
pub none_stops_at_start : (s : Stub) (t k : ℕ) (w : Bool) → k ≡ position_of s t
    → EachRun s.desk.fitted (λ run. NoneStopsWithin (StopsUpwards run s t w) (suc (position_of s t)) (suc k))
none_stops_at_start s t k w is run whole j n low high = absurd (omega (arith, low, high, is))

-- no hit up to the end
pub next_stop_if_no_hit : (s : Stub) (t q to : ℕ) (w : Bool) (hit : Option Hit) → hit ≡ None
    → EachRun s.desk.fitted (λ run. NoneStopsWithin (StopsUpwards run s t w) (suc (position_of s t)) (suc q))
    → EachRun s.desk.fitted (λ run. IsNextHit s.desk.fitted run (upwards_of s t w) t q to hit)
    → EachRun s.desk.fitted (λ run. IsNextStop (StopsUpwards run s t w) (position_of s t) to None)
next_stop_if_no_hit s t q to w hit is none finds run whole =
    let found = subst (λ (x : Option Hit). IsNextHit s.desk.fitted run (upwards_of s t w) t q to x) is (finds run whole) in
    none_up_to_stop (StopsUpwards run s t w) (position_of s t) q (suc to) (none run whole) (no_hit_is_no_stop run s t w (suc q) (suc to) found)

-- a hit that is no stop
pub none_stops_up_to_hit : (s : Stub) (t q to : ℕ) (w : Bool) (hit stop : Option Hit) (h : Hit) → hit ≡ Some h → stop ≡ None
    → EachRun s.desk.fitted (λ run. NoneStopsWithin (StopsUpwards run s t w) (suc (position_of s t)) (suc q))
    → EachRun s.desk.fitted (λ run. IsNextHit s.desk.fitted run (upwards_of s t w) t q to hit)
    → EachRun s.desk.fitted (λ run. IsStopAt (StopsUpwards run s t w) h.position stop)
    → EachRun s.desk.fitted (λ run. NoneStopsWithin (StopsUpwards run s t w) (suc (position_of s t)) (suc h.position))
none_stops_up_to_hit s t q to w hit stop h is undecided none finds decided run whole =
    let found = subst (λ (x : Option Hit). IsNextHit s.desk.fitted run (upwards_of s t w) t q to x) is (finds run whole) in
    let here = subst (λ (x : Option Hit). IsStopAt (StopsUpwards run s t w) h.position x) undecided (decided run whole) in
    none_up_to_and_at (StopsUpwards run s t w) (position_of s t) h.position
    (none_up_to_stop (StopsUpwards run s t w) (position_of s t) q h.position (none run whole) (no_hit_is_no_stop run s t w (suc q) h.position found.2)) here

next_stop_by_decision : (P : ℕ → ℕ → Type 0) (p to k : ℕ) (h : Hit) → p < k → k ≤ to → NoneStopsWithin P (suc p) k → IsStopAt P k (Some h) → IsNextStop P p to (Some h)
next_stop_by_decision P p to k h above within none is =
    let at : k ≡ h.position = sym is.0 in (
      subst (λ (i : ℕ). p < i) at above,
      subst (λ (i : ℕ). i ≤ to) at within,
      subst (λ (i : ℕ). NoneStopsWithin P (suc p) i) at none,
      subst (λ (i : ℕ). IsLowestThat P i h.number) at is.1,
    )

-- a hit that is a stop
pub next_stop_at_hit : (s : Stub) (t q to : ℕ) (w : Bool) (hit decided : Option Hit) (h stop : Hit) → hit ≡ Some h → decided ≡ Some stop → position_of s t ≤ q
    → EachRun s.desk.fitted (λ run. NoneStopsWithin (StopsUpwards run s t w) (suc (position_of s t)) (suc q))
    → EachRun s.desk.fitted (λ run. IsNextHit s.desk.fitted run (upwards_of s t w) t q to hit)
    → EachRun s.desk.fitted (λ run. IsStopAt (StopsUpwards run s t w) h.position decided)
    → EachRun s.desk.fitted (λ run. IsNextStop (StopsUpwards run s t w) (position_of s t) to (Some stop))
next_stop_at_hit s t q to w hit decided h stop is some from none finds decides run whole =
    let found = subst (λ (x : Option Hit). IsNextHit s.desk.fitted run (upwards_of s t w) t q to x) is (finds run whole) in
    let up = found.0 in
    next_stop_by_decision (StopsUpwards run s t w) (position_of s t) to h.position stop (omega (arith, from, up)) found.1
    (none_up_to_stop (StopsUpwards run s t w) (position_of s t) q h.position (none run whole) (no_hit_is_no_stop run s t w (suc q) h.position found.2))
    (subst (λ (x : Option Hit). IsStopAt (StopsUpwards run s t w) h.position x) some (decides run whole))

-- the end of the window
pub next_stop_at_end : (s : Stub) (t q to : ℕ) (w : Bool) → to ≤ q
    → EachRun s.desk.fitted (λ run. NoneStopsWithin (StopsUpwards run s t w) (suc (position_of s t)) (suc q))
    → EachRun s.desk.fitted (λ run. IsNextStop (StopsUpwards run s t w) (position_of s t) to None)
next_stop_at_end s t q to w past none run whole j n low high stops = none run whole j n low (omega (arith, high, past)) stops

-- ---- decisions

pub plain_number_has_no_guard : (h : Hit) → is_plain_hit (Some h) ≡ true → has_guard h.number ≡ false
plain_number_has_no_guard h plain = by (has_guard h.number) refl
  where
    by : (b : Bool) → has_guard h.number ≡ b → has_guard h.number ≡ false
    by true is = absurd (true≢false (sym plain ∙ ap not is))
    by false is = is

pub plain_lowest_stops : (run : List Step) (s : Stub) (d : Direction) (t : ℕ) (w : Bool) (h : Hit) → is_plain_hit (Some h) ≡ true
    → IsLowest s.desk.fitted run (points_in d s t w) t h.position h.number → IsLowestThat (StopsIn d run s t w) h.position h.number
plain_lowest_stops run s d t w h plain lowest = record {
  stops = (
    lowest.hits,
    subst (λ (b : Bool). IsMetBy b run s d t h.position (conditions_at s.breaks (before_breaks d s w) h.number)) (sym (plain_number_has_no_guard h plain)) tt,
  );
  lowest = λ m stops. lowest.lowest m stops.0;
}

pub plain_hit_is_stop : (s : Stub) (d : Direction) (t : ℕ) (w : Bool) (h : Hit) → is_plain_hit (Some h) ≡ true
    → EachRun s.desk.fitted (λ run. IsLowest s.desk.fitted run (points_in d s t w) t h.position h.number)
    → EachRun s.desk.fitted (λ run. IsStopAt (StopsIn d run s t w) h.position (Some h))
plain_hit_is_stop s d t w h plain lowest run whole = (refl, plain_lowest_stops run s d t w h plain (lowest run whole))

guard_of_other : (h : Hit) → is_plain_hit (Some h) ≡ false → has_guard h.number ≡ true
guard_of_other h other = by (has_guard h.number) refl
  where
    by : (b : Bool) → has_guard h.number ≡ b → has_guard h.number ≡ true
    by true is = is
    by false is = absurd (true≢false (sym (ap not is) ∙ other))

pub undecided_hit_is_no_stop : (s : Stub) (d : Direction) (t : ℕ) (w : Bool) (h : Hit) (cut : List ℕ) (place : Option ℕ)
    → length s.breaks + length (watches_if s w) ≤ most_stub_points → cut_of cut t ≡ h.position → is_plain_hit (Some h) ≡ false → place ≡ None
    → EachRun s.desk.fitted (λ run. StopsAt run s.desk.fitted s.desk.at t d h.position cut)
    → EachRun s.desk.fitted (λ run. IsLowest s.desk.fitted run (points_in d s t w) t h.position h.number)
    → EachRun s.desk.fitted (λ run. place ≡ first_met_at run s cut t)
    → EachRun s.desk.fitted (λ run. IsStopAt (StopsIn d run s t w) h.position None)
undecided_hit_is_no_stop s d t w h cut place few there other none comes lowest met run whole = none_met_is_no_stop run s d t w h.position cut
    (comes run whole) there few h.number (lowest run whole) (guard_of_other h other) (sym (met run whole) ∙ none)

pub decided_hit_is_stop : (s : Stub) (d : Direction) (t : ℕ) (w : Bool) (h stop : Hit) (cut : List ℕ) (place : Option ℕ) (i : ℕ)
    → length s.breaks + length (watches_if s w) ≤ most_stub_points → cut_of cut t ≡ h.position → is_plain_hit (Some h) ≡ false → place ≡ Some i
    → stop ≡ record { position = h.position; number = before_breaks d s w + i + guard_offset }
    → EachRun s.desk.fitted (λ run. StopsAt run s.desk.fitted s.desk.at t d h.position cut)
    → EachRun s.desk.fitted (λ run. IsLowest s.desk.fitted run (points_in d s t w) t h.position h.number)
    → EachRun s.desk.fitted (λ run. place ≡ first_met_at run s cut t)
    → EachRun s.desk.fitted (λ run. IsStopAt (StopsIn d run s t w) h.position (Some stop))
decided_hit_is_stop s d t w h stop cut place i few there other some is comes lowest met run whole = (
  ap (λ (x : Hit). x.position) is,
  subst (λ (n : ℕ). IsLowestThat (StopsIn d run s t w) h.position n) (sym (ap (λ (x : Hit). x.number) is))
      (first_met_is_stop run s d t w h.position cut (comes run whole) there few h.number (lowest run whole) (guard_of_other h other) i (sym (met run whole) ∙ some)),
)

-- ---- the first of all

pub first_stop_if_plain : (s u : Stub) (t : ℕ) (w : Bool) (points : List Numbered) (hit : Option Hit) → u ≡ stub_spoken s → points ≡ upwards_of u t w
    → is_plain_hit hit ≡ true → EachRun u.desk.fitted (λ run. IsFirstHit u.desk.fitted run points t (position_of u t) hit)
    → EachRun s.desk.fitted (λ run. IsFirstStop (StopsUpwards run s t w) (position_of s t) hit)
first_stop_if_plain s u t w points hit same are plain finds run whole =
    by hit plain (subst (λ (ps : List Numbered). IsFirstHit s.desk.fitted run ps t (position_of s t) hit) (are ∙ upwards_of_spoken s u t w same)
    (subst (λ (x : Stub). EachRun x.desk.fitted (λ r. IsFirstHit x.desk.fitted r points t (position_of x t) hit)) same finds run whole))
  where
    by : (hit : Option Hit) → is_plain_hit hit ≡ true → IsFirstHit s.desk.fitted run (upwards_of s t w) t (position_of s t) hit
        → IsFirstStop (StopsUpwards run s t w) (position_of s t) hit
    by None plain found = λ j n up stops. found j n up stops.0
    by (Some h) plain found = (found.0, no_hit_is_no_stop run s t w (suc (position_of s t)) h.position found.1, plain_lowest_stops run s Forwards t w h plain found.2)
