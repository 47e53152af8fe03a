-- Stops that are found downwards, from stretch to stretch.
use Rattle.std.proofs.Common.{◌≡◌, ◌<◌, ◌≤◌, ◌∙◌, ℕ, zero, suc, Bool, true, false, List, Option, Some, None, inl, inr, refl, sym, ap, subst, arith}
use Rattle.std.specs.Prelude.{IfSome}
use Rattle.std.proofs.lemmas.Bool.{cases_lt}
use Rattle.ir_runs.specs.Run.{Step}
use Rattle.ir_fit.specs.Fit.{FittedTrace, HasRun}
use Rattle.ir_cut.specs.Positions.{EachRun, machine_of, start_of, cut_of, thread_at, threads_of, last_of}
use Rattle.ir_command.specs.declared.command.Direction.TheVariants.{Backwards}
use Rattle.ir_command.specs.declared.hit.Hit.{Hit}
use Rattle.ir_hits.specs.Hits.{Numbered, NoneWithin, IsLowest, IsLastHit}
use Rattle.ir_hits.specs.Searching.{IsNextHit}
use Rattle.ir_debug.specs.Machine.{StopsAt}
use Rattle.ir_gdb.specs.Points.{downwards_of}
use Rattle.ir_gdb.specs.Seeking.{IsLastStopFrom, latest, lowest_start}
use Rattle.ir_gdb.specs.Stub.{Stub, stub_spoken}
use Rattle.ir_gdb.specs.Stops.{position_of}
use Rattle.ir_gdb.specs.Conditions.{StopsDownwards, IsLowestThat, IsStopAt, NoneStopsWithin, IsLastStop, is_plain_hit}
use Rattle.ir_gdb.proofs.Farther.{greatest_from_greatest}
use Rattle.ir_gdb.proofs.Starts.{no_start_is_no_hit, start_is_lowest}
use Rattle.ir_gdb.proofs.Nexts.{stop_from_spoken, stop_to_spoken, last_of_same_stops, last_from_of_same_stops, plain_lowest_stops}

-- ---- a stub that has spoken

pub downwards_of_spoken : (s u : Stub) (t : ℕ) (w : Bool) → u ≡ stub_spoken s → downwards_of u t w ≡ downwards_of s t w
downwards_of_spoken s u t w same = ap (λ (x : Stub). downwards_of x t w) same ∙ by w
  where
    by : (b : Bool) → downwards_of (stub_spoken s) t b ≡ downwards_of s t b
    by true = refl
    by false = refl

pub last_stop_of_spoken : (s u : Stub) (t : ℕ) (w : Bool) (stop : Option Hit) → u ≡ stub_spoken s
    → EachRun u.desk.fitted (λ run. IsLastStop (StopsDownwards run u t w) (position_of u t) stop)
    → EachRun s.desk.fitted (λ run. IsLastStop (StopsDownwards run s t w) (position_of s t) stop)
last_stop_of_spoken s u t w stop same is run whole =
    last_of_same_stops (StopsDownwards run (stub_spoken s) t w) (StopsDownwards run s t w) (stop_from_spoken run s Backwards t w) (stop_to_spoken run s Backwards t w)
    (position_of s t) stop (subst (λ (x : Stub). EachRun x.desk.fitted (λ r. IsLastStop (StopsDownwards r x t w) (position_of x t) stop)) same is run whole)

last_from_of_spoken : (s u : Stub) (t : ℕ) (w : Bool) (from to : ℕ) (stop : Option Hit) → u ≡ stub_spoken s
    → EachRun u.desk.fitted (λ run. IsLastStopFrom (StopsDownwards run u t w) from to stop)
    → EachRun s.desk.fitted (λ run. IsLastStopFrom (StopsDownwards run s t w) from to stop)
last_from_of_spoken s u t w from to stop same is run whole =
    last_from_of_same_stops (StopsDownwards run (stub_spoken s) t w) (StopsDownwards run s t w) (stop_from_spoken run s Backwards t w)
    (stop_to_spoken run s Backwards t w) from to stop
    (subst (λ (x : Stub). EachRun x.desk.fitted (λ r. IsLastStopFrom (StopsDownwards r x t w) from to stop)) same is run whole)

pub none_stops_to_spoken : (s u : Stub) (t : ℕ) (w : Bool) (from : ℕ) → u ≡ stub_spoken s
    → EachRun s.desk.fitted (λ run. NoneStopsWithin (StopsDownwards run s t w) from (position_of s t))
    → EachRun u.desk.fitted (λ run. NoneStopsWithin (StopsDownwards run u t w) from (position_of u t))
none_stops_to_spoken s u t w from same none =
    subst (λ (x : Stub). EachRun x.desk.fitted (λ run. NoneStopsWithin (StopsDownwards run x t w) from (position_of x t))) (sym same)
    (λ run whole j n low high stops. none run whole j n low high (stop_from_spoken run s Backwards t w j n stops))

-- the hits of the same points
pub next_hit_by_points : (s u : Stub) (t p to : ℕ) (points qs : List Numbered) (hit : Option Hit) → u ≡ stub_spoken s → points ≡ qs
    → EachRun u.desk.fitted (λ run. IsNextHit u.desk.fitted run points t p to hit)
    → EachRun s.desk.fitted (λ run. IsNextHit s.desk.fitted run qs t p to hit)
next_hit_by_points s u t p to points qs hit same are finds run whole =
    subst (λ (ps : List Numbered). IsNextHit s.desk.fitted run ps t p to hit) are
    (subst (λ (x : Stub). EachRun x.desk.fitted (λ r. IsNextHit x.desk.fitted r points t p to hit)) same finds run whole)

pub last_hit_by_points : (s u : Stub) (t : ℕ) (points qs : List Numbered) (hit : Option Hit) → u ≡ stub_spoken s → points ≡ qs
    → EachRun u.desk.fitted (λ run. IsLastHit u.desk.fitted run points t (position_of u t) hit)
    → EachRun s.desk.fitted (λ run. IsLastHit s.desk.fitted run qs t (position_of s t) hit)
last_hit_by_points s u t points qs hit same are finds run whole =
    subst (λ (ps : List Numbered). IsLastHit s.desk.fitted run ps t (position_of s t) hit) are
    (subst (λ (x : Stub). EachRun x.desk.fitted (λ r. IsLastHit x.desk.fitted r points t (position_of x t) hit)) same finds run whole)

-- ---- what is asked of a decision

pub lowest_hit_downwards : (s u : Stub) (t k n : ℕ) (w : Bool) → u ≡ stub_spoken s
    → EachRun s.desk.fitted (λ run. IsLowest s.desk.fitted run (downwards_of s t w) t k n)
    → EachRun u.desk.fitted (λ run. IsLowest u.desk.fitted run (downwards_of u t w) t k n)
lowest_hit_downwards s u t k n w same is =
    let other : EachRun u.desk.fitted (λ run. IsLowest u.desk.fitted run (downwards_of s t w) t k n) =
    subst (λ (x : Stub). EachRun x.desk.fitted (λ run. IsLowest x.desk.fitted run (downwards_of s t w) t k n)) (sym same) is in
    subst (λ (ps : List Numbered). EachRun u.desk.fitted (λ run. IsLowest u.desk.fitted run ps t k n)) (sym (downwards_of_spoken s u t w same)) other

pub lowest_of_next_hit : (s : Stub) (t p to : ℕ) (points : List Numbered) (hit : Option Hit) (h : Hit) → hit ≡ Some h
    → EachRun s.desk.fitted (λ run. IsNextHit s.desk.fitted run points t p to hit)
    → EachRun s.desk.fitted (λ run. IsLowest s.desk.fitted run points t h.position h.number)
lowest_of_next_hit s t p to points hit h is finds run whole =
    (subst (λ (x : Option Hit). IsNextHit s.desk.fitted run points t p to x) is (finds run whole)).3

pub back_at_start : (s u : Stub) (t k : ℕ) (at cut : List ℕ) → u ≡ stub_spoken s → at ≡ u.desk.at
    → EachRun u.desk.fitted (λ run. StopsAt run u.desk.fitted at t Backwards k cut)
    → EachRun s.desk.fitted (λ run. StopsAt run s.desk.fitted s.desk.at t Backwards k cut)
back_at_start s u t k at cut same here back run whole =
    let is : at ≡ s.desk.at = here ∙ ap (λ (x : Stub). x.desk.at) same in
    let one = subst (λ (x : Stub). EachRun x.desk.fitted (λ r. StopsAt r x.desk.fitted at t Backwards k cut)) same back run whole in
    subst (λ (x : List ℕ). StopsAt run s.desk.fitted x t Backwards k cut) is one

pub comes_back_further : (s u : Stub) (t j k : ℕ) (top cut : List ℕ) → u ≡ stub_spoken s → k ≤ j
    → EachRun s.desk.fitted (λ run. StopsAt run s.desk.fitted s.desk.at t Backwards j top)
    → EachRun u.desk.fitted (λ run. StopsAt run u.desk.fitted top t Backwards k cut)
    → EachRun s.desk.fitted (λ run. StopsAt run s.desk.fitted s.desk.at t Backwards k cut)
comes_back_further s u t j k top cut same low first next run whole =
    let one = first run whole in
    let two = subst (λ (x : Stub). EachRun x.desk.fitted (λ r. StopsAt r x.desk.fitted top t Backwards k cut)) same next run whole in
    (two.0, greatest_from_greatest (machine_of s.desk.fitted) (start_of s.desk.fitted) run (cut_of s.desk.at) (cut_of top) (cut_of cut) t j k low one.1 two.1)

pub back_to_spoken : (s u : Stub) (t k : ℕ) (cut : List ℕ) → u ≡ stub_spoken s
    → EachRun s.desk.fitted (λ run. StopsAt run s.desk.fitted s.desk.at t Backwards k cut)
    → EachRun u.desk.fitted (λ run. StopsAt run u.desk.fitted u.desk.at t Backwards k cut)
back_to_spoken s u t k cut same back =
    subst (λ (x : Stub). EachRun x.desk.fitted (λ run. StopsAt run x.desk.fitted x.desk.at t Backwards k cut)) (sym same) back

-- ---- a stretch

pub none_in_empty_stretch : (P : ℕ → ℕ → Type 0) (p : ℕ) → IsLastStopFrom P p p None
none_in_empty_stretch P p = λ j n low high stops. omega (arith, low, high)

last_unless_later : (P : ℕ → ℕ → Type 0) (from q to : ℕ) (found : Option Hit) → q ≤ to → IsLastStopFrom P from q found → NoneStopsWithin P q to
    → IsLastStopFrom P from to found
last_unless_later P from q to None less is none = λ j n low high stops. elim (cases_lt j q) [
  | inl under ↦ is j n low under stops
  | inr past ↦ none j n past high stops
]
last_unless_later P from q to (Some h) less is none = (
  is.0,
  let high = is.1 in omega (arith, high, less),
  λ j n low up stops. elim (cases_lt j q) [
    | inl under ↦ is.2 j n low under stops
    | inr past ↦ none j n past up stops
  ],
  is.3,
)

last_by_decision : (P : ℕ → ℕ → Type 0) (from k : ℕ) (found stop : Option Hit) → from ≤ k → IsLastStopFrom P from k found → IsStopAt P k stop
    → IsLastStopFrom P from (suc k) (latest found stop)
last_by_decision P from k found None low is at = last_unless_later P from k (suc k) found (omega arith) is
    (λ j n up high stops. let here : j ≡ k = omega (arith, up, high) in at n (subst (λ (i : ℕ). P i n) here stops))
last_by_decision P from k found (Some h) low is at =
    let here = at.0 in (
      omega (arith, here, low),
      omega (arith, here),
      λ j n up high stops. omega (arith, here, up, high),
      subst (λ (i : ℕ). IsLowestThat P i h.number) (sym here) at.1,
    )

no_hit_is_no_stop_down : (run : List Step) (s : Stub) (t : ℕ) (w : Bool) (a b : ℕ) → NoneWithin s.desk.fitted run (downwards_of s t w) t a b
    → NoneStopsWithin (StopsDownwards run s t w) a b
no_hit_is_no_stop_down run s t w a b none j n low high stops = none j n low high stops.0

-- no hit up to the end of the stretch
pub last_from_if_no_hit : (s : Stub) (t from q to : ℕ) (w : Bool) (found next : Option Hit) → next ≡ None → q ≤ to
    → EachRun s.desk.fitted (λ run. IsLastStopFrom (StopsDownwards run s t w) from (suc q) found)
    → EachRun s.desk.fitted (λ run. IsNextHit s.desk.fitted run (downwards_of s t w) t q to next)
    → EachRun s.desk.fitted (λ run. IsLastStopFrom (StopsDownwards run s t w) from (suc to) found)
last_from_if_no_hit s t from q to w found next is less last finds run whole =
    let none = subst (λ (x : Option Hit). IsNextHit s.desk.fitted run (downwards_of s t w) t q to x) is (finds run whole) in
    last_unless_later (StopsDownwards run s t w) from (suc q) (suc to) found (omega (arith, less)) (last run whole)
    (no_hit_is_no_stop_down run s t w (suc q) (suc to) none)

-- a hit, and whether it is a stop
pub last_from_with_hit : (s : Stub) (t from q to : ℕ) (w : Bool) (found next stop : Option Hit) (h : Hit) → next ≡ Some h → from ≤ suc q
    → EachRun s.desk.fitted (λ run. IsLastStopFrom (StopsDownwards run s t w) from (suc q) found)
    → EachRun s.desk.fitted (λ run. IsNextHit s.desk.fitted run (downwards_of s t w) t q to next)
    → EachRun s.desk.fitted (λ run. IsStopAt (StopsDownwards run s t w) h.position stop)
    → EachRun s.desk.fitted (λ run. IsLastStopFrom (StopsDownwards run s t w) from (suc h.position) (latest found stop))
last_from_with_hit s t from q to w found next stop h is low last finds decided run whole =
    let hit = subst (λ (x : Option Hit). IsNextHit s.desk.fitted run (downwards_of s t w) t q to x) is (finds run whole) in
    let up = hit.0 in
    last_by_decision (StopsDownwards run s t w) from h.position found stop (omega (arith, low, up))
    (last_unless_later (StopsDownwards run s t w) from (suc q) h.position found (omega (arith, up)) (last run whole)
    (no_hit_is_no_stop_down run s t w (suc q) h.position hit.2)) (decided run whole)

-- the end of the stretch
pub last_from_at_end : (s : Stub) (t from q to : ℕ) (w : Bool) (found : Option Hit) → q ≡ to
    → EachRun s.desk.fitted (λ run. IsLastStopFrom (StopsDownwards run s t w) from (suc q) found)
    → EachRun s.desk.fitted (λ run. IsLastStopFrom (StopsDownwards run s t w) from (suc to) found)
last_from_at_end s t from q to w found same last =
    subst (λ (i : ℕ). EachRun s.desk.fitted (λ run. IsLastStopFrom (StopsDownwards run s t w) from (suc i) found)) same last

pub last_to_top : (s : Stub) (t : ℕ) (w : Bool) (low to : ℕ) (top : List ℕ) (found : Option Hit) → to ≡ cut_of top t
    → EachRun s.desk.fitted (λ run. IsLastStopFrom (StopsDownwards run s t w) (suc low) (suc to) found)
    → EachRun s.desk.fitted (λ run. IsLastStopFrom (StopsDownwards run s t w) (suc low) (suc (cut_of top t)) found)
last_to_top s t w low to top found same last =
    subst (λ (i : ℕ). EachRun s.desk.fitted (λ run. IsLastStopFrom (StopsDownwards run s t w) (suc low) (suc i) found)) same last

pub last_with_latest : (s : Stub) (t : ℕ) (w : Bool) (low : ℕ) (found stop both : Option Hit) (h : Hit) → both ≡ latest found stop
    → EachRun s.desk.fitted (λ run. IsLastStopFrom (StopsDownwards run s t w) (suc low) (suc h.position) (latest found stop))
    → EachRun s.desk.fitted (λ run. IsLastStopFrom (StopsDownwards run s t w) (suc low) (suc h.position) both)
last_with_latest s t w low found stop both h is last =
    subst (λ (x : Option Hit). EachRun s.desk.fitted (λ run. IsLastStopFrom (StopsDownwards run s t w) (suc low) (suc h.position) x)) (sym is) last

-- ---- stretches

-- what is found up to where a cut has the thread
pub last_from_to_position : (s u : Stub) (t : ℕ) (w : Bool) (low to : ℕ) (top : List ℕ) (found : Option Hit) → u ≡ stub_spoken s → cut_of top t ≡ to
    → EachRun u.desk.fitted (λ run. IsLastStopFrom (StopsDownwards run u t w) (suc low) (suc (cut_of top t)) found)
    → EachRun s.desk.fitted (λ run. IsLastStopFrom (StopsDownwards run s t w) (suc low) (suc to) found)
last_from_to_position s u t w low to top found same there last = last_from_of_spoken s u t w (suc low) (suc to) found same
    (subst (λ (i : ℕ). EachRun u.desk.fitted (λ run. IsLastStopFrom (StopsDownwards run u t w) (suc low) (suc i) found)) there last)

-- one has a stop
pub last_stop_in_stretch : (s : Stub) (t low to : ℕ) (w : Bool) (found : Option Hit) (stop : Hit) → found ≡ Some stop → to < position_of s t
    → EachRun s.desk.fitted (λ run. IsLastStopFrom (StopsDownwards run s t w) (suc low) (suc to) found)
    → EachRun s.desk.fitted (λ run. NoneStopsWithin (StopsDownwards run s t w) (suc to) (position_of s t))
    → EachRun s.desk.fitted (λ run. IsLastStop (StopsDownwards run s t w) (position_of s t) (Some stop))
last_stop_in_stretch s t low to w found stop is less last none run whole =
    let all = last_unless_later (StopsDownwards run s t w) (suc low) (suc to) (position_of s t) (Some stop) (omega (arith, less))
    (subst (λ (x : Option Hit). IsLastStopFrom (StopsDownwards run s t w) (suc low) (suc to) x) is (last run whole)) (none run whole) in
    (all.1, all.2, all.3)

-- one has none
pub none_in_stretch : (s : Stub) (t low to : ℕ) (w : Bool) (found : Option Hit) → found ≡ None → to < position_of s t
    → EachRun s.desk.fitted (λ run. IsLastStopFrom (StopsDownwards run s t w) (suc low) (suc to) found)
    → EachRun s.desk.fitted (λ run. NoneStopsWithin (StopsDownwards run s t w) (suc to) (position_of s t))
    → EachRun s.desk.fitted (λ run. NoneStopsWithin (StopsDownwards run s t w) (suc low) (position_of s t))
none_in_stretch s t low to w found is less last none run whole =
    last_unless_later (StopsDownwards run s t w) (suc low) (suc to) (position_of s t) None (omega (arith, less))
    (subst (λ (x : Option Hit). IsLastStopFrom (StopsDownwards run s t w) (suc low) (suc to) x) is (last run whole)) (none run whole)

-- the start is left
last_by_start : (P : ℕ → ℕ → Type 0) (p : ℕ) (stop : Option Hit) → 0 < p → NoneStopsWithin P 1 p → IsStopAt P 0 stop → IsLastStop P p stop
last_by_start P p None some none at = λ j n low high stops. by j n high stops
  where
    by : (j n : ℕ) → j < p → P j n → ⊥
    by zero n high stops = at n stops
    by (suc j) n high stops = none (suc j) n (omega arith) high stops
last_by_start P p (Some h) some none at =
    let here = at.0 in (
      omega (arith, here, some),
      λ j n low high stops. none j n (omega (arith, low)) high stops,
      subst (λ (i : ℕ). IsLowestThat P i h.number) (sym here) at.1,
    )

pub last_stop_at_start : (s : Stub) (t to : ℕ) (w : Bool) (stop : Option Hit) → to ≤ 0 → 0 < position_of s t
    → EachRun s.desk.fitted (λ run. NoneStopsWithin (StopsDownwards run s t w) (suc to) (position_of s t))
    → EachRun s.desk.fitted (λ run. IsStopAt (StopsDownwards run s t w) 0 stop)
    → EachRun s.desk.fitted (λ run. IsLastStop (StopsDownwards run s t w) (position_of s t) stop)
last_stop_at_start s t to w stop low some none at run whole =
    last_by_start (StopsDownwards run s t w) (position_of s t) stop some
    (λ j n up high stops. none run whole j n (omega (arith, low, up)) high stops) (at run whole)

-- ---- the last of all

pub last_hit_is_below : (f : FittedTrace) (points : List Numbered) (t p : ℕ) (hit : Option Hit) → HasRun f
    → EachRun f (λ run. IsLastHit f run points t p hit) → IfSome hit (λ h. h.position < p)
last_hit_is_below f points t p None has finds = tt
last_hit_is_below f points t p (Some h) has finds = (finds has.run has.whole).0

pub below_if_some : (p : ℕ) (hit : Option Hit) (h : Hit) → hit ≡ Some h → IfSome hit (λ k. k.position < p) → h.position < p
below_if_some p hit h is below = subst (λ (x : Option Hit). IfSome x (λ k. k.position < p)) is below

pub last_stop_if_plain : (s : Stub) (t : ℕ) (w : Bool) (hit : Option Hit) → is_plain_hit hit ≡ true
    → EachRun s.desk.fitted (λ run. IsLastHit s.desk.fitted run (downwards_of s t w) t (position_of s t) hit)
    → EachRun s.desk.fitted (λ run. IsLastStop (StopsDownwards run s t w) (position_of s t) hit)
last_stop_if_plain s t w hit plain finds run whole = by hit plain (finds run whole)
  where
    by : (hit : Option Hit) → is_plain_hit hit ≡ true → IsLastHit s.desk.fitted run (downwards_of s t w) t (position_of s t) hit
        → IsLastStop (StopsDownwards run s t w) (position_of s t) hit
    by None plain found = no_hit_is_no_stop_down run s t w 0 (position_of s t) found
    by (Some h) plain found =
        (found.0, no_hit_is_no_stop_down run s t w (suc h.position) (position_of s t) found.1, plain_lowest_stops run s Backwards t w h plain found.2)

pub last_stop_if_no_hit : (s : Stub) (t : ℕ) (w : Bool) (hit : Option Hit) → hit ≡ None
    → EachRun s.desk.fitted (λ run. IsLastHit s.desk.fitted run (downwards_of s t w) t (position_of s t) hit)
    → EachRun s.desk.fitted (λ run. IsLastStop (StopsDownwards run s t w) (position_of s t) None)
last_stop_if_no_hit s t w hit is finds run whole = no_hit_is_no_stop_down run s t w 0 (position_of s t)
    (subst (λ (x : Option Hit). IsLastHit s.desk.fitted run (downwards_of s t w) t (position_of s t) x) is (finds run whole))

pub none_stops_above_last_hit : (s : Stub) (t : ℕ) (w : Bool) (hit : Option Hit) (h : Hit) → hit ≡ Some h
    → EachRun s.desk.fitted (λ run. IsLastHit s.desk.fitted run (downwards_of s t w) t (position_of s t) hit)
    → EachRun s.desk.fitted (λ run. NoneStopsWithin (StopsDownwards run s t w) (suc h.position) (position_of s t))
none_stops_above_last_hit s t w hit h is finds run whole = no_hit_is_no_stop_down run s t w (suc h.position) (position_of s t)
    (subst (λ (x : Option Hit). IsLastHit s.desk.fitted run (downwards_of s t w) t (position_of s t) x) is (finds run whole)).1

-- ---- at 0

-- the points of a stub that hit a thread at 0, by its pc there
pub no_start_is_no_stop : (s : Stub) (t pc : ℕ) (w : Bool) (points : List Numbered) (cut : List ℕ) (found : Option ℕ) → t < threads_of s.desk.fitted
    → cut_of cut t ≡ 0 → 0 < last_of s.desk.fitted t → points ≡ downwards_of s t w → found ≡ lowest_start t pc points None → found ≡ None
    → EachRun s.desk.fitted (λ run. pc ≡ (thread_at s.desk.fitted run t (cut_of cut t)).core.pc)
    → EachRun s.desk.fitted (λ run. IsStopAt (StopsDownwards run s t w) 0 None)
no_start_is_no_stop s t pc w points cut found l there some are is none here run whole n stops =
    let all = whole.1.steps t l in
    no_start_is_no_hit s.desk.fitted run t pc (here run whole ∙ ap (λ (k : ℕ). (thread_at s.desk.fitted run t k).core.pc) there) (omega (arith, some, all))
    (downwards_of s t w) (ap (λ (ps : List Numbered). lowest_start t pc ps None) (sym are) ∙ sym is ∙ none) n stops.0

pub start_is_lowest_down : (s : Stub) (t pc : ℕ) (w : Bool) (points : List Numbered) (cut : List ℕ) (found : Option ℕ) (n : ℕ) → t < threads_of s.desk.fitted
    → cut_of cut t ≡ 0 → 0 < last_of s.desk.fitted t → points ≡ downwards_of s t w → found ≡ lowest_start t pc points None → found ≡ Some n
    → EachRun s.desk.fitted (λ run. pc ≡ (thread_at s.desk.fitted run t (cut_of cut t)).core.pc)
    → EachRun s.desk.fitted (λ run. IsLowest s.desk.fitted run (downwards_of s t w) t 0 n)
start_is_lowest_down s t pc w points cut found n l there some are is one here run whole =
    let all = whole.1.steps t l in
    start_is_lowest s.desk.fitted run t pc (here run whole ∙ ap (λ (k : ℕ). (thread_at s.desk.fitted run t k).core.pc) there) (omega (arith, some, all))
    (downwards_of s t w) n (ap (λ (ps : List Numbered). lowest_start t pc ps None) (sym are) ∙ sym is ∙ one)

pub pc_of_spoken : (s u : Stub) (t pc : ℕ) (cut : List ℕ) → u ≡ stub_spoken s
    → EachRun u.desk.fitted (λ run. pc ≡ (thread_at u.desk.fitted run t (cut_of cut t)).core.pc)
    → EachRun s.desk.fitted (λ run. pc ≡ (thread_at s.desk.fitted run t (cut_of cut t)).core.pc)
pc_of_spoken s u t pc cut same here =
    subst (λ (x : Stub). EachRun x.desk.fitted (λ run. pc ≡ (thread_at x.desk.fitted run t (cut_of cut t)).core.pc)) same here
