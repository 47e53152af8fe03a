-- Where a thread stops that moves alone: facts found of a stub that has spoken, said of the one before.
use Rattle.std.proofs.Common.{◌≡◌, ◌≤◌, ◌<◌, ◌-◌, ◌+◌, ◌∙◌, ℕ, zero, suc, Bool, true, false, List, [], ◌∷◌, length, Option, Some, None, refl, sym, ap, subst, arith}
use Rattle.std.proofs.lemmas.Bool.Decides.{nat_tests}
use Rattle.std.specs.Prelude.{nat_lt, ◌==◌, ⊤, option_map}
use Rattle.ir_fit.specs.Fit.{FittedTrace}
use Rattle.ir_runs.specs.Run.{Step}
use Rattle.ir_cut.specs.Positions.{EachRun, last_of}
use Rattle.ir_command.specs.declared.command.Direction.TheVariants.{Backwards}
use Rattle.ir_command.specs.declared.hit.Hit.{Hit}
use Rattle.ir_hits.specs.Hits.{Numbered}
use Rattle.ir_hits.specs.Searching.{IsNextHit}
use Rattle.ir_debug.specs.Machine.{Desk}
use Rattle.ir_packet.specs.declared.reply.Reason.{Reason}
use Rattle.ir_gdb.specs.Guards.{Guarded}
use Rattle.ir_gdb.specs.declared.point.Watched.{Watched}
use Rattle.ir_gdb.specs.declared.stopped.Stopped.{Stopped}
use Rattle.ir_gdb.specs.Points.{watch_points, watches_if}
use Rattle.ir_gdb.specs.Conditions.{StopsUpwards, StopsDownwards, IsFirstStop, IsLastStop}
use Rattle.ir_gdb.specs.Serving.{Serving}
use Rattle.ir_gdb.specs.Stub.{Stub, stub_spoken}
use Rattle.ir_gdb.specs.Stops.{position_of, WatchNext, StepsBy, StepsTo, after_step, StepsBackBy, StepsBackTo, after_back, StopsBelow}
use Rattle.ir_gdb.specs.Stops.{BackBy, ContinuesBackBy, ContinuesBackTo, ContinuesTo, end_above, end_below, watch_reason}
use Rattle.ir_gdb.proofs.Nexts.{stop_from_spoken, stop_to_spoken, last_of_same_stops}

-- the value seen of what a function holds
abbrev pub serving_seen : {a b : Serving} → a ≡ b → Serving
serving_seen {a} {b} same = a

-- ---- watches do not depend on the desk

watches_if_ignores_desk : (u : Stub) (e : Desk) (w : Bool) → watches_if (record u { desk = e }) w ≡ watches_if u w
watches_if_ignores_desk u e true = refl
watches_if_ignores_desk u e false = refl

pub watches_if_ignores_both : (s u : Stub) (e : Desk) (w : Bool) → u ≡ stub_spoken s → watches_if (record u { desk = e }) w ≡ watches_if s w
watches_if_ignores_both s u e w same =
    watches_if_ignores_desk u e w ∙ ap (λ (x : Stub). watches_if x w) same ∙ watches_if_ignores_desk s (stub_spoken s).desk w

pub watches_if_ignores_spoken : (s u : Stub) (w : Bool) → u ≡ stub_spoken s → watches_if u w ≡ watches_if s w
watches_if_ignores_spoken s u w same = ap (λ (x : Stub). watches_if x w) same ∙ watches_if_ignores_desk s (stub_spoken s).desk w

-- ---- the next watch

pub watch_next_of_hit : (f : FittedTrace) (s : Stub) (t p to : ℕ) (w : Bool) (points : List Numbered) (hit : Option Hit) (first : List Watched)
    (reason : Option Reason) → f ≡ s.desk.fitted → points ≡ watch_points t 0 (watches_if s w) → first ≡ watches_if s w → to ≡ p + 1
    → EachRun f (λ run. IsNextHit f run points t p to hit) → reason ≡ option_map (λ (h : Hit). watch_reason first h.number) hit
    → EachRun s.desk.fitted (λ run. WatchNext run s t w p reason)
watch_next_of_hit f s t p to w points hit first reason same are mine is finds why run whole =
    let found = subst (λ (g : FittedTrace). EachRun g (λ r. IsNextHit g r points t p to hit)) same finds run whole in
    let by_points = subst (λ (ps : List Numbered). IsNextHit s.desk.fitted run ps t p to hit) are found in
    let by_to = subst (λ (n : ℕ). IsNextHit s.desk.fitted run (watch_points t 0 (watches_if s w)) t p n hit) is by_points in
    (hit, by_to, subst (λ (ws : List Watched). reason ≡ option_map (λ (h : Hit). watch_reason ws h.number) hit) mine why)

abbrev IsNoPoint : Option Numbered → Type 0
IsNoPoint None = ⊤
IsNoPoint (Some p) = ⊥

no_points_no_next_hit : (f : FittedTrace) (run : List Step) (t p to : ℕ) → IsNextHit f run [] t p to None
no_points_no_next_hit f run t p to j n low high hit = let (i, q, at, number, hits) = hit in subst IsNoPoint at tt

no_watches_no_next_hit : (f : FittedTrace) (run : List Step) (t p to : ℕ) (ws : List Watched) → length ws ≡ 0 → IsNextHit f run (watch_points t 0 ws) t p to None
unfolding watch_points
no_watches_no_next_hit f run t p to [] empty = no_points_no_next_hit f run t p to
no_watches_no_next_hit f run t p to (x ∷ xs) empty = absurd (omega (arith, empty))

pub zero_test_empty : (ws : List Watched) → true ≡ (length ws == 0) → length ws ≡ 0
zero_test_empty ws empty = grind (arith, nat_tests, empty)

pub watch_next_none : (s u : Stub) (t p : ℕ) (w : Bool) (ws : List Watched) → u ≡ stub_spoken s → ws ≡ watches_if u w → length ws ≡ 0
    → EachRun s.desk.fitted (λ run. WatchNext run s t w p None)
watch_next_none s u t p w ws same are empty run whole = (
  None,
  subst (λ (x : List Watched). IsNextHit s.desk.fitted run (watch_points t 0 x) t p (p + 1) None) (are ∙ watches_if_ignores_spoken s u w same)
      (no_watches_no_next_hit s.desk.fitted run t p (p + 1) ws empty),
  refl,
)

watch_next_from_spoken : (run : List Step) (s : Stub) (t p : ℕ) (w : Bool) (why : Option Reason) → WatchNext run (stub_spoken s) t w p why → WatchNext run s t w p why
watch_next_from_spoken run s t p true why next = next
watch_next_from_spoken run s t p false why next = next

pub runs_watch_next_spoken : (s u : Stub) (t p : ℕ) (w : Bool) (why : Option Reason) → u ≡ stub_spoken s
    → EachRun u.desk.fitted (λ run. WatchNext run u t w p why) → EachRun s.desk.fitted (λ run. WatchNext run s t w p why)
runs_watch_next_spoken s u t p w why same next run whole =
    watch_next_from_spoken run s t p w why (subst (λ (x : Stub). EachRun x.desk.fitted (λ r. WatchNext r x t w p why)) same next run whole)

-- ---- steps

pub own_position_below_last : (p l other here last : ℕ) → (p ≡ l → ⊥) → l ≡ other → l ≡ last → p ≡ here → p ≤ other → here < last
own_position_below_last p l other here last differ same is at within = grind (arith, differ, same, is, at, within)

pub steps_to_after_step : (s u : Stub) (t p : ℕ) (w : Bool) (why : Option Reason) (to : Stopped) → u ≡ stub_spoken s → p ≡ position_of s t
    → position_of s t < last_of s.desk.fitted t → EachRun u.desk.fitted (λ run. WatchNext run u t w p why) → to ≡ after_step p why
    → EachRun s.desk.fitted (λ run. StepsTo run s t w to)
steps_to_after_step s u t p w why to same here below next is run whole =
    let less : nat_lt (position_of s t) (last_of s.desk.fitted t) ≡ true = grind (arith, nat_tests, below) in
    let found = subst (λ (n : ℕ). WatchNext run s t w n why) here (runs_watch_next_spoken s u t p w why same next run whole) in
    let at = subst (λ (n : ℕ). to ≡ after_step n why) here is in
    subst (λ (b : Bool). StepsBy b run s t w (position_of s t) to) (sym less) (why, found, at)

steps_back_by_watch : (run : List Step) (s : Stub) (t n : ℕ) (w : Bool) (why : Option Reason) (to : Stopped) → 0 < n → WatchNext run s t w (n - 1) why
    → to ≡ after_back (n - 1) why → StepsBackBy run s t w n to
steps_back_by_watch run s t zero w why to above next is = absurd (omega (arith, above))
steps_back_by_watch run s t (suc n) w why to above next is =
    let less : suc n - 1 ≡ n = omega arith in
    (why, subst (λ (k : ℕ). WatchNext run s t w k why) less next, subst (λ (k : ℕ). to ≡ after_back k why) less is)

pub steps_back_to_watch : (s : Stub) (t : ℕ) (w : Bool) (why : Option Reason) (to : Stopped) → 0 < position_of s t
    → EachRun s.desk.fitted (λ run. WatchNext run s t w (position_of s t - 1) why) → to ≡ after_back (position_of s t - 1) why
    → EachRun s.desk.fitted (λ run. StepsBackTo run s t w to)
steps_back_to_watch s t w why to above next is run whole = steps_back_by_watch run s t (position_of s t) w why to above (next run whole) is

pub positive_if_not_zero : (p here : ℕ) → (p ≡ 0 → ⊥) → p ≡ here → 0 < here
positive_if_not_zero p here some at = grind (arith, some, at)

pub before_is_below_last : (k p here last : ℕ) → k ≡ p - 1 → p ≡ here → 0 < here → p ≤ last → k < last
before_is_below_last k p here last is at above within = omega (arith, is, at, above, within)

-- ---- searches

stops_below_from_spoken : (run : List Step) (s : Stub) (t : ℕ) (w : Bool) (to : Stopped) → StopsBelow run (stub_spoken s) t w to → StopsBelow run s t w to
stops_below_from_spoken run s t true to (hit, last, is) = (
  hit,
  last_of_same_stops (StopsDownwards run (stub_spoken s) t true) (StopsDownwards run s t true) (stop_from_spoken run s Backwards t true)
      (stop_to_spoken run s Backwards t true) (position_of s t) hit last,
  is,
)
stops_below_from_spoken run s t false to (hit, last, is) = (
  hit,
  last_of_same_stops (StopsDownwards run (stub_spoken s) t false) (StopsDownwards run s t false) (stop_from_spoken run s Backwards t false)
      (stop_to_spoken run s Backwards t false) (position_of s t) hit last,
  is,
)

back_from_spoken : (run : List Step) (s : Stub) (t p : ℕ) (w : Bool) (why : Option Reason) (to : Stopped) → BackBy run (stub_spoken s) t w p why to
    → BackBy run s t w p why to
back_from_spoken run s t p w None to back = stops_below_from_spoken run s t w to back
back_from_spoken run s t p w (Some why) to back = back

pub continues_back_from_spoken : (run : List Step) (s : Stub) (t p : ℕ) (w : Bool) (to : Stopped) → ContinuesBackBy run (stub_spoken s) t w p to
    → ContinuesBackBy run s t w p to
continues_back_from_spoken run s t zero w to is = is
continues_back_from_spoken run s t (suc p) w to (why, next, back) =
    (why, watch_next_from_spoken run s t p w why next, back_from_spoken run s t (suc p) w why to back)

pub stops_below_at_last : (s u : Stub) (t : ℕ) (w : Bool) (hit : Option Hit) (ws : List Watched) (bs : List Guarded) (to : Stopped) → u ≡ stub_spoken s
    → EachRun s.desk.fitted (λ run. IsLastStop (StopsDownwards run s t w) (position_of s t) hit) → ws ≡ watches_if u w → bs ≡ u.breaks
    → to ≡ end_below ws bs hit → EachRun s.desk.fitted (λ run. StopsBelow run s t w to)
stops_below_at_last s u t w hit ws bs to same finds watches breaks is run whole = (
  hit,
  finds run whole,
  is ∙ ap (λ (x : List Watched). end_below x bs hit) (watches ∙ watches_if_ignores_spoken s u w same)
      ∙ ap (λ (x : List Guarded). end_below (watches_if s w) x hit) (breaks ∙ ap (λ (x : Stub). x.breaks) same),
)

continues_back_by_stop : (run : List Step) (s : Stub) (t n : ℕ) (w : Bool) (why : Option Reason) (to : Stopped) → 0 < n → WatchNext run s t w (n - 1) why
    → why ≡ None → StopsBelow run s t w to → ContinuesBackBy run s t w n to
continues_back_by_stop run s t zero w why to above next none stops = absurd (omega (arith, above))
continues_back_by_stop run s t (suc n) w why to above next none stops =
    let less : suc n - 1 ≡ n = omega arith in
    (why, subst (λ (k : ℕ). WatchNext run s t w k why) less next, subst (λ (x : Option Reason). BackBy run s t w (suc n) x to) (sym none) stops)

pub continues_back_to_stop : (s u : Stub) (t : ℕ) (w : Bool) (why : Option Reason) (to : Stopped) → u ≡ stub_spoken s → 0 < position_of s t
    → EachRun s.desk.fitted (λ run. WatchNext run s t w (position_of s t - 1) why) → why ≡ None
    → EachRun u.desk.fitted (λ run. StopsBelow run u t w to) → EachRun s.desk.fitted (λ run. ContinuesBackTo run s t w to)
continues_back_to_stop s u t w why to same above next none stops run whole =
    continues_back_by_stop run s t (position_of s t) w why to above (next run whole) none
    (stops_below_from_spoken run s t w to (subst (λ (x : Stub). EachRun x.desk.fitted (λ r. StopsBelow r x t w to)) same stops run whole))

pub continues_to_first_stop : (s u : Stub) (t last : ℕ) (w : Bool) (hit : Option Hit) (ws : List Watched) (bs : List Guarded) (to : Stopped) → u ≡ stub_spoken s
    → EachRun s.desk.fitted (λ run. IsFirstStop (StopsUpwards run s t w) (position_of s t) hit) → ws ≡ watches_if u w → bs ≡ u.breaks
    → last ≡ last_of s.desk.fitted t → to ≡ end_above ws bs last hit → EachRun s.desk.fitted (λ run. ContinuesTo run s t w to)
continues_to_first_stop s u t last w hit ws bs to same finds watches breaks at is run whole = (
  hit,
  finds run whole,
  is ∙ ap (λ (x : List Watched). end_above x bs last hit) (watches ∙ watches_if_ignores_spoken s u w same)
      ∙ ap (λ (x : List Guarded). end_above (watches_if s w) x last hit) (breaks ∙ ap (λ (x : Stub). x.breaks) same)
      ∙ ap (λ (n : ℕ). end_above (watches_if s w) s.breaks n hit) at,
)
