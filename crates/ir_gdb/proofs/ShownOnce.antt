-- `continue` repeated to the end shows each hit once.
use Rattle.std.proofs.Common.{◌≡◌, ◌≢◌, ◌<◌, ◌⊎◌, ◌∙◌, ℕ, zero, suc, Bool, true, false, List, [], ◌∷◌, Option, Some, None, is_some, is_none, true≢false, inl, inr, refl, sym, ap, subst, arith}
use Rattle.std.specs.Prelude.{◌==◌, ◌&&◌, ◌≤◌, ◌+◌, length, not}
use Rattle.std.proofs.lemmas.Bool.{cases_eq, cases_lt}
use Rattle.ir_lemmas.proofs.CallerLemmas.{conjunction_with_false}
use Rattle.ir_runs.specs.Run.{Step}
use Rattle.ir_cut.specs.Positions.{cut_of, threads_of, last_of}
use Rattle.ir_command.specs.declared.command.Direction.{Direction}
use Rattle.ir_command.specs.declared.command.Direction.TheVariants.{Forwards, Backwards}
use Rattle.ir_command.specs.declared.hit.Hit.{Hit}
use Rattle.ir_hits.specs.Hits.{Numbered, HitByNumber}
use Rattle.ir_gdb.specs.Guards.{has_guard, conditions_at}
use Rattle.ir_gdb.specs.Conditions.{IsMetBy, StopsUpwards, StopsDownwards, IsFirstStop, IsLastStop}
use Rattle.ir_packet.specs.declared.reply.Reason.{Reason}
use Rattle.ir_gdb.specs.declared.point.Watched.{Watched}
use Rattle.ir_gdb.specs.declared.stopped.Stopped.{Stopped}
use Rattle.ir_gdb.specs.Points.{points_upwards, points_downwards, watches_if, upwards_of, downwards_of}
use Rattle.ir_gdb.specs.Stub.{Stub, shared_breaks, IsStub, most_stub_points}
use Rattle.ir_gdb.specs.Stops.{position_of, end_above, end_below, is_hit, StopsInDirection, BackBy, StopsBelow, ContinuesBackBy, reason_at_end}
use Rattle.ir_gdb.specs.Together.{Halt, halt, Comes, stop_among, is_on_way, AreStops, FirstMet, meets, halt_or, own_halt, met_or, StopsAmong, FirstStop, furthest, ContinuesAmong}
use Rattle.ir_gdb.specs.Laws.{MeetsNone, PassesNone, PassesNoHit, Stands, stub_behind, ShowsHit, ContinuesToEnd, IsHitBeyond, ShowsAt, IsShownOnce}
use Rattle.ir_gdb.specs.Laws.{directed_points, IsConditional, IsConditionMet}
use Rattle.ir_gdb.proofs.Alone.{no_watch_is_next, stop_above_is_at_hit, stop_below_is_at_hit}
use Rattle.ir_gdb.proofs.Blocked.{Within, comes_within_cut, comes_exactly_there, hit_on_way_if_meets}
use Rattle.ir_gdb.proofs.Deciding.{points_in, StopsIn, guarded_stop_is_met}
use Rattle.ir_gdb.proofs.Unpassed.{continue_passes_no_hit, no_stop_is_no_hit}
use Rattle.ir_gdb.proofs.Ways.{meets_none_if_not_met, meets_by}

-- ---- positions beyond a thread's own

abbrev pub Beyond : Direction → ℕ → ℕ → Type 0
Beyond Forwards here there = here < there
Beyond Backwards here there = there < here

beyond_after_within : (d : Direction) (a b c : ℕ) → Within d a b → Beyond d b c → Beyond d a c
beyond_after_within Forwards a b c one two = omega (arith, one, two)
beyond_after_within Backwards a b c one two = omega (arith, one, two)

within_if_beyond : (d : Direction) (a b : ℕ) → Beyond d a b → Within d a b
within_if_beyond Forwards a b one = omega (arith, one)
within_if_beyond Backwards a b one = omega (arith, one)

beyond_is_not_equal : (d : Direction) (a b : ℕ) → Beyond d a b → b ≢ a
beyond_is_not_equal Forwards a b one same = omega (arith, one, same)
beyond_is_not_equal Backwards a b one same = omega (arith, one, same)

-- ---- without watches

watches_if_none : (s : Stub) (w : Bool) → s.watches ≡ [] → watches_if s w ≡ []
watches_if_none s true none = none
watches_if_none s false none = ap shared_breaks none

upwards_of_any : (s : Stub) (u : ℕ) (w : Bool) → s.watches ≡ [] → upwards_of s u false ≡ upwards_of s u w
upwards_of_any s u w none = ap (λ (ws : List Watched). points_upwards u ws s.breaks s.desk.points) (watches_if_none s false none ∙ sym (watches_if_none s w none))

downwards_of_any : (s : Stub) (u : ℕ) (w : Bool) → s.watches ≡ [] → downwards_of s u false ≡ downwards_of s u w
downwards_of_any s u w none = ap (λ (ws : List Watched). points_downwards u ws s.breaks s.desk.points) (watches_if_none s false none ∙ sym (watches_if_none s w none))

-- a point without conditions stops where it hits
stops_downwards_if_free : (run : List Step) (s : Stub) (u k n : ℕ) (w : Bool) → s.watches ≡ [] → HitByNumber s.desk.fitted run (downwards_of s u false) u k n
    → has_guard n ≡ false → StopsDownwards run s u w k n
stops_downwards_if_free run s u k n w none hits free = (
  subst (λ points. HitByNumber s.desk.fitted run points u k n) (downwards_of_any s u w none) hits,
  subst (λ (b : Bool). IsMetBy b run s Backwards u k (conditions_at s.breaks 0 n)) (sym free) tt,
)

stops_upwards_if_free : (run : List Step) (s : Stub) (u k n : ℕ) (w : Bool) → s.watches ≡ [] → HitByNumber s.desk.fitted run (upwards_of s u false) u k n
    → has_guard n ≡ false → StopsUpwards run s u w k n
stops_upwards_if_free run s u k n w none hits free = (
  subst (λ points. HitByNumber s.desk.fitted run points u k n) (upwards_of_any s u w none) hits,
  subst (λ (b : Bool). IsMetBy b run s Forwards u k (conditions_at s.breaks (length (watches_if s w)) n)) (sym free) tt,
)

-- a hit is at the position to which a thread comes, or beyond
hit_not_passed_is_beyond : (run : List Step) (s : Stub) (d : Direction) (u k c : ℕ) (w : Bool) → s.watches ≡ [] → PassesNone run s d u w c → IsHitBeyond run s d u k
    → (k ≡ c) ⊎ Beyond d c k
hit_not_passed_is_beyond run s Forwards u k c w none passes (beyond, (n, hits, free)) = elim (cases_lt c k) [
  | inl less ↦ inr less
  | inr from ↦ elim (cases_lt k c) [
    | inl less ↦ absurd (passes k n beyond less (stops_upwards_if_free run s u k n w none hits free))
    | inr back ↦ inl (omega (arith, from, back))
  ]
]
hit_not_passed_is_beyond run s Backwards u k c w none passes (beyond, (n, hits, free)) = elim (cases_lt k c) [
  | inl less ↦ inr less
  | inr from ↦ elim (cases_lt c k) [
    | inl less ↦ absurd (passes.0 k n less beyond (stops_downwards_if_free run s u k n w none hits free))
    | inr back ↦ inl (omega (arith, from, back))
  ]
]

-- a hit is beyond the position to which a thread comes that meets none
hit_not_met_is_beyond : (run : List Step) (s : Stub) (d : Direction) (u k c : ℕ) (w : Bool) → s.watches ≡ [] → MeetsNone run s d u w c → IsHitBeyond run s d u k → Beyond d c k
hit_not_met_is_beyond run s Forwards u k c w none meets (beyond, (n, hits, free)) = elim (cases_lt c k) [
  | inl less ↦ less
  | inr from ↦ absurd (meets k n beyond (omega (arith, from)) (stops_upwards_if_free run s u k n w none hits free))
]
hit_not_met_is_beyond run s Backwards u k c w none meets (beyond, (n, hits, free)) = elim (cases_lt k c) [
  | inl less ↦ less
  | inr from ↦ absurd (meets.0 k n from beyond (stops_downwards_if_free run s u k n w none hits free))
]

-- a hit that is beyond a stop is so from there on
hit_past_stop_is_beyond : (run : List Step) (s : Stub) (d : Direction) (u k : ℕ) (h : Halt) → Beyond d (cut_of h.cut u) k → IsHitBeyond run s d u k
    → IsHitBeyond run (stub_behind s h) d u k
hit_past_stop_is_beyond run s Forwards u k h beyond hit = (beyond, hit.1)
hit_past_stop_is_beyond run s Backwards u k h beyond hit = (beyond, hit.1)

-- a thread's own stop at a hit is beyond its position
own_hit_is_beyond : (run : List Step) (s : Stub) (d : Direction) (u : ℕ) (w : Bool) (to : Stopped) → s.watches ≡ [] → StopsInDirection d run s u w to → is_hit to.reason ≡ true
    → Beyond d (position_of s u) to.position
own_hit_is_beyond run s Forwards u w to none (hit, finds, ends) told = by hit finds (ends ∙ ap (λ (ws : List Watched). end_above ws s.breaks (last_of s.desk.fitted u) hit)
    (watches_if_none s w none))
  where
    by : (hit : Option Hit) → IsFirstStop (StopsUpwards run s u w) (position_of s u) hit
        → to ≡ end_above [] s.breaks (last_of s.desk.fitted u) hit → position_of s u < to.position
    by None finds is = absurd (true≢false (sym told ∙ ap (λ (x : Stopped). is_hit x.reason) is))
    by (Some h) finds is = let up = finds.0 in let at = ap (λ (x : Stopped). x.position) is ∙ stop_above_is_at_hit s.breaks h in omega (arith, up, at)
own_hit_is_beyond run s Backwards u w to none goes told = by (position_of s u) refl goes
  where
    below : (hit : Option Hit) → IsLastStop (StopsDownwards run s u w) (position_of s u) hit → to ≡ end_below [] s.breaks hit
        → to.position < position_of s u
    below None finds is = absurd (true≢false (sym told ∙ ap (λ (x : Stopped). is_hit x.reason) is))
    below (Some h) finds is = let down = finds.0 in let at = ap (λ (x : Stopped). x.position) is ∙ stop_below_is_at_hit s.breaks h in omega (arith, down, at)

    of_stop : StopsBelow run s u w to → to.position < position_of s u
    of_stop (hit, finds, ends) = below hit finds (ends ∙ ap (λ (ws : List Watched). end_below ws s.breaks hit) (watches_if_none s w none))

    by : (p : ℕ) → p ≡ position_of s u → ContinuesBackBy run s u w p to → to.position < position_of s u
    by zero here is = absurd (true≢false (sym told ∙ ap (λ (x : Stopped). is_hit x.reason) is))
    by (suc p) here (why, next, back) = of_stop (subst (λ (x : Option Reason). BackBy run s u w (suc p) x to) (no_watch_is_next run s u p w why (watches_if_none s w none) next) back)

-- ---- the stop that ends a `continue`

-- a stop at a hit: its thread comes to its own stop
record IsHitStop (run : List Step) (s : Stub) (d : Direction) (h : Halt) : Type 0 where
  to : Stopped
  watched : Bool
  thread : h.thread < threads_of s.desk.fitted
  goes : StopsInDirection d run s h.thread watched to
  hit : is_hit to.reason ≡ true
  told : is_hit h.reason ≡ true
  comes : Comes run s d h.thread to.position h.cut

met_is_hit_stop : (run : List Step) (s : Stub) (d : Direction) (t n : ℕ) (each : List Stopped) (cut : List ℕ) (h : Halt) → AreStops run s d t each
    → FirstMet run s d each cut n (Some h) → IsHitStop run s d h
met_is_hit_stop run s d t n each cut h stops first = record {
  to = stop_among each h.thread;
  watched = h.thread == t;
  thread = first.1;
  goes = stops.own h.thread first.1;
  hit = (hit_on_way_if_meets s d each cut h.thread first.2.meets).hit;
  told = ap is_hit first.3 ∙ (hit_on_way_if_meets s d each cut h.thread first.2.meets).hit;
  comes = first.2.comes;
}

stop_among_is_hit_stop : (run : List Step) (s : Stub) (d : Direction) (t k : ℕ) (each : List Stopped) (h : Halt) → AreStops run s d t each
    → k < threads_of s.desk.fitted → StopsAmong run s d each k (Some h) → IsHitStop run s d h
stop_among_is_hit_stop run s d t k each h stops below (cut, comes, (met, first, is)) = by met (is_hit (stop_among each k).reason) refl first is
  where
    some_is_not_none : {A : Type 0} {x : A} → ◌≡◌ {A = Option A} (Some x) None → ⊥
    some_is_not_none is = true≢false (ap is_some is)

    by : (met : Option Halt) (hit : Bool) → is_hit (stop_among each k).reason ≡ hit → FirstMet run s d each cut k met
        → Some h ≡ met_or met (own_halt hit (halt k cut (stop_among each k).reason)) → IsHitStop run s d h
    by (Some other) hit told first is = let same : h ≡ other = cc is in subst (IsHitStop run s d) (sym same) (met_is_hit_stop run s d t k each cut other stops first)
    by None true told none is =
        let same : h ≡ halt k cut (stop_among each k).reason = cc is in
        subst (IsHitStop run s d) (sym same) (record {
          to = stop_among each k;
          watched = k == t;
          thread = below;
          goes = stops.own k below;
          hit = told;
          told = told;
          comes = comes;
        })
    by None false told none is = absurd (some_is_not_none is)

-- no point hits a thread beyond its position
abbrev NoneBeyond : List Step → Stub → Direction → Type 0
NoneBeyond run s d = (u k : ℕ) → u < threads_of s.desk.fitted → IsHitBeyond run s d u k → ⊥

not_met_without_hit : (d : Direction) (p : ℕ) (to : Stopped) (k : ℕ) → is_hit to.reason ≡ false → meets_by d p to k ≡ false
not_met_without_hit d p to k none = ap (λ (b : Bool). not (p == k) && (b && is_on_way d to.position k)) none ∙ conjunction_with_false (not (p == k))

no_stop_none_beyond : (run : List Step) (s : Stub) (d : Direction) (t : ℕ) (each : List Stopped) → s.watches ≡ [] → AreStops run s d t each
    → FirstStop run s d each t None → NoneBeyond run s d
no_stop_none_beyond run s d t each none stops (mine, all) u k below hit = beyond_is_not_equal d k k
    (hit_not_met_is_beyond run s d u k k (u == t) none (meets_none_if_not_met run s d u k (u == t) (stop_among each u) (stops.own u below)
    (not_met_without_hit d (position_of s u) (stop_among each u) k hitless)) hit) refl
  where
    hitless : is_hit (stop_among each u).reason ≡ false
    hitless = elim (cases_eq u t) [
      | inl same ↦ subst (λ (x : ℕ). is_hit (stop_among each x).reason ≡ false) (sym same) (no_stop_is_no_hit run s d t each mine)
      | inr other ↦ no_stop_is_no_hit run s d u each (all u below other)
    ]

end_is_no_hit : (d : Direction) → is_hit (reason_at_end d) ≡ false
end_is_no_hit Forwards = refl
end_is_no_hit Backwards = refl

-- it is at a hit, or no thread has one beyond
hit_stop_or_none_beyond : (run : List Step) (s : Stub) (d : Direction) (t : ℕ) (h : Halt) → s.watches ≡ [] → t < threads_of s.desk.fitted
    → ContinuesAmong run s t d h → IsHitStop run s d h ⊎ ((is_hit h.reason ≡ false) × NoneBeyond run s d)
hit_stop_or_none_beyond run s d t h none below (each, stops, (stop, first, is)) = by stop first is
  where
    by : (stop : Option Halt) → FirstStop run s d each t stop → h ≡ halt_or stop (halt t (furthest s d) (reason_at_end d))
        → IsHitStop run s d h ⊎ ((is_hit h.reason ≡ false) × NoneBeyond run s d)
    by None first is = inr (ap (λ (x : Halt). is_hit x.reason) is ∙ end_is_no_hit d, no_stop_none_beyond run s d t each none stops first)
    by (Some other) (inl mine) is = inl (subst (IsHitStop run s d) (sym is) (stop_among_is_hit_stop run s d t t each other stops below mine))
    by (Some other) (inr (free, (k, less, differs, others, its))) is =
        inl (subst (IsHitStop run s d) (sym is) (stop_among_is_hit_stop run s d t k each other stops less its))

hit_stop_if_reason_is_hit : (run : List Step) (s : Stub) (d : Direction) (t : ℕ) (h : Halt) → s.watches ≡ [] → t < threads_of s.desk.fitted → ContinuesAmong run s t d h
    → is_hit h.reason ≡ true → IsHitStop run s d h
hit_stop_if_reason_is_hit run s d t h none below continues told = elim (hit_stop_or_none_beyond run s d t h none below continues) [
  | inl stop ↦ stop
  | inr (isnt, all) ↦ absurd (true≢false (sym told ∙ isnt))
]

none_beyond_if_not_told : (run : List Step) (s : Stub) (d : Direction) (t : ℕ) (h : Halt) → s.watches ≡ [] → t < threads_of s.desk.fitted → ContinuesAmong run s t d h
    → is_hit h.reason ≡ false → NoneBeyond run s d
none_beyond_if_not_told run s d t h none below continues isnt = elim (hit_stop_or_none_beyond run s d t h none below continues) [
  | inl stop ↦ absurd (true≢false (sym stop.told ∙ isnt))
  | inr (end, all) ↦ all
]

-- all threads are then at a consistent cut
stub_stands_at_stop : (run : List Step) (s : Stub) (d : Direction) (h : Halt) → Stands run s → IsHitStop run s d h → Stands run (stub_behind s h)
stub_stands_at_stop run s Forwards h stands stop = record { whole = stands.whole; cut = stop.comes.1.cut; consistent = stop.comes.1.consistent }
stub_stands_at_stop run s Backwards h stands stop = record { whole = stands.whole; cut = stop.comes.1.cut; consistent = stop.comes.1.consistent }

-- its thread has gone on
stop_is_beyond : (run : List Step) (s : Stub) (d : Direction) (h : Halt) → Stands run s → s.watches ≡ [] → IsHitStop run s d h
    → Beyond d (position_of s h.thread) (cut_of h.cut h.thread)
stop_is_beyond run s d h stands none stop =
    let beyond = own_hit_is_beyond run s d h.thread stop.watched stop.to none stop.goes stop.hit in
    subst (Beyond d (position_of s h.thread)) (sym (comes_exactly_there run s stands d h.thread stop.to.position h.cut
    (within_if_beyond d (position_of s h.thread) stop.to.position beyond) stop.comes)) beyond

-- ---- a stop and those behind it

first_shows_hit : (m : ℕ × Halt) (ms : List (ℕ × Halt)) (u k : ℕ) → ShowsAt (m ∷ ms) u k 0 → ShowsHit u k m.1
first_shows_hit m ms u k (x, at, shows) = let same : m ≡ x = cc at in subst (λ (y : ℕ × Halt). ShowsHit u k y.1) (sym same) shows

-- what is shown from a stub on is beyond it
shown_hit_is_beyond : (run : List Step) (s : Stub) (d : Direction) (ms : List (ℕ × Halt)) → Stands run s → s.watches ≡ [] → ContinuesToEnd run s d ms
    → (u k i : ℕ) → ShowsAt ms u k i → Beyond d (position_of s u) k
unfolding ContinuesToEnd
shown_hit_is_beyond run s d [] stands none continues u k i shows = absurd continues
shown_hit_is_beyond run s d (m ∷ []) stands none continues u k zero shows =
    let mine = first_shows_hit m [] u k shows in absurd (true≢false (sym mine.2 ∙ continues.2))
shown_hit_is_beyond run s d (m ∷ []) stands none continues u k (suc i) (x, at, shows) = absurd (true≢false (ap is_none at))
shown_hit_is_beyond run s d (m ∷ next ∷ ms) stands none continues u k zero shows =
    let mine = first_shows_hit m (next ∷ ms) u k shows in
    let stop = hit_stop_if_reason_is_hit run s d m.0 m.1 none continues.0 continues.1 continues.2 in
    let beyond = subst (λ (x : ℕ). Beyond d (position_of s x) (cut_of m.1.cut x)) mine.0 (stop_is_beyond run s d m.1 stands none stop) in
    subst (Beyond d (position_of s u)) mine.1 beyond
shown_hit_is_beyond run s d (m ∷ next ∷ ms) stands none continues u k (suc i) shows =
    let stop = hit_stop_if_reason_is_hit run s d m.0 m.1 none continues.0 continues.1 continues.2 in
    let later = shown_hit_is_beyond run (stub_behind s m.1) d (next ∷ ms) (stub_stands_at_stop run s d m.1 stands stop) none continues.3 u k i shows in
    beyond_after_within d (position_of s u) (cut_of m.1.cut u) k (comes_within_cut run s d m.1.thread stop.to.position m.1.cut stop.comes u) later

pub none_is_shown_twice : (run : List Step) (s : Stub) (d : Direction) (ms : List (ℕ × Halt)) → Stands run s → s.watches ≡ [] → ContinuesToEnd run s d ms
    → (u k i j : ℕ) → ShowsAt ms u k i → ShowsAt ms u k j → i ≡ j
unfolding ContinuesToEnd
none_is_shown_twice run s d [] stands none continues u k i j one two = absurd continues
none_is_shown_twice run s d (m ∷ []) stands none continues u k zero zero one two = refl
none_is_shown_twice run s d (m ∷ []) stands none continues u k zero (suc j) one (x, at, shows) = absurd (true≢false (ap is_none at))
none_is_shown_twice run s d (m ∷ []) stands none continues u k (suc i) j (x, at, shows) two = absurd (true≢false (ap is_none at))
none_is_shown_twice run s d (m ∷ next ∷ ms) stands none continues u k i j one two =
    by (λ a b first second. none_is_shown_twice run (stub_behind s m.1) d (next ∷ ms) (stub_stands_at_stop run s d m.1 stands stop) none continues.3
    u k a b first second) i j one two
  where
    stop : IsHitStop run s d m.1
    stop = hit_stop_if_reason_is_hit run s d m.0 m.1 none continues.0 continues.1 continues.2

    not_later : ShowsHit u k m.1 → (n : ℕ) → ShowsAt (next ∷ ms) u k n → ⊥
    not_later mine n shows = beyond_is_not_equal d (cut_of m.1.cut u) k
        (shown_hit_is_beyond run (stub_behind s m.1) d (next ∷ ms) (stub_stands_at_stop run s d m.1 stands stop) none continues.3 u k n shows) (sym mine.1)

    by : ((i j : ℕ) → ShowsAt (next ∷ ms) u k i → ShowsAt (next ∷ ms) u k j → i ≡ j) → (i j : ℕ) → ShowsAt (m ∷ next ∷ ms) u k i → ShowsAt (m ∷ next ∷ ms) u k j
        → i ≡ j
    by later zero zero one two = refl
    by later zero (suc j) one two = absurd (not_later (first_shows_hit m (next ∷ ms) u k one) j two)
    by later (suc i) zero one two = absurd (not_later (first_shows_hit m (next ∷ ms) u k two) i one)
    by later (suc i) (suc j) one two = ap suc (later i j one two)

-- by the first stop, and by none behind it
shown_once_by_first : (m : ℕ × Halt) (ms : List (ℕ × Halt)) (u k : ℕ) → ShowsHit u k m.1 → ((i : ℕ) → ShowsAt ms u k i → ⊥) → IsShownOnce (m ∷ ms) u k
shown_once_by_first m ms u k shows none = (0, (m, refl, shows), λ j is. by j is)
  where
    by : (j : ℕ) → ShowsAt (m ∷ ms) u k j → j ≡ 0
    by zero is = refl
    by (suc j) is = absurd (none j is)

-- by one behind the first, and not by that
shown_once_by_later : (m : ℕ × Halt) (ms : List (ℕ × Halt)) (u k : ℕ) → (ShowsHit u k m.1 → ⊥) → IsShownOnce ms u k → IsShownOnce (m ∷ ms) u k
shown_once_by_later m ms u k not (i, shows, only) = (suc i, shows, λ j is. by j is)
  where
    by : (j : ℕ) → ShowsAt (m ∷ ms) u k j → j ≡ suc i
    by zero is = absurd (not (first_shows_hit m ms u k is))
    by (suc j) is = ap suc (only j is)

pub hit_beyond_shown_once : (run : List Step) (s : Stub) (d : Direction) (ms : List (ℕ × Halt)) → Stands run s → s.watches ≡ []
    → ContinuesToEnd run s d ms → (u k : ℕ) → u < threads_of s.desk.fitted → IsHitBeyond run s d u k → IsShownOnce ms u k
unfolding ContinuesToEnd
hit_beyond_shown_once run s d [] stands none continues u k below hit = absurd continues
hit_beyond_shown_once run s d (m ∷ []) stands none continues u k below hit =
    absurd (none_beyond_if_not_told run s d m.0 m.1 none continues.0 continues.1 continues.2 u k below hit)
hit_beyond_shown_once run s d (m ∷ next ∷ ms) stands none continues u k below hit =
    by (λ beyond. hit_beyond_shown_once run (stub_behind s m.1) d (next ∷ ms) (stub_stands_at_stop run s d m.1 stands stop) none continues.3 u k below
    (hit_past_stop_is_beyond run s d u k m.1 beyond hit))
  where
    stop : IsHitStop run s d m.1
    stop = hit_stop_if_reason_is_hit run s d m.0 m.1 none continues.0 continues.1 continues.2

    passes : PassesNoHit run s m.0 d m.1
    passes = continue_passes_no_hit run s stands d m.0 m.1 continues.0 continues.1

    not_here : Beyond d (cut_of m.1.cut u) k → ShowsHit u k m.1 → ⊥
    not_here beyond shows = beyond_is_not_equal d (cut_of m.1.cut u) k beyond (sym shows.1)

    not_later : k ≡ cut_of m.1.cut u → (i : ℕ) → ShowsAt (next ∷ ms) u k i → ⊥
    not_later at i shows = beyond_is_not_equal d (cut_of m.1.cut u) k
        (shown_hit_is_beyond run (stub_behind s m.1) d (next ∷ ms) (stub_stands_at_stop run s d m.1 stands stop) none continues.3 u k i shows) at

    by : (Beyond d (cut_of m.1.cut u) k → IsShownOnce (next ∷ ms) u k) → IsShownOnce (m ∷ next ∷ ms) u k
    by later = elim (cases_eq m.1.thread u) [
      | inr other ↦
          let beyond = hit_not_met_is_beyond run s d u k (cut_of m.1.cut u) (u == m.0) none (passes.others u below (λ same. other (sym same))) hit in
          shown_once_by_later m (next ∷ ms) u k (not_here beyond) (later beyond)
      | inl same ↦ elim (hit_not_passed_is_beyond run s d u k (cut_of m.1.cut u) (u == m.0) none
          (subst (λ (x : ℕ). PassesNone run s d x (x == m.0) (cut_of m.1.cut x)) same passes.own) hit) [
            | inl at ↦ shown_once_by_first m (next ∷ ms) u k (same, sym at, stop.told) (not_later at)
            | inr beyond ↦ shown_once_by_later m (next ∷ ms) u k (not_here beyond) (later beyond)
          ]
    ]

-- ---- conditions

directed_points_of_any : (s : Stub) (d : Direction) (u : ℕ) (w : Bool) → s.watches ≡ [] → directed_points d s u ≡ points_in d s u w
directed_points_of_any s Forwards u w none = upwards_of_any s u w none
directed_points_of_any s Backwards u w none = downwards_of_any s u w none

-- the stop of a thread at a hit: the point of a number stops it there
record IsStopOf (run : List Step) (s : Stub) (d : Direction) (u : ℕ) (w : Bool) (to : Stopped) (n : ℕ) : Type 0 where
  stops : StopsIn d run s u w to.position n

stop_of_upward_hit : (run : List Step) (s : Stub) (u : ℕ) (w : Bool) (to : Stopped) → s.watches ≡ [] → StopsInDirection Forwards run s u w to
    → is_hit to.reason ≡ true → (n : ℕ) × IsStopOf run s Forwards u w to n
stop_of_upward_hit run s u w to none (None, finds, ends) told = absurd (true≢false (sym told ∙ ap (λ (x : Stopped). is_hit x.reason) ends))
stop_of_upward_hit run s u w to none (Some g, finds, ends) told =
    let at = ap (λ (x : Stopped). x.position) (ends ∙ ap (λ (ws : List Watched). end_above ws s.breaks (last_of s.desk.fitted u) (Some g)) (watches_if_none s w none))
    ∙ stop_above_is_at_hit s.breaks g in
    (g.number, record { stops = subst (λ (k : ℕ). StopsUpwards run s u w k g.number) (sym at) finds.2.stops })

stop_of_downward_hit : (run : List Step) (s : Stub) (u : ℕ) (w : Bool) (to : Stopped) → s.watches ≡ [] → StopsInDirection Backwards run s u w to
    → is_hit to.reason ≡ true → (n : ℕ) × IsStopOf run s Backwards u w to n
stop_of_downward_hit run s u w to none goes told = by (position_of s u) goes
  where
    of_stop : StopsBelow run s u w to → (n : ℕ) × IsStopOf run s Backwards u w to n
    of_stop (None, finds, ends) = absurd (true≢false (sym told ∙ ap (λ (x : Stopped). is_hit x.reason) ends))
    of_stop (Some g, finds, ends) =
        let at = ap (λ (x : Stopped). x.position) (ends ∙ ap (λ (ws : List Watched). end_below ws s.breaks (Some g)) (watches_if_none s w none))
        ∙ stop_below_is_at_hit s.breaks g in
        (g.number, record { stops = subst (λ (k : ℕ). StopsDownwards run s u w k g.number) (sym at) finds.2.stops })

    by : (p : ℕ) → ContinuesBackBy run s u w p to → (n : ℕ) × IsStopOf run s Backwards u w to n
    by zero is = absurd (true≢false (sym told ∙ ap (λ (x : Stopped). is_hit x.reason) is))
    by (suc p) (why, next, back) = of_stop (subst (λ (x : Option Reason). BackBy run s u w (suc p) x to) (no_watch_is_next run s u p w why (watches_if_none s w none) next) back)

stop_of_hit : (run : List Step) (s : Stub) (d : Direction) (u : ℕ) (w : Bool) (to : Stopped) → s.watches ≡ [] → StopsInDirection d run s u w to
    → is_hit to.reason ≡ true → (n : ℕ) × IsStopOf run s d u w to n
stop_of_hit run s Forwards u w to none goes told = stop_of_upward_hit run s u w to none goes told
stop_of_hit run s Backwards u w to none goes told = stop_of_downward_hit run s u w to none goes told

pub shown_condition_is_met : (run : List Step) (s : Stub) (d : Direction) (t : ℕ) (h : Halt) → Stands run s → IsStub s → s.watches ≡ [] → t < threads_of s.desk.fitted
    → ContinuesAmong run s t d h → is_hit h.reason ≡ true → IsConditional run s d h.thread (cut_of h.cut h.thread) → IsConditionMet run s h
shown_condition_is_met run s d t h stands is none below continues told conditional =
    let met = guarded_stop_is_met run s d u stop.watched stop.to.position h.cut stop.comes here few found.0 guard found.1.stops in
    (met.0, met.1, met.2.at, met.2.met)
  where
    stop : IsHitStop run s d h
    stop = hit_stop_if_reason_is_hit run s d t h none below continues told

    u : ℕ
    u = h.thread

    found : (n : ℕ) × IsStopOf run s d u stop.watched stop.to n
    found = stop_of_hit run s d u stop.watched stop.to none stop.goes stop.hit

    here : cut_of h.cut u ≡ stop.to.position
    here = comes_exactly_there run s stands d u stop.to.position h.cut
        (within_if_beyond d (position_of s u) stop.to.position (own_hit_is_beyond run s d u stop.watched stop.to none stop.goes stop.hit)) stop.comes

    few : length s.breaks + length (watches_if s stop.watched) ≤ most_stub_points
    few =
        let all = is.few in
        let own = ap (λ (ws : List Watched). length ws) none in
        let mine = ap (λ (ws : List Watched). length ws) (watches_if_none s stop.watched none) in
        omega (arith, all, own, mine)

    guard : has_guard found.0 ≡ true
    guard = conditional found.0 (subst (λ (k : ℕ). HitByNumber s.desk.fitted run (directed_points d s u) u k found.0) (sym here)
        (subst (λ (points : List Numbered). HitByNumber s.desk.fitted run points u stop.to.position found.0) (sym (directed_points_of_any s d u stop.watched none))
        found.1.stops.0))
