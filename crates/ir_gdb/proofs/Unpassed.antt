-- A move of the threads together passes no hit.
use Rattle.std.proofs.Common.{◌≡◌, ◌≢◌, ◌<◌, ◌≤◌, ◌+◌, ◌-◌, ◌⊎◌, ◌∙◌, ℕ, zero, suc, Bool, true, false, List, Option, Some, None, is_some}
use Rattle.std.proofs.Common.{is_none, true≢false, inl, inr, refl, sym, ap, subst, arith, eq-eqb, ne_eqb}
use Rattle.std.specs.Prelude.{◌&&◌, ◌==◌, not, nat_lt, length, option_map, if◌then◌else◌}
use Rattle.std.proofs.lemmas.Bool.{cases_eq, cases_lt, eqb-true, or_parts}
use Rattle.ir_lemmas.proofs.CallerLemmas.{conjunction_with_false}
use Rattle.ir_runs.specs.Run.{Step}
use Rattle.ir_cut.specs.Positions.{cut_of, threads_of, last_of}
use Rattle.ir_command.specs.declared.command.Direction.{Direction}
use Rattle.ir_command.specs.declared.command.Direction.TheVariants.{Forwards, Backwards}
use Rattle.ir_command.specs.declared.hit.Hit.{Hit}
use Rattle.ir_hits.specs.Searching.{IsNextHit}
use Rattle.ir_packet.specs.declared.reply.Reason.{Reason}
use Rattle.ir_packet.specs.declared.request.Motion.{Motion}
use Rattle.ir_packet.specs.declared.request.Motion.TheVariants as motion
use Rattle.ir_gdb.specs.declared.point.Watched.{Watched}
use Rattle.ir_gdb.specs.declared.stopped.Stopped.{Stopped}
use Rattle.ir_gdb.specs.Guards.{Guarded, place_of}
use Rattle.ir_gdb.specs.Points.{watch_points, watches_if}
use Rattle.ir_gdb.specs.Conditions.{StopsUpwards, NoneStopsWithin, IsLowestThat, IsFirstStop, IsNextStop}
use Rattle.ir_gdb.specs.Stub.{Stub}
use Rattle.ir_gdb.specs.Stops.{stopped, position_of, break_reason, watch_reason, stop_above, end_above, is_hit, after_step, StepsBy}
use Rattle.ir_gdb.specs.Stops.{StepsTo, end_of_range, after_range, Leaves, RangesTo, after_back, StepsBackBy, StopsInDirection}
use Rattle.ir_gdb.specs.Stops.{direction_of, reason_at_end}
use Rattle.ir_gdb.specs.Together.{Halt, halt, Comes, stop_among, AreStops, is_on_way, meets, FirstMet, halt_or, moves, moves_other, MetBy}
use Rattle.ir_gdb.specs.Together.{own_halt, met_or, StopsAmong, FirstStop, furthest, ContinuesAmong, MovesAmong}
use Rattle.ir_gdb.specs.Laws.{MeetsNone, PassesNone, PassesNoHit, Stands}
use Rattle.ir_gdb.proofs.Ways.{stop_above_le_hit, hit_le_suc_stop_above, meets_none_if_not_met, meets_none_if_it_stays}
use Rattle.ir_gdb.proofs.Ways.{passes_none_to_own_stop, meets_none_passes_none, own_stop_is_behind, own_stop_is_ahead}
use Rattle.ir_gdb.proofs.Blocked.{Within, comes_exactly_there, meets_none_of_free, none_met_on_way}

here_within_last : (run : List Step) (s : Stub) → Stands run s → (t : ℕ) → t < threads_of s.desk.fitted → position_of s t ≤ last_of s.desk.fitted t
here_within_last run s stands t below =
    let here = stands.cut t in let count = stands.whole.1.steps t below in omega (arith, here, count)

-- ---- what a few steps of a thread pass

-- a thread moves to `to`: not behind it, past no hit, and no further than to its own hit
record IsMove (run : List Step) (s : Stub) (d : Direction) (t : ℕ) (to : Stopped) : Type 0 where
  ahead : Within d (position_of s t) to.position
  none : PassesNone run s d t true to.position
  near : (own : Stopped) → StopsInDirection d run s t true own → (k : ℕ) → position_of s t ≢ k → Within d (position_of s t) k → is_hit own.reason ≡ true
      → Within d own.position k → Within d to.position k

-- one step forwards, or none
step_is_move : (run : List Step) (s : Stub) (t : ℕ) (to : Stopped) → position_of s t ≤ to.position → to.position ≤ suc (position_of s t)
    → IsMove run s Forwards t to
step_is_move run s t to ahead one = record {
  ahead = ahead;
  none = λ j n low high hits. omega (arith, low, high, one);
  near = λ own goes k moved up hit way. elim (cases_lt (position_of s t) k) [
    | inl less ↦ omega (arith, less, one)
    | inr from ↦ absurd (moved (omega (arith, from, up)))
  ];
}

steps_are_move : (run : List Step) (s : Stub) (t : ℕ) (to : Stopped) → StepsTo run s t true to → IsMove run s Forwards t to
steps_are_move run s t to steps = by (nat_lt (position_of s t) (last_of s.desk.fitted t)) steps
  where
    at_why : (why : Option Reason) → to ≡ after_step (position_of s t) why → IsMove run s Forwards t to
    at_why None is = let at = ap (λ (x : Stopped). x.position) is in step_is_move run s t to (omega (arith, at)) (omega (arith, at))
    at_why (Some why) is = let at = ap (λ (x : Stopped). x.position) is in step_is_move run s t to (omega (arith, at)) (omega (arith, at))

    by : (b : Bool) → StepsBy b run s t true (position_of s t) to → IsMove run s Forwards t to
    by true (why, next, is) = at_why why is
    by false is = let at = ap (λ (x : Stopped). x.position) is in step_is_move run s t to (omega (arith, at)) (omega (arith, at))

-- one step backwards, or none
step_back_is_move : (run : List Step) (s : Stub) (t p : ℕ) (to : Stopped) → p ≡ position_of s t → StepsBackBy run s t true p to → IsMove run s Backwards t to
step_back_is_move run s t zero to here is =
    let at = ap (λ (x : Stopped). x.position) is in
    record {
      ahead = omega (arith, at);
      none = (λ j n low high hits. omega (arith, high, here), λ moved. absurd (omega (arith, moved, here)));
      near = λ own goes k moved down hit way. absurd (moved (omega (arith, down, here)));
    }
step_back_is_move run s t (suc p) to here (why, (hit, next, told), is) = by hit next why told is
  where
    by : (hit : Option Hit) → IsNextHit s.desk.fitted run (watch_points t 0 (watches_if s true)) t p (p + 1) hit → (why : Option Reason)
        → why ≡ option_map (λ (h : Hit). watch_reason (watches_if s true) h.number) hit → to ≡ after_back p why → IsMove run s Backwards t to
    by None next (Some why) told is = absurd (cc told)
    by (Some h) next None told is = absurd (cc told)
    by None next None told is =
        let at = ap (λ (x : Stopped). x.position) is in
        record {
          ahead = omega (arith, at, here);
          none = (
            λ j n low high hits. omega (arith, low, high, here, at),
            λ moved j n low high hits. next j n (omega (arith, low, here)) (omega (arith, high, here)) hits,
          );
          near = λ own goes k moved down hit way. elim (cases_lt k (position_of s t)) [
            | inl less ↦ omega (arith, less, here, at)
            | inr from ↦ absurd (moved (omega (arith, from, down)))
          ];
        }
    by (Some h) next (Some why) told is =
        let at = ap (λ (x : Stopped). x.position) is in
        record {
          ahead = omega (arith, at, here);
          none = (λ j n low high hits. omega (arith, low, high, here, at), λ moved. absurd (omega (arith, moved, here, at)));
          near = λ own goes k moved down hit way. omega (arith, down, at, here);
        }

-- ---- a range

-- the first hit of a thread in a window is its first of all
first_hit_position_unique : (P : ℕ → ℕ → Type 0) (p to : ℕ) (h k : Hit) → IsNextStop P p to (Some h) → IsFirstStop P p (Some k) → h.position ≡ k.position
first_hit_position_unique P p to h k next first = elim (cases_lt h.position k.position) [
  | inl less ↦ (let up = next.0 in absurd (first.1 h.position h.number up less next.3.stops))
  | inr from ↦ elim (cases_lt k.position h.position) [
    | inl less ↦ (let up = first.0 in absurd (next.2 k.position k.number up less first.2.stops))
    | inr back ↦ omega (arith, from, back)
  ]
]

lowest_number_unique : (P : ℕ → ℕ → Type 0) (i j n m : ℕ) → i ≡ j → IsLowestThat P i n → IsLowestThat P j m → n ≡ m
lowest_number_unique P i j n m same one two =
    let le = one.lowest m (subst (λ (k : ℕ). P k m) (sym same) two.stops) in
    let ge = two.lowest n (subst (λ (k : ℕ). P k n) same one.stops) in
    omega (arith, le, ge)

stop_above_at : List Watched → List Guarded → ℕ → ℕ → ℕ
stop_above_at ws bs position number = (if nat_lt number (length ws) then stopped (position - 1) (watch_reason ws number)
    else stopped position (break_reason bs (place_of number - length ws))).position

stop_above_by_equal_hits : (ws : List Watched) (bs : List Guarded) (h k : Hit) → h.position ≡ k.position → h.number ≡ k.number
    → (stop_above ws bs h).position ≡ (stop_above ws bs k).position
unfolding stop_above_at
stop_above_by_equal_hits ws bs h k place number = ap (λ (p : ℕ). stop_above_at ws bs p h.number) place ∙ ap (λ (n : ℕ). stop_above_at ws bs k.position n) number

after_range_at_end : (last : ℕ) (left : Option ℕ) → (after_range last left).position ≡ end_of_range last left
after_range_at_end last None = refl
after_range_at_end last (Some k) = refl

range_ends_ahead : (run : List Step) (s : Stub) (t low high : ℕ) (left : Option ℕ) → position_of s t ≤ last_of s.desk.fitted t → Leaves run s t low high left
    → position_of s t ≤ end_of_range (last_of s.desk.fitted t) left
range_ends_ahead run s t low high None within leaves = within
range_ends_ahead run s t low high (Some k) within leaves = let up = leaves.0 in omega (arith, up)

-- it ends where it leaves the range
range_to_end_is_move : (run : List Step) (s : Stub) (t end : ℕ) (to : Stopped) → position_of s t ≤ end → to.position ≡ end
    → NoneStopsWithin (StopsUpwards run s t true) (suc (position_of s t)) (suc end) → IsMove run s Forwards t to
range_to_end_is_move run s t end to ahead at none = record {
  ahead = omega (arith, ahead, at);
  none = λ j n low high hits. none j n low (omega (arith, high, at)) hits;
  near = λ own goes k moved up hit way. by own goes k hit way;
}
  where
    of_hit : (own : Stopped) (other : Option Hit) → IsFirstStop (StopsUpwards run s t true) (position_of s t) other
        → own ≡ end_above (watches_if s true) s.breaks (last_of s.desk.fitted t) other → (k : ℕ) → is_hit own.reason ≡ true → own.position ≤ k → to.position ≤ k
    of_hit own None first ends k hit way = absurd (true≢false (sym hit ∙ ap (λ (x : Stopped). is_hit x.reason) ends))
    of_hit own (Some h) first ends k hit way = elim (cases_lt end h.position) [
      | inl less ↦
          let place = ap (λ (x : Stopped). x.position) ends in
          let next = hit_le_suc_stop_above (watches_if s true) s.breaks h in
          omega (arith, less, place, next, way, at)
      | inr from ↦ (let up = first.0 in absurd (none h.position h.number up (omega (arith, from)) first.2.stops))
    ]

    by : (own : Stopped) → StopsInDirection Forwards run s t true own → (k : ℕ) → is_hit own.reason ≡ true → own.position ≤ k → to.position ≤ k
    by own (other, first, ends) k hit way = of_hit own other first ends k hit way

-- or at a hit
range_to_hit_is_move : (run : List Step) (s : Stub) (t end : ℕ) (h : Hit) (to : Stopped) → IsNextStop (StopsUpwards run s t true) (position_of s t) end (Some h)
    → to ≡ stop_above (watches_if s true) s.breaks h → IsMove run s Forwards t to
range_to_hit_is_move run s t end h to next is =
    let at = ap (λ (x : Stopped). x.position) is in
    let up = next.0 in
    let near = hit_le_suc_stop_above (watches_if s true) s.breaks h in
    let under = stop_above_le_hit (watches_if s true) s.breaks h in
    record {
      ahead = omega (arith, at, up, near);
      none = λ j n low high hits. next.2 j n low (omega (arith, high, at, under)) hits;
      near = λ own goes k moved up hit way. by own goes k hit way;
    }
  where
    of_hit : (own : Stopped) (other : Option Hit) → IsFirstStop (StopsUpwards run s t true) (position_of s t) other
        → own ≡ end_above (watches_if s true) s.breaks (last_of s.desk.fitted t) other → (k : ℕ) → is_hit own.reason ≡ true → own.position ≤ k → to.position ≤ k
    of_hit own None first ends k hit way = absurd (true≢false (sym hit ∙ ap (λ (x : Stopped). is_hit x.reason) ends))
    of_hit own (Some other) first ends k hit way =
        let place = first_hit_position_unique (StopsUpwards run s t true) (position_of s t) end h other next first in
        let number = lowest_number_unique (StopsUpwards run s t true) h.position other.position h.number other.number place next.3 first.2 in
        let same = stop_above_by_equal_hits (watches_if s true) s.breaks h other place number in
        let here = ap (λ (x : Stopped). x.position) is in
        let there = ap (λ (x : Stopped). x.position) ends in
        omega (arith, same, here, there, way)

    by : (own : Stopped) → StopsInDirection Forwards run s t true own → (k : ℕ) → is_hit own.reason ≡ true → own.position ≤ k → to.position ≤ k
    by own (other, first, ends) k hit way = of_hit own other first ends k hit way

range_is_move : (run : List Step) (s : Stub) (t low high : ℕ) (to : Stopped) → position_of s t ≤ last_of s.desk.fitted t → RangesTo run s t low high true to
    → IsMove run s Forwards t to
range_is_move run s t low high to within (left, leaves, (None, next, is)) =
    range_to_end_is_move run s t (end_of_range (last_of s.desk.fitted t) left) to (range_ends_ahead run s t low high left within leaves)
    (ap (λ (x : Stopped). x.position) is ∙ after_range_at_end (last_of s.desk.fitted t) left) next
range_is_move run s t low high to within (left, leaves, (Some h, next, is)) =
    range_to_hit_is_move run s t (end_of_range (last_of s.desk.fitted t) left) h to next is

-- ---- the stop of a thread that is met

-- another thread that has no hit on the way to the stop has passed none
others_meet_no_hit : (run : List Step) (s : Stub) (d : Direction) (t : ℕ) (each : List Stopped) (h : Halt) → AreStops run s d t each
    → ((u : ℕ) → u < threads_of s.desk.fitted → u ≢ h.thread → meets s d each h.cut u ≡ false)
    → (u : ℕ) → u < threads_of s.desk.fitted → u ≢ h.thread → MeetsNone run s d u (u == t) (cut_of h.cut u)
others_meet_no_hit run s d t each h stops none u below other =
    meets_none_if_not_met run s d u (cut_of h.cut u) (u == t) (stop_among each u) (stops.own u below) (none u below other)

-- a thread's own stop isn't behind it
own_stop_is_within : (run : List Step) (s : Stub) → Stands run s → (d : Direction) (u : ℕ) (w : Bool) (to : Stopped) → u < threads_of s.desk.fitted → StopsInDirection d run s u w to
    → Within d (position_of s u) to.position
own_stop_is_within run s stands Forwards u w to below goes =
    own_stop_is_ahead run s u (last_of s.desk.fitted u) w to (here_within_last run s stands u below) refl goes
own_stop_is_within run s stands Backwards u w to below goes = own_stop_is_behind run s u w to goes

-- a thread that comes to its own stop, with no hit of another on the way
own_stop_passes_no_hit : (run : List Step) (s : Stub) → Stands run s → (d : Direction) (t : ℕ) (each : List Stopped) (h : Halt) → AreStops run s d t each
    → h.thread < threads_of s.desk.fitted → Comes run s d h.thread (stop_among each h.thread).position h.cut
    → ((u : ℕ) → u < threads_of s.desk.fitted → u ≢ h.thread → meets s d each h.cut u ≡ false) → PassesNoHit run s t d h
own_stop_passes_no_hit run s stands d t each h stops below comes none = record {
  others = others_meet_no_hit run s d t each h stops none;
  own = passes_none_to_own_stop run s d h.thread (cut_of h.cut h.thread) (h.thread == t) (stop_among each h.thread) (stops.own h.thread below)
      (comes_exactly_there run s stands d h.thread (stop_among each h.thread).position h.cut
      (own_stop_is_within run s stands d h.thread (h.thread == t) (stop_among each h.thread) below (stops.own h.thread below)) comes);
}

met_stop_passes_no_hit : (run : List Step) (s : Stub) → Stands run s → (d : Direction) (t n : ℕ) (each : List Stopped) (cut : List ℕ) (h : Halt) → AreStops run s d n each
    → FirstMet run s d each cut t (Some h) → PassesNoHit run s n d h
met_stop_passes_no_hit run s stands d t n each cut h stops first =
    own_stop_passes_no_hit run s stands d n each h stops first.1 first.2.comes (meets_none_of_free s d each h.cut h.thread (threads_of s.desk.fitted) first.2.free)

-- ---- all continue

-- thread k, which continues to its own stop, is met by none
pub none_meets_on_way : (run : List Step) (s : Stub) → Stands run s → (d : Direction) (t : ℕ) (each : List Stopped) (cut : List ℕ)
    → Comes run s d t (stop_among each t).position cut → FirstMet run s d each cut t None
    → (u : ℕ) → u < threads_of s.desk.fitted → u ≢ t → meets s d each cut u ≡ false
none_meets_on_way run s stands d t each cut comes none =
    none_met_on_way run s stands d each t (stop_among each t).position cut comes (λ k moved on hit way. way) none

stop_passes_no_hit : (run : List Step) (s : Stub) → Stands run s → (d : Direction) (t k : ℕ) (each : List Stopped) (h : Halt) → AreStops run s d t each
    → k < threads_of s.desk.fitted → StopsAmong run s d each k (Some h) → PassesNoHit run s t d h
stop_passes_no_hit run s stands d t k each h stops below (cut, comes, (met, first, is)) = by met (is_hit (stop_among each k).reason) first is
  where
    by : (met : Option Halt) (hit : Bool) → FirstMet run s d each cut k met → Some h ≡ met_or met (own_halt hit (halt k cut (stop_among each k).reason))
        → PassesNoHit run s t d h
    by (Some other) hit first is =
        let same : h ≡ other = cc is in subst (PassesNoHit run s t d) (sym same) (met_stop_passes_no_hit run s stands d k t each cut other stops first)
    by None true none is =
        let same : h ≡ halt k cut (stop_among each k).reason = cc is in
        subst (PassesNoHit run s t d) (sym same) (own_stop_passes_no_hit run s stands d t each (halt k cut (stop_among each k).reason) stops below comes
        (none_meets_on_way run s stands d k each cut comes none))
    by None false none is = absurd (some_is_not_none is)
      where
        some_is_not_none : {A : Type 0} {x : A} → ◌≡◌ {A = Option A} (Some x) None → ⊥
        some_is_not_none is = true≢false (ap is_some is)

-- a thread that has no stop has no hit
pub no_stop_is_no_hit : (run : List Step) (s : Stub) (d : Direction) (k : ℕ) (each : List Stopped) → StopsAmong run s d each k None
    → is_hit (stop_among each k).reason ≡ false
no_stop_is_no_hit run s d k each (cut, comes, (met, first, is)) = by met (is_hit (stop_among each k).reason) is
  where
    some_is_not_none : {A : Type 0} {x : A} → ◌≡◌ {A = Option A} None (Some x) → ⊥
    some_is_not_none is = true≢false (ap is_none is)

    by : (met : Option Halt) (hit : Bool) → None ≡ met_or met (own_halt hit (halt k cut (stop_among each k).reason)) → hit ≡ false
    by None false is = refl
    by None true is = absurd (some_is_not_none is)
    by (Some other) hit is = absurd (some_is_not_none is)

no_hit_reason_meets_none : (s : Stub) (d : Direction) (each : List Stopped) (cut : List ℕ) (u : ℕ) → is_hit (stop_among each u).reason ≡ false → meets s d each cut u ≡ false
no_hit_reason_meets_none s d each cut u none =
    ap (λ (b : Bool). not (position_of s u == cut_of cut u) && (b && is_on_way d (stop_among each u).position (cut_of cut u))) none
    ∙ conjunction_with_false (not (position_of s u == cut_of cut u))

no_stop_passes_no_hit : (run : List Step) (s : Stub) (d : Direction) (t : ℕ) (each : List Stopped) (h : Halt) → AreStops run s d t each → t < threads_of s.desk.fitted
    → h.thread ≡ t → FirstStop run s d each t None → PassesNoHit run s t d h
no_stop_passes_no_hit run s d t each h stops below at (mine, all) = record {
  others = λ u less other. of_thread u less;
  own = meets_none_passes_none run s d h.thread (cut_of h.cut h.thread) (h.thread == t) (of_thread h.thread (omega (arith, below, at)));
}
  where
    hitless : (u : ℕ) → u < threads_of s.desk.fitted → is_hit (stop_among each u).reason ≡ false
    hitless u less = elim (cases_eq u t) [
      | inl same ↦ subst (λ (x : ℕ). is_hit (stop_among each x).reason ≡ false) (sym same) (no_stop_is_no_hit run s d t each mine)
      | inr other ↦ no_stop_is_no_hit run s d u each (all u less other)
    ]

    of_thread : (u : ℕ) → u < threads_of s.desk.fitted → MeetsNone run s d u (u == t) (cut_of h.cut u)
    of_thread u less = meets_none_if_not_met run s d u (cut_of h.cut u) (u == t) (stop_among each u) (stops.own u less)
        (no_hit_reason_meets_none s d each h.cut u (hitless u less))

pub continue_passes_no_hit : (run : List Step) (s : Stub) → Stands run s → (d : Direction) (t : ℕ) (h : Halt) → t < threads_of s.desk.fitted → ContinuesAmong run s t d h
    → PassesNoHit run s t d h
continue_passes_no_hit run s stands d t h below (each, stops, (stop, first, is)) = by stop first is
  where
    by : (stop : Option Halt) → FirstStop run s d each t stop → h ≡ halt_or stop (halt t (furthest s d) (reason_at_end d)) → PassesNoHit run s t d h
    by None first is = no_stop_passes_no_hit run s d t each h stops below (ap (λ (x : Halt). x.thread) is) first
    by (Some other) (inl mine) is = subst (PassesNoHit run s t d) (sym is) (stop_passes_no_hit run s stands d t t each other stops below mine)
    by (Some other) (inr (none, (k, less, differs, others, its))) is =
        subst (PassesNoHit run s t d) (sym is) (stop_passes_no_hit run s stands d t k each other stops less its)

-- ---- a few steps

unmoved_thread_stays : (s : Stub) (cut : List ℕ) (t n : ℕ) → moves_other s cut t n ≡ false → (u : ℕ) → u < n → u ≢ t → position_of s u ≡ cut_of cut u
unfolding moves_other
unmoved_thread_stays s cut t zero test u below other = absurd (omega (arith, below))
unmoved_thread_stays s cut t (suc n) test u below other = by (or_parts (moves_other s cut t n) (moves s cut t n) test) (cases_eq u n)
    (λ earlier less. unmoved_thread_stays s cut t n earlier u less other)
  where
    unmoved : (a b : Bool) → a ≡ false → (not a && not b) ≡ false → b ≡ true
    unmoved true b is test = absurd (true≢false is)
    unmoved false true is test = refl
    unmoved false false is test = absurd (true≢false test)

    by : (moves_other s cut t n ≡ false) × (moves s cut t n ≡ false) → (u ≡ n) ⊎ (u ≢ n)
        → (moves_other s cut t n ≡ false → u < n → position_of s u ≡ cut_of cut u) → position_of s u ≡ cut_of cut u
    by parts (inl same) earlier = subst (λ (x : ℕ). position_of s x ≡ cut_of cut x) (sym same) (eqb-true (position_of s n) (cut_of cut n)
        (unmoved (n == t) (position_of s n == cut_of cut n) (ne_eqb n t (λ is. other (same ∙ is))) parts.1))
    by parts (inr differs) earlier = earlier parts.0 (omega (arith, below, differs))

few_steps_pass_no_hit : (run : List Step) (s : Stub) → Stands run s → (d : Direction) (t : ℕ) (to : Stopped) (cut : List ℕ) (h : Halt) → t < threads_of s.desk.fitted
    → IsMove run s d t to → Comes run s d t to.position cut
    → MetBy (moves_other s cut t (threads_of s.desk.fitted)) run s d cut (halt t cut to.reason) h → PassesNoHit run s t d h
few_steps_pass_no_hit run s stands d t to cut h below move comes met_by = by (moves_other s cut t (threads_of s.desk.fitted)) refl met_by
  where
    own : PassesNone run s d t (t == t) (cut_of cut t)
    own = subst (λ (b : Bool). PassesNone run s d t b (cut_of cut t)) (sym (eq-eqb t t refl))
        (subst (PassesNone run s d t true) (sym (comes_exactly_there run s stands d t to.position cut move.ahead comes)) move.none)

    of_none : ((u : ℕ) → u < threads_of s.desk.fitted → u ≢ t → MeetsNone run s d u (u == t) (cut_of cut u)) → h ≡ halt t cut to.reason → PassesNoHit run s t d h
    of_none others is = subst (PassesNoHit run s t d) (sym is) (record { others = others; own = own })

    of_met : (each : List Stopped) → AreStops run s d t each → (met : Option Halt) → FirstMet run s d each cut t met → h ≡ halt_or met (halt t cut to.reason)
        → PassesNoHit run s t d h
    of_met each stops (Some other) first is = subst (PassesNoHit run s t d) (sym is) (met_stop_passes_no_hit run s stands d t t each cut other stops first)
    of_met each stops None none is = of_none (others_meet_no_hit run s d t each (halt t cut to.reason) stops
        (none_met_on_way run s stands d each t to.position cut comes
        (move.near (stop_among each t) (subst (λ (b : Bool). StopsInDirection d run s t b (stop_among each t)) (eq-eqb t t refl) (stops.own t below))) none)) is

    by : (b : Bool) → moves_other s cut t (threads_of s.desk.fitted) ≡ b → MetBy b run s d cut (halt t cut to.reason) h → PassesNoHit run s t d h
    by false stays is = of_none (λ u less other. meets_none_if_it_stays run s d u (cut_of cut u) (u == t)
        (unmoved_thread_stays s cut t (threads_of s.desk.fitted) stays u less other)) is
    by true moved (each, stops, (met, first, is)) = of_met each stops met first is

pub move_passes_no_hit : (run : List Step) (s : Stub) (t : ℕ) (m : Motion) (h : Halt) → Stands run s → t < threads_of s.desk.fitted → MovesAmong run s t m h
    → PassesNoHit run s t (direction_of m) h
move_passes_no_hit run s t motion.Step h stands below (to, steps, (cut, comes, met_by)) =
    few_steps_pass_no_hit run s stands Forwards t to cut h below (steps_are_move run s t to steps) comes met_by
move_passes_no_hit run s t (motion.Range low high) h stands below (to, ranges, (cut, comes, met_by)) =
    few_steps_pass_no_hit run s stands Forwards t to cut h below (range_is_move run s t low high to (here_within_last run s stands t below) ranges) comes met_by
move_passes_no_hit run s t motion.Continue h stands below continues = continue_passes_no_hit run s stands Forwards t h below continues
move_passes_no_hit run s t motion.StepBack h stands below (to, steps, (cut, comes, met_by)) =
    few_steps_pass_no_hit run s stands Backwards t to cut h below (step_back_is_move run s t (position_of s t) to refl steps) comes met_by
move_passes_no_hit run s t motion.ContinueBack h stands below continues = continue_passes_no_hit run s stands Backwards t h below continues
