-- The hits on the way of a thread, by where it stops alone.
use Rattle.std.proofs.Common.{◌≡◌, ◌≢◌, ◌<◌, ◌≤◌, ◌+◌, ◌-◌, ◌∙◌, ℕ, zero, suc, Bool, true, false, List, Option, Some, None, inl, inr, refl, sym, ap, subst, arith, ne_eqb}
use Rattle.std.specs.Prelude.{◌&&◌, ◌==◌, not, nat_lt, length, slice_get, option_map, if◌then◌else◌}
use Rattle.std.proofs.lemmas.Bool.{cases_lt, le-leb}
use Rattle.ir_runs.specs.Run.{Step}
use Rattle.ir_fit.specs.Fit.{FittedTrace}
use Rattle.ir_cut.specs.Positions.{last_of}
use Rattle.ir_command.specs.declared.command.Direction.{Direction}
use Rattle.ir_command.specs.declared.command.Direction.TheVariants.{Forwards, Backwards}
use Rattle.ir_command.specs.declared.hit.Hit.{Hit}
use Rattle.ir_hits.specs.Hits.{Numbered, HitByNumber}
use Rattle.ir_hits.specs.Searching.{IsNextHit}
use Rattle.ir_packet.specs.declared.reply.Reason.{Reason}
use Rattle.ir_gdb.specs.declared.point.Watched.{Watched}
use Rattle.ir_gdb.specs.declared.stopped.Stopped.{Stopped}
use Rattle.ir_gdb.specs.Guards.{Guarded, place_of}
use Rattle.ir_gdb.specs.Points.{watch_points, watches_if}
use Rattle.ir_gdb.specs.Conditions.{StopsUpwards, StopsDownwards, NoneStopsWithin, IsFirstStop, IsLastStop}
use Rattle.ir_gdb.specs.Stub.{Stub}
use Rattle.ir_gdb.specs.Stops.{stopped, position_of, reason_of_break, reason_of_watch, break_of, break_reason, watch_reason, stop_above}
use Rattle.ir_gdb.specs.Stops.{stop_below, end_above, end_below, is_hit, ContinuesTo, BackBy, ContinuesBackBy, StopsInDirection}
use Rattle.ir_gdb.specs.Together.{is_on_way}
use Rattle.ir_gdb.specs.Laws.{MeetsNone, PassesNone}

-- ---- reasons at hits

choice_has_property : (P : Stopped → Type 0) (b : Bool) (x y : Stopped) → P x → P y → P (if b then x else y)
choice_has_property P true x y one two = one
choice_has_property P false x y one two = two

watch_reason_is_hit : (watch : Option Watched) → is_hit (reason_of_watch watch) ≡ true
watch_reason_is_hit None = refl
watch_reason_is_hit (Some w) = refl

break_is_hit : (hardware : Bool) → is_hit (break_of hardware) ≡ true
break_is_hit true = refl
break_is_hit false = refl

break_reason_is_hit : (point : Option Guarded) → is_hit (reason_of_break point) ≡ true
break_reason_is_hit None = refl
break_reason_is_hit (Some b) = break_is_hit b.point.hardware

-- ---- upwards

-- a thread stops at `to` from p on, and no point of which P says that it stops does so before
record StopsAbove (P : ℕ → ℕ → Type 0) (p : ℕ) (to : Stopped) : Type 0 where
  met : (j n : ℕ) → p < j → P j n → (is_hit to.reason ≡ true) × (to.position ≤ j)
  none : NoneStopsWithin P (suc p) to.position

stop_above_is_hit : (ws : List Watched) (bs : List Guarded) (h : Hit) → is_hit (stop_above ws bs h).reason ≡ true
stop_above_is_hit ws bs h = choice_has_property (λ x. is_hit x.reason ≡ true) (nat_lt h.number (length ws)) (stopped (h.position - 1) (watch_reason ws h.number))
    (stopped h.position (break_reason bs (place_of h.number - length ws))) (watch_reason_is_hit (slice_get ws h.number)) (break_reason_is_hit (slice_get bs (place_of h.number - length ws)))

pub stop_above_le_hit : (ws : List Watched) (bs : List Guarded) (h : Hit) → (stop_above ws bs h).position ≤ h.position
stop_above_le_hit ws bs h = choice_has_property (λ x. x.position ≤ h.position) (nat_lt h.number (length ws)) (stopped (h.position - 1) (watch_reason ws h.number))
    (stopped h.position (break_reason bs (place_of h.number - length ws))) (omega arith) (omega arith)

pub hit_le_suc_stop_above : (ws : List Watched) (bs : List Guarded) (h : Hit) → h.position ≤ suc (stop_above ws bs h).position
hit_le_suc_stop_above ws bs h = choice_has_property (λ x. h.position ≤ suc x.position) (nat_lt h.number (length ws)) (stopped (h.position - 1) (watch_reason ws h.number))
    (stopped h.position (break_reason bs (place_of h.number - length ws))) (omega arith) (omega arith)

first_hit_stops_above : (P : ℕ → ℕ → Type 0) (p last : ℕ) (ws : List Watched) (bs : List Guarded) (hit : Option Hit)
    → IsFirstStop P p hit → StopsAbove P p (end_above ws bs last hit)
first_hit_stops_above P p last ws bs None finds = record {
  met = λ j n above hits. absurd (finds j n above hits);
  none = λ j n low high hits. finds j n low hits;
}
first_hit_stops_above P p last ws bs (Some h) finds =
    let below = stop_above_le_hit ws bs h in
    record {
      met = λ j n above hits. (
        stop_above_is_hit ws bs h,
        elim (cases_lt j h.position) [
          | inl less ↦ absurd (finds.1 j n above less hits)
          | inr from ↦ omega (arith, below, from)
        ],
      );
      none = λ j n low high hits. finds.1 j n low (omega (arith, high, below)) hits;
    }

continuing_stops_above : (run : List Step) (s : Stub) (u : ℕ) (w : Bool) (to : Stopped) → ContinuesTo run s u w to
    → StopsAbove (StopsUpwards run s u w) (position_of s u) to
continuing_stops_above run s u w to (hit, finds, ends) = subst (StopsAbove (StopsUpwards run s u w) (position_of s u)) (sym ends)
    (first_hit_stops_above (StopsUpwards run s u w) (position_of s u) _ (watches_if s w) s.breaks hit finds)

-- ---- downwards

-- where thread u stops at `to` from p on, and no point of which P says that it stops does so before; and no watch hits it at p if it goes on
record StopsUnder (f : FittedTrace) (run : List Step) (P : ℕ → ℕ → Type 0) (watches : List Numbered) (u p : ℕ) (to : Stopped) : Type 0 where
  met : (j n : ℕ) → j < p → P j n → (is_hit to.reason ≡ true) × (j ≤ to.position)
  none : NoneStopsWithin P (suc to.position) p
  behind : to.position ≤ p
  here : (n : ℕ) → 0 < p → HitByNumber f run watches u p n → (is_hit to.reason ≡ true) × (to.position ≡ p)

stop_below_is_hit : (ws : List Watched) (bs : List Guarded) (h : Hit) → is_hit (stop_below ws bs h).reason ≡ true
stop_below_is_hit ws bs h = choice_has_property (λ x. is_hit x.reason ≡ true) (nat_lt (place_of h.number) (length bs)) (stopped h.position (break_reason bs (place_of h.number)))
    (stopped h.position (watch_reason ws (h.number - length bs))) (break_reason_is_hit (slice_get bs (place_of h.number))) (watch_reason_is_hit (slice_get ws (h.number - length bs)))

stop_below_at_hit : (ws : List Watched) (bs : List Guarded) (h : Hit) → (stop_below ws bs h).position ≡ h.position
stop_below_at_hit ws bs h = choice_has_property (λ x. x.position ≡ h.position) (nat_lt (place_of h.number) (length bs)) (stopped h.position (break_reason bs (place_of h.number)))
    (stopped h.position (watch_reason ws (h.number - length bs))) refl refl

last_hit_stops_under : (f : FittedTrace) (run : List Step) (P : ℕ → ℕ → Type 0) (watches : List Numbered) (u p : ℕ) (ws : List Watched) (bs : List Guarded)
    (hit : Option Hit) → ((n : ℕ) → HitByNumber f run watches u p n → ⊥) → IsLastStop P p hit → StopsUnder f run P watches u p (end_below ws bs hit)
last_hit_stops_under f run P watches u p ws bs None free finds = record {
  met = λ j n below hits. absurd (finds j n (omega arith) below hits);
  none = λ j n low high hits. finds j n (omega arith) high hits;
  behind = omega arith;
  here = λ n some hits. absurd (free n hits);
}
last_hit_stops_under f run P watches u p ws bs (Some h) free finds =
    let at = stop_below_at_hit ws bs h in
    let under = finds.0 in
    record {
      met = λ j n below hits. (
        stop_below_is_hit ws bs h,
        elim (cases_lt h.position j) [
          | inl less ↦ absurd (finds.1 j n less below hits)
          | inr from ↦ omega (arith, at, from)
        ],
      );
      none = λ j n low high hits. finds.1 j n (omega (arith, low, at)) high hits;
      behind = omega (arith, at, under);
      here = λ n some hits. absurd (free n hits);
    }

continuing_stops_under : (run : List Step) (s : Stub) (u : ℕ) (w : Bool) (p : ℕ) (to : Stopped) → p ≡ position_of s u → ContinuesBackBy run s u w p to
    → StopsUnder s.desk.fitted run (StopsDownwards run s u w) (watch_points u 0 (watches_if s w)) u p to
continuing_stops_under run s u w zero to here is =
    let at = ap (λ (x : Stopped). x.position) is in
    record {
      met = λ j n below hits. absurd (omega (arith, below));
      none = λ j n low high hits. absurd (omega (arith, high));
      behind = omega (arith, at);
      here = λ n some hits. absurd (omega (arith, some));
    }
continuing_stops_under run s u w (suc p) to here (why, (hit, next, is), back) = by hit next why is back
  where
    f : FittedTrace
    f = s.desk.fitted

    stops : ℕ → ℕ → Type 0
    stops = StopsDownwards run s u w

    watches : List Numbered
    watches = watch_points u 0 (watches_if s w)

    by : (hit : Option Hit) → IsNextHit f run watches u p (p + 1) hit → (why : Option Reason)
        → why ≡ option_map (λ (h : Hit). watch_reason (watches_if s w) h.number) hit → BackBy run s u w (suc p) why to
        → StopsUnder f run stops watches u (suc p) to
    by None next None is (other, finds, ends) =
        let free : (n : ℕ) → HitByNumber f run watches u (suc p) n → ⊥ = λ n hits. next (suc p) n (omega arith) (omega arith) hits in
        let last = subst (λ (n : ℕ). IsLastStop stops n other) (sym here) finds in
        subst (StopsUnder f run stops watches u (suc p)) (sym ends) (last_hit_stops_under f run stops watches u (suc p) (watches_if s w) s.breaks other free last)
    by None next (Some r) is back = absurd (cc is)
    by (Some h) next None is back = absurd (cc is)
    by (Some h) next (Some r) is back =
        let same : r ≡ watch_reason (watches_if s w) h.number = cc is in
        let told : is_hit to.reason ≡ true = ap (λ (x : Stopped). is_hit x.reason) back ∙ ap is_hit same ∙ watch_reason_is_hit (slice_get (watches_if s w) h.number) in
        let at : to.position ≡ suc p = ap (λ (x : Stopped). x.position) back in
        record {
          met = λ j n below hits. (told, omega (arith, below, at));
          none = λ j n low high hits. absurd (omega (arith, low, high, at));
          behind = omega (arith, at);
          here = λ n some hits. (told, at);
        }

-- ---- both ways

abbrev pub meets_by : Direction → ℕ → Stopped → ℕ → Bool
meets_by d p to k = not (p == k) && (is_hit to.reason && is_on_way d to.position k)

met_if_parts_are : (d : Direction) (p k : ℕ) (to : Stopped) → p ≢ k → is_hit to.reason ≡ true → is_on_way d to.position k ≡ true → meets_by d p to k ≡ true
met_if_parts_are d p k to other hit way = ap (λ (b : Bool). not b && (is_hit to.reason && is_on_way d to.position k)) (ne_eqb p k other)
    ∙ ap (λ (b : Bool). b && is_on_way d to.position k) hit ∙ way

no_meeting_if_unmet : (d : Direction) (p k : ℕ) (to : Stopped) → meets_by d p to k ≡ false → p ≢ k → is_hit to.reason ≡ true → is_on_way d to.position k ≡ true → ⊥
no_meeting_if_unmet d p k to isnt other hit way = let is = met_if_parts_are d p k to other hit way in absurd (cc (is, isnt))

-- a thread that meets no hit on its way to k has none there
pub meets_none_if_not_met : (run : List Step) (s : Stub) (d : Direction) (u k : ℕ) (w : Bool) (to : Stopped) → StopsInDirection d run s u w to
    → meets_by d (position_of s u) to k ≡ false → MeetsNone run s d u w k
meets_none_if_not_met run s Forwards u k w to goes isnt = λ j n low high hits.
    let own = continuing_stops_above run s u w to goes in
    let met = own.met j n low hits in
    no_meeting_if_unmet Forwards (position_of s u) k to isnt (λ same. absurd (omega (arith, same, low, high))) met.0
    (le-leb to.position k (let le = met.1 in omega (arith, le, high)))
meets_none_if_not_met run s Backwards u k w to goes isnt =
    let own = continuing_stops_under run s u w (position_of s u) to refl goes in (
      λ j n low high hits.
          let met = own.met j n high hits in
          no_meeting_if_unmet Backwards (position_of s u) k to isnt (λ same. absurd (omega (arith, same, low, high))) met.0
          (le-leb k to.position (let le = met.1 in omega (arith, le, low))),
      λ moved j n low high hits.
          let at : j ≡ position_of s u = omega (arith, low, high) in
          let met = own.here n (omega (arith, moved)) (subst (λ (i : ℕ). HitByNumber s.desk.fitted run (watch_points u 0 (watches_if s w)) u i n) at hits) in
          no_meeting_if_unmet Backwards (position_of s u) k to isnt (λ same. absurd (omega (arith, same, moved))) met.0
          (le-leb k to.position (let e = met.1 in omega (arith, e, moved))),
    )

-- a thread that stands still has no hit on its way
pub meets_none_if_it_stays : (run : List Step) (s : Stub) (d : Direction) (u k : ℕ) (w : Bool) → position_of s u ≡ k → MeetsNone run s d u w k
meets_none_if_it_stays run s Forwards u k w same = λ j n low high hits. absurd (omega (arith, same, low, high))
meets_none_if_it_stays run s Backwards u k w same = (λ j n low high hits. absurd (omega (arith, same, low, high)), λ moved. absurd (omega (arith, same, moved)))

-- a thread that comes to its own stop has passed no hit
pub passes_none_to_own_stop : (run : List Step) (s : Stub) (d : Direction) (u k : ℕ) (w : Bool) (to : Stopped) → StopsInDirection d run s u w to → k ≡ to.position
    → PassesNone run s d u w k
passes_none_to_own_stop run s Forwards u k w to goes same = λ j n low high hits. (continuing_stops_above run s u w to goes).none j n low (omega (arith, high, same)) hits
passes_none_to_own_stop run s Backwards u k w to goes same =
    let own = continuing_stops_under run s u w (position_of s u) to refl goes in (
      λ j n low high hits. own.none j n (omega (arith, low, same)) high hits,
      λ moved j n low high hits.
          let at : j ≡ position_of s u = omega (arith, low, high) in
          let met = own.here n (omega (arith, moved)) (subst (λ (i : ℕ). HitByNumber s.desk.fitted run (watch_points u 0 (watches_if s w)) u i n) at hits) in
          absurd (let e = met.1 in omega (arith, e, moved, same)),
    )

-- what meets none passes none
pub meets_none_passes_none : (run : List Step) (s : Stub) (d : Direction) (u k : ℕ) (w : Bool) → MeetsNone run s d u w k → PassesNone run s d u w k
meets_none_passes_none run s Forwards u k w none = λ j n low high hits. none j n low (omega (arith, high)) hits
meets_none_passes_none run s Backwards u k w none = (λ j n low high hits. none.0 j n (omega (arith, low)) high hits, none.1)

-- a thread's own stop isn't behind it
pub own_stop_is_behind : (run : List Step) (s : Stub) (u : ℕ) (w : Bool) (to : Stopped) → StopsInDirection Backwards run s u w to → to.position ≤ position_of s u
own_stop_is_behind run s u w to goes = (continuing_stops_under run s u w (position_of s u) to refl goes).behind

pub own_stop_is_ahead : (run : List Step) (s : Stub) (u last : ℕ) (w : Bool) (to : Stopped) → position_of s u ≤ last → last ≡ last_of s.desk.fitted u
    → StopsInDirection Forwards run s u w to → position_of s u ≤ to.position
own_stop_is_ahead run s u last w to within is (None, finds, ends) = let at = ap (λ (x : Stopped). x.position) ends in omega (arith, at, within, is)
own_stop_is_ahead run s u last w to within is (Some h, finds, ends) =
    let at = ap (λ (x : Stopped). x.position) ends in
    let above = finds.0 in
    let next = hit_le_suc_stop_above (watches_if s w) s.breaks h in
    omega (arith, at, above, next)
