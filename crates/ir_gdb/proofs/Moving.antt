-- Moves, and the stops that end them: facts found of a stub that has spoken, said of the one before.
use Rattle.std.proofs.Common.{◌≡◌, ◌≢◌, ◌≤◌, ◌<◌, ◌+◌, ◌∙◌, ◌⊎◌, ℕ, zero, suc, Bool, true, false, List, [], ◌∷◌, ◌++◌, length, Option, Some}
use Rattle.std.proofs.Common.{None, inl, inr, refl, sym, ap, subst, arith, length-append, slice_index_or}
use Rattle.std.proofs.lemmas.List.{get_or_append_left, append_cancel_left}
use Rattle.std.proofs.Math.Seq.{get_or-append_seam}
use Rattle.std.specs.Prelude.{◌&&◌, ◌||◌, ◌==◌, IfSome}
use Rattle.ir_fit.specs.Fit.{HasRun}
use Rattle.ir_runs.specs.Run.{Step}
use Rattle.ir_cut.specs.Positions.{EachRun, threads_of, last_of}
use Rattle.ir_command.specs.declared.command.Direction.{Direction}
use Rattle.ir_command.specs.declared.command.Direction.TheVariants.{Forwards, Backwards}
use Rattle.ir_packet.specs.declared.reply.Reason.{Reason}
use Rattle.ir_packet.specs.declared.reply.Reason.TheVariants as reason
use Rattle.ir_packet.specs.declared.request.Motion.{Motion}
use Rattle.ir_gdb.specs.declared.stopped.Moving.{Moving}
use Rattle.ir_gdb.specs.declared.stopped.Stopped.{Stopped}
use Rattle.ir_gdb.specs.Stub.{Stub, stub_spoken}
use Rattle.ir_gdb.specs.Stops.{stopped, position_of, StopsInDirection, MovesTo, direction_of, reason_at_end}
use Rattle.ir_gdb.specs.Together.{Halt, halt, Comes, OwnStop, stop_among, AreStops, AreWithin, passes, is_free, moves, moves_other, IsMet}
use Rattle.ir_gdb.specs.Together.{IsNotMet, FirstMet, first_met, halt_or, MetBy, StepsAmong, StopsAmong, NoneStops, FirstStop, furthest}
use Rattle.ir_gdb.specs.Together.{ContinuesAmong, MovesAlone}
use Rattle.ir_gdb.specs.Moves.{all_at_stop, after_told, interrupted_at, told_text, Moves, MovesBy}
use Rattle.ir_gdb.specs.Replies.{RepliesToMove}
use Rattle.ir_gdb.proofs.Nexts.{first_upward_stop_from_spoken}
use Rattle.ir_gdb.proofs.Stopping.{continues_back_from_spoken}
use Rattle.ir_gdb.proofs.Together.{below_next_cases, holds_below_except_one}

-- ---- of a stub that has spoken

stops_from_spoken : (d : Direction) (run : List Step) (s : Stub) (t : ℕ) (w : Bool) (to : Stopped) → StopsInDirection d run (stub_spoken s) t w to → StopsInDirection d run s t w to
stops_from_spoken Forwards run s t true to goes = (goes.0, first_upward_stop_from_spoken run s t true goes.0 goes.1, goes.2)
stops_from_spoken Forwards run s t false to goes = (goes.0, first_upward_stop_from_spoken run s t false goes.0 goes.1, goes.2)
stops_from_spoken Backwards run s t w to goes = continues_back_from_spoken run s t (position_of s t) w to goes

are_stops_from_spoken : (run : List Step) (s : Stub) (d : Direction) (mover : ℕ) (each : List Stopped) → AreStops run (stub_spoken s) d mover each
    → AreStops run s d mover each
are_stops_from_spoken run s d mover each stops = record {
  count = stops.count;
  own = λ u below. stops_from_spoken d run s u (u == mover) (stop_among each u) (stops.own u below);
}

is_free_ignores_spoken : (s : Stub) (d : Direction) (each : List Stopped) (cut : List ℕ) (t n : ℕ)
    → is_free (stub_spoken s) d each cut t n ≡ is_free s d each cut t n
unfolding is_free
is_free_ignores_spoken s d each cut t zero = refl
is_free_ignores_spoken s d each cut t (suc n) = ap (λ (b : Bool). b && passes s d each cut t n) (is_free_ignores_spoken s d each cut t n)

moves_other_ignores_spoken : (s : Stub) (cut : List ℕ) (t n : ℕ) → moves_other (stub_spoken s) cut t n ≡ moves_other s cut t n
unfolding moves_other
moves_other_ignores_spoken s cut t zero = refl
moves_other_ignores_spoken s cut t (suc n) = ap (λ (b : Bool). b || moves s cut t n) (moves_other_ignores_spoken s cut t n)

is_met_from_spoken : (run : List Step) (s : Stub) (d : Direction) (each : List Stopped) (cut : List ℕ) (u : ℕ) (own : List ℕ)
    → IsMet run (stub_spoken s) d each cut u own → IsMet run s d each cut u own
is_met_from_spoken run s d each cut u own met = record {
  meets = met.meets;
  comes = met.comes;
  free = sym (is_free_ignores_spoken s d each own u (threads_of s.desk.fitted)) ∙ met.free;
}

is_not_met_from_spoken : (run : List Step) (s : Stub) (d : Direction) (each : List Stopped) (cut : List ℕ) (u : ℕ)
    → IsNotMet run (stub_spoken s) d each cut u → IsNotMet run s d each cut u
is_not_met_from_spoken run s d each cut u (inl none) = inl none
is_not_met_from_spoken run s d each cut u (inr (own, comes, free)) =
    inr (own, comes, sym (is_free_ignores_spoken s d each own u (threads_of s.desk.fitted)) ∙ free)

first_met_from_spoken : (run : List Step) (s : Stub) (d : Direction) (each : List Stopped) (cut : List ℕ) (t : ℕ) (met : Option Halt)
    → FirstMet run (stub_spoken s) d each cut t met → FirstMet run s d each cut t met
first_met_from_spoken run s d each cut t None none = λ u below other. is_not_met_from_spoken run s d each cut u (none u below other)
first_met_from_spoken run s d each cut t (Some h) first =
    (first.0, first.1, is_met_from_spoken run s d each cut h.thread h.cut first.2, first.3, λ u below other. is_not_met_from_spoken run s d each cut u (first.4 u below other))

met_by_from_spoken : (run : List Step) (s : Stub) (d : Direction) (cut : List ℕ) (own h : Halt) → MetBy true run (stub_spoken s) d cut own h
    → MetBy true run s d cut own h
met_by_from_spoken run s d cut own h (each, stops, (met, first, is)) =
    (each, are_stops_from_spoken run s d own.thread each stops, (met, first_met_from_spoken run s d each cut own.thread met first, is))

stops_among_from_spoken : (run : List Step) (s : Stub) (d : Direction) (each : List Stopped) (t : ℕ) (h : Option Halt)
    → StopsAmong run (stub_spoken s) d each t h → StopsAmong run s d each t h
stops_among_from_spoken run s d each t h (cut, comes, (met, first, is)) = (cut, comes, (met, first_met_from_spoken run s d each cut t met first, is))

first_stop_from_spoken : (run : List Step) (s : Stub) (d : Direction) (each : List Stopped) (t : ℕ) (stop : Option Halt)
    → FirstStop run (stub_spoken s) d each t stop → FirstStop run s d each t stop
first_stop_from_spoken run s d each t None (none, others) =
    (stops_among_from_spoken run s d each t None none, λ u below other. stops_among_from_spoken run s d each u None (others u below other))
first_stop_from_spoken run s d each t (Some h) (inl first) = inl (stops_among_from_spoken run s d each t (Some h) first)
first_stop_from_spoken run s d each t (Some h) (inr (none, (u, below, other, others, stops))) = inr (
  stops_among_from_spoken run s d each t None none,
  (
    u,
    below,
    other,
    λ v less differs. stops_among_from_spoken run s d each v None (others v less differs),
    stops_among_from_spoken run s d each u (Some h) stops,
  ),
)

furthest_ignores_spoken : (s : Stub) (d : Direction) → furthest (stub_spoken s) d ≡ furthest s d
furthest_ignores_spoken s Forwards = refl
furthest_ignores_spoken s Backwards = refl

-- ---- the stops of all

each_stop_push : (P : ℕ → Stopped → Type 0) (xs new : List Stopped) (x : Stopped) (n : ℕ) → length xs ≡ n → new ≡ xs ++ x ∷ []
    → ((u : ℕ) → u < n → P u (stop_among xs u)) → P n x → (u : ℕ) → u < n + 1 → P u (stop_among new u)
each_stop_push P xs new x n len is all next u below =
    subst (λ (ys : List Stopped). P u (stop_among ys u)) (sym is) (by (below_next_cases u n below))
  where
    by : (u < n) ⊎ (u ≡ n) → P u (stop_among (xs ++ x ∷ []) u)
    by (inl less) =
        let within : u < length xs = omega (arith, less, len) in
        subst (P u) (sym (get_or_append_left xs (x ∷ []) (stopped 0 reason.End) u within)) (all u less)
    by (inr same) =
        let at : stop_among (xs ++ x ∷ []) n ≡ x =
        subst (λ (k : ℕ). stop_among (xs ++ x ∷ []) k ≡ x) len (get_or-append_seam xs x [] (stopped 0 reason.End)) in
        subst (λ (k : ℕ). P k (stop_among (xs ++ x ∷ []) k)) (sym same) (subst (P n) (sym at) next)

pub own_stops_push : (s u : Stub) (d : Direction) (mover n : ℕ) (w : Bool) (xs new : List Stopped) (x : Stopped) → u ≡ stub_spoken s → length xs ≡ n
    → w ≡ (n == mover) → new ≡ xs ++ x ∷ [] → EachRun u.desk.fitted (λ run. StopsInDirection d run u n w x)
    → EachRun s.desk.fitted (λ run. (k : ℕ) → k < n → OwnStop run s d mover k (stop_among xs k))
    → EachRun s.desk.fitted (λ run. (k : ℕ) → k < n + 1 → OwnStop run s d mover k (stop_among new k))
own_stops_push s u d mover n w xs new x same len watched is goes all run whole =
    let next = stops_from_spoken d run s n w x (subst (λ (y : Stub). EachRun y.desk.fitted (λ r. StopsInDirection d r y n w x)) same goes run whole) in
    each_stop_push (OwnStop run s d mover) xs new x n len is (all run whole) (subst (λ (b : Bool). StopsInDirection d run s n b x) watched next)

pub stops_within_last_push : (s u : Stub) (n : ℕ) (xs new : List Stopped) (x : Stopped) → u ≡ stub_spoken s → length xs ≡ n → new ≡ xs ++ x ∷ []
    → x.position ≤ last_of u.desk.fitted n → ((k : ℕ) → k < n → (stop_among xs k).position ≤ last_of s.desk.fitted k)
    → (k : ℕ) → k < n + 1 → (stop_among new k).position ≤ last_of s.desk.fitted k
stops_within_last_push s u n xs new x same len is next all =
    each_stop_push (λ k y. y.position ≤ last_of s.desk.fitted k) xs new x n len is all
    (subst (λ (y : Stub). x.position ≤ last_of y.desk.fitted n) same next)

-- ---- moves

-- where all go to the cut of a stop
settled_ignores_spoken : (s u v : Stub) (h : Halt) → u ≡ stub_spoken s → v ≡ all_at_stop u h → v ≡ all_at_stop s h
settled_ignores_spoken s u v h same is = is ∙ ap (λ (x : Stub). all_at_stop x h) same

comes_from_spoken : (s u : Stub) (t : ℕ) (m : Motion) (d : Direction) (to : Stopped) (cut : List ℕ) → u ≡ stub_spoken s → d ≡ direction_of m
    → EachRun u.desk.fitted (λ run. Comes run u d t to.position cut)
    → EachRun s.desk.fitted (λ run. Comes run s (direction_of m) t to.position cut)
comes_from_spoken s u t m d to cut same way comes =
    let said = subst (λ (x : Stub). EachRun x.desk.fitted (λ run. Comes run x d t to.position cut)) same comes in
    subst (λ (e : Direction). EachRun s.desk.fitted (λ run. Comes run s e t to.position cut)) way said

pub moves_alone_and_settles : (s u v : Stub) (t : ℕ) (m : Motion) (d : Direction) (to : Stopped) (cut : List ℕ) → u ≡ stub_spoken s → d ≡ direction_of m
    → EachRun s.desk.fitted (λ run. MovesTo run s t m to) → EachRun u.desk.fitted (λ run. Comes run u d t to.position cut)
    → v ≡ all_at_stop u (halt t cut to.reason) → (h : Halt) × EachRun s.desk.fitted (λ run. MovesAlone run s t m h) × (v ≡ all_at_stop s h)
moves_alone_and_settles s u v t m d to cut same way moves comes is =
    let said = comes_from_spoken s u t m d to cut same way comes in
    (halt t cut to.reason, λ run whole. (to, moves run whole, said run whole, refl), settled_ignores_spoken s u v (halt t cut to.reason) same is)

pub met_first_settles : (s u v : Stub) (d : Direction) (t : ℕ) (cut : List ℕ) (why : Reason) (each : List Stopped) (met : Option (ℕ × List ℕ)) (h : Halt)
    → u ≡ stub_spoken s → EachRun s.desk.fitted (λ run. AreStops run s d t each)
    → EachRun u.desk.fitted (λ run. FirstMet run u d each cut t (first_met each met)) → h ≡ halt_or (first_met each met) (halt t cut why)
    → v ≡ all_at_stop u h → (h : Halt) × EachRun s.desk.fitted (λ run. MetBy true run s d cut (halt t cut why) h) × (v ≡ all_at_stop s h)
met_first_settles s u v d t cut why each met h same stops first is settles =
    let said = subst (λ (x : Stub). EachRun x.desk.fitted (λ run. FirstMet run x d each cut t (first_met each met))) same first in (
      h,
      λ run whole. (each, stops run whole, (first_met each met, first_met_from_spoken run s d each cut t (first_met each met) (said run whole), is)),
      settled_ignores_spoken s u v h same settles,
    )

moves_other_is_test : (s : Stub) (t : ℕ) (cut : List ℕ) (b : Bool) → b ≡ moves_other (stub_spoken s) cut t (threads_of s.desk.fitted)
    → moves_other s cut t (threads_of s.desk.fitted) ≡ b
moves_other_is_test s t cut b is = sym (is ∙ moves_other_ignores_spoken s cut t (threads_of s.desk.fitted))

pub steps_among_others : (s u v : Stub) (t : ℕ) (m : Motion) (d : Direction) (to : Stopped) (cut : List ℕ) → u ≡ stub_spoken s → d ≡ direction_of m
    → EachRun s.desk.fitted (λ run. MovesTo run s t m to) → EachRun u.desk.fitted (λ run. Comes run u d t to.position cut)
    → true ≡ moves_other u cut t (threads_of u.desk.fitted)
    → ((h : Halt) × EachRun u.desk.fitted (λ run. MetBy true run u d cut (halt t cut to.reason) h) × (v ≡ all_at_stop u h))
    → (h : Halt) × EachRun s.desk.fitted (λ run. StepsAmong run s t m h) × (v ≡ all_at_stop s h)
steps_among_others s u v t m d to cut same way moves comes other (h, met, settles) =
    let said = comes_from_spoken s u t m d to cut same way comes in
    let found = subst (λ (x : Stub). EachRun x.desk.fitted (λ run. MetBy true run x d cut (halt t cut to.reason) h)) same met in
    let mets = subst (λ (e : Direction). EachRun s.desk.fitted (λ run. MetBy true run (stub_spoken s) e cut (halt t cut to.reason) h)) way found in
    let one = moves_other_is_test s t cut true (subst (λ (x : Stub). true ≡ moves_other x cut t (threads_of x.desk.fitted)) same other) in (
      h,
      λ run whole. (
        to,
        moves run whole,
        (
          cut,
          said run whole,
          subst (λ (b : Bool). MetBy b run s (direction_of m) cut (halt t cut to.reason) h) (sym one)
              (met_by_from_spoken run s (direction_of m) cut (halt t cut to.reason) h (mets run whole)),
        ),
      ),
      settled_ignores_spoken s u v h same settles,
    )

pub steps_among_alone : (s u v : Stub) (t : ℕ) (m : Motion) (d : Direction) (to : Stopped) (cut : List ℕ) → u ≡ stub_spoken s → d ≡ direction_of m
    → EachRun s.desk.fitted (λ run. MovesTo run s t m to) → EachRun u.desk.fitted (λ run. Comes run u d t to.position cut)
    → false ≡ moves_other u cut t (threads_of u.desk.fitted) → v ≡ all_at_stop u (halt t cut to.reason)
    → (h : Halt) × EachRun s.desk.fitted (λ run. StepsAmong run s t m h) × (v ≡ all_at_stop s h)
steps_among_alone s u v t m d to cut same way moves comes none settles =
    let said = comes_from_spoken s u t m d to cut same way comes in
    let no = moves_other_is_test s t cut false (subst (λ (x : Stub). false ≡ moves_other x cut t (threads_of x.desk.fitted)) same none) in (
      halt t cut to.reason,
      λ run whole. (
        to,
        moves run whole,
        (cut, said run whole, subst (λ (b : Bool). MetBy b run s (direction_of m) cut (halt t cut to.reason) (halt t cut to.reason)) (sym no) refl),
      ),
      settled_ignores_spoken s u v (halt t cut to.reason) same settles,
    )

pub continues_among : (s u v : Stub) (t : ℕ) (d : Direction) (each : List Stopped) (stop : Option (ℕ × List ℕ)) (h : Halt) → u ≡ stub_spoken s
    → EachRun s.desk.fitted (λ run. AreStops run s d t each) → EachRun u.desk.fitted (λ run. FirstStop run u d each t (first_met each stop))
    → h ≡ halt_or (first_met each stop) (halt t (furthest u d) (reason_at_end d)) → v ≡ all_at_stop u h
    → (h : Halt) × EachRun s.desk.fitted (λ run. ContinuesAmong run s t d h) × (v ≡ all_at_stop s h)
continues_among s u v t d each stop h same stops first is settles =
    let said = subst (λ (x : Stub). EachRun x.desk.fitted (λ run. FirstStop run x d each t (first_met each stop))) same first in
    let far = ap (λ (x : Stub). furthest x d) same ∙ furthest_ignores_spoken s d in
    let ends = is ∙ ap (λ (cut : List ℕ). halt_or (first_met each stop) (halt t cut (reason_at_end d))) far in (
      h,
      λ run whole. (each, stops run whole, (first_met each stop, first_stop_from_spoken run s d each t (first_met each stop) (said run whole), ends)),
      settled_ignores_spoken s u v h same settles,
    )

-- ---- the first stop

pub none_stops_step : (s : Stub) (d : Direction) (each : List Stopped) (t n : ℕ) (stop : Option (ℕ × List ℕ)) → stop ≡ None
    → EachRun s.desk.fitted (λ run. StopsAmong run s d each n (first_met each stop)) → EachRun s.desk.fitted (λ run. NoneStops run s d each t n)
    → EachRun s.desk.fitted (λ run. NoneStops run s d each t (n + 1))
none_stops_step s d each t n stop is at none run whole =
    holds_below_except_one (λ u. StopsAmong run s d each u None) t n (none run whole)
    (λ other. subst (λ (x : Option (ℕ × List ℕ)). StopsAmong run s d each n (first_met each x)) is (at run whole))

pub first_stop_is_met : (s : Stub) (d : Direction) (each : List Stopped) (t n : ℕ) (own stop : Option (ℕ × List ℕ)) (m : ℕ × List ℕ) → own ≡ None
    → EachRun s.desk.fitted (λ run. StopsAmong run s d each t (first_met each own)) → n ≢ t → n < threads_of s.desk.fitted
    → EachRun s.desk.fitted (λ run. NoneStops run s d each t n) → stop ≡ Some m
    → EachRun s.desk.fitted (λ run. StopsAmong run s d each n (first_met each stop))
    → EachRun s.desk.fitted (λ run. FirstStop run s d each t (first_met each (Some m)))
first_stop_is_met s d each t n own stop m lacks mine other below none is at run whole = inr (
  subst (λ (x : Option (ℕ × List ℕ)). StopsAmong run s d each t (first_met each x)) lacks (mine run whole),
  (
    n,
    below,
    other,
    none run whole,
    subst (λ (x : Option (ℕ × List ℕ)). StopsAmong run s d each n (first_met each x)) is (at run whole),
  ),
)

pub length_push_by_count : (xs new : List Stopped) (x : Stopped) (n : ℕ) → length xs ≡ n → new ≡ xs ++ x ∷ [] → length new ≡ n + 1
length_push_by_count xs new x n len is = ap (λ (ys : List Stopped). length ys) is ∙ length-append xs (x ∷ []) ∙ ap (λ (k : ℕ). k + 1) len

-- ---- stops of a list

-- behind no end the default does not matter
stop_among_ignores_default : (each : List Stopped) (u : ℕ) (x : Stopped) → u < length each → slice_index_or each u x ≡ stop_among each u
stop_among_ignores_default [] u x below = absurd (omega (arith, below))
stop_among_ignores_default (y ∷ ys) zero x below = refl
stop_among_ignores_default (y ∷ ys) (suc u) x below = stop_among_ignores_default ys u x (omega (arith, below))

-- the stop of a thread that is met
pub met_stop_ignores_default : (s u : Stub) (each ys : List Stopped) (stop : Option (ℕ × List ℕ)) (other : ℕ) (cut : List ℕ) (x : Stopped) → u ≡ stub_spoken s
    → each ≡ ys → AreWithin s ys → stop ≡ Some (other, cut) → IfSome stop (λ m. m.0 < threads_of u.desk.fitted)
    → slice_index_or each other x ≡ stop_among each other
met_stop_ignores_default s u each ys stop other cut x same are all is below =
    let less = subst (λ (m : Option (ℕ × List ℕ)). IfSome m (λ p. p.0 < threads_of u.desk.fitted)) is below in
    let count : threads_of u.desk.fitted ≡ threads_of s.desk.fitted = ap (λ (y : Stub). threads_of y.desk.fitted) same in
    let len : length each ≡ threads_of s.desk.fitted = ap (λ (l : List Stopped). length l) are ∙ all.count in
    let within : other < length each = omega (arith, less, count, len) in
    stop_among_ignores_default each other x within

-- ---- replies

pub interruption_moves : (s v : Stub) (who : Moving) (m : Motion) (old new : List ℕ) → s.interrupted ≡ true
    → v ≡ after_told s (interrupted_at who.thread) → EachRun v.desk.fitted (λ run. new ≡ old ++ told_text run v)
    → (x : Stub) × EachRun s.desk.fitted (λ run. Moves run s who m x × (new ≡ old ++ told_text run x)) × (v ≡ x)
interruption_moves s v who m old new stopped is told =
    let after = after_told s (interrupted_at who.thread) in
    let said = subst (λ (x : Stub). EachRun x.desk.fitted (λ run. new ≡ old ++ told_text run x)) is told in
    (after, λ run whole. (subst (λ (b : Bool). MovesBy b run s who m after) (sym stopped) refl, said run whole), is)

pub replies_to_move : (s v : Stub) (moving : Option Moving) (who : Moving) (m : Motion) (old new : List ℕ) → HasRun s.desk.fitted
    → moving ≡ Some who
    → ((after : Stub) × EachRun s.desk.fitted (λ run. Moves run s who m after × (new ≡ old ++ told_text run after)) × (v ≡ after))
    → (text : List ℕ) × EachRun s.desk.fitted (λ run. RepliesToMove moving run s m text v) × (new ≡ old ++ text)
replies_to_move s v moving who m old new has is (after, moves, said) =
    let text = told_text has.run after in
    let all = (moves has.run has.whole).1 in (
      text,
      λ run whole. subst (λ (x : Option Moving). RepliesToMove x run s m text v) (sym is)
          (after, (moves run whole).0, (append_cancel_left old text (told_text run after) (sym all ∙ (moves run whole).1), said)),
      all,
    )
