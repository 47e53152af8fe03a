-- A guest that continues along a trace.
use Rattle.std.proofs.Common.{◌≡◌, ◌≢◌, ℕ, zero, suc, pred, ◌+◌, ◌-◌, ◌*◌, ◌<◌, ◌≤◌, List, [], ◌∷◌, ◌++◌, length, map, drop, replicate}
use Rattle.std.proofs.Common.{Result, Ok, Err, OnOk, OnErr, None, refl, sym, ap, ◌∙◌, subst, arith, inl, inr, append-nil, append_assoc}
use Rattle.std.proofs.Common.{length-append, length-set, get_or-set_same, get_or-set_other, get_or, eqb}
use Rattle.std.proofs.lemmas.Bool.{cases_eq}
use Rattle.std.proofs.lemmas.List.{get_or_default, length-map}
use Rattle.std.proofs.lemmas.List.Folds.{sum_by-replicate}
use Rattle.std.proofs.Math.Seq.{drop-append_seam}
use Rattle.ir_image.specs.Guest.{Guest, object_count}
use Rattle.ir_thread.specs.State.{one_if_held, ask_of, after_ask, shared_ask, reply_of, thread_machine}
use Rattle.ir_thread.proofs.CallerLemmas.{ask_of_permitted, held_count_after_leave}
use Rattle.ir_runs.proofs.CallerLemmas.{upd_at_own_place, upd_at_other_place, upd_by_cases, trail_append, end_append, trail_cons_own}
use Rattle.ir_runs.proofs.CallerLemmas.{trail_cons_other, last_step_can_be_taken, events_then_left_log, follows_push, ask_is_done_or_not}
use Rattle.ir_runs.proofs.CallerLemmas.{agrees_is_decidable, last_step_fits, sum_below_is_monotone, sum_below_less}
use Rattle.ir_runs.specs.Machine as machine
use Rattle.ir_runs.specs.Machine.{Machine, act_of, target, emitted, reply, Admits, Label, logged, Trace}
use Rattle.ir_thread.specs.State as thread
use Rattle.ir_thread.specs.Permitted.{Permits, held_count}
use Rattle.ir_runs.specs.declared.access.Access.{Access}
use Rattle.ir_thread.specs.declared.ask.Ask.TheVariants.{Private, Done, Leave as Leaves}
use Rattle.ir_flat.specs.Alone.{WentAlone}
use Rattle.ir_flat.specs.Flat.{Flat, thread_of, tables, machine as machine_of, start_flat, start_threads, idle, IsFlat}
use Rattle.ir_runs.specs.Run.{State, Step, act, asked, Can, after, label, end, trail, events, log, count}
use Rattle.ir_flat.proofs.CallerLemmas.{tallies_along_run, shared_done_is_done, moved_thread, threads_after_step, start_thread_is_fresh}
use Rattle.ir_flat.proofs.CallerLemmas.{start_has_no_steps, length_of_start_threads, length_of_start_cells}
use Rattle.ir_log.specs.Logging.{label_of}
use Rattle.ir_trace.specs.Recorded.{Recorded, RecordedThread, recorded_thread, trace_of}
use Rattle.ir_trace.specs.Absent.{absent}
use Rattle.ir_fit.specs.Ahead.{steps_ahead, log_ahead, StepFollows, CanFollow, IsStoppedAhead, AgreesAhead, IsMove}
use Rattle.ir_fit.specs.Follower.{IsFollower, IsFollowed, IsPlaced, FollowerGoesOn, all_ahead}
use Rattle.ir_fit.specs.Placed.{place_if, leave_if}
use Rattle.ir_fit.specs.Growing.{Growing, growing_at, placed_by, placed_more, none_growing, places_of, leaves_of}
use Rattle.ir_runs.specs.Standing.{StandsAs}
use Rattle.ir_runs.specs.Verdicts.{Agrees, sum_below, Check, unlogged, left_log, left_steps, Fits, Follows, Meets, closing}
use Rattle.ir_runs.specs.declared.thread_verdict.ThreadVerdict.{ThreadVerdict}
use Rattle.ir_runs.specs.declared.thread_verdict.ThreadVerdict.TheVariants.{Same, Disagrees, Starves}
use Rattle.ir_fit.specs.declared.follower.look.Move.{Move}
use Rattle.ir_fit.proofs.Placed.{AllQuiet, join_if_is_quiet, quiet_steps_no_places, quiet_steps_no_leaves, places_from_of_append}
use Rattle.ir_fit.proofs.Placed.{leaves_from_of_append, entries_after_placed_by, leaves_after_placed_by, room_after_placed_by}
use Rattle.ir_fit.proofs.Placed.{placed_count_events, placed_leaves_in_events}
use Rattle.ir_fit.proofs.Seen.{end_asked, ends_now_is_end_asked, label_of_step, followed_events_within}
use Rattle.ir_thread.specs.declared.profile.Profile.{Profile}

-- ---- what is left

left_steps_difference : {T : Type 0} (xs : List (T × Label)) (n : ℕ) → left_steps xs n ≡ n - length xs
left_steps_difference [] n = omega arith
left_steps_difference (x ∷ xs) n = let rest : left_steps xs (pred n) ≡ pred n - length xs = left_steps_difference xs (pred n) in omega (arith, rest)

left_log_is_drop : {T : Type 0} (E : Check T) (n : ℕ) (es : List Label) (xs : List (T × Label)) → Fits E n es xs
    → left_log xs es ≡ drop (length (events xs)) es
left_log_is_drop E n es xs h = sym (drop-append_seam (events xs) (left_log xs es)) ∙ ap (drop (length (events xs))) (events_then_left_log E n es xs h)

-- ---- a follower's run

-- the machine of a guest
abbrev pub guest_machine : Guest → Recorded → Machine thread.ThreadState
guest_machine guest r = machine_of (start_flat guest r.budget r.profile)

-- its threads and objects at the start
abbrev pub guest_start : Guest → Recorded → State thread.ThreadState
guest_start guest r = tables (start_flat guest r.budget r.profile)

-- a run of the guest that follows the trace
abbrev pub GuestFollows : Guest → Recorded → List Step → Type 0
GuestFollows guest r run = Follows (closing (guest_machine guest r) (trace_of r)) (guest_machine guest r) (guest_start guest r) (trace_of r)
    run

pub run_end_is_follower : (guest : Guest) (r : Recorded) (f : Flat) (ps : List Growing) (run : List Step) → GuestFollows guest r run
    → tables f ≡ end (guest_machine guest r) (guest_start guest r) run → f.code ≡ guest.code → length f.threads ≡ length guest.entries
    → length f.objects ≡ object_count guest
    → ((t : ℕ) → t < length guest.entries → (growing_at ps t).entries ≡ places_of
    (trail (guest_machine guest r) (guest_start guest r) run t))
    → ((t : ℕ) → t < length guest.entries → (growing_at ps t).leaves ≡ leaves_of (trail (guest_machine guest r) (guest_start guest r) run t))
    → IsFollower guest r f ps
run_end_is_follower guest r f ps run h ends code threads objects placed left = record {
  run = run;
  follows = h;
  ends = ends;
  code = code;
  threads = threads;
  objects = objects;
  steps = λ t. ap (λ s. (s.now t).steps) ends ∙ (tallies_along_run guest.code (guest_start guest r) run h.0 t).steps
      ∙ from_zero (thread_of (start_flat guest r.budget r.profile) t).steps (count (guest_machine guest r) (guest_start guest r) run t)
      (start_has_no_steps guest r.budget r.profile 0 (length guest.entries) t);
  events = λ t. ap (λ s. (s.now t).events) ends ∙ (tallies_along_run guest.code (guest_start guest r) run h.0 t).events
      ∙ from_zero (thread_of (start_flat guest r.budget r.profile) t).events (length (log (guest_machine guest r) (guest_start guest r) run t))
      (start_thread_is_fresh guest r.budget r.profile 0 (length guest.entries) t).events;
  placed = placed;
  left = left;
}
  where
    from_zero : (a b : ℕ) → a ≡ 0 → a + b ≡ b
    from_zero a b e = omega (arith, e)

pub start_flat_is_follower : (guest : Guest) (r : Recorded) (ps : List Growing)
    → ((t : ℕ) → ((growing_at ps t).entries ≡ []) × ((growing_at ps t).leaves ≡ [])) → IsFollower guest r (start_flat guest r.budget r.profile) ps
start_flat_is_follower guest r ps none = run_end_is_follower guest r (start_flat guest r.budget r.profile) ps [] (tt, λ t. tt)
    refl refl (length_of_start_threads guest r.budget r.profile 0 (length guest.entries)) (length_of_start_cells guest 0 (object_count guest)) (λ t l. (none t).0)
    (λ t l. (none t).1)

pub ahead_is_left_steps : (guest : Guest) (r : Recorded) (f : Flat) (ps : List Growing) → (k : IsFollower guest r f ps) → (t : ℕ)
    → steps_ahead r f t ≡ left_steps (trail (guest_machine guest r) (guest_start guest r) k.run t) ((trace_of r).steps t)
ahead_is_left_steps guest r f ps k t = ap (λ n. (recorded_thread r t).steps - n) (k.steps t)
    ∙ sym (left_steps_difference (trail (guest_machine guest r) (guest_start guest r) k.run t) ((trace_of r).steps t))

pub log_ahead_is_left_log : (guest : Guest) (r : Recorded) (f : Flat) (ps : List Growing) → (k : IsFollower guest r f ps) → (t : ℕ)
    → log_ahead r f t ≡ left_log (trail (guest_machine guest r) (guest_start guest r) k.run t) ((trace_of r).logs t)
log_ahead_is_left_log guest r f ps k t = ap (λ n. drop n (map label_of (recorded_thread r t).events)) (k.events t)
    ∙ sym (left_log_is_drop (closing (guest_machine guest r) (trace_of r) t) ((trace_of r).steps t) ((trace_of r).logs t)
    (trail (guest_machine guest r) (guest_start guest r) k.run t) (k.follows.1 t))

-- what holds of the guest as it is and of what is left to thread t
abbrev pub StateProperty : Type 1
StateProperty = Machine thread.ThreadState → State thread.ThreadState → ℕ → List Label → Type 0

-- holds at the end of the run
pub property_to_run_end : (guest : Guest) (r : Recorded) (f : Flat) (ps : List Growing) → (k : IsFollower guest r f ps) → (t : ℕ) (P : StateProperty)
    → P (machine_of f) (tables f) (steps_ahead r f t) (log_ahead r f t)
    → P (guest_machine guest r) (end (guest_machine guest r) (guest_start guest r) k.run)
    (left_steps (trail (guest_machine guest r) (guest_start guest r) k.run t) ((trace_of r).steps t))
    (left_log (trail (guest_machine guest r) (guest_start guest r) k.run t) ((trace_of r).logs t))
property_to_run_end guest r f ps k t P h =
    let m = guest_machine guest r in
    let s = guest_start guest r in
    subst (λ es. P m (end m s k.run) (left_steps (trail m s k.run t) ((trace_of r).steps t)) es) (log_ahead_is_left_log guest r f ps k t)
    (subst (λ n. P m (end m s k.run) n (log_ahead r f t)) (ahead_is_left_steps guest r f ps k t)
    (subst (λ z. P m z (steps_ahead r f t) (log_ahead r f t)) k.ends
    (subst (λ c. P (thread_machine c) (tables f) (steps_ahead r f t) (log_ahead r f t)) k.code h)))

pub property_from_run_end : (guest : Guest) (r : Recorded) (f : Flat) (ps : List Growing) → (k : IsFollower guest r f ps) → (t : ℕ) (P : StateProperty)
    → P (guest_machine guest r) (end (guest_machine guest r) (guest_start guest r) k.run)
    (left_steps (trail (guest_machine guest r) (guest_start guest r) k.run t) ((trace_of r).steps t))
    (left_log (trail (guest_machine guest r) (guest_start guest r) k.run t) ((trace_of r).logs t))
    → P (machine_of f) (tables f) (steps_ahead r f t) (log_ahead r f t)
property_from_run_end guest r f ps k t P h =
    let m = guest_machine guest r in
    let s = guest_start guest r in
    subst (λ c. P (thread_machine c) (tables f) (steps_ahead r f t) (log_ahead r f t)) (sym k.code)
    (subst (λ z. P m z (steps_ahead r f t) (log_ahead r f t)) (sym k.ends)
    (subst (λ n. P m (end m s k.run) n (log_ahead r f t)) (sym (ahead_is_left_steps guest r f ps k t))
    (subst (λ es. P m (end m s k.run) (left_steps (trail m s k.run t) ((trace_of r).steps t)) es) (sym (log_ahead_is_left_log guest r f ps k t)) h)))

-- ---- one step more

-- what is kept after a step, of the thread that takes it and of another
module _ (guest : Guest) (r : Recorded) (f : Flat) (ps qs : List Growing) (n : Move) (move : IsMove r f n)
    (each : length ps ≡ length f.threads) (more : qs ≡ placed_more f ps n.thread n.asked) (k : IsFollower guest r f ps) where
  kept_own : growing_at qs n.thread ≡ placed_by f n.thread (growing_at ps n.thread) n.asked
  kept_own = ap (λ z. growing_at z n.thread) more
      ∙ get_or-set_same ps n.thread (placed_by f n.thread (growing_at ps n.thread) n.asked) none_growing
      (let l = move.below in omega (arith, l, each))

  kept_other : (u : ℕ) → u ≢ n.thread → growing_at qs u ≡ growing_at ps u
  kept_other u ne = ap (λ z. growing_at z u) more
      ∙ get_or-set_other ps n.thread u (placed_by f n.thread (growing_at ps n.thread) n.asked) none_growing ne

  own_steps : trail (guest_machine guest r) (guest_start guest r) (k.run ++ (n.thread, n.result) ∷ []) n.thread ≡ trail
      (guest_machine guest r) (guest_start guest r) k.run n.thread ++ (
        (end (guest_machine guest r) (guest_start guest r) k.run).now n.thread,
        label (guest_machine guest r)
            (end (guest_machine guest r) (guest_start guest r) k.run) (n.thread, n.result),
      ) ∷ []
  own_steps = trail_append (guest_machine guest r) (guest_start guest r) k.run ((n.thread, n.result) ∷ []) n.thread
      ∙ ap (λ z. trail (guest_machine guest r) (guest_start guest r) k.run n.thread ++ z)
      (trail_cons_own (guest_machine guest r) (end (guest_machine guest r) (guest_start guest r) k.run) (n.thread, n.result) [])

  other_steps : (u : ℕ) → u ≢ n.thread → trail (guest_machine guest r) (guest_start guest r) (k.run ++ (n.thread, n.result) ∷ []) u ≡ trail
      (guest_machine guest r) (guest_start guest r) k.run u
  other_steps u ne = trail_append (guest_machine guest r) (guest_start guest r) k.run ((n.thread, n.result) ∷ []) u
      ∙ ap (λ z. trail (guest_machine guest r) (guest_start guest r) k.run u ++ z)
      (trail_cons_other (guest_machine guest r) (end (guest_machine guest r) (guest_start guest r) k.run) (n.thread, n.result) [] u ne)
      ∙ append-nil _

  may : Admits (machine_of f) (act_of (shared_ask n.asked) n.result) ((tables f).objects (target (act_of (shared_ask n.asked) n.result)))
  may = subst (λ q. Admits (machine_of f) (act_of (shared_ask q) n.result) ((tables f).objects (target (act_of (shared_ask q) n.result))))
      (sym move.asked) move.follows.0

  emits_there : label_of_step f n.asked n.result ≡ label (guest_machine guest r) (end (guest_machine guest r) (guest_start guest r) k.run)
      (n.thread, n.result)
  emits_there = ap (λ q. label_of_step f q n.result) move.asked ∙ ap (λ c. label (thread_machine c) (tables f) (n.thread, n.result)) k.code
      ∙ ap (λ z. label (guest_machine guest r) z (n.thread, n.result)) k.ends

  position : (thread_of f n.thread).steps ≡ 0 + length (trail (guest_machine guest r) (guest_start guest r) k.run n.thread)
  position = k.steps n.thread ∙ (let e : length (trail (guest_machine guest r) (guest_start guest r) k.run n.thread) ≡ 0 + length
      (trail (guest_machine guest r) (guest_start guest r) k.run n.thread) = omega arith in e)

  more_placed : (t : ℕ) → t < length guest.entries
      → (growing_at qs t).entries ≡ places_of (trail (guest_machine guest r) (guest_start guest r) (k.run ++ (n.thread, n.result) ∷ []) t)
  more_placed t l = elim (cases_eq t n.thread) [
    | inl e ↦ subst (λ u. (growing_at qs u).entries ≡ places_of
        (trail (guest_machine guest r) (guest_start guest r) (k.run ++ (n.thread, n.result) ∷ []) u)) (sym e)
        (ap (λ z. z.entries) kept_own ∙ entries_after_placed_by f n.thread n.result (growing_at ps n.thread) n.asked may
        ∙ ap (λ z. z ++ place_if (label_of_step f n.asked n.result) (thread_of f n.thread).steps [])
        (k.placed n.thread (subst (λ u. u < length guest.entries) e l))
        ∙ ap (λ z. places_of (trail (guest_machine guest r) (guest_start guest r) k.run n.thread) ++ z)
        (ap (λ z. place_if z (thread_of f n.thread).steps []) emits_there
        ∙ ap (λ (i : ℕ). place_if (label (guest_machine guest r) (end (guest_machine guest r) (guest_start guest r) k.run)
        (n.thread, n.result)) i []) position)
        ∙ sym (places_from_of_append 0 (trail (guest_machine guest r) (guest_start guest r) k.run n.thread)
        ((
          (end (guest_machine guest r) (guest_start guest r) k.run).now n.thread,
          label (guest_machine guest r)
              (end (guest_machine guest r) (guest_start guest r) k.run) (n.thread, n.result),
        ) ∷ [])) ∙ ap (λ z. places_of z) (sym own_steps))
    | inr ne ↦ ap (λ z. z.entries) (kept_other t ne) ∙ k.placed t l ∙ ap (λ z. places_of z) (sym (other_steps t ne))
  ]

  more_left : (t : ℕ) → t < length guest.entries
      → (growing_at qs t).leaves ≡ leaves_of (trail (guest_machine guest r) (guest_start guest r) (k.run ++ (n.thread, n.result) ∷ []) t)
  more_left t l = elim (cases_eq t n.thread) [
    | inl e ↦ subst (λ u. (growing_at qs u).leaves ≡ leaves_of
        (trail (guest_machine guest r) (guest_start guest r) (k.run ++ (n.thread, n.result) ∷ []) u)) (sym e)
        (ap (λ z. z.leaves) kept_own ∙ leaves_after_placed_by f n.thread n.result (growing_at ps n.thread) n.asked
        ∙ ap (λ z. z ++ leave_if (label_of_step f n.asked n.result) (thread_of f n.thread).steps [])
        (k.left n.thread (subst (λ u. u < length guest.entries) e l))
        ∙ ap (λ z. leaves_of (trail (guest_machine guest r) (guest_start guest r) k.run n.thread) ++ z)
        (ap (λ z. leave_if z (thread_of f n.thread).steps []) emits_there
        ∙ ap (λ (i : ℕ). leave_if (label (guest_machine guest r) (end (guest_machine guest r) (guest_start guest r) k.run)
        (n.thread, n.result)) i []) position)
        ∙ sym (leaves_from_of_append 0 (trail (guest_machine guest r) (guest_start guest r) k.run n.thread)
        ((
          (end (guest_machine guest r) (guest_start guest r) k.run).now n.thread,
          label (guest_machine guest r)
              (end (guest_machine guest r) (guest_start guest r) k.run) (n.thread, n.result),
        ) ∷ [])) ∙ ap (λ z. leaves_of z) (sym own_steps))
    | inr ne ↦ ap (λ z. z.leaves) (kept_other t ne) ∙ k.left t l ∙ ap (λ z. leaves_of z) (sym (other_steps t ne))
  ]

pub follower_after_move : (guest : Guest) (r : Recorded) (f g : Flat) (ps qs : List Growing) (n : Move) → IsMove r f n → length ps ≡ length f.threads
    → qs ≡ placed_more f ps n.thread n.asked → tables g ≡ after (machine_of f) (tables f) (n.thread, n.result) → g.code ≡ f.code
    → length g.threads ≡ length f.threads → length g.objects ≡ length f.objects
    → IsFollower guest r f ps → IsFollower guest r g qs
follower_after_move guest r f g ps qs n move each more taken code threads objects k =
    let m = guest_machine guest r in
    let s = guest_start guest r in
    let t : ℕ = n.thread in
    let v : ℕ = n.result in
    let step : StepFollows m (trace_of r) (end m s k.run) (left_steps (trail m s k.run t) ((trace_of r).steps t))
    (left_log (trail m s k.run t) ((trace_of r).logs t)) t v =
    property_to_run_end guest r f ps k t (λ n z a es. StepFollows n (trace_of r) z a es t v) move.follows in
    run_end_is_follower guest r g qs (k.run ++ (t, v) ∷ []) (follows_push m s (trace_of r) k.run k.follows t v step.0 (step.1, step.2, step.3))
    (taken ∙ ap (λ c. after (thread_machine c) (tables f) (t, v)) k.code ∙ ap (λ z. after m z (t, v)) k.ends
    ∙ sym (end_append m s k.run ((t, v) ∷ [])))
    (code ∙ k.code) (threads ∙ k.threads) (objects ∙ k.objects)
    (more_placed guest r f ps qs n move each more k) (more_left guest r f ps qs n move each more k)

-- ---- private steps

private_follow_trace : (code : List ℕ) (tr : Trace) (s : State thread.ThreadState) (run : List Step) (t n : ℕ)
    → Follows (closing (thread_machine code) tr) (thread_machine code) s tr run
    → ((k : ℕ) → k < n → ask_of code ((end (thread_machine code) (end (thread_machine code) s run) (replicate k (t, 0))).now t) ≡ Private)
    → n ≤ left_steps (trail (thread_machine code) s run t) (tr.steps t)
    → Follows (closing (thread_machine code) tr) (thread_machine code) s tr (run ++ replicate n (t, 0))
private_follow_trace code tr s run t zero h each le =
    subst (Follows (closing (thread_machine code) tr) (thread_machine code) s tr) (sym (append-nil run)) h
private_follow_trace code tr s run t (suc n) h each le =
    let m = thread_machine code in
    let e : Step = (t, 0) in
    let x : thread.ThreadState = (end m s run).now t in
    let left : ℕ = left_steps (trail m s run t) (tr.steps t) in
    let es : List Label = left_log (trail m s run t) (tr.logs t) in
    let is : ask_of code x ≡ Private = each 0 (omega arith) in
    let step : Follows (closing m tr) m s tr (run ++ e ∷ []) = follows_push m s tr run h t 0
    (subst (λ q. Admits m (act_of (shared_ask q) 0) ((end m s run).objects (target (act_of (shared_ask q) 0)))) (sym is) tt) (
      omega (arith, le),
      subst (λ q. logged (emitted (act_of (shared_ask q) 0) ((end m s run).objects (target (act_of (shared_ask q) 0))))
          (unlogged (emitted (act_of (shared_ask q) 0) ((end m s run).objects (target (act_of (shared_ask q) 0)))) es) ≡ es) (sym is) refl,
      subst (λ z. Meets z (tr.ends t) (m.size x) left es) (sym (ends_now_is_end_asked code x ∙ ap end_asked is)) tt,
    ) in
    let size : length (trail m s (run ++ e ∷ []) t) ≡ length (trail m s run t) + 1 =
    ap length (trail_append m s run (e ∷ []) t) ∙ length-append (trail m s run t) (trail m (end m s run) (e ∷ []) t)
    ∙ ap (λ z. length (trail m s run t) + length z) (trail_cons_own m (end m s run) e []) in
    let was : left ≡ tr.steps t - length (trail m s run t) = left_steps_difference (trail m s run t) (tr.steps t) in
    let now : left_steps (trail m s (run ++ e ∷ []) t) (tr.steps t) ≡ tr.steps t - length (trail m s (run ++ e ∷ []) t) =
    left_steps_difference (trail m s (run ++ e ∷ []) t) (tr.steps t) in
    subst (Follows (closing m tr) m s tr) (append_assoc run (e ∷ []) (replicate n e))
    (private_follow_trace code tr s (run ++ e ∷ []) t n step
    (λ k l. ap (λ z. ask_of code ((end m z (replicate k (t, 0))).now t)) (end_append m s run (e ∷ [])) ∙ each (suc k) (omega (arith, l)))
    (omega (arith, le, size, was, now)))

-- private steps emit nothing
private_steps_are_quiet : (code : List ℕ) (s : State thread.ThreadState) (t n : ℕ)
    → ((k : ℕ) → k < n → ask_of code ((end (thread_machine code) s (replicate k (t, 0))).now t) ≡ Private) → (u : ℕ)
    → AllQuiet (trail (thread_machine code) s (replicate n (t, 0)) u)
private_steps_are_quiet code s t zero each u = tt
private_steps_are_quiet code s t (suc n) each u =
    let m = thread_machine code in
    let is : ask_of code (s.now t) ≡ Private = each 0 (omega arith) in
    join_if_is_quiet (eqb u t) (s.now u, label m s (t, 0)) (trail m (after m s (t, 0)) (replicate n (t, 0)) u)
    (ap (λ q. emitted (act_of (shared_ask q) 0) (s.objects (target (act_of (shared_ask q) 0)))) is)
    (private_steps_are_quiet code (after m s (t, 0)) t n (λ k l. each (suc k) (omega (arith, l))) u)

pub follower_after_private : (guest : Guest) (r : Recorded) (f g : Flat) (ps : List Growing) (t n : ℕ) → WentAlone f g t n → n ≤ steps_ahead r f t
    → IsFollower guest r f ps → IsFollower guest r g ps
follower_after_private guest r f g ps t n w le k =
    let m = guest_machine guest r in
    let s = guest_start guest r in
    let each : (j : ℕ) → j < n → ask_of guest.code ((end m (end m s k.run) (replicate j (t, 0))).now t) ≡ Private =
    λ j l. subst (λ z. ask_of guest.code ((end m z (replicate j (t, 0))).now t) ≡ Private) k.ends
    (subst (λ c. ask_of c ((end (thread_machine c) (tables f) (replicate j (t, 0))).now t) ≡ Private) k.code (w.each j l)) in
    let rest : ℕ → List (thread.ThreadState × Label) = λ u. trail m (end m s k.run) (replicate n (t, 0)) u in
    let quiet : (u : ℕ) → AllQuiet (rest u) = private_steps_are_quiet guest.code (end m s k.run) t n each in
    run_end_is_follower guest r g ps (k.run ++ replicate n (t, 0))
    (private_follow_trace guest.code (trace_of r) s k.run t n k.follows each (subst (λ z. n ≤ z) (ahead_is_left_steps guest r f ps k t) le))
    (w.ends ∙ ap (λ c. end (thread_machine c) (tables f) (replicate n (t, 0))) k.code ∙ ap (λ z. end m z (replicate n (t, 0))) k.ends
    ∙ sym (end_append m s k.run (replicate n (t, 0))))
    (w.code ∙ k.code) (w.threads ∙ k.threads) (w.objects ∙ k.objects)
    (λ u l. k.placed u l ∙ sym (append-nil (places_of (trail m s k.run u)))
    ∙ ap (λ z. places_of (trail m s k.run u) ++ z) (sym (quiet_steps_no_places (0 + length (trail m s k.run u)) (rest u) (quiet u)))
    ∙ sym (places_from_of_append 0 (trail m s k.run u) (rest u)) ∙ ap (λ z. places_of z) (sym (trail_append m s k.run (replicate n (t, 0)) u)))
    (λ u l. k.left u l ∙ sym (append-nil (leaves_of (trail m s k.run u)))
    ∙ ap (λ z. leaves_of (trail m s k.run u) ++ z) (sym (quiet_steps_no_leaves (0 + length (trail m s k.run u)) (rest u) (quiet u)))
    ∙ sym (leaves_from_of_append 0 (trail m s k.run u) (rest u)) ∙ ap (λ z. leaves_of z) (sym (trail_append m s k.run (replicate n (t, 0)) u)))

-- ---- fewer are left

difference_antitone : (a b c k : ℕ) → b ≡ c + k → a - b ≤ a - c
difference_antitone a b c k e = omega (arith, e)

pub ahead_fewer_by_step : (r : Recorded) (f g : Flat) (t v : ℕ) → t < length f.threads → CanFollow r f t v
    → tables g ≡ after (machine_of f) (tables f) (t, v) → length g.threads ≡ length f.threads → all_ahead r g < all_ahead r f
ahead_fewer_by_step r f g t v l can taken threads =
    let m = machine_of f in
    let steps : (u : ℕ) → (thread_of g u).steps ≡ (thread_of f u).steps + count m (tables f) ((t, v) ∷ []) u =
    λ u. ap (λ s. (s.now u).steps) taken ∙ (tallies_along_run f.code (tables f) ((t, v) ∷ []) (can.0, tt) u).steps in
    let one : count m (tables f) ((t, v) ∷ []) t ≡ 1 = ap length (trail_cons_own m (tables f) (t, v) []) in
    let some : 0 < steps_ahead r f t = can.1 in
    let own : (thread_of g t).steps ≡ (thread_of f t).steps + count m (tables f) ((t, v) ∷ []) t = steps t in
    subst (λ n. sum_below n (steps_ahead r g) < all_ahead r f) (sym threads)
    (sum_below_less (length f.threads) t (steps_ahead r g) (steps_ahead r f) l (omega (arith, own, one, some))
    (λ u. difference_antitone (recorded_thread r u).steps (thread_of g u).steps (thread_of f u).steps _ (steps u)))

private_ahead_no_more : (r : Recorded) (f g : Flat) (t n : ℕ) → WentAlone f g t n → all_ahead r g ≤ all_ahead r f
private_ahead_no_more r f g t n w =
    subst (λ k. sum_below k (steps_ahead r g) ≤ all_ahead r f) (sym w.threads)
    (sum_below_is_monotone (length f.threads) (steps_ahead r g) (steps_ahead r f)
    (λ u. difference_antitone (recorded_thread r u).steps (thread_of g u).steps (thread_of f u).steps
    (count (machine_of f) (tables f) (replicate n (t, 0)) u)
    (ap (λ s. (s.now u).steps) w.ends ∙ (tallies_along_run f.code (tables f) (replicate n (t, 0)) w.runs u).steps)))

-- ---- what is kept keeps up

module _ (r : Recorded) (f g : Flat) (ps qs : List Growing) (n : Move) (move : IsMove r f n) (kept : IsPlaced r f ps)
    (more : qs ≡ placed_more f ps n.thread n.asked) (taken : tables g ≡ after (machine_of f) (tables f) (n.thread, n.result))
    (threads : length g.threads ≡ length f.threads) where
  now_own : thread_of g n.thread ≡ moved_thread f.code (tables f) (n.thread, n.result)
  now_own = ap (λ s. s.now n.thread) taken ∙ ap (λ now. now n.thread) (threads_after_step f.code (tables f) (n.thread, n.result))
      ∙ upd_at_own_place (thread_of f) n.thread (moved_thread f.code (tables f) (n.thread, n.result))

  now_else : (u : ℕ) → u ≢ n.thread → thread_of g u ≡ thread_of f u
  now_else u ne = ap (λ s. s.now u) taken ∙ ap (λ now. now u) (threads_after_step f.code (tables f) (n.thread, n.result))
      ∙ upd_at_other_place (thread_of f) n.thread u (moved_thread f.code (tables f) (n.thread, n.result)) ne

  at_own : growing_at qs n.thread ≡ placed_by f n.thread (growing_at ps n.thread) (ask_of f.code (thread_of f n.thread))
  at_own = ap (λ z. growing_at z n.thread) more
      ∙ get_or-set_same ps n.thread (placed_by f n.thread (growing_at ps n.thread) n.asked) none_growing
      (let l = move.below in let e = kept.each in omega (arith, l, e)) ∙ ap (placed_by f n.thread (growing_at ps n.thread)) move.asked

  at_else : (u : ℕ) → u ≢ n.thread → growing_at qs u ≡ growing_at ps u
  at_else u ne = ap (λ z. growing_at z u) more ∙ get_or-set_other ps n.thread u (placed_by f n.thread (growing_at ps n.thread) n.asked)
      none_growing ne

  -- what holds of a thread and what is kept of it
  each_of : (P : ℕ → thread.ThreadState → Growing → Type 0)
      → P n.thread (moved_thread f.code (tables f) (n.thread, n.result))
      (placed_by f n.thread (growing_at ps n.thread) (ask_of f.code (thread_of f n.thread)))
      → ((u : ℕ) → u < length f.threads → P u (thread_of f u) (growing_at ps u)) → (u : ℕ) → u < length g.threads
      → P u (thread_of g u) (growing_at qs u)
  each_of P own others u l = elim (cases_eq u n.thread) [
    | inl e ↦ subst (λ z. P z (thread_of g z) (growing_at qs z)) (sym e)
        (subst (λ x. P n.thread x (growing_at qs n.thread)) (sym now_own)
        (subst (P n.thread (moved_thread f.code (tables f) (n.thread, n.result))) (sym at_own) own))
    | inr ne ↦ subst (λ x. P u x (growing_at qs u)) (sym (now_else u ne))
        (subst (P u (thread_of f u)) (sym (at_else u ne)) (others u (omega (arith, l, threads))))
  ]

  placed_on : IsPlaced r g qs
  placed_on = record {
    each = ap (λ z. length z) more ∙ length-set ps n.thread _ ∙ kept.each ∙ sym threads;
    rooms = each_of (λ u x p. p.room ≡ length (recorded_thread r u).events)
        (room_after_placed_by f n.thread (growing_at ps n.thread) (ask_of f.code (thread_of f n.thread)) ∙ kept.rooms n.thread move.below) kept.rooms;
    counts = each_of (λ u x p. length p.entries ≡ x.events)
        (placed_count_events f.code f n.thread (growing_at ps n.thread) (thread_of f n.thread) (ask_of f.code (thread_of f n.thread)) _
        (kept.counts n.thread move.below)) kept.counts;
    fewer = each_of (λ u x p. length p.leaves + held_count x.held ≤ x.events)
        (placed_leaves_in_events f.code f n.thread (growing_at ps n.thread) (thread_of f n.thread) (ask_of f.code (thread_of f n.thread)) _
        (ask_of_permitted f.code (thread_of f n.thread)) (kept.fewer n.thread move.below)) kept.fewer;
    within = each_of (λ u x p. x.events ≤ length (recorded_thread r u).events)
        (followed_events_within r f n.thread n.result _ move.follows (kept.within n.thread move.below)) kept.within;
  }

-- who leaves an object leaves one of the guest's, and there is room to keep the leave
pub left_object_exists : (f : Flat) (t o : ℕ) (a : Access) → IsFlat f → t < length f.threads → ask_of f.code (thread_of f t) ≡ Leaves o a
    → o < length f.objects
left_object_exists f t o a flat l is = let p = subst (Permits (thread_of f t)) is (ask_of_permitted f.code (thread_of f t)) in
    omega (arith, p.1, flat.places t l)

pub leaves_below_room : (r : Recorded) (f : Flat) (ps : List Growing) (t o : ℕ) (a : Access) → IsPlaced r f ps → t < length f.threads
    → ask_of f.code (thread_of f t) ≡ Leaves o a → length (growing_at ps t).leaves < (growing_at ps t).room
leaves_below_room r f ps t o a kept l is =
    let p = subst (Permits (thread_of f t)) is (ask_of_permitted f.code (thread_of f t)) in
    let some = held_count_after_leave (thread_of f t).held o p.1 (λ none. cc (p.2, none)) in
    omega (arith, some, kept.fewer t l, kept.within t l, kept.rooms t l)

-- what is found at a place is what is kept of that thread
pub found_growing_is_at : (ps : List Growing) (t : ℕ) (p : Growing) → t < length ps → p ≡ get_or ps t p → p ≡ growing_at ps t
found_growing_is_at ps t p l e = e ∙ get_or_default ps t p none_growing l

-- private steps keep what is held
held_after_private_step : (code : List ℕ) (s : State thread.ThreadState) (t u : ℕ) → ask_of code (s.now t) ≡ Private
    → ((after (thread_machine code) s (t, 0)).now u).held ≡ (s.now u).held
held_after_private_step code s t u is = ap (λ now. (now u).held) (threads_after_step code s (t, 0))
    ∙ upd_by_cases s.now t (moved_thread code s (t, 0)) u (λ z. z.held ≡ (s.now u).held)
    (λ e. ap (λ q. (after_ask code (s.now t) q
    (reply_of q (reply (act_of (shared_ask q) 0) (s.objects (target (act_of (shared_ask q) 0)))))).held) is
    ∙ ap (λ i. (s.now i).held) (sym e))
    (λ _. refl)

private_keeps_held : (code : List ℕ) (s : State thread.ThreadState) (t n : ℕ)
    → ((k : ℕ) → k < n → ask_of code ((end (thread_machine code) s (replicate k (t, 0))).now t) ≡ Private) → (u : ℕ)
    → ((end (thread_machine code) s (replicate n (t, 0))).now u).held ≡ (s.now u).held
private_keeps_held code s t zero each u = refl
private_keeps_held code s t (suc n) each u =
    private_keeps_held code (after (thread_machine code) s (t, 0)) t n (λ k l. each (suc k) (omega (arith, l))) u
    ∙ held_after_private_step code s t u (each 0 (omega arith))

pub placed_after_private : (r : Recorded) (f g : Flat) (ps : List Growing) (t n : ℕ) → IsPlaced r f ps → WentAlone f g t n → IsPlaced r g ps
placed_after_private r f g ps t n kept w =
    let events_same : (u : ℕ) → (thread_of g u).events ≡ (thread_of f u).events =
    λ u. ap (λ s. (s.now u).events) w.ends ∙ (tallies_along_run f.code (tables f) (replicate n (t, 0)) w.runs u).events
    ∙ ap (λ z. (thread_of f u).events + length z) (w.quiet u)
    ∙ (let e : (thread_of f u).events + 0 ≡ (thread_of f u).events = omega arith in e) in
    let held_same : (u : ℕ) → (thread_of g u).held ≡ (thread_of f u).held = λ u. ap (λ s. (s.now u).held) w.ends
    ∙ private_keeps_held f.code (tables f) t n w.each u in
    record {
      each = kept.each ∙ sym w.threads;
      rooms = λ u l. kept.rooms u (omega (arith, l, w.threads));
      counts = λ u l. kept.counts u (omega (arith, l, w.threads)) ∙ sym (events_same u);
      fewer = λ u l. subst (λ h. length (growing_at ps u).leaves + held_count h ≤ (thread_of g u).events) (sym (held_same u))
          (subst (λ e. length (growing_at ps u).leaves + held_count (thread_of f u).held ≤ e) (sym (events_same u))
          (kept.fewer u (omega (arith, l, w.threads))));
      within = λ u l. subst (λ e. e ≤ length (recorded_thread r u).events) (sym (events_same u))
          (kept.within u (omega (arith, l, w.threads)));
    }

-- ---- what is kept at the start

-- nothing, with room for what the trace emits of a thread
abbrev pub empty_growing_for : RecordedThread → Growing
empty_growing_for t = record { entries = []; leaves = []; room = length t.events }

start_holds_nothing : (guest : Guest) (budget : ℕ) (profile : Profile) (from n t : ℕ) → held_count (get_or (start_threads guest budget profile from n) t idle).held ≡ 0
start_holds_nothing guest budget profile from zero t = refl
start_holds_nothing guest budget profile from (suc n) zero = sum_by-replicate one_if_held (object_count guest) None
    ∙ (let e : object_count guest * 0 ≡ 0 = omega arith in e)
start_holds_nothing guest budget profile from (suc n) (suc t) = start_holds_nothing guest budget profile (suc from) n t

growing_at-map_empty : (rs : List RecordedThread) (t : ℕ) → growing_at (map empty_growing_for rs) t ≡ empty_growing_for (get_or rs t absent)
growing_at-map_empty [] t = refl
growing_at-map_empty (x ∷ rs) zero = refl
growing_at-map_empty (x ∷ rs) (suc t) = growing_at-map_empty rs t

pub start_is_placed : (guest : Guest) (r : Recorded) (f : Flat) (ps : List Growing) → f ≡ start_flat guest r.budget r.profile
    → ps ≡ map empty_growing_for r.threads → length r.threads ≡ length f.threads → IsPlaced r f ps
start_is_placed guest r f ps start rooms count =
    let at : (t : ℕ) → growing_at ps t ≡ empty_growing_for (recorded_thread r t) = λ t. ap (λ z. growing_at z t) rooms ∙ growing_at-map_empty r.threads t in
    let no_events : (t : ℕ) → (thread_of f t).events ≡ 0 = λ t. ap (λ z. (thread_of z t).events) start
    ∙ (start_thread_is_fresh guest r.budget r.profile 0 (length guest.entries) t).events in
    let no_held : (t : ℕ) → held_count (thread_of f t).held ≡ 0 = λ t. ap (λ z. held_count (thread_of z t).held) start
    ∙ start_holds_nothing guest r.budget r.profile 0 (length guest.entries) t in
    record {
      each = ap (λ z. length z) rooms ∙ length-map r.threads empty_growing_for ∙ count;
      rooms = λ t l. ap (λ z. z.room) (at t);
      counts = λ t l. ap (λ z. length z.entries) (at t) ∙ sym (no_events t);
      fewer = λ t l. let none : length (growing_at ps t).leaves ≡ 0 = ap (λ z. length z.leaves) (at t) in let held = no_held t in
          omega (arith, none, held);
      within = λ t l. let none = no_events t in omega (arith, none);
    }

pub start_has_no_places : (r : Recorded) (ps : List Growing) → ps ≡ map empty_growing_for r.threads → (t : ℕ) → ((growing_at ps t).entries ≡ [])
    × ((growing_at ps t).leaves ≡ [])
start_has_no_places r ps rooms t = (
  ap (λ z. (growing_at z t).entries) rooms
      ∙ ap (λ z. z.entries) (growing_at-map_empty r.threads t),
  ap (λ z. (growing_at z t).leaves) rooms ∙ ap (λ z. z.leaves) (growing_at-map_empty r.threads t),
)

-- ---- continuing

pub goes_on_by_private : (r : Recorded) (f g : Flat) (ps : List Growing) (t n : ℕ) → WentAlone f g t n → n ≤ steps_ahead r f t → FollowerGoesOn r f ps g ps
goes_on_by_private r f g ps t n w le = record {
  follows = λ guest. follower_after_private guest r f g ps t n w le;
  threads = w.threads;
  objects =
      w.objects;
  fewer = private_ahead_no_more r f g t n w;
}

-- a step that was taken
pub record MoveTaken (r : Recorded) (f : Flat) (ps : List Growing) (g : Flat) (qs : List Growing) : Type 0 where
  pub goes : FollowerGoesOn r f ps g qs
  pub less : all_ahead r g < all_ahead r f
  pub placed : IsPlaced r g qs

move_taken_by_step : (r : Recorded) (f g : Flat) (ps qs : List Growing) (n : Move) → IsMove r f n → IsPlaced r f ps
    → qs ≡ placed_more f ps n.thread n.asked → tables g ≡ after (machine_of f) (tables f) (n.thread, n.result) → g.code ≡ f.code
    → length g.threads ≡ length f.threads → length g.objects ≡ length f.objects → MoveTaken r f ps g qs
move_taken_by_step r f g ps qs n move kept more taken code threads objects =
    let less = ahead_fewer_by_step r f g n.thread n.result move.below move.follows taken threads in
    record {
      goes = record {
        follows = λ guest. follower_after_move guest r f g ps qs n move kept.each more taken code threads objects;
        threads = threads;
        objects = objects;
        fewer = omega (arith, less);
      };
      less = less;
      placed = placed_on r f g ps qs n move kept more taken threads;
    }

pub move_taken_by_result : {X E : Type 0} (result : Result X E) (r : Recorded) (f g h : Flat) (ps qs : List Growing) (n : Move) → IsMove r f n
    → IsPlaced r f ps → qs ≡ placed_more f ps n.thread n.asked → h ≡ f
    → OnOk result (tables g ≡ after (machine_of h) (tables h) (n.thread, n.result)) → g.code ≡ h.code → length g.threads ≡ length h.threads
    → length g.objects ≡ length h.objects
    → OnErr result (Can (machine_of h) (tables h) (n.thread, n.result) → ⊥) → MoveTaken r f ps g qs
move_taken_by_result (Ok x) r f g h ps qs n move kept more same taken code threads objects never =
    move_taken_by_step r f g ps qs n move kept more (subst (λ z. tables g ≡ after (machine_of z) (tables z) (n.thread, n.result)) same taken)
    (code ∙ ap (λ z. z.code) same) (threads ∙ ap (λ z. length z.threads) same) (objects ∙ ap (λ z. length z.objects) same)
move_taken_by_result (Err x) r f g h ps qs n move kept more same taken code threads objects never =
    absurd (never (subst (λ z. Can (machine_of z) (tables z) (n.thread, n.result)) (sym same) move.follows.0))

pub goes_on_is_reflexive : (r : Recorded) (f : Flat) (ps : List Growing) → FollowerGoesOn r f ps f ps
goes_on_is_reflexive r f ps = record { follows = λ guest k. k; threads = refl; objects = refl; fewer = omega arith }

pub goes_on_is_transitive : (r : Recorded) (f g h : Flat) (ps qs os : List Growing) → FollowerGoesOn r f ps g qs → FollowerGoesOn r g qs h os → FollowerGoesOn r f ps h os
goes_on_is_transitive r f g h ps qs os p q = record {
  follows = λ guest k. q.follows guest (p.follows guest k);
  threads = q.threads ∙ p.threads;
  objects = q.objects ∙ p.objects;
  fewer = let a = p.fewer in let b = q.fewer in omega (arith, a, b);
}

-- continuing by private steps
pub goes_on_then_private : (r q : Recorded) (f g h : Flat) (ps qs : List Growing) (t n left : ℕ) → q ≡ r → FollowerGoesOn r f ps g qs → WentAlone g h t n
    → n ≤ left → left ≡ steps_ahead q g t → FollowerGoesOn r f ps h qs
goes_on_then_private r q f g h ps qs t n left same goes w le is =
    goes_on_is_transitive r f g h ps qs qs goes (subst (λ z. FollowerGoesOn z g qs h qs) same (goes_on_by_private q g h qs t n w (omega (arith, le, is))))

-- and by a further step
pub goes_on_past_private : (r q : Recorded) (f g h i : Flat) (ps qs os : List Growing) (t n left : ℕ) → q ≡ r → FollowerGoesOn r f ps g qs
    → WentAlone g h t n → n ≤ left → left ≡ steps_ahead q g t → FollowerGoesOn q h qs i os → FollowerGoesOn r f ps i os
goes_on_past_private r q f g h i ps qs os t n left same goes w le is move =
    goes_on_is_transitive r f h i ps qs os (goes_on_then_private r q f g h ps qs t n left same goes w le is) (subst (λ z. FollowerGoesOn z h qs i os) same move)

-- which leaves fewer
pub ahead_fewer_past_private : (r q : Recorded) (f g h : Flat) (t n : ℕ) → WentAlone f g t n → all_ahead q h < all_ahead r g
    → all_ahead q h < all_ahead r f
ahead_fewer_past_private r q f g h t n w less = let same = private_ahead_no_more r f g t n w in omega (arith, same, less)

-- a step after a look, and what comes after it
pub goes_on_trans_3 : (r q p : Recorded) (f g g' h i : Flat) (ps bs bs' cs ds : List Growing) → FollowerGoesOn r f ps g bs → g' ≡ g → bs' ≡ bs → q ≡ r
    → FollowerGoesOn q g' bs' h cs → p ≡ q → FollowerGoesOn p h cs i ds → FollowerGoesOn r f ps i ds
goes_on_trans_3 r q p f g g' h i ps bs bs' cs ds goes same kept trace step after_it then =
    goes_on_is_transitive r f h i ps cs ds (goes_on_is_transitive r f g h ps bs cs goes
    (subst (λ z. FollowerGoesOn r z bs h cs) same (subst (λ z. FollowerGoesOn r g' z h cs) kept (subst (λ z. FollowerGoesOn z g' bs' h cs) trace step))))
    (subst (λ z. FollowerGoesOn z h cs i ds) (after_it ∙ trace) then)

pub goes_on_if_end_same : (r : Recorded) (f g h : Flat) (ps bs cs : List Growing) → h ≡ g → cs ≡ bs → FollowerGoesOn r f ps g bs → FollowerGoesOn r f ps h cs
goes_on_if_end_same r f g h ps bs cs same kept goes = subst (λ z. FollowerGoesOn r f ps z cs) (sym same) (subst (λ z. FollowerGoesOn r f ps g z) (sym kept) goes)

pub ahead_fewer_goes_on : (r q p o : Recorded) (g g' h i : Flat) (cs ds : List Growing) → g' ≡ g → q ≡ r → all_ahead p h < all_ahead q g'
    → FollowerGoesOn p h cs i ds → o ≡ p → all_ahead o i < all_ahead r g
ahead_fewer_goes_on r q p o g g' h i cs ds same trace less then last =
    let fewer = then.fewer in
    let there_left : all_ahead q g' ≡ all_ahead r g = ap (λ z. all_ahead z g') trace ∙ ap (all_ahead r) same in
    let here_left : all_ahead o i ≡ all_ahead p i = ap (λ z. all_ahead z i) last in
    omega (arith, less, fewer, there_left, here_left)

-- ---- where threads are

-- what the last step of a run met
last_step_follows : (guest : Guest) (r : Recorded) (run : List Step) (t v : ℕ) → GuestFollows guest r (run ++ (t, v) ∷ [])
    → StepFollows (guest_machine guest r) (trace_of r) (end (guest_machine guest r) (guest_start guest r) run)
    (left_steps (trail (guest_machine guest r) (guest_start guest r) run t) ((trace_of r).steps t))
    (left_log (trail (guest_machine guest r) (guest_start guest r) run t) ((trace_of r).logs t)) t v
last_step_follows guest r run t v h =
    let m = guest_machine guest r in
    let s = guest_start guest r in
    let last = last_step_fits (closing m (trace_of r) t) ((trace_of r).steps t) ((trace_of r).logs t) (trail m s run t)
    ((end m s run).now t, emitted (act m (end m s run) (t, v)) ((end m s run).objects (target (act m (end m s run) (t, v)))))
    (subst (Fits (closing m (trace_of r) t) ((trace_of r).steps t) ((trace_of r).logs t))
    (trail_append m s run ((t, v) ∷ []) t ∙ ap (λ z. trail m s run t ++ z) (trail_cons_own m (end m s run) (t, v) [])) (h.1 t)) in
    (last_step_can_be_taken m s run (t, v) h.0, last.0, last.1, last.2)

-- a thread that is stopped can't go on along the run
pub stopped_cannot_follow : (guest : Guest) (r : Recorded) (f : Flat) (ps : List Growing) → (k : IsFollower guest r f ps) → (t v : ℕ) → IsStoppedAhead r f t
    → GuestFollows guest r (k.run ++ (t, v) ∷ []) → ⊥
stopped_cannot_follow guest r f ps k t v stopped h = stopped v
    (property_from_run_end guest r f ps k t (λ n z a es. StepFollows n (trace_of r) z a es t v) (last_step_follows guest r k.run t v h))

-- what holds of thread t at the end of a follower's run
abbrev pub Stands : (guest : Guest) (r : Recorded) (f : Flat) (ps : List Growing) → IsFollower guest r f ps → ℕ → ThreadVerdict → Type 0
Stands guest r f ps k t v = StandsAs (guest_machine guest r) (guest_start guest r) (trace_of r) k.run t v

pub done_stands_same : (guest : Guest) (r : Recorded) (f : Flat) (ps : List Growing) → (k : IsFollower guest r f ps) → (t : ℕ)
    → ask_of f.code (thread_of f t) ≡ Done → Stands guest r f ps k t Same
done_stands_same guest r f ps k t done = property_to_run_end guest r f ps k t (λ m s n es. asked m s t ≡ machine.Done) (ap shared_ask done)

not_done_at_run_end : (guest : Guest) (r : Recorded) (f : Flat) (ps : List Growing) → (k : IsFollower guest r f ps) → (t : ℕ)
    → ask_of f.code (thread_of f t) ≢ Done → asked (guest_machine guest r) (end (guest_machine guest r) (guest_start guest r) k.run) t ≢
    machine.Done
not_done_at_run_end guest r f ps k t ne done = ne (shared_done_is_done (ask_of f.code (thread_of f t))
    (property_from_run_end guest r f ps k t (λ m s n es. asked m s t ≡ machine.Done) done))

pub stands_disagreeing : (guest : Guest) (r : Recorded) (f : Flat) (ps : List Growing) → (k : IsFollower guest r f ps) → (t : ℕ)
    → ask_of f.code (thread_of f t) ≢ Done → (AgreesAhead r f t → ⊥)
    → Stands guest r f ps k t (Disagrees (thread_of f t).events (thread_of f t).steps)
stands_disagreeing guest r f ps k t ne other = (
  not_done_at_run_end guest r f ps k t ne,
  λ h. other (property_from_run_end guest r f ps k t (λ m s n es. Agrees m ((trace_of r).ends t) (s.now t) n es) h),
  k.events t,
  k.steps t,
)

pub stands_starving : (guest : Guest) (r : Recorded) (f : Flat) (ps : List Growing) → (k : IsFollower guest r f ps) → (t : ℕ)
    → ask_of f.code (thread_of f t) ≢ Done → AgreesAhead r f t → IsStoppedAhead r f t → Stands guest r f ps k t (Starves (thread_of f t).events)
stands_starving guest r f ps k t ne same stopped = (
  not_done_at_run_end guest r f ps k t ne,
  property_to_run_end guest r f ps k t (λ m s n es. Agrees m ((trace_of r).ends t) (s.now t) n es) same,
  λ h. stopped_cannot_follow guest r f ps k t _ stopped h,
  k.events t,
)

-- each thread that is stopped has a verdict
pub stopped_has_verdict : (guest : Guest) (r : Recorded) (f : Flat) (ps : List Growing) → (k : IsFollower guest r f ps) → (t : ℕ) → IsStoppedAhead r f t
    → (v : ThreadVerdict) × Stands guest r f ps k t v
stopped_has_verdict guest r f ps k t stopped =
    let m = guest_machine guest r in
    let s = guest_start guest r in
    elim (ask_is_done_or_not (asked m (end m s k.run) t)) [
      | inl d ↦ (Same, d)
      | inr ne ↦ elim (agrees_is_decidable m ((trace_of r).ends t) ((end m s k.run).now t) (left_steps (trail m s k.run t) ((trace_of r).steps t))
          (left_log (trail m s k.run t) ((trace_of r).logs t))) [
            | inl same ↦ (Starves (length (log m s k.run t)), (ne, same, (λ h. stopped_cannot_follow guest r f ps k t _ stopped h), refl))
            | inr other ↦ (Disagrees (length (log m s k.run t)) (count m s k.run t), (ne, other, refl, refl))
          ]
    ]

-- before the first step
pub start_is_follower : (guest : Guest) (r : Recorded) (f : Flat) (ps : List Growing) → f ≡ start_flat guest r.budget r.profile
    → ((t : ℕ) → ((growing_at ps t).entries ≡ []) × ((growing_at ps t).leaves ≡ [])) → IsFollower guest r f ps
start_is_follower guest r f ps start none = subst (λ z. IsFollower guest r z ps) (sym start) (start_flat_is_follower guest r ps none)

-- the guest at the end
pub followed_if_all_stopped : (guest : Guest) (r : Recorded) (f g : Flat) (ps qs : List Growing) → f ≡ start_flat guest r.budget r.profile
    → ((t : ℕ) → ((growing_at ps t).entries ≡ []) × ((growing_at ps t).leaves ≡ [])) → FollowerGoesOn r f ps g qs
    → ((t : ℕ) → t < length g.threads → IsStoppedAhead r g t) → IsFollowed guest r g qs
followed_if_all_stopped guest r f g ps qs start none goes stopped =
    let k : IsFollower guest r g qs = goes.follows guest (start_is_follower guest r f ps start none) in
    let all : (t : ℕ) → t < length guest.entries → IsStoppedAhead r g t = λ t l. stopped t (let n = k.threads in omega (arith, l, n)) in
    record { follower = k; stopped = all; stands = λ t l. stopped_has_verdict guest r g qs k t (all t l) }
