-- What the workers of all threads come to.
use Rattle.ir_thread.specs.declared.profile.Profile.{Profile}
use Rattle.std.proofs.Common.{◌≡◌, ℕ, zero, suc, ◌+◌, ◌<◌, Bool, true, false, List, [], ◌∷◌, ◌++◌, map, length, get_or, replicate, None, refl, sym, ap, ◌∙◌, subst, arith, append-nil}
use Rattle.std.proofs.lemmas.List.{length-replicate, length-map}
use Rattle.std.specs.List.{AllByRecursion, AllZip}
use Rattle.atomic_table.specs.Seated.{TableId}
use Rattle.ir_image.specs.Guest.{Guest, object_count}
use Rattle.ir_image.specs.Bounds.{IsGuest}
use Rattle.ir_runs.specs.declared.env_kind.EnvKind.{EnvKind}
use Rattle.ir_thread.specs.Permitted.{Permits}
use Rattle.ir_thread.specs.State.{held_at, ask_of, thread_machine}
use Rattle.ir_thread.specs.State as thread
use Rattle.ir_thread.specs.declared.ask.Ask.TheVariants as ask
use Rattle.ir_thread.proofs.CallerLemmas.{ask_of_permitted}
use Rattle.ir_crew.specs.Plays.{M}
use Rattle.ir_log.specs.Logged.{Logged}
use Rattle.ir_trace.specs.Recorded.{RecordedThread}
use Rattle.ir_trace.specs.Absent.{absent}
use Rattle.ir_record.specs.Gathered.{IsThreadTrace}
use Rattle.ir_record.specs.Worlds.{answers_at, AnsweredCall, answers_in, NoneFailed, AreSameWorlds}
use Rattle.ir_record.specs.Recording.{WentOn, EachWentOn}
use Rattle.ir_record.specs.Threads.{IsNewThread, AreNew, IsOver, AreTraces, HasRoomForThread, IsSeatOf, views_of}
use Rattle.ir_record.specs.Working.{WorkerWork, work_of_worker, IsWorking, IsReadyWorker, RanToEnd}
use Rattle.ir_record.specs.declared.by_threads.buffers.Buffers.{Buffers}
use Rattle.ir_record.specs.declared.by_threads.worker.Worker.{Worker}
use Rattle.ir_record.proofs.ByThreads.{AllWorkDone, work_at, tracks_of}
use Rattle.ir_record.proofs.Working.{worked_by_no_replies, logged_answers_alone}
use Rattle.ir_lemmas.proofs.CallerLemmas.{related_same_length}

-- ---- before the first step

new_worker_is_working : {W : Type 0} (answers : W → List AnsweredCall) (g : Guest) (budget : ℕ) (profile : Profile) (t : ℕ) (id : TableId) (w : Worker W) → IsNewThread g budget profile id t w
    → IsWorking g budget profile t (answers w.world) (work_of_worker answers w)
new_worker_is_working answers g budget profile t id w new = record {
  track = [];
  view = new.me;
  worked = subst (λ (z : thread.ThreadState × Logged). Rattle.ir_record.specs.Working.Worked (thread_machine g.code)
      (thread.start_state g t budget profile) z.0 [] [] (map Rattle.ir_log.specs.Logging.label_of z.1.events))
      (λ i. (sym new.thread i, sym new.log i)) (worked_by_no_replies (thread_machine g.code) (thread.start_state g t budget profile));
  held = λ o. sym (ap (λ x. held_at x.held o) new.thread ∙ none o);
  places = ap (λ x. length x.held) new.thread ∙ length-replicate (object_count g) None;
  profile_is = ap (λ x. x.profile) new.thread;
  few = let e = ap (λ x. x.events) new.thread in omega arith;
  room = ap (λ l. l.room) new.log;
  count = ap (λ l. length l.events) new.log ∙ sym (ap (λ x. x.events) new.thread);
  events_fit = subst (λ l. AllByRecursion (Rattle.ir_trace.specs.Bounds.IsEvent profile (object_count g)) l.events) (sym new.log) tt;
  answered = sym (ap (λ l. answers w.world ++ answers_in (map Rattle.ir_log.specs.Logging.label_of l.events))
      new.log ∙ append-nil (answers w.world));
}
  where
    none : (o : ℕ) → held_at (replicate (object_count g) None) o ≡ None
    none o = go (object_count g) o
      where
        go : (n o : ℕ) → held_at (replicate n None) o ≡ None
        go zero o = refl
        go (suc n) zero = refl
        go (suc n) (suc o) = go n o

pub new_workers_are_ready : {W : Type 0} (answers : W → List AnsweredCall) (broken : W → Bool) (g : Guest) (budget : ℕ) (profile : Profile) (t : ℕ) (id : TableId) (ws : List (Worker W))
    (worlds : List W) → AreNew g budget profile id t ws → map (λ w. w.world) ws ≡ worlds → NoneFailed (map broken worlds)
    → (k : ℕ) (d : Worker W) → k < length ws → IsReadyWorker answers broken g id g.code (get_or ws k d)
new_workers_are_ready answers broken g budget profile t id [] worlds new e works k d l = absurd (omega arith)
new_workers_are_ready answers broken g budget profile t id (w ∷ ws) worlds new e works zero d l = record {
  seated = record {
    seat = new.0.table;
    same_code = refl;
    worker =
        (budget, profile, t, answers w.world, new_worker_is_working answers g budget profile t id w new.0);
  };
  works = ap (λ z. get_or (map broken z) 0 false) e ∙ works 0;
}
new_workers_are_ready answers broken g budget profile t id (w ∷ ws) worlds new e works (suc k) d l =
    new_workers_are_ready answers broken g budget profile (suc t) id ws (map (λ z. z.world) ws) new.1
    refl (λ u. ap (λ z. get_or (map broken z) (suc u) false) e ∙ works (suc u)) k d (omega (arith, l))

-- ---- after the last

pub map_map : {A B C : Type 0} (f : B → C) (h : A → B) (xs : List A) → map f (map h xs) ≡ map (λ x. f (h x)) xs
map_map f h [] = refl
map_map f h (x ∷ xs) = ap (λ z. f (h x) ∷ z) (map_map f h xs)

-- no world has failed
abbrev pub NoneBroken : {W : Type 0} → (W → Bool) → List (Worker W) → Type 0
NoneBroken broken ws = (t : ℕ) → get_or (map (λ w. broken w.world) ws) t false ≡ false

module _ {W O : Type 0} (answers : W → List AnsweredCall) (broken : W → Bool) (origin : W → O) (g : Guest) (budget : ℕ) (profile : Profile) (id : TableId) where
  abbrev R : Worker W → Worker W → Type 0
  R = RanToEnd answers broken origin g

  at_end : (t : ℕ) (vs ws : List (Worker W)) → AreNew g budget profile id t vs → AllZip R vs ws → (k : ℕ) → k < length vs
      → get_or (map (λ w. broken w.world) ws) k false ≡ false
      → IsWorking g budget profile (t + k) (answers_at (map answers (map (λ w. w.world) vs)) k) (work_at (map (work_of_worker answers) ws) k)
      × (ask_of g.code (work_at (map (work_of_worker answers) ws) k).thread ≡ ask.Done)
  at_end t [] ws new p k l works = absurd (omega arith)
  at_end t (v ∷ vs) [] new p k l works = absurd p
  at_end t (v ∷ vs) (w ∷ ws) new p zero l works = (
    subst (λ z. IsWorking g budget profile z (answers v.world) (work_of_worker answers w)) (let e : t ≡ t + 0 = omega arith in e)
        ((p.0.stays works).still budget profile t (answers v.world) (new_worker_is_working answers g budget profile t id v new.0)),
    p.0.done works,
  )
  at_end t (v ∷ vs) (w ∷ ws) new p (suc k) l works =
      let r = at_end (suc t) vs ws new.1 p.1 k (omega (arith, l)) works in (
        subst (λ z. IsWorking g budget profile z (answers_at (map answers (map (λ w. w.world) vs)) k) (work_at (map (work_of_worker answers) ws) k))
            (let e : suc t + k ≡ t + suc k = omega arith in e) r.0,
        r.1,
      )

  -- the seats, and what is gathered
  seats_end : (t : ℕ) (vs ws : List (Worker W)) → AreNew g budget profile id t vs → AllZip R vs ws → NoneBroken broken ws
      → AllByRecursion (IsSeatOf id) (map (λ w. w.seat) ws)
  seats_end t [] [] new p works = tt
  seats_end t [] (w ∷ ws) new p works = absurd p
  seats_end t (v ∷ vs) [] new p works = tt
  seats_end t (v ∷ vs) (w ∷ ws) new p works =
      let i = (p.0.stays (works 0)).still budget profile t (answers v.world) (new_worker_is_working answers g budget profile t id v new.0) in (
        record { table = (p.0.stays (works 0)).seat ∙ new.0.table; empty = ap (λ (z : M). z.1) i.view },
        seats_end (suc t) vs ws new.1 p.1
            (λ u. works (suc u)),
      )

  over_end : (objects t : ℕ) (vs ws : List (Worker W)) → objects ≡ object_count g → AreNew g budget profile id t vs → AllZip R vs ws
      → NoneBroken broken ws → AllByRecursion (IsOver profile objects) ws
  over_end objects t [] [] n new p works = tt
  over_end objects t [] (w ∷ ws) n new p works = absurd p
  over_end objects t (v ∷ vs) [] n new p works = tt
  over_end objects t (v ∷ vs) (w ∷ ws) n new p works =
      let i = (p.0.stays (works 0)).still budget profile t (answers v.world) (new_worker_is_working answers g budget profile t id v new.0) in (
        record {
          ended = (subst (Permits w.thread) (p.0.done (works 0)) (ask_of_permitted g.code w.thread)).0;
          events_fit = subst (λ z. AllByRecursion (Rattle.ir_trace.specs.Bounds.IsEvent profile z) w.log.events) (sym n) i.events_fit;
        },
        over_end objects (suc t) vs ws n new.1 p.1 (λ u. works (suc u)),
      )

  -- the work of a worker until its world failed
  at_stop : (t : ℕ) (vs ws : List (Worker W)) → AreNew g budget profile id t vs → AllZip R vs ws → (k : ℕ) → k < length vs
      → get_or (map (λ w. broken w.world) ws) k false ≡ true
      → (last : WorkerWork) × IsWorking g budget profile (t + k) (answers_at (map answers (map (λ w. w.world) vs)) k) last
      × ((kind : EnvKind) × (ask_of g.code last.thread ≡ ask.Env kind))
      × (answers_at (map answers (map (λ w. w.world) ws)) k ≡ last.answers)
  at_stop t [] ws new p k l failed = absurd (omega arith)
  at_stop t (v ∷ vs) [] new p k l failed = absurd p
  at_stop t (v ∷ vs) (w ∷ ws) new p zero l failed =
      let h = p.0.worked failed in (
        h.last,
        subst (λ z. IsWorking g budget profile z (answers v.world) h.last) (let e : t ≡ t + 0 = omega arith in e)
            (h.still budget profile t (answers v.world) (new_worker_is_working answers g budget profile t id v new.0)),
        h.asks,
        h.no_more,
      )
  at_stop t (v ∷ vs) (w ∷ ws) new p (suc k) l failed =
      let r = at_stop (suc t) vs ws new.1 p.1 k (omega (arith, l)) failed in (
        r.0,
        subst (λ z. IsWorking g budget profile z (answers_at (map answers (map (λ w. w.world) vs)) k) r.0)
            (let e : suc t + k ≡ t + suc k = omega arith in e) r.1,
        r.2,
        r.3,
      )

  origins_end : (vs ws : List (Worker W)) → AllZip R vs ws → map origin (map (λ w. w.world) ws) ≡ map origin (map (λ w. w.world) vs)
  origins_end [] [] p = refl
  origins_end [] (w ∷ ws) p = absurd p
  origins_end (v ∷ vs) [] p = absurd p
  origins_end (v ∷ vs) (w ∷ ws) p = λ i. p.0.same_origin i ∷ origins_end vs ws p.1 i

answers_at_work : {W : Type 0} (answers : W → List AnsweredCall) (ws : List (Worker W)) (t : ℕ)
    → answers_at (map answers (map (λ w. w.world) ws)) t ≡ (work_at (map (work_of_worker answers) ws) t).answers
answers_at_work answers [] t = refl
answers_at_work answers (w ∷ ws) zero = refl
answers_at_work answers (w ∷ ws) (suc t) = answers_at_work answers ws t

-- the workers of a guest with these worlds, before their first step and after their last
pub record HaveRun {W O : Type 0} (answers : W → List AnsweredCall) (broken : W → Bool) (origin : W → O) (g : Guest) (budget : ℕ)
    (profile : Profile) (id : TableId) (worlds : List W) (vs ws : List (Worker W)) : Type 0 where
  pub new : AreNew g budget profile id 0 vs
  pub pairs : AllZip (RanToEnd answers broken origin g) vs ws
  pub same : map (λ w. w.world) vs ≡ worlds
  pub each : length worlds ≡ length g.entries

module _ {W O : Type 0} {answers : W → List AnsweredCall} {broken : W → Bool} {origin : W → O} {g : Guest} {budget : ℕ}
    {profile : Profile} {id : TableId} {worlds : List W} {vs ws : List (Worker W)}
    (ran : HaveRun answers broken origin g budget profile id worlds vs ws) where
  same_count : length ws ≡ length vs
  same_count = related_same_length (RanToEnd answers broken origin g) vs ws ran.pairs

  pub threads_there : length ws ≡ length g.entries
  threads_there = same_count ∙ sym (length-map vs (λ w. w.world)) ∙ ap (λ z. length z) ran.same ∙ ran.each

  pub room_there : {room : Buffers W} {n m : ℕ} → HasRoomForThread n room → n ≡ length vs → m ≡ length ws → HasRoomForThread m room
  room_there {room} {n} {m} h was now = subst (λ z. HasRoomForThread z room) (was ∙ sym same_count ∙ sym now) h

  pub worlds_there : AreSameWorlds origin worlds (map (λ w. w.world) ws)
  worlds_there = origins_end answers broken origin g budget profile id vs ws ran.pairs ∙ ap (map origin) ran.same

  pub seats_there : NoneBroken broken ws → AllByRecursion (IsSeatOf id) (map (λ w. w.seat) ws)
  seats_there = seats_end answers broken origin g budget profile id 0 vs ws ran.new ran.pairs

  pub ended_there : (objects : ℕ) → objects ≡ object_count g → NoneBroken broken ws → AllByRecursion (IsOver profile objects) ws
  ended_there objects n = over_end answers broken origin g budget profile id objects 0 vs ws n ran.new ran.pairs

  -- a thread whose world has not failed is done
  end_of : (t : ℕ) → t < length g.entries → get_or (map (λ w. broken w.world) ws) t false ≡ false
      → IsWorking g budget profile t (answers_at (map answers worlds) t) (work_at (map (work_of_worker answers) ws) t)
      × (ask_of g.code (work_at (map (work_of_worker answers) ws) t).thread ≡ ask.Done)
  end_of t l works =
      let r = at_end answers broken origin g budget profile id 0 vs ws ran.new ran.pairs t
      (let n = threads_there in let m = same_count in omega (arith, l, n, m)) works in (
        subst (λ z. IsWorking g budget profile t (answers_at (map answers z) t) (work_at (map (work_of_worker answers) ws) t)) ran.same
            (subst (λ k. IsWorking g budget profile k (answers_at (map answers (map (λ w. w.world) vs)) t)
            (work_at (map (work_of_worker answers) ws) t)) (let z : 0 + t ≡ t = omega arith in z) r.0),
        r.1,
      )

  pub all_over : IsGuest g → NoneBroken broken ws → AllWorkDone g budget profile (map answers worlds) (map (work_of_worker answers) ws)
  all_over guest works = record {
    guest = guest;
    size = length-map ws (work_of_worker answers) ∙ threads_there;
    working = λ t l. (end_of t l (works t)).0;
    done = λ t l. (end_of t l (works t)).1;
  }

  -- a thread whose world has failed asked it last
  stop_of : (t : ℕ) → t < length g.entries → get_or (map (λ w. broken w.world) ws) t false ≡ true
      → (last : WorkerWork) × IsWorking g budget profile t (answers_at (map answers worlds) t) last
      × ((kind : EnvKind) × (ask_of g.code last.thread ≡ ask.Env kind))
      × (answers_at (map answers (map (λ w. w.world) ws)) t ≡ last.answers)
  stop_of t l failed =
      let r = at_stop answers broken origin g budget profile id 0 vs ws ran.new ran.pairs t
      (let n = threads_there in let m = same_count in omega (arith, l, n, m)) failed in (
        r.0,
        subst (λ z. IsWorking g budget profile t (answers_at (map answers z) t) r.0) ran.same
            (subst (λ k. IsWorking g budget profile k (answers_at (map answers (map (λ w. w.world) vs)) t) r.0)
            (let z : 0 + t ≡ t = omega arith in z) r.1),
        r.2,
        r.3,
      )

  -- what a worker's thread did alone
  went_on : (t : ℕ) (last : WorkerWork) (failed : Bool) (after : List AnsweredCall)
      → IsWorking g budget profile t (answers_at (map answers worlds) t) last → (failed ≡ false → ask_of g.code last.thread ≡ ask.Done)
      → (failed ≡ true → (kind : EnvKind) × (ask_of g.code last.thread ≡ ask.Env kind)) → after ≡ last.answers
      → WentOn g budget profile t failed (answers_at (map answers worlds) t) after
  went_on t last failed after i done asks e =
      let w = i.worked in
      record {
        replies = w.replies;
        may = w.may;
        done = λ f. ap (ask_of g.code) w.now ∙ done f;
        asks = λ f. ((asks f).0, ap (ask_of g.code) w.now ∙ (asks f).1);
        answered = e ∙ i.answered ∙ ap (λ z. answers_at (map answers worlds) t ++ z)
            (ap answers_in (sym w.logged)
            ∙ logged_answers_alone (thread_machine g.code) (thread.start_state g t budget profile) w.replies i.track);
      }

  pub each_there : EachWentOn answers broken g budget profile worlds (map (λ w. w.world) ws)
  each_there t l = by (get_or (map broken (map (λ w. w.world) ws)) t false) refl
    where
      by : (b : Bool) → get_or (map broken (map (λ w. w.world) ws)) t false ≡ b
          → WentOn g budget profile t (get_or (map broken (map (λ w. w.world) ws)) t false) (answers_at (map answers worlds) t)
          (answers_at (map answers (map (λ w. w.world) ws)) t)
      by false e =
          let r = end_of t l (ap (λ z. get_or z t false) (sym (map_map broken (λ w. w.world) ws)) ∙ e) in
          went_on t (work_at (map (work_of_worker answers) ws) t) _ _ r.0 (λ f. r.1) (λ f. absurd (cc (e, f))) (answers_at_work answers ws t)
      by true e =
          let r = stop_of t l (ap (λ z. get_or z t false) (sym (map_map broken (λ w. w.world) ws)) ∙ e) in
          went_on t r.0 _ _ r.1 (λ f. absurd (cc (e, f))) (λ f. r.2) r.3

pub seat_views_are_tracks : {W : Type 0} (answers : W → List AnsweredCall) (ws : List (Worker W))
    → views_of (map (λ w. w.seat) ws) ≡ tracks_of (map (work_of_worker answers) ws)
seat_views_are_tracks answers [] = refl
seat_views_are_tracks answers (w ∷ ws) = ap (λ z. w.seat.me.0 ++ z) (seat_views_are_tracks answers ws)

pub trace_of_its_worker : {W : Type 0} (answers : W → List AnsweredCall) (ws : List (Worker W)) (rs : List RecordedThread) → AreTraces ws rs → (t : ℕ)
    → t < length ws → IsThreadTrace (work_at (map (work_of_worker answers) ws) t).thread (work_at (map (work_of_worker answers) ws) t).log
    (get_or rs t absent)
trace_of_its_worker answers [] rs h t l = absurd (omega arith)
trace_of_its_worker answers (w ∷ ws) [] h t l = absurd h
trace_of_its_worker answers (w ∷ ws) (r ∷ rs) h zero l = h.0
trace_of_its_worker answers (w ∷ ws) (r ∷ rs) h (suc t) l = trace_of_its_worker answers ws rs h.1 t (omega (arith, l))
