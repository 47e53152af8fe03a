-- A seat and its thread after a step.
use Rattle.std.proofs.Common.{◌≡◌, ◌≢◌, ℕ, suc, zero, ◌+◌, ◌<◌, false, List, [], ◌∷◌, length, Some, refl, sym, ap, ◌∙◌, subst, arith, inl, inr, ◌⊎◌}
use Rattle.std.specs.Prelude.{slice_get}
use Rattle.ir_thread.specs.State.{ask_of, after_ask, after_reply, shared_ask}
use Rattle.ir_thread.specs.Permitted.{step_of, run_of}
use Rattle.ir_runs.specs.Machine.{act_of, Object, emitted, Admits}
use Rattle.ir_thread.specs.Private.{PrivateSteps}
use Rattle.ir_thread.specs.State as thread
use Rattle.ir_thread.specs.declared.end.End as end
use Rattle.ir_runs.specs.declared.access.Access.{Access}
use Rattle.ir_runs.specs.declared.access.Access.TheVariants.{Reading, Writing}
use Rattle.ir_thread.specs.declared.ask.Ask.{Ask}
use Rattle.ir_thread.specs.declared.ask.Ask.TheVariants.{Private, Env, Enter, Try, Leave, Get, Put, Print, End, Done}
use Rattle.ir_runs.specs.declared.env_kind.EnvKind.{EnvKind}
use Rattle.ir_thread.specs.declared.ask.Reply.{Reply}
use Rattle.ir_thread.specs.declared.ask.Reply.TheVariants.{Go, Value}
use Rattle.ir_runs.specs.Run.{Step, trail, count}
use Rattle.ir_flat.proofs.CallerLemmas.{events_added_by}
use Rattle.ir_log.specs.Logging.{label_of}
use Rattle.ir_log.specs.Asked.{ask_of as event_ask, SuitsEvent}
use Rattle.ir_log.proofs.CallerLemmas.{ask_of_call_event}
use Rattle.ir_log.specs.declared.event.Event.{Event}
use Rattle.ir_log.specs.declared.event.Event.TheVariants.{Answer as Answered, Read, Write, Try as Refused}
use Rattle.ir_trace.specs.Recorded.{recorded_thread}
use Rattle.ir_fit.specs.Fit.{FittedTrace, IsRunOf}
use Rattle.ir_cut.specs.Positions.{machine_of, start_of, thread_at}
use Rattle.ir_weave.specs.Ahead.{IsRefusedTry, TouchesNoObject, event_of, HasStep, IsAhead, IsAsking, IsEntering, ask_at}
use Rattle.ir_weave.specs.Woven.{View, M, trace_in, Met, progress, met_of, Rises, HasMet, Answers, IsFor, IsTableOpened, IsSeated, HasStepped, HasWaited, HasRunOn, WasStopped}
use Rattle.ir_weave.specs.declared.plan.Plan.{Plan}
use Rattle.ir_weave.proofs.Lone.{TakesStep, HasNoValue, IsNotDone, ahead_after_alone_step, no_lead_after_object_step, ahead_of_own_position}
use Rattle.ir_weave.proofs.Lone.{takes_step_with_go, takes_call_with_answer, takes_try_with_result, try_result, ahead_asks_in_run}
use Rattle.ir_weave.proofs.Lone.{logged_step_has_event, steps_after_one_ask, number_after_ask, has_step_is_not_done}
use Rattle.ir_weave.proofs.Trails.{StepOf, emitting_is_step_of}
use Rattle.ir_weave.proofs.Ended.{not_done_has_step, runs_have_same_counts}
use Rattle.ir_fit.proofs.CallerLemmas.{at_is_get_or}
use Rattle.std.proofs.lemmas.Bool.{cases_lt}

-- ---- the thread of a seat

abbrev pub position_of_view : View → ℕ
position_of_view [] = 0
position_of_view (q ∷ qs) = q.position

pub seated_thread_is_ahead : (k : Plan) (v : View) (x : thread.ThreadState) → IsSeated k v x → IsAhead (trace_in k) x.number (position_of_view v) x
seated_thread_is_ahead k [] x seated = absurd seated
seated_thread_is_ahead k (q ∷ r ∷ qs) x seated = absurd seated
seated_thread_is_ahead k (q ∷ []) x seated = subst (λ (z : Plan × ℕ). IsAhead (trace_in z.0) z.1 q.position x)
    (λ i. (seated.0 i, sym seated.1.number i)) seated.1

-- the thread advances, and the view stays
pub seated_by_ahead : (k : Plan) (v : View) (x y : thread.ThreadState) → IsSeated k v x
    → ((i : ℕ) → IsAhead (trace_in k) x.number i x → IsAhead (trace_in k) x.number i y) → IsSeated k v y
seated_by_ahead k [] x y seated on = absurd seated
seated_by_ahead k (q ∷ r ∷ qs) x y seated on = absurd seated
seated_by_ahead k (q ∷ []) x y seated on = (
  seated.0,
  subst (λ (z : Plan × ℕ). IsAhead (trace_in z.0) z.1 q.position y) (λ i. (sym seated.0 i, seated.1.number i))
      (on q.position (seated_thread_is_ahead k (q ∷ []) x seated)),
)

-- ---- what the thread is after its reply

reply_is_ask_reply : (code : List ℕ) (f : FittedTrace) (x : thread.ThreadState) (q : Ask) (r : Reply) → code ≡ f.guest.code → ask_of f.guest.code x ≡ q
    → after_reply code x r ≡ after_ask f.guest.code x q r
unfolding after_reply
reply_is_ask_reply code f x q r same is = (λ i. after_ask (same i) x (ask_of (same i) x) r) ∙ ap (λ a. after_ask f.guest.code x a r) is

-- nothing more was met
pub rises_is_reflexive : (m : Met) → Rises m m
rises_is_reflexive m = record { cut = λ u. omega arith; looks = omega arith }

-- a step that touches no object
pub stepped_by_alone_step : (k : Plan) (f : FittedTrace) (code : List ℕ) (me : M) (x y : thread.ThreadState) (q : Ask) (r : Reply) → IsFor k f
    → code ≡ f.guest.code → IsSeated k me.0 x → TouchesNoObject q (event_of (trace_in k) x.number x) → IsNotDone q → TakesStep (trace_in k) x.number x q r → y ≡ after_reply code x r
    → HasStepped k me me x y
stepped_by_alone_step k f code me x y q r for same seated alone step takes is =
    let y_is : y ≡ after_ask (trace_in k).guest.code x q r = is
    ∙ reply_is_ask_reply code (trace_in k) x q r (same ∙ ap (λ z. z.guest.code) (sym for)) takes.asks in
    subst (λ z. HasStepped k me me x z) (sym y_is) (record {
      seated = seated_by_ahead k me.0 x (after_ask (trace_in k).guest.code x q r) seated
          (λ i ahead. ahead_after_alone_step (trace_in k) x.number i x q r ahead takes alone);
      slots = refl;
      steps = steps_after_one_ask (trace_in k).guest.code x q r step;
      number = number_after_ask (trace_in k).guest.code x q r;
      rises = rises_is_reflexive (met_of me.0);
    })

-- a step on an object
pub stepped_by_object_step : (k : Plan) (f : FittedTrace) (code : List ℕ) (me me' : M) (x y : thread.ThreadState) (q : Ask) (r : Reply) → IsFor k f
    → code ≡ f.guest.code → IsSeated k me.0 x → IsNotDone q → TakesStep (trace_in k) x.number x q r → y ≡ after_reply code x r
    → (m : Met) → Rises (met_of me.0) m
    → ◌≡◌ {A = M} me' (progress k x.number (suc x.steps) false m ∷ [], me.1) → HasStepped k me me' x y
stepped_by_object_step k f code me me' x y q r for same seated step takes is m rises moved =
    let y_is : y ≡ after_ask (trace_in k).guest.code x q r = is
    ∙ reply_is_ask_reply code (trace_in k) x q r (same ∙ ap (λ z. z.guest.code) (sym for)) takes.asks in
    subst (λ (z : thread.ThreadState × M). HasStepped k me z.1 x z.0) (λ i. (sym y_is i, sym moved i)) (record {
      seated = (refl, no_lead_after_object_step (trace_in k) x.number (position_of_view me.0) x q r (seated_thread_is_ahead k me.0 x seated) takes);
      slots = refl;
      steps = steps_after_one_ask (trace_in k).guest.code x q r step;
      number = number_after_ask (trace_in k).guest.code x q r;
      rises = record { cut = rises.cut; looks = rises.looks };
    })

-- ---- which steps it takes

-- what it asks of the table's plan
pub asking_in_trace_is : (k : Plan) (f : FittedTrace) (x : thread.ThreadState) (q : Ask) → IsFor k f → IsAsking f x q → IsAsking (trace_in k) x q
asking_in_trace_is k f x q for asking = subst (λ z. IsAsking z x q) (sym for) asking

pub seated_takes_go : (k : Plan) (v : View) (x : thread.ThreadState) (q : Ask) → IsSeated k v x → IsAsking (trace_in k) x q → HasNoValue q → IsNotDone q
    → TakesStep (trace_in k) x.number x q Go
seated_takes_go k v x q seated asking go step = takes_step_with_go (trace_in k) x.number (position_of_view v) x q (seated_thread_is_ahead k v x seated) asking.asks asking.has
    go step

pub seated_takes_call : (k : Plan) (v : View) (x : thread.ThreadState) (kind j : EnvKind) (n : ℕ) → IsSeated k v x → IsAsking (trace_in k) x (Env kind)
    → slice_get (recorded_thread (trace_in k).recorded x.number).events x.events ≡ Some (Answered j n)
    → TakesStep (trace_in k) x.number x (Env kind) (Value n)
seated_takes_call k v x kind j n seated asking event =
    takes_call_with_answer (trace_in k) x.number (position_of_view v) x kind j n (seated_thread_is_ahead k v x seated) asking.asks asking.has event

pub seated_takes_get : (k : Plan) (v : View) (x : thread.ThreadState) (o i n : ℕ) → IsSeated k v x → IsAsking (trace_in k) x (Get o i)
    → Answers (trace_in k) x.number x.steps n → TakesStep (trace_in k) x.number x (Get o i) (Value n)
seated_takes_get k v x o i n seated asking answers = record {
  asks = asking.asks;
  step = tt;
  has = asking.has;
  next = λ run of. (answers run of o i (ahead_asks_in_run (trace_in k) x.number (position_of_view v) x (Get o i) run of (seated_thread_is_ahead k v x seated)
      asking.asks)).1;
}

-- ---- the next event

ask_suits_emitted_event : (f : FittedTrace) (q : Ask) (e : Event) (r : ℕ) (b : Object) → Admits (machine_of f) (act_of (shared_ask q) r) b
    → label_of e ≡ emitted (act_of (shared_ask q) r) b → events_added_by q ≡ 1 → SuitsEvent q e
ask_suits_emitted_event f (Env k) (Answered j v) r b can h one = let same : j ≡ k = cc h in inl (ap Env same)
ask_suits_emitted_event f (Env k) (Read o v) r b can h one = absurd (cc h)
ask_suits_emitted_event f (Env k) (Write o v l) r b can h one = absurd (cc h)
ask_suits_emitted_event f (Env k) (Refused o) r b can h one = absurd (cc h)
ask_suits_emitted_event f (Enter o Reading) (Answered j v) r b can h one = absurd (cc h)
ask_suits_emitted_event f (Enter o Reading) (Read p v) r b can h one = let same : p ≡ o = cc h in inl (ap (λ z. Enter z Reading) same)
ask_suits_emitted_event f (Enter o Reading) (Write p v l) r b can h one = absurd (cc h)
ask_suits_emitted_event f (Enter o Reading) (Refused p) r b can h one = absurd (cc h)
ask_suits_emitted_event f (Enter o Writing) (Answered j v) r b can h one = absurd (cc h)
ask_suits_emitted_event f (Enter o Writing) (Read p v) r b can h one = absurd (cc h)
ask_suits_emitted_event f (Enter o Writing) (Write p v l) r b can h one = let same : p ≡ o = cc h in inl (ap (λ z. Enter z Writing) same)
ask_suits_emitted_event f (Enter o Writing) (Refused p) r b can h one = absurd (cc h)
ask_suits_emitted_event f (Try o) (Answered j v) zero b can h one = absurd (cc h)
ask_suits_emitted_event f (Try o) (Read p v) zero b can h one = absurd (cc h)
ask_suits_emitted_event f (Try o) (Write p v l) zero b can h one = absurd (cc h)
ask_suits_emitted_event f (Try o) (Refused p) zero b can h one = let same : p ≡ o = cc h in inl (ap Try same)
ask_suits_emitted_event f (Try o) (Answered j v) (suc zero) b can h one = absurd (cc h)
ask_suits_emitted_event f (Try o) (Read p v) (suc zero) b can h one = absurd (cc h)
ask_suits_emitted_event f (Try o) (Write p v l) (suc zero) b can h one = let same : p ≡ o = cc h in inr (λ i. Some (Try (same i)))
ask_suits_emitted_event f (Try o) (Refused p) (suc zero) b can h one = absurd (cc h)
ask_suits_emitted_event f (Try o) e (suc (suc r)) b can h one = absurd can
ask_suits_emitted_event f Private e r b can h one = absurd (omega (arith, one))
ask_suits_emitted_event f (Leave o a) e r b can h one = absurd (omega (arith, one))
ask_suits_emitted_event f (Get o i) e r b can h one = absurd (omega (arith, one))
ask_suits_emitted_event f (Put o i w) e r b can h one = absurd (omega (arith, one))
ask_suits_emitted_event f Print e r b can h one = absurd (omega (arith, one))
ask_suits_emitted_event f (End x) e r b can h one = absurd (omega (arith, one))
ask_suits_emitted_event f Done e r b can h one = absurd (omega (arith, one))

-- there is one, which suits what is asked
pub asked_event_suits : (k : Plan) (v : View) (x : thread.ThreadState) (q : Ask) → IsSeated k v x → IsAsking (trace_in k) x q → events_added_by q ≡ 1
    → (e : Event) × (slice_get (recorded_thread (trace_in k).recorded x.number).events x.events ≡ Some e) × SuitsEvent q e
asked_event_suits k v x q seated asking one =
    let f : FittedTrace = trace_in k in
    let ahead : IsAhead f x.number (position_of_view v) x = seated_thread_is_ahead k v x seated in
    let run : List Step = ahead.run.run in
    let of = ahead.run.whole in
    let asks : ask_at f run x.number x.steps ≡ q = ahead_asks_in_run f x.number (position_of_view v) x q run of ahead asking.asks in
    let found = logged_step_has_event f run of x.number x.steps ahead.there (asking.has run of) (ap events_added_by asks ∙ one) in
    let z : StepOf (machine_of f) (thread_at f run x.number x.steps) (thread_at f run x.number (suc x.steps)) (label_of found.0) =
    emitting_is_step_of (machine_of f) (start_of f) run of.1.runs x.number x.steps (label_of found.0) found.2 in (
      found.0,
      ap (λ (y : thread.ThreadState). slice_get (recorded_thread f.recorded x.number).events y.events) (ahead.at run of).1 ∙ found.1,
      ask_suits_emitted_event f q found.0 z.result z.object
          (subst (λ a. Admits (machine_of f) (act_of (shared_ask a) z.result) z.object) asks z.can) (z.emits ∙ ap (λ a. emitted (act_of (shared_ask a) z.result) z.object) asks) one,
    )

-- so that it is never missing
pub asked_event_exists : (k : Plan) (f : FittedTrace) (v : View) (x : thread.ThreadState) (q : Ask) → IsFor k f → IsSeated k v x → IsAsking f x q
    → events_added_by q ≡ 1
    → ((e : Event) → slice_get (recorded_thread f.recorded x.number).events x.events ≡ Some e → SuitsEvent q e → ⊥) → ⊥
asked_event_exists k f v x q for seated asking one none =
    let some = asked_event_suits k v x q seated (asking_in_trace_is k f x q for asking) one in
    none some.0 (subst (λ z. slice_get (recorded_thread z.recorded x.number).events x.events ≡ Some some.0) for some.1) some.2

-- ---- the end of a thread

-- the thread of a seat that isn't done has a step
pub seated_has_step : (k : Plan) (f : FittedTrace) (v : View) (x : thread.ThreadState) → IsFor k f → IsSeated k v x → ask_of f.guest.code x ≢ Done
    → HasStep f x.number x.steps
seated_has_step k f v x for seated not = subst (λ z. HasStep z x.number x.steps) for
    (not_done_has_step (trace_in k) x.number x (seated_thread_is_ahead k v x seated).at (subst (λ z. ask_of z.guest.code x ≢ Done) (sym for) not))

pub asking_is_not_done : (k : Plan) (f : FittedTrace) (v : View) (x : thread.ThreadState) → IsFor k f → IsSeated k v x → IsAsking f x Done → ⊥
asking_is_not_done k f v x for seated asking = let ask : IsAsking (trace_in k) x Done = asking_in_trace_is k f x Done for asking in
    has_step_is_not_done (trace_in k) x.number (position_of_view v) x (seated_thread_is_ahead k v x seated) ask.has ask.asks

-- a thread that is done has taken all its steps, and at the end of each run it isn't admitted
pub done_thread_has_waited : (k : Plan) (f : FittedTrace) (me : M) (x : thread.ThreadState) → IsFor k f → IsTableOpened k → IsSeated k me.0 x
    → ask_of f.guest.code x ≡ Done → HasWaited k me me x x
done_thread_has_waited k f me x for opened seated done =
    let g : FittedTrace = trace_in k in
    let ahead : IsAhead g x.number (position_of_view me.0) x = seated_thread_is_ahead k me.0 x seated in
    let last : List Step = ahead.run.run in
    let same = λ (run : List Step) (of : IsRunOf g.guest g.recorded run). runs_have_same_counts g last run ahead.run.whole of in
    let all : count (machine_of g) (start_of g) last x.number ≡ x.steps =
    elim (cases_lt x.steps (count (machine_of g) (start_of g) last x.number)) [
      | inl less ↦ absurd (has_step_is_not_done g x.number (position_of_view me.0) x ahead
          (λ run of. (let e = same run of x.number in omega (arith, less, e))) (subst (λ z. ask_of z.guest.code x ≡ Done) (sym for) done))
      | inr past ↦ (let within = (ahead.at last ahead.run.whole).0 in omega (arith, past, within))
    ] in
    record {
      seated = seated;
      slots = refl;
      same = refl;
      stopped = record {
        cut = count (machine_of g) (start_of g) last;
        is_cut = λ run of u. (let e = same run of u in omega (arith, e));
        consistent = λ run of t i u j a b emitted needed needs less.
            (let within = (at_is_get_or (trail (machine_of g) (start_of g) run u) j (needed.0, b) needed.1).0 in let e = same run of u in
            omega (arith, within, e));
        above = λ u. opened last ahead.run.whole u;
        here = all;
        stopped = λ run of admitted. (let e = same run of x.number in let less = admitted.0 in omega (arith, e, less));
      };
      fresh = inr (record {
        done = subst (λ z. ask_of z.guest.code x ≡ Done) (sym for) done;
        same = refl;
        end = λ run of u. (let e = same run of u in omega (arith, e));
      });
    }

-- ---- many private steps

ahead_after_private : (f : FittedTrace) (t i n : ℕ) (x y : thread.ThreadState) → IsAhead f t i x → PrivateSteps f.guest.code n x y
    → IsAhead f t i (run_of f.guest.code n x) × ((run_of f.guest.code n x).steps ≡ x.steps + n)
unfolding run_of step_of
ahead_after_private f t i zero x y ahead steps = (ahead, omega arith)
ahead_after_private f t i (suc n) x y ahead steps =
    let z : thread.ThreadState = run_of f.guest.code n x in
    let before = ahead_after_private f t i n x z ahead (record { steps = refl; each = λ k l. steps.each k (omega (arith, l)) }) in
    let asks : ask_of f.guest.code z ≡ Private = steps.each n (omega arith) in
    let takes : TakesStep f t z Private Go = takes_step_with_go f t i z Private before.0 asks
    (not_done_has_step f t z before.0.at (λ done. cc (asks, done))) tt tt in
    let next : after_reply f.guest.code z Go ≡ after_ask f.guest.code z Private Go = reply_is_ask_reply f.guest.code f z Private Go refl asks in
    let more = steps_after_one_ask f.guest.code z Private Go tt in (
      subst (IsAhead f t i) (sym next) (ahead_after_alone_step f t i z Private Go before.0 takes tt),
      ap (λ (w : thread.ThreadState). w.steps) next ∙ more
          ∙ (let s = before.1 in omega (arith, s)),
    )

pub has_run_on_by_private : (k : Plan) (f : FittedTrace) (code : List ℕ) (v : View) (x y : thread.ThreadState) (n : ℕ) → IsFor k f → code ≡ f.guest.code
    → IsSeated k v x → PrivateSteps code n x y → HasRunOn k v x y n
has_run_on_by_private k f code v x y n for same seated steps =
    let g : FittedTrace = trace_in k in
    let own : PrivateSteps g.guest.code n x y = subst (λ c. PrivateSteps c n x y) (same ∙ ap (λ z. z.guest.code) (sym for)) steps in
    let all : (i : ℕ) → IsAhead g x.number i x → IsAhead g x.number i y =
    λ i ahead. subst (IsAhead g x.number i) (sym own.steps) (ahead_after_private g x.number i n x y ahead own).0 in
    record {
      seated = seated_by_ahead k v x y seated all;
      steps = ap (λ (z : thread.ThreadState). z.steps) own.steps
          ∙ (ahead_after_private g x.number (position_of_view v) n x y (seated_thread_is_ahead k v x seated) own).1;
      number = (all (position_of_view v) (seated_thread_is_ahead k v x seated)).number;
    }

-- ---- a thread that waits

pub stopped_has_waited : (k : Plan) (me me' : M) (x : thread.ThreadState) → IsSeated k me.0 x
    → ◌≡◌ {A = M} me' (progress k x.number x.steps false (met_of me'.0) ∷ [], me.1)
    → (s : WasStopped k x.number x.steps) → HasMet (met_of me.0) (met_of me'.0) s.cut → HasWaited k me me' x x
stopped_has_waited k me me' x seated is stopped met = subst (λ (z : M). HasWaited k me z x x) (sym is) (record {
  seated = (refl, ahead_of_own_position (trace_in k) x.number (position_of_view me.0) x (seated_thread_is_ahead k me.0 x seated));
  slots = refl;
  same = refl;
  stopped = stopped;
  fresh = inl (record { above = met.above; met = met.met; looked = met.looked });
})

-- ---- what the calls of a step promise

pub stepped_by_own_step : (k : Plan) (f : FittedTrace) (code : List ℕ) (me : M) (x y : thread.ThreadState) (q : Ask) → IsFor k f → code ≡ f.guest.code
    → IsSeated k me.0 x → IsAsking f x q → (q ≡ Private) ⊎ ((q ≡ Print) ⊎ ((e : end.End) × (q ≡ End e))) → y ≡ after_reply code x Go
    → HasStepped k me me x y
stepped_by_own_step k f code me x y q for same seated asking own is = elim own [
  | inl a ↦ step Private a tt tt tt
  | inr rest ↦ elim rest [ inl a ↦ step Print a tt tt tt | inr a ↦ step (End a.0) a.1 tt tt tt ]
]
  where
    step : (p : Ask) → q ≡ p → TouchesNoObject p (event_of (trace_in k) x.number x) → HasNoValue p → IsNotDone p → HasStepped k me me x y
    step p a alone go real =
        let ask : IsAsking (trace_in k) x p = subst (IsAsking (trace_in k) x) a (asking_in_trace_is k f x q for asking) in
        stepped_by_alone_step k f code me x y p Go for same seated alone real (seated_takes_go k me.0 x p seated ask go real) is

pub stepped_by_call : (k : Plan) (f : FittedTrace) (code : List ℕ) (me : M) (x y : thread.ThreadState) (kind j : EnvKind) (n : ℕ) → IsFor k f
    → code ≡ f.guest.code → IsSeated k me.0 x → IsAsking f x (Env kind)
    → slice_get (recorded_thread f.recorded x.number).events x.events ≡ Some (Answered j n) → y ≡ after_reply code x (Value n)
    → HasStepped k me me x y
stepped_by_call k f code me x y kind j n for same seated asking event is =
    stepped_by_alone_step k f code me x y (Env kind) (Value n) for same seated tt tt
    (seated_takes_call k me.0 x kind j n seated (asking_in_trace_is k f x (Env kind) for asking)
    (subst (λ z. slice_get (recorded_thread z.recorded x.number).events x.events ≡ Some (Answered j n)) (sym for) event)) is

pub stepped_without_value : (k : Plan) (f : FittedTrace) (code : List ℕ) (me me' : M) (x y : thread.ThreadState) (q : Ask) → IsFor k f
    → code ≡ f.guest.code → IsSeated k me.0 x → IsAsking f x q → HasNoValue q → IsNotDone q
    → y ≡ after_reply code x Go → (m : Met) → Rises (met_of me.0) m
    → ◌≡◌ {A = M} me' (progress k x.number (suc x.steps) false m ∷ [], me.1) → HasStepped k me me' x y
stepped_without_value k f code me me' x y q for same seated asking go real is m rises moved =
    stepped_by_object_step k f code me me' x y q Go for same seated real (seated_takes_go k me.0 x q seated (asking_in_trace_is k f x q for asking) go real) is
    m rises moved

pub stepped_by_get : (k : Plan) (f : FittedTrace) (code : List ℕ) (me me' : M) (x y : thread.ThreadState) (o i n : ℕ) → IsFor k f
    → code ≡ f.guest.code → IsSeated k me.0 x → IsAsking f x (Get o i) → Answers (trace_in k) x.number x.steps n
    → y ≡ after_reply code x (Value n) → ◌≡◌ {A = M} me' (progress k x.number (suc x.steps) false (met_of me.0) ∷ [], me.1)
    → HasStepped k me me' x y
stepped_by_get k f code me me' x y o i n for same seated asking answers is moved =
    stepped_by_object_step k f code me me' x y (Get o i) (Value n) for same seated tt
    (seated_takes_get k me.0 x o i n seated (asking_in_trace_is k f x (Get o i) for asking) answers) is (met_of me.0) (rises_is_reflexive (met_of me.0)) moved

pub asked_entry_is_entering : (k : Plan) (f : FittedTrace) (x : thread.ThreadState) (q : Ask) (o : ℕ) (a : Access) (e : Event) → IsFor k f → IsAsking f x q
    → slice_get (recorded_thread f.recorded x.number).events x.events ≡ Some e → SuitsEvent q e → event_ask e ≡ Enter o a
    → IsEntering (trace_in k) x o a e
asked_entry_is_entering k f x q o a e for asking event suits enters =
    subst (λ z. IsEntering z x o a e) (sym for)
    (record { asked = q; asking = asking; event = event; suits = suits; enters = enters })

-- ---- tries

-- the try that the trace says is answered so
seated_takes_try : (k : Plan) (f : FittedTrace) (v : View) (x : thread.ThreadState) (o : ℕ) (e : Event) → IsFor k f → IsSeated k v x
    → IsAsking f x (Try o) → slice_get (recorded_thread f.recorded x.number).events x.events ≡ Some e
    → TakesStep (trace_in k) x.number x (Try o) (Value (try_result e))
seated_takes_try k f v x o e for seated asking event =
    let ask : IsAsking (trace_in k) x (Try o) = asking_in_trace_is k f x (Try o) for asking in
    takes_try_with_result (trace_in k) x.number (position_of_view v) x o e (seated_thread_is_ahead k v x seated) ask.asks ask.has
    (subst (λ z. slice_get (recorded_thread z.recorded x.number).events x.events ≡ Some e) (sym for) event)

-- a try that got in
pub stepped_by_entering_try : (k : Plan) (f : FittedTrace) (code : List ℕ) (me me' : M) (x y : thread.ThreadState) (o : ℕ) (e : Event) → IsFor k f
    → code ≡ f.guest.code → IsSeated k me.0 x → IsAsking f x (Try o)
    → slice_get (recorded_thread f.recorded x.number).events x.events ≡ Some e → try_result e ≡ 1
    → y ≡ after_reply code x (Value 1) → (m : Met) → Rises (met_of me.0) m
    → ◌≡◌ {A = M} me' (progress k x.number (suc x.steps) false m ∷ [], me.1) → HasStepped k me me' x y
stepped_by_entering_try k f code me me' x y o e for same seated asking event one is m rises moved =
    stepped_by_object_step k f code me me' x y (Try o) (Value 1) for same seated tt
    (subst (λ n. TakesStep (trace_in k) x.number x (Try o) (Value n)) one (seated_takes_try k f me.0 x o e for seated asking event)) is m rises moved

-- what suits a try and isn't refused got in
pub entering_try_parts : (o : ℕ) (e : Event) → SuitsEvent (Try o) e → ((p : ℕ) → e ≢ Refused p) → (try_result e ≡ 1) × (event_ask e ≡ Enter o Writing)
entering_try_parts o (Answered j v) (inl is) other = absurd (cc is)
entering_try_parts o (Answered j v) (inr is) other = absurd (cc is)
entering_try_parts o (Read p v) (inl is) other = absurd (cc is)
entering_try_parts o (Read p v) (inr is) other = absurd (cc is)
entering_try_parts o (Write p v l) (inl is) other = absurd (cc is)
entering_try_parts o (Write p v l) (inr is) other = let same : ◌≡◌ {A = ℕ} p o = cc is in (refl, ap (λ z. Enter z Writing) same)
entering_try_parts o (Refused p) suits other = absurd (other p refl)

-- a refused try touches no object
pub stepped_by_refused_try : (k : Plan) (f : FittedTrace) (code : List ℕ) (me : M) (x y : thread.ThreadState) (o p : ℕ) → IsFor k f
    → code ≡ f.guest.code → IsSeated k me.0 x → IsAsking f x (Try o)
    → slice_get (recorded_thread f.recorded x.number).events x.events ≡ Some (Refused p) → y ≡ after_reply code x (Value 0)
    → HasStepped k me me x y
stepped_by_refused_try k f code me x y o p for same seated asking event is =
    stepped_by_alone_step k f code me x y (Try o) (Value 0) for same seated
    (subst IsRefusedTry (sym (subst (λ z. slice_get (recorded_thread z.recorded x.number).events x.events ≡ Some (Refused p)) (sym for) event))
    tt) tt (seated_takes_try k f me.0 x o (Refused p) for seated asking event) is

-- a thread of the guest
pub seated_below_threads : (k : Plan) (f : FittedTrace) (v : View) (x : thread.ThreadState) → IsFor k f → IsSeated k v x
    → x.number < length f.guest.entries
seated_below_threads k f v x for seated = subst (λ z. x.number < length z.guest.entries) for (seated_thread_is_ahead k v x seated).there

-- another kind of event
pub call_event_is_answer : (q : Ask) (e : Event) → SuitsEvent q e → (j : EnvKind) → q ≡ Env j → ((i : EnvKind) (v : ℕ) → e ≡ Answered i v → ⊥) → ⊥
call_event_is_answer q (Answered i v) suits j is none = none i v refl
call_event_is_answer q (Read o v) suits j is none = let z = ask_of_call_event j (Read o v) (subst (λ p. SuitsEvent p (Read o v)) is suits) in cc z
call_event_is_answer q (Write o v l) suits j is none = let z = ask_of_call_event j (Write o v l) (subst (λ p. SuitsEvent p (Write o v l)) is suits) in cc z
call_event_is_answer q (Refused o) suits j is none = let z = ask_of_call_event j (Refused o) (subst (λ p. SuitsEvent p (Refused o)) is suits) in cc z
