-- A state advances by a step of a thread that is admitted.
use Rattle.std.proofs.Common.{◌≡◌, ◌≢◌, ℕ, suc, zero, ◌+◌, ◌-◌, ◌<◌, ◌≤◌, List, [], ◌∷◌, length, map, drop, Option, Some, None, ◌⊎◌, refl, sym, ap, ◌∙◌, subst, arith, inl, inr, le_refl}
use Rattle.std.proofs.lemmas.Bool.{cases_eq, cases_lt}
use Rattle.std.specs.Prelude.{slice_get, ⊤}
use Rattle.ir_thread.specs.State.{ask_of, shared_ask}
use Rattle.ir_runs.specs.Machine.{act_of, Object, target, Admits, emitted, Label, logged}
use Rattle.ir_runs.specs.Machine as machine
use Rattle.ir_thread.specs.State as thread
use Rattle.ir_runs.specs.declared.access.Access.{Access}
use Rattle.ir_runs.specs.declared.access.Access.TheVariants.{Reading, Writing}
use Rattle.ir_thread.specs.declared.ask.Ask.{Ask}
use Rattle.ir_thread.specs.declared.ask.Ask.TheVariants.{Private, Env, Enter, Try, Leave, Get, Put, Print, End, Done}
use Rattle.ir_flat.specs.Flat.{Flat, IsFlat, thread_of, tables, machine as machine_in}
use Rattle.ir_flat.specs.Next.{next, MayStep}
use Rattle.ir_runs.specs.Run.{Step, after, label, count, th, trail, Emits, IsNeededBy}
use Rattle.ir_log.specs.Logging.{label_of}
use Rattle.ir_log.specs.declared.event.Event.{Event}
use Rattle.ir_log.specs.declared.event.Event.TheVariants.{Answer as Answered, Read, Write, Try as Refused}
use Rattle.ir_trace.specs.Recorded.{Recorded, recorded_thread}
use Rattle.ir_fit.specs.Ahead.{log_ahead}
use Rattle.ir_flat.proofs.CallerLemmas.{events_added_by, may_step_iff_can_ask, tables_of_next, next_is_flat, next_keeps_thread_count, next_keeps_object_count}
use Rattle.ir_runs.specs.Admitted.{further}
use Rattle.ir_fit.specs.Fit.{FittedTrace, HasRun, IsRunOf}
use Rattle.ir_runs.specs.Verdicts.{unlogged}
use Rattle.ir_cut.specs.Positions.{machine_of, start_of, thread_at}
use Rattle.ir_weave.specs.Ahead.{IsRefusedTry, TouchesNoObject, NextTouchesNone, HasStep, ask_at, event_of, IsThreadAt, AreAlone}
use Rattle.ir_weave.specs.Standing.{IsStateAt, positions}
use Rattle.ir_weave.specs.Stepping.{LogsNext}
use Rattle.ir_weave.specs.Woven.{AdmittedAt}
use Rattle.ir_weave.proofs.Behind.{log_after_cut, log_ahead_after_cut, admitted_logs_next}
use Rattle.ir_weave.proofs.Onward.{state_at_after_leading, step_log_is_prefix, position_after_own_step, position_after_other}
use Rattle.ir_fit.proofs.CallerLemmas.{drop_mapped_labels}
use Rattle.ir_weave.proofs.Lone.{logged_step_has_event, try_result, emitted_try_result}
use Rattle.ir_weave.proofs.Trails.{StepOf, emitting_is_step_of, no_entry_needs_nothing}
use Rattle.ir_runs.proofs.CallerLemmas.{further_at_own_thread, further_at_other_thread, at_place_is_unique, cut_below_further}

-- after the step of thread t that asks so
pub record StepGoesOn (f : FittedTrace) (s : Flat) (t v : ℕ) (q : Ask) : Type 0 where
  pub may : MayStep s v q
  pub flat : IsFlat (next s t v q)
  pub at : IsStateAt f (positions (next s t v q)) (next s t v q)
  pub own : positions (next s t v q) t ≡ positions s t + 1
  pub others : (u : ℕ) → u ≢ t → positions (next s t v q) u ≡ positions s u

next_keeps_code : (s : Flat) (t v : ℕ) (q : Ask) → (next s t v q).code ≡ s.code
next_keeps_code s t v Private = refl
next_keeps_code s t v (Env kind) = refl
next_keeps_code s t v (Enter o a) = refl
next_keeps_code s t zero (Try o) = refl
next_keeps_code s t (suc zero) (Try o) = refl
next_keeps_code s t (suc (suc v)) (Try o) = refl
next_keeps_code s t v (Leave o a) = refl
next_keeps_code s t v (Get o i) = refl
next_keeps_code s t v (Put o i w) = refl
next_keeps_code s t v Print = refl
next_keeps_code s t v (End e) = refl
next_keeps_code s t v Done = refl

-- a thread of the state is one of the guest's
pub state_thread_in_guest : (f : FittedTrace) (s : Flat) (t : ℕ) → IsStateAt f (positions s) s → t < length s.threads → t < length f.guest.entries
state_thread_in_guest f s t at l = let e = at.threads in omega (arith, l, e)

-- by a step that logs what the trace emits next
pub logs_next_goes_on : (f : FittedTrace) (s : Flat) (t v : ℕ) (q : Ask) → IsFlat s → IsStateAt f (positions s) s → t < length s.threads
    → q ≡ ask_of s.code (thread_of s t) → HasStep f t (positions s t) → LogsNext f.recorded s t v → StepGoesOn f s t v q
logs_next_goes_on f s t v q flat at l is has logs =
    let may : MayStep s v q = (may_step_iff_can_ask s t v q flat l is).1 logs.0 in
    let new : Flat = next s t v q in
    let taken : tables new ≡ after (machine_in s) (tables s) (t, v) = tables_of_next s t v q flat l is may in
    let own : positions new t ≡ positions s t + 1 = position_after_own_step s new t v logs.0 taken in
    let others : (u : ℕ) → u ≢ t → positions new u ≡ positions s u = position_after_other s new t v logs.0 taken in
    record {
      may = may;
      flat = next_is_flat s t v q is flat l may;
      at = record {
        code = next_keeps_code s t v q ∙ at.code;
        threads = next_keeps_thread_count s t v q ∙ at.threads;
        objects = next_keeps_object_count s t v q ∙ at.objects;
        steps = λ u. refl;
        each = λ run of. state_at_after_leading f s new run ((t, v) ∷ []) of at.code (at.each run of)
            (λ u. elim (cases_eq u t) [
              | inl same ↦ subst (λ w. positions new w ≤ count (machine_of f) (start_of f) run w) (sym same)
                  (let more = has run of in omega (arith, own, more))
              | inr ne ↦ let within = (at.each run of).cut u in let e = others u ne in omega (arith, within, e)
            ])
            (record {
              runs = (logs.0, tt);
              ends = taken;
              logs = step_log_is_prefix (machine_in s) (tables s) t v (log_after_cut f run (positions s))
                  (subst (λ es. logged (label (machine_in s) (tables s) (t, v)) (unlogged (label (machine_in s) (tables s) (t, v)) es) ≡ es)
                  (log_ahead_after_cut f (positions s) s run of (at.each run of) t (state_thread_in_guest f s t at l)) logs.1);
            });
      };
      own = own;
      others = others;
    }

-- by a step that is admitted
pub admitted_goes_on : (f : FittedTrace) (s : Flat) (t : ℕ) (q : Ask) → HasRun f → IsFlat s → IsStateAt f (positions s) s → t < length s.threads
    → q ≡ ask_of s.code (thread_of s t) → AdmittedAt f (positions s) t → (v : ℕ) × StepGoesOn f s t v q
admitted_goes_on f s t q h flat at l is ad =
    let some = admitted_logs_next f s at h.run h.whole t (state_thread_in_guest f s t at l) (ad h.run h.whole) in
    (some.0, logs_next_goes_on f s t some.0 q flat at l is (λ run of. (ad run of).0) some.1)

-- ---- what is no entry is admitted

-- no entry, nor a try that the trace says got in
abbrev pub IsFree : Ask → Option Event → Type 0
IsFree (Enter o a) e = ⊥
IsFree (Try o) e = IsRefusedTry e
IsFree _ e = ⊤

free_ask_is_no_entry : (q : Ask) (e : Option Event) → IsFree q e → ((o : ℕ) → q ≢ Try o) → (o : ℕ) (a : Access) → shared_ask q ≢ machine.Enter o a
free_ask_is_no_entry Private e free ne o a = λ h. cc h
free_ask_is_no_entry (Env kind) e free ne o a = λ h. cc h
free_ask_is_no_entry (Enter p b) e free ne o a = absurd free
free_ask_is_no_entry (Try p) e free ne o a = absurd (ne p refl)
free_ask_is_no_entry (Leave p b) e free ne o a = λ h. cc h
free_ask_is_no_entry (Get p i) e free ne o a = λ h. cc h
free_ask_is_no_entry (Put p i w) e free ne o a = λ h. cc h
free_ask_is_no_entry Print e free ne o a = λ h. cc h
free_ask_is_no_entry (End x) e free ne o a = λ h. cc h
free_ask_is_no_entry Done e free ne o a = λ h. cc h

shared_ask_is_no_try : (q : Ask) → ((o : ℕ) → q ≢ Try o) → (o : ℕ) → shared_ask q ≢ machine.Try o
shared_ask_is_no_try Private ne o = λ h. cc h
shared_ask_is_no_try (Env kind) ne o = λ h. cc h
shared_ask_is_no_try (Enter p b) ne o = λ h. cc h
shared_ask_is_no_try (Try p) ne o = absurd (ne p refl)
shared_ask_is_no_try (Leave p b) ne o = λ h. cc h
shared_ask_is_no_try (Get p i) ne o = λ h. cc h
shared_ask_is_no_try (Put p i w) ne o = λ h. cc h
shared_ask_is_no_try Print ne o = λ h. cc h
shared_ask_is_no_try (End x) ne o = λ h. cc h
shared_ask_is_no_try Done ne o = λ h. cc h

-- what is asked is a try, or it isn't
ask_is_try_or_not : (q : Ask) → ((o : ℕ) × (q ≡ Try o)) ⊎ ((o : ℕ) → q ≢ Try o)
ask_is_try_or_not Private = inr (λ o h. cc h)
ask_is_try_or_not (Env kind) = inr (λ o h. cc h)
ask_is_try_or_not (Enter p b) = inr (λ o h. cc h)
ask_is_try_or_not (Try p) = inl (p, refl)
ask_is_try_or_not (Leave p b) = inr (λ o h. cc h)
ask_is_try_or_not (Get p i) = inr (λ o h. cc h)
ask_is_try_or_not (Put p i w) = inr (λ o h. cc h)
ask_is_try_or_not Print = inr (λ o h. cc h)
ask_is_try_or_not (End x) = inr (λ o h. cc h)
ask_is_try_or_not Done = inr (λ o h. cc h)

-- a refused try needs nothing
refused_needs_nothing : (b : Label) (o : ℕ) → IsNeededBy b (machine.FailedTry o) → ⊥
refused_needs_nothing machine.Quiet o h = h
refused_needs_nothing (machine.Answer k v) o h = h
refused_needs_nothing (machine.EnteredAt p a v l) o h = h
refused_needs_nothing (machine.FailedTry p) o h = h
refused_needs_nothing (machine.LeftAt p Reading v) o h = h
refused_needs_nothing (machine.LeftAt p Writing v) o h = h

-- the event of a refused try
refused_option_is_event : (x : Option Event) → IsRefusedTry x → (o : ℕ) × (x ≡ Some (Refused o))
refused_option_is_event None h = absurd h
refused_option_is_event (Some (Answered kind value)) h = absurd h
refused_option_is_event (Some (Read object version)) h = absurd h
refused_option_is_event (Some (Write object version readers)) h = absurd h
refused_option_is_event (Some (Refused object)) h = (object, refl)

-- what a thread of the state asks
pub state_asks_as_run : (f : FittedTrace) (s : Flat) (t : ℕ) (run : List Step) → IsStateAt f (positions s) s → IsRunOf f.guest f.recorded run
    → ask_of s.code (thread_of s t) ≡ ask_at f run t (positions s t)
state_asks_as_run f s t run at of = λ i. ask_of (at.code i) ((at.each run of).threads t i)

pub free_step_is_admitted : (f : FittedTrace) (s : Flat) (t : ℕ) → IsStateAt f (positions s) s → HasStep f t (positions s t)
    → t < length f.guest.entries → IsFree (ask_of s.code (thread_of s t)) (event_of f t (thread_of s t)) → AdmittedAt f (positions s) t
free_step_is_admitted f s t at has below free run of = (
  has run of,
  λ u k w j a b ha hb need less. elim (cases_lt k (positions s u)) [
    | inl before ↦ (let c = (at.each run of).consistent u k w j a b ha hb need before in let up = cut_below_further (positions s) t w in
        omega (arith, c, up))
    | inr past ↦ absurd (elim (cases_eq u t) [
      | inl same ↦ last run of u k w j a b same
          (let e : k ≡ positions s u = (let up : further (positions s) t u ≡ suc (positions s u) =
          subst (λ z. further (positions s) t z ≡ suc (positions s z)) (sym same) (further_at_own_thread (positions s) t) in
          omega (arith, less, past, up)) in e) ha need
      | inr other ↦ (let e = further_at_other_thread (positions s) t u other in omega (arith, e, less, past))
    ])
  ],
)
  where
    last : (run : List Step) → IsRunOf f.guest f.recorded run → (u k w j : ℕ) (a b : Label) → u ≡ t → k ≡ positions s u
        → Emits (machine_of f) (start_of f) run u k a → IsNeededBy b a → ⊥
    last run of u k w j a b same here ha need =
        let z : StepOf (machine_of f) (th (machine_of f) (start_of f) run u k) (th (machine_of f) (start_of f) run u (suc k)) a =
        emitting_is_step_of (machine_of f) (start_of f) run of.1.runs u k a ha in
        let x : thread.ThreadState = thread_of s t in
        let q : Ask = ask_of s.code x in
        let asks : ask_of f.guest.code (th (machine_of f) (start_of f) run u k) ≡ q =
        ap (λ i. ask_at f run u i) here ∙ ap (λ i. ask_at f run i (positions s i)) same ∙ sym (state_asks_as_run f s t run at of) in
        elim (ask_is_try_or_not q) [
          | inl is ↦
              let refused = refused_option_is_event (event_of f t x) (subst (λ p. IsFree p (event_of f t x)) is.1 free) in
              let mine : Emits (machine_of f) (start_of f) run t (positions s t) a =
              subst (λ (i : ℕ × ℕ). Emits (machine_of f) (start_of f) run i.0 i.1 a) (λ i. (same i, (here ∙ ap (positions s) same) i)) ha in
              let found = logged_step_has_event f run of t (positions s t) below (has run of)
              (ap events_added_by (sym (state_asks_as_run f s t run at of) ∙ is.1)) in
              let event : found.0 ≡ Refused refused.0 = cc (
                found.1,
                ap (λ (y : thread.ThreadState). slice_get (recorded_thread f.recorded t).events y.events) (sym ((at.each run of).threads t))
                    ∙ refused.1,
              ) in
              let label : label_of found.0 ≡ a = ap (λ y. y.1) (at_place_is_unique (trail (machine_of f) (start_of f) run t) (positions s t)
              (found.2.0, label_of found.0) (mine.0, a) found.2.1 mine.1) in
              refused_needs_nothing b refused.0 (subst (IsNeededBy b) (sym label ∙ ap label_of event) need)
          | inr other ↦
              let p : Ask = ask_of f.guest.code (th (machine_of f) (start_of f) run u k) in
              let none : (o : ℕ) → p ≢ Try o = λ o e. other o (sym asks ∙ e) in
              no_entry_needs_nothing b (shared_ask p) z.result z.object
              (free_ask_is_no_entry p (event_of f t x) (subst (λ y. IsFree y (event_of f t x)) (sym asks) free) none) (shared_ask_is_no_try p none)
              (subst (IsNeededBy b) z.emits need)
        ]

-- ---- steps that touch no object

alone_keeps_objects : (s : Flat) (t v : ℕ) (q : Ask) (e : Option Event) → ((o : ℕ) → q ≢ Try o) → TouchesNoObject q e → (next s t v q).objects ≡ s.objects
alone_keeps_objects s t v Private e ne h = refl
alone_keeps_objects s t v (Env kind) e ne h = refl
alone_keeps_objects s t v (Enter o a) e ne h = absurd h
alone_keeps_objects s t v (Try o) e ne h = absurd (ne o refl)
alone_keeps_objects s t v (Leave o a) e ne h = absurd h
alone_keeps_objects s t v (Get o i) e ne h = refl
alone_keeps_objects s t v (Put o i w) e ne h = absurd h
alone_keeps_objects s t v Print e ne h = refl
alone_keeps_objects s t v (End x) e ne h = refl
alone_keeps_objects s t v Done e ne h = refl

alone_ask_is_free : (q : Ask) (e : Option Event) → TouchesNoObject q e → IsFree q e
alone_ask_is_free Private e h = tt
alone_ask_is_free (Env kind) e h = tt
alone_ask_is_free (Enter o a) e h = h
alone_ask_is_free (Try o) e h = h
alone_ask_is_free (Leave o a) e h = tt
alone_ask_is_free (Get o i) e h = tt
alone_ask_is_free (Put o i w) e h = tt
alone_ask_is_free Print e h = tt
alone_ask_is_free (End x) e h = tt
alone_ask_is_free Done e h = tt

-- a try logs its event with one result
pub logging_try_result : (r : Recorded) (s : Flat) (t v o : ℕ) (e : Event) → ask_of s.code (thread_of s t) ≡ Try o
    → slice_get (recorded_thread r t).events (thread_of s t).events ≡ Some e → LogsNext r s t v → v ≡ try_result e
logging_try_result r s t v o e is event logs =
    let obj = λ (q : Ask). (tables s).objects (target (act_of (shared_ask q) v)) in
    let can : Admits (machine_in s) (act_of (machine.Try o) v) (obj (Try o)) =
    subst (λ q. Admits (machine_in s) (act_of (shared_ask q) v) (obj q)) is logs.0 in
    let es : List Label = log_ahead r s t in
    let emits : logged (emitted (act_of (machine.Try o) v) (obj (Try o))) (unlogged (emitted (act_of (machine.Try o) v) (obj (Try o))) es) ≡ es =
    subst (λ q. logged (emitted (act_of (shared_ask q) v) (obj q)) (unlogged (emitted (act_of (shared_ask q) v) (obj q)) es) ≡ es) is logs.1 in
    by v (obj (Try o)) es can (emits ∙ drop_mapped_labels (recorded_thread r t).events (thread_of s t).events e event)
  where
    by : (v : ℕ) (b : Object) (es : List Label) → Admits (machine_in s) (act_of (machine.Try o) v) b
        → logged (emitted (act_of (machine.Try o) v) b) (unlogged (emitted (act_of (machine.Try o) v) b) es) ≡ label_of e
        ∷ drop (suc (thread_of s t).events) (map label_of (recorded_thread r t).events) → v ≡ try_result e
    by zero b es can h = emitted_try_result s o zero b e can (cc h)
    by (suc zero) b es can h = emitted_try_result s o (suc zero) b e can (cc h)
    by (suc (suc v)) b es can h = absurd can

-- a step that touches no object
alone_goes_on : (f : FittedTrace) (s : Flat) (t : ℕ) → HasRun f → IsFlat s → IsStateAt f (positions s) s → t < length s.threads
    → HasStep f t (positions s t) → TouchesNoObject (ask_of s.code (thread_of s t)) (event_of f t (thread_of s t))
    → (v : ℕ) × StepGoesOn f s t v (ask_of s.code (thread_of s t)) × ((next s t v (ask_of s.code (thread_of s t))).objects ≡ s.objects)
alone_goes_on f s t h flat at l has alone =
    let x : thread.ThreadState = thread_of s t in
    let q : Ask = ask_of s.code x in
    let below = state_thread_in_guest f s t at l in
    let ad : AdmittedAt f (positions s) t = free_step_is_admitted f s t at has below (alone_ask_is_free q (event_of f t x) alone) in
    elim (ask_is_try_or_not q) [
      | inl is ↦
          let refused = refused_option_is_event (event_of f t x) (subst (λ p. TouchesNoObject p (event_of f t x)) is.1 alone) in
          let some = admitted_logs_next f s at h.run h.whole t below (ad h.run h.whole) in
          let none : some.0 ≡ 0 = logging_try_result f.recorded s t some.0 is.0 (Refused refused.0) is.1 refused.1 some.1 in
          let goes : StepGoesOn f s t 0 q = logs_next_goes_on f s t 0 q flat at l refl has (subst (LogsNext f.recorded s t) none some.1) in
          (0, goes, subst (λ p. (next s t 0 p).objects ≡ s.objects) (sym is.1) refl)
      | inr other ↦
          let goes = admitted_goes_on f s t q h flat at l refl ad in
          (goes.0, goes.1, alone_keeps_objects s t goes.0 q (event_of f t x) other alone)
    ]

-- the state when thread t has caught up with x
pub record CaughtUp (f : FittedTrace) (s : Flat) (t : ℕ) (x : thread.ThreadState) : Type 0 where
  pub state : Flat
  pub flat : IsFlat state
  pub at : IsStateAt f (positions state) state
  pub objects : state.objects ≡ s.objects
  pub size : length state.threads ≡ length s.threads
  pub own : thread_of state t ≡ x
  pub others : (u : ℕ) → u ≢ t → positions state u ≡ positions s u

catches_up_by_number : (n : ℕ) (f : FittedTrace) (s : Flat) (t i : ℕ) (x : thread.ThreadState) → HasRun f → IsFlat s → IsStateAt f (positions s) s
    → t < length s.threads → IsThreadAt f t x → AreAlone f t i x.steps → i ≤ positions s t → positions s t + n ≡ x.steps → CaughtUp f s t x
catches_up_by_number zero f s t i x h flat at l there alone past sum =
    record {
      state = s;
      flat = flat;
      at = at;
      objects = refl;
      size = refl;
      own = (at.each h.run h.whole).threads t ∙ ap (λ k. thread_at f h.run t k) (let e : positions s t ≡ x.steps = omega (arith, sum) in e)
          ∙ sym (there h.run h.whole).1;
      others = λ u ne. refl;
    }
catches_up_by_number (suc n) f s t i x h flat at l there alone past sum =
    let q : Ask = ask_of s.code (thread_of s t) in
    let own : TouchesNoObject q (event_of f t (thread_of s t)) = subst (λ c. TouchesNoObject (ask_of c (thread_of s t)) (event_of f t (thread_of s t)))
    (sym at.code) (subst (NextTouchesNone f t) (sym ((at.each h.run h.whole).threads t))
    (alone h.run h.whole (positions s t) past (omega (arith, sum)))) in
    let has : HasStep f t (positions s t) = λ run of. (let within = (there run of).0 in omega (arith, within, sum)) in
    let goes = alone_goes_on f s t h flat at l has own in
    let new : Flat = next s t goes.0 q in
    let g : StepGoesOn f s t goes.0 q = goes.1 in
    let more = g.own in
    let size : length new.threads ≡ length s.threads = next_keeps_thread_count s t goes.0 q in
    let rest : CaughtUp f new t x = catches_up_by_number n f new t i x h g.flat g.at (omega (arith, l, size)) there alone (omega (arith, more, past))
    (omega (arith, more, sum)) in
    record {
      state = rest.state;
      flat = rest.flat;
      at = rest.at;
      objects = rest.objects ∙ goes.2;
      size = rest.size ∙ size;
      own = rest.own;
      others = λ u ne. rest.others u ne ∙ g.others u ne;
    }

pub catches_up_alone : (f : FittedTrace) (s : Flat) (t : ℕ) (x : thread.ThreadState) → HasRun f → IsFlat s → IsStateAt f (positions s) s
    → t < length s.threads → IsThreadAt f t x → AreAlone f t (positions s t) x.steps → positions s t ≤ x.steps → CaughtUp f s t x
catches_up_alone f s t x h flat at l there alone past =
    catches_up_by_number (x.steps - positions s t) f s t (positions s t) x h flat at l there alone (le_refl (positions s t)) (omega (arith, past))
