-- A thread that advances by itself beside its trace.
use Rattle.std.proofs.Common.{◌≡◌, ℕ, suc, zero, ◌+◌, ◌<◌, ◌≤◌, List, [], ◌∷◌, ◌++◌, length, map, take, drop, Some, refl, sym, ap, ◌∙◌}
use Rattle.std.proofs.Common.{subst, arith, inl, inr, take-append-drop, length-append, le_refl}
use Rattle.std.proofs.lemmas.Bool.{cases_lt}
use Rattle.std.proofs.Math.Seq.{drop-append_seam}
use Rattle.std.specs.Prelude.{slice_get}
use Rattle.ir_thread.specs.State.{ask_of, after_ask, after_reply, shared_ask, reply_of, thread_machine}
use Rattle.ir_runs.specs.Machine.{act_of, Object, reply, emitted, Admits, Label, Answer, logged}
use Rattle.ir_runs.specs.Machine as machine
use Rattle.ir_thread.specs.State as thread
use Rattle.ir_runs.specs.declared.access.Access.TheVariants.{Reading, Writing}
use Rattle.ir_thread.specs.declared.ask.Ask.{Ask}
use Rattle.ir_thread.specs.declared.ask.Ask.TheVariants.{Private, Env, Enter, Try, Leave, Get, Put, Print, End, Done}
use Rattle.ir_runs.specs.declared.env_kind.EnvKind.{EnvKind}
use Rattle.ir_thread.specs.declared.ask.Reply.{Reply}
use Rattle.ir_thread.specs.declared.ask.Reply.TheVariants.{Go, Value}
use Rattle.ir_runs.specs.Run.{Step, trail, events, count, At, Emits}
use Rattle.ir_runs.proofs.CallerLemmas.{events_append, drop_at_element}
use Rattle.ir_flat.specs.Flat.{Flat, start_flat, machine as machine_in}
use Rattle.ir_flat.proofs.CallerLemmas.{start_thread_is_fresh, events_added_by, events_after_ask, length-held_after_ask}
use Rattle.ir_log.specs.Logging.{label_of}
use Rattle.ir_log.specs.declared.event.Event.{Event}
use Rattle.ir_log.specs.declared.event.Event.TheVariants.{Answer as Answered, Read, Write, Try as Refused}
use Rattle.ir_trace.specs.Recorded.{recorded_thread}
use Rattle.ir_fit.specs.Fit.{FittedTrace, IsRunOf}
use Rattle.ir_cut.specs.Positions.{machine_of, start_of, EachRun, thread_at}
use Rattle.ir_weave.specs.Ahead.{TouchesNoObject, NextTouchesNone, HasStep, IsThreadAt, IsAhead, ask_at, event_of}
use Rattle.ir_weave.proofs.Trails.{StepOf, thread_at_zero_is_start, emitting_is_step_of}

-- ---- the next event

-- a place of a list
at_below_length_exists : {A : Type 0} (xs : List A) (k : ℕ) → k < length xs → (x : A) × At xs k x
at_below_length_exists [] k l = absurd (omega arith)
at_below_length_exists (x ∷ xs) zero l = (x, refl)
at_below_length_exists (x ∷ xs) (suc k) l = at_below_length_exists xs k (omega (arith, l))

take_suc_push : {A : Type 0} (xs : List A) (k : ℕ) (x : A) → At xs k x → take (suc k) xs ≡ take k xs ++ x ∷ []
take_suc_push [] k x h = absurd h
take_suc_push (y ∷ ys) zero x h = ap (λ z. z ∷ []) h
take_suc_push (y ∷ ys) (suc k) x h = ap (λ z. y ∷ z) (take_suc_push ys k x h)

-- step k of thread t
pub step_below_count_emits : (f : FittedTrace) (run : List Step) (t k : ℕ) → k < count (machine_of f) (start_of f) run t → (a : Label)
    × Emits (machine_of f) (start_of f) run t k a
step_below_count_emits f run t k l = let z = at_below_length_exists (trail (machine_of f) (start_of f) run t) k l in (z.0.1, (z.0.0, z.1))

emitted_adds_events : (f : FittedTrace) (q : Ask) (r : ℕ) (b : Object) → Admits (machine_of f) (act_of (shared_ask q) r) b
    → length (logged (emitted (act_of (shared_ask q) r) b) []) ≡ events_added_by q
emitted_adds_events f Private r b can = refl
emitted_adds_events f (Env kind) r b can = refl
emitted_adds_events f (Enter o Reading) r b can = refl
emitted_adds_events f (Enter o Writing) r b can = refl
emitted_adds_events f (Try o) zero b can = refl
emitted_adds_events f (Try o) (suc zero) b can = refl
emitted_adds_events f (Try o) (suc (suc r)) b can = absurd can
emitted_adds_events f (Leave o a) r b can = refl
emitted_adds_events f (Get o i) r b can = refl
emitted_adds_events f (Put o i w) r b can = refl
emitted_adds_events f Print r b can = refl
emitted_adds_events f (End e) r b can = refl
emitted_adds_events f Done r b can = refl

pub machine_take_is_ask : (code : List ℕ) (x : thread.ThreadState) (n : ℕ)
    → (thread_machine code).take x n ≡ after_ask code x (ask_of code x) (reply_of (ask_of code x) n)
unfolding after_reply
machine_take_is_ask code x n = refl

events-machine_take : (code : List ℕ) (x : thread.ThreadState) (n : ℕ) → ((thread_machine code).take x n).events ≡ x.events + events_added_by (ask_of code x)
events-machine_take code x n = ap (λ (z : thread.ThreadState). z.events) (machine_take_is_ask code x n)
    ∙ events_after_ask code x (ask_of code x) (reply_of (ask_of code x) n)

-- how many events it has logged
events_count_log : (f : FittedTrace) (run : List Step) → IsRunOf f.guest f.recorded run → (t k : ℕ) → k ≤ count (machine_of f) (start_of f) run t
    → (thread_at f run t k).events ≡ length (events (take k (trail (machine_of f) (start_of f) run t)))
events_count_log f run of t zero l = ap (λ (z : thread.ThreadState). z.events) (thread_at_zero_is_start (machine_of f) (start_of f) run t)
    ∙ (start_thread_is_fresh f.guest f.recorded.budget f.recorded.profile 0 (length f.guest.entries) t).events
events_count_log f run of t (suc k) l =
    let at = step_below_count_emits f run t k l in
    let z : StepOf (machine_of f) (thread_at f run t k) (thread_at f run t (suc k)) at.0 =
    emitting_is_step_of (machine_of f) (start_of f) run of.1.runs t k at.0 at.1 in
    let q : Ask = ask_at f run t k in
    let more : (thread_at f run t (suc k)).events ≡ (thread_at f run t k).events + events_added_by q = ap (λ (x : thread.ThreadState). x.events) z.next
    ∙ events-machine_take f.guest.code (thread_at f run t k) (reply (act_of (shared_ask q) z.result) z.object) in
    let one : length (logged at.0 []) ≡ events_added_by q = ap (λ a. length (logged a [])) z.emits ∙ emitted_adds_events f q z.result z.object z.can in
    let before = events_count_log f run of t k (omega (arith, l)) in
    let parts : events (take (suc k) (trail (machine_of f) (start_of f) run t)) ≡ events (take k (trail (machine_of f) (start_of f) run t))
    ++ logged at.0 [] =
    ap events (take_suc_push (trail (machine_of f) (start_of f) run t) k (at.1.0, at.0) at.1.1)
    ∙ events_append (take k (trail (machine_of f) (start_of f) run t)) ((at.1.0, at.0) ∷ []) in
    let sum = ap (λ (es : List Label). length es) parts
    ∙ length-append (events (take k (trail (machine_of f) (start_of f) run t))) (logged at.0 []) in
    omega (arith, more, one, before, sum)

-- the trace's log after it
recorded_log_left_is_trail_log : (f : FittedTrace) (run : List Step) → IsRunOf f.guest f.recorded run → (t k : ℕ) → t < length f.guest.entries
    → k ≤ count (machine_of f) (start_of f) run t
    → drop (thread_at f run t k).events (map label_of (recorded_thread f.recorded t).events) ≡ events
    (drop k (trail (machine_of f) (start_of f) run t))
recorded_log_left_is_trail_log f run of t k l within =
    let xs = trail (machine_of f) (start_of f) run t in
    ap (λ n. drop n (map label_of (recorded_thread f.recorded t).events)) (events_count_log f run of t k within)
    ∙ ap (drop (length (events (take k xs)))) (sym (of.1.logs t l) ∙ ap events (sym (take-append-drop k xs))
    ∙ events_append (take k xs) (drop k xs))
    ∙ drop-append_seam (events (take k xs)) (events (drop k xs))

dropped_label_has_event : (xs : List Event) (i : ℕ) (a : Label) (es : List Label) → drop i (map label_of xs) ≡ a ∷ es → (e : Event)
    × (slice_get xs i ≡ Some e) × (label_of e ≡ a)
dropped_label_has_event [] zero a es h = absurd (cc h)
dropped_label_has_event [] (suc i) a es h = absurd (cc h)
dropped_label_has_event (x ∷ xs) zero a es h = (x, refl, cc h)
dropped_label_has_event (x ∷ xs) (suc i) a es h = dropped_label_has_event xs i a es h

logged_is_cons : (f : FittedTrace) (q : Ask) (r : ℕ) (b : Object) (es : List Label) → Admits (machine_of f) (act_of (shared_ask q) r) b
    → events_added_by q ≡ 1 → logged (emitted (act_of (shared_ask q) r) b) es ≡ emitted (act_of (shared_ask q) r) b ∷ es
logged_is_cons f Private r b es can h = absurd (omega (arith, h))
logged_is_cons f (Env kind) r b es can h = refl
logged_is_cons f (Enter o Reading) r b es can h = refl
logged_is_cons f (Enter o Writing) r b es can h = refl
logged_is_cons f (Try o) zero b es can h = refl
logged_is_cons f (Try o) (suc zero) b es can h = refl
logged_is_cons f (Try o) (suc (suc r)) b es can h = absurd can
logged_is_cons f (Leave o a) r b es can h = absurd (omega (arith, h))
logged_is_cons f (Get o i) r b es can h = absurd (omega (arith, h))
logged_is_cons f (Put o i w) r b es can h = absurd (omega (arith, h))
logged_is_cons f Print r b es can h = absurd (omega (arith, h))
logged_is_cons f (End e) r b es can h = absurd (omega (arith, h))
logged_is_cons f Done r b es can h = absurd (omega (arith, h))

-- the event of a step that is logged
pub logged_step_has_event : (f : FittedTrace) (run : List Step) → IsRunOf f.guest f.recorded run → (t k : ℕ) → t < length f.guest.entries
    → k < count (machine_of f) (start_of f) run t → events_added_by (ask_at f run t k) ≡ 1
    → (e : Event) × (slice_get (recorded_thread f.recorded t).events (thread_at f run t k).events ≡ Some e)
    × Emits (machine_of f) (start_of f) run t k (label_of e)
logged_step_has_event f run of t k l within one =
    let at = step_below_count_emits f run t k within in
    let xs = trail (machine_of f) (start_of f) run t in
    let z : StepOf (machine_of f) (thread_at f run t k) (thread_at f run t (suc k)) at.0 =
    emitting_is_step_of (machine_of f) (start_of f) run of.1.runs t k at.0 at.1 in
    let es : List Label = events (drop (suc k) xs) in
    let first : drop (thread_at f run t k).events (map label_of (recorded_thread f.recorded t).events) ≡ at.0 ∷ es =
    recorded_log_left_is_trail_log f run of t k l (omega (arith, within)) ∙ ap events (drop_at_element xs k (at.1.0, at.0) at.1.1) ∙ ap (λ a. logged a es) z.emits
    ∙ logged_is_cons f (ask_at f run t k) z.result z.object es z.can one ∙ ap (λ a. a ∷ es) (sym z.emits) in
    let found = dropped_label_has_event (recorded_thread f.recorded t).events (thread_at f run t k).events at.0 es first in
    (found.0, found.1, subst (Emits (machine_of f) (start_of f) run t k) (sym found.2) at.1)

-- ---- the next step

-- the reply that brings no value
abbrev pub HasNoValue : Ask → Type 0
HasNoValue (Env kind) = ⊥
HasNoValue (Try o) = ⊥
HasNoValue (Get o i) = ⊥
HasNoValue _ = Unit {0}

no_value_reply_is_go : (q : Ask) → HasNoValue q → (n : ℕ) → reply_of q n ≡ Go
no_value_reply_is_go Private h n = refl
no_value_reply_is_go (Env kind) h n = absurd h
no_value_reply_is_go (Enter o a) h n = refl
no_value_reply_is_go (Try o) h n = absurd h
no_value_reply_is_go (Leave o a) h n = refl
no_value_reply_is_go (Get o i) h n = absurd h
no_value_reply_is_go (Put o i w) h n = refl
no_value_reply_is_go Print h n = refl
no_value_reply_is_go (End e) h n = refl
no_value_reply_is_go Done h n = refl

-- where nothing is answered
pub no_value_step_gets_go : (f : FittedTrace) (run : List Step) → IsRunOf f.guest f.recorded run → (t k : ℕ) (q : Ask)
    → k < count (machine_of f) (start_of f) run t → ask_at f run t k ≡ q → HasNoValue q
    → thread_at f run t (suc k) ≡ after_ask f.guest.code (thread_at f run t k) q Go
no_value_step_gets_go f run of t k q l is go =
    let at = step_below_count_emits f run t k l in
    let z : StepOf (machine_of f) (thread_at f run t k) (thread_at f run t (suc k)) at.0 =
    emitting_is_step_of (machine_of f) (start_of f) run of.1.runs t k at.0 at.1 in
    let n : ℕ = reply (act_of (shared_ask (ask_at f run t k)) z.result) z.object in
    z.next ∙ machine_take_is_ask f.guest.code (thread_at f run t k) n ∙ ap (λ a. after_ask f.guest.code (thread_at f run t k) a (reply_of a n)) is
    ∙ ap (after_ask f.guest.code (thread_at f run t k) q) (no_value_reply_is_go q go n)

emitted_answer_is_result : (kind : EnvKind) (r : ℕ) (b : Object) (j : EnvKind) (v : ℕ) → emitted (act_of (shared_ask (Env kind)) r) b ≡ Answer j v → r ≡ v
emitted_answer_is_result kind r b j v h = cc h

-- where a call of the environment is answered as the trace emits
pub call_gets_logged_answer : (f : FittedTrace) (run : List Step) → IsRunOf f.guest f.recorded run → (t k : ℕ) (kind j : EnvKind) (v : ℕ)
    → t < length f.guest.entries → k < count (machine_of f) (start_of f) run t → ask_at f run t k ≡ Env kind
    → slice_get (recorded_thread f.recorded t).events (thread_at f run t k).events ≡ Some (Answered j v)
    → thread_at f run t (suc k) ≡ after_ask f.guest.code (thread_at f run t k) (Env kind) (Value v)
call_gets_logged_answer f run of t k kind j v l within is event =
    let found = logged_step_has_event f run of t k l within (ap events_added_by is) in
    let same : found.0 ≡ Answered j v = cc (found.1, event) in
    let z : StepOf (machine_of f) (thread_at f run t k) (thread_at f run t (suc k)) (label_of found.0) =
    emitting_is_step_of (machine_of f) (start_of f) run of.1.runs t k (label_of found.0) found.2 in
    let emits : emitted (act_of (shared_ask (Env kind)) z.result) z.object ≡ Answer j v =
    ap (λ a. emitted (act_of (shared_ask a) z.result) z.object) (sym is) ∙ sym z.emits ∙ ap label_of same in
    let r : z.result ≡ v = emitted_answer_is_result kind z.result z.object j v emits in
    z.next ∙ machine_take_is_ask f.guest.code (thread_at f run t k) (reply (act_of (shared_ask (ask_at f run t k)) z.result) z.object)
    ∙ ap (λ a. after_ask f.guest.code (thread_at f run t k) a (reply_of a (reply (act_of (shared_ask a) z.result) z.object))) is
    ∙ ap (λ n. after_ask f.guest.code (thread_at f run t k) (Env kind) (Value n)) r

-- the result with which a try logs this event
abbrev pub try_result : Event → ℕ
try_result (Answered kind value) = 0
try_result (Read object version) = 0
try_result (Write object version readers) = 1
try_result (Refused object) = 0

pub emitted_try_result : (s : Flat) (o r : ℕ) (b : Object) (e : Event) → Admits (machine_in s) (act_of (machine.Try o) r) b
    → emitted (act_of (machine.Try o) r) b ≡ label_of e → r ≡ try_result e
emitted_try_result s o zero b (Answered j v) can h = refl
emitted_try_result s o zero b (Read p v) can h = refl
emitted_try_result s o zero b (Write p v l) can h = absurd (cc h)
emitted_try_result s o zero b (Refused p) can h = refl
emitted_try_result s o (suc zero) b (Answered j v) can h = absurd (cc h)
emitted_try_result s o (suc zero) b (Read p v) can h = absurd (cc h)
emitted_try_result s o (suc zero) b (Write p v l) can h = refl
emitted_try_result s o (suc zero) b (Refused p) can h = absurd (cc h)
emitted_try_result s o (suc (suc r)) b e can h = absurd can

reply_of_try_is_result : (f : FittedTrace) (o r : ℕ) (b : Object) → Admits (machine_of f) (act_of (machine.Try o) r) b
    → reply (act_of (machine.Try o) r) b ≡ r
reply_of_try_is_result f o zero b can = refl
reply_of_try_is_result f o (suc zero) b can = refl
reply_of_try_is_result f o (suc (suc r)) b can = absurd can

-- where a try is answered as the trace emits
pub try_gets_logged_result : (f : FittedTrace) (run : List Step) → IsRunOf f.guest f.recorded run → (t k o : ℕ) (e : Event)
    → t < length f.guest.entries → k < count (machine_of f) (start_of f) run t → ask_at f run t k ≡ Try o
    → slice_get (recorded_thread f.recorded t).events (thread_at f run t k).events ≡ Some e
    → thread_at f run t (suc k) ≡ after_ask f.guest.code (thread_at f run t k) (Try o) (Value (try_result e))
try_gets_logged_result f run of t k o e l within is event =
    let found = logged_step_has_event f run of t k l within (ap events_added_by is) in
    let same : found.0 ≡ e = cc (found.1, event) in
    let z : StepOf (machine_of f) (thread_at f run t k) (thread_at f run t (suc k)) (label_of found.0) =
    emitting_is_step_of (machine_of f) (start_of f) run of.1.runs t k (label_of found.0) found.2 in
    let can : Admits (machine_of f) (act_of (machine.Try o) z.result) z.object =
    subst (λ q. Admits (machine_of f) (act_of (shared_ask q) z.result) z.object) is z.can in
    let emits : emitted (act_of (machine.Try o) z.result) z.object ≡ label_of e =
    ap (λ a. emitted (act_of (shared_ask a) z.result) z.object) (sym is) ∙ sym z.emits ∙ ap label_of same in
    let r : reply (act_of (machine.Try o) z.result) z.object ≡ try_result e = reply_of_try_is_result f o z.result z.object can
    ∙ emitted_try_result (start_flat f.guest f.recorded.budget f.recorded.profile) o z.result z.object e can emits in
    z.next ∙ machine_take_is_ask f.guest.code (thread_at f run t k) (reply (act_of (shared_ask (ask_at f run t k)) z.result) z.object)
    ∙ ap (λ a. after_ask f.guest.code (thread_at f run t k) a (reply_of a (reply (act_of (shared_ask a) z.result) z.object))) is
    ∙ ap (λ n. after_ask f.guest.code (thread_at f run t k) (Try o) (Value n)) r

-- ---- the thread after it

abbrev pub IsNotDone : (q : Ask) → Type 0
IsNotDone Done = ⊥
IsNotDone _ = Unit {0}

pub steps_after_one_ask : (code : List ℕ) (x : thread.ThreadState) (q : Ask) (r : Reply) → IsNotDone q → (after_ask code x q r).steps ≡ x.steps + 1
steps_after_one_ask code x Private r h = refl
steps_after_one_ask code x (Env kind) r h = refl
steps_after_one_ask code x (Enter o a) r h = refl
steps_after_one_ask code x (Try o) r h = refl
steps_after_one_ask code x (Leave o a) r h = refl
steps_after_one_ask code x (Get o i) r h = refl
steps_after_one_ask code x (Put o i w) r h = refl
steps_after_one_ask code x Print r h = refl
steps_after_one_ask code x (End e) r h = refl
steps_after_one_ask code x Done r h = absurd h

pub number_after_ask : (code : List ℕ) (x : thread.ThreadState) (q : Ask) (r : Reply) → (after_ask code x q r).number ≡ x.number
number_after_ask code x Private r = refl
number_after_ask code x (Env kind) r = refl
number_after_ask code x (Enter o a) r = refl
number_after_ask code x (Try o) r = refl
number_after_ask code x (Leave o a) r = refl
number_after_ask code x (Get o i) r = refl
number_after_ask code x (Put o i w) r = refl
number_after_ask code x Print r = refl
number_after_ask code x (End e) r = refl
number_after_ask code x Done r = refl

-- x has taken the step that it asks
pub record TakesStep (f : FittedTrace) (t : ℕ) (x : thread.ThreadState) (q : Ask) (r : Reply) : Type 0 where
  pub asks : ask_of f.guest.code x ≡ q
  pub step : IsNotDone q
  pub has : HasStep f t x.steps
  pub next : EachRun f (λ run. thread_at f run t (suc x.steps) ≡ after_ask f.guest.code (thread_at f run t x.steps) q r)

thread_at_taken_step : (f : FittedTrace) (t : ℕ) (x : thread.ThreadState) (q : Ask) (r : Reply) → IsThreadAt f t x → TakesStep f t x q r
    → IsThreadAt f t (after_ask f.guest.code x q r)
thread_at_taken_step f t x q r at k run of =
    let more = steps_after_one_ask f.guest.code x q r k.step in (
      (let a = k.has run of in omega (arith, more, a)),
      ap (λ z. after_ask f.guest.code z q r) (at run of).1 ∙ sym (k.next run of)
          ∙ ap (thread_at f run t) (let e : suc x.steps ≡ (after_ask f.guest.code x q r).steps = omega (arith, more) in e),
    )

-- ahead by one step more that touches no object
pub ahead_after_alone_step : (f : FittedTrace) (t i : ℕ) (x : thread.ThreadState) (q : Ask) (r : Reply) → IsAhead f t i x → TakesStep f t x q r
    → TouchesNoObject q (event_of f t x)
    → IsAhead f t i (after_ask f.guest.code x q r)
ahead_after_alone_step f t i x q r ahead k alone =
    let more = steps_after_one_ask f.guest.code x q r k.step in record {
      run = ahead.run;
      there = ahead.there;
      number = number_after_ask f.guest.code x q r ∙ ahead.number;
      held = length-held_after_ask f.guest.code x q r ∙ ahead.held;
      past = (let a = ahead.past in omega (arith, a, more));
      at = thread_at_taken_step f t x q r ahead.at k;
      alone = λ run of j past less. elim (cases_lt j x.steps) [
        | inl before ↦ ahead.alone run of j past before
        | inr last ↦ subst (λ z. NextTouchesNone f t (thread_at f run t z)) (let e : x.steps ≡ j = omega (arith, last, less, more) in e)
            (subst (NextTouchesNone f t) (ahead.at run of).1 (subst (λ p. TouchesNoObject p (event_of f t x)) (sym k.asks) alone))
      ];
    }

-- where the step touched an object, nothing is ahead of it
pub no_lead_after_object_step : (f : FittedTrace) (t i : ℕ) (x : thread.ThreadState) (q : Ask) (r : Reply) → IsAhead f t i x → TakesStep f t x q r
    → IsAhead f t (suc x.steps) (after_ask f.guest.code x q r)
no_lead_after_object_step f t i x q r ahead k =
    let more = steps_after_one_ask f.guest.code x q r k.step in record {
      run = ahead.run;
      there = ahead.there;
      number = number_after_ask f.guest.code x q r ∙ ahead.number;
      held = length-held_after_ask f.guest.code x q r ∙ ahead.held;
      past = omega (arith, more);
      at = thread_at_taken_step f t x q r ahead.at k;
      alone = λ run of j past less. absurd (omega (arith, past, less, more));
    }

-- the same thread, where its position is counted up to it
pub ahead_of_own_position : (f : FittedTrace) (t i : ℕ) (x : thread.ThreadState) → IsAhead f t i x → IsAhead f t x.steps x
ahead_of_own_position f t i x ahead = record {
  run = ahead.run;
  there = ahead.there;
  number = ahead.number;
  held = ahead.held;
  past = le_refl x.steps;
  at = ahead.at;
  alone = λ run of j past less. absurd (omega (arith, past, less));
}

-- what it asks in each run
pub ahead_asks_in_run : (f : FittedTrace) (t i : ℕ) (x : thread.ThreadState) (q : Ask) (run : List Step) → IsRunOf f.guest f.recorded run → IsAhead f t i x
    → ask_of f.guest.code x ≡ q → ask_at f run t x.steps ≡ q
ahead_asks_in_run f t i x q run of ahead is = ap (ask_of f.guest.code) (sym (ahead.at run of).1) ∙ is

pub takes_step_with_go : (f : FittedTrace) (t i : ℕ) (x : thread.ThreadState) (q : Ask) → IsAhead f t i x → ask_of f.guest.code x ≡ q → HasStep f t x.steps
    → HasNoValue q → IsNotDone q → TakesStep f t x q Go
takes_step_with_go f t i x q ahead is has go step = record {
  asks = is;
  step = step;
  has = has;
  next = λ run of. no_value_step_gets_go f run of t x.steps q (has run of) (ahead_asks_in_run f t i x q run of ahead is) go;
}

pub takes_call_with_answer : (f : FittedTrace) (t i : ℕ) (x : thread.ThreadState) (kind j : EnvKind) (v : ℕ) → IsAhead f t i x
    → ask_of f.guest.code x ≡ Env kind → HasStep f t x.steps
    → slice_get (recorded_thread f.recorded t).events x.events ≡ Some (Answered j v) → TakesStep f t x (Env kind) (Value v)
takes_call_with_answer f t i x kind j v ahead is has event = record {
  asks = is;
  step = tt;
  has = has;
  next = λ run of. call_gets_logged_answer f run of t x.steps kind j v ahead.there (has run of) (ahead_asks_in_run f t i x (Env kind) run of ahead is)
      (ap (λ (z : thread.ThreadState). slice_get (recorded_thread f.recorded t).events z.events) (sym (ahead.at run of).1) ∙ event);
}

pub takes_try_with_result : (f : FittedTrace) (t i : ℕ) (x : thread.ThreadState) (o : ℕ) (e : Event) → IsAhead f t i x → ask_of f.guest.code x ≡ Try o
    → HasStep f t x.steps → slice_get (recorded_thread f.recorded t).events x.events ≡ Some e
    → TakesStep f t x (Try o) (Value (try_result e))
takes_try_with_result f t i x o e ahead is has event = record {
  asks = is;
  step = tt;
  has = has;
  next = λ run of. try_gets_logged_result f run of t x.steps o e ahead.there (has run of) (ahead_asks_in_run f t i x (Try o) run of ahead is)
      (ap (λ (z : thread.ThreadState). slice_get (recorded_thread f.recorded t).events z.events) (sym (ahead.at run of).1) ∙ event);
}

-- a thread that has a step isn't done
pub has_step_is_not_done : (f : FittedTrace) (t i : ℕ) (x : thread.ThreadState) → IsAhead f t i x → HasStep f t x.steps → ask_of f.guest.code x ≡ Done → ⊥
has_step_is_not_done f t i x ahead has is =
    let run : List Step = ahead.run.run in
    let of = ahead.run.whole in
    let at = step_below_count_emits f run t x.steps (has run of) in
    let z : StepOf (machine_of f) (thread_at f run t x.steps) (thread_at f run t (suc x.steps)) at.0 =
    emitting_is_step_of (machine_of f) (start_of f) run of.1.runs t x.steps at.0 at.1 in
    subst (λ q. Admits (machine_of f) (act_of (shared_ask q) z.result) z.object) (ahead_asks_in_run f t i x Done run of ahead is) z.can
