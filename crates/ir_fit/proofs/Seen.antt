-- What is seen of a thread's next step, by what the thread asks.
use Rattle.std.proofs.Common.{◌≡◌, ◌≢◌, ℕ, zero, suc, ◌<◌, ◌≤◌, true, false, Bool, List, [], ◌∷◌, length, map, drop, Option, Some, None, refl, sym, ap, ◌∙◌, subst, arith, inl, inr, ◌⊎◌}
use Rattle.std.specs.Prelude.{◌↔◌, IsTrue, slice_get}
use Rattle.std.specs.List.{AllByRecursion}
use Rattle.ir_thread.specs.Permitted.{Permits, held_count}
use Rattle.ir_thread.specs.State.{end_number, end_code, ask_of, after_ask, after_reply, shared_ask, reply_of, is_result, thread_machine}
use Rattle.ir_runs.specs.Machine as machine
use Rattle.ir_runs.specs.Machine.{act_of, target, Admits, emitted, Label, logged}
use Rattle.ir_thread.specs.State as thread
use Rattle.ir_runs.specs.declared.access.Access.{Access}
use Rattle.ir_runs.specs.declared.access.Access.TheVariants.{Reading, Writing}
use Rattle.ir_thread.specs.declared.ask.Ask.{Ask}
use Rattle.ir_thread.specs.declared.ask.Ask.TheVariants.{Private, Env, Enter, Try, Leave, Get, Put, Print, End, Done}
use Rattle.ir_runs.specs.declared.env_kind.EnvKind.{EnvKind}
use Rattle.ir_thread.specs.declared.ask.Reply.{Reply}
use Rattle.ir_thread.specs.declared.end.End as end
use Rattle.ir_thread.proofs.CallerLemmas.{ask_of_permitted, end_number_and_code}
use Rattle.ir_object.specs.Cell.{Cell}
use Rattle.ir_object.specs.Standing.{Admitted}
use Rattle.ir_flat.specs.Flat.{Flat, thread_of, cell_of, tables, machine, IsFlat}
use Rattle.ir_flat.proofs.CallerLemmas.{may_step_iff_admits, events_added_by}
use Rattle.std.proofs.lemmas.Option.{slice_get_within}
use Rattle.ir_lemmas.proofs.CallerLemmas.{slice_get_satisfies, refuted_by_false_test}
use Rattle.ir_log.specs.Logging.{label_of}
use Rattle.ir_log.specs.Asked.{ask_of as event_ask, SuitsEvent}
use Rattle.ir_log.proofs.CallerLemmas.{ask_of_call_event as call_asked, ask_of_entry_event as entry_asked}
use Rattle.ir_log.specs.declared.event.Event.{Event}
use Rattle.ir_log.specs.declared.event.Event.TheVariants.{Answer, Read, Write, Try as Refused}
use Rattle.ir_trace.specs.Recorded.{Recorded, recorded_thread, trace_of}
use Rattle.ir_trace.specs.Bounds.{IsEvent, IsRecordedThread}
use Rattle.ir_fit.specs.Ahead.{steps_ahead, log_ahead, CanFollow, IsStoppedAhead, AgreesAhead, IsOpen, IsOwn, EndsSo, IsSeen}
use Rattle.ir_fit.specs.declared.follower.look.Look.{Look}
use Rattle.ir_fit.specs.declared.follower.look.Look.TheVariants as look
use Rattle.ir_fit.specs.declared.follower.look.Move.{Move}
use Rattle.ir_runs.specs.Verdicts.{unlogged, ends_at, ends_now, Meets}
use Rattle.ir_runs.specs.Verdicts as verdicts

-- ---- the end that a step asks for

-- the end and code that the step gets
abbrev pub end_asked : Ask → Option (ℕ × ℕ)
end_asked (End e) = Some (end_number e, end_code e)
end_asked _ = None

ends_at_unchanged : (x : Option (ℕ × ℕ)) → ends_at x x ≡ None
ends_at_unchanged None = refl
ends_at_unchanged (Some e) = refl

end_after_ask_is_asked : (code : List ℕ) (s : thread.ThreadState) (reply : Reply) (q : Ask) → Permits s q
    → ends_at (end_number_and_code s.ended) (end_number_and_code (after_ask code s q reply).ended) ≡ end_asked q
end_after_ask_is_asked code s reply Private p = ends_at_unchanged (end_number_and_code s.ended)
end_after_ask_is_asked code s reply (Env kind) p = ends_at_unchanged (end_number_and_code s.ended)
end_after_ask_is_asked code s reply (Enter object access) p = ends_at_unchanged (end_number_and_code s.ended)
end_after_ask_is_asked code s reply (Try object) p = ends_at_unchanged (end_number_and_code s.ended)
end_after_ask_is_asked code s reply (Leave object access) p = ends_at_unchanged (end_number_and_code s.ended)
end_after_ask_is_asked code s reply (Get object index) p = ends_at_unchanged (end_number_and_code s.ended)
end_after_ask_is_asked code s reply (Put object index value) p = ends_at_unchanged (end_number_and_code s.ended)
end_after_ask_is_asked code s reply Print p = ends_at_unchanged (end_number_and_code s.ended)
end_after_ask_is_asked code s reply (End e) p = ap (λ z. ends_at (end_number_and_code z) (end_number_and_code (Some e))) p
end_after_ask_is_asked code s reply Done p = ends_at_unchanged (end_number_and_code s.ended)

pub ends_now_is_end_asked : (code : List ℕ) (s : thread.ThreadState) → ends_now (thread_machine code) s ≡ end_asked (ask_of code s)
unfolding after_reply
ends_now_is_end_asked code s = end_after_ask_is_asked code s (reply_of (ask_of code s) 0) (ask_of code s) (ask_of_permitted code s)

-- ---- steps by what is asked

-- what a step emits that is asked so and has this result
abbrev pub label_of_step : Flat → Ask → ℕ → Label
label_of_step f q v = emitted (act_of (shared_ask q) v) ((tables f).objects (target (act_of (shared_ask q) v)))

-- a step that is asked so follows, where n steps and the log es are left
pub record FollowsAs (r : Recorded) (f : Flat) (t v n : ℕ) (es : List Label) (q : Ask) : Type 0 where
  pub can : Admits (machine f) (act_of (shared_ask q) v) ((tables f).objects (target (act_of (shared_ask q) v)))
  pub steps : 0 < n
  pub logs : logged (label_of_step f q v) (unlogged (label_of_step f q v) es) ≡ es
  pub ends : Meets (end_asked q) ((trace_of r).ends t) (held_count (thread_of f t).held) n es

pub follows_as_asked : (r : Recorded) (f : Flat) (t v : ℕ) (q : Ask) → ask_of f.code (thread_of f t) ≡ q → CanFollow r f t v
    → FollowsAs r f t v (steps_ahead r f t) (log_ahead r f t) q
follows_as_asked r f t v q is h = subst (FollowsAs r f t v (steps_ahead r f t) (log_ahead r f t)) is (record {
  can = h.0;
  steps = h.1;
  logs = h.2;
  ends = subst (λ e. Meets e ((trace_of r).ends t) (held_count (thread_of f t).held) (steps_ahead r f t) (log_ahead r f t))
      (ends_now_is_end_asked f.code (thread_of f t)) h.3;
})

pub can_follow_as_asked : (r : Recorded) (f : Flat) (t v : ℕ) (q : Ask) → ask_of f.code (thread_of f t) ≡ q
    → FollowsAs r f t v (steps_ahead r f t) (log_ahead r f t) q → CanFollow r f t v
can_follow_as_asked r f t v q is h =
    let k : FollowsAs r f t v (steps_ahead r f t) (log_ahead r f t) (ask_of f.code (thread_of f t)) =
    subst (FollowsAs r f t v (steps_ahead r f t) (log_ahead r f t)) (sym is) h in (
      k.can,
      k.steps,
      k.logs,
      subst (λ e. Meets e ((trace_of r).ends t) (held_count (thread_of f t).held) (steps_ahead r f t)
          (log_ahead r f t)) (sym (ends_now_is_end_asked f.code (thread_of f t))) k.ends,
    )

-- the next step is the trace's, where it is asked so
pub record AgreesAs (r : Recorded) (f : Flat) (t n : ℕ) (es : List Label) (q : Ask) : Type 0 where
  pub steps : 0 < n
  pub suits : verdicts.Suits (shared_ask q) es
  pub ends : Meets (end_asked q) ((trace_of r).ends t) (held_count (thread_of f t).held) n es

pub agrees_as_asked : (r : Recorded) (f : Flat) (t : ℕ) (q : Ask) → ask_of f.code (thread_of f t) ≡ q → AgreesAhead r f t
    → AgreesAs r f t (steps_ahead r f t) (log_ahead r f t) q
agrees_as_asked r f t q is h = subst (AgreesAs r f t (steps_ahead r f t) (log_ahead r f t)) is (record {
  steps = h.0;
  suits = h.1;
  ends = subst (λ e. Meets e ((trace_of r).ends t) (held_count (thread_of f t).held) (steps_ahead r f t) (log_ahead r f t))
      (ends_now_is_end_asked f.code (thread_of f t)) h.2;
})

pub agrees_ahead_as_asked : (r : Recorded) (f : Flat) (t : ℕ) (q : Ask) → ask_of f.code (thread_of f t) ≡ q
    → AgreesAs r f t (steps_ahead r f t) (log_ahead r f t) q → AgreesAhead r f t
agrees_ahead_as_asked r f t q is h =
    let k : AgreesAs r f t (steps_ahead r f t) (log_ahead r f t) (ask_of f.code (thread_of f t)) =
    subst (AgreesAs r f t (steps_ahead r f t) (log_ahead r f t)) (sym is) h in (
      k.steps,
      k.suits,
      subst (λ e. Meets e ((trace_of r).ends t) (held_count (thread_of f t).held) (steps_ahead r f t) (log_ahead r f t))
          (sym (ends_now_is_end_asked f.code (thread_of f t))) k.ends,
    )

-- ---- the next event of a log

-- the log from an event on
pub drop_mapped_labels : (xs : List Event) (i : ℕ) (e : Event) → slice_get xs i ≡ Some e → drop i (map label_of xs) ≡ label_of e
    ∷ drop (suc i) (map label_of xs)
drop_mapped_labels [] i e h = absurd (cc h)
drop_mapped_labels (x ∷ xs) zero e h = let same : x ≡ e = cc h in ap (λ z. label_of z ∷ map label_of xs) same
drop_mapped_labels (x ∷ xs) (suc i) e h = drop_mapped_labels xs i e h

-- a log whose next event suits what is asked
event_suits_call : (x : Event) (es : List Label) (kind : EnvKind) → verdicts.Suits (machine.Env kind) (label_of x ∷ es) → SuitsEvent (Env kind) x
event_suits_call (Answer j v) es kind h = inl (ap Env h)
event_suits_call (Read o v) es kind h = absurd h
event_suits_call (Write o v l) es kind h = absurd h
event_suits_call (Refused o) es kind h = absurd h

event_suits_entry : (x : Event) (es : List Label) (o : ℕ) (a : Access) → verdicts.Suits (machine.Enter o a) (label_of x ∷ es)
    → SuitsEvent (Enter o a) x
event_suits_entry (Answer j v) es o a h = absurd h
event_suits_entry (Read p v) es o a h = inl (λ i. Enter (h.0 i) (h.1 i))
event_suits_entry (Write p v l) es o a h = inl (λ i. Enter (h.0 i) (h.1 i))
event_suits_entry (Refused p) es o a h = absurd h

event_suits_try : (x : Event) (es : List Label) (o : ℕ) → verdicts.Suits (machine.Try o) (label_of x ∷ es) → SuitsEvent (Try o) x
event_suits_try (Answer j v) es o h = absurd h
event_suits_try (Read p v) es o h = absurd (let is : ◌≡◌ {A = Access} Reading Writing = h.1 in cc is)
event_suits_try (Write p v l) es o h = inr (λ i. Some (Try (h.0 i)))
event_suits_try (Refused p) es o h = inl (ap Try h)

label_suits_asked_entry : (x : Event) (es : List Label) (o : ℕ) (a : Access) → event_ask x ≡ Enter o a → verdicts.Suits (machine.Enter o a) (label_of x ∷ es)
label_suits_asked_entry (Answer j v) es o a h = absurd (cc h)
label_suits_asked_entry (Read p v) es o a h = ((let e : ◌≡◌ {A = ℕ} p o = cc h in e), (let e : ◌≡◌ {A = Access} Reading a = cc h in e))
label_suits_asked_entry (Write p v l) es o a h = ((let e : ◌≡◌ {A = ℕ} p o = cc h in e), (let e : ◌≡◌ {A = Access} Writing a = cc h in e))
label_suits_asked_entry (Refused p) es o a h = absurd (cc h)

pub label_suits_entry : (x : Event) (es : List Label) (o : ℕ) (a : Access) → SuitsEvent (Enter o a) x
    → verdicts.Suits (machine.Enter o a) (label_of x ∷ es)
label_suits_entry x es o a h = label_suits_asked_entry x es o a (entry_asked o a x h)

pub label_suits_try : (x : Event) (es : List Label) (o : ℕ) → SuitsEvent (Try o) x → verdicts.Suits (machine.Try o) (label_of x ∷ es)
label_suits_try (Answer j v) es o (inl h) = absurd (cc h)
label_suits_try (Answer j v) es o (inr h) = absurd (cc h)
label_suits_try (Read p v) es o (inl h) = absurd (cc h)
label_suits_try (Read p v) es o (inr h) = absurd (cc h)
label_suits_try (Write p v l) es o (inl h) = absurd (cc h)
label_suits_try (Write p v l) es o (inr h) = ((let e : ◌≡◌ {A = ℕ} p o = cc h in e), refl)
label_suits_try (Refused p) es o (inl h) = let e : ◌≡◌ {A = ℕ} p o = cc h in e
label_suits_try (Refused p) es o (inr h) = absurd (cc h)

pub suited_call_has_event : (xs : List Event) (i : ℕ) (kind : EnvKind) → verdicts.Suits (machine.Env kind) (drop i (map label_of xs)) → (e : Event)
    × (slice_get xs i ≡ Some e) × SuitsEvent (Env kind) e
suited_call_has_event [] zero kind h = absurd h
suited_call_has_event [] (suc i) kind h = absurd h
suited_call_has_event (x ∷ xs) zero kind h = (x, refl, event_suits_call x (map label_of xs) kind h)
suited_call_has_event (x ∷ xs) (suc i) kind h = suited_call_has_event xs i kind h

pub suited_entry_has_event : (xs : List Event) (i o : ℕ) (a : Access) → verdicts.Suits (machine.Enter o a) (drop i (map label_of xs)) → (e : Event)
    × (slice_get xs i ≡ Some e) × SuitsEvent (Enter o a) e
suited_entry_has_event [] zero o a h = absurd h
suited_entry_has_event [] (suc i) o a h = absurd h
suited_entry_has_event (x ∷ xs) zero o a h = (x, refl, event_suits_entry x (map label_of xs) o a h)
suited_entry_has_event (x ∷ xs) (suc i) o a h = suited_entry_has_event xs i o a h

pub suited_try_has_event : (xs : List Event) (i o : ℕ) → verdicts.Suits (machine.Try o) (drop i (map label_of xs)) → (e : Event)
    × (slice_get xs i ≡ Some e) × SuitsEvent (Try o) e
suited_try_has_event [] zero o h = absurd h
suited_try_has_event [] (suc i) o h = absurd h
suited_try_has_event (x ∷ xs) zero o h = (x, refl, event_suits_try x (map label_of xs) o h)
suited_try_has_event (x ∷ xs) (suc i) o h = suited_try_has_event xs i o h

-- ---- calls of the environment

pub suited_call_can_follow : (r : Recorded) (f : Flat) (t v : ℕ) (kind j : EnvKind) → IsRecordedThread r.profile r.objects (recorded_thread r t)
    → ask_of f.code (thread_of f t) ≡ Env kind → 0 < steps_ahead r f t
    → slice_get (recorded_thread r t).events (thread_of f t).events ≡ Some (Answer j v) → SuitsEvent (Env kind) (Answer j v) → CanFollow r f t v
suited_call_can_follow r f t v kind j fits is steps next suits =
    let asked = call_asked kind (Answer j v) suits in
    let same : j ≡ kind = cc asked in
    let here : Answer j v ≡ Answer kind v = ap (λ z. Answer z v) same in
    let es : log_ahead r f t ≡ machine.Answer kind v ∷ drop (suc (thread_of f t).events) (map label_of (recorded_thread r t).events) =
    drop_mapped_labels (recorded_thread r t).events (thread_of f t).events (Answer kind v)
    (subst (λ z. slice_get (recorded_thread r t).events (thread_of f t).events ≡ Some z) here next) in
    let result : is_result kind v ≡ true = subst (λ z. is_result z v ≡ true) same
    (slice_get_satisfies (IsEvent r.profile r.objects) (recorded_thread r t).events (thread_of f t).events (Answer j v) fits.events_fit next) in
    can_follow_as_asked r f t v (Env kind) is (record {
      can = result;
      steps = steps;
      logs = ap (λ z. machine.Answer kind v ∷ unlogged (machine.Answer kind v) z) es ∙ sym es;
      ends = tt;
    })

-- ---- entries

open_entry_admitted : (f : Flat) (t v o : ℕ) (a : Access) (e : Event) (es rest : List Label) → es ≡ label_of e ∷ rest → SuitsEvent (Enter o a) e
    → IsOpen (cell_of f o) e → (Admitted a (cell_of f o).fields)
    × (logged (label_of_step f (Enter o a) v) (unlogged (label_of_step f (Enter o a) v) es) ≡ es)
open_entry_admitted f t v o a (Answer k w) es rest is suits h = absurd h
open_entry_admitted f t v o a (Refused p) es rest is suits h = absurd h
open_entry_admitted f t v o a (Read p w) es rest is suits h =
    let asked = entry_asked o a (Read p w) suits in
    let object : ◌≡◌ {A = ℕ} o p = sym (let e : ◌≡◌ {A = ℕ} p o = cc asked in e) in
    let access : ◌≡◌ {A = Access} Reading a = cc asked in
    subst (λ z. (Admitted z (cell_of f o).fields) × (logged (label_of_step f (Enter o z) v) (unlogged (label_of_step f (Enter o z) v) es) ≡ es)) access (
      h.1,
      ap (λ z. machine.EnteredAt o Reading (cell_of f o).fields.version 0 ∷ unlogged (machine.EnteredAt o Reading (cell_of f o).fields.version 0) z) is
          ∙ (λ i. machine.EnteredAt (object i) Reading (h.0 i) 0 ∷ rest) ∙ sym is,
    )
open_entry_admitted f t v o a (Write p w l) es rest is suits h =
    let asked = entry_asked o a (Write p w l) suits in
    let object : ◌≡◌ {A = ℕ} o p = sym (let e : ◌≡◌ {A = ℕ} p o = cc asked in e) in
    let access : ◌≡◌ {A = Access} Writing a = cc asked in
    subst (λ z. (Admitted z (cell_of f o).fields) × (logged (label_of_step f (Enter o z) v) (unlogged (label_of_step f (Enter o z) v) es) ≡ es)) access (
      h.2,
      ap (λ z. machine.EnteredAt o Writing (cell_of f o).fields.version (cell_of f o).fields.left
          ∷ unlogged (machine.EnteredAt o Writing (cell_of f o).fields.version (cell_of f o).fields.left) z) is
          ∙ (λ i. machine.EnteredAt (object i) Writing (h.0 i) (h.1 i) ∷ rest) ∙ sym is,
    )

admitted_entry_is_open : (f : Flat) (t v o : ℕ) (a : Access) (e : Event) (es rest : List Label) → es ≡ label_of e ∷ rest → SuitsEvent (Enter o a) e
    → Admitted a (cell_of f o).fields → logged (label_of_step f (Enter o a) v) (unlogged (label_of_step f (Enter o a) v) es) ≡ es → IsOpen (cell_of f o) e
admitted_entry_is_open f t v o a (Answer k w) es rest is suits can h = let asked = entry_asked o a (Answer k w) suits in absurd (cc asked)
admitted_entry_is_open f t v o a (Refused p) es rest is suits can h = let asked = entry_asked o a (Refused p) suits in absurd (cc asked)
admitted_entry_is_open f t v o a (Read p w) es rest is suits can h =
    let asked = entry_asked o a (Read p w) suits in
    let access : ◌≡◌ {A = Access} a Reading = sym (let e : ◌≡◌ {A = Access} Reading a = cc asked in e) in
    let emits_read : machine.EnteredAt o Reading (cell_of f o).fields.version 0
    ∷ unlogged (machine.EnteredAt o Reading (cell_of f o).fields.version 0) es ≡ es =
    subst (λ z. logged (label_of_step f (Enter o z) v) (unlogged (label_of_step f (Enter o z) v) es) ≡ es) access h in
    let both = emits_read ∙ is in
    ((let e : ◌≡◌ {A = ℕ} (cell_of f o).fields.version w = cc both in e), subst (λ z. Admitted z (cell_of f o).fields) access can)
admitted_entry_is_open f t v o a (Write p w l) es rest is suits can h =
    let asked = entry_asked o a (Write p w l) suits in
    let access : ◌≡◌ {A = Access} a Writing = sym (let e : ◌≡◌ {A = Access} Writing a = cc asked in e) in
    let emits_write : machine.EnteredAt o Writing (cell_of f o).fields.version (cell_of f o).fields.left
    ∷ unlogged (machine.EnteredAt o Writing (cell_of f o).fields.version (cell_of f o).fields.left) es ≡ es =
    subst (λ z. logged (label_of_step f (Enter o z) v) (unlogged (label_of_step f (Enter o z) v) es) ≡ es) access h in
    let both = emits_write ∙ is in (
      (let e : ◌≡◌ {A = ℕ} (cell_of f o).fields.version w = cc both in e),
      (let e : ◌≡◌ {A = ℕ} (cell_of f o).fields.left l = cc both in e),
      subst (λ z. Admitted z (cell_of f o).fields) access can,
    )

-- what the test of an object says
pub true_test_cell_open : (b : Bool) (found c : Cell) (e : Event) → found ≡ c → IsTrue b ↔ IsOpen found e → b ≡ true → IsOpen c e
true_test_cell_open b found c e same test is = subst (λ z. IsOpen z e) same (test.0 is)

pub false_test_cell_shut : (b : Bool) (found c : Cell) (e : Event) → found ≡ c → IsTrue b ↔ IsOpen found e → b ≡ false → IsOpen c e → ⊥
false_test_cell_shut b found c e same test is h = refuted_by_false_test b (IsOpen found e) test is (subst (λ z. IsOpen z e) (sym same) h)

pub open_entry_can_follow : (r : Recorded) (f : Flat) (t o : ℕ) (a : Access) (e : Event) → IsFlat f → t < length f.threads
    → ask_of f.code (thread_of f t) ≡ Enter o a → 0 < steps_ahead r f t
    → slice_get (recorded_thread r t).events (thread_of f t).events ≡ Some e → SuitsEvent (Enter o a) e → IsOpen (cell_of f o) e
    → CanFollow r f t 0
open_entry_can_follow r f t o a e flat l is steps next suits opens =
    let es = drop_mapped_labels (recorded_thread r t).events (thread_of f t).events e next in
    let both = open_entry_admitted f t 0 o a e (log_ahead r f t) (drop (suc (thread_of f t).events) (map label_of (recorded_thread r t).events)) es
    suits opens in
    can_follow_as_asked r f t 0 (Enter o a) is (record {
      can = (may_step_iff_admits f t 0 (Enter o a) flat l (subst (Permits (thread_of f t)) is (ask_of_permitted f.code (thread_of f t)))).0 both.0;
      steps = steps;
      logs = both.1;
      ends = tt;
    })

pub shut_entry_is_stopped : (r : Recorded) (f : Flat) (t o : ℕ) (a : Access) (e : Event) → IsFlat f → t < length f.threads
    → ask_of f.code (thread_of f t) ≡ Enter o a
    → slice_get (recorded_thread r t).events (thread_of f t).events ≡ Some e → SuitsEvent (Enter o a) e → (IsOpen (cell_of f o) e → ⊥)
    → IsStoppedAhead r f t
shut_entry_is_stopped r f t o a e flat l is next suits shut v h =
    let k : FollowsAs r f t v (steps_ahead r f t) (log_ahead r f t) (Enter o a) = follows_as_asked r f t v (Enter o a) is h in
    shut (admitted_entry_is_open f t v o a e (log_ahead r f t) (drop (suc (thread_of f t).events) (map label_of (recorded_thread r t).events))
    (drop_mapped_labels (recorded_thread r t).events (thread_of f t).events e next) suits
    ((may_step_iff_admits f t v (Enter o a) flat l (subst (Permits (thread_of f t)) is (ask_of_permitted f.code (thread_of f t)))).1 k.can) k.logs)

pub suited_entry_agrees : (r : Recorded) (f : Flat) (t o : ℕ) (a : Access) (e : Event) → ask_of f.code (thread_of f t) ≡ Enter o a
    → 0 < steps_ahead r f t
    → slice_get (recorded_thread r t).events (thread_of f t).events ≡ Some e → SuitsEvent (Enter o a) e → AgreesAhead r f t
suited_entry_agrees r f t o a e is steps next suits = agrees_ahead_as_asked r f t (Enter o a) is (record {
  steps = steps;
  suits = subst (verdicts.Suits (machine.Enter o a)) (sym (drop_mapped_labels (recorded_thread r t).events (thread_of f t).events e next))
      (label_suits_entry e _ o a suits);
  ends = tt;
})

-- ---- tries

-- an entry for writing, for a try
try_event_suits_entry : (o p w l : ℕ) → SuitsEvent (Try o) (Write p w l) → SuitsEvent (Enter o Writing) (Write p w l)
try_event_suits_entry o p w l (inl h) = absurd (cc h)
try_event_suits_entry o p w l (inr h) = let same : ◌≡◌ {A = ℕ} p o = cc h in inl (λ i. Enter (same i) Writing)

pub refused_try_can_follow : (r : Recorded) (f : Flat) (t o p : ℕ) → ask_of f.code (thread_of f t) ≡ Try o → 0 < steps_ahead r f t
    → slice_get (recorded_thread r t).events (thread_of f t).events ≡ Some (Refused p) → SuitsEvent (Try o) (Refused p) → CanFollow r f t 0
refused_try_can_follow r f t o p is steps next suits =
    let rest = drop (suc (thread_of f t).events) (map label_of (recorded_thread r t).events) in
    let same : ◌≡◌ {A = ℕ} p o = label_suits_try (Refused p) rest o suits in
    let es : log_ahead r f t ≡ machine.FailedTry o ∷ rest =
    drop_mapped_labels (recorded_thread r t).events (thread_of f t).events (Refused p) next ∙ ap (λ z. machine.FailedTry z ∷ rest) same in
    can_follow_as_asked r f t 0 (Try o) is (record {
      can = tt;
      steps = steps;
      logs = ap (λ z. machine.FailedTry o ∷ unlogged (machine.FailedTry o) z) es ∙ sym es;
      ends = tt;
    })

pub open_try_can_follow : (r : Recorded) (f : Flat) (t o : ℕ) (e : Event) → IsFlat f → t < length f.threads
    → ask_of f.code (thread_of f t) ≡ Try o → 0 < steps_ahead r f t
    → slice_get (recorded_thread r t).events (thread_of f t).events ≡ Some e → SuitsEvent (Try o) e → IsOpen (cell_of f o) e → CanFollow r f t 1
open_try_can_follow r f t o (Answer j v) flat l is steps next suits opens = absurd opens
open_try_can_follow r f t o (Read p w) flat l is steps next suits opens = absurd (suits_read suits)
  where
    suits_read : SuitsEvent (Try o) (Read p w) → ⊥
    suits_read (inl h) = cc h
    suits_read (inr h) = cc h
open_try_can_follow r f t o (Refused p) flat l is steps next suits opens = absurd opens
open_try_can_follow r f t o (Write p w n) flat l is steps next suits opens =
    let es = drop_mapped_labels (recorded_thread r t).events (thread_of f t).events (Write p w n) next in
    let both = open_entry_admitted f t 0 o Writing (Write p w n) (log_ahead r f t)
    (drop (suc (thread_of f t).events) (map label_of (recorded_thread r t).events)) es (try_event_suits_entry o p w n suits) opens in
    can_follow_as_asked r f t 1 (Try o) is (record {
      can = (may_step_iff_admits f t 1 (Try o) flat l (subst (Permits (thread_of f t)) is (ask_of_permitted f.code (thread_of f t)))).0 both.0;
      steps = steps;
      logs = both.1;
      ends = tt;
    })

-- where a try that the log says got in can't get in now, no other result follows either
shut_try_not_follows : (r : Recorded) (f : Flat) (t o p w n v : ℕ) → IsFlat f → t < length f.threads → ask_of f.code (thread_of f t) ≡ Try o
    → slice_get (recorded_thread r t).events (thread_of f t).events ≡ Some (Write p w n) → SuitsEvent (Try o) (Write p w n)
    → (IsOpen (cell_of f o) (Write p w n) → ⊥) → FollowsAs r f t v (steps_ahead r f t) (log_ahead r f t) (Try o) → ⊥
shut_try_not_follows r f t o p w n zero flat l is next suits shut k =
    let both = k.logs ∙ drop_mapped_labels (recorded_thread r t).events (thread_of f t).events (Write p w n) next in cc both
shut_try_not_follows r f t o p w n (suc zero) flat l is next suits shut k =
    shut (admitted_entry_is_open f t 0 o Writing (Write p w n) (log_ahead r f t)
    (drop (suc (thread_of f t).events) (map label_of (recorded_thread r t).events))
    (drop_mapped_labels (recorded_thread r t).events (thread_of f t).events (Write p w n) next) (try_event_suits_entry o p w n suits)
    ((may_step_iff_admits f t 1 (Try o) flat l (subst (Permits (thread_of f t)) is (ask_of_permitted f.code (thread_of f t)))).1 k.can) k.logs)
shut_try_not_follows r f t o p w n (suc (suc v)) flat l is next suits shut k = k.can

-- a try that the log says got in
abbrev pub GotIn : Event → Type 0
GotIn (Answer kind value) = ⊥
GotIn (Read object version) = ⊥
GotIn (Write object version readers) = Unit {0}
GotIn (Refused object) = ⊥

-- what suits a try and isn't refused got in
pub try_not_refused_got_in : (o : ℕ) (e : Event) → SuitsEvent (Try o) e → ((p : ℕ) → e ≢ Refused p) → GotIn e
try_not_refused_got_in o (Answer j v) suits other = absurd (label_suits_try (Answer j v) [] o suits)
try_not_refused_got_in o (Read p w) suits other = absurd (let is : ◌≡◌ {A = Access} Reading Writing = (label_suits_try (Read p w) [] o suits).1 in cc is)
try_not_refused_got_in o (Write p w n) suits other = tt
try_not_refused_got_in o (Refused p) suits other = absurd (other p refl)

pub shut_try_is_stopped : (r : Recorded) (f : Flat) (t o : ℕ) (e : Event) → IsFlat f → t < length f.threads
    → ask_of f.code (thread_of f t) ≡ Try o
    → slice_get (recorded_thread r t).events (thread_of f t).events ≡ Some e → SuitsEvent (Try o) e → GotIn e → (IsOpen (cell_of f o) e → ⊥)
    → IsStoppedAhead r f t
shut_try_is_stopped r f t o (Answer j v) flat l is next suits in_ shut u h = in_
shut_try_is_stopped r f t o (Read p w) flat l is next suits in_ shut u h = in_
shut_try_is_stopped r f t o (Refused p) flat l is next suits in_ shut u h = in_
shut_try_is_stopped r f t o (Write p w n) flat l is next suits in_ shut u h = shut_try_not_follows r f t o p w n u flat l is next suits shut
    (follows_as_asked r f t u (Try o) is h)

pub try_that_got_in_awaits : (r : Recorded) (f : Flat) (t o : ℕ) (e : Event) → ask_of f.code (thread_of f t) ≡ Try o
    → slice_get (recorded_thread r t).events (thread_of f t).events ≡ Some e → GotIn e
    → verdicts.Awaits (shared_ask (ask_of f.code (thread_of f t))) (log_ahead r f t)
try_that_got_in_awaits r f t o (Answer j v) is next in_ = absurd in_
try_that_got_in_awaits r f t o (Read p w) is next in_ = absurd in_
try_that_got_in_awaits r f t o (Refused p) is next in_ = absurd in_
try_that_got_in_awaits r f t o (Write p w n) is next in_ =
    subst (λ q. verdicts.Awaits (shared_ask q) (log_ahead r f t)) (sym is)
    (subst (verdicts.Awaits (machine.Try o)) (sym (drop_mapped_labels (recorded_thread r t).events (thread_of f t).events (Write p w n) next)) tt)

pub entry_awaits_event : (r : Recorded) (f : Flat) (t o : ℕ) (a : Access) → ask_of f.code (thread_of f t) ≡ Enter o a
    → verdicts.Awaits (shared_ask (ask_of f.code (thread_of f t))) (log_ahead r f t)
entry_awaits_event r f t o a is = subst (λ q. verdicts.Awaits (shared_ask q) (log_ahead r f t)) (sym is) tt

pub suited_try_agrees : (r : Recorded) (f : Flat) (t o : ℕ) (e : Event) → ask_of f.code (thread_of f t) ≡ Try o → 0 < steps_ahead r f t
    → slice_get (recorded_thread r t).events (thread_of f t).events ≡ Some e → SuitsEvent (Try o) e → AgreesAhead r f t
suited_try_agrees r f t o e is steps next suits = agrees_ahead_as_asked r f t (Try o) is (record {
  steps = steps;
  suits = subst (verdicts.Suits (machine.Try o)) (sym (drop_mapped_labels (recorded_thread r t).events (thread_of f t).events e next))
      (label_suits_try e _ o suits);
  ends = tt;
})

-- who awaits an entry isn't done
pub awaiting_is_not_done : (q : Ask) (es : List Label) → verdicts.Awaits (shared_ask q) es → q ≢ Done
awaiting_is_not_done q es awaits done = no_wait es (subst (λ z. verdicts.Awaits (shared_ask z) es) done awaits)
  where
    no_wait : (es : List Label) → verdicts.Awaits machine.Done es → ⊥
    no_wait [] h = h
    no_wait (e ∷ es) h = h

-- ---- disagreements

pub ask_of_try_is_not_done : (q : Ask) (o : ℕ) → q ≡ Try o → q ≢ Done
ask_of_try_is_not_done q o is done = cc (is, done)

pub call_ask_is_not_done : (q : Ask) (kind : EnvKind) → q ≡ Env kind → q ≢ Done
call_ask_is_not_done q kind is done = cc (is, done)

pub entry_ask_is_not_done : (q : Ask) (o : ℕ) (a : Access) → q ≡ Enter o a → q ≢ Done
entry_ask_is_not_done q o a is done = cc (is, done)

pub ask_of_end_is_not_done : (q : Ask) (e : end.End) → q ≡ End e → q ≢ Done
ask_of_end_is_not_done q e is done = cc (is, done)

pub unsuited_call_disagrees : (r : Recorded) (f : Flat) (t : ℕ) (kind : EnvKind) → ask_of f.code (thread_of f t) ≡ Env kind
    → ((e : Event) → slice_get (recorded_thread r t).events (thread_of f t).events ≡ Some e → SuitsEvent (Env kind) e → ⊥) → AgreesAhead r f t
    → ⊥
unsuited_call_disagrees r f t kind is none h =
    let k : AgreesAs r f t (steps_ahead r f t) (log_ahead r f t) (Env kind) = agrees_as_asked r f t (Env kind) is h in
    let e = suited_call_has_event (recorded_thread r t).events (thread_of f t).events kind k.suits in
    none e.0 e.1 e.2

pub unsuited_entry_differs : (r : Recorded) (f : Flat) (t o : ℕ) (a : Access) → ask_of f.code (thread_of f t) ≡ Enter o a
    → ((e : Event) → slice_get (recorded_thread r t).events (thread_of f t).events ≡ Some e → SuitsEvent (Enter o a) e → ⊥) → AgreesAhead r f t
    → ⊥
unsuited_entry_differs r f t o a is none h =
    let k : AgreesAs r f t (steps_ahead r f t) (log_ahead r f t) (Enter o a) = agrees_as_asked r f t (Enter o a) is h in
    let e = suited_entry_has_event (recorded_thread r t).events (thread_of f t).events o a k.suits in
    none e.0 e.1 e.2

pub unsuited_try_disagrees : (r : Recorded) (f : Flat) (t o : ℕ) → ask_of f.code (thread_of f t) ≡ Try o
    → ((e : Event) → slice_get (recorded_thread r t).events (thread_of f t).events ≡ Some e → SuitsEvent (Try o) e → ⊥) → AgreesAhead r f t → ⊥
unsuited_try_disagrees r f t o is none h =
    let k : AgreesAs r f t (steps_ahead r f t) (log_ahead r f t) (Try o) = agrees_as_asked r f t (Try o) is h in
    let e = suited_try_has_event (recorded_thread r t).events (thread_of f t).events o k.suits in
    none e.0 e.1 e.2

pub spent_thread_disagrees : (r : Recorded) (f : Flat) (t : ℕ) → steps_ahead r f t ≡ 0 → AgreesAhead r f t → ⊥
spent_thread_disagrees r f t none h = let some : 0 < steps_ahead r f t = h.0 in omega (arith, none, some)

-- ---- ends

drop_labels_past_length : (xs : List Event) (i : ℕ) → length xs ≤ i → ◌≡◌ {A = List Label} (drop i (map label_of xs)) []
drop_labels_past_length [] zero h = refl
drop_labels_past_length [] (suc i) h = refl
drop_labels_past_length (x ∷ xs) zero h = absurd (omega (arith, h))
drop_labels_past_length (x ∷ xs) (suc i) h = drop_labels_past_length xs i (omega (arith, h))

empty_drop_past_length : (xs : List Event) (i : ℕ) → ◌≡◌ {A = List Label} (drop i (map label_of xs)) [] → length xs ≤ i
empty_drop_past_length [] i h = omega arith
empty_drop_past_length (x ∷ xs) zero h = absurd (cc h)
empty_drop_past_length (x ∷ xs) (suc i) h = let rest : length xs ≤ i = empty_drop_past_length xs i h in omega (arith, rest)

pub recorded_end_can_follow : (r : Recorded) (f : Flat) (t : ℕ) (e : end.End) → ask_of f.code (thread_of f t) ≡ End e → 0 < steps_ahead r f t
    → EndsSo r f t e → CanFollow r f t 0
recorded_end_can_follow r f t e is steps so = can_follow_as_asked r f t 0 (End e) is (record {
  can = tt;
  steps = steps;
  logs = refl;
  ends = ((λ i. Some (so.number i, so.code i)), so.steps, drop_labels_past_length (recorded_thread r t).events (thread_of f t).events so.events);
})

pub other_end_disagrees : (r : Recorded) (f : Flat) (t : ℕ) (e : end.End) → ask_of f.code (thread_of f t) ≡ End e → (EndsSo r f t e → ⊥)
    → AgreesAhead r f t → ⊥
other_end_disagrees r f t e is other h =
    let k : AgreesAs r f t (steps_ahead r f t) (log_ahead r f t) (End e) = agrees_as_asked r f t (End e) is h in
    let pair = some_pair k.ends.0 in
    other (record {
      number = ap (λ z. z.0) pair;
      code = ap (λ z. z.1) pair;
      steps = k.ends.1;
      events = empty_drop_past_length (recorded_thread r t).events (thread_of f t).events k.ends.2;
    })
  where
    some_pair : {x y : ℕ × ℕ} → ◌≡◌ {A = Option (ℕ × ℕ)} (Some x) (Some y) → x ≡ y
    some_pair h = cc h

-- ---- steps that are the thread's own

own_ask_follows : (r : Recorded) (f : Flat) (t n : ℕ) (es : List Label) (q : Ask) → IsOwn q → 0 < n → FollowsAs r f t 0 n es q
own_ask_follows r f t n es Private k steps = record { can = tt; steps = steps; logs = refl; ends = tt }
own_ask_follows r f t n es (Env kind) k steps = absurd k
own_ask_follows r f t n es (Enter o a) k steps = absurd k
own_ask_follows r f t n es (Try o) k steps = absurd k
own_ask_follows r f t n es (Leave o a) k steps = record { can = tt; steps = steps; logs = refl; ends = tt }
own_ask_follows r f t n es (Get o i) k steps = record { can = tt; steps = steps; logs = refl; ends = tt }
own_ask_follows r f t n es (Put o i w) k steps = record { can = tt; steps = steps; logs = refl; ends = tt }
own_ask_follows r f t n es Print k steps = record { can = tt; steps = steps; logs = refl; ends = tt }
own_ask_follows r f t n es (End e) k steps = absurd k
own_ask_follows r f t n es Done k steps = absurd k

pub own_ask_can_follow : (r : Recorded) (f : Flat) (t : ℕ) → IsOwn (ask_of f.code (thread_of f t)) → 0 < steps_ahead r f t → CanFollow r f t 0
own_ask_can_follow r f t own steps = can_follow_as_asked r f t 0 (ask_of f.code (thread_of f t))
    refl (own_ask_follows r f t (steps_ahead r f t) (log_ahead r f t) (ask_of f.code (thread_of f t)) own steps)

-- ---- threads that are stopped

-- what is seen of a thread that is stopped, and neither done nor waiting
pub stopped_otherwise_differs : (r : Recorded) (f : Flat) (t : ℕ) (l : Look) → IsSeen r f t l → IsStoppedAhead r f t → (l ≡ look.Disagrees)
    ⊎ ((m : Move) × (l ≡ look.Goes m)) → (ask_of f.code (thread_of f t) ≢ Done) × (AgreesAhead r f t → ⊥)
stopped_otherwise_differs r f t l seen stopped (inl e) = subst (IsSeen r f t) e seen
stopped_otherwise_differs r f t l seen stopped (inr g) =
    let goes = subst (IsSeen r f t) g.1 seen in
    absurd (stopped g.0.result (subst (λ u. CanFollow r f u g.0.result) goes.0 goes.1.follows))

asked_suits_next_log : (f : Flat) (v : ℕ) (es : List Label) (q : Ask)
    → Admits (machine f) (act_of (shared_ask q) v) ((tables f).objects (target (act_of (shared_ask q) v)))
    → logged (label_of_step f q v) (unlogged (label_of_step f q v) es) ≡ es → verdicts.Suits (shared_ask q) es
asked_suits_next_log f v es Private can h = tt
asked_suits_next_log f v es (Env kind) can h = subst (verdicts.Suits (machine.Env kind)) h refl
asked_suits_next_log f v es (Enter o Reading) can h = subst (verdicts.Suits (machine.Enter o Reading)) h (refl, refl)
asked_suits_next_log f v es (Enter o Writing) can h = subst (verdicts.Suits (machine.Enter o Writing)) h (refl, refl)
asked_suits_next_log f zero es (Try o) can h = subst (verdicts.Suits (machine.Try o)) h refl
asked_suits_next_log f (suc zero) es (Try o) can h = subst (verdicts.Suits (machine.Try o)) h (refl, refl)
asked_suits_next_log f (suc (suc v)) es (Try o) can h = absurd can
asked_suits_next_log f v es (Leave o a) can h = tt
asked_suits_next_log f v es (Get o i) can h = tt
asked_suits_next_log f v es (Put o i w) can h = tt
asked_suits_next_log f v es Print can h = tt
asked_suits_next_log f v es (End e) can h = tt
asked_suits_next_log f v es Done can h = tt

-- what follows agrees
following_step_agrees : (r : Recorded) (f : Flat) (t v : ℕ) → CanFollow r f t v → AgreesAhead r f t
following_step_agrees r f t v h = (h.1, asked_suits_next_log f v (log_ahead r f t) (ask_of f.code (thread_of f t)) h.0 h.2, h.3)

pub done_thread_is_stopped : (r : Recorded) (f : Flat) (t : ℕ) → ask_of f.code (thread_of f t) ≡ Done → IsStoppedAhead r f t
done_thread_is_stopped r f t is v h = (follows_as_asked r f t v Done is h).can

pub without_move_is_stopped : (r : Recorded) (f : Flat) (t : ℕ) (l : Look) → IsSeen r f t l → ((m : Move) → l ≢ look.Goes m) → IsStoppedAhead r f t
without_move_is_stopped r f t look.Done seen no_move = done_thread_is_stopped r f t seen
without_move_is_stopped r f t look.Disagrees seen no_move = λ v h. seen.1 (following_step_agrees r f t v h)
without_move_is_stopped r f t (look.Waits o) seen no_move = seen.2
without_move_is_stopped r f t (look.Goes m) seen no_move = absurd (no_move m refl)

-- ---- events and the log

-- an event that suits is in the log
pub agreeing_has_next_event : (r : Recorded) (f : Flat) (t : ℕ) (q : Ask) → ask_of f.code (thread_of f t) ≡ q → AgreesAhead r f t → events_added_by q ≡ 1
    → (thread_of f t).events < length (recorded_thread r t).events
agreeing_has_next_event r f t (Env kind) is h one = let e =
    suited_call_has_event (recorded_thread r t).events (thread_of f t).events kind (agrees_as_asked r f t (Env kind) is h).suits in
    slice_get_within (recorded_thread r t).events (thread_of f t).events e.0 e.1
agreeing_has_next_event r f t (Enter o a) is h one = let e =
    suited_entry_has_event (recorded_thread r t).events (thread_of f t).events o a (agrees_as_asked r f t (Enter o a) is h).suits in
    slice_get_within (recorded_thread r t).events (thread_of f t).events e.0 e.1
agreeing_has_next_event r f t (Try o) is h one = let e =
    suited_try_has_event (recorded_thread r t).events (thread_of f t).events o (agrees_as_asked r f t (Try o) is h).suits in
    slice_get_within (recorded_thread r t).events (thread_of f t).events e.0 e.1
agreeing_has_next_event r f t Private is h one = absurd (cc one)
agreeing_has_next_event r f t (Leave o a) is h one = absurd (cc one)
agreeing_has_next_event r f t (Get o i) is h one = absurd (cc one)
agreeing_has_next_event r f t (Put o i w) is h one = absurd (cc one)
agreeing_has_next_event r f t Print is h one = absurd (cc one)
agreeing_has_next_event r f t (End e) is h one = absurd (cc one)
agreeing_has_next_event r f t Done is h one = absurd (cc one)

events_within_after_ask : (code : List ℕ) (x : thread.ThreadState) (q : Ask) (reply : Reply) (n : ℕ) → (events_added_by q ≡ 1 → x.events < n) → x.events ≤ n
    → (after_ask code x q reply).events ≤ n
events_within_after_ask code x Private reply n less le = le
events_within_after_ask code x (Env kind) reply n less le = let l = less refl in omega (arith, l)
events_within_after_ask code x (Enter o a) reply n less le = let l = less refl in omega (arith, l)
events_within_after_ask code x (Try o) reply n less le = let l = less refl in omega (arith, l)
events_within_after_ask code x (Leave o a) reply n less le = le
events_within_after_ask code x (Get o i) reply n less le = le
events_within_after_ask code x (Put o i w) reply n less le = le
events_within_after_ask code x Print reply n less le = le
events_within_after_ask code x (End e) reply n less le = le
events_within_after_ask code x Done reply n less le = le

pub followed_events_within : (r : Recorded) (f : Flat) (t v : ℕ) (reply : Reply) → CanFollow r f t v
    → (thread_of f t).events ≤ length (recorded_thread r t).events
    → (after_ask f.code (thread_of f t) (ask_of f.code (thread_of f t)) reply).events ≤ length (recorded_thread r t).events
followed_events_within r f t v reply h le = events_within_after_ask f.code (thread_of f t) (ask_of f.code (thread_of f t)) reply
    (length (recorded_thread r t).events) (agreeing_has_next_event r f t (ask_of f.code (thread_of f t)) refl (following_step_agrees r f t v h)) le
