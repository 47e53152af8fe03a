-- A worker still works after each step of its thread.
use Rattle.ir_thread.specs.declared.profile.Profile.{Profile}
use Rattle.std.proofs.Common.{◌≡◌, ◌≢◌, ℕ, zero, suc, ◌+◌, ◌<◌, ◌≤◌, Bool, true, false, eqb, List, [], ◌∷◌, ◌++◌, map, length, Option, Some}
use Rattle.std.proofs.Common.{None, refl, sym, ap, ◌∙◌, subst, arith, append-nil, append_assoc, length-append, eq-eqb, ne_eqb}
use Rattle.std.proofs.lemmas.List.{length-map}
use Rattle.std.specs.List.{AllByRecursion}
use Rattle.ir_lemmas.proofs.CallerLemmas.{all_of_append}
use Rattle.atomic_table.specs.Seated.{TableId}
use Rattle.ir_image.specs.Guest.{Guest, object_count, most_object_words}
use Rattle.ir_thread.specs.Permitted.{run_of, step_of, Permits}
use Rattle.ir_thread.specs.State.{held_at, ask_of, after_ask, after_reply, most_events, shared_ask, reply_of, thread_machine}
use Rattle.ir_runs.specs.Machine as machine
use Rattle.ir_runs.specs.Lawful as lawful
use Rattle.ir_runs.specs.Machine.{Act, act_of, Machine, Label, logged}
use Rattle.ir_runs.specs.Run.{join_if}
use Rattle.ir_runs.specs.Shared.{is_shared}
use Rattle.ir_runs.specs.Lawful.{held_after}
use Rattle.ir_thread.specs.Private.{PrivateSteps}
use Rattle.ir_thread.specs.State as thread
use Rattle.ir_runs.specs.declared.access.Access.{Access}
use Rattle.ir_runs.specs.declared.access.Access.TheVariants.{Writing}
use Rattle.ir_thread.specs.declared.ask.Ask.{Ask}
use Rattle.ir_thread.specs.declared.ask.Ask.TheVariants as ask
use Rattle.ir_runs.specs.declared.env_kind.EnvKind.{EnvKind}
use Rattle.ir_thread.specs.declared.ask.Reply.{Reply}
use Rattle.ir_thread.specs.declared.ask.Reply.TheVariants.{Go}
use Rattle.ir_thread.specs.declared.profile.Profile.TheVariants.{Two}
use Rattle.ir_thread.proofs.CallerLemmas.{ask_of_permitted, thread_machine_lawful}
use Rattle.ir_object.specs.Order.{Shared, inside_if, inside_after}
use Rattle.ir_object.proofs.CallerLemmas.{inside_after_step}
use Rattle.ir_flat.specs.Flat.{MayReply}
use Rattle.ir_flat.specs.Trails.{alone_label}
use Rattle.ir_flat.proofs.CallerLemmas.{events_added_by, events_after_ask, length-held_after_ask}
use Rattle.ir_log.specs.Logged.{Logged}
use Rattle.ir_log.specs.Logging as logging
use Rattle.ir_log.specs.declared.event.Event.{Event}
use Rattle.ir_log.specs.declared.event.Event.TheVariants as event
use Rattle.ir_trace.specs.Bounds.{IsEvent}
use Rattle.ir_crew.specs.Plays.{M, IsAlone, history, did, inside_by}
use Rattle.ir_crew.specs.Rule.{shared_by, shared_of, label_by_rule, one_if_entry, entries}
use Rattle.ir_crew.specs.declared.deed.Deed.{Deed}
use Rattle.ir_crew.specs.declared.deed.Deed.TheVariants.{Leave}
use Rattle.ir_crew.specs.declared.deed.ObjectStep.{ObjectStep}
use Rattle.ir_crew.proofs.CallerLemmas.{entries_with_step_added, track, step_of_deed, target_of_deed}
use Rattle.ir_record.specs.Progress.{steps_left_within}
use Rattle.ir_record.specs.Worlds.{AnsweredCall, answers_in}
use Rattle.ir_record.specs.declared.by_threads.worker.Worker.{Worker}
use Rattle.ir_record.specs.Working.{WorkerWork, IsWorking, StillWorks, TouchesNothing, IsInsideWork, IsSeated, Stays, own_steps_left}
use Rattle.ir_record.proofs.Left.{permitted_lowers_left}
use Rattle.ir_record.proofs.Profiles.{profile_after_ask}
use Rattle.ir_record.proofs.Working.{worked_with_reply_added, own_act_keeps_held, held_after_is_inside_if}
use Rattle.ir_record.proofs.Steps.{answers_in_append}

map_of_append : {A B : Type 0} (f : A → B) (xs ys : List A) → map f (xs ++ ys) ≡ map f xs ++ map f ys
map_of_append f [] ys = refl
map_of_append f (x ∷ xs) ys = ap (λ z. f x ∷ z) (map_of_append f xs ys)

-- how a thread is inside an object after a step, which is an object step if b
inside_after_is_held : (q : Act) (v o : ℕ) (h : ℕ → Option Access) (xs : List Shared) (b : Bool) → is_shared q ≡ b → inside_after o None xs ≡ h o
    → inside_after o None (xs ++ join_if b (q, v) []) ≡ held_after q h o
inside_after_is_held q v o h xs false is e = ap (inside_after o None) (append-nil xs) ∙ e ∙ sym (own_act_keeps_held q h o is)
inside_after_is_held q v o h xs true is e = inside_after_step o None xs (q, v) ∙ ap (inside_if (eqb o (Rattle.ir_runs.specs.Machine.target q)) q) e
    ∙ sym (held_after_is_inside_if q h o is)

entries_grow_by_act : (q : Act) (v : ℕ) (xs : List Shared) (b : Bool) → entries (xs ++ join_if b (q, v) []) ≤ entries xs + one_if_entry q
entries_grow_by_act q v xs false = let e = ap entries (append-nil xs) in omega (arith, e)
entries_grow_by_act q v xs true = let e = entries_with_step_added xs (q, v) in omega (arith, e)

-- only entries that are logged are entries
one_if_entry_le_events : (q : Ask) (v : ℕ) → one_if_entry (act_of (shared_ask q) v) ≤ events_added_by q
one_if_entry_le_events ask.Private v = omega arith
one_if_entry_le_events (ask.Env kind) v = omega arith
one_if_entry_le_events (ask.Enter object access) v = omega arith
one_if_entry_le_events (ask.Try object) zero = omega arith
one_if_entry_le_events (ask.Try object) (suc zero) = omega arith
one_if_entry_le_events (ask.Try object) (suc (suc v)) = omega arith
one_if_entry_le_events (ask.Leave object access) v = omega arith
one_if_entry_le_events (ask.Get object index) v = omega arith
one_if_entry_le_events (ask.Put object index value) v = omega arith
one_if_entry_le_events ask.Print v = omega arith
one_if_entry_le_events (ask.End e) v = omega arith
one_if_entry_le_events ask.Done v = omega arith

-- ---- one step of the thread

-- the object steps, and the labels and the number of the events, are those of what is asked, with this result
abbrev pub AreObjectStepsAndEventsOfAsk : Ask → ℕ → List ObjectStep → List Event → Type 0
AreObjectStepsAndEventsOfAsk q v es evs = ◌≡◌ {A = List Shared × List Label × ℕ} (map shared_of es, map logging.label_of evs, length evs) (
  join_if (is_shared (act_of (shared_ask q) v)) (act_of (shared_ask q) v, v) [],
  logged (alone_label (act_of (shared_ask q) v) (map label_by_rule es)) [],
  events_added_by q,
)

-- it was taken
record IsStep (g : Guest) (w w' : WorkerWork) (q : Ask) (v : ℕ) (es : List ObjectStep) (evs : List Event) : Type 0 where
  asked : ask_of g.code w.thread ≡ q
  may : MayReply (thread_machine g.code) (act_of (shared_ask q) v) v
  of : AreObjectStepsAndEventsOfAsk q v es evs
  fit : AllByRecursion (IsEvent w.thread.profile (object_count g)) evs
  took : w'.thread ≡ after_reply g.code w.thread (reply_of q v)
  log : w'.log ≡ record w.log { events = w.log.events ++ evs }
  answers : w'.answers ≡ w.answers ++ answers_in (map logging.label_of evs)

working_after_step : (g : Guest) (budget : ℕ) (profile : Profile) (t : ℕ) (before : List AnsweredCall) (w w' : WorkerWork) (q : Ask) (v : ℕ)
    (es : List ObjectStep) (evs : List Event) → (i : IsWorking g budget profile t before w) → IsStep g w w' q v es evs
    → w'.me ≡ (track t (i.track ++ es) ∷ [], []) → IsWorking g budget profile t before w'
unfolding after_reply
working_after_step g budget profile t before w w' q v es evs i s view =
    let m : Machine thread.ThreadState = thread_machine g.code in
    let a : Act = act_of (shared_ask q) v in
    let is : act_of (m.ask w.thread) v ≡ a = ap (λ z. act_of (shared_ask z) v) s.asked in
    let next : m.take w.thread v ≡ w'.thread = ap (λ z. after_reply g.code w.thread (reply_of z v)) s.asked ∙ sym s.took in
    let after : w'.thread ≡ after_ask g.code w.thread q (reply_of q v) = s.took
    ∙ ap (λ z. after_ask g.code w.thread z (reply_of q v)) s.asked in
    let even : length (map label_by_rule i.track) ≡ length (map shared_of i.track) = length-map i.track label_by_rule
    ∙ sym (length-map i.track shared_of) in
    let steps : map shared_of (i.track ++ es) ≡ map shared_of i.track ++ join_if (is_shared a) (a, v) [] = map_of_append shared_of i.track es
    ∙ ap (λ (z : List Shared × List Label × ℕ). map shared_of i.track ++ z.0) s.of in
    let more = worked_with_reply_added m (thread.start_state g t budget profile) w.thread (map shared_of i.track) (map label_by_rule i.track)
    (map logging.label_of w.log.events) v (map label_by_rule es) i.worked even (subst (λ z. MayReply m z v) (sym is) s.may) in
    let events : w'.log.events ≡ w.log.events ++ evs = ap (λ z. z.events) s.log in
    let labels : map logging.label_of w'.log.events ≡ map logging.label_of w.log.events ++ map logging.label_of evs =
    ap (map logging.label_of) events ∙ map_of_append logging.label_of w.log.events evs in
    let sum : w'.thread.events ≡ w.thread.events + events_added_by q = ap (λ z. z.events) after ∙ events_after_ask g.code w.thread q (reply_of q v) in
    record {
      track = i.track ++ es;
      view = view;
      worked = record {
        replies = more.replies;
        may = more.may;
        now = more.now ∙ next;
        steps_are = more.steps_are ∙ ap (λ z. map shared_of i.track ++ join_if (is_shared z) (z, v) []) is ∙ sym steps;
        logged = ap (λ z. Rattle.ir_runs.specs.Run.events
            (Rattle.ir_flat.specs.Trails.alone_trail m (thread.start_state g t budget profile) more.replies z))
            (map_of_append label_by_rule i.track es) ∙ more.logged ∙ ap (λ z. map logging.label_of w.log.events ++ logged (alone_label z (map label_by_rule es)) []) is
            ∙ ap (λ (z : List Shared × List Label × ℕ). map logging.label_of w.log.events ++ z.1) (sym s.of) ∙ sym labels;
      };
      held = λ o. ap (inside_after o None) steps
          ∙ inside_after_is_held a v o (held_at w.thread.held) (map shared_of i.track) (is_shared a) refl (i.held o)
          ∙ ap (λ z. held_after z (held_at w.thread.held) o) (sym is) ∙ sym ((thread_machine_lawful g.code).takes w.thread v o)
          ∙ ap (λ z. held_at z.held o) next;
      places = ap (λ z. length z.held) after ∙ length-held_after_ask g.code w.thread q (reply_of q v) ∙ i.places;
      few =
          let here = entries_grow_by_act a v (map shared_of i.track) (is_shared a) in
          let same = ap entries steps in
          let one = one_if_entry_le_events q v in
          let was = i.few in
          omega (arith, here, same, one, was, sum);
      room = ap (λ z. z.room) s.log ∙ i.room;
      count =
          let long : length w'.log.events ≡ length w.log.events + length evs = ap (λ z. length z) events ∙ length-append w.log.events evs in
          let was = i.count in
          let new : length evs ≡ events_added_by q = ap (λ (z : List Shared × List Label × ℕ). z.2) s.of in
          omega (arith, long, was, new, sum);
      profile_is = ap (λ z. z.profile) after ∙ profile_after_ask g.code w.thread q (reply_of q v) ∙ i.profile_is;
      events_fit = subst (AllByRecursion (IsEvent profile (object_count g))) (sym events)
          (all_of_append (IsEvent profile (object_count g)) w.log.events evs i.events_fit
          (subst (λ p. AllByRecursion (IsEvent p (object_count g)) evs) i.profile_is s.fit));
      answered = s.answers ∙ ap (λ z. z ++ answers_in (map logging.label_of evs)) i.answered
          ∙ append_assoc before (answers_in (map logging.label_of w.log.events)) (answers_in (map logging.label_of evs))
          ∙ ap (λ z. before ++ z) (sym (answers_in_append (map logging.label_of w.log.events) (map logging.label_of evs))
          ∙ ap answers_in (sym labels));
    }

-- ---- the kinds of steps

-- none or one
abbrev pub list_of_option : {A : Type 0} → Option A → List A
list_of_option None = []
list_of_option (Some x) = x ∷ []

-- what the object step, if it is one, makes of the seat's view
abbrev pub me_after_object_step : Option ObjectStep → M → M
me_after_object_step None me = me
me_after_object_step (Some step) me = (did me.0 step.object step.deed, me.1)

object_step_track : (t : ℕ) (step : Option ObjectStep) (steps : List ObjectStep) (me : M) → me ≡ (track t steps ∷ [], [])
    → me_after_object_step step me ≡ (track t (steps ++ list_of_option step) ∷ [], [])
object_step_track t None steps me is = is ∙ (λ i. (track t (sym (append-nil steps) i) ∷ [], []))
object_step_track t (Some step) steps me is = ap (λ (z : M). (did z.0 step.object step.deed, z.1)) is

-- what the event, if there is one, makes of the log
abbrev pub log_after_event : Option Event → Logged → Logged
log_after_event None log = log
log_after_event (Some e) log = record log { events = log.events ++ e ∷ [] }

log_after_event_push : (e : Option Event) (log : Logged) → log_after_event e log ≡ record log { events = log.events ++ list_of_option e }
log_after_event_push None log = λ i. record log { events = sym (append-nil log.events) i }
log_after_event_push (Some e) log = refl

-- and of the world's answers
abbrev pub answers_after_event : Option Event → List AnsweredCall → List AnsweredCall
answers_after_event (Some (event.Answer kind value)) answers = answers ++ (kind, value) ∷ []
answers_after_event e answers = answers

answers_after_event_add : (e : Option Event) (answers : List AnsweredCall) → answers_after_event e answers ≡ answers ++ answers_in (map logging.label_of (list_of_option e))
answers_after_event_add None answers = sym (append-nil answers)
answers_after_event_add (Some (event.Answer kind value)) answers = refl
answers_after_event_add (Some (event.Read o version)) answers = sym (append-nil answers)
answers_after_event_add (Some (event.Write o version left)) answers = sym (append-nil answers)
answers_after_event_add (Some (event.Try o)) answers = sym (append-nil answers)

-- a step of a thread with this code: what it asks, its result, its object step and its event, which fits
pub still_works_after_step : {g : Guest} {w w' : WorkerWork} {code : List ℕ} → code ≡ g.code → (q : Ask) (v : ℕ) (step : Option ObjectStep) (e : Option Event)
    → MayReply (thread_machine g.code) (act_of (shared_ask q) v) v → AreObjectStepsAndEventsOfAsk q v (list_of_option step) (list_of_option e)
    → AllByRecursion (IsEvent w.thread.profile (object_count g)) (list_of_option e) → ask_of code w.thread ≡ q → w'.me ≡ me_after_object_step step w.me
    → w'.thread ≡ after_reply code w.thread (reply_of q v) → w'.log ≡ log_after_event e w.log → w'.answers ≡ answers_after_event e w.answers → StillWorks g w w'
still_works_after_step {g} {w} {w'} same q v step e may of fit asked me took log answers budget profile t before i =
    working_after_step g budget profile t before w w' q v (list_of_option step) (list_of_option e) i
    (record {
      asked = subst (λ z. ask_of z w.thread ≡ q) same asked;
      may = may;
      of = of;
      fit = fit;
      took = subst (λ z. w'.thread ≡ after_reply z w.thread (reply_of q v)) same took;
      log = log ∙ log_after_event_push e w.log;
      answers = answers ∙ answers_after_event_add e w.answers;
    })
    (me ∙ object_step_track t step i.track w.me i.view)

-- a step that concerns no other thread
record IsOwnStep (code : List ℕ) (q : Ask) : Type 0 where
  may : MayReply (thread_machine code) (act_of (shared_ask q) 0) 0
  of : AreObjectStepsAndEventsOfAsk q 0 [] []
  reply : Go ≡ reply_of q 0

own_ask_is_own_step : (code : List ℕ) (q : Ask) → TouchesNothing q → IsOwnStep code q
own_ask_is_own_step code ask.Private own = record { may = refl; of = refl; reply = refl }
own_ask_is_own_step code (ask.Env kind) own = absurd own
own_ask_is_own_step code (ask.Enter object access) own = absurd own
own_ask_is_own_step code (ask.Try object) own = absurd own
own_ask_is_own_step code (ask.Leave object access) own = absurd own
own_ask_is_own_step code (ask.Get object index) own = absurd own
own_ask_is_own_step code (ask.Put object index value) own = absurd own
own_ask_is_own_step code ask.Print own = record { may = refl; of = refl; reply = refl }
own_ask_is_own_step code (ask.End e) own = record { may = refl; of = refl; reply = refl }
own_ask_is_own_step code ask.Done own = absurd own

pub works_after_own_step : {g : Guest} {w w' : WorkerWork} {code : List ℕ} → code ≡ g.code → (q : Ask) → TouchesNothing q → ask_of code w.thread ≡ q → w'.me ≡ w.me
    → w'.thread ≡ after_reply code w.thread Go → w'.log ≡ w.log → w'.answers ≡ w.answers → StillWorks g w w'
works_after_own_step {g} {w} {w'} {code} same q own asked me took =
    let k : IsOwnStep g.code q = own_ask_is_own_step g.code q own in
    still_works_after_step same q 0 None None k.may k.of tt asked me (took ∙ ap (after_reply code w.thread) k.reply)

-- count private steps
pub works_after_private : {g : Guest} {w w' : WorkerWork} {code : List ℕ} → code ≡ g.code → (count : ℕ) → PrivateSteps code count w.thread w'.thread
    → w'.me ≡ w.me → w'.log ≡ w.log → w'.answers ≡ w.answers → StillWorks g w w'
unfolding run_of step_of
works_after_private {g} {w} {w'} same zero p me log answers budget profile t before i =
    subst (IsWorking g budget profile t before)
    (λ j. record { me = sym me j; thread = sym p.steps j; log = sym log j; answers = sym answers j }) i
works_after_private {g} {w} {w'} {code} same (suc count) p me log answers budget profile t before i =
    let mid : WorkerWork = record w { thread = run_of code count w.thread } in
    works_after_own_step {w = mid} same ask.Private tt (p.each count (omega arith)) me p.steps log answers budget profile t before
    (works_after_private {w' = mid} same count (record { steps = refl; each = λ k l. p.each k (omega (arith, l)) }) refl refl refl
    budget profile t before i)

-- ---- how many steps its thread has left

-- a step leaves it fewer
pub reply_lowers_own_left : (code : List ℕ) (x : thread.ThreadState) (r : Reply) {y : thread.ThreadState} {q : Ask} → ask_of code x ≡ q
    → q ≢ ask.Done → y ≡ after_reply code x r → own_steps_left y < own_steps_left x
unfolding after_reply
reply_lowers_own_left code x r {y} asked some took =
    let z : thread.ThreadState = after_ask code x (ask_of code x) r in
    let fewer : steps_left_within (length x.held) z.ended z + 1 ≤ own_steps_left x =
    permitted_lowers_left code (length x.held) x (ask_of code x) r (omega arith) (ask_of_permitted code x)
    (λ done. some (sym asked ∙ done)) in
    let same : own_steps_left y ≡ steps_left_within (length x.held) z.ended z = ap own_steps_left took
    ∙ ap (λ n. steps_left_within n z.ended z) (length-held_after_ask code x (ask_of code x) r) in
    omega (arith, fewer, same)

-- private steps leave it no more
pub private_never_raise_left : (code : List ℕ) (count : ℕ) (x y : thread.ThreadState) → PrivateSteps code count x y
    → own_steps_left y ≤ own_steps_left x
unfolding run_of step_of
private_never_raise_left code zero x y p =
    let same : own_steps_left y ≡ own_steps_left x = ap own_steps_left p.steps in omega (arith, same)
private_never_raise_left code (suc count) x y p =
    let middle : thread.ThreadState = run_of code count x in
    let before : own_steps_left middle ≤ own_steps_left x =
    private_never_raise_left code count x middle (record { steps = refl; each = λ k l. p.each k (omega (arith, l)) }) in
    let last : own_steps_left y < own_steps_left middle =
    reply_lowers_own_left code middle Go (p.each count (omega arith)) (λ done. absurd cc) p.steps in
    omega (arith, before, last)

-- ---- what is known of a worker where its thread asks for a step

module _ {W : Type 0} {answers : W → List AnsweredCall} {g : Guest} {id : TableId} {code : List ℕ} {w : Worker W}
    (s : IsSeated answers g id code w) where
  permits : {q : Ask} → ask_of code w.thread ≡ q → Permits w.thread q
  permits asked = subst (Permits w.thread) asked (ask_of_permitted code w.thread)

  inside_view : (o : ℕ) → inside_by o (history w.seat.me.0) ≡ held_at w.thread.held o
  inside_view o = ap (λ (z : M). inside_by o (history z.0)) s.worker.4.view ∙ s.worker.4.held o

  below : {o : ℕ} → o < length w.thread.held → o < object_count g
  below {o} = subst (λ n. o < n) s.worker.4.places

  pub below_enter : {o : ℕ} {a : Access} → ask_of code w.thread ≡ ask.Enter o a → o < object_count g
  below_enter asked = below (permits asked).2

  pub below_try : {o : ℕ} → ask_of code w.thread ≡ ask.Try o → o < object_count g
  below_try asked = below (permits asked).2

  pub below_leave : {o : ℕ} {a : Access} → ask_of code w.thread ≡ ask.Leave o a → o < object_count g
  below_leave asked = below (permits asked).1

  pub below_get : {o index : ℕ} → ask_of code w.thread ≡ ask.Get o index → (o < object_count g) × (index < most_object_words)
  below_get asked = (below (permits asked).1, (permits asked).2)

  pub below_put : {o index value : ℕ} → ask_of code w.thread ≡ ask.Put o index value → (o < object_count g) × (index < most_object_words)
  below_put asked = (below (permits asked).1, (permits asked).2)

  -- a thread that may enter has room in its log, and its entries are few
  entry_room : w.thread.events < most_events → length w.log.events < w.log.room
  entry_room can = let n = s.worker.4.count in let r = s.worker.4.room in omega (arith, can, n, r)

  few_entries : w.thread.events < most_events → entries (map shared_of (history w.seat.me.0)) < most_events
  few_entries can =
      let same : entries (map shared_of (history w.seat.me.0)) ≡ entries (map shared_of s.worker.4.track) =
      ap (λ (z : M). entries (map shared_of (history z.0))) s.worker.4.view in
      let few = s.worker.4.few in
      omega (arith, same, can, few)

  pub enter_room : {o : ℕ} {a : Access} → ask_of code w.thread ≡ ask.Enter o a → length w.log.events < w.log.room
  enter_room asked = entry_room (permits asked).1

  pub try_room : {o : ℕ} → ask_of code w.thread ≡ ask.Try o → length w.log.events < w.log.room
  try_room asked = entry_room (permits asked).1

  pub answer_room : {kind : EnvKind} → ask_of code w.thread ≡ ask.Env kind → length w.log.events < w.log.room
  answer_room asked = entry_room (permits asked).1

  pub enter_few : {o : ℕ} {a : Access} → ask_of code w.thread ≡ ask.Enter o a → entries (map shared_of (history w.seat.me.0)) < most_events
  enter_few asked = few_entries (permits asked).1

  pub try_few : {o : ℕ} → ask_of code w.thread ≡ ask.Try o → entries (map shared_of (history w.seat.me.0)) < most_events
  try_few asked = few_entries (permits asked).1

  pub try_in_two : {o : ℕ} → ask_of code w.thread ≡ ask.Try o → w.thread.profile ≡ Two
  try_in_two asked = (permits asked).4

  pub outside : {o : ℕ} {a : Access} → ask_of code w.thread ≡ ask.Enter o a → inside_by o (history w.seat.me.0) ≡ None
  outside {o} {a} asked = inside_view o ∙ subst (λ q. lawful.Holds (shared_ask q) (held_at w.thread.held)) asked
      ((thread_machine_lawful code).holds w.thread) o (omega arith)

  pub inside_leave : {o : ℕ} {a : Access} → ask_of code w.thread ≡ ask.Leave o a → inside_by o (history w.seat.me.0) ≡ Some a
  inside_leave {o} asked = inside_view o ∙ (permits asked).2

  pub inside_get : {o index : ℕ} → ask_of code w.thread ≡ ask.Get o index → inside_by o (history w.seat.me.0) ≢ None
  inside_get {o} asked e = (permits asked).3 (sym (inside_view o) ∙ e)

  pub inside_put : {o index value : ℕ} → ask_of code w.thread ≡ ask.Put o index value → inside_by o (history w.seat.me.0) ≡ Some Writing
  inside_put {o} asked = inside_view o ∙ (permits asked).3

  pub inside_worker : {me : M} {x : thread.ThreadState} → me ≡ w.seat.me → x ≡ w.thread → IsInsideWork g me x
  inside_worker e f = subst (λ (z : M × thread.ThreadState). IsInsideWork g z.0 z.1) (λ j. (sym e j, sym f j)) (record {
    alone = subst (λ (z : M). IsAlone z.0) (sym s.worker.4.view) tt;
    places = s.worker.4.places;
    inside = inside_view;
  })

  -- a worker that stays is at work
  pub seated_on : {v : Worker W} → Stays answers g w v → IsSeated answers g id code v
  seated_on on = record {
    seat = on.seat ∙ s.seat;
    same_code = s.same_code;
    worker = (s.worker.0, s.worker.1, s.worker.2, s.worker.3, on.still s.worker.0 s.worker.1 s.worker.2 s.worker.3 s.worker.4);
  }

-- ---- releasing

pub seat_alone_after_deed : (me me' : M) (o : ℕ) (d : Deed) → me' ≡ (did me.0 o d, me.1) → IsAlone me.0 → IsAlone me'.0
seat_alone_after_deed me me' o d e h = subst (λ (z : M). IsAlone z.0) (sym e) (go me.0 h)
  where
    go : (v : _) → IsAlone v → IsAlone (did v o d)
    go [] h = h
    go (k ∷ []) h = tt
    go (k ∷ l ∷ ks) h = h

-- how the seat's one thread is inside an object after a step
inside_after_deed : (me me' : M) (o p : ℕ) (d : Deed) → me' ≡ (did me.0 o d, me.1) → IsAlone me.0
    → inside_by p (history me'.0) ≡ inside_if (eqb p o) (shared_by o d).0 (inside_by p (history me.0))
inside_after_deed me me' o p d e h = ap (λ (z : M). inside_by p (history z.0)) e ∙ go me.0 h
  where
    go : (v : _) → IsAlone v → inside_by p (history (did v o d)) ≡ inside_if (eqb p o) (shared_by o d).0 (inside_by p (history v))
    go [] h = absurd h
    go (k ∷ []) h = ap (inside_after p None) (map_of_append shared_of k.steps (step_of_deed o d ∷ []))
        ∙ inside_after_step p None (map shared_of k.steps) (shared_by o d)
        ∙ ap (λ z. inside_if (eqb p z) (shared_by o d).0 (inside_after p None (map shared_of k.steps))) (target_of_deed o d)
    go (k ∷ l ∷ ks) h = absurd h

-- a step on another object
pub other_deed_keeps_inside : (me me' : M) (o p : ℕ) (d : Deed) → me' ≡ (did me.0 o d, me.1) → IsAlone me.0 → p ≢ o
    → inside_by p (history me'.0) ≡ inside_by p (history me.0)
other_deed_keeps_inside me me' o p d e h ne = inside_after_deed me me' o p d e h
    ∙ ap (λ b. inside_if b (shared_by o d).0 (inside_by p (history me.0))) (ne_eqb p o ne)

-- a leave
pub outside_after_leave : (me me' : M) (o p : ℕ) (a : Access) (v : ℕ) → me' ≡ (did me.0 o (Leave a v), me.1) → IsAlone me.0 → p ≡ o
    → inside_by p (history me'.0) ≡ None
outside_after_leave me me' o p a v e h same = inside_after_deed me me' o p (Leave a v) e h
    ∙ ap (λ b. inside_if b (shared_by o (Leave a v)).0 (inside_by p (history me.0))) (eq-eqb p o same)
