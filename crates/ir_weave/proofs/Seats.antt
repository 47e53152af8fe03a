-- What a seat may do, by its view and its thread, and what is reported to it.
use Rattle.std.proofs.Common.{◌≡◌, ℕ, suc, ◌+◌, ◌*◌, ◌/◌, ◌%◌, ◌^◌, ◌<◌, Bool, true, false, true≢false, List, [], ◌∷◌, Some, refl, sym, ap, ◌∙◌, subst, arith, inl, inr}
use Rattle.std.proofs.lemmas.Bool.{cases_eq, cases_lt}
use Rattle.std.specs.Prelude.{slice_get, IsTrue, ◌↔◌}
use mathlib.Core.Option.{none}
use Rattle.atomic_table.specs.Table.{Step as TableStep, step, Allows}
use Rattle.ir_image.specs.Guest.{object_count, most_object_words}
use Rattle.ir_thread.specs.State.{ask_of}
use Rattle.ir_thread.specs.Permitted.{Permits}
use Rattle.ir_runs.specs.Machine.{LeftAt}
use Rattle.ir_thread.specs.State as thread
use Rattle.ir_runs.specs.declared.access.Access.{Access}
use Rattle.ir_runs.specs.declared.access.Access.TheVariants.{Reading, Writing}
use Rattle.ir_thread.specs.declared.ask.Ask.{Ask}
use Rattle.ir_thread.specs.declared.ask.Ask.TheVariants.{Enter, Try, Leave, Get, Put}
use Rattle.ir_thread.proofs.CallerLemmas.{ask_of_permitted}
use Rattle.ir_log.proofs.CallerLemmas.{entry_event_asks_cases}
use Rattle.ir_log.specs.declared.event.Event.{Event}
use Rattle.ir_trace.specs.Recorded.{recorded_thread}
use Rattle.ir_runs.specs.Run.{Emits}
use Rattle.ir_fit.specs.Fit.{FittedTrace, HasRun}
use Rattle.ir_cut.specs.Positions.{machine_of, start_of, EachRun, thread_at}
use Rattle.ir_weave.specs.Ahead.{TouchesNoObject, event_of, HasStep, IsAhead, IsAsking, IsEntering, IsNextObject, ask_at}
use Rattle.ir_object.specs.Layout.{word_place, content_place, table_length}
use Rattle.ir_object.specs.Word.{version_unit, reader_leaves}
use Rattle.ir_weave.specs.Woven.{View, M, trace_in, Met, progress, met_in, met_of, Rises, HasMet, Woven, OpensTable, Answers, WasStopped, looked, stepped_on, read_version, IsSeated, IsGranted}
use Rattle.ir_weave.specs.declared.plan.Plan.{Plan}
use Rattle.ir_weave.specs.declared.plan.Progress.{Progress}
use Rattle.ir_weave.proofs.Lone.{ahead_of_own_position}
use Rattle.ir_weave.proofs.Acts.{word_added_by_entry, look_word_allowed, granted_entry_allowed, read_leave_is_allowed}
use Rattle.ir_weave.proofs.Acts.{write_leave_is_allowed, version_load_allowed, get_is_allowed, put_is_allowed, step_is_next_on_object}
use Rattle.ir_weave.proofs.Acts.{entering_is_not_alone}

-- ---- the first step on an object

pub next_object_is_unique : (f : FittedTrace) (t i j k : ℕ) → HasRun f → IsNextObject f t i j → IsNextObject f t i k → j ≡ k
next_object_is_unique f t i j k h a b = elim (cases_lt j k) [
  | inl less ↦ absurd (a.touches h.run h.whole (b.alone h.run h.whole j a.past less))
  | inr past ↦ elim (cases_eq j k) [
    | inl same ↦ same
    | inr ne ↦ absurd (b.touches h.run h.whole (a.alone h.run h.whole k b.past (omega (arith, past, ne))))
  ]
]

-- ---- objects of the guest

thread_permits_own_ask : (f : FittedTrace) (x : thread.ThreadState) (q : Ask) → ask_of f.guest.code x ≡ q → Permits x q
thread_permits_own_ask f x q is = subst (Permits x) is (ask_of_permitted f.guest.code x)

pub entered_below_objects : (f : FittedTrace) (t i : ℕ) (x : thread.ThreadState) (o : ℕ) (a : Access) → IsAhead f t i x
    → ask_of f.guest.code x ≡ Enter o a → o < object_count f.guest
entered_below_objects f t i x o a ahead is = let p = (thread_permits_own_ask f x (Enter o a) is).2 in let e = ahead.held in omega (arith, p, e)

tried_below_objects : (f : FittedTrace) (t i : ℕ) (x : thread.ThreadState) (o : ℕ) → IsAhead f t i x → ask_of f.guest.code x ≡ Try o
    → o < object_count f.guest
tried_below_objects f t i x o ahead is = let p = (thread_permits_own_ask f x (Try o) is).2 in let e = ahead.held in omega (arith, p, e)

pub entering_below_objects : (f : FittedTrace) (t i : ℕ) (x : thread.ThreadState) (o : ℕ) (a : Access) (e : Event) → IsAhead f t i x
    → IsEntering f x o a e → o < object_count f.guest
entering_below_objects f t i x o a e ahead entering = elim (entry_event_asks_cases entering.asked o a e entering.suits entering.enters) [
  | inl same ↦ entered_below_objects f t i x o a ahead (entering.asking.asks ∙ same)
  | inr same ↦ tried_below_objects f t i x o ahead (entering.asking.asks ∙ same.0)
]

pub left_below_objects : (f : FittedTrace) (t i : ℕ) (x : thread.ThreadState) (o : ℕ) (a : Access) → IsAhead f t i x → ask_of f.guest.code x ≡ Leave o a
    → o < object_count f.guest
left_below_objects f t i x o a ahead is = let p = (thread_permits_own_ask f x (Leave o a) is).1 in let e = ahead.held in omega (arith, p, e)

pub get_indexes_in_range : (f : FittedTrace) (t i : ℕ) (x : thread.ThreadState) (o j : ℕ) → IsAhead f t i x → ask_of f.guest.code x ≡ Get o j
    → (o < object_count f.guest) × (j < most_object_words)
get_indexes_in_range f t i x o j ahead is = let p = thread_permits_own_ask f x (Get o j) is in let e = ahead.held in (omega (arith, p.1, e), p.2)

pub put_indexes_in_range : (f : FittedTrace) (t i : ℕ) (x : thread.ThreadState) (o j v : ℕ) → IsAhead f t i x → ask_of f.guest.code x ≡ Put o j v
    → (o < object_count f.guest) × (j < most_object_words)
put_indexes_in_range f t i x o j v ahead is = let p = thread_permits_own_ask f x (Put o j v) is in let e = ahead.held in (omega (arith, p.1, e), p.2)

-- ---- seats of one thread

-- a fact of the table with the plan of the seat's view
property_of_equal_plan : (k : Plan) (q : Progress) (P : Plan → Type 0) → q.plan ≡ k → P q.plan → P k
property_of_equal_plan k q P same h = subst P same h

step_by_thread_number : (f : FittedTrace) (t i : ℕ) (x : thread.ThreadState) → IsAhead f t i x → HasStep f x.number x.steps → HasStep f t x.steps
step_by_thread_number f t i x ahead has = subst (λ z. HasStep f z x.steps) ahead.number has

-- the step that the thread asks is asked of the plan of its view
property_of_equal_trace : (k : Plan) (q : Progress) (P : FittedTrace → Type 0) → q.plan ≡ k → P (trace_in k) → P (trace_in q.plan)
property_of_equal_trace k q P same h = subst (λ z. P (trace_in z)) (sym same) h

-- ---- what it may do

pub seated_look_allowed : (k : Plan) (slots id o : ℕ) (a : Access) (e : Event) (x : thread.ThreadState) (me : M) → IsSeated k me.0 x
    → IsEntering (trace_in k) x o a e → Allows (Woven k) slots id me (word_place o) (λ n. n)
    (looked (step slots (word_place o) 0 0 none) me)
seated_look_allowed k slots id o a e x ([], c) seated entering = absurd seated
seated_look_allowed k slots id o a e x (q ∷ r ∷ qs, c) seated entering = absurd seated
seated_look_allowed k slots id o a e x (q ∷ [], c) seated entering =
    let ent : IsEntering (trace_in q.plan) x o a e = property_of_equal_trace k q (λ f. IsEntering f x o a e) seated.0 entering in
    property_of_equal_plan k q (λ z. Allows (Woven z) slots id (q ∷ [], c) (word_place o) (λ n. n) (looked (step slots (word_place o) 0 0 none) (q ∷ [], c)))
    seated.0
    (look_word_allowed slots id o a e x q c seated.1 (entering_below_objects (trace_in q.plan) q.thread q.position x o a e seated.1 ent) ent)

pub seated_entry_allowed : (k : Plan) (slots id o : ℕ) (a : Access) (e : Event) (x : thread.ThreadState) (me : M) → IsGranted k me.0 x
    → IsEntering (trace_in k) x o a e
    → Allows (Woven k) slots id me (word_place o) (λ n. (n + word_added_by_entry a) % 2 ^ 64) (stepped_on (step slots (word_place o) (word_added_by_entry a) 0 none) me)
seated_entry_allowed k slots id o a e x ([], c) g entering = absurd g.seated
seated_entry_allowed k slots id o a e x (q ∷ r ∷ qs, c) g entering = absurd g.seated
seated_entry_allowed k slots id o a e x (q ∷ [], c) g entering =
    let ent : IsEntering (trace_in q.plan) x o a e = property_of_equal_trace k q (λ f. IsEntering f x o a e) g.seated.0 entering in
    property_of_equal_plan k q (λ z. Allows (Woven z) slots id (q ∷ [], c) (word_place o) (λ n. (n + word_added_by_entry a) % 2 ^ 64)
    (stepped_on (step slots (word_place o) (word_added_by_entry a) 0 none) (q ∷ [], c))) g.seated.0
    (granted_entry_allowed slots id o a e x q c g.seated.1 (entering_below_objects (trace_in q.plan) q.thread q.position x o a e g.seated.1 ent) ent
    (ap first_granted g.view) (ap first_position g.view))
  where
    first_granted : View → Bool
    first_granted [] = true
    first_granted (q ∷ qs) = q.granted

    first_position : View → ℕ
    first_position [] = 0
    first_position (q ∷ qs) = q.position

pub seated_read_leave_allowed : (k : Plan) (slots id o : ℕ) (x : thread.ThreadState) (me : M) → IsSeated k me.0 x
    → IsAsking (trace_in k) x (Leave o Reading)
    → Allows (Woven k) slots id me (word_place o) (λ n. (n + reader_leaves) % 2 ^ 64)
    (stepped_on (step slots (word_place o) reader_leaves 0 none) me)
seated_read_leave_allowed k slots id o x ([], c) seated asking = absurd seated
seated_read_leave_allowed k slots id o x (q ∷ r ∷ qs, c) seated asking = absurd seated
seated_read_leave_allowed k slots id o x (q ∷ [], c) seated asking =
    let ask : IsAsking (trace_in q.plan) x (Leave o Reading) = property_of_equal_trace k q (λ f. IsAsking f x (Leave o Reading)) seated.0 asking in
    property_of_equal_plan k q (λ z. Allows (Woven z) slots id (q ∷ [], c) (word_place o) (λ n. (n + reader_leaves) % 2 ^ 64)
    (stepped_on (step slots (word_place o) reader_leaves 0 none) (q ∷ [], c))) seated.0
    (read_leave_is_allowed slots id o x q c seated.1 (left_below_objects (trace_in q.plan) q.thread q.position x o Reading seated.1 ask.asks) ask.asks
    (step_by_thread_number (trace_in q.plan) q.thread q.position x seated.1 ask.has))

pub seated_load_allowed : (k : Plan) (slots id o : ℕ) (x : thread.ThreadState) (me : M) → IsSeated k me.0 x → IsAsking (trace_in k) x (Leave o Writing)
    → Allows (Woven k) slots id me (word_place o) (λ n. n) (read_version (step slots (word_place o) 0 0 none) me)
seated_load_allowed k slots id o x ([], c) seated asking = absurd seated
seated_load_allowed k slots id o x (q ∷ r ∷ qs, c) seated asking = absurd seated
seated_load_allowed k slots id o x (q ∷ [], c) seated asking =
    let ask : IsAsking (trace_in q.plan) x (Leave o Writing) = property_of_equal_trace k q (λ f. IsAsking f x (Leave o Writing)) seated.0 asking in
    property_of_equal_plan k q (λ z. Allows (Woven z) slots id (q ∷ [], c) (word_place o) (λ n. n)
    (read_version (step slots (word_place o) 0 0 none) (q ∷ [], c))) seated.0
    (version_load_allowed slots id o x q c seated.1 (left_below_objects (trace_in q.plan) q.thread q.position x o Writing seated.1 ask.asks) ask.asks
    (step_by_thread_number (trace_in q.plan) q.thread q.position x seated.1 ask.has))

pub seated_write_leave_allowed : (k : Plan) (slots id o v : ℕ) (x : thread.ThreadState) (me : M) → IsSeated k me.0 x
    → IsAsking (trace_in k) x (Leave o Writing)
    → EachRun (trace_in k) (λ run. Emits (machine_of (trace_in k)) (start_of (trace_in k)) run x.number x.steps (LeftAt o Writing v))
    → Allows (Woven k) slots id me (word_place o) (λ _. (v + 1) * version_unit)
    (λ _. stepped_on (step slots (word_place o) ((v + 1) * version_unit) 0 none) me ((v + 1) * version_unit))
seated_write_leave_allowed k slots id o v x ([], c) seated asking emits = absurd seated
seated_write_leave_allowed k slots id o v x (q ∷ r ∷ qs, c) seated asking emits = absurd seated
seated_write_leave_allowed k slots id o v x (q ∷ [], c) seated asking emits =
    let ask : IsAsking (trace_in q.plan) x (Leave o Writing) = property_of_equal_trace k q (λ f. IsAsking f x (Leave o Writing)) seated.0 asking in
    let emitted : EachRun (trace_in q.plan) (λ run. Emits (machine_of (trace_in q.plan)) (start_of (trace_in q.plan)) run q.thread x.steps
    (LeftAt o Writing v)) =
    subst (λ z. EachRun (trace_in q.plan) (λ run. Emits (machine_of (trace_in q.plan)) (start_of (trace_in q.plan)) run z x.steps
    (LeftAt o Writing v))) seated.1.number
    (property_of_equal_trace k q (λ f. EachRun f (λ run. Emits (machine_of f) (start_of f) run x.number x.steps (LeftAt o Writing v))) seated.0 emits) in
    property_of_equal_plan k q (λ z. Allows (Woven z) slots id (q ∷ [], c) (word_place o) (λ _. (v + 1) * version_unit)
    (λ _. stepped_on (step slots (word_place o) ((v + 1) * version_unit) 0 none) (q ∷ [], c) ((v + 1) * version_unit))) seated.0
    (write_leave_is_allowed slots id o v x q c seated.1 (left_below_objects (trace_in q.plan) q.thread q.position x o Writing seated.1 ask.asks) ask.asks
    (step_by_thread_number (trace_in q.plan) q.thread q.position x seated.1 ask.has) emitted)

pub seated_get_allowed : (k : Plan) (slots id o i : ℕ) (x : thread.ThreadState) (me : M) → IsSeated k me.0 x → IsAsking (trace_in k) x (Get o i)
    → Allows (Woven k) slots id me (content_place o i) (λ n. n) (stepped_on (step slots (content_place o i) 0 0 none) me)
seated_get_allowed k slots id o i x ([], c) seated asking = absurd seated
seated_get_allowed k slots id o i x (q ∷ r ∷ qs, c) seated asking = absurd seated
seated_get_allowed k slots id o i x (q ∷ [], c) seated asking =
    let ask : IsAsking (trace_in q.plan) x (Get o i) = property_of_equal_trace k q (λ f. IsAsking f x (Get o i)) seated.0 asking in
    let inside = get_indexes_in_range (trace_in q.plan) q.thread q.position x o i seated.1 ask.asks in
    property_of_equal_plan k q (λ z. Allows (Woven z) slots id (q ∷ [], c) (content_place o i) (λ n. n)
    (stepped_on (step slots (content_place o i) 0 0 none) (q ∷ [], c))) seated.0
    (get_is_allowed slots id o i x q c seated.1 inside.0 inside.1 ask.asks (step_by_thread_number (trace_in q.plan) q.thread q.position x seated.1 ask.has))

pub seated_put_allowed : (k : Plan) (slots id o i v : ℕ) (x : thread.ThreadState) (me : M) → v < 2 ^ 32 → IsSeated k me.0 x
    → IsAsking (trace_in k) x (Put o i v)
    → Allows (Woven k) slots id me (content_place o i) (λ _. v) (λ _. stepped_on (step slots (content_place o i) v 0 none) me v)
seated_put_allowed k slots id o i v x ([], c) value seated asking = absurd seated
seated_put_allowed k slots id o i v x (q ∷ r ∷ qs, c) value seated asking = absurd seated
seated_put_allowed k slots id o i v x (q ∷ [], c) value seated asking =
    let ask : IsAsking (trace_in q.plan) x (Put o i v) = property_of_equal_trace k q (λ f. IsAsking f x (Put o i v)) seated.0 asking in
    let inside = put_indexes_in_range (trace_in q.plan) q.thread q.position x o i v seated.1 ask.asks in
    property_of_equal_plan k q (λ z. Allows (Woven z) slots id (q ∷ [], c) (content_place o i) (λ _. v)
    (λ _. stepped_on (step slots (content_place o i) v 0 none) (q ∷ [], c) v)) seated.0
    (put_is_allowed slots id o i v x q c value seated.1 inside.0 inside.1 ask.asks
    (step_by_thread_number (trace_in q.plan) q.thread q.position x seated.1 ask.has))

-- ---- what is reported to it

-- the seat's view with its thread at i
abbrev pub view_at : Plan → thread.ThreadState → ℕ → Bool → Met → View
view_at k x i granted m = progress k x.number i granted m ∷ []

progress_is_view_at : (k : Plan) (q : Progress) (x : thread.ThreadState) (i j : ℕ) (g : Bool) (m : Met) → q.plan ≡ k → x.number ≡ q.thread → i ≡ j
    → progress q.plan q.thread i g m ∷ [] ≡ view_at k x j g m
progress_is_view_at k q x i j g m plan number here = λ z. progress (plan z) (sym number z) (here z) g m ∷ []

-- what is reported of these steps doesn't depend on their words
abbrev pub any_step : TableStep (Unit {0})
any_step = step 0 0 0 0 none

-- of a step on an object
pub record ObjectStepReport (k : Plan) (x : thread.ThreadState) (me w : M) (n : ℕ) : Type 0 where
  pub view : ◌≡◌ {A = M} w (view_at k x (suc x.steps) false (met_of me.0), me.1)
  pub answers : Answers (trace_in k) x.number x.steps n

pub stepped_on_reports : (k : Plan) (x : thread.ThreadState) (asked : Ask) (me w : M) (n : ℕ) → IsSeated k me.0 x
    → ask_of (trace_in k).guest.code x ≡ asked → (TouchesNoObject asked (event_of (trace_in k) x.number x) → ⊥) → stepped_on any_step me n w → ObjectStepReport k x me w n
stepped_on_reports k x asked ([], c) w n seated is touches emitted = absurd seated
stepped_on_reports k x asked (q ∷ r ∷ qs, c) w n seated is touches emitted = absurd seated
stepped_on_reports k x asked (q ∷ [], c) w n seated is touches emitted =
    let f : FittedTrace = trace_in q.plan in
    let ask : ask_of f.guest.code x ≡ asked = property_of_equal_trace k q (λ f. ask_of f.guest.code x ≡ asked) seated.0 is in
    let here : emitted.0 ≡ x.steps = next_object_is_unique f q.thread q.position emitted.0 x.steps seated.1.run emitted.1
    (step_is_next_on_object f q.thread q.position x asked seated.1 ask
    (subst (λ (z : Plan × ℕ). TouchesNoObject asked (event_of (trace_in z.0) z.1 x) → ⊥) (λ i. (sym seated.0 i, seated.1.number i)) touches)) in
    record {
      view = emitted.2 ∙ (λ i. (progress_is_view_at k q x (suc emitted.0) (suc x.steps) false (met_in q) seated.0 seated.1.number (ap suc here) i, c));
      answers = subst (λ (z : Plan × ℕ × ℕ). Answers (trace_in z.0) z.1 z.2 n) (λ i. (seated.0 i, sym seated.1.number i, here i)) emitted.3;
    }

-- who enters an object touches it
pub entering_not_alone : (k : Plan) (x : thread.ThreadState) (o : ℕ) (a : Access) (e : Event) → (entering : IsEntering (trace_in k) x o a e)
    → TouchesNoObject entering.asked (event_of (trace_in k) x.number x) → ⊥
entering_not_alone k x o a e entering =
    entering_is_not_alone entering.asked o a e (event_of (trace_in k) x.number x) entering.event entering.suits entering.enters

-- of a load before an entry
pub record LookReport (k : Plan) (x : thread.ThreadState) (e : Event) (me w : M) (n : ℕ) : Type 0 where
  pub rises : Rises (met_of me.0) (met_of w.0)
  pub opened : OpensTable n e → ◌≡◌ {A = M} w (view_at k x x.steps true (met_of w.0), me.1)
  pub shut : (OpensTable n e → ⊥) → (◌≡◌ {A = M} w (view_at k x x.steps false (met_of w.0), me.1)) × (s : WasStopped k x.number x.steps)
      × HasMet (met_of me.0) (met_of w.0) s.cut

pub looked_reports : (k : Plan) (x : thread.ThreadState) (o : ℕ) (a : Access) (e : Event) (me w : M) (n : ℕ) → IsSeated k me.0 x
    → IsEntering (trace_in k) x o a e → looked any_step me n w → LookReport k x e me w n
looked_reports k x o a e ([], c) w n seated entering emitted = absurd seated
looked_reports k x o a e (q ∷ r ∷ qs, c) w n seated entering emitted = absurd seated
looked_reports k x o a e (q ∷ [], c) w n seated entering emitted =
    let f : FittedTrace = trace_in q.plan in
    let ent : IsEntering f x o a e = property_of_equal_trace k q (λ f. IsEntering f x o a e) seated.0 entering in
    let here : emitted.0 ≡ x.steps = next_object_is_unique f q.thread q.position emitted.0 x.steps seated.1.run emitted.2
    (step_is_next_on_object f q.thread q.position x ent.asked seated.1 ent.asking.asks
    (entering_is_not_alone ent.asked o a e (event_of f q.thread x)
    (subst (λ t. slice_get (recorded_thread f.recorded t).events x.events ≡ Some e) seated.1.number ent.event) ent.suits ent.enters)) in
    let event : emitted.1 ≡ e =
    same_event (recorded_thread f.recorded q.thread).events (thread_at f seated.1.run.run q.thread emitted.0).events emitted.1 e
    (emitted.3 seated.1.run.run seated.1.run.whole)
    (ap (λ i. slice_get (recorded_thread f.recorded q.thread).events (thread_at f seated.1.run.run q.thread i).events) here
    ∙ ap (λ (z : thread.ThreadState). slice_get (recorded_thread f.recorded q.thread).events z.events)
    (sym (seated.1.at seated.1.run.run seated.1.run.whole).1)
    ∙ subst (λ t. slice_get (recorded_thread f.recorded t).events x.events ≡ Some e) seated.1.number ent.event) in record {
      rises = emitted.4;
      opened = λ on. emitted.5 (subst (OpensTable n) (sym event) on)
          ∙ (λ i. (progress_is_view_at k q x emitted.0 x.steps true (met_of w.0) seated.0 seated.1.number here i, c));
      shut = λ off.
          let z = emitted.6 (λ on. off (subst (OpensTable n) event on)) in
          let moved : (s : WasStopped k x.number x.steps) × HasMet (met_in q) (met_of w.0) s.cut =
          subst (λ (z : Plan × ℕ × ℕ). (s : WasStopped z.0 z.1 z.2) × HasMet (met_in q) (met_of w.0) s.cut)
          (λ i. (seated.0 i, sym seated.1.number i, here i)) (z.1, z.2) in (
            z.0 ∙ (λ i. (progress_is_view_at k q x emitted.0 x.steps false (met_of w.0) seated.0 seated.1.number here i, c)),
            moved.0,
            moved.1,
          );
    }
  where
    same_event : (es : List Event) (i : ℕ) (a b : Event) → slice_get es i ≡ Some a → slice_get es i ≡ Some b → a ≡ b
    same_event es i a b h g = cc (h, g)

-- of a load before a writer's leave
pub record VersionReport (k : Plan) (x : thread.ThreadState) (o : ℕ) (me w : M) (n : ℕ) : Type 0 where
  pub view : ◌≡◌ {A = M} w me
  pub small : n < 2 ^ 63
  pub version : EachRun (trace_in k) (λ run. Emits (machine_of (trace_in k)) (start_of (trace_in k)) run x.number x.steps
      (LeftAt o Writing (n / version_unit)))

pub read_version_reports : (k : Plan) (o : ℕ) (x : thread.ThreadState) (me w : M) (n : ℕ) → IsSeated k me.0 x → IsAsking (trace_in k) x (Leave o Writing)
    → read_version (step 0 (word_place o) 0 0 none) me n w → VersionReport k x o me w n
read_version_reports k o x ([], c) w n seated asking emitted = absurd seated
read_version_reports k o x (q ∷ r ∷ qs, c) w n seated asking emitted = absurd seated
read_version_reports k o x (q ∷ [], c) w n seated asking emitted =
    let f : FittedTrace = trace_in q.plan in
    let ask : IsAsking f x (Leave o Writing) = property_of_equal_trace k q (λ f. IsAsking f x (Leave o Writing)) seated.0 asking in
    let here : emitted.0 ≡ x.steps = next_object_is_unique f q.thread q.position emitted.0 x.steps seated.1.run emitted.1
    (step_is_next_on_object f q.thread q.position x (Leave o Writing) seated.1 ask.asks (λ b. b)) in
    let all : EachRun f (λ run. Emits (machine_of f) (start_of f) run q.thread emitted.0 (LeftAt o Writing (n / version_unit))) =
    λ run of. emitted.4 run of o refl (ap (ask_at f run q.thread) here ∙ ap (ask_of f.guest.code) (sym (seated.1.at run of).1)
    ∙ ask.asks) in record {
      view = emitted.2;
      small = emitted.3;
      version = subst (λ (z : Plan × ℕ × ℕ). EachRun (trace_in z.0)
          (λ run. Emits (machine_of (trace_in z.0)) (start_of (trace_in z.0)) run z.1 z.2 (LeftAt o Writing (n / version_unit))))
          (λ i. (seated.0 i, sym seated.1.number i, here i)) all;
    }

-- what is read is a word of 32 bits
pub word_of_get_is_32_bits : (k : Plan) (x : thread.ThreadState) (v : View) (o i n : ℕ) → IsSeated k v x → IsAsking (trace_in k) x (Get o i)
    → Answers (trace_in k) x.number x.steps n → n < 2 ^ 32
word_of_get_is_32_bits k x [] o i n seated asking answers = absurd seated
word_of_get_is_32_bits k x (q ∷ r ∷ qs) o i n seated asking answers = absurd seated
word_of_get_is_32_bits k x (q ∷ []) o i n seated asking answers =
    let f : FittedTrace = trace_in q.plan in
    let ask : IsAsking f x (Get o i) = property_of_equal_trace k q (λ f. IsAsking f x (Get o i)) seated.0 asking in
    let all : Answers f x.number x.steps n = property_of_equal_trace k q (λ f. Answers f x.number x.steps n) seated.0 answers in
    let run = seated.1.run.run in
    (all run seated.1.run.whole o i (subst (λ t. ask_at f run t x.steps ≡ Get o i) (sym seated.1.number)
    (ap (ask_of f.guest.code) (sym (seated.1.at run seated.1.run.whole).1) ∙ ask.asks))).0

-- the words that there are
pub entered_word_in_table : (k : Plan) (x : thread.ThreadState) (v : View) (o words : ℕ) (a : Access) (e : Event) → IsSeated k v x
    → IsEntering (trace_in k) x o a e → words ≡ table_length (object_count (trace_in k).guest) → word_place o < words
entered_word_in_table k x [] o words a e seated entering size = absurd seated
entered_word_in_table k x (p ∷ r ∷ ps) o words a e seated entering size = absurd seated
entered_word_in_table k x (p ∷ []) o words a e seated entering size =
    let inside = entering_below_objects (trace_in p.plan) p.thread p.position x o a e seated.1
    (property_of_equal_trace k p (λ f. IsEntering f x o a e) seated.0 entering) in
    let same : object_count (trace_in p.plan).guest ≡ object_count (trace_in k).guest =
    ap (λ z. object_count (trace_in z).guest) seated.0 in
    omega (arith, inside, same, size)

pub left_word_in_table : (k : Plan) (x : thread.ThreadState) (v : View) (o words : ℕ) (a : Access) → IsSeated k v x → IsAsking (trace_in k) x (Leave o a)
    → words ≡ table_length (object_count (trace_in k).guest) → word_place o < words
left_word_in_table k x [] o words a seated asking size = absurd seated
left_word_in_table k x (p ∷ r ∷ ps) o words a seated asking size = absurd seated
left_word_in_table k x (p ∷ []) o words a seated asking size =
    let inside = left_below_objects (trace_in p.plan) p.thread p.position x o a seated.1
    (property_of_equal_trace k p (λ f. ask_of f.guest.code x ≡ Leave o a) seated.0 asking.asks) in
    let same : object_count (trace_in p.plan).guest ≡ object_count (trace_in k).guest =
    ap (λ z. object_count (trace_in z).guest) seated.0 in
    omega (arith, inside, same, size)

pub get_place_below_table : (k : Plan) (x : thread.ThreadState) (v : View) (o i words : ℕ) → IsSeated k v x → IsAsking (trace_in k) x (Get o i)
    → words ≡ table_length (object_count (trace_in k).guest) → content_place o i < words
get_place_below_table k x [] o i words seated asking size = absurd seated
get_place_below_table k x (p ∷ r ∷ ps) o i words seated asking size = absurd seated
get_place_below_table k x (p ∷ []) o i words seated asking size =
    let inside = get_indexes_in_range (trace_in p.plan) p.thread p.position x o i seated.1
    (property_of_equal_trace k p (λ f. ask_of f.guest.code x ≡ Get o i) seated.0 asking.asks) in
    let same : object_count (trace_in p.plan).guest ≡ object_count (trace_in k).guest =
    ap (λ z. object_count (trace_in z).guest) seated.0 in
    omega (arith, inside.0, inside.1, same, size)

pub put_place_below_table : (k : Plan) (x : thread.ThreadState) (v : View) (o i n words : ℕ) → IsSeated k v x → IsAsking (trace_in k) x (Put o i n)
    → words ≡ table_length (object_count (trace_in k).guest) → content_place o i < words
put_place_below_table k x [] o i n words seated asking size = absurd seated
put_place_below_table k x (p ∷ r ∷ ps) o i n words seated asking size = absurd seated
put_place_below_table k x (p ∷ []) o i n words seated asking size =
    let inside = put_indexes_in_range (trace_in p.plan) p.thread p.position x o i n seated.1
    (property_of_equal_trace k p (λ f. ask_of f.guest.code x ≡ Put o i n) seated.0 asking.asks) in
    let same : object_count (trace_in p.plan).guest ≡ object_count (trace_in k).guest =
    ap (λ z. object_count (trace_in z).guest) seated.0 in
    omega (arith, inside.0, inside.1, same, size)

-- ---- an entry in two steps

-- the seat with its thread, counted up to it
pub seated_at_own_position : (k : Plan) (v : View) (x : thread.ThreadState) (g : Bool) (m : Met) → IsSeated k v x → IsSeated k (view_at k x x.steps g m) x
seated_at_own_position k [] x g m seated = absurd seated
seated_at_own_position k (q ∷ r ∷ qs) x g m seated = absurd seated
seated_at_own_position k (q ∷ []) x g m seated = (
  refl,
  subst (λ (z : Plan × ℕ). IsAhead (trace_in z.0) z.1 x.steps x)
      (λ i. (seated.0 i, sym seated.1.number i)) (ahead_of_own_position (trace_in q.plan) q.thread q.position x seated.1),
)

pub open_look_is_granted : (k : Plan) (x : thread.ThreadState) (e : Event) (me w : M) (n : ℕ) → IsSeated k me.0 x → LookReport k x e me w n → OpensTable n e
    → IsGranted k w.0 x
open_look_is_granted k x e me w n seated shown on =
    let view : w.0 ≡ view_at k x x.steps true (met_of w.0) = ap (λ (z : M). z.0) (shown.opened on) in
    record { seated = subst (λ v. IsSeated k v x) (sym view) (seated_at_own_position k me.0 x true (met_of w.0) seated); view = view }

pub true_test_holds : (b : Bool) (P : Type 0) → IsTrue b ↔ P → b ≡ true → P
true_test_holds b P h e = h.0 e

-- after the second
pub entry_view_is_further : (k : Plan) (x : thread.ThreadState) (e : Event) (me w u : M) (n m : ℕ) → LookReport k x e me w n → OpensTable n e → ObjectStepReport k x w u m
    → ◌≡◌ {A = M} u (view_at k x (suc x.steps) false (met_of w.0), me.1)
entry_view_is_further k x e me w u n m shown on emitted = emitted.view ∙ (λ i. (view_at k x (suc x.steps) false (met_of w.0), (shown.opened on i).1))

-- ---- a writer's leave in two steps

pub seated_after_load : (k : Plan) (x : thread.ThreadState) (o : ℕ) (me w : M) (n : ℕ) → IsSeated k me.0 x → VersionReport k x o me w n → IsSeated k w.0 x
seated_after_load k x o me w n seated seen = subst (λ (z : M). IsSeated k z.0 x) (sym seen.view) seated

pub leave_view_is_further : (k : Plan) (x : thread.ThreadState) (o : ℕ) (me w u : M) (n m : ℕ) → VersionReport k x o me w n → ObjectStepReport k x w u m
    → ◌≡◌ {A = M} u (view_at k x (suc x.steps) false (met_of me.0), me.1)
leave_view_is_further k x o me w u n m seen emitted =
    emitted.view ∙ (λ i. (view_at k x (suc x.steps) false (met_of (seen.view i).0), (seen.view i).1))
