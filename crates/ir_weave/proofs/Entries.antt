-- Whether an entry is admitted is seen by the object.
use Rattle.std.proofs.Common.{◌≡◌, ℕ, ◌<◌, Bool, true, false, ◌⊎◌, inl, inr, length, Some, refl, sym, ap, ◌∙◌, subst, arith}
use Rattle.std.proofs.lemmas.Bool.{cases_eq}
use Rattle.std.specs.Prelude.{slice_get}
use Rattle.ir_thread.specs.State.{ask_of}
use Rattle.ir_runs.specs.declared.access.Access.{Access}
use Rattle.ir_thread.specs.declared.ask.Ask.{Ask}
use Rattle.ir_thread.specs.declared.ask.Ask.TheVariants.{Enter, Try}
use Rattle.ir_object.specs.Cell.{Cell}
use Rattle.ir_flat.specs.Flat.{Flat, IsFlat, thread_of, cell_of}
use Rattle.ir_flat.specs.Next.{next}
use Rattle.ir_log.specs.Asked.{ask_of as event_ask, SuitsEvent}
use Rattle.ir_log.proofs.CallerLemmas.{entry_event_asks_cases}
use Rattle.ir_log.specs.declared.event.Event.{Event}
use Rattle.ir_log.specs.declared.event.Event.TheVariants.{Answer, Read, Write, Try as Refused}
use Rattle.ir_trace.specs.Recorded.{recorded_thread}
use Rattle.ir_fit.specs.Ahead.{steps_ahead, IsOpen}
use Rattle.ir_runs.specs.Admitted.{Admitted, further}
use Rattle.ir_fit.specs.Fit.{FittedTrace, HasRun}
use Rattle.ir_cut.specs.Positions.{machine_of, start_of, EachRun}
use Rattle.ir_runs.proofs.CallerLemmas.{equal_cut_is_consistent, further_at_own_thread, further_at_other_thread}
use Rattle.ir_weave.specs.Ahead.{HasStep}
use Rattle.ir_weave.specs.Standing.{IsStateAt, positions}
use Rattle.ir_weave.specs.Woven.{AdmittedAt}
use Rattle.ir_weave.proofs.Behind.{admitted_logs_next}
use Rattle.ir_weave.proofs.Forth.{StepGoesOn, logs_next_goes_on, state_thread_in_guest}
use Rattle.ir_fit.proofs.CallerLemmas.{GotIn, try_not_refused_got_in}
use Rattle.ir_weave.proofs.Results.{open_entry_logs_zero, shut_entry_logs_none, open_try_logs_one, shut_try_logs_none}

-- steps are left in the trace
has_step_steps_ahead : (f : FittedTrace) (s : Flat) (t : ℕ) → HasRun f → IsStateAt f (positions s) s → t < length s.threads
    → HasStep f t (positions s t) → 0 < steps_ahead f.recorded s t
has_step_steps_ahead f s t h at l has = let steps = h.whole.1.steps t (state_thread_in_guest f s t at l) in let more = has h.run h.whole in
    omega (arith, steps, more)

-- a thread whose next step leads on is admitted
going_on_is_admitted : (f : FittedTrace) (s : Flat) (t v : ℕ) (q : Ask) → StepGoesOn f s t v q → HasStep f t (positions s t) → AdmittedAt f (positions s) t
going_on_is_admitted f s t v q g has run of = (
  has run of,
  equal_cut_is_consistent (machine_of f) (start_of f) run (positions (next s t v q)) (further (positions s) t)
      (λ u. elim (cases_eq u t) [
        | inl same ↦ subst (λ z. positions (next s t v q) z ≡ further (positions s) t z) (sym same)
            (let b = further_at_own_thread (positions s) t in let c = g.own in omega (arith, b, c))
        | inr ne ↦ g.others u ne ∙ sym (further_at_other_thread (positions s) t u ne)
      ]) (g.at.each run of).consistent,
)

-- a try that is logged as an entry got in
entering_try_got_in : (o p : ℕ) (a : Access) (e : Event) → SuitsEvent (Try o) e → event_ask e ≡ Enter p a → GotIn e
entering_try_got_in o p a e suits enters = try_not_refused_got_in o e suits (λ r h. let z : Try r ≡ Enter p a = sym (ap event_ask h) ∙ enters in cc z)

pub open_entry_is_admitted : (f : FittedTrace) (s : Flat) (t o : ℕ) (a : Access) (e : Event) (q : Ask) → HasRun f → IsFlat s
    → IsStateAt f (positions s) s → t < length s.threads → ask_of s.code (thread_of s t) ≡ q → HasStep f t (positions s t)
    → slice_get (recorded_thread f.recorded t).events (thread_of s t).events ≡ Some e → SuitsEvent q e → event_ask e ≡ Enter o a
    → IsOpen (cell_of s o) e → AdmittedAt f (positions s) t
open_entry_is_admitted f s t o a e q h flat at l is has event suits enters opens =
    let left = has_step_steps_ahead f s t h at l has in
    elim (entry_event_asks_cases q o a e suits enters) [
      | inl same ↦ going_on_is_admitted f s t 0 (Enter o a) (logs_next_goes_on f s t 0 (Enter o a) flat at l (sym (is ∙ same)) has
          (open_entry_logs_zero f.recorded s t o a e flat l (is ∙ same) left event (subst (λ p. SuitsEvent p e) same suits) opens)) has
      | inr same ↦ going_on_is_admitted f s t 1 (Try o) (logs_next_goes_on f s t 1 (Try o) flat at l (sym (is ∙ same.0)) has
          (open_try_logs_one f.recorded s t o e flat l (is ∙ same.0) left event (subst (λ p. SuitsEvent p e) same.0 suits) opens)) has
    ]

pub shut_is_not_admitted : (f : FittedTrace) (s : Flat) (t o : ℕ) (a : Access) (e : Event) (q : Ask) → HasRun f → IsFlat s
    → IsStateAt f (positions s) s → t < length s.threads → ask_of s.code (thread_of s t) ≡ q → HasStep f t (positions s t)
    → slice_get (recorded_thread f.recorded t).events (thread_of s t).events ≡ Some e → SuitsEvent q e → event_ask e ≡ Enter o a
    → (IsOpen (cell_of s o) e → ⊥) → EachRun f (λ run. Admitted (machine_of f) (start_of f) run (positions s) t → ⊥)
shut_is_not_admitted f s t o a e q h flat at l is has event suits enters shut run of ad =
    let some = admitted_logs_next f s at run of t (state_thread_in_guest f s t at l) ad in
    let left = has_step_steps_ahead f s t h at l has in
    elim (entry_event_asks_cases q o a e suits enters) [
      | inl same ↦ shut_entry_logs_none f.recorded s t o a e flat l (is ∙ same) left event (subst (λ p. SuitsEvent p e) same suits) shut some.0 some.1
      | inr same ↦
          let tries : SuitsEvent (Try o) e = subst (λ p. SuitsEvent p e) same.0 suits in
          shut_try_logs_none f.recorded s t o e flat l (is ∙ same.0) left event tries (entering_try_got_in o o a e tries enters) shut some.0 some.1
    ]

-- it can be entered, or not
bool_is_false_or_not : (b : Bool) → (b ≡ false) ⊎ (b ≡ false → ⊥)
bool_is_false_or_not true = inr (λ e. cc e)
bool_is_false_or_not false = inl refl

pub cell_is_open_or_not : (c : Cell) (e : Event) → IsOpen c e ⊎ (IsOpen c e → ⊥)
cell_is_open_or_not c (Answer kind value) = inr (λ h. h)
cell_is_open_or_not c (Refused object) = inr (λ h. h)
cell_is_open_or_not c (Read object version) = elim (cases_eq c.fields.version version) [
  | inl v ↦ elim (bool_is_false_or_not c.fields.writer) [ inl w ↦ inl (v, w) | inr w ↦ inr (λ h. w h.1) ]
  | inr v ↦ inr (λ h. v h.0)
]
cell_is_open_or_not c (Write object version readers) = elim (cases_eq c.fields.version version) [
  | inl v ↦ elim (cases_eq c.fields.left readers) [
    | inl r ↦ elim (bool_is_false_or_not c.fields.writer) [
      | inl w ↦ elim (cases_eq c.fields.inside 0) [ inl i ↦ inl (v, r, (w, i)) | inr i ↦ inr (λ h. i h.2.1) ]
      | inr w ↦ inr (λ h. w h.2.0)
    ]
    | inr r ↦ inr (λ h. r h.1)
  ]
  | inr v ↦ inr (λ h. v h.0)
]

-- whether it is open is seen by its word
pub open_by_equal_fields : (c d : Cell) (e : Event) → c.fields ≡ d.fields → IsOpen c e → IsOpen d e
open_by_equal_fields c d (Answer kind value) same h = h
open_by_equal_fields c d (Refused object) same h = h
open_by_equal_fields c d (Read object version) same h = (sym (ap (λ z. z.version) same) ∙ h.0, sym (ap (λ z. z.writer) same) ∙ h.1)
open_by_equal_fields c d (Write object version readers) same h = (
  sym (ap (λ z. z.version) same) ∙ h.0,
  sym (ap (λ z. z.left) same)
      ∙ h.1,
  (sym (ap (λ z. z.writer) same) ∙ h.2.0, sym (ap (λ z. z.inside) same) ∙ h.2.1),
)
