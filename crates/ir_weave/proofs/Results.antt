-- The result with which a thread takes its next step, by what it asks.
use Rattle.std.proofs.Common.{◌≡◌, ℕ, ◌<◌, List, length, None, Some, refl, sym, ap, ◌∙◌, subst}
use Rattle.std.specs.Prelude.{slice_get}
use Rattle.ir_thread.specs.State.{ask_of}
use Rattle.ir_thread.specs.Permitted.{held_count}
use Rattle.ir_runs.specs.declared.access.Access.{Access}
use Rattle.ir_thread.specs.declared.ask.Ask.{Ask}
use Rattle.ir_thread.specs.declared.ask.Ask.TheVariants.{Env, Enter, Try}
use Rattle.ir_runs.specs.declared.env_kind.EnvKind.{EnvKind}
use Rattle.std.specs.List.{slice_index_or}
use Rattle.std.proofs.lemmas.List.{get_or_default}
use Rattle.ir_object.specs.Cell.{Cell}
use Rattle.ir_object.specs.Empty.{empty}
use Rattle.ir_flat.specs.Flat.{Flat, thread_of, cell_of, IsFlat}
use Rattle.ir_flat.proofs.CallerLemmas.{entered_object_exists}
use Rattle.ir_log.specs.Asked.{SuitsEvent}
use Rattle.ir_log.specs.declared.event.Event.{Event}
use Rattle.ir_log.specs.declared.event.Event.TheVariants.{Answer, Try as Refused}
use Rattle.ir_trace.specs.Recorded.{Recorded, recorded_thread, trace_of}
use Rattle.ir_trace.specs.Bounds.{IsRecordedThread}
use Rattle.ir_fit.specs.Ahead.{steps_ahead, log_ahead, CanFollow, IsOpen}
use Rattle.ir_runs.specs.Verdicts.{Meets}
use Rattle.ir_fit.specs.declared.follower.look.Look.TheVariants as look
use Rattle.ir_fit.proofs.CallerLemmas.{end_asked, ends_now_is_end_asked, call_ask_is_not_done, suited_call_can_follow}
use Rattle.ir_fit.proofs.CallerLemmas.{unsuited_call_disagrees, open_entry_can_follow, shut_entry_is_stopped, unsuited_entry_differs}
use Rattle.ir_fit.proofs.CallerLemmas.{entry_ask_is_not_done, refused_try_can_follow, GotIn, open_try_can_follow, shut_try_is_stopped}
use Rattle.ir_fit.proofs.CallerLemmas.{unsuited_try_disagrees, ask_of_try_is_not_done, without_move_is_stopped}
use Rattle.ir_weave.specs.Stepping.{LogsNext}

-- a step that follows the trace logs what comes next
following_logs_next : (r : Recorded) (s : Flat) (t v : ℕ) → CanFollow r s t v → LogsNext r s t v
following_logs_next r s t v h = (h.0, h.2)

-- the other way round, where the step is no end
logs_next_can_follow : (r : Recorded) (s : Flat) (t v : ℕ) (q : Ask) → ask_of s.code (thread_of s t) ≡ q → end_asked q ≡ None → 0 < steps_ahead r s t
    → LogsNext r s t v → CanFollow r s t v
logs_next_can_follow r s t v q is none steps h = (
  h.0,
  steps,
  h.1,
  subst (λ e. Meets e ((trace_of r).ends t) (held_count (thread_of s t).held) (steps_ahead r s t) (log_ahead r s t))
      (sym (ends_now_is_end_asked s.code (thread_of s t) ∙ ap end_asked is ∙ none)) tt,
)

-- ---- calls of the environment

pub suited_call_logs_next : (r : Recorded) (s : Flat) (t v : ℕ) (kind j : EnvKind) → IsRecordedThread r.profile r.objects (recorded_thread r t)
    → ask_of s.code (thread_of s t) ≡ Env kind → 0 < steps_ahead r s t
    → slice_get (recorded_thread r t).events (thread_of s t).events ≡ Some (Answer j v) → SuitsEvent (Env kind) (Answer j v) → LogsNext r s t v
suited_call_logs_next r s t v kind j fits is steps next suits = following_logs_next r s t v (suited_call_can_follow r s t v kind j fits is steps next suits)

pub unsuited_call_logs_none : (r : Recorded) (s : Flat) (t : ℕ) (kind : EnvKind) → ask_of s.code (thread_of s t) ≡ Env kind → 0 < steps_ahead r s t
    → ((e : Event) → slice_get (recorded_thread r t).events (thread_of s t).events ≡ Some e → SuitsEvent (Env kind) e → ⊥) → (v : ℕ)
    → LogsNext r s t v → ⊥
unsuited_call_logs_none r s t kind is steps none v h =
    without_move_is_stopped r s t look.Disagrees (call_ask_is_not_done (ask_of s.code (thread_of s t)) kind is, unsuited_call_disagrees r s t kind is none) (λ m e. cc e) v
    (logs_next_can_follow r s t v (Env kind) is refl steps h)

-- ---- entries

pub open_entry_logs_zero : (r : Recorded) (s : Flat) (t o : ℕ) (a : Access) (e : Event) → IsFlat s → t < length s.threads
    → ask_of s.code (thread_of s t) ≡ Enter o a → 0 < steps_ahead r s t
    → slice_get (recorded_thread r t).events (thread_of s t).events ≡ Some e → SuitsEvent (Enter o a) e → IsOpen (cell_of s o) e
    → LogsNext r s t 0
open_entry_logs_zero r s t o a e flat l is steps next suits opens = following_logs_next r s t 0 (open_entry_can_follow r s t o a e flat l is steps next suits opens)

pub shut_entry_logs_none : (r : Recorded) (s : Flat) (t o : ℕ) (a : Access) (e : Event) → IsFlat s → t < length s.threads
    → ask_of s.code (thread_of s t) ≡ Enter o a → 0 < steps_ahead r s t
    → slice_get (recorded_thread r t).events (thread_of s t).events ≡ Some e → SuitsEvent (Enter o a) e → (IsOpen (cell_of s o) e → ⊥) → (v : ℕ)
    → LogsNext r s t v → ⊥
shut_entry_logs_none r s t o a e flat l is steps next suits shut v h =
    shut_entry_is_stopped r s t o a e flat l is next suits shut v (logs_next_can_follow r s t v (Enter o a) is refl steps h)

pub unsuited_entry_logs_none : (r : Recorded) (s : Flat) (t o : ℕ) (a : Access) → ask_of s.code (thread_of s t) ≡ Enter o a → 0 < steps_ahead r s t
    → ((e : Event) → slice_get (recorded_thread r t).events (thread_of s t).events ≡ Some e → SuitsEvent (Enter o a) e → ⊥) → (v : ℕ)
    → LogsNext r s t v → ⊥
unsuited_entry_logs_none r s t o a is steps none v h =
    without_move_is_stopped r s t look.Disagrees (entry_ask_is_not_done (ask_of s.code (thread_of s t)) o a is, unsuited_entry_differs r s t o a is none) (λ m e. cc e) v
    (logs_next_can_follow r s t v (Enter o a) is refl steps h)

-- ---- tries

pub refused_try_logs_zero : (r : Recorded) (s : Flat) (t o p : ℕ) → ask_of s.code (thread_of s t) ≡ Try o → 0 < steps_ahead r s t
    → slice_get (recorded_thread r t).events (thread_of s t).events ≡ Some (Refused p) → SuitsEvent (Try o) (Refused p) → LogsNext r s t 0
refused_try_logs_zero r s t o p is steps next suits = following_logs_next r s t 0 (refused_try_can_follow r s t o p is steps next suits)

pub open_try_logs_one : (r : Recorded) (s : Flat) (t o : ℕ) (e : Event) → IsFlat s → t < length s.threads
    → ask_of s.code (thread_of s t) ≡ Try o → 0 < steps_ahead r s t
    → slice_get (recorded_thread r t).events (thread_of s t).events ≡ Some e → SuitsEvent (Try o) e → IsOpen (cell_of s o) e
    → LogsNext r s t 1
open_try_logs_one r s t o e flat l is steps next suits opens = following_logs_next r s t 1 (open_try_can_follow r s t o e flat l is steps next suits opens)

pub shut_try_logs_none : (r : Recorded) (s : Flat) (t o : ℕ) (e : Event) → IsFlat s → t < length s.threads
    → ask_of s.code (thread_of s t) ≡ Try o → 0 < steps_ahead r s t
    → slice_get (recorded_thread r t).events (thread_of s t).events ≡ Some e → SuitsEvent (Try o) e → GotIn e → (IsOpen (cell_of s o) e → ⊥)
    → (v : ℕ) → LogsNext r s t v → ⊥
shut_try_logs_none r s t o e flat l is steps next suits in_ shut v h =
    shut_try_is_stopped r s t o e flat l is next suits in_ shut v (logs_next_can_follow r s t v (Try o) is refl steps h)

pub unsuited_try_logs_none : (r : Recorded) (s : Flat) (t o : ℕ) → ask_of s.code (thread_of s t) ≡ Try o → 0 < steps_ahead r s t
    → ((e : Event) → slice_get (recorded_thread r t).events (thread_of s t).events ≡ Some e → SuitsEvent (Try o) e → ⊥) → (v : ℕ)
    → LogsNext r s t v → ⊥
unsuited_try_logs_none r s t o is steps none v h =
    without_move_is_stopped r s t look.Disagrees (ask_of_try_is_not_done (ask_of s.code (thread_of s t)) o is, unsuited_try_disagrees r s t o is none) (λ m e. cc e) v
    (logs_next_can_follow r s t v (Try o) is refl steps h)

-- an object that is entered is one of the guest's
pub entered_index_below : (s : Flat) (t o : ℕ) (a : Access) (xs : List Cell) → IsFlat s → t < length s.threads
    → ask_of s.code (thread_of s t) ≡ Enter o a → xs ≡ s.objects → o < length xs
entered_index_below s t o a xs flat l is same = subst (λ z. o < length z) (sym same) (entered_object_exists s t o a flat l is)

-- what is read in its place
pub entered_is_its_cell : (s : Flat) (t o : ℕ) (a : Access) (xs : List Cell) (x : Cell) → IsFlat s → t < length s.threads
    → ask_of s.code (thread_of s t) ≡ Enter o a → xs ≡ s.objects → x ≡ slice_index_or xs o x → x ≡ cell_of s o
entered_is_its_cell s t o a xs x flat l is same read = read ∙ get_or_default xs o x empty (entered_index_below s t o a xs flat l is same)
    ∙ ap (λ z. slice_index_or z o empty) same
