-- What an event enters its thread leaves.
use Rattle.std.proofs.Common.{◌≡◌, ℕ, ◌+◌, ◌<◌, ◌≤◌, List, length, Some, sym, ◌∙◌, subst, arith}
use Rattle.std.proofs.lemmas.Option.{same_Some, slice_get_within, none-some}
use Rattle.ir_runs.specs.Machine.{EnteredAt, LeftAt}
use Rattle.ir_runs.specs.Run.{Emits}
use Rattle.ir_runs.specs.declared.access.Access.{Access}
use Rattle.ir_runs.specs.declared.access.Access.TheVariants.{Reading, Writing}
use Rattle.ir_log.specs.Logging.{label_of}
use Rattle.ir_log.specs.declared.event.Event.{Event}
use Rattle.ir_log.specs.declared.event.Event.TheVariants.{Answer, Read, Write, Try}
use Rattle.ir_trace.specs.Recorded.{recorded_thread}
use Rattle.ir_fit.specs.Fit.{FittedTrace, HasRun}
use Rattle.ir_fit.proofs.CallerLemmas.{guest_start_is_start, event_position_emits}
use Rattle.ir_cut.specs.Positions.{machine_of, start_of}
use Rattle.ir_past.specs.Leaving.{LeavesFirst}
use Rattle.ir_past.specs.Past.{event_at, entered}
use Rattle.ir_past.proofs.CallerLemmas.{complete_entry_is_left}
use Rattle.ir_events.specs.Events.{event_entry}
use Rattle.ir_opened.specs.Positions.{LeavesFrom, EntryLeaves, IsLeaveOf}
use Rattle.ir_opened.proofs.Leaves.{emits_in_each_run, recorded_is_inside}
use Rattle.ir_opened.proofs.Paired.{slice_get_as_get_or}

-- the step of an event emits what is logged as it
pub event_step_emits_label : (f : FittedTrace) (h : HasRun f) (t i : ℕ) (e : Event) → event_at f.recorded t i ≡ Some e
    → Emits (machine_of f) (start_of f) h.run t (event_entry f t i) (label_of e)
event_step_emits_label f h t i e there =
    let es : List Event = (recorded_thread f.recorded t).events in
    let l : i < length es = slice_get_within es i e there in
    let same = same_Some _ e (sym (slice_get_as_get_or es i e l) ∙ there) in
    subst (λ z. Emits (machine_of f) (start_of f) h.run t (event_entry f t i) (label_of z)) same (event_position_emits f h t (recorded_is_inside f h t i e there).thread i e l)

-- the first leave behind an entry
leave_behind_entry_exists : (f : FittedTrace) (h : HasRun f) (t j o : ℕ) (a : Access) (v l : ℕ) → Emits (machine_of f) (start_of f) h.run t j (EnteredAt o a v l)
    → (k : ℕ) × LeavesFrom f t (j + 1) o a v k × ((n : ℕ) → LeavesFrom f t (j + 1) o a v n → k ≤ n)
leave_behind_entry_exists f h t j o a v l enters =
    let x : LeavesFirst (machine_of f) (start_of f) h.run t j o a v = complete_entry_is_left f.guest.code (start_of f)
    (guest_start_is_start f.guest f.recorded.budget f.recorded.profile) h.run (h.whole.1.runs, h.whole.1.done) t j o a v l enters in (
      x.leave,
      ((let past = x.past in omega (arith, past)), emits_in_each_run f h t x.leave (LeftAt o a v) x.leaves),
      λ n at. x.first n (let from = at.0 in omega (arith, from)) (at.1 h.run h.whole),
    )

first_leave_is_of_event : (f : FittedTrace) (t i k : ℕ) (e : Event) → event_at f.recorded t i ≡ Some e → EntryLeaves f t (event_entry f t i + 1) (Some e) k
    → ((n : ℕ) → EntryLeaves f t (event_entry f t i + 1) (Some e) n → k ≤ n) → IsLeaveOf f t i k
first_leave_is_of_event f t i k e there leaves first = record {
  leaves = subst (λ z. EntryLeaves f t (event_entry f t i + 1) z k) (sym there) leaves;
  first = λ n at. first n (subst (λ z. EntryLeaves f t (event_entry f t i + 1) z n) there at);
}

pub entering_event_has_leave : (f : FittedTrace) → HasRun f → (t i o : ℕ) (e : Event) → event_at f.recorded t i ≡ Some e → entered e ≡ Some o
    → (k : ℕ) × IsLeaveOf f t i k
entering_event_has_leave f h t i o (Answer kind value) there enters = absurd (none-some o enters)
entering_event_has_leave f h t i o (Read p v) there enters =
    let x = leave_behind_entry_exists f h t (event_entry f t i) p Reading v 0 (event_step_emits_label f h t i (Read p v) there) in
    (x.0, first_leave_is_of_event f t i x.0 (Read p v) there x.1 x.2)
entering_event_has_leave f h t i o (Write p v readers) there enters =
    let x = leave_behind_entry_exists f h t (event_entry f t i) p Writing v readers (event_step_emits_label f h t i (Write p v readers) there) in
    (x.0, first_leave_is_of_event f t i x.0 (Write p v readers) there x.1 x.2)
entering_event_has_leave f h t i o (Try p) there enters = absurd (none-some o enters)
