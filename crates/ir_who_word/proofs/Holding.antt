-- Where the threads hold the object for writing.
use Rattle.std.proofs.Common.{◌≡◌, ◌+◌, ℕ, List, refl, subst, arith}
use Rattle.std.specs.Prelude.{Option, Some, slice_get}
use Rattle.ir_log.specs.declared.event.Event.{Event}
use Rattle.ir_log.specs.declared.event.Event.TheVariants.{Write}
use Rattle.ir_runs.specs.declared.access.Access.TheVariants.{Writing}
use Rattle.ir_trace.specs.Recorded.{Recorded}
use Rattle.ir_fit.specs.Fit.{FittedTrace, HasRun}
use Rattle.ir_past.specs.Past.{IsWriteAt, IsMadeBy}
use Rattle.ir_past.specs.declared.place.Place.{Place}
use Rattle.ir_events.specs.Events.{event_entry}
use Rattle.ir_opened.specs.Positions.{LeavesFrom, EntryLeaves, LeavesAfter, IsLeaveOf}
use Rattle.ir_opened.proofs.CallerLemmas.{entering_event_has_leave, recorded_is_inside, leave_is_past_event, leave_is_within_thread}
use Rattle.ir_who.specs.Versions.{AreVersions}
use Rattle.ir_who.specs.declared.version.Version.{Version}
use Rattle.ir_who_word.specs.Track.{IsHold}

-- the positions of a write entry and of its leave
pub write_and_leave_hold : (f : FittedTrace) → HasRun f → (p : Place) (row entry last o v l : ℕ) → IsWriteAt f.recorded p.thread p.event o v l
    → IsLeaveOf f p.thread p.event last → entry ≡ event_entry f p.thread p.event
    → IsHold f o p (record { row = row; entry = entry; leave = last })
write_and_leave_hold f h p row entry last o v l is leave same =
    let e : Event = Write o v l in
    let there = recorded_is_inside f h p.thread p.event e is in
    let leaves : LeavesFrom f p.thread (event_entry f p.thread p.event + 1) o Writing v last =
    subst (λ (x : Option Event). EntryLeaves f p.thread (event_entry f p.thread p.event + 1) x last) is leave.leaves in
    record {
      inside = there;
      entry = same;
      leave = leave;
      version = v;
      emits = leaves.1;
      past = let a = leave_is_past_event f p.thread p.event last leave.leaves in omega (arith, a, same);
      within = leave_is_within_thread f h p.thread p.event last there.thread leave.leaves;
    }

-- a write entry is left
pub write_entry_is_left : (f : FittedTrace) → HasRun f → (t i o v l : ℕ) → IsWriteAt f.recorded t i o v l → ((k : ℕ) → LeavesAfter f t i k → ⊥) → ⊥
write_entry_is_left f h t i o v l is never =
    let left = entering_event_has_leave f h t i o (Write o v l) is refl in never left.0 left.1.leaves

-- what made a version is a write entry
pub version_maker_is_write : (r : Recorded) (o : ℕ) (rows : List Version) → AreVersions r o rows → (k : ℕ) (x : Version) (p : Place) → slice_get rows k ≡ Some x
    → x.made_by ≡ Some p → (v l : ℕ) × IsWriteAt r p.thread p.event o v l
version_maker_is_write r o rows all k x p there made =
    let is : IsMadeBy r o k (Some p) = subst (IsMadeBy r o k) made (all.each k x there).made in (is.0, is.1, is.3)
