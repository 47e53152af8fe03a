-- Where the threads of the rows read, write and leave.
use Rattle.std.proofs.Common.{◌+◌, ◌<◌, ℕ, length, refl, arith}
use Rattle.ir_log.specs.declared.event.Event.TheVariants.{Read, Write}
use Rattle.ir_fit.specs.Fit.{FittedTrace, HasRun}
use Rattle.ir_fit.specs.Within.{IsFitted}
use Rattle.ir_fit.proofs.CallerLemmas.{event_positions_rise}
use Rattle.ir_past.specs.Past.{IsRow}
use Rattle.ir_past.specs.declared.stale_write.StaleWrite.{StaleWrite}
use Rattle.ir_events.specs.Events.{event_entry}
use Rattle.ir_opened.specs.Positions.{IsInside, IsLeaveOf}
use Rattle.ir_opened.proofs.CallerLemmas.{recorded_is_inside, leave_is_within_thread}
use Rattle.ir_stale_run.specs.Rests.{behind_read, behind_write}
use Rattle.ir_stale_run.specs.Watch.{IsSpan}

-- where a row's entries are
pub record IsPlaced (f : FittedTrace) (x : StaleWrite) : Type 0 where
  pub there : x.thread < length f.guest.entries
  pub read : IsInside f x.thread x.read
  pub event : IsInside f x.thread x.event
  pub rises : event_entry f x.thread x.read < event_entry f x.thread x.event

pub row_entries_are_placed : (f : FittedTrace) → HasRun f → (x : StaleWrite) → IsRow f.recorded x → IsPlaced f x
row_entries_are_placed f h x row =
    let stale = row.stale in
    let read = recorded_is_inside f h x.thread x.read (Read x.object x.version) stale.read in
    let event = recorded_is_inside f h x.thread x.event (Write x.object x.written stale.readers) stale.write in
    record {
      there = event.thread;
      read = read;
      event = event;
      rises = event_positions_rise f h x.thread event.thread x.read x.event stale.later event.event;
    }

-- the positions of a row
pub row_positions_are_span : (f : FittedTrace) → IsFitted f → (x : StaleWrite) (row last : ℕ) → IsRow f.recorded x → IsLeaveOf f x.thread x.event last
    → IsSpan f x (record { row = row; object = x.object; read = behind_read f x; write = behind_write f x; end = last + 1 })
row_positions_are_span f fitted x row last is leave =
    let at = row_entries_are_placed f fitted.run x is in
    record {
      object = refl;
      read = refl;
      write = refl;
      rises = let up = at.rises in omega (arith, up);
      last = last;
      leave = leave;
      end = refl;
      within = let w = leave_is_within_thread f fitted.run x.thread x.event last at.there leave.leaves in omega (arith, w);
    }
