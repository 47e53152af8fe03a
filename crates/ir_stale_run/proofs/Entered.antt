-- A thread behind the entries of a row.
use Rattle.std.proofs.Common.{◌≡◌}
use Rattle.std.specs.Prelude.{None}
use Rattle.ir_runs.specs.declared.access.Access.TheVariants.{Reading, Writing}
use Rattle.ir_log.specs.declared.event.Event.TheVariants.{Read, Write}
use Rattle.ir_fit.specs.Fit.{FittedTrace, HasRun}
use Rattle.ir_cut.specs.Positions.{EachRun, machine_of, thread_at}
use Rattle.ir_past.specs.Past.{IsRow}
use Rattle.ir_past.specs.declared.stale_write.StaleWrite.{StaleWrite}
use Rattle.ir_events.specs.Events.{event_entry}
use Rattle.ir_events.proofs.CallerLemmas.{events_are_logged}
use Rattle.ir_event_walk.proofs.CallerLemmas.{object_held_after_entry}
use Rattle.ir_stale_run.specs.Rests.{behind_read, behind_write}
use Rattle.ir_stale_run.proofs.Leaving.{row_entries_are_placed}

-- behind the entries of a row its thread holds the object
pub none_held_behind_read : (f : FittedTrace) → HasRun f → (x : StaleWrite) → IsRow f.recorded x
    → EachRun f (λ run. (machine_of f).held (thread_at f run x.thread (behind_read f x)) x.object ≡ None → ⊥)
none_held_behind_read f h x row run of none =
    object_held_after_entry f run of x.thread (event_entry f x.thread x.read) x.object Reading x.version 0
    (events_are_logged f h x.thread x.read (Read x.object x.version) (row_entries_are_placed f h x row).there row.stale.read run of) none

pub none_held_behind_write : (f : FittedTrace) → HasRun f → (x : StaleWrite) → IsRow f.recorded x
    → EachRun f (λ run. (machine_of f).held (thread_at f run x.thread (behind_write f x)) x.object ≡ None → ⊥)
none_held_behind_write f h x row run of none =
    object_held_after_entry f run of x.thread (event_entry f x.thread x.event) x.object Writing x.written row.stale.readers
    (events_are_logged f h x.thread x.event (Write x.object x.written row.stale.readers) (row_entries_are_placed f h x row).there row.stale.write run of) none
