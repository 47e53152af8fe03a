-- What an event needs behind a leave is in each consistent cut that has the event.
use Rattle.std.proofs.Common.{ℕ, suc, ◌<◌, inl, inr, refl, arith}
use Rattle.ir_runs.specs.Machine.{EnteredAt, LeftAt}
use Rattle.ir_runs.specs.Run.{Cut, Consistent}
use Rattle.ir_runs.specs.declared.access.Access.TheVariants.{Reading, Writing}
use Rattle.ir_log.specs.declared.event.Event.TheVariants.{Read, Write}
use Rattle.ir_fit.specs.Fit.{FittedTrace, HasRun}
use Rattle.ir_cut.specs.Positions.{cut_of, machine_of, start_of}
use Rattle.ir_picture.specs.Needs.{Needs}
use Rattle.ir_events.specs.Events.{event_entry}
use Rattle.ir_opened.specs.Positions.{IsLeaveOf}
use Rattle.ir_opened.proofs.CallerLemmas.{leave_of_read_emits, leave_of_write_emits, event_step_emits_label}
use Rattle.ir_run_picture.specs.Laws.{BehindIsInCut}

-- what an event needs is left in each consistent cut of a run that has the event
pub needed_is_left_in_cut : (f : FittedTrace) (h : HasRun f) (t i u j k : ℕ) → Needs f.recorded t i u j → IsLeaveOf f u j k → (c : Cut)
    → Consistent (machine_of f) (start_of f) h.run c → event_entry f t i < c t → k < c u
needed_is_left_in_cut f h t i u j k (inl maker) left c consistent inside = elim maker.entry [
  | inl read ↦ consistent t (event_entry f t i) u k (EnteredAt maker.object Reading (suc maker.version) 0) (LeftAt maker.object Writing maker.version)
      (event_step_emits_label f h t i (Read maker.object (suc maker.version)) read)
      (leave_of_write_emits f h u j k maker.object maker.version maker.readers maker.made left) (refl, refl) inside
  | inr write ↦ consistent t (event_entry f t i) u k (EnteredAt maker.object Writing (suc maker.version) write.0) (LeftAt maker.object Writing maker.version)
      (event_step_emits_label f h t i (Write maker.object (suc maker.version) write.0) write.1)
      (leave_of_write_emits f h u j k maker.object maker.version maker.readers maker.made left) (refl, refl) inside
]
needed_is_left_in_cut f h t i u j k (inr reader) left c consistent inside =
    consistent t (event_entry f t i) u k (EnteredAt reader.object Writing reader.version reader.readers) (LeftAt reader.object Reading reader.version)
    (event_step_emits_label f h t i (Write reader.object reader.version reader.readers) reader.write)
    (leave_of_read_emits f h u j k reader.object reader.version reader.read left) (refl, refl) inside

pub behind_in_cut_too : BehindIsInCut
behind_in_cut_too f h t i u k behind cut consistent inside =
    let left = needed_is_left_in_cut f h t i u behind.needs.needed behind.leave behind.needs.needs behind.needs.left (cut_of cut) (consistent h.run h.whole).1 inside in
    let before = behind.before in
    omega (arith, before, left)
