-- What an event needs is left at each consistent cut that has the event, and so is what the waits of its chain needed.
use Rattle.std.proofs.Common.{◌≡◌, ℕ, zero, suc, ◌-◌, ◌<◌, inl, inr, Some, List, [], ◌∷◌, refl, sym, ap, ◌∙◌, subst, arith}
use Rattle.std.specs.Prelude.{slice_get}
use Rattle.std.proofs.lemmas.Option.{same_Some, none-some}
use Rattle.ir_runs.specs.Machine.{EnteredAt, LeftAt}
use Rattle.ir_runs.specs.declared.access.Access.TheVariants.{Reading, Writing}
use Rattle.ir_log.specs.declared.event.Event.TheVariants.{Read, Write}
use Rattle.ir_fit.specs.Fit.{FittedTrace, HasRun}
use Rattle.ir_cut.specs.Positions.{cut_of, IsConsistentCut}
use Rattle.ir_past.specs.declared.place.Place.{Place}
use Rattle.ir_picture.specs.Needs.{Needs}
use Rattle.ir_picture.specs.declared.placed_box.PlacedBox.{PlacedBox}
use Rattle.ir_events.specs.Events.{event_entry}
use Rattle.ir_opened.specs.Positions.{IsInside, IsLeaveOf}
use Rattle.ir_opened.proofs.CallerLemmas.{leave_of_read_emits, leave_of_write_emits, earlier_entry_step_le, event_step_emits_label}
use Rattle.ir_why.specs.Waits.{IsWaitFrom, AreWaits}
use Rattle.ir_why.specs.declared.wait.Wait.{Wait}

pub needed_left_before_cut : (f : FittedTrace) → HasRun f → (t i u j k : ℕ) → Needs f.recorded t i u j → IsLeaveOf f u j k → (cut : List ℕ) → IsConsistentCut f cut
    → event_entry f t i < cut_of cut t → k < cut_of cut u
needed_left_before_cut f h t i u j k (inl maker) left cut consistent inside = elim maker.entry [
  | inl read ↦ (consistent h.run h.whole).1 t (event_entry f t i) u k (EnteredAt maker.object Reading (suc maker.version) 0) (LeftAt maker.object Writing maker.version)
      (event_step_emits_label f h t i (Read maker.object (suc maker.version)) read)
      (leave_of_write_emits f h u j k maker.object maker.version maker.readers maker.made left) (refl, refl) inside
  | inr write ↦ (consistent h.run h.whole).1 t (event_entry f t i) u k (EnteredAt maker.object Writing (suc maker.version) write.0) (LeftAt maker.object Writing maker.version)
      (event_step_emits_label f h t i (Write maker.object (suc maker.version) write.0) write.1)
      (leave_of_write_emits f h u j k maker.object maker.version maker.readers maker.made left) (refl, refl) inside
]
needed_left_before_cut f h t i u j k (inr reader) left cut consistent inside =
    (consistent h.run h.whole).1 t (event_entry f t i) u k (EnteredAt reader.object Writing reader.version reader.readers) (LeftAt reader.object Reading reader.version)
    (event_step_emits_label f h t i (Write reader.object reader.version reader.readers) reader.write)
    (leave_of_read_emits f h u j k reader.object reader.version reader.read left) (refl, refl) inside

-- of a single wait
wait_is_before : (f : FittedTrace) → HasRun f → (boxes : List PlacedBox) (t i : ℕ) (w : Wait) → IsInside f t i → IsWaitFrom f boxes t i w
    → (cut : List ℕ) → IsConsistentCut f cut → event_entry f t i < cut_of cut t → (w.step < cut_of cut w.waiting.thread) × (w.left < cut_of cut w.needed.thread)
wait_is_before f h boxes t i w inside from cut consistent has = (
  subst (λ (p : Place). w.step < cut_of cut p.thread) (sym from.wait.waiting) (subst (λ z. w.step < cut_of cut z) (sym from.is.thread) waits),
  subst (λ (p : Place). w.left < cut_of cut p.thread) (sym from.wait.needed) (needed_left_before_cut f h t from.link.waiting.event from.link.needed.thread
      from.link.needed.event w.left from.is.needed.needed.0 from.wait.left cut consistent early),
)
  where
    early : event_entry f t from.link.waiting.event < cut_of cut t
    early = let by = from.is.waiting.by in let low = earlier_entry_step_le f h t i from.link.waiting.event inside by in omega (arith, low, has)

    waits : w.step < cut_of cut t
    waits =
        let at : w.step ≡ event_entry f t from.link.waiting.event = from.wait.step ∙ ap (λ z. event_entry f z from.link.waiting.event) from.is.thread in
        omega (arith, at, early)

pub chain_waits_are_before : (f : FittedTrace) → HasRun f → (boxes : List PlacedBox) (n t i : ℕ) (ws : List Wait) → IsInside f t i → AreWaits f boxes n t i ws
    → (cut : List ℕ) → IsConsistentCut f cut → event_entry f t i < cut_of cut t → (k : ℕ) (w : Wait) → slice_get ws k ≡ Some w
    → (w.step < cut_of cut w.waiting.thread) × (w.left < cut_of cut w.needed.thread)
chain_waits_are_before f h boxes n t i [] inside are cut consistent has k w is = absurd (none-some w is)
chain_waits_are_before f h boxes n t i (x ∷ xs) inside are cut consistent has zero w is =
    subst (λ (z : Wait). (z.step < cut_of cut z.waiting.thread) × (z.left < cut_of cut z.needed.thread)) (same_Some x w is)
    (wait_is_before f h boxes t i x inside are.1 cut consistent has)
chain_waits_are_before f h boxes n t i (x ∷ xs) inside are cut consistent has (suc k) w is =
    let next = are.2 in
    let left = (wait_is_before f h boxes t i x inside are.1 cut consistent has).1 in
    let before = next.1.before in
    chain_waits_are_before f h boxes (n - 1) x.needed.thread next.0 xs next.1.inside next.2 cut consistent (omega (arith, before, left)) k w is
