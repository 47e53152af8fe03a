-- How the steps of a run are listed beside its trace.
use Rattle.std.proofs.Common.{◌≡◌, ℕ, ◌<◌, List, length, Some, None, inl, inr, ap, ◌∙◌, subst, arith}
use Rattle.std.proofs.lemmas.Bool.{cases_lt}
use Rattle.std.specs.List.{slice_index_or}
use Rattle.std.proofs.lemmas.List.{get_or_past}
use Rattle.std.proofs.lemmas.Option.{slice_get_within, slice_get-get_or, get_or_from_slice_get}
use Rattle.ir_log.specs.declared.event.Event.TheVariants.{Read}
use Rattle.ir_fit.proofs.CallerLemmas as kept
use Rattle.ir_fit.proofs.CallerLemmas.{length-placed_of, emitting_is_guest_thread, entries_count_events, event_position_emits, entry_step_is_of_event, leave_step_emits_leave, emitted_leave_is_placed}
use Rattle.ir_cut.proofs.Again.{has_run_with_given_run_if_has_some_run}
use Rattle.std.specs.Prelude.{slice_get}
use Rattle.ir_runs.specs.Machine.{EnteredAt, LeftAt}
use Rattle.ir_runs.specs.declared.access.Access.{Access}
use Rattle.ir_runs.specs.Run.{Step, Emits}
use Rattle.ir_log.specs.Logging.{label_of}
use Rattle.ir_log.specs.declared.event.Event.{Event}
use Rattle.ir_trace.specs.Recorded.{recorded_thread}
use Rattle.ir_fit.specs.Fit.{FittedTrace, HasRun, IsRunOf}
use Rattle.ir_fit.specs.Placed.{placed_at, placed_of}
use Rattle.ir_fit.specs.Growing.{none_placed}
use Rattle.ir_fit.specs.declared.leave.Leave.{Leave}
use Rattle.ir_cut.specs.Positions.{machine_of, start_of}

-- the events of thread t, the positions of these, and its leaves
pub record IsListed (f : FittedTrace) (run : List Step) : Type 0 where
  pub sizes : (t : ℕ) → t < length f.guest.entries → length (placed_at (placed_of f) t).entries ≡ length (recorded_thread f.recorded t).events
  pub event : (t e i : ℕ) (x : Event) → t < length f.guest.entries → slice_get (recorded_thread f.recorded t).events e ≡ Some x
      → slice_get (placed_at (placed_of f) t).entries e ≡ Some i → Emits (machine_of f) (start_of f) run t i (label_of x)
  pub entry : (t i o : ℕ) (a : Access) (v l : ℕ) → Emits (machine_of f) (start_of f) run t i (EnteredAt o a v l) → (e : ℕ) × (x : Event)
      × (slice_get (placed_at (placed_of f) t).entries e ≡ Some i) × (slice_get (recorded_thread f.recorded t).events e ≡ Some x)
      × (label_of x ≡ EnteredAt o a v l)
  pub rise : (t e d i j : ℕ) → t < length f.guest.entries → e < d → slice_get (placed_at (placed_of f) t).entries e ≡ Some i
      → slice_get (placed_at (placed_of f) t).entries d ≡ Some j → i < j
  pub left : (t e : ℕ) (l : Leave) → t < length f.guest.entries → slice_get (placed_at (placed_of f) t).leaves e ≡ Some l
      → Emits (machine_of f) (start_of f) run t l.position (LeftAt l.object l.access l.version)
  pub leave : (t i o : ℕ) (a : Access) (v : ℕ) → Emits (machine_of f) (start_of f) run t i (LeftAt o a v) → (e : ℕ)
      × (slice_get (placed_at (placed_of f) t).leaves e ≡ Some (record { position = i; object = o; access = a; version = v }))
  pub fall : (t e d : ℕ) (l r : Leave) → t < length f.guest.entries → e < d → slice_get (placed_at (placed_of f) t).leaves e ≡ Some l
      → slice_get (placed_at (placed_of f) t).leaves d ≡ Some r → l.position < r.position

pub run_of_trace_is_listed : (f : FittedTrace) → HasRun f → (run : List Step) → IsRunOf f.guest f.recorded run → IsListed f run
unfolding has_run_with_given_run_if_has_some_run
run_of_trace_is_listed f h run is =
    let k : HasRun f = has_run_with_given_run_if_has_some_run f h run is in
    record {
      sizes = λ t there. entries_count_events f k t there;
      event = λ t e i x there at place.
          let inside = slice_get_within (recorded_thread f.recorded t).events e x at in
          subst (λ m. Emits (machine_of f) (start_of f) run t i (label_of m))
          (get_or_from_slice_get (recorded_thread f.recorded t).events e x x at)
          (subst (λ j. Emits (machine_of f) (start_of f) run t j (label_of (slice_index_or (recorded_thread f.recorded t).events e x)))
          (get_or_from_slice_get (placed_at (placed_of f) t).entries e i 0 place) (event_position_emits f k t there e x inside));
      entry = λ t i o a v l emitted.
          let there = emitting_is_guest_thread f k t i (EnteredAt o a v l) emitted in
          let d : Event = Read 0 0 in
          let e = entry_step_is_of_event f k t i o a v l emitted in
          let inside = e.1 in
          let size = entries_count_events f k t there in (
            e.0,
            slice_index_or (recorded_thread f.recorded t).events e.0 d,
            slice_get-get_or (placed_at (placed_of f) t).entries e.0 0
                (omega (arith, inside, size)) ∙ ap Some e.2,
            slice_get-get_or (recorded_thread f.recorded t).events e.0 d inside,
            e.3 d,
          );
      rise = λ t e d i j there less first second.
          let up = kept.event_positions_rise f k t there e d less (slice_get_within (placed_at (placed_of f) t).entries d j second) in
          let low = get_or_from_slice_get (placed_at (placed_of f) t).entries e i 0 first in
          let high = get_or_from_slice_get (placed_at (placed_of f) t).entries d j 0 second in
          omega (arith, up, low, high);
      left = λ t e l there at.
          let inside = slice_get_within (placed_at (placed_of f) t).leaves e l at in
          subst (λ z. Emits (machine_of f) (start_of f) run t z.position (LeftAt z.object z.access z.version))
          (get_or_from_slice_get (placed_at (placed_of f) t).leaves e l l at) (leave_step_emits_leave f k t there e l inside);
      leave = λ t i o a v emitted.
          let e = emitted_leave_is_placed f k t i o a v emitted in
          let d : Leave = record { position = i; object = o; access = a; version = v } in
          (e.0, slice_get-get_or (placed_at (placed_of f) t).leaves e.0 d e.1 ∙ ap Some (e.2 d));
      fall = λ t e d l r there less first second.
          let up = kept.leave_positions_rise f k t there e d l less (slice_get_within (placed_at (placed_of f) t).leaves d r second) in
          let low = ap (λ (z : Leave). z.position) (get_or_from_slice_get (placed_at (placed_of f) t).leaves e l l first) in
          let high = ap (λ (z : Leave). z.position) (get_or_from_slice_get (placed_at (placed_of f) t).leaves d r l second) in
          omega (arith, up, low, high);
    }

-- a leave is of a thread that there is
pub leave_below_threads : (f : FittedTrace) → HasRun f → (u e : ℕ) (l : Leave) → slice_get (placed_at (placed_of f) u).leaves e ≡ Some l
    → u < length f.guest.entries
leave_below_threads f h u e l at = elim (cases_lt u (length f.guest.entries)) [
  | inl less ↦ less
  | inr past ↦
      let none : placed_at (placed_of f) u ≡ none_placed = get_or_past (placed_of f) u none_placed (let same = length-placed_of f in omega (arith, past, same)) in
      absurd (some_is_none (subst (λ z. slice_get z.leaves e ≡ Some l) none at))
]
  where
    some_is_none : {A : Type 0} {x : A} → None ≡ Some x → ⊥
    some_is_none q = cc q
