use Rattle.std.proofs.Common.{◌≡◌, ◌<◌, ◌≤◌, ℕ, List, length, sym, ap, ◌∙◌, subst, arith}
use Rattle.ir_trace.specs.Recorded.{recorded_thread}
use Rattle.ir_fit.specs.Fit.{FittedTrace, HasRun}
use Rattle.ir_fit.specs.Placed.{Placed, placed_at, placed_of}
use Rattle.ir_fit.proofs.Listed.{entries_count_events}
use Rattle.ir_fit.proofs.Placements.{length-placed_of}
use Rattle.ir_fit.proofs.fitted.Fitted.new.Goals as goal

places_not_above_threads : (f : FittedTrace) (ps : List Placed) → HasRun f → ps ≡ placed_of f → length ps ≤ length f.recorded.threads
places_not_above_threads f ps run placed = omega (arith, ap length placed, length-placed_of f, run.whole.0.threads)

events_not_above_positions : (f : FittedTrace) (ps : List Placed) → HasRun f → ps ≡ placed_of f → (t : ℕ) → t < length ps
    → length (recorded_thread f.recorded t).events ≤ length (placed_at ps t).entries
events_not_above_positions f ps run placed t l =
    let within : t < length f.guest.entries = omega (arith, l, ap length placed, length-placed_of f) in
    let same = entries_count_events f run t within in
    subst (λ (qs : List Placed). length (recorded_thread f.recorded t).events ≤ length (placed_at qs t).entries) (sym placed) (omega (arith, same))

pub entered-requires-clause-each : goal.entered-requires-clause-each
entered-requires-clause-each c = events_not_above_positions (record { guest = c.args.image; recorded = c.args.trace }) c.deref.result.now c.requires.run
    (c.deref.ensures.value ∙ c.requires.places)

pub entered-requires-clause-threads : goal.entered-requires-clause-threads
entered-requires-clause-threads c = places_not_above_threads (record { guest = c.args.image; recorded = c.args.trace }) c.deref.result.now c.requires.run
    (c.deref.ensures.value ∙ c.requires.places)

pub left-requires-clause-each : goal.left-requires-clause-each
left-requires-clause-each c = events_not_above_positions (record { guest = c.args.image; recorded = c.args.trace }) c.deref-2.result.now c.requires.run
    (c.deref-2.ensures.value ∙ c.requires.places)

pub left-requires-clause-threads : goal.left-requires-clause-threads
left-requires-clause-threads c = places_not_above_threads (record { guest = c.args.image; recorded = c.args.trace }) c.deref-2.result.now c.requires.run
    (c.deref-2.ensures.value ∙ c.requires.places)
