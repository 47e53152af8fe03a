-- What the threads logged up to a cut is the first of what is recorded of them.
use Rattle.std.proofs.Common.{◌≡◌, ℕ, ◌+◌, ◌<◌, ◌≤◌, List, ◌++◌, length, map, take, sym, ap, ◌∙◌, arith, length-append}
use Rattle.std.proofs.Math.Seq.{take-append_seam}
use Rattle.std.proofs.lemmas.List.{length-map, take-map}
use Rattle.ir_runs.specs.Machine.{Label}
use Rattle.ir_runs.specs.Run.{Step, trail, events, log, Cut, part}
use Rattle.ir_flat.specs.Flat.{Flat, thread_of}
use Rattle.ir_log.specs.Logging.{label_of}
use Rattle.ir_log.specs.declared.event.Event.{Event}
use Rattle.ir_trace.specs.Recorded.{recorded_thread}
use Rattle.ir_fit.specs.Fit.{FittedTrace, IsRunOf}
use Rattle.ir_cut.specs.Positions.{machine_of, start_of}
use Rattle.ir_weave.specs.Standing.{StandsAtPlace}
use Rattle.ir_weave.proofs.Behind.{guest_part_is_run, tables_at_cut_are_end, events_at_end_are_log, log_after_cut, log_splits_at_cut}

-- thread t of s has logged the first of its events
pub record LogsBefore (f : FittedTrace) (p : Cut) (s : Flat) (run : List Step) (t : ℕ) : Type 0 where
  pub so_far : events (take (p t) (trail (machine_of f) (start_of f) run t)) ≡ map label_of
      (take (thread_of s t).events (recorded_thread f.recorded t).events)
  pub within : (thread_of s t).events ≤ length (recorded_thread f.recorded t).events
  pub all : length (log (machine_of f) (start_of f) run t) ≡ length (recorded_thread f.recorded t).events

pub logs_before_cut_recorded : (f : FittedTrace) (p : Cut) (s : Flat) (run : List Step) → IsRunOf f.guest f.recorded run → StandsAtPlace f p s run → (t : ℕ)
    → t < length f.guest.entries → LogsBefore f p s run t
logs_before_cut_recorded f p s run is at t l =
    let before : List Label = log (machine_of f) (start_of f) (part run p) t in
    let recorded : List Event = (recorded_thread f.recorded t).events in
    let count : (thread_of s t).events ≡ length before =
    ap (λ z. (z.now t).events) (tables_at_cut_are_end f p s run is at) ∙ events_at_end_are_log f (part run p) (guest_part_is_run f run is p at.consistent).ok t in
    let whole : before ++ log_after_cut f run p t ≡ map label_of recorded = log_splits_at_cut f run is p at.consistent t ∙ is.1.logs t l in
    let long : length recorded ≡ length before + length (log_after_cut f run p t) = sym (length-map recorded label_of) ∙ ap length (sym whole)
    ∙ length-append before (log_after_cut f run p t) in
    record {
      so_far =
          ap events (sym ((guest_part_is_run f run is p at.consistent).same_trail t))
          ∙ sym (take-append_seam before (log_after_cut f run p t))
          ∙ ap (take (length before)) whole
          ∙ ap (λ n. take n (map label_of recorded)) (sym count)
          ∙ take-map label_of (thread_of s t).events recorded;
      within = omega (arith, count, long);
      all = ap length (is.1.logs t l) ∙ length-map recorded label_of;
    }
