-- The threads of a run take few steps.
use Rattle.std.proofs.Common.{ℕ, zero, suc, ◌*◌, ◌^◌, ◌<◌, ◌≤◌, length, arith}
use Rattle.ir_image.specs.Bounds.{IsGuest}
use Rattle.ir_image.proofs.CallerLemmas.{guest_threads_within, guest_objects_within}
use Rattle.ir_runs.specs.Run.{end}
use Rattle.ir_runs.specs.Verdicts.{sum_below}
use Rattle.ir_thread.specs.State as thread
use Rattle.ir_flat.proofs.CallerLemmas.{within_bounds_run_end, tallies_along_run, start_has_no_steps}
use Rattle.ir_trace.specs.Recorded.{recorded_thread}
use Rattle.ir_fit.specs.Fit.{FittedTrace, HasRun}
use Rattle.ir_fit.specs.Within.{IsFitted}
use Rattle.ir_cut.specs.Positions.{machine_of, start_of}
use Rattle.ir_holds.specs.Schedules.{all_steps}
use Rattle.ir_fit.proofs.CallerLemmas.{steps_within_budget}

-- each takes as many as its budget, and some to leave what it holds
thread_steps_are_few : (f : FittedTrace) → IsFitted f → IsGuest f.guest → (t : ℕ) → t < length f.guest.entries → (recorded_thread f.recorded t).steps ≤ 2 ^ 41
thread_steps_are_few f fitted guest t within =
    let h : HasRun f = fitted.run in
    let ok = h.whole.1.runs in
    let last = end (machine_of f) (start_of f) h.run in
    let bounded = (within_bounds_run_end f.guest f.recorded.budget f.recorded.profile h.run guest ok).threads t in
    let counted = (tallies_along_run f.guest.code (start_of f) h.run ok t).steps in
    let none = start_has_no_steps f.guest f.recorded.budget f.recorded.profile 0 (length f.guest.entries) t in
    let most = steps_within_budget (last.now t).ended (last.now t) bounded.steps in
    let objects = guest_objects_within f.guest guest in
    let took = h.whole.1.steps t within in
    let budget = fitted.within.budget_fits in
    let limit = bounded.limit in
    let places = bounded.places in
    omega (arith, counted, none, most, objects, took, budget, limit, places)

sum_of_bounded_terms : (n : ℕ) (f : ℕ → ℕ) → ((t : ℕ) → t < n → f t ≤ 2 ^ 41) → sum_below n f ≤ n * 2 ^ 41
sum_of_bounded_terms zero f few = omega arith
sum_of_bounded_terms (suc n) f few =
    let here = few n (omega arith) in
    let rest = sum_of_bounded_terms n f (λ t less. few t (omega (arith, less))) in
    omega (arith, here, rest)

pub all_steps_bound : (f : FittedTrace) → IsFitted f → IsGuest f.guest → all_steps f.recorded < 2 ^ 53
all_steps_bound f fitted guest =
    let same = fitted.run.whole.0.threads in
    let threads = guest_threads_within f.guest guest in
    let sum = sum_of_bounded_terms (length f.recorded.threads) (λ t. (recorded_thread f.recorded t).steps)
    (λ t less. thread_steps_are_few f fitted guest t (omega (arith, same, less))) in
    omega (arith, same, threads, sum)
