-- What an event needs behind a leave comes before it in each run with the trace.
use Rattle.std.proofs.Common.{◌≡◌, ℕ, ◌+◌, inl, inr, List, ◌++◌, length, take, drop, refl, sym, ap, ◌∙◌, subst, arith, length-append, take-append-drop}
use Rattle.std.specs.List.{slice_get}
use Rattle.std.proofs.lemmas.Bool.{cases_lt}
use Rattle.std.proofs.lemmas.Option.{same_Some}
use Rattle.ir_runs.specs.Machine.{Machine}
use Rattle.ir_runs.specs.Run.{State, Step, IsRun, end, trail, count, log, Cut, Consistent}
use Rattle.ir_runs.proofs.CallerLemmas.{state_invariant_start, trail_append, log_append, prefix_of_run_is_run, beginning_is_prefix}
use Rattle.ir_thread.specs.State.{ThreadState}
use Rattle.ir_thread.proofs.CallerLemmas.{thread_machine_lawful}
use Rattle.ir_fit.specs.Fit.{FittedTrace, HasRun}
use Rattle.ir_fit.proofs.CallerLemmas.{guest_start_is_start}
use Rattle.ir_cut.specs.Positions.{machine_of, start_of}
use Rattle.ir_run_picture.specs.Laws.{BehindComesFirst}
use Rattle.ir_run_picture.proofs.InCut.{needed_is_left_in_cut}
use Rattle.ir_run_picture.proofs.Walk.{number_of_monotone, number_of_own_step, steps_of_thread_counted}

-- where the threads are after the first n steps of a run is a consistent cut of it
first_steps_consistent : (f : FittedTrace) (h : HasRun f) (n : ℕ)
    → Consistent (machine_of f) (start_of f) h.run (count (machine_of f) (start_of f) (take n h.run))
first_steps_consistent f h n = (beginning_is_prefix m (thread_machine_lawful f.guest.code) s
    (state_invariant_start m s (guest_start_is_start f.guest f.recorded.budget f.recorded.profile)) h.run first h.whole.1.runs
    (prefix_of_run_is_run m s first rest (subst (IsRun m s) (sym whole) h.whole.1.runs)) (λ t. log m (end m s first) rest t)
    (λ t. sym (log_append m s first rest t) ∙ ap (λ run. log m s run t) whole)
    (λ t.
    let all = ap length (trail_append m s first rest t) in
    let both = length-append (trail m s first t) (trail m (end m s first) rest t) in
    let same = ap (λ run. count m s run t) whole in omega (arith, all, both, same))
    (count m s first) (λ t. refl)).consistent
  where
    m : Machine ThreadState
    m = machine_of f

    s : State ThreadState
    s = start_of f

    first : List Step
    first = take n h.run

    rest : List Step
    rest = drop n h.run

    whole : first ++ rest ≡ h.run
    whole = take-append-drop n h.run

pub behind_is_earlier : BehindComesFirst
behind_is_earlier f some t i u k behind run of m n early late = elim (cases_lt m n) [
  | inl less ↦ less
  | inr not ↦ absurd (
      let h : HasRun f = record { run = run; whole = of } in
      let cut : Cut = count (machine_of f) (start_of f) (take (n + 1) run) in
      let own = number_of_own_step t late.result n run late.there in
      let same = steps_of_thread_counted (machine_of f) (start_of f) (take (n + 1) run) t in
      let at = late.before in
      let left = needed_is_left_in_cut f h t i u behind.needs.needed behind.leave behind.needs.needs behind.needs.left cut
      (first_steps_consistent f h (n + 1)) (omega (arith, own, same, at)) in
      let before = behind.before in
      let other = steps_of_thread_counted (machine_of f) (start_of f) (take (n + 1) run) u in
      elim (cases_lt n m) [
        | inl more ↦
            let low = number_of_monotone u (n + 1) m run (omega (arith, more)) in
            let first = early.before in omega (arith, left, before, other, low, first)
        | inr equal ↦
            let one : n ≡ m = omega (arith, not, equal) in
            behind.other (sym (ap (λ (e : Step). e.0)
            (same_Some (t, late.result) (u, early.result) (sym late.there ∙ ap (slice_get run) one ∙ early.there))))
      ])
]
