-- Hits are at positions of their thread.
use Rattle.std.proofs.Common.{◌≡◌, ◌≤◌, ◌<◌, ℕ, Bool, List, Option, Some, None, inl, inr, sym, ap, subst, arith}
use Rattle.std.proofs.lemmas.Bool.{cases_lt}
use Rattle.ir_runs.specs.Run.{Step, trail}
use Rattle.ir_runs.specs.Machine.{LeftAt}
use Rattle.ir_runs.specs.declared.access.Access.TheVariants.{Writing}
use Rattle.ir_mach.specs.Execution.{memory_word}
use Rattle.ir_thread.specs.State as thread
use Rattle.ir_fit.specs.Fit.{FittedTrace, HasRun, IsRunOf}
use Rattle.ir_fit.proofs.CallerLemmas.{at_is_get_or}
use Rattle.ir_cut.specs.Positions.{EachRun, machine_of, start_of, threads_of, last_of}
use Rattle.ir_command.specs.declared.command.Point.{Point}
use Rattle.ir_command.specs.declared.command.Point.TheVariants.{Break, Watch, WatchObject}
use Rattle.ir_command.specs.declared.hit.Hit.{Hit}
use Rattle.ir_hits.specs.Seeing.{steps_of}
use Rattle.ir_hits.specs.Hits.{HitBy, HitByNumber, Numbered}
use Rattle.ir_hits.proofs.CallerLemmas.{last_step_same_thread}
use Rattle.ir_gdb.specs.declared.point.Watched.{Watched}
use Rattle.ir_gdb.specs.declared.stopped.Stopped.{Stopped}
use Rattle.ir_gdb.specs.Guards.{Guarded}
use Rattle.ir_gdb.specs.Stub.{Stub}
use Rattle.ir_gdb.specs.Points.{upwards_of}
use Rattle.ir_gdb.specs.Stops.{position_of, end_above}
use Rattle.ir_gdb.specs.Conditions.{StopsUpwards, IsFirstStop, IsNextStop}
use Rattle.ir_gdb.proofs.Bounds.{stop_above_within_last}

hit_within_steps : (f : FittedTrace) (run : List Step) (t k : ℕ) (p : Point) → HitBy f run t k p → steps_of f run t < k → ⊥
hit_within_steps f run t k (Break u address) hit past = let l = hit.2 in omega (arith, l, past)
hit_within_steps f run t k (Watch u address) (same, (j, is, inl changes)) past =
    changes.1 (ap (λ (x : thread.ThreadState). memory_word x.core.memory address) (last_step_same_thread f run t j (omega (arith, is, past))))
hit_within_steps f run t k (Watch u address) (same, (j, is, inr puts)) past = let l = puts.0 in omega (arith, is, l, past)
hit_within_steps f run t k (WatchObject object) (j, is, (version, emitted)) past =
    let within = (at_is_get_or (trail (machine_of f) (start_of f) run t) j (emitted.0, LeftAt object Writing version) emitted.1).0 in
    omega (arith, is, within, past)

-- where a point of a number hits
pub number_hits_within_last : (f : FittedTrace) (run : List Step) (points : List Numbered) (t k n : ℕ) → IsRunOf f.guest f.recorded run → t < threads_of f
    → HitByNumber f run points t k n → k ≤ last_of f t
number_hits_within_last f run points t k n whole l (i, p, at, number, hits) = elim (cases_lt (last_of f t) k) [
  | inl past ↦ (let all = whole.1.steps t l in absurd (hit_within_steps f run t k p.point hits (omega (arith, past, all))))
  | inr le ↦ le
]

-- what stops at most at the last position is the first of all
next_stop_is_first : (P : ℕ → ℕ → Type 0) (p last : ℕ) (stop : Option Hit) → ((k n : ℕ) → P k n → k ≤ last) → IsNextStop P p last stop → IsFirstStop P p stop
next_stop_is_first P p last None within next = λ j n up stops. let le = within j n stops in next j n up (omega (arith, le)) stops
next_stop_is_first P p last (Some h) within next = (next.0, next.2, next.3)

pub next_stop_to_last_is_first : (s : Stub) (t last : ℕ) (w : Bool) (stop : Option Hit) → t < threads_of s.desk.fitted → last ≡ last_of s.desk.fitted t
    → EachRun s.desk.fitted (λ run. IsNextStop (StopsUpwards run s t w) (position_of s t) last stop)
    → EachRun s.desk.fitted (λ run. IsFirstStop (StopsUpwards run s t w) (position_of s t) stop)
next_stop_to_last_is_first s t last w stop l is next run whole = next_stop_is_first (StopsUpwards run s t w) (position_of s t) last stop
    (λ k n stops. subst (λ (m : ℕ). k ≤ m) (sym is) (number_hits_within_last s.desk.fitted run (upwards_of s t w) t k n whole l stops.0)) (next run whole)

-- where a search upwards ends is at a position of the thread
pub first_stop_end_within_last : (s : Stub) (t last : ℕ) (w : Bool) (ws : List Watched) (bs : List Guarded) (stop : Option Hit) (to : Stopped) → HasRun s.desk.fitted
    → t < threads_of s.desk.fitted → EachRun s.desk.fitted (λ run. IsFirstStop (StopsUpwards run s t w) (position_of s t) stop) → last ≡ last_of s.desk.fitted t
    → to ≡ end_above ws bs last stop → to.position ≤ last_of s.desk.fitted t
first_stop_end_within_last s t last w ws bs None to has l finds at is = let ends = ap (λ (x : Stopped). x.position) is in omega (arith, ends, at)
first_stop_end_within_last s t last w ws bs (Some h) to has l finds at is =
    let stops = (finds has.run has.whole).2.stops in
    let le = number_hits_within_last s.desk.fitted has.run (upwards_of s t w) t h.position h.number has.whole l stops.0 in
    subst (λ (x : Stopped). x.position ≤ last_of s.desk.fitted t) (sym is) (stop_above_within_last ws bs h (last_of s.desk.fitted t) le)
