-- A run that logs the first events of another's threads leads to one of the other's consistent cuts.
use Rattle.std.proofs.Common.{◌≡◌, ℕ, suc, ◌≤◌, cond, eqb, List, [], ◌∷◌, ◌++◌, length, take, sym, ap, ◌∙◌, refl, arith}
use Rattle.std.proofs.Math.Seq.{take-append_seam}
use Rattle.ir_runs.specs.Machine.{Machine, Label}
use Rattle.ir_runs.specs.Lawful.{IsLawful}
use Rattle.ir_runs.specs.Run.{State, Step, IsRun, end, trail, events, log, count, Cut, IsCut, Consistent, part}
use Rattle.ir_runs.proofs.Append.{trail_append, append_of_runs_is_run}
use Rattle.ir_runs.proofs.Good.{StateInvariant}
use Rattle.ir_runs.proofs.Determined.{same_trails_consistent}
use Rattle.ir_runs.proofs.Same.{BeginsRun, beginning_logs_begin_run, same_logs_same_trails}
use Rattle.ir_runs.proofs.Sort.{PartIsRun, consistent_part_is_run}
use Rattle.ir_runs.proofs.Early.{moment, moment_is_consistent}
use Rattle.ir_runs.proofs.Order.{moment_at_length, equal_cut_is_consistent}
use Rattle.ir_runs.proofs.Admit.{moment_append_at_end}

-- the prefix leads to the cut p of the run, which is consistent
pub record IsPrefix {T : Type 0} (m : Machine T) (s : State T) (run prefix : List Step) (p : Cut) : Type 0 where
  pub cut : IsCut m s run p
  pub consistent : Consistent m s run p
  pub same_end : end m s prefix ≡ end m s (part run p)

-- the positions at its end are a consistent cut
beginning_is_consistent : {T : Type 0} (m : Machine T) → IsLawful m → (s : State T) → StateInvariant m s → (run prefix : List Step) → IsRun m s prefix
    → BeginsRun m s prefix run → (p : Cut) → ((t : ℕ) → count m s prefix t ≡ p t) → Consistent m s run p
beginning_is_consistent m law s good run prefix ok g p is =
    same_trails_consistent m s (prefix ++ g.rest) run (λ u. trail_append m s prefix g.rest u ∙ g.same_trail u) p
    (equal_cut_is_consistent m s (prefix ++ g.rest) (moment (prefix ++ g.rest) (length prefix)) p
    (λ u. moment_append_at_end prefix g.rest u ∙ moment_at_length m s prefix u ∙ is u)
    (moment_is_consistent m law s good (prefix ++ g.rest) (append_of_runs_is_run m s prefix g.rest ok g.ok) (length prefix)))

-- its steps are those in the cut
beginning_trail_is_take : {T : Type 0} (m : Machine T) (s : State T) (run prefix : List Step) → BeginsRun m s prefix run → (p : Cut)
    → ((t : ℕ) → count m s prefix t ≡ p t) → (u : ℕ) → trail m s prefix u ≡ take (p u) (trail m s run u)
beginning_trail_is_take m s run prefix g p is u =
    sym (take-append_seam (trail m s prefix u) (trail m (end m s prefix) g.rest u)) ∙ ap (take (count m s prefix u)) (g.same_trail u)
    ∙ ap (λ n. take n (trail m s run u)) (is u)

pub beginning_is_prefix : {T : Type 0} (m : Machine T) → IsLawful m → (s : State T) → StateInvariant m s → (run prefix : List Step) → IsRun m s run
    → IsRun m s prefix → (left : ℕ → List Label)
    → ((t : ℕ) → log m s prefix t ++ left t ≡ log m s run t) → ((t : ℕ) → count m s prefix t ≤ count m s run t) → (p : Cut)
    → ((t : ℕ) → count m s prefix t ≡ p t) → IsPrefix m s run prefix p
beginning_is_prefix m law s good run prefix ok ok' left logs few p is =
    let g : BeginsRun m s prefix run = beginning_logs_begin_run m law s good prefix run ok' ok left logs few in
    let c : Consistent m s run p = beginning_is_consistent m law s good run prefix ok' g p is in
    let z : PartIsRun m s run p = consistent_part_is_run m law s good run ok p c in
    record {
      cut = λ u. let a = few u in let b = is u in omega (arith, a, b);
      consistent = c;
      same_end = (same_logs_same_trails m law s good prefix (part run p) ok' z.ok
          (λ u. ap events (beginning_trail_is_take m s run prefix g p is u ∙ sym (z.same_trail u)))
          (λ u. ap length (beginning_trail_is_take m s run prefix g p is u ∙ sym (z.same_trail u)))).same_end;
    }
