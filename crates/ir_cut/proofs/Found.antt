-- What the searches find.
use Rattle.std.proofs.Common.{◌≡◌, ◌≢◌, ℕ, max, min, ◌<◌, ◌≤◌, List, length, set, sym, ap, ◌∙◌, subst, arith, length-set}
use Rattle.std.specs.List.{slice_index_or}
use Rattle.ir_trace.specs.Recorded.{recorded_thread}
use Rattle.ir_fit.specs.Fit.{FittedTrace}
use Rattle.ir_fit.specs.Within.{IsFitted}
use Rattle.ir_thread.proofs.CallerLemmas.{thread_machine_lawful}
use Rattle.ir_runs.proofs.CallerLemmas.{state_invariant_start, least_exact_at_thread, greatest_exact_at_thread}
use Rattle.ir_fit.proofs.CallerLemmas.{guest_start_is_start}
use Rattle.ir_cut.specs.Positions.{machine_of, start_of, cut_of, EachRun, IsConsistentCut}
use Rattle.ir_cut.specs.Searching.{Rising, Falling, NoneBelow, NoneAbove, AreFirst, AreRest, IsLeastCut, IsGreatestCut}
use Rattle.ir_cut.proofs.Listing.{run_of_trace_is_listed, leave_below_threads}
use Rattle.ir_cut.proofs.Searched.{start_is_rising, rising_end_is_least, start_is_falling, falling_end_is_greatest}
use Rattle.ir_cut.proofs.Stepping.{cut_of_is_indexed, cut_of_set_is_new, cut_of_set_elsewhere}

-- the number that is kept of thread t, where it was copied, and those of the others
pub cut_of_set_own : (ps xs : List ℕ) (t v w : ℕ) → xs ≡ ps → t < length ps → v ≡ slice_index_or xs t v → (cut_of (set xs t w) t ≡ w)
    × (cut_of ps t ≡ v)
cut_of_set_own ps xs t v w is l read = (
  cut_of_set_is_new xs t w (subst (λ z. t < length z) (sym is) l),
  ap (λ z. cut_of z t) (sym is) ∙ cut_of_is_indexed xs t v (subst (λ z. t < length z) (sym is) l) read,
)

pub cut_of_set_other : (ps xs : List ℕ) (t w u : ℕ) → xs ≡ ps → u ≢ t → cut_of (set xs t w) u ≡ cut_of ps u
cut_of_set_other ps xs t w u is ne = cut_of_set_elsewhere xs t w u ne ∙ ap (λ z. cut_of z u) is

pub rising_cut_is_least : (f : FittedTrace) → IsFitted f → (ps xs next qs next' : List ℕ) (t k v w : ℕ) → length ps ≡ length f.guest.entries
    → IsConsistentCut f ps → t < length f.guest.entries → k ≤ (recorded_thread f.recorded t).steps
    → xs ≡ ps → v ≡ slice_index_or xs t v → w ≡ max v k → length next ≡ length f.guest.entries
    → ((u : ℕ) → u < length f.guest.entries → AreFirst f ps u (cut_of next u))
    → ((os : List ℕ) (u j : ℕ) → EachRun f (Rising f os u j (set xs t w) next) → EachRun f (Rising f os u j qs next'))
    → length qs ≡ length (set xs t w) → ((u : ℕ) → u < length f.guest.entries → NoneBelow f qs next' u)
    → IsLeastCut f ps t k qs
rising_cut_is_least f fit ps xs next qs next' t k v w size con there steps copied read most sizes first rises same over = (
  same ∙ length-set xs t w ∙ ap length copied ∙ size,
  (λ run is.
      let inside : t < length ps = omega (arith, there, size) in
      let own = cut_of_set_own ps xs t v w copied inside read in
      rising_end_is_least f fit.run run is (run_of_trace_is_listed f fit.run run is) ps qs next' t k
      (rises ps t k (λ run' is'. start_is_rising f run' is' (run_of_trace_is_listed f fit.run run' is') ps (set xs t w) next t k (con run' is').0
      (con run' is').1 there steps
      (own.0 ∙ most ∙ ap (λ z. max z k) (sym own.1)) (λ u ne. cut_of_set_other ps xs t w u copied ne) sizes first) run is) over),
)

pub falling_cut_is_greatest : (f : FittedTrace) → IsFitted f → (ps xs next qs next' : List ℕ) (t k v w : ℕ) → length ps ≡ length f.guest.entries
    → IsConsistentCut f ps → t < length f.guest.entries
    → xs ≡ ps → v ≡ slice_index_or xs t v → w ≡ min v k → ((u : ℕ) → u < length f.guest.entries → AreRest f ps u (cut_of next u))
    → ((os : List ℕ) (u j : ℕ) → EachRun f (Falling f os u j (set xs t w) next) → EachRun f (Falling f os u j qs next'))
    → length qs ≡ length (set xs t w) → ((u : ℕ) → u < length f.guest.entries → NoneAbove f qs next' u)
    → IsGreatestCut f ps t k qs
falling_cut_is_greatest f fit ps xs next qs next' t k v w size con there copied read least rest falls same over = (
  same ∙ length-set xs t w ∙ ap length copied ∙ size,
  (λ run is.
      let inside : t < length ps = omega (arith, there, size) in
      let own = cut_of_set_own ps xs t v w copied inside read in
      falling_end_is_greatest f fit.run run is (run_of_trace_is_listed f fit.run run is) ps qs next' t k (con run is).0
      (falls ps t k (λ run' is'. start_is_falling f run' (run_of_trace_is_listed f fit.run run' is') ps (set xs t w) next t k (con run' is').1 there
      (own.0 ∙ least ∙ ap (λ z. min z k) (sym own.1)) (λ u ne. cut_of_set_other ps xs t w u copied ne) rest (leave_below_threads f fit.run)) run is) over),
)

-- ---- where the thread is in them

pub least_cut_at_position : (f : FittedTrace) → IsFitted f → (ps qs : List ℕ) (t k : ℕ) → IsConsistentCut f ps → t < length f.guest.entries
    → k ≤ (recorded_thread f.recorded t).steps → IsLeastCut f ps t k qs → cut_of ps t ≤ k → cut_of qs t ≡ k
least_cut_at_position f fit ps qs t k con there steps least lo =
    let run = fit.run.run in
    let is = fit.run.whole in
    least_exact_at_thread (machine_of f) (thread_machine_lawful f.guest.code) (start_of f)
    (state_invariant_start (machine_of f) (start_of f) (guest_start_is_start f.guest f.recorded.budget f.recorded.profile)) run is.1.runs (cut_of ps) (cut_of qs) t k (con run is).0
    (con run is).1 lo
    (let a = is.1.steps t there in omega (arith, a, steps)) (least.1 run is)

pub greatest_cut_at_position : (f : FittedTrace) → IsFitted f → (ps qs : List ℕ) (t k : ℕ) → IsConsistentCut f ps → IsGreatestCut f ps t k qs
    → k ≤ cut_of ps t → cut_of qs t ≡ k
greatest_cut_at_position f fit ps qs t k con greatest hi =
    let run = fit.run.run in
    let is = fit.run.whole in
    greatest_exact_at_thread (machine_of f) (thread_machine_lawful f.guest.code) (start_of f)
    (state_invariant_start (machine_of f) (start_of f) (guest_start_is_start f.guest f.recorded.budget f.recorded.profile)) run is.1.runs (cut_of ps) (cut_of qs) t k (con run is).0
    (con run is).1 hi (greatest.1 run is)
