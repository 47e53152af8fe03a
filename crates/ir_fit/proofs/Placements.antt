-- The positions of events and leaves that a trace determines.
use Rattle.std.proofs.Common.{◌≡◌, ℕ, zero, suc, ◌<◌, ◌≤◌, List, [], ◌∷◌, length, map, Some, refl, sym, ap, ◌∙◌, subst, arith, inl, inr}
use Rattle.std.specs.Prelude.{slice_get}
use Rattle.std.proofs.lemmas.Bool.{cases_lt}
use Rattle.std.proofs.lemmas.List.{length-map}
use Rattle.std.proofs.lemmas.List.FromFn.{get_or-map-range_with_len, length-map-range_with_len}
use Rattle.ir_image.specs.Guest.{Guest}
use Rattle.ir_thread.specs.State.{thread_machine}
use Rattle.ir_thread.specs.State as thread
use Rattle.ir_thread.proofs.CallerLemmas.{thread_machine_lawful, thread_machine_closing}
use Rattle.ir_runs.specs.Machine.{Machine, Label}
use Rattle.ir_runs.specs.Run.{State, Step, after, IsRun, trail, events}
use Rattle.ir_runs.specs.Bounds.{IsIdle}
use Rattle.ir_runs.specs.Standing.{StandsAs}
use Rattle.ir_runs.specs.declared.thread_verdict.ThreadVerdict.{ThreadVerdict}
use Rattle.ir_runs.specs.declared.thread_verdict.ThreadVerdict.TheVariants.{Same}
use Rattle.ir_runs.proofs.CallerLemmas.{state_invariant_start, same_logs_same_trails, trail_cons_other, idle_stays_idle, done_follower_is_whole, whole_run_follower_done}
use Rattle.ir_flat.specs.Flat.{Flat, start_flat, tables}
use Rattle.ir_flat.proofs.CallerLemmas.{guest_start_is_idle}
use Rattle.ir_trace.specs.Recorded.{Recorded, trace_of}
use Rattle.ir_fit.specs.Fit.{FittedTrace, HasHeader, HasRun, IsRunOf}
use Rattle.ir_fit.specs.Follower.{IsFollowed, AreStanding}
use Rattle.ir_fit.specs.Growing.{Growing, grown, growing_at, none_placed}
use Rattle.ir_fit.specs.Placed.{Placed, placed_at, places_from, leaves_from, maximal_run_of, placed_in, placed_of, ArePlaced}
use Rattle.ir_fit.proofs.Furthest.{verdict_below_length, same_threads_have_run, trace_of_run_coherent}
use Rattle.ir_fit.proofs.Guests.{guest_start_is_start, guest_start_is_live}

pub idle_has_empty_trail : {T : Type 0} (m : Machine T) (s : State T) (n : ℕ) → IsIdle m s n → (run : List Step) → IsRun m s run → (t : ℕ) → n ≤ t
    → trail m s run t ≡ []
idle_has_empty_trail m s n idle [] ok t l = refl
idle_has_empty_trail m s n idle (e ∷ run) ok t l =
    let g = idle_stays_idle m s n idle e ok.0 in
    trail_cons_other m s e run t (λ q. absurd (omega (arith, q, l, g.0))) ∙ idle_has_empty_trail m (after m s e) n g.1 run ok.1 t l

-- the steps of thread t in a run of the guest under the trace's budget
abbrev steps_in : FittedTrace → List Step → ℕ → List (thread.ThreadState × Label)
steps_in f run t = trail (thread_machine f.guest.code) (tables (start_flat f.guest f.recorded.budget f.recorded.profile)) run t

pub missing_has_no_trail : (f : FittedTrace) (run : List Step) → IsRunOf f.guest f.recorded run → (t : ℕ) → length f.guest.entries ≤ t
    → steps_in f run t ≡ []
missing_has_no_trail f run is t l = idle_has_empty_trail (thread_machine f.guest.code)
    (tables (start_flat f.guest f.recorded.budget f.recorded.profile)) (length f.guest.entries)
    (guest_start_is_idle f.guest f.recorded.budget f.recorded.profile) run is.1.runs t l

-- runs with the trace have the same steps of each thread
pub trail_same_in_runs : (f : FittedTrace) (run run' : List Step) → IsRunOf f.guest f.recorded run → IsRunOf f.guest f.recorded run' → (t : ℕ)
    → steps_in f run t ≡ steps_in f run' t
trail_same_in_runs f run run' is is' =
    let m = thread_machine f.guest.code in
    let s = tables (start_flat f.guest f.recorded.budget f.recorded.profile) in
    (same_logs_same_trails m (thread_machine_lawful f.guest.code) s
    (state_invariant_start m s (guest_start_is_start f.guest f.recorded.budget f.recorded.profile)) run run' is.1.runs is'.1.runs
    (λ t. elim (cases_lt t (length f.guest.entries)) [
      | inl l ↦ is.1.logs t l ∙ sym (is'.1.logs t l)
      | inr l ↦ ap events (missing_has_no_trail f run is t l ∙ sym (missing_has_no_trail f run' is' t l))
    ])
    (λ t. elim (cases_lt t (length f.guest.entries)) [
      | inl l ↦ is.1.steps t l ∙ sym (is'.1.steps t l)
      | inr l ↦ ap length (missing_has_no_trail f run is t l ∙ sym (missing_has_no_trail f run' is' t l))
    ])).same_trail

-- if a complete run has the trace, so has the run that follows it as far as any can
maximal_run_has_trace : (f : FittedTrace) → HasRun f → IsRunOf f.guest f.recorded (maximal_run_of f).run
maximal_run_has_trace f h =
    let m = thread_machine f.guest.code in
    let s = tables (start_flat f.guest f.recorded.budget f.recorded.profile) in
    let n = length f.guest.entries in
    let tr = trace_of f.recorded in
    let b = maximal_run_of f in
    let begins = guest_start_is_start f.guest f.recorded.budget f.recorded.profile in (
      h.whole.0,
      done_follower_is_whole n m (thread_machine_closing f.guest.code) tr s (guest_start_is_live f.guest f.recorded.budget f.recorded.profile)
          b.run b.ok (whole_run_follower_done n m (thread_machine_lawful f.guest.code) (thread_machine_closing f.guest.code) tr
          (trace_of_run_coherent f.guest f.recorded h.run h.whole) s (state_invariant_start m s begins) begins
          (guest_start_is_idle f.guest f.recorded.budget f.recorded.profile) b.run b.ok b.top h.run h.whole.1),
    )

-- what is kept of a thread is of the run, whichever run with the trace it is
placed_at_is_of_run : (f : FittedTrace) (h : HasRun f) (t : ℕ) → t < length f.guest.entries → placed_at (placed_of f) t ≡ placed_in f h.run t
unfolding placed_of
placed_at_is_of_run f h t l =
    get_or-map-range_with_len (placed_in f (maximal_run_of f).run) 0 (length f.guest.entries) t t none_placed l (omega arith)
    ∙ ap (λ steps. record { entries = places_from 0 steps; leaves = leaves_from 0 steps })
    (trail_same_in_runs f (maximal_run_of f).run h.run (maximal_run_has_trace f h) h.whole t)

pub length-placed_of : (f : FittedTrace) → length (placed_of f) ≡ length f.guest.entries
unfolding placed_of
length-placed_of f = length-map-range_with_len (placed_in f (maximal_run_of f).run) 0 (length f.guest.entries)

pub placed_of_are_of_run : (f : FittedTrace) (h : HasRun f) → ArePlaced f h.run (placed_of f)
placed_of_are_of_run f h = record {
  each = length-placed_of f;
  entries = λ t l. ap (λ p. p.entries) (placed_at_is_of_run f h t l);
  leaves = λ t l. ap (λ p. p.leaves) (placed_at_is_of_run f h t l);
}

pub placed_entries_of_run : (f : FittedTrace) (h : HasRun f) (t : ℕ) → t < length f.guest.entries
    → (placed_at (placed_of f) t).entries ≡ places_from 0 (steps_in f h.run t)
placed_entries_of_run f h t l = (placed_of_are_of_run f h).entries t l

pub placed_leaves_of_run : (f : FittedTrace) (h : HasRun f) (t : ℕ) → t < length f.guest.entries
    → (placed_at (placed_of f) t).leaves ≡ leaves_from 0 (steps_in f h.run t)
placed_leaves_of_run f h t l = (placed_of_are_of_run f h).leaves t l

placed_equal_each : (ps qs : List Placed) → length ps ≡ length qs
    → ((t : ℕ) → t < length ps → ((placed_at ps t).entries ≡ (placed_at qs t).entries) × ((placed_at ps t).leaves ≡ (placed_at qs t).leaves)) → ps ≡ qs
placed_equal_each [] [] size each = refl
placed_equal_each [] (q ∷ qs) size each = absurd (omega (arith, size))
placed_equal_each (p ∷ ps) [] size each = absurd (omega (arith, size))
placed_equal_each (p ∷ ps) (q ∷ qs) size each =
    let first = each zero (omega arith) in
    λ i. record { entries = first.0 i; leaves = first.1 i }
    ∷ placed_equal_each ps qs (omega (arith, size)) (λ t l. each (suc t) (omega (arith, l))) i

-- what is kept of one run with the trace is what the trace determines
pub placed_in_run_of_trace : (f : FittedTrace) (h : HasRun f) (ps : List Placed) → ArePlaced f h.run ps → ps ≡ placed_of f
placed_in_run_of_trace f h ps k =
    let q = placed_of_are_of_run f h in
    placed_equal_each ps (placed_of f) (k.each ∙ sym q.each) (λ t l.
    let there : t < length f.guest.entries = subst (λ n. t < n) k.each l in
    (k.entries t there ∙ sym (q.entries t there), k.leaves t there ∙ sym (q.leaves t there)))

-- ---- where all threads are the same

placed_at_of_grown : (ps : List Growing) (t : ℕ) → placed_at (map grown ps) t ≡ grown (growing_at ps t)
placed_at_of_grown [] t = refl
placed_at_of_grown (x ∷ xs) zero = refl
placed_at_of_grown (x ∷ xs) (suc t) = placed_at_of_grown xs t

-- a complete run has the trace, and what was kept on the way is of it
pub all_same_has_run : (g : Guest) (r : Recorded) → HasHeader g r → (f : Flat) (ps : List Growing) → IsFollowed g r f ps
    → length ps ≡ length f.threads → (vs : List ThreadVerdict) → length vs ≡ length f.threads → AreStanding r f ps vs
    → ((t : ℕ) (v : ThreadVerdict) → slice_get vs t ≡ Some v → v ≡ Same)
    → HasRun (record { guest = g; recorded = r }) × (map grown ps ≡ placed_of (record { guest = g; recorded = r }))
all_same_has_run g r header f ps followed placed vs each stand same =
    let k = followed.follower in
    let fitted : FittedTrace = record { guest = g; recorded = r } in
    let has : HasRun fitted = record {
      run = k.run;
      whole = same_threads_have_run g r header k.run k.follows (λ t l.
          let v = verdict_below_length vs t (omega (arith, l, each, k.threads)) in
          subst (StandsAs (thread_machine g.code) (tables (start_flat g r.budget r.profile)) (trace_of r) k.run t) (same t v.0 v.1)
          (stand g k t v.0 v.1));
    } in (
      has,
      placed_in_run_of_trace fitted has (map grown ps) (record {
        each = length-map ps grown ∙ placed ∙ k.threads;
        entries = λ t l. ap (λ z. z.entries) (placed_at_of_grown ps t) ∙ k.placed t l;
        leaves = λ t l. ap (λ z. z.leaves) (placed_at_of_grown ps t) ∙ k.left t l;
      }),
    )

-- the same of the parts that are put together
pub all_same_equal_trace : (g : Guest) (r other : Recorded) → HasHeader g r → (f : Flat) (ps more : List Growing) → IsFollowed g r f ps
    → length ps ≡ length f.threads → (vs : List ThreadVerdict) → length vs ≡ length f.threads → AreStanding r f ps vs
    → ((t : ℕ) (v : ThreadVerdict) → slice_get vs t ≡ Some v → v ≡ Same) → other ≡ r → more ≡ ps → (places : List Placed) → places ≡ map grown more
    → HasRun (record { guest = g; recorded = other }) × (places ≡ placed_of (record { guest = g; recorded = other }))
all_same_equal_trace g r other header f ps more followed placed vs each stand same e kept places gathered =
    let both = all_same_has_run g r header f ps followed placed vs each stand same in (
      subst (λ z. HasRun (record { guest = g; recorded = z })) (sym e) both.0,
      gathered ∙ ap (map grown) kept ∙ both.1 ∙ ap (λ z. placed_of (record { guest = g; recorded = z })) (sym e),
    )
