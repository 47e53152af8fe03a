-- Where the events and the leaves of a fitted trace are among the steps of its run.
use Rattle.std.specs.Prelude.{◌≡◌, ◌<◌, ℕ, zero, suc, Bool, true, false, ◌&&◌, eqb, List, [], ◌∷◌, ◌++◌, length, map}
use Rattle.std.specs.List.{slice_index_or, range_with_len}
use Rattle.std.specs.List.Sorted.{IsPermutation, IsNonDecreasingBy}
use Rattle.std.proofs.Common.{ap, arith}
use Rattle.ir_thread.proofs.CallerLemmas.{thread_machine_lawful}
use Rattle.ir_thread.specs.State.{thread_machine}
use Rattle.ir_runs.specs.Machine.{Label, Quiet, LeftAt}
use Rattle.ir_runs.specs.Run.{Step, trail, join_if}
use Rattle.ir_runs.specs.Bounds.{IsStart}
use Rattle.ir_runs.specs.Verdicts.{sum_below}
use Rattle.ir_image.specs.Guest.{Guest, object_count}
use Rattle.ir_thread.specs.declared.profile.Profile.{Profile}
use Rattle.ir_runs.specs.declared.access.Access.{Access}
use Rattle.ir_runs.specs.declared.access.Access.TheVariants.{Reading, Writing}
use Rattle.ir_runs.proofs.CallerLemmas.{state_invariant_start, MaximalRun, maximal_run_exists}
use Rattle.ir_flat.specs.Flat.{start_flat, tables, machine}
use Rattle.ir_flat.proofs.CallerLemmas.{guest_start_is_idle, start_thread_is_fresh, start_fields_are_zero}
use Rattle.ir_log.specs.declared.event.Event.{Event}
use Rattle.ir_log.specs.declared.event.Event.TheVariants.{Read, Write}
use Rattle.ir_trace.specs.Recorded.{Recorded, recorded_thread, trace_of}
use Rattle.ir_fit.specs.Fit.{FittedTrace}
use Rattle.ir_fit.specs.declared.leave.Leave.{Leave}
use Rattle.ir_fit.specs.declared.place.Place.{Place}

-- the position of a step that is logged, and those after it
abbrev pub place_if : Label → ℕ → List ℕ → List ℕ
place_if Quiet k ps = ps
place_if (LeftAt o a v) k ps = ps
place_if event k ps = k ∷ ps

-- the positions of the steps that are logged, in order, where the first step is at k: how many steps were taken before
abbrev pub places_from : {T : Type 0} → ℕ → List (T × Label) → List ℕ
places_from k [] = []
places_from k (x ∷ xs) = place_if x.1 k (places_from (suc k) xs)

-- a step that is a leave, and those after it
abbrev pub leave_if : Label → ℕ → List Leave → List Leave
leave_if (LeftAt o a v) k ls = record { position = k; object = o; access = a; version = v } ∷ ls
leave_if other k ls = ls

-- the leaves among the steps, where the first step is at k
abbrev pub leaves_from : {T : Type 0} → ℕ → List (T × Label) → List Leave
leaves_from k [] = []
leaves_from k (x ∷ xs) = leave_if x.1 k (leaves_from (suc k) xs)

-- what is kept of a thread's steps: the positions of its events, and its leaves
pub record Placed : Type 0 where
  pub entries : List ℕ
  pub leaves : List Leave

-- what is kept of thread t; nothing where there is no such thread
abbrev pub placed_at : List Placed → ℕ → Placed
placed_at ps t = slice_index_or ps t (record { entries = []; leaves = [] })

-- a run that follows the trace as far as any can
abbrev pub MaximalRunOf : FittedTrace → Type 0
MaximalRunOf f = let m = thread_machine f.guest.code in let tr = trace_of f.recorded in
    MaximalRun m tr (tables (start_flat f.guest f.recorded.budget f.recorded.profile)) tr.steps tr.logs

-- at the start no object has a version and no thread is inside
pub guest_start_is_start : (g : Guest) (budget : ℕ) (profile : Profile) → IsStart (thread_machine g.code) (tables (start_flat g budget profile))
guest_start_is_start g budget profile = record {
  version = λ o. ap (λ x. x.version) (start_fields_are_zero g 0 (object_count g) o);
  left = λ o. ap (λ x. x.left) (start_fields_are_zero g 0 (object_count g) o);
  inside = λ o t. (start_thread_is_fresh g budget profile 0 (length g.entries) t).none o;
  held = λ t o. (start_thread_is_fresh g budget profile 0 (length g.entries) t).none o;
}

-- there is such a run
unfoldable pub maximal_run_of : (f : FittedTrace) → MaximalRunOf f
maximal_run_of f =
    let m = thread_machine f.guest.code in
    let s = tables (start_flat f.guest f.recorded.budget f.recorded.profile) in
    let tr = trace_of f.recorded in
    maximal_run_exists (suc (sum_below (length f.guest.entries) tr.steps)) (length f.guest.entries) m (thread_machine_lawful f.guest.code) tr s
    (state_invariant_start m s (guest_start_is_start f.guest f.recorded.budget f.recorded.profile))
    (guest_start_is_idle f.guest f.recorded.budget f.recorded.profile) tr.steps tr.logs (omega arith)

-- what is kept of the steps of thread t in a run
abbrev pub placed_in : FittedTrace → List Step → ℕ → Placed
placed_in f run t = let g = start_flat f.guest f.recorded.budget f.recorded.profile in
    record { entries = places_from 0 (trail (machine g) (tables g) run t); leaves = leaves_from 0 (trail (machine g) (tables g) run t) }

-- what is kept of each thread's steps: if a complete run has the trace, the run that follows it as far as any can is complete, and all such runs
-- have the same steps of each thread
unfoldable pub placed_of : FittedTrace → List Placed
placed_of f = map (placed_in f (maximal_run_of f).run) (range_with_len 0 (length f.guest.entries))

-- it is kept of each thread's steps in this run
pub record ArePlaced (f : FittedTrace) (run : List Step) (ps : List Placed) : Type 0 where
  pub each : length ps ≡ length f.guest.entries
  pub entries : (t : ℕ) → t < length f.guest.entries → (placed_at ps t).entries ≡ (placed_in f run t).entries
  pub leaves : (t : ℕ) → t < length f.guest.entries → (placed_at ps t).leaves ≡ (placed_in f run t).leaves

-- an object, what it was entered for, and the step
abbrev pub Visit : Type 0
Visit = ℕ × Access × Place

-- an event of thread t that is logged at position k, and the entries after it
abbrev pub enter_if : ℕ → Event → ℕ → List Visit → List Visit
enter_if t (Read object version) k vs = (object, Reading, record { position = k; version = version; thread = t }) ∷ vs
enter_if t (Write object version readers) k vs = (object, Writing, record { position = k; version = version; thread = t }) ∷ vs
enter_if t event k vs = vs

-- the entries of thread t, by its log and the positions of its events
abbrev pub entered_by : ℕ → List Event → List ℕ → List Visit
entered_by t [] ks = []
entered_by t (e ∷ es) [] = []
entered_by t (e ∷ es) (k ∷ ks) = enter_if t e k (entered_by t es ks)

-- those of the threads below n
abbrev pub of_threads : ℕ → (ℕ → List Visit) → List Visit
of_threads zero f = []
of_threads (suc n) f = of_threads n f ++ f n

-- all leaves
abbrev pub all_events_left : List Placed → List Visit
all_events_left ps = of_threads (length ps) (λ t.
    map (λ l. (l.object, l.access, record { position = l.position; version = l.version; thread = t })) (placed_at ps t).leaves)

-- all entries
abbrev pub all_entered : Recorded → List Placed → List Visit
all_entered r ps = of_threads (length ps) (λ t. entered_by t (recorded_thread r t).events (placed_at ps t).entries)

-- whether two accesses are the same
abbrev pub same_access : Access → Access → Bool
same_access Reading Reading = true
same_access Writing Writing = true
same_access a b = false

-- the steps among these of object o and access a
abbrev pub picked : ℕ → Access → List Visit → List Place
picked o a [] = []
picked o a (x ∷ xs) = join_if (eqb x.0 o && same_access x.1 a) x.2 (picked o a xs)

-- lists of steps by object, for reading and for writing
pub record Listing : Type 0 where
  pub reading : List (List Place)
  pub writing : List (List Place)

-- the lists for such access, by object
abbrev pub lists_for : Listing → Access → List (List Place)
lists_for x Reading = x.reading
lists_for x Writing = x.writing

-- the list for object o and access a; where there is none, no step is of them
abbrev pub listed_events : Listing → ℕ → Access → List Place
listed_events x o a = slice_index_or (lists_for x a) o []

-- they are listed, in the order of their versions
pub record IsListing (vs : List Visit) (x : Listing) : Type 0 where
  pub same : (o : ℕ) (a : Access) → IsPermutation (picked o a vs) (listed_events x o a)
  pub sorted : (o : ℕ) (a : Access) → IsNonDecreasingBy (λ (p : Place). p.version) (listed_events x o a)
