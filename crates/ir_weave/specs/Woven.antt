-- The rule of the table of a replay.
use Rattle.std.specs.Prelude.{◌≡◌, ℕ, suc, zero, ◌+◌, ◌/◌, ◌^◌, ◌<◌, ◌≤◌, Bool, true, false, List, [], ◌∷◌, length, slice_get, slice_index, Some, ◌⊎◌}
use Rattle.std.specs.List.{slice_index_or}
use mathlib.Core.Option.{some}
use lib.ListN.{get_elem?}
use Rattle.atomic_table.specs.Table.{State, Me, Step}
use Rattle.atomic_table.specs.Seated.{TableId}
use Rattle.atomic_table.specs.declared.shared.Seat.{Seat}
use Rattle.ir_thread.specs.State.{ask_of, after_ask}
use Rattle.ir_runs.specs.Machine.{LeftAt}
use Rattle.ir_thread.specs.State as thread
use Rattle.ir_runs.specs.declared.access.Access.TheVariants.{Writing}
use Rattle.ir_thread.specs.declared.ask.Ask.TheVariants as ask
use Rattle.ir_thread.specs.declared.ask.Reply.TheVariants.{Value}
use Rattle.ir_image.specs.Guest.{most_object_words}
use Rattle.ir_object.specs.Cell.{Cell}
use Rattle.ir_object.specs.Word.{version_unit, fields_of, word_of_object}
use Rattle.ir_flat.specs.Flat.{Flat, IsFlat, idle}
use Rattle.ir_log.specs.declared.event.Event.{Event}
use Rattle.ir_trace.specs.Recorded.{recorded_thread}
use Rattle.ir_fit.specs.Ahead.{IsOpen}
use Rattle.ir_runs.specs.Run.{count, Cut, IsCut, Consistent, Emits}
use Rattle.ir_runs.specs.Admitted.{Admitted}
use Rattle.ir_fit.specs.Fit.{FittedTrace, HasRun}
use Rattle.ir_cut.specs.Positions.{machine_of, start_of, EachRun, thread_at}
use Rattle.ir_weave.specs.Ahead.{ask_at, IsNextObject, IsAhead}
use Rattle.ir_weave.specs.Standing.{IsStateAt, positions, Standing, flat_in}
use Rattle.ir_object.specs.Layout.{word_place}
use Rattle.ir_weave.specs.Table.{IsTable, object_in}
use Rattle.ir_weave.specs.declared.plan.Plan.{Plan}
use Rattle.ir_weave.specs.declared.plan.Progress.{Progress}

-- what a seat knows: of each of its threads where it is
abbrev pub View : Type 0
View = List Progress

abbrev pub M : Type 0
M = Me (Unit {0}) View

-- the guest with its trace
abbrev pub trace_in : Plan → FittedTrace
trace_in k = k.fitted.value

-- its threads and objects when the table was opened
abbrev pub opened_in : Plan → Flat
opened_in k = flat_in (trace_in k) k.opened.value

-- where its threads stood then
abbrev pub opened_at : Plan → Cut
opened_at k = positions (opened_in k)

-- the table was opened at a cut of each run
abbrev pub IsTableOpened : Plan → Type 0
IsTableOpened k = EachRun (trace_in k) (λ run. IsCut (machine_of (trace_in k)) (start_of (trace_in k)) run (opened_at k))

-- what a seat has met: the threads and objects as it last looked or, if it never did, as the table was opened; how many times it has looked
pub record Met : Type 0 where
  pub state : Standing
  pub looks : ℕ

abbrev pub progress : Plan → ℕ → ℕ → Bool → Met → Progress
progress k t i g m = record { plan = k; thread = t; position = i; granted = g; met = record k.opened { value = m.state }; looks = m.looks }

-- what a seat has met that never looked
abbrev pub first_met_cut : Plan → Met
first_met_cut k = record { state = k.opened.value; looks = 0 }

abbrev pub met_in : Progress → Met
met_in q = record { state = q.met.value; looks = q.looks }

-- what a seat of one thread has met
abbrev pub met_of : View → Met
met_of [] = record { state = record { threads = []; objects = [] }; looks = 0 }
met_of (q ∷ qs) = met_in q

-- where the threads stood there
abbrev pub stood : Met → Cut
stood m t = (slice_index_or m.state.threads t idle).steps

-- a seat that had met a has met b since: it is no lower, and the seat has looked no fewer times
pub record Rises (a b : Met) : Type 0 where
  pub cut : (u : ℕ) → stood a u ≤ stood b u
  pub looks : a.looks ≤ b.looks

-- a seat that had met a has looked since, and met b by that: it is this cut, at or above the one that it had met before
pub record HasMet (a b : Met) (cut : Cut) : Type 0 where
  pub above : (u : ℕ) → stood a u ≤ cut u
  pub met : (u : ℕ) → stood b u ≡ cut u
  pub looked : a.looks < b.looks

-- thread t is admitted at the cut p of each run
abbrev pub AdmittedAt : FittedTrace → Cut → ℕ → Type 0
AdmittedAt f p t = EachRun f (λ run. Admitted (machine_of f) (start_of f) run p t)

-- the thread is where the view says, it is this seat's, where it was granted its next step it is admitted, and the threads are at or above
-- the cut that the seat has met
pub record IsTrack (k : Plan) (s : Flat) (seat : ℕ → ℕ) (id : ℕ) (q : Progress) : Type 0 where
  pub plan : q.plan ≡ k
  pub there : q.thread < length s.threads
  pub mine : seat q.thread ≡ id
  pub position : positions s q.thread ≡ q.position
  pub granted : q.granted ≡ true → AdmittedAt (trace_in k) (positions s) q.thread
  pub met : (u : ℕ) → stood (met_in q) u ≤ positions s u

abbrev pub AreTracks : Plan → Flat → (ℕ → ℕ) → ℕ → View → Type 0
AreTracks k s seat id [] = Unit {0}
AreTracks k s seat id (q ∷ qs) = IsTrack k s seat id q × AreTracks k s seat id qs

-- whichever run with the trace it is: the positions in the views are a consistent cut, at or above the one at which the table was opened.
-- The words are each object's packed word and contents at this cut, and a view that is granted has its thread admitted there
pub record Woven (k : Plan) (x : State (Unit {0}) View) : Type 0 where
  pub run : HasRun (trace_in k)
  -- the threads and objects at the positions in the views
  pub state : Flat
  pub flat : IsFlat state
  pub at : IsStateAt (trace_in k) (positions state) state
  pub above : (t : ℕ) → opened_at k t ≤ positions state t
  -- which seat has each thread
  pub seat : ℕ → ℕ
  pub tracks : (id : ℕ) (v : View) → get_elem? x.views id ≡ some v → AreTracks k state seat id v
  pub table : IsTable state.objects x.words

-- at some consistent cut of each run, at or above the one at which the table was opened, with thread t at k, it wasn't admitted
pub record WasStopped (k : Plan) (t i : ℕ) : Type 0 where
  pub cut : Cut
  pub is_cut : EachRun (trace_in k) (λ run. IsCut (machine_of (trace_in k)) (start_of (trace_in k)) run cut)
  pub consistent : EachRun (trace_in k) (λ run. Consistent (machine_of (trace_in k)) (start_of (trace_in k)) run cut)
  pub above : (u : ℕ) → opened_at k u ≤ cut u
  pub here : cut t ≡ i
  pub stopped : EachRun (trace_in k) (λ run. Admitted (machine_of (trace_in k)) (start_of (trace_in k)) run cut t → ⊥)

-- the next event that the trace emits of thread t after k of its steps
abbrev pub IsEventAt : FittedTrace → ℕ → ℕ → Event → Type 0
IsEventAt f t k e = EachRun f (λ run. slice_get (recorded_thread f.recorded t).events (thread_at f run t k).events ≡ Some e)

-- an object with this word can be entered as the event says
abbrev pub OpensTable : ℕ → Event → Type 0
OpensTable n e = IsOpen (record { fields = fields_of n; words = [] }) e

-- where the value that was found is that of the word that step k of thread t asks for, it is what the thread is answered
abbrev pub Answers : FittedTrace → ℕ → ℕ → ℕ → Type 0
Answers f t k n = EachRun f (λ run. (o i : ℕ) → ask_at f run t k ≡ ask.Get o i → (n < 2 ^ 32)
    × (thread_at f run t (suc k) ≡ after_ask f.guest.code (thread_at f run t k) (ask.Get o i) (Value n)))

-- where step k of thread t is a writer's leave of the object with this word, this is the version that it leaves
abbrev pub LeavesTable : FittedTrace → ℕ → ℕ → ℕ → ℕ → Type 0
LeavesTable f t k word v = EachRun f (λ run. (o : ℕ) → word ≡ word_place o → ask_at f run t k ≡ ask.Leave o Writing
    → Emits (machine_of f) (start_of f) run t k (LeftAt o Writing v))

-- what a load before an entry emits: the position is that of the entry, and the thread is granted it if the word is open to its event.
-- Otherwise it wasn't admitted at the cut that the seat has met by this, which is at or above the one that it had met before
abbrev pub looked : Step (Unit {0}) → M → ℕ → M → Type 0
looked s ([], c) n w = ⊥
looked s (q ∷ r ∷ qs, c) n w = ⊥
looked s (q ∷ [], c) n w = (i : ℕ) × (e : Event) × IsNextObject (trace_in q.plan) q.thread q.position i
    × IsEventAt (trace_in q.plan) q.thread i e
    × Rises (met_in q) (met_of w.0)
    × (OpensTable n e → w ≡ (progress q.plan q.thread i true (met_of w.0) ∷ [], c))
    × ((OpensTable n e → ⊥) → (w ≡ (progress q.plan q.thread i false (met_of w.0) ∷ [], c)) × (s : WasStopped q.plan q.thread i)
    × HasMet (met_in q) (met_of w.0) s.cut)

-- what a step on an object emits: it is the thread's next such, and what was found where it is a load
abbrev pub stepped_on : Step (Unit {0}) → M → ℕ → M → Type 0
stepped_on s ([], c) n w = ⊥
stepped_on s (q ∷ r ∷ qs, c) n w = ⊥
stepped_on s (q ∷ [], c) n w = (i : ℕ) × IsNextObject (trace_in q.plan) q.thread q.position i
    × (w ≡ (progress q.plan q.thread (suc i) false (met_in q) ∷ [], c)) × Answers (trace_in q.plan) q.thread i n

-- what a load before a writer's leave emits: the version that is left
abbrev pub read_version : Step (Unit {0}) → M → ℕ → M → Type 0
read_version s ([], c) n w = ⊥
read_version s (q ∷ r ∷ qs, c) n w = ⊥
read_version s (q ∷ [], c) n w = (i : ℕ) × IsNextObject (trace_in q.plan) q.thread q.position i × (w ≡ (q ∷ [], c)) × (n < 2 ^ 63)
    × LeavesTable (trace_in q.plan) q.thread i s.word (n / version_unit)

-- the tracks of n threads from t on, at these positions
abbrev pub tracks_from : Plan → ℕ → ℕ → View
tracks_from k t zero = []
tracks_from k t (suc n) = progress k t (opened_at k t) false (first_met_cut k) ∷ tracks_from k (suc t) n

-- the thread x and a seat of its own
abbrev pub IsSeated : Plan → View → thread.ThreadState → Type 0
IsSeated k [] x = ⊥
IsSeated k (q ∷ r ∷ qs) x = ⊥
IsSeated k (q ∷ []) x = (q.plan ≡ k) × IsAhead (trace_in q.plan) q.thread q.position x

-- the seat was granted the step that its thread asks
pub record IsGranted (k : Plan) (v : View) (x : thread.ThreadState) : Type 0 where
  pub seated : IsSeated k v x
  pub view : v ≡ progress k x.number x.steps true (met_of v) ∷ []

-- the table is of this guest and trace
abbrev pub IsFor : Plan → FittedTrace → Type 0
IsFor k f = trace_in k ≡ f

-- the thread x has taken a step, and is x' now
pub record HasStepped (k : Plan) (me me' : M) (x x' : thread.ThreadState) : Type 0 where
  pub seated : IsSeated k me'.0 x'
  pub slots : me'.1 ≡ me.1
  pub steps : x'.steps ≡ x.steps + 1
  pub number : x'.number ≡ x.number
  pub rises : Rises (met_of me.0) (met_of me'.0)

-- the thread x is done, and its seat as it was; this cut is the end of each run
pub record IsDoneAt (k : Plan) (me me' : M) (x : thread.ThreadState) (cut : Cut) : Type 0 where
  pub done : ask_of (trace_in k).guest.code x ≡ ask.Done
  pub same : me' ≡ me
  pub end : EachRun (trace_in k) (λ run. (u : ℕ) → cut u ≡ count (machine_of (trace_in k)) (start_of (trace_in k)) run u)

-- the thread x has taken none, and wasn't admitted to its next at some consistent cut, at or above the one at which the table was opened.
-- This is one that its seat has met by a look now, at or above the one that it had met before, or else, if the thread is done, the end
pub record HasWaited (k : Plan) (me me' : M) (x x' : thread.ThreadState) : Type 0 where
  pub seated : IsSeated k me'.0 x'
  pub slots : me'.1 ≡ me.1
  pub same : x' ≡ x
  pub stopped : WasStopped k x.number x.steps
  pub fresh : HasMet (met_of me.0) (met_of me'.0) stopped.cut ⊎ IsDoneAt k me me' x stopped.cut

-- the thread has gone on by n private steps
pub record HasRunOn (k : Plan) (v : View) (x y : thread.ThreadState) (n : ℕ) : Type 0 where
  pub seated : IsSeated k v y
  pub steps : y.steps ≡ x.steps + n
  pub number : y.number ≡ x.number

-- seats of the threads from t on, one for each, where they stood when the table was opened
abbrev pub AreSeats : TableId → Plan → ℕ → List (Seat (Unit {0}) View) → Type 0
AreSeats id k t [] = Unit {0}
AreSeats id k t (x ∷ xs) = ((x.table_id ≡ id) × (x.me ≡ (progress k t (opened_at k t) false (first_met_cut k) ∷ [], []))) × AreSeats id k (suc t) xs

-- at what cut the threads of a view are
abbrev pub AreAt : Cut → View → Type 0
AreAt p [] = Unit {0}
AreAt p (q ∷ qs) = (p q.thread ≡ q.position) × AreAt p qs

-- the objects of the guest at a consistent cut of each run, at or above the one at which the table was opened, in which the threads of the
-- view are where it says
pub record IsClosedTable (k : Plan) (v : View) (cells : List Cell) : Type 0 where
  pub state : Flat
  pub flat : IsFlat state
  pub at : IsStateAt (trace_in k) (positions state) state
  pub above : (t : ℕ) → opened_at k t ≤ positions state t
  pub view : AreAt (positions state) v
  pub objects : cells ≡ state.objects

-- where the table is at its end
pub record IsEnd (k : Plan) (v : View) (ws : List ℕ) : Type 0 where
  pub cells : List Cell
  pub table : IsTable cells ws
  pub sizes : (o : ℕ) → o < length cells → length (object_in cells o).words ≡ most_object_words
  pub fits : (o : ℕ) → o < length cells → fields_of (word_of_object (object_in cells o).fields) ≡ (object_in cells o).fields
  pub closed : IsClosedTable k v cells

-- the first n of these are the words from a content_place on
pub record AreRead (ws : List ℕ) (from : ℕ) (xs : List ℕ) (n : ℕ) : Type 0 where
  pub size : length xs ≡ most_object_words
  pub each : (i : ℕ) → i < n → slice_index xs i ≡ slice_index ws (from + i)
