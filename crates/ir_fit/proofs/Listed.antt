-- Where the entries and leaves of a run are: the positions that are kept, against what the steps emit.
use Rattle.std.proofs.Common.{◌≡◌, ℕ, suc, zero, ◌+◌, ◌<◌, ◌≤◌, ◌⊎◌, inl, inr, List, [], ◌∷◌, length, map, get_or, refl, sym, ap, ◌∙◌, subst, arith}
use Rattle.std.proofs.lemmas.Bool.{cases_lt}
use Rattle.std.proofs.lemmas.List.{length-map, get_or-map}
use Rattle.ir_thread.specs.State.{thread_machine}
use Rattle.ir_runs.specs.Machine.{Label, Quiet, Answer, EnteredAt, FailedTry, LeftAt, logged}
use Rattle.ir_thread.specs.State as thread
use Rattle.ir_runs.specs.declared.access.Access.{Access}
use Rattle.ir_runs.specs.declared.env_kind.EnvKind.{EnvKind}
use Rattle.ir_runs.specs.declared.env_kind.EnvKind.TheVariants.{Clock}
use Rattle.ir_flat.specs.Flat.{start_flat, tables, machine}
use Rattle.ir_runs.specs.Run.{trail, count, events, At}
use Rattle.ir_flat.proofs.CallerLemmas.{guest_start_is_idle}
use Rattle.ir_log.specs.Logging.{label_of}
use Rattle.ir_log.specs.declared.event.Event.{Event}
use Rattle.ir_log.specs.declared.event.Event.TheVariants as logged_event
use Rattle.ir_trace.specs.Recorded.{recorded_thread}
use Rattle.ir_fit.specs.Fit.{FittedTrace, HasRun}
use Rattle.ir_fit.specs.Placed.{placed_at, place_if, places_from, leave_if, leaves_from, placed_of}
use Rattle.ir_fit.specs.Listed.{EmitsIn}
use Rattle.ir_fit.proofs.Placements.{idle_has_empty_trail, placed_entries_of_run, placed_leaves_of_run}
use Rattle.ir_fit.specs.declared.leave.Leave.{Leave}

-- ---- one step

-- whether a label is logged
record IsLoggedLabel (m : Label) : Type 0 where
  place : (k : ℕ) (ks : List ℕ) → place_if m k ks ≡ k ∷ ks
  event : (es : List Label) → logged m es ≡ m ∷ es

record IsUnloggedLabel (m : Label) : Type 0 where
  place : (k : ℕ) (ks : List ℕ) → place_if m k ks ≡ ks
  event : (es : List Label) → logged m es ≡ es

logged_or_unlogged : (m : Label) → IsLoggedLabel m ⊎ IsUnloggedLabel m
logged_or_unlogged Quiet = inr (record { place = λ k ks. refl; event = λ es. refl })
logged_or_unlogged (Answer kind value) = inl (record { place = λ k ks. refl; event = λ es. refl })
logged_or_unlogged (EnteredAt o a v l) = inl (record { place = λ k ks. refl; event = λ es. refl })
logged_or_unlogged (FailedTry o) = inl (record { place = λ k ks. refl; event = λ es. refl })
logged_or_unlogged (LeftAt o a v) = inr (record { place = λ k ks. refl; event = λ es. refl })

-- ---- events and their positions

places_count_events : {T : Type 0} (n : ℕ) (xs : List (T × Label)) → length (places_from n xs) ≡ length (events xs)
places_count_events n [] = refl
places_count_events n (x ∷ xs) = elim (logged_or_unlogged x.1) [
  | inl l ↦ ap length (l.place n (places_from (suc n) xs)) ∙ ap suc (places_count_events (suc n) xs) ∙ sym (ap length (l.event (events xs)))
  | inr p ↦ ap length (p.place n (places_from (suc n) xs)) ∙ places_count_events (suc n) xs ∙ sym (ap length (p.event (events xs)))
]

-- the step at position k emits e, where the first of these is at n
abbrev StepAt : {T : Type 0} → ℕ → List (T × Label) → ℕ → Label → Type 0
StepAt {T} n xs k e = (j : ℕ) × (k ≡ n + j) × ((x : T) × At xs j (x, e))

cons_keeps_step_at : {T : Type 0} (n : ℕ) (x : T × Label) (xs : List (T × Label)) (k : ℕ) (e : Label) → StepAt (suc n) xs k e → StepAt n (x ∷ xs) k e
cons_keeps_step_at n x xs k e g = (suc g.0, g.1 ∙ (let q : suc n + g.0 ≡ n + suc g.0 = omega arith in q), g.2)

-- the step of event i is at entry i of the positions
step_at_place_of_event : {T : Type 0} (n : ℕ) (xs : List (T × Label)) (i k : ℕ) (e : Label) → At (events xs) i e → At (places_from n xs) i k
    → StepAt n xs k e
step_at_place_of_event n [] i k e h g = absurd h
step_at_place_of_event n (x ∷ xs) zero k e h g = elim (logged_or_unlogged x.1) [
  | inl l ↦
      let emits : x.1 ≡ e = subst (λ es. At es 0 e) (l.event (events xs)) h in
      let at : n ≡ k = subst (λ ks. At ks 0 k) (l.place n (places_from (suc n) xs)) g in
      (0, sym at ∙ (let q : n ≡ n + 0 = omega arith in q), (x.0, ap (λ m. (x.0, m)) emits))
  | inr p ↦ cons_keeps_step_at n x xs k e (step_at_place_of_event (suc n) xs 0 k e (subst (λ es. At es 0 e) (p.event (events xs)) h)
      (subst (λ ks. At ks 0 k) (p.place n (places_from (suc n) xs)) g))
]
step_at_place_of_event n (x ∷ xs) (suc i) k e h g = elim (logged_or_unlogged x.1) [
  | inl l ↦ cons_keeps_step_at n x xs k e (step_at_place_of_event (suc n) xs i k e (subst (λ es. At es (suc i) e) (l.event (events xs)) h)
      (subst (λ ks. At ks (suc i) k) (l.place n (places_from (suc n) xs)) g))
  | inr p ↦ cons_keeps_step_at n x xs k e (step_at_place_of_event (suc n) xs (suc i) k e (subst (λ es. At es (suc i) e) (p.event (events xs)) h)
      (subst (λ ks. At ks (suc i) k) (p.place n (places_from (suc n) xs)) g))
]

-- a step that is logged is some event's
event_of_logged_step : {T : Type 0} (n : ℕ) (xs : List (T × Label)) (j : ℕ) (x : T) (e : Label) → ((es : List Label) → logged e es ≡ e ∷ es)
    → At xs j (x, e) → (i : ℕ) × At (events xs) i e × At (places_from n xs) i (n + j)
event_of_logged_step n [] j x e h at = absurd at
event_of_logged_step n (y ∷ ys) zero x e h at = elim (logged_or_unlogged y.1) [
  | inl l ↦ (
    0,
    subst (λ es. At es 0 e) (sym (l.event (events ys))) (ap (λ z. z.1) at),
    subst (λ ks. At ks 0 (n + 0))
        (sym (l.place n (places_from (suc n) ys))) (let q : n ≡ n + 0 = omega arith in q),
  )
  | inr p ↦ absurd (longer (sym (p.event []) ∙ subst (λ m. logged m [] ≡ m ∷ []) (sym (ap (λ z. z.1) at)) (h [])))
]
  where
    longer : {A : Type 0} {z : A} → [] ≡ z ∷ [] → ⊥
    longer q = cc q
event_of_logged_step n (y ∷ ys) (suc j) x e h at =
    let g = event_of_logged_step (suc n) ys j x e h at in
    let q : suc n + j ≡ n + suc j = omega arith in
    elim (logged_or_unlogged y.1) [
      | inl l ↦ (
        suc g.0,
        subst (λ es. At es (suc g.0) e) (sym (l.event (events ys))) g.1,
        subst (λ ks. At ks (suc g.0) (n + suc j))
            (sym (l.place n (places_from (suc n) ys))) (subst (At (places_from (suc n) ys) g.0) q g.2),
      )
      | inr p ↦ (
        g.0,
        subst (λ es. At es g.0 e) (sym (p.event (events ys))) g.1,
        subst (λ ks. At ks g.0 (n + suc j))
            (sym (p.place n (places_from (suc n) ys))) (subst (At (places_from (suc n) ys) g.0) q g.2),
      )
    ]

-- ---- leaves

-- the leave of a step at position k
abbrev leave_at : ℕ → ℕ → Access → ℕ → Leave
leave_at k o a v = record { position = k; object = o; access = a; version = v }

-- a leave, or a step that is none
label_is_leave_or_not : (m : Label) → ((o : ℕ) × (a : Access) × (v : ℕ) × (m ≡ LeftAt o a v)) ⊎ ((k : ℕ) (ls : List Leave) → leave_if m k ls ≡ ls)
label_is_leave_or_not Quiet = inr (λ k ls. refl)
label_is_leave_or_not (Answer kind value) = inr (λ k ls. refl)
label_is_leave_or_not (EnteredAt o a v l) = inr (λ k ls. refl)
label_is_leave_or_not (FailedTry o) = inr (λ k ls. refl)
label_is_leave_or_not (LeftAt o a v) = inl (o, a, v, refl)

step_at_place_of_leave : {T : Type 0} (n : ℕ) (xs : List (T × Label)) (i : ℕ) (l : Leave) → At (leaves_from n xs) i l
    → StepAt n xs l.position (LeftAt l.object l.access l.version)
step_at_place_of_leave n [] i l h = absurd h
step_at_place_of_leave n (x ∷ xs) zero l h = elim (label_is_leave_or_not x.1) [
  | inl (o, a, v, is) ↦
      let same : leave_at n o a v ≡ l = subst (λ m. At (leave_if m n (leaves_from (suc n) xs)) 0 l) is h in (
        0,
        ap (λ z. z.position) (sym same) ∙ (let q : n ≡ n + 0 = omega arith in q),
        (x.0, ap (λ m. (x.0, m)) is ∙ ap (λ z. (x.0, LeftAt z.object z.access z.version)) same),
      )
  | inr p ↦ cons_keeps_step_at n x xs l.position (LeftAt l.object l.access l.version)
      (step_at_place_of_leave (suc n) xs 0 l (subst (λ ls. At ls 0 l) (p n (leaves_from (suc n) xs)) h))
]
step_at_place_of_leave n (x ∷ xs) (suc i) l h = elim (label_is_leave_or_not x.1) [
  | inl (o, a, v, is) ↦ cons_keeps_step_at n x xs l.position (LeftAt l.object l.access l.version)
      (step_at_place_of_leave (suc n) xs i l (subst (λ m. At (leave_if m n (leaves_from (suc n) xs)) (suc i) l) is h))
  | inr p ↦ cons_keeps_step_at n x xs l.position (LeftAt l.object l.access l.version)
      (step_at_place_of_leave (suc n) xs (suc i) l (subst (λ ls. At ls (suc i) l) (p n (leaves_from (suc n) xs)) h))
]

leave_of_step : {T : Type 0} (n : ℕ) (xs : List (T × Label)) (j : ℕ) (x : T) (o : ℕ) (a : Access) (v : ℕ) → At xs j (x, LeftAt o a v) → (i : ℕ)
    × At (leaves_from n xs) i (leave_at (n + j) o a v)
leave_of_step n [] j x o a v at = absurd at
leave_of_step n (y ∷ ys) zero x o a v at = (
  0,
  subst (λ m. At (leave_if m n (leaves_from (suc n) ys)) 0 (leave_at (n + 0) o a v)) (sym (ap (λ z. z.1) at))
      (ap (λ k. leave_at k o a v) (let q : n ≡ n + 0 = omega arith in q)),
)
leave_of_step n (y ∷ ys) (suc j) x o a v at =
    let g = leave_of_step (suc n) ys j x o a v at in
    let behind : At (leaves_from (suc n) ys) g.0 (leave_at (n + suc j) o a v) =
    subst (λ k. At (leaves_from (suc n) ys) g.0 (leave_at k o a v)) (let q : suc n + j ≡ n + suc j = omega arith in q) g.1 in
    elim (label_is_leave_or_not y.1) [
      | inl (p, b, w, is) ↦ (
        suc g.0,
        subst (λ m. At (leave_if m n (leaves_from (suc n) ys)) (suc g.0) (leave_at (n + suc j) o a v))
            (sym is) behind,
      )
      | inr p ↦ (g.0, subst (λ ls. At ls g.0 (leave_at (n + suc j) o a v)) (sym (p n (leaves_from (suc n) ys))) behind)
    ]

-- ---- positions rise

-- each is at least n and above those before it
abbrev Rises : ℕ → List ℕ → Type 0
Rises n [] = Unit {0}
Rises n (k ∷ ks) = (n ≤ k) × Rises (suc k) ks

rises_from_lower_bound : (m n : ℕ) (ks : List ℕ) → m ≤ n → Rises n ks → Rises m ks
rises_from_lower_bound m n [] l h = tt
rises_from_lower_bound m n (k ∷ ks) l h = (omega (arith, l, h.0), h.1)

places_rise : {T : Type 0} (n : ℕ) (xs : List (T × Label)) → Rises n (places_from n xs)
places_rise n [] = tt
places_rise n (x ∷ xs) = elim (logged_or_unlogged x.1) [
  | inl l ↦ subst (Rises n) (sym (l.place n (places_from (suc n) xs))) (omega arith, places_rise (suc n) xs)
  | inr p ↦ subst (Rises n) (sym (p.place n (places_from (suc n) xs)))
      (rises_from_lower_bound n (suc n) (places_from (suc n) xs) (omega arith) (places_rise (suc n) xs))
]

abbrev positions : List Leave → List ℕ
positions ls = map (λ l. l.position) ls

leaves_from_rise : {T : Type 0} (n : ℕ) (xs : List (T × Label)) → Rises n (positions (leaves_from n xs))
leaves_from_rise n [] = tt
leaves_from_rise n (x ∷ xs) = elim (label_is_leave_or_not x.1) [
  | inl (o, a, v, is) ↦ subst (λ m. Rises n (positions (leave_if m n (leaves_from (suc n) xs)))) (sym is)
      (omega arith, leaves_from_rise (suc n) xs)
  | inr p ↦ subst (λ ls. Rises n (positions ls)) (sym (p n (leaves_from (suc n) xs)))
      (rises_from_lower_bound n (suc n) (positions (leaves_from (suc n) xs)) (omega arith) (leaves_from_rise (suc n) xs))
]

rising_above_bound : (n : ℕ) (ks : List ℕ) → Rises n ks → (i : ℕ) → i < length ks → n ≤ get_or ks i 0
rising_above_bound n [] h i l = absurd (omega (arith, l))
rising_above_bound n (k ∷ ks) h zero l = h.0
rising_above_bound n (k ∷ ks) h (suc i) l = let r = rising_above_bound (suc k) ks h.1 i (omega (arith, l)) in omega (arith, r, h.0)

rising_is_increasing : (n : ℕ) (ks : List ℕ) → Rises n ks → (i j : ℕ) → i < j → j < length ks → get_or ks i 0 < get_or ks j 0
rising_is_increasing n [] h i j l m = absurd (omega (arith, m))
rising_is_increasing n (k ∷ ks) h i zero l m = absurd (omega (arith, l))
rising_is_increasing n (k ∷ ks) h zero (suc j) l m = rising_above_bound (suc k) ks h.1 j (omega (arith, m))
rising_is_increasing n (k ∷ ks) h (suc i) (suc j) l m = rising_is_increasing (suc k) ks h.1 i j (omega (arith, l)) (omega (arith, m))

-- ---- places in lists

pub get_or_is_at : {A : Type 0} (xs : List A) (i : ℕ) (d : A) → i < length xs → At xs i (get_or xs i d)
get_or_is_at [] i d l = absurd (omega (arith, l))
get_or_is_at (x ∷ xs) zero d l = refl
get_or_is_at (x ∷ xs) (suc i) d l = get_or_is_at xs i d (omega (arith, l))

pub at_is_get_or : {A : Type 0} (xs : List A) (i : ℕ) (x : A) → At xs i x → (i < length xs) × ((d : A) → get_or xs i d ≡ x)
at_is_get_or [] i x h = absurd h
at_is_get_or (y ∷ ys) zero x h = (omega arith, λ d. h)
at_is_get_or (y ∷ ys) (suc i) x h = let g = at_is_get_or ys i x h in (omega (arith, g.0), g.1)

-- ---- what is kept of a run

-- the steps of thread t in the run that is kept
abbrev trail_in : (f : FittedTrace) → HasRun f → ℕ → List (thread.ThreadState × Label)
trail_in f h t = trail (machine (start_flat f.guest f.recorded.budget f.recorded.profile)) (tables (start_flat f.guest f.recorded.budget f.recorded.profile)) h.run t

-- only the guest's threads take steps
pub emitting_is_guest_thread : (f : FittedTrace) (h : HasRun f) (t k : ℕ) (e : Label) → EmitsIn f h t k e → t < length f.guest.entries
emitting_is_guest_thread f h t k e emitted = elim (cases_lt t (length f.guest.entries)) [
  | inl l ↦ l
  | inr past ↦
      let none : trail_in f h t ≡ [] = idle_has_empty_trail (thread_machine f.guest.code) (tables (start_flat f.guest f.recorded.budget f.recorded.profile))
      (length f.guest.entries) (guest_start_is_idle f.guest f.recorded.budget f.recorded.profile) h.run h.whole.1.runs t past in
      absurd (subst (λ xs. At xs k (emitted.0, e)) none emitted.1)
]

-- a thread takes as many steps in the run as were recorded
pub run_count_is_recorded : (f : FittedTrace) (h : HasRun f) (t : ℕ) → t < length f.guest.entries
    → count (machine (start_flat f.guest f.recorded.budget f.recorded.profile)) (tables (start_flat f.guest f.recorded.budget f.recorded.profile)) h.run t ≡
    (recorded_thread f.recorded t).steps
run_count_is_recorded f h t l = h.whole.1.steps t l

-- no step is past them
pub emitting_step_in_record : (f : FittedTrace) (h : HasRun f) (t k : ℕ) (e : Label) → EmitsIn f h t k e → k < (recorded_thread f.recorded t).steps
emitting_step_in_record f h t k e emitted = subst (λ n. k < n) (run_count_is_recorded f h t (emitting_is_guest_thread f h t k e emitted))
    (at_is_get_or (trail_in f h t) k (emitted.0, e) emitted.1).0

trail_step_is_emitted : (f : FittedTrace) (h : HasRun f) (t k : ℕ) (e : Label) → StepAt 0 (trail_in f h t) k e → EmitsIn f h t k e
trail_step_is_emitted f h t k e g = (g.2.0, subst (λ j. At (trail_in f h t) j (g.2.0, e)) (let q : g.0 ≡ k = omega (arith, g.1) in q) g.2.1)

-- a thread has as many positions as events
pub entries_count_events : (f : FittedTrace) (h : HasRun f) (t : ℕ) → t < length f.guest.entries
    → length (placed_at (placed_of f) t).entries ≡ length (recorded_thread f.recorded t).events
entries_count_events f h t l = ap length (placed_entries_of_run f h t l) ∙ places_count_events 0 (trail_in f h t) ∙ ap length (h.whole.1.logs t l)
    ∙ length-map (recorded_thread f.recorded t).events label_of

-- the step at the position of event i emits event i
pub event_position_emits : (f : FittedTrace) (h : HasRun f) (t : ℕ) → t < length f.guest.entries → (i : ℕ) (d : Event)
    → i < length (recorded_thread f.recorded t).events
    → EmitsIn f h t (get_or (placed_at (placed_of f) t).entries i 0) (label_of (get_or (recorded_thread f.recorded t).events i d))
event_position_emits f h t l i d li =
    let es : List Event = (recorded_thread f.recorded t).events in
    let k : ℕ = get_or (placed_at (placed_of f) t).entries i 0 in
    let e : Label = label_of (get_or es i d) in
    let event : At (map label_of es) i e = subst (At (map label_of es) i) (get_or-map label_of es i d e li)
    (get_or_is_at (map label_of es) i e (let n = length-map es label_of in omega (arith, n, li))) in
    let place : At (placed_at (placed_of f) t).entries i k =
    get_or_is_at (placed_at (placed_of f) t).entries i 0 (let n = entries_count_events f h t l in omega (arith, n, li)) in
    trail_step_is_emitted f h t k e (step_at_place_of_event 0 (trail_in f h t) i k e (subst (λ xs. At xs i e) (sym (h.whole.1.logs t l)) event)
    (subst (λ xs. At xs i k) (placed_entries_of_run f h t l) place))

-- a step that is logged is an event's, at its position
pub logged_step_is_of_event : (f : FittedTrace) (h : HasRun f) (t k : ℕ) (e : Label) → ((es : List Label) → logged e es ≡ e ∷ es) → EmitsIn f h t k e
    → (i : ℕ) × (i < length (recorded_thread f.recorded t).events) × (get_or (placed_at (placed_of f) t).entries i 0 ≡ k)
    × ((d : Event) → label_of (get_or (recorded_thread f.recorded t).events i d) ≡ e)
logged_step_is_of_event f h t k e logs emitted =
    let l = emitting_is_guest_thread f h t k e emitted in
    let es : List Event = (recorded_thread f.recorded t).events in
    let g = event_of_logged_step 0 (trail_in f h t) k emitted.0 e logs emitted.1 in
    let event : At (map label_of es) g.0 e = subst (λ xs. At xs g.0 e) (h.whole.1.logs t l) g.1 in
    let place : At (placed_at (placed_of f) t).entries g.0 (0 + k) = subst (λ xs. At xs g.0 (0 + k)) (sym (placed_entries_of_run f h t l)) g.2 in
    let found = at_is_get_or (map label_of es) g.0 e event in
    let li : g.0 < length es = let n = length-map es label_of in let m = found.0 in omega (arith, n, m) in (
      g.0,
      li,
      (at_is_get_or (placed_at (placed_of f) t).entries g.0 (0 + k) place).1 0
          ∙ (let q : 0 + k ≡ k = omega arith in q),
      λ d. sym (get_or-map label_of es g.0 d e li) ∙ found.1 e,
    )

-- each entry is an event's
pub entry_step_is_of_event : (f : FittedTrace) (h : HasRun f) (t k o : ℕ) (a : Access) (v n : ℕ) → EmitsIn f h t k (EnteredAt o a v n)
    → (i : ℕ) × (i < length (recorded_thread f.recorded t).events) × (get_or (placed_at (placed_of f) t).entries i 0 ≡ k)
    × ((d : Event) → label_of (get_or (recorded_thread f.recorded t).events i d) ≡ EnteredAt o a v n)
entry_step_is_of_event f h t k o a v n emitted = logged_step_is_of_event f h t k (EnteredAt o a v n) (λ es. refl) emitted

-- so is each answer
pub answer_step_is_of_event : (f : FittedTrace) (h : HasRun f) (t k : ℕ) (kind : EnvKind) (value : ℕ) → EmitsIn f h t k (Answer kind value)
    → (i : ℕ) × (i < length (recorded_thread f.recorded t).events) × (get_or (placed_at (placed_of f) t).entries i 0 ≡ k)
    × ((d : Event) → label_of (get_or (recorded_thread f.recorded t).events i d) ≡ Answer kind value)
answer_step_is_of_event f h t k kind value emitted = logged_step_is_of_event f h t k (Answer kind value) (λ es. refl) emitted

-- the positions of the events rise
pub event_positions_rise : (f : FittedTrace) (h : HasRun f) (t : ℕ) → t < length f.guest.entries → (i j : ℕ) → i < j
    → j < length (placed_at (placed_of f) t).entries → get_or (placed_at (placed_of f) t).entries i 0 < get_or (placed_at (placed_of f) t).entries j 0
event_positions_rise f h t l = rising_is_increasing 0 (placed_at (placed_of f) t).entries (subst (Rises 0) (sym (placed_entries_of_run f h t l)) (places_rise 0 (trail_in f h t)))

-- and are below the thread's steps
pub event_position_below : (f : FittedTrace) (h : HasRun f) (t : ℕ) → t < length f.guest.entries → (i : ℕ)
    → i < length (placed_at (placed_of f) t).entries → get_or (placed_at (placed_of f) t).entries i 0 < (recorded_thread f.recorded t).steps
event_position_below f h t l i li =
    let d : Event = logged_event.Answer Clock 0 in
    emitting_step_in_record f h t (get_or (placed_at (placed_of f) t).entries i 0) (label_of (get_or (recorded_thread f.recorded t).events i d))
    (event_position_emits f h t l i d (let n = entries_count_events f h t l in omega (arith, n, li)))

-- the step of leave i emits leave i
pub leave_step_emits_leave : (f : FittedTrace) (h : HasRun f) (t : ℕ) → t < length f.guest.entries → (i : ℕ) (d : Leave)
    → i < length (placed_at (placed_of f) t).leaves
    → EmitsIn f h t (get_or (placed_at (placed_of f) t).leaves i d).position
    (LeftAt (get_or (placed_at (placed_of f) t).leaves i d).object (get_or (placed_at (placed_of f) t).leaves i d).access
    (get_or (placed_at (placed_of f) t).leaves i d).version)
leave_step_emits_leave f h t l i d li =
    let e : Leave = get_or (placed_at (placed_of f) t).leaves i d in
    trail_step_is_emitted f h t e.position (LeftAt e.object e.access e.version)
    (step_at_place_of_leave 0 (trail_in f h t) i e (subst (λ xs. At xs i e) (placed_leaves_of_run f h t l) (get_or_is_at (placed_at (placed_of f) t).leaves i d li)))

-- each leave is one of these
pub emitted_leave_is_placed : (f : FittedTrace) (h : HasRun f) (t k o : ℕ) (a : Access) (v : ℕ) → EmitsIn f h t k (LeftAt o a v)
    → (i : ℕ) × (i < length (placed_at (placed_of f) t).leaves)
    × ((d : Leave) → get_or (placed_at (placed_of f) t).leaves i d ≡ record { position = k; object = o; access = a; version = v })
emitted_leave_is_placed f h t k o a v emitted =
    let l = emitting_is_guest_thread f h t k (LeftAt o a v) emitted in
    let g = leave_of_step 0 (trail_in f h t) k emitted.0 o a v emitted.1 in
    let at : At (placed_at (placed_of f) t).leaves g.0 (leave_at (0 + k) o a v) =
    subst (λ xs. At xs g.0 (leave_at (0 + k) o a v)) (sym (placed_leaves_of_run f h t l)) g.1 in
    let found = at_is_get_or (placed_at (placed_of f) t).leaves g.0 (leave_at (0 + k) o a v) at in
    (g.0, found.0, λ d. found.1 d ∙ ap (λ j. leave_at j o a v) (let q : 0 + k ≡ k = omega arith in q))

-- the positions of the leaves rise
pub leave_positions_rise : (f : FittedTrace) (h : HasRun f) (t : ℕ) → t < length f.guest.entries → (i j : ℕ) (d : Leave) → i < j
    → j < length (placed_at (placed_of f) t).leaves
    → (get_or (placed_at (placed_of f) t).leaves i d).position < (get_or (placed_at (placed_of f) t).leaves j d).position
leave_positions_rise f h t l i j d lt lj =
    let ls : List Leave = (placed_at (placed_of f) t).leaves in
    let place : Leave → ℕ = λ e. e.position in
    let n = length-map ls place in
    let up = rising_is_increasing 0 (positions ls) (subst (λ xs. Rises 0 (positions xs)) (sym (placed_leaves_of_run f h t l)) (leaves_from_rise 0 (trail_in f h t)))
    i j lt (omega (arith, n, lj)) in
    let first : get_or (positions ls) i 0 ≡ (get_or ls i d).position = get_or-map place ls i d 0 (omega (arith, lt, lj)) in
    let second : get_or (positions ls) j 0 ≡ (get_or ls j d).position = get_or-map place ls j d 0 lj in
    omega (arith, up, first, second)

-- and are below the thread's steps
pub leave_position_below : (f : FittedTrace) (h : HasRun f) (t : ℕ) → t < length f.guest.entries → (i : ℕ) (d : Leave)
    → i < length (placed_at (placed_of f) t).leaves → (get_or (placed_at (placed_of f) t).leaves i d).position < (recorded_thread f.recorded t).steps
leave_position_below f h t l i d li =
    let e : Leave = get_or (placed_at (placed_of f) t).leaves i d in
    emitting_step_in_record f h t e.position (LeftAt e.object e.access e.version) (leave_step_emits_leave f h t l i d li)
