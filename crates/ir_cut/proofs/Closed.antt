-- Whether what the steps of a cut need is in it.
use Rattle.std.proofs.Common.{◌≡◌, ℕ, ◌+◌, ◌<◌, ◌≤◌, ◌↔◌, Bool, true, false, List, length, Some, refl, sym, ap, ◌∙◌, subst, arith, inl, inr, IsTrue, zero, suc}
use Rattle.std.specs.Prelude.{slice_get, replicate}
use Rattle.std.specs.List.{slice_index_or}
use Rattle.std.proofs.lemmas.Bool.{cases_lt}
use Rattle.std.proofs.lemmas.List.{get_or_past}
use Rattle.std.proofs.lemmas.Option.{slice_get_within, slice_get-get_or}
use Rattle.ir_log.specs.Logging.{label_of}
use Rattle.ir_log.specs.declared.event.Event.{Event}
use Rattle.ir_trace.specs.Recorded.{recorded_thread}
use Rattle.ir_runs.specs.Run.{Emits, IsNeededBy}
use Rattle.ir_fit.specs.Fit.{FittedTrace, HasRun}
use Rattle.ir_fit.specs.Placed.{placed_at, placed_of}
use Rattle.ir_fit.specs.Within.{IsFitted}
use Rattle.ir_cut.specs.Positions.{machine_of, start_of, cut_of, EachRun, IsConsistentCut, threads_of, first_cut}
use Rattle.ir_cut.specs.Searching.{AreInside, NeededBy, IsClosedCut}
use Rattle.ir_cut.proofs.Again.{emitting_below_threads}
use Rattle.ir_cut.proofs.Listing.{run_of_trace_is_listed}
use Rattle.ir_cut.proofs.Searched.{needing_label_is_entry, slice_get_unique}

-- what the first n events of thread t need is inside
abbrev pub AreNeedsOfFirstInside : FittedTrace → List ℕ → ℕ → ℕ → Type 0
AreNeedsOfFirstInside f qs t n = (e : ℕ) (x : Event) → e < n → slice_get (recorded_thread f.recorded t).events e ≡ Some x
    → EachRun f (λ run. AreInside f run (NeededBy (label_of x)) (cut_of qs))

-- it is closed, where all events in the cut are among them
closed_by_needs_in_cut : (f : FittedTrace) → IsFitted f → (qs : List ℕ) (t n : ℕ) → AreNeedsOfFirstInside f qs t n
    → ((e i : ℕ) → slice_get (placed_at (placed_of f) t).entries e ≡ Some i → i < cut_of qs t → e < n)
    → EachRun f (λ run. IsClosedCut f run (cut_of qs) t)
closed_by_needs_in_cut f fit qs t n met first run is i k emits inside w j b at need =
    let x = needing_label_is_entry b k need in
    let e = (run_of_trace_is_listed f fit.run run is).entry t i x.object x.access x.version x.left
    (subst (Emits (machine_of f) (start_of f) run t i) x.is emits) in
    met e.0 e.1 (first e.0 i e.2 inside) e.3 run is w j b at (subst (IsNeededBy b) (x.is ∙ sym e.4) need)

-- at the end of the log
pub closed_by_whole_log : (f : FittedTrace) → IsFitted f → (qs ks : List ℕ) (t n : ℕ) → ks ≡ (placed_at (placed_of f) t).entries → length ks ≤ n
    → AreNeedsOfFirstInside f qs t n → IsTrue true ↔ EachRun f (λ run. IsClosedCut f run (cut_of qs) t)
closed_by_whole_log f fit qs ks t n list over met = (
  (λ _. closed_by_needs_in_cut f fit qs t n met (λ e i at _. let l = slice_get_within (placed_at (placed_of f) t).entries e i at in
      let same : length ks ≡ length (placed_at (placed_of f) t).entries = ap length list in omega (arith, l, same, over))),
  (λ _. refl),
)

-- where the next event isn't in the cut
pub closed_by_next_outside : (f : FittedTrace) → IsFitted f → (qs ks : List ℕ) (t n k : ℕ) → t < length f.guest.entries
    → ks ≡ (placed_at (placed_of f) t).entries → n < length ks → k ≡ slice_index_or ks n 0 → cut_of qs t ≤ k → AreNeedsOfFirstInside f qs t n
    → IsTrue true ↔ EachRun f (λ run. IsClosedCut f run (cut_of qs) t)
closed_by_next_outside f fit qs ks t n k there list l read past met = (
  (λ _. closed_by_needs_in_cut f fit qs t n met (λ e i at inside. elim (cases_lt e n) [
    | inl less ↦ less
    | inr behind ↦
        let here : slice_get (placed_at (placed_of f) t).entries n ≡ Some k = ap (λ z. slice_get z n) (sym list) ∙ slice_get-get_or ks n 0 l
        ∙ ap Some (sym read) in
        elim (cases_lt n e) [
          | inl before ↦ let up = (run_of_trace_is_listed f fit.run fit.run.run fit.run.whole).rise t n e k i there before here at in
              absurd (omega (arith, up, inside, past))
          | inr same ↦ let one : k ≡ i = slice_get_unique (placed_at (placed_of f) t).entries n e k i
              (let d : n ≡ e = omega (arith, behind, same) in d) here at in absurd (omega (arith, one, inside, past))
        ]
  ])),
  (λ _. refl),
)

-- where what it needs isn't inside
-- the log has an event for each position
pub entry_index_has_event : (f : FittedTrace) (ks : List ℕ) (es : List Event) (t n : ℕ) → ks ≡ (placed_at (placed_of f) t).entries
    → length es ≡ length (placed_at (placed_of f) t).entries → n < length ks → n < length es
entry_index_has_event f ks es t n list size l = let same : length ks ≡ length (placed_at (placed_of f) t).entries = ap length list in
    omega (arith, l, same, size)

pub not_closed_by_need : (f : FittedTrace) → IsFitted f → (qs ks : List ℕ) (es : List Event) (t n k : ℕ) (x : Event) (b : Bool)
    → t < length f.guest.entries → ks ≡ (placed_at (placed_of f) t).entries → es ≡ (recorded_thread f.recorded t).events → n < length ks
    → k ≡ slice_index_or ks n 0 → k < cut_of qs t
    → slice_get es n ≡ Some x → IsTrue b ↔ EachRun f (λ run. AreInside f run (NeededBy (label_of x)) (cut_of qs)) → b ≡ false
    → IsTrue false ↔ EachRun f (λ run. IsClosedCut f run (cut_of qs) t)
not_closed_by_need f fit qs ks es t n k x b there list log l read inside event test is = (
  (λ h. absurd (cc h)),
  (λ closed. absurd (cc (
    is,
    test.1 (λ run ok.
        closed run ok k (label_of x) ((run_of_trace_is_listed f fit.run run ok).event t n k x there (ap (λ z. slice_get z n) (sym log) ∙ event)
        (ap (λ z. slice_get z n) (sym list) ∙ slice_get-get_or ks n 0 l ∙ ap Some (sym read))) inside),
  ))),
)

-- one more
pub first_needs_step : (f : FittedTrace) (qs : List ℕ) (es : List Event) (t n : ℕ) (x : Event) (b : Bool)
    → es ≡ (recorded_thread f.recorded t).events → slice_get es n ≡ Some x
    → IsTrue b ↔ EachRun f (λ run. AreInside f run (NeededBy (label_of x)) (cut_of qs)) → b ≡ true
    → AreNeedsOfFirstInside f qs t n → AreNeedsOfFirstInside f qs t (n + 1)
first_needs_step f qs es t n x b log event test is met e y l at = elim (cases_lt e n) [
  | inl less ↦ met e y less at
  | inr past ↦ subst (λ z. EachRun f (λ run. AreInside f run (NeededBy (label_of z)) (cut_of qs)))
      (slice_get_unique es n e x y (let d : n ≡ e = omega (arith, l, past) in d) event (ap (λ z. slice_get z e) log ∙ at)) (test.0 is)
]

-- ---- all threads

-- the first n threads are closed, and none is past its last step
abbrev pub AreFirstThreadsClosed : FittedTrace → List ℕ → ℕ → Type 0
AreFirstThreadsClosed f qs n = (t : ℕ) → t < n → (cut_of qs t ≤ (recorded_thread f.recorded t).steps)
    × EachRun f (λ run. IsClosedCut f run (cut_of qs) t)

pub consistent_if_closed : (f : FittedTrace) → HasRun f → (qs : List ℕ) → length qs ≡ length f.guest.entries → AreFirstThreadsClosed f qs (length qs)
    → IsConsistentCut f qs
consistent_if_closed f h qs size first run is = (
  (λ t. elim (cases_lt t (length qs)) [
    | inl l ↦ let a = (first t l).0 in let b = is.1.steps t (omega (arith, l, size)) in omega (arith, a, b)
    | inr past ↦ let none : cut_of qs t ≡ 0 = get_or_past qs t 0 past in omega (arith, none)
  ]),
  (λ t i u j a b at says n inside.
      let there : t < length f.guest.entries = emitting_below_threads f h run is t i a at in
      (first t (omega (arith, there, size))).1 run is i a at inside u j b says n),
)

pub consistent_is_closed : (f : FittedTrace) → IsFitted f → (qs : List ℕ) → IsConsistentCut f qs → (t : ℕ) → t < length f.guest.entries
    → (cut_of qs t ≤ (recorded_thread f.recorded t).steps) × EachRun f (λ run. IsClosedCut f run (cut_of qs) t)
consistent_is_closed f fit qs h t there = (
  (let a = (h fit.run.run fit.run.whole).0 t in let b = fit.run.whole.1.steps t there in omega (arith, a, b)),
  (λ run is i k emits inside u j b says n. (h run is).1 t i u j k b emits says n inside),
)

-- one more
pub first_closed_step : (f : FittedTrace) (qs : List ℕ) (n : ℕ) (b : Bool) → IsTrue b ↔ (cut_of qs n ≤ (recorded_thread f.recorded n).steps)
    × EachRun f (λ run. IsClosedCut f run (cut_of qs) n) → b ≡ true → AreFirstThreadsClosed f qs n → AreFirstThreadsClosed f qs (n + 1)
first_closed_step f qs n b test is first t l = elim (cases_lt t n) [
  | inl less ↦ first t less
  | inr past ↦ subst (λ z. (cut_of qs z ≤ (recorded_thread f.recorded z).steps) × EachRun f (λ run. IsClosedCut f run (cut_of qs) z))
      (let e : n ≡ t = omega (arith, l, past) in e) (test.0 is)
]

pub inconsistent_if_unclosed : (f : FittedTrace) → IsFitted f → (qs : List ℕ) (n : ℕ) (b : Bool) → n < length f.guest.entries
    → IsTrue b ↔ (cut_of qs n ≤ (recorded_thread f.recorded n).steps) × EachRun f (λ run. IsClosedCut f run (cut_of qs) n) → b ≡ false
    → IsTrue false ↔ IsConsistentCut f qs
inconsistent_if_unclosed f fit qs n b there test is = (
  (λ h. absurd (cc h)),
  (λ h. absurd (cc (is, test.1 (consistent_is_closed f fit qs h n there)))),
)

pub closed_test_sound : (f : FittedTrace) (qs : List ℕ) (t n : ℕ) (b : Bool) → n ≡ (recorded_thread f.recorded t).steps → cut_of qs t ≤ n
    → IsTrue b ↔ EachRun f (λ run. IsClosedCut f run (cut_of qs) t)
    → IsTrue b ↔ (cut_of qs t ≤ (recorded_thread f.recorded t).steps) × EachRun f (λ run. IsClosedCut f run (cut_of qs) t)
closed_test_sound f qs t n b steps l test = (
  (λ is. ((let a : cut_of qs t ≤ (recorded_thread f.recorded t).steps = omega (arith, l, steps) in a), test.0 is)),
  (λ h. test.1 h.1),
)

pub last_closed_consistent : (f : FittedTrace) → HasRun f → (qs : List ℕ) (n : ℕ) → length qs ≡ length f.guest.entries → length qs ≤ n
    → AreFirstThreadsClosed f qs n → IsTrue true ↔ IsConsistentCut f qs
last_closed_consistent f h qs n size past first = (
  (λ _. consistent_if_closed f h qs size (λ t l. first t (omega (arith, l, past)))),
  (λ _. refl),
)

pub cut_of_zeros_is_zero : (n t : ℕ) → cut_of (replicate n 0) t ≡ 0
cut_of_zeros_is_zero zero t = refl
cut_of_zeros_is_zero (suc n) zero = refl
cut_of_zeros_is_zero (suc n) (suc t) = cut_of_zeros_is_zero n t

pub first_cut_is_consistent : (f : FittedTrace) → IsConsistentCut f (first_cut f)
first_cut_is_consistent f run whole = (
  λ t. let none = cut_of_zeros_is_zero (threads_of f) t in omega (arith, none),
  λ t k u j a b emitted needed needs less. let none = cut_of_zeros_is_zero (threads_of f) t in absurd (omega (arith, none, less)),
)
