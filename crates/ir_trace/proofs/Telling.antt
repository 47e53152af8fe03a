-- Recordings that say the same are equal.
use Rattle.std.proofs.Common.{◌≡◌, ℕ, zero, suc, List, [], ◌∷◌, length, map, Option, Some, refl, sym, ap, ◌∙◌, arith}
use Rattle.std.specs.List.{slice_index_or}
use Rattle.ir_thread.specs.State.{end_number, end_code, end_of}
use Rattle.ir_thread.specs.declared.end.End.{End}
use Rattle.ir_runs.specs.Machine.{Label, Trace}
use Rattle.ir_log.specs.Logging.{label_of}
use Rattle.ir_log.specs.declared.event.Event.{Event}
use Rattle.ir_trace.specs.Recorded.{RecordedThread, Recorded, trace_of}
use Rattle.ir_trace.specs.Absent.{absent}
use Rattle.ir_thread.proofs.CallerLemmas.{end_of_number_and_code}

-- different events are different labels
abbrev pub OneLabelEach : Type 0
OneLabelEach = (a b : Event) → label_of a ≡ label_of b → a ≡ b

heads_and_tails_equal : (x y : Label) (xs ys : List Label) → x ∷ xs ≡ y ∷ ys → (x ≡ y) × (xs ≡ ys)
heads_and_tails_equal x y xs ys e = (cc, cc)

events_equal_by_labels : OneLabelEach → (xs ys : List Event) → map label_of xs ≡ map label_of ys → xs ≡ ys
events_equal_by_labels law [] [] e = refl
events_equal_by_labels law [] (y ∷ ys) e = absurd cc
events_equal_by_labels law (x ∷ xs) [] e = absurd cc
events_equal_by_labels law (x ∷ xs) (y ∷ ys) e =
    let both = heads_and_tails_equal (label_of x) (label_of y) (map label_of xs) (map label_of ys) e in
    let first : x ≡ y = law x y both.0 in
    ap (λ (k : Event). k ∷ xs) first ∙ ap (λ (k : List Event). y ∷ k) (events_equal_by_labels law xs ys both.1)

abbrev some_of : {A : Type 0} → A → Option A
some_of x = Some x

some_is_injective : {A : Type 0} (x y : A) → some_of x ≡ some_of y → x ≡ y
some_is_injective x y e = cc

abbrev both_numbers : ℕ → ℕ → Option (ℕ × ℕ)
both_numbers n c = Some (n, c)

both_numbers_injective : (n c m d : ℕ) → both_numbers n c ≡ both_numbers m d → (n ≡ m) × (c ≡ d)
both_numbers_injective n c m d e =
    let pair = some_is_injective {A = ℕ × ℕ} (n, c) (m, d) e in
    (ap (λ (p : ℕ × ℕ). p.0) pair, ap (λ (p : ℕ × ℕ). p.1) pair)

ends_equal_by_numbers : (x y : End) → both_numbers (end_number x) (end_code x) ≡ both_numbers (end_number y) (end_code y) → x ≡ y
ends_equal_by_numbers x y e =
    let both = both_numbers_injective (end_number x) (end_code x) (end_number y) (end_code y) e in
    let moved : end_of (end_number x) (end_code x) ≡ end_of (end_number y) (end_code y) =
    ap (λ (n : ℕ). end_of n (end_code x)) both.0 ∙ ap (λ (c : ℕ). end_of (end_number y) c) both.1 in
    some_is_injective x y (sym (end_of_number_and_code x) ∙ moved ∙ end_of_number_and_code y)

abbrev end_of_thread : RecordedThread → Option (ℕ × ℕ)
end_of_thread t = both_numbers (end_number t.end) (end_code t.end)

-- two lists of threads with the same steps, labels and ends
record EmitAlike (xs ys : List RecordedThread) : Type 0 where
  steps : (t : ℕ) → (slice_index_or xs t absent).steps ≡ (slice_index_or ys t absent).steps
  logs : (t : ℕ) → map label_of (slice_index_or xs t absent).events ≡ map label_of (slice_index_or ys t absent).events
  ends : (t : ℕ) → end_of_thread (slice_index_or xs t absent) ≡ end_of_thread (slice_index_or ys t absent)

recorded_threads_equal_if_parts_equal : OneLabelEach → (x y : RecordedThread) → x.steps ≡ y.steps → map label_of x.events ≡ map label_of y.events
    → end_of_thread x ≡ end_of_thread y → x ≡ y
recorded_threads_equal_if_parts_equal law x y s l e =
    let end = ends_equal_by_numbers x.end y.end e in
    let events = events_equal_by_labels law x.events y.events l in
    λ i. record { steps = s i; end = end i; events = events i }

recorded_threads_equal_if_emit_alike : OneLabelEach → (xs ys : List RecordedThread) → length xs ≡ length ys → EmitAlike xs ys → xs ≡ ys
recorded_threads_equal_if_emit_alike law [] [] n h = refl
recorded_threads_equal_if_emit_alike law [] (y ∷ ys) n h = absurd (omega (arith, n))
recorded_threads_equal_if_emit_alike law (x ∷ xs) [] n h = absurd (omega (arith, n))
recorded_threads_equal_if_emit_alike law (x ∷ xs) (y ∷ ys) n h =
    let first : x ≡ y = recorded_threads_equal_if_parts_equal law x y (h.steps zero) (h.logs zero) (h.ends zero) in
    let others : xs ≡ ys = recorded_threads_equal_if_emit_alike law xs ys (omega (arith, n))
    (record { steps = λ t. h.steps (suc t); logs = λ t. h.logs (suc t); ends = λ t. h.ends (suc t) }) in
    ap (λ (k : RecordedThread). k ∷ xs) first ∙ ap (λ (k : List RecordedThread). y ∷ k) others

pub recorded_equal_by_trace : OneLabelEach → (a b : Recorded) → a.objects ≡ b.objects → a.budget ≡ b.budget → a.profile ≡ b.profile → length a.threads ≡ length b.threads
    → trace_of a ≡ trace_of b → a ≡ b
recorded_equal_by_trace law a b o n p l e =
    let threads = recorded_threads_equal_if_emit_alike law a.threads b.threads l
    (record {
      steps = λ t. ap (λ (x : Trace). x.steps t) e;
      logs = λ t. ap (λ (x : Trace). x.logs t) e;
      ends =
          λ t. ap (λ (x : Trace). x.ends t) e;
    }) in
    λ i. record { objects = o i; budget = n i; profile = p i; threads = threads i }
