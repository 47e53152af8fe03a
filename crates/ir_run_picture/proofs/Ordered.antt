-- In a run with a trace what an event needs is left before the step of the event.
use Rattle.std.proofs.Common.{◌≡◌, ℕ, suc, ◌+◌, ◌<◌, inl, inr, Bool, true, false, List, ◌++◌, length, take, drop, refl, sym, ap, ◌∙◌, subst, arith}
use Rattle.std.proofs.lemmas.Bool.{cases_eq, cases_lt, false≢true}
use Rattle.std.proofs.lemmas.List.{length-append}
use Rattle.ir_runs.specs.Machine.{Label, EnteredAt, LeftAt}
use Rattle.ir_runs.specs.Run.{Step, IsRun, At, Emits, count, end, log, trail, Consistent, IsNeededBy}
use Rattle.ir_runs.specs.declared.access.Access.{Access}
use Rattle.ir_runs.specs.declared.access.Access.TheVariants.{Reading, Writing}
use Rattle.ir_runs.proofs.CallerLemmas.{prefix_of_run_is_run, trail_append, log_append, beginning_is_prefix}
use Rattle.ir_log.specs.declared.event.Event.TheVariants.{Read, Write}
use Rattle.ir_fit.specs.Fit.{FittedTrace, HasRun}
use Rattle.ir_fit.proofs.CallerLemmas.{at_is_get_or}
use Rattle.ir_cut.specs.Positions.{machine_of, start_of}
use Rattle.ir_weave.proofs.CallerLemmas.{guest_machine_is_lawful, guest_start_invariant}
use Rattle.ir_picture.specs.Needs.{Needs}
use Rattle.ir_events.specs.Events.{event_entry}
use Rattle.ir_opened.specs.Positions.{IsLeaveOf}
use Rattle.ir_opened.proofs.CallerLemmas.{leave_of_read_emits, leave_of_write_emits, event_step_emits_label}
use Rattle.ir_run_picture.proofs.Places.{place_in, taken_in, count_is_taken_in, place_in_rises, place_in_apart, taken_step_is_within, step_within_is_taken, run_is_take_and_drop}

-- ---- what steps emit

-- a step emits one label
emitted_label_unique : {X : Type 0} (xs : List (X × Label)) (k : ℕ) (x y : X) (a b : Label) → At xs k (x, a) → At xs k (y, b) → a ≡ b
emitted_label_unique {X = X} xs k x y a b one two =
    let p = (at_is_get_or xs k (x, a) one).1 (x, a) in
    let q = (at_is_get_or xs k (y, b) two).1 (x, a) in
    ap (λ (z : X × Label). z.1) (sym p ∙ q)

emitted_step_is_taken : (f : FittedTrace) (h : HasRun f) (t k : ℕ) (a : Label) → Emits (machine_of f) (start_of f) h.run t k a → k < taken_in h.run t
emitted_step_is_taken f h t k a emits =
    let within = (at_is_get_or (trail (machine_of f) (start_of f) h.run t) k (emits.0, a) emits.1).0 in
    let same = count_is_taken_in (machine_of f) (start_of f) h.run t in
    omega (arith, within, same)

-- ---- the first steps of a run

-- the steps that a thread takes among the first n of a run are a consistent cut
first_count_consistent : (f : FittedTrace) (h : HasRun f) (n : ℕ)
    → Consistent (machine_of f) (start_of f) h.run (λ t. count (machine_of f) (start_of f) (take n h.run) t)
first_count_consistent f h n =
    let m = machine_of f in
    let s = start_of f in
    let first = take n h.run in
    let rest = drop n h.run in
    let whole : first ++ rest ≡ h.run = run_is_take_and_drop h.run n in
    let runs : IsRun m s (first ++ rest) = subst (IsRun m s) (sym whole) h.whole.1.runs in
    (beginning_is_prefix m (guest_machine_is_lawful f) s (guest_start_invariant f) h.run first h.whole.1.runs
    (prefix_of_run_is_run m s first rest runs) (λ t. log m (end m s first) rest t)
    (λ t. sym (log_append m s first rest t) ∙ ap (λ (z : List Step). log m s z t) whole)
    (λ t.
    let parts = ap length (trail_append m s first rest t) ∙ length-append (trail m s first t) (trail m (end m s first) rest t) in
    let all = ap (λ (z : List Step). count m s z t) whole in
    omega (arith, parts, all)) (λ t. count m s first t) (λ t. refl)).consistent

abbrev is_in : Label → Bool
is_in (EnteredAt o a v l) = true
is_in _ = false

-- what a step needs is taken before it
needed_step_is_before : (f : FittedTrace) (h : HasRun f) (t k u j o p v w l : ℕ) (a b : Access) → Emits (machine_of f) (start_of f) h.run t k (EnteredAt o a v l)
    → Emits (machine_of f) (start_of f) h.run u j (LeftAt p b w) → IsNeededBy (LeftAt p b w) (EnteredAt o a v l) → place_in h.run u j < place_in h.run t k
needed_step_is_before f h t k u j o p v w l a b enters leaves needs =
    let m = machine_of f in
    let s = start_of f in
    let n = suc (place_in h.run t k) in
    let own = emitted_step_is_taken f h t k (EnteredAt o a v l) enters in
    let other = emitted_step_is_taken f h u j (LeftAt p b w) leaves in
    let own_first = step_within_is_taken h.run n t k own (omega arith) in
    let same_t = count_is_taken_in m s (take n h.run) t in
    let same_u = count_is_taken_in m s (take n h.run) u in
    let in_cut = first_count_consistent f h n t k u j (EnteredAt o a v l) (LeftAt p b w) enters leaves needs (omega (arith, own_first, same_t)) in
    let other_first = taken_step_is_within h.run n u j (omega (arith, in_cut, same_u)) in
    elim (cases_eq u t) [
      | inl same ↦
          let leaves_t = subst (λ z. Emits m s h.run z j (LeftAt p b w)) same leaves in
          let place_t = ap (λ z. place_in h.run z j) same in
          let less : j < k = elim (cases_lt j k) [
            | inl before ↦ before
            | inr past ↦ elim (cases_eq j k) [
              | inl one ↦
                  let at_k = subst (λ z. Emits m s h.run t z (LeftAt p b w)) one leaves_t in
                  absurd (false≢true (ap is_in (emitted_label_unique (trail m s h.run t) k at_k.0 enters.0 (LeftAt p b w) (EnteredAt o a v l) at_k.1 enters.1)))
              | inr ne ↦
                  let up = place_in_rises h.run t k j (omega (arith, past, ne)) in
                  absurd (omega (arith, up, other_first, place_t))
            ]
          ] in
          let up = place_in_rises h.run t j k less in
          omega (arith, up, place_t)
      | inr ne ↦ elim (cases_eq (place_in h.run u j) (place_in h.run t k)) [
        | inl one ↦ absurd (place_in_apart h.run u t j k ne other own one)
        | inr two ↦ omega (arith, other_first, two)
      ]
    ]

-- the leave of what an event needs comes before the step of the event
pub needed_is_left_before : (f : FittedTrace) (h : HasRun f) (t i u j k : ℕ) → Needs f.recorded t i u j → IsLeaveOf f u j k
    → place_in h.run u k < place_in h.run t (event_entry f t i)
needed_is_left_before f h t i u j k (inl maker) left = elim maker.entry [
  | inl read ↦ needed_step_is_before f h t (event_entry f t i) u k maker.object maker.object (suc maker.version) maker.version 0 Reading Writing
      (event_step_emits_label f h t i (Read maker.object (suc maker.version)) read)
      (leave_of_write_emits f h u j k maker.object maker.version maker.readers maker.made left) (refl, refl)
  | inr write ↦ needed_step_is_before f h t (event_entry f t i) u k maker.object maker.object (suc maker.version) maker.version write.0 Writing Writing
      (event_step_emits_label f h t i (Write maker.object (suc maker.version) write.0) write.1)
      (leave_of_write_emits f h u j k maker.object maker.version maker.readers maker.made left) (refl, refl)
]
needed_is_left_before f h t i u j k (inr reader) left =
    needed_step_is_before f h t (event_entry f t i) u k reader.object reader.object reader.version reader.version reader.readers Writing Reading
    (event_step_emits_label f h t i (Write reader.object reader.version reader.readers) reader.write)
    (leave_of_read_emits f h u j k reader.object reader.version reader.read left) (refl, refl)
