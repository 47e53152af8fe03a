-- The events of a run, in its order, each come after all that they need.
use Rattle.std.proofs.Common.{◌≡◌, ℕ, suc, zero, ◌+◌, ◌-◌, ◌<◌, ◌≤◌, ◌⊎◌, inl, inr, Bool, cond, eqb, List, [], ◌∷◌, map, length, drop, Some, None, refl, sym, ap, ◌∙◌, subst, arith, eq-eqb, ne_eqb}
use Rattle.std.proofs.lemmas.Bool.{cases_eq, cases_lt}
use Rattle.std.proofs.lemmas.Option.{same_Some, none-some}
use Rattle.ir_runs.specs.Machine.{Entered, Left, Machine, Object, target, Admits, acted, Label, Quiet, Answer, EnteredAt, FailedTry, LeftAt, logged}
use Rattle.ir_runs.specs.Lawful.{IsLawful}
use Rattle.ir_runs.specs.declared.access.Access.{Access}
use Rattle.ir_runs.specs.declared.access.Access.TheVariants.{Reading, Writing}
use Rattle.ir_runs.specs.Run.{act, State, Step, Can, after, label, IsRun, log, At}
use Rattle.ir_runs.specs.Bounds.{IsStart}
use Rattle.ir_runs.proofs.CallerLemmas.{upd_at_own_place, StateInvariant, state_invariant_step, state_invariant_start, at_place_is_unique, act_never_lowers_version}
use Rattle.ir_thread.specs.State.{thread_machine}
use Rattle.ir_thread.specs.State as thread
use Rattle.ir_thread.proofs.CallerLemmas.{thread_machine_lawful}
use Rattle.ir_log.specs.Logging.{label_of}
use Rattle.ir_log.specs.declared.event.Event.{Event}
use Rattle.ir_log.specs.declared.event.Event.TheVariants as variant
use Rattle.ir_trace.specs.Recorded.{Recorded, recorded_thread}
use Rattle.ir_past.specs.Past.{event_at}
use Rattle.ir_past.specs.Returning.{leaves_one}
use Rattle.ir_past.proofs.CallerLemmas.{Enters, log_of_own_step, log_of_other_step, target_after_step, other_object_after_step}
use Rattle.ir_past.proofs.CallerLemmas.{entry_label_is_entering, exiting_is_inside, entering_is_not_inside, own_step_keeps_or_exits}
use Rattle.ir_past.proofs.CallerLemmas.{other_step_adds_leaves}
use Rattle.ir_picture.specs.Needs.{IsEntryOf, Needs, placed, CanFollowBox, IsOrder, HasNoCircle}
use Rattle.ir_coherence.proofs.CallerLemmas.{at_of_mapped_label}

-- ---- versions only grow

step_version_monotone : {T : Type 0} (m : Machine T) (s : State T) (e : Step) (o : ℕ) → (s.objects o).version ≤ ((after m s e).objects o).version
step_version_monotone m s e o = elim (cases_eq (target (act m s e)) o) [
  | inl here ↦ subst (λ z. (s.objects z).version ≤ ((after m s e).objects z).version) here
      (let same = ap (λ (b : Object). b.version) (target_after_step m s e) in
      let more = act_never_lowers_version (act m s e) e.0 (s.objects (target (act m s e))) in omega (arith, same, more))
  | inr ne ↦ let same = ap (λ (b : Object). b.version) (other_object_after_step m s e o (λ z. ne (sym z))) in omega (arith, same)
]

-- ---- labels of a log

-- a label is at the head of what is logged, or behind it
logged_head_or_tail : (k : Label) (ks : List Label) (n : ℕ) (x : Label) → At (logged k ks) n x → (k ≡ x) ⊎ ((i : ℕ) × At ks i x)
logged_head_or_tail Quiet ks n x at = inr (n, at)
logged_head_or_tail (Answer c v) ks zero x at = inl at
logged_head_or_tail (Answer c v) ks (suc n) x at = inr (n, at)
logged_head_or_tail (EnteredAt p a v l) ks zero x at = inl at
logged_head_or_tail (EnteredAt p a v l) ks (suc n) x at = inr (n, at)
logged_head_or_tail (FailedTry p) ks zero x at = inl at
logged_head_or_tail (FailedTry p) ks (suc n) x at = inr (n, at)
logged_head_or_tail (LeftAt p a v) ks n x at = inr (n, at)

-- the version that an entry finds is the object's
entry_label_version : {T : Type 0} (m : Machine T) (s : State T) (e : Step) (o : ℕ) (a : Access) (v l : ℕ) → label m s e ≡ EnteredAt o a v l → (s.objects o).version ≡ v
entry_label_version m s e o a v l is =
    let h = entry_label_is_entering (act m s e) (s.objects (target (act m s e))) o a v l is in
    ap (λ z. (s.objects (target z)).version) (sym h.does) ∙ h.version

-- no later write entry is at a version below the object's
no_later_write_below : {T : Type 0} (m : Machine T) (s : State T) (run : List Step) (o v u n l : ℕ) → v < (s.objects o).version
    → At (log m s run u) n (EnteredAt o Writing v l) → ⊥
no_later_write_below m s [] o v u n l less at = at
no_later_write_below m s (e ∷ run) o v u n l less at = elim (cases_eq e.0 u) [
  | inl own ↦ elim (logged_head_or_tail (label m s e) (log m (after m s e) run u) n (EnteredAt o Writing v l)
      (subst (λ (ks : List Label). At ks n (EnteredAt o Writing v l)) (log_of_own_step m s e run u own) at)) [
        | inl head ↦ let same = entry_label_version m s e o Writing v l head in omega (arith, less, same)
        | inr tail ↦ no_later_write_below m (after m s e) run o v u tail.0 l (let more = step_version_monotone m s e o in omega (arith, less, more)) tail.1
      ]
  | inr other ↦ no_later_write_below m (after m s e) run o v u n l (let more = step_version_monotone m s e o in omega (arith, less, more))
      (subst (λ (ks : List Label). At ks n (EnteredAt o Writing v l)) (log_of_other_step m s e run u other) at)
]

-- ---- a version that is written over is read no more

-- the object is past version v, or at it with thread t inside for writing
abbrev IsWrittenOver : ℕ → ℕ → Object → Type 0
IsWrittenOver v t b = (v < b.version) ⊎ ((b.version ≡ v) × (b.inside t ≡ Some Writing))

label_enters_or_not : (k : Label) (o : ℕ) → ((a : Access) × (v l : ℕ) × (k ≡ EnteredAt o a v l)) ⊎ (Enters o k → ⊥)
label_enters_or_not Quiet o = inr (λ z. z)
label_enters_or_not (Answer c x) o = inr (λ z. z)
label_enters_or_not (EnteredAt p a v l) o = elim (cases_eq p o) [
  | inl same ↦ inl (a, v, l, ap (λ z. EnteredAt z a v l) same)
  | inr ne ↦ inr ne
]
label_enters_or_not (FailedTry p) o = inr (λ z. z)
label_enters_or_not (LeftAt p a v) o = inr (λ z. z)

stays_written_over : {T : Type 0} (m : Machine T) → IsLawful m → (s : State T) → StateInvariant m s → (e : Step) (o v t : ℕ) → IsWrittenOver v t (s.objects o)
    → IsWrittenOver v t ((after m s e).objects o)
stays_written_over m law s good e o v t (inl less) = inl (let more = step_version_monotone m s e o in omega (arith, less, more))
stays_written_over m law s good e o v t (inr is) = elim (cases_eq e.0 t) [
  | inl own ↦ elim (label_enters_or_not (label m s e) o) [
    | inl entry ↦ let h = entry_label_is_entering (act m s e) (s.objects (target (act m s e))) o entry.0 entry.1 entry.2 entry.3 in
        absurd (none-some Writing (sym (subst (λ z. (s.objects o).inside z ≡ None) own (entering_is_not_inside m law s good e o entry.0 h.answer h.does)) ∙ is.1))
    | inr none ↦ elim (own_step_keeps_or_exits m s e t o own none) [
      | inl same ↦ inr (same.0 ∙ is.0, same.1 ∙ is.1)
      | inr exit ↦ inl (left exit.0 exit.1 (same_Some exit.0 Writing
          (sym (subst (λ z. (s.objects o).inside z ≡ Some exit.0) own (exiting_is_inside m law s good e o exit.0 exit.1)) ∙ is.1)))
    ]
  ]
  | inr other ↦ let step = other_step_adds_leaves m s e t o other in
      elim (cases_eq (leaves_one t o e.0 (label m s e)) 0) [
        | inl none ↦ inr ((let same = step.0 in let before = is.0 in omega (arith, same, before, none)), step.1 ∙ is.1)
        | inr some ↦ inl (let same = step.0 in let before = is.0 in omega (arith, same, before, some))
      ]
]
  where
    left : (a : Access) → act m s e ≡ Left o a → a ≡ Writing → v < ((after m s e).objects o).version
    left a does same =
        let here : act m s e ≡ Left o Writing = does ∙ ap (Left o) same in
        let object : (after m s e).objects o ≡ acted (Left o Writing) e.0 (s.objects o) =
        subst (λ q. (after m s e).objects (target q) ≡ acted q e.0 (s.objects (target q))) here (target_after_step m s e) in
        let version : ((after m s e).objects o).version ≡ suc (s.objects o).version = ap (λ (b : Object). b.version) object in
        let before = is.0 in
        omega (arith, version, before)

written_over_not_read : {T : Type 0} (m : Machine T) → IsLawful m → (s : State T) → StateInvariant m s → (run : List Step) → IsRun m s run → (o v t u n : ℕ)
    → IsWrittenOver v t (s.objects o) → At (log m s run u) n (EnteredAt o Reading v 0) → ⊥
written_over_not_read m law s good [] ok o v t u n over at = at
written_over_not_read m law s good (e ∷ run) ok o v t u n over at = elim (cases_eq e.0 u) [
  | inl own ↦ elim (logged_head_or_tail (label m s e) (log m (after m s e) run u) n (EnteredAt o Reading v 0)
      (subst (λ (ks : List Label). At ks n (EnteredAt o Reading v 0)) (log_of_own_step m s e run u own) at)) [
        | inl head ↦ by head over
        | inr tail ↦ written_over_not_read m law (after m s e) (state_invariant_step m law s good e ok.0) run ok.1 o v t u tail.0 (stays_written_over m law s good e o v t over) tail.1
      ]
  | inr other ↦ written_over_not_read m law (after m s e) (state_invariant_step m law s good e ok.0) run ok.1 o v t u n (stays_written_over m law s good e o v t over)
      (subst (λ (ks : List Label). At ks n (EnteredAt o Reading v 0)) (log_of_other_step m s e run u other) at)
]
  where
    by : label m s e ≡ EnteredAt o Reading v 0 → IsWrittenOver v t (s.objects o) → ⊥
    by head (inl less) = let same = entry_label_version m s e o Reading v 0 head in omega (arith, less, same)
    by head (inr is) =
        let h = entry_label_is_entering (act m s e) (s.objects (target (act m s e))) o Reading v 0 head in
        subst (λ q. Admits m q (s.objects (target q))) h.does ok.0 t is.1

-- behind a write entry the version that it found is read no more
write_entry_writes_over : {T : Type 0} (m : Machine T) (s : State T) (e : Step) (o v l : ℕ) → label m s e ≡ EnteredAt o Writing v l
    → IsWrittenOver v e.0 ((after m s e).objects o)
write_entry_writes_over m s e o v l is =
    let h = entry_label_is_entering (act m s e) (s.objects (target (act m s e))) o Writing v l is in
    let object : (after m s e).objects o ≡ acted (Entered o Writing h.answer) e.0 (s.objects o) =
    subst (λ q. (after m s e).objects (target q) ≡ acted q e.0 (s.objects (target q))) h.does (target_after_step m s e) in
    inr (
      ap (λ (b : Object). b.version) object ∙ entry_label_version m s e o Writing v l is,
      ap (λ (b : Object). b.inside e.0) object ∙ upd_at_own_place (s.objects o).inside e.0 (Some Writing),
    )

-- ---- what is left of a log

at_sum_if_at_of_drop : {A : Type 0} (xs : List A) (k n : ℕ) (x : A) → At (drop k xs) n x → At xs (k + n) x
at_sum_if_at_of_drop xs zero n x at = let same : n ≡ 0 + n = omega arith in subst (λ z. At xs z x) same at
at_sum_if_at_of_drop [] (suc k) n x at = absurd at
at_sum_if_at_of_drop (y ∷ ys) (suc k) n x at =
    let same : suc (k + n) ≡ suc k + n = omega arith in subst (λ z. At (y ∷ ys) z x) same (at_sum_if_at_of_drop ys k n x at)

at_of_drop_if_at_sum : {A : Type 0} (xs : List A) (k n : ℕ) (x : A) → At xs (k + n) x → At (drop k xs) n x
at_of_drop_if_at_sum xs zero n x at = let same : 0 + n ≡ n = omega arith in subst (λ z. At xs z x) same at
at_of_drop_if_at_sum [] (suc k) n x at = absurd at
at_of_drop_if_at_sum (y ∷ ys) (suc k) n x at =
    at_of_drop_if_at_sum ys k n x (let same : suc k + n ≡ suc (k + n) = omega arith in subst (λ z. At (y ∷ ys) z x) same at)

drop_suc_is_tail : {A : Type 0} (xs ys : List A) (k : ℕ) (x : A) → drop k xs ≡ x ∷ ys → drop (suc k) xs ≡ ys
drop_suc_is_tail [] ys zero x is = absurd (cc is)
drop_suc_is_tail [] ys (suc k) x is = absurd (cc is)
drop_suc_is_tail (z ∷ zs) ys zero x is = let same : zs ≡ ys = cc is in same
drop_suc_is_tail (z ∷ zs) ys (suc k) x is = drop_suc_is_tail zs ys k x is

drop_cons_below_length : {A : Type 0} (xs ys : List A) (k : ℕ) (x : A) → drop k xs ≡ x ∷ ys → k < length xs
drop_cons_below_length [] ys zero x is = absurd (cc is)
drop_cons_below_length [] ys (suc k) x is = absurd (cc is)
drop_cons_below_length (z ∷ zs) ys zero x is = omega arith
drop_cons_below_length (z ∷ zs) ys (suc k) x is = let less = drop_cons_below_length zs ys k x is in omega (arith, less)

empty_drop_length_le : {A : Type 0} (xs : List A) (k : ℕ) → drop k xs ≡ [] → length xs ≤ k
empty_drop_length_le [] k is = omega arith
empty_drop_length_le (z ∷ zs) zero is = absurd (cc is)
empty_drop_length_le (z ∷ zs) (suc k) is = let less = empty_drop_length_le zs k is in omega (arith, less)

length_of_mapped_events : (es : List Event) → length (map label_of es) ≡ length es
length_of_mapped_events [] = refl
length_of_mapped_events (e ∷ es) = ap suc (length_of_mapped_events es)

-- the labels of thread t
abbrev labels : Recorded → ℕ → List Label
labels r t = map label_of (recorded_thread r t).events

-- ---- the order of a run

-- what is placed, and what the run has yet to log
record IsUnrolled {T : Type 0} (m : Machine T) (s : State T) (run : List Step) (r : Recorded) (order : List ℕ) : Type 0 where
  pub is : IsOrder r order
  pub left : (t : ℕ) → drop (placed order t) (labels r t) ≡ log m s run t
  pub within : (t : ℕ) → placed order t ≤ length (recorded_thread r t).events

-- nothing is logged, or the label
logged_adds_or_nothing : (k : Label) → ((ks : List Label) → logged k ks ≡ ks) ⊎ ((ks : List Label) → logged k ks ≡ k ∷ ks)
logged_adds_or_nothing Quiet = inl (λ ks. refl)
logged_adds_or_nothing (Answer c x) = inr (λ ks. refl)
logged_adds_or_nothing (EnteredAt p a v l) = inr (λ ks. refl)
logged_adds_or_nothing (FailedTry p) = inr (λ ks. refl)
logged_adds_or_nothing (LeftAt p a v) = inl (λ ks. refl)

-- a step that logs nothing
unrolled_silent_step : {T : Type 0} (m : Machine T) (s : State T) (e : Step) (run : List Step) (r : Recorded) (order : List ℕ)
    → ((ks : List Label) → logged (label m s e) ks ≡ ks) → IsUnrolled m s (e ∷ run) r order → IsUnrolled m (after m s e) run r order
unrolled_silent_step m s e run r order quiet h = record { is = h.is; left = left; within = h.within }
  where
    left : (t : ℕ) → drop (placed order t) (labels r t) ≡ log m (after m s e) run t
    left t = h.left t ∙ elim (cases_eq e.0 t) [
      | inl own ↦ log_of_own_step m s e run t own ∙ quiet (log m (after m s e) run t)
      | inr other ↦ log_of_other_step m s e run t other
    ]

-- the next event of a step's thread is logged as the step's label, and all that it needs is placed
can_follow_logging_step : {T : Type 0} (m : Machine T) → IsLawful m → (s : State T) → StateInvariant m s → (e : Step) → Can m s e → (run : List Step)
    → IsRun m (after m s e) run → (r : Recorded) (order : List ℕ) → ((ks : List Label) → logged (label m s e) ks ≡ label m s e ∷ ks)
    → IsUnrolled m s (e ∷ run) r order → CanFollowBox r (placed order) e.0
can_follow_logging_step m law s good e can run ok r order logs h = record { there = there; needs = needs }
  where
    left : drop (placed order e.0) (labels r e.0) ≡ label m s e ∷ log m (after m s e) run e.0
    left = h.left e.0 ∙ log_of_own_step m s e run e.0 refl ∙ logs (log m (after m s e) run e.0)

    there : placed order e.0 < length (recorded_thread r e.0).events
    there = let less = drop_cons_below_length (labels r e.0) (log m (after m s e) run e.0) (placed order e.0) (label m s e) left in
        let size = length_of_mapped_events (recorded_thread r e.0).events in omega (arith, less, size)

    -- the label of the next event
    is_label : (ev : Event) → event_at r e.0 (placed order e.0) ≡ Some ev → label m s e ≡ label_of ev
    is_label ev at = at_place_is_unique (labels r e.0) (placed order e.0) (label m s e) (label_of ev)
        (let same : placed order e.0 + 0 ≡ placed order e.0 = omega arith in
        subst (λ z. At (labels r e.0) z (label m s e)) same (at_sum_if_at_of_drop (labels r e.0) (placed order e.0) 0 (label m s e)
        (subst (λ (ks : List Label). At ks 0 (label m s e)) (sym left) refl)))
        (at_of_mapped_label (recorded_thread r e.0).events (placed order e.0) ev at)

    -- an event that isn't placed is logged by this step or a later one
    later : (u j : ℕ) (ev : Event) → event_at r u j ≡ Some ev → placed order u ≤ j
        → (label m s e ≡ label_of ev) ⊎ ((n : ℕ) × At (log m (after m s e) run u) n (label_of ev))
    later u j ev at past =
        let d : ℕ = j - placed order u in
        let same : j ≡ placed order u + d = omega (arith, past) in
        let here = subst (λ (ks : List Label). At ks d (label_of ev)) (h.left u)
        (at_of_drop_if_at_sum (labels r u) (placed order u) d (label_of ev) (subst (λ z. At (labels r u) z (label_of ev)) same
        (at_of_mapped_label (recorded_thread r u).events j ev at))) in
        elim (cases_eq e.0 u) [
          | inl own ↦ logged_head_or_tail (label m s e) (log m (after m s e) run u) d (label_of ev)
              (subst (λ (ks : List Label). At ks d (label_of ev)) (log_of_own_step m s e run u own) here)
          | inr other ↦ inr (d, subst (λ (ks : List Label). At ks d (label_of ev)) (log_of_other_step m s e run u other) here)
        ]

    -- the step enters at a version whose maker is later: it can't be
    made : (o v l : ℕ) (a : Access) (x : ℕ) → label m s e ≡ EnteredAt o a (suc v) x
        → (u : ℕ) → (label m s e ≡ EnteredAt o Writing v l) ⊎ ((n : ℕ) × At (log m (after m s e) run u) n (EnteredAt o Writing v l)) → ⊥
    made o v l a x is u (inl head) =
        let one = entry_label_version m s e o a (suc v) x is in let two = entry_label_version m s e o Writing v l head in omega (arith, one, two)
    made o v l a x is u (inr tail) = no_later_write_below m (after m s e) run o v u tail.0 l
        (let one = entry_label_version m s e o a (suc v) x is in let more = step_version_monotone m s e o in omega (arith, one, more)) tail.1

    read : (o v l : ℕ) → label m s e ≡ EnteredAt o Writing v l
        → (u : ℕ) → (label m s e ≡ EnteredAt o Reading v 0) ⊎ ((n : ℕ) × At (log m (after m s e) run u) n (EnteredAt o Reading v 0)) → ⊥
    read o v l is u (inl head) = let same : EnteredAt o Writing v l ≡ EnteredAt o Reading v 0 = sym is ∙ head in
        let access : Writing ≡ Reading = cc same in cc access
    read o v l is u (inr tail) = written_over_not_read m law (after m s e) (state_invariant_step m law s good e can) run ok o v e.0 u tail.0
        (write_entry_writes_over m s e o v l is) tail.1

    entry_label : (o v : ℕ) → IsEntryOf r e.0 (placed order e.0) o v → (a : Access) × (x : ℕ) × (label m s e ≡ EnteredAt o a v x)
    entry_label o v (inl is) = (Reading, 0, is_label (variant.Read o v) is)
    entry_label o v (inr (l, is)) = (Writing, l, is_label (variant.Write o v l) is)

    unplaced : (u j : ℕ) → Needs r e.0 (placed order e.0) u j → placed order u ≤ j → ⊥
    unplaced u j (inl maker) past =
        let own = entry_label maker.object (suc maker.version) maker.entry in
        made maker.object maker.version maker.readers own.0 own.1 own.2 u
        (later u j (variant.Write maker.object maker.version maker.readers) maker.made past)
    unplaced u j (inr reader) past =
        read reader.object reader.version reader.readers
        (is_label (variant.Write reader.object reader.version reader.readers) reader.write) u
        (later u j (variant.Read reader.object reader.version) reader.read past)

    needs : (u j : ℕ) → Needs r e.0 (placed order e.0) u j → j < placed order u
    needs u j need = elim (cases_lt j (placed order u)) [
      | inl less ↦ less
      | inr past ↦ absurd (unplaced u j need past)
    ]

-- a step that logs its thread's next event
unrolled_logging_step : {T : Type 0} (m : Machine T) (s : State T) (e : Step) (run : List Step) (r : Recorded) (order : List ℕ)
    → ((ks : List Label) → logged (label m s e) ks ≡ label m s e ∷ ks) → IsUnrolled m s (e ∷ run) r order → CanFollowBox r (placed order) e.0
    → IsUnrolled m (after m s e) run r (e.0 ∷ order)
unrolled_logging_step m s e run r order logs h follows = record { is = (h.is, follows); left = left; within = within }
  where
    own_count : (t : ℕ) → e.0 ≡ t → placed (e.0 ∷ order) t ≡ suc (placed order t)
    own_count t own = let one : cond (eqb e.0 t) 1 0 ≡ 1 = ap {B = ℕ} (λ (c : Bool). cond c 1 0) (eq-eqb e.0 t own) in omega (arith, one)

    other_count : (t : ℕ) → (e.0 ≡ t → ⊥) → placed (e.0 ∷ order) t ≡ placed order t
    other_count t other = let none : cond (eqb e.0 t) 1 0 ≡ 0 = ap {B = ℕ} (λ (c : Bool). cond c 1 0) (ne_eqb e.0 t other) in omega (arith, none)

    left : (t : ℕ) → drop (placed (e.0 ∷ order) t) (labels r t) ≡ log m (after m s e) run t
    left t = elim (cases_eq e.0 t) [
      | inl own ↦ ap (λ k. drop k (labels r t)) (own_count t own)
          ∙ drop_suc_is_tail (labels r t) (log m (after m s e) run t) (placed order t) (label m s e)
          (h.left t ∙ log_of_own_step m s e run t own ∙ logs (log m (after m s e) run t))
      | inr other ↦ ap (λ k. drop k (labels r t)) (other_count t other) ∙ h.left t ∙ log_of_other_step m s e run t other
    ]

    within : (t : ℕ) → placed (e.0 ∷ order) t ≤ length (recorded_thread r t).events
    within t = elim (cases_eq e.0 t) [
      | inl own ↦ let count = own_count t own in
          let less = subst (λ z. placed order z < length (recorded_thread r z).events) own follows.there in omega (arith, count, less)
      | inr other ↦ let count = other_count t other in let before = h.within t in omega (arith, count, before)
    ]

unrolled_has_no_circle : {T : Type 0} (m : Machine T) → IsLawful m → (s : State T) → StateInvariant m s → (run : List Step) → IsRun m s run → (r : Recorded) (order : List ℕ)
    → IsUnrolled m s run r order → HasNoCircle r
unrolled_has_no_circle m law s good [] ok r order h = (order, h.is, all)
  where
    all : (t : ℕ) → placed order t ≡ length (recorded_thread r t).events
    all t = let past = empty_drop_length_le (labels r t) (placed order t) (h.left t) in
        let size = length_of_mapped_events (recorded_thread r t).events in let within = h.within t in omega (arith, past, size, within)
unrolled_has_no_circle m law s good (e ∷ run) ok r order h = elim (logged_adds_or_nothing (label m s e)) [
  | inl quiet ↦ unrolled_has_no_circle m law (after m s e) (state_invariant_step m law s good e ok.0) run ok.1 r order (unrolled_silent_step m s e run r order quiet h)
  | inr logs ↦ unrolled_has_no_circle m law (after m s e) (state_invariant_step m law s good e ok.0) run ok.1 r (e.0 ∷ order)
      (unrolled_logging_step m s e run r order logs h (can_follow_logging_step m law s good e ok.0 run ok.1 r order logs h))
]

pub run_has_no_circle : (code : List ℕ) (s : State thread.ThreadState) → IsStart (thread_machine code) s → (run : List Step) → IsRun (thread_machine code) s run
    → (r : Recorded) → ((t : ℕ) → log (thread_machine code) s run t ≡ map label_of (recorded_thread r t).events) → HasNoCircle r
run_has_no_circle code s start run ok r logs =
    unrolled_has_no_circle (thread_machine code) (thread_machine_lawful code) s (state_invariant_start (thread_machine code) s start) run ok r []
    (record { is = tt; left = λ t. sym (logs t); within = λ t. omega arith })
