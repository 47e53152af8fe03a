-- What a thread leaves it entered: the event of a step that leaves.
use Rattle.std.proofs.Common.{◌≡◌, ◌≢◌, ℕ, suc, zero, ◌+◌, ◌<◌, ◌≤◌, ◌⊎◌, inl, inr, length, Bool, true, false, cond, eqb, ne_eqb, List, [], ◌∷◌, Some, get_or, refl, sym, ap, ◌∙◌, subst, arith}
use Rattle.std.proofs.lemmas.Bool.{cases_eq, cases_lt}
use Rattle.std.proofs.lemmas.Option.{same_Some, none-some, slice_get-get_or}
use Rattle.ir_runs.specs.Machine.{Act, Silent, Replied, Entered, TryFailed, Left, Got, Stored, Never, Machine, upd, Object, target, acted, emitted, Label, Quiet, Answer, EnteredAt, FailedTry, LeftAt}
use Rattle.ir_runs.specs.Lawful.{IsLawful}
use Rattle.ir_runs.specs.declared.access.Access.{Access}
use Rattle.ir_runs.specs.declared.access.Access.TheVariants.{Reading, Writing}
use Rattle.ir_runs.specs.Run.{act, State, Step, after, label, IsRun, Emits}
use Rattle.ir_runs.proofs.CallerLemmas.{upd_at_own_place, StateInvariant, state_invariant_step, state_invariant_start}
use Rattle.ir_thread.specs.State as thread
use Rattle.ir_thread.proofs.CallerLemmas.{thread_machine_lawful}
use Rattle.ir_log.specs.Logging.{label_of}
use Rattle.ir_log.specs.declared.event.Event.{Event}
use Rattle.ir_log.specs.declared.event.Event.TheVariants as logged
use Rattle.ir_trace.specs.Recorded.{Recorded, recorded_thread}
use Rattle.ir_fit.specs.Fit.{FittedTrace, HasRun}
use Rattle.ir_fit.proofs.CallerLemmas.{guest_start_is_start, entry_step_is_of_event}
use Rattle.ir_cut.specs.Positions.{machine_of, start_of}
use Rattle.ir_past.specs.Past.{IsReadAt, IsWriteAt}
use Rattle.ir_past.specs.Returning.{leaves_one}
use Rattle.ir_past.proofs.CallerLemmas.{Enters, target_after_step, IsEntering, entry_label_is_entering, exiting_is_inside}
use Rattle.ir_past.proofs.CallerLemmas.{own_step_keeps_or_exits, other_step_adds_leaves, rest_emits_own, emits_cons_other, rest_emits_other}
use Rattle.ir_past.proofs.CallerLemmas.{emits_cons_own, first_label_is_own, emits_own_first_label, write_label_write_event}
use Rattle.ir_past.proofs.CallerLemmas.{outside_after_exit}
use Rattle.ir_events.specs.Events.{event_entry}
use Rattle.ir_opened.specs.Positions.{EntryLeaves, IsLeaveOf}
use Rattle.ir_opened.proofs.CallerLemmas.{emits_in_each_run}

-- ---- the steps of a thread

-- ---- a single step

-- a label that leaves is an exit at the object's version
record IsExiting (q : Act) (b : Object) (o : ℕ) (a : Access) (v : ℕ) : Type 0 where
  does : q ≡ Left o a
  version : b.version ≡ v

label_out_is_exit : (q : Act) (b : Object) (o : ℕ) (a : Access) (v : ℕ) → emitted q b ≡ LeftAt o a v → IsExiting q b o a v
label_out_is_exit Silent b o a v e = absurd (cc e)
label_out_is_exit (Replied k x) b o a v e = absurd (cc e)
label_out_is_exit (Entered p Reading x) b o a v e = absurd (cc e)
label_out_is_exit (Entered p Writing x) b o a v e = absurd (cc e)
label_out_is_exit (TryFailed p) b o a v e = absurd (cc e)
label_out_is_exit (Left p c) b o a v e =
    let object : p ≡ o = cc e in
    let access : c ≡ a = cc e in
    record { does = (λ i. Left (object i) (access i)); version = cc e }
label_out_is_exit (Got p i) b o a v e = absurd (cc e)
label_out_is_exit (Stored p i x) b o a v e = absurd (cc e)
label_out_is_exit Never b o a v e = absurd (cc e)

-- a label enters the object, or doesn't
record IsIn (o : ℕ) (k : Label) : Type 0 where
  access : Access
  version : ℕ
  readers : ℕ
  is : k ≡ EnteredAt o access version readers

label_enters_or_not : (o : ℕ) (k : Label) → IsIn o k ⊎ (Enters o k → ⊥)
label_enters_or_not o Quiet = inr (λ h. h)
label_enters_or_not o (Answer k x) = inr (λ h. h)
label_enters_or_not o (EnteredAt p a v l) = elim (cases_eq p o) [
  | inl same ↦ inl (record { access = a; version = v; readers = l; is = ap (λ z. EnteredAt z a v l) same })
  | inr ne ↦ inr ne
]
label_enters_or_not o (FailedTry p) = inr (λ h. h)
label_enters_or_not o (LeftAt p a v) = inr (λ h. h)

-- a label of another thread leaves the object after writing, or counts nothing
label_counts_or_leaves : (t o u : ℕ) (k : Label) → (leaves_one t o u k ≡ 0) ⊎ ((v : ℕ) × (k ≡ LeftAt o Writing v))
label_counts_or_leaves t o u Quiet = inl refl
label_counts_or_leaves t o u (Answer k x) = inl refl
label_counts_or_leaves t o u (EnteredAt p a v l) = inl refl
label_counts_or_leaves t o u (FailedTry p) = inl refl
label_counts_or_leaves t o u (LeftAt p Reading v) = inl refl
label_counts_or_leaves t o u (LeftAt p Writing v) = elim (cases_eq p o) [
  | inl here ↦ inr (v, ap (λ z. LeftAt z Writing v) here)
  | inr other ↦ inl (ap {B = ℕ} (λ (c : Bool). cond (eqb u t) 0 (cond c 1 0)) (ne_eqb p o other) ∙ same_either_way (eqb u t) 0)
]
  where
    same_either_way : (b : Bool) (n : ℕ) → cond b n n ≡ n
    same_either_way true n = refl
    same_either_way false n = refl

-- behind an entry the thread is inside, at the version that it found
record IsInsideAt {T : Type 0} (m : Machine T) (s : State T) (e : Step) (t o : ℕ) (a : Access) (v : ℕ) : Type 0 where
  inside : ((after m s e).objects o).inside t ≡ Some a
  version : ((after m s e).objects o).version ≡ v

entered_is_inside : {T : Type 0} (m : Machine T) (s : State T) (e : Step) (t o : ℕ) (a : Access) (v l : ℕ) → e.0 ≡ t → label m s e ≡ EnteredAt o a v l
    → IsInsideAt m s e t o a v
entered_is_inside m s e t o a v l own enters = record {
  inside = ap (λ z. z.inside t) object
      ∙ subst (λ z. upd (s.objects o).inside e.0 (Some a) z ≡ Some a) own (upd_at_own_place (s.objects o).inside e.0 (Some a));
  version = ap (λ z. z.version) object ∙ ap (λ z. (s.objects (target z)).version) (sym entry.does) ∙ entry.version;
}
  where
    entry : IsEntering (act m s e) (s.objects (target (act m s e))) o a v
    entry = entry_label_is_entering (act m s e) (s.objects (target (act m s e))) o a v l enters

    object : (after m s e).objects o ≡ acted (Entered o a entry.answer) e.0 (s.objects o)
    object = subst (λ q. (after m s e).objects (target q) ≡ acted q e.0 (s.objects (target q))) entry.does (target_after_step m s e)

-- while a thread is inside, no other makes a version
inside_keeps_version : {T : Type 0} (m : Machine T) → IsLawful m → (s : State T) → StateInvariant m s → (e : Step) (t o : ℕ) (a : Access) → (e.0 ≡ t → ⊥)
    → (s.objects o).inside t ≡ Some a → ((after m s e).objects o).version ≡ (s.objects o).version
inside_keeps_version m law s good e t o a other inside =
    let step = (other_step_adds_leaves m s e t o other).0 in
    elim (label_counts_or_leaves t o e.0 (label m s e)) [
      | inl none ↦ omega (arith, step, none)
      | inr h ↦
          let exit = label_out_is_exit (act m s e) (s.objects (target (act m s e))) o Writing h.0 h.1 in
          absurd (none-some a (sym (good.exclusive o e.0 t other (exiting_is_inside m law s good e o Writing exit.does)) ∙ inside))
    ]

-- ---- a thread that leaves

-- the thread is inside from the start, and doesn't leave before its step j
record IsInsideTo {T : Type 0} (m : Machine T) (s : State T) (run : List Step) (t j o : ℕ) (a : Access) (v : ℕ) : Type 0 where
  inside : (s.objects o).inside t ≡ Some a
  version : (s.objects o).version ≡ v
  none : (k : ℕ) → k < j → Emits m s run t k (LeftAt o a v) → ⊥

-- it enters so before its step j, and doesn't leave between
pub record IsEnteredTo {T : Type 0} (m : Machine T) (s : State T) (run : List Step) (t j o : ℕ) (a : Access) (v : ℕ) : Type 0 where
  pub entry : ℕ
  pub readers : ℕ
  pub before : entry < j
  pub enters : Emits m s run t entry (EnteredAt o a v readers)
  pub none : (k : ℕ) → entry < k → k < j → Emits m s run t k (LeftAt o a v) → ⊥

inside_first_step_leaves : {T : Type 0} (m : Machine T) → IsLawful m → (s : State T) → StateInvariant m s → (e : Step) (run : List Step) (t o : ℕ) (a : Access) (v : ℕ)
    → e.0 ≡ t → Emits m s (e ∷ run) t 0 (LeftAt o a v) → IsInsideTo m s (e ∷ run) t 0 o a v
inside_first_step_leaves m law s good e run t o a v own x =
    let exit = label_out_is_exit (act m s e) (s.objects (target (act m s e))) o a v (first_label_is_own m s e run t (LeftAt o a v) own x) in
    record {
      inside = subst (λ z. (s.objects o).inside z ≡ Some a) own (exiting_is_inside m law s good e o a exit.does);
      version = ap (λ z. (s.objects (target z)).version) (sym exit.does) ∙ exit.version;
      none = λ k less. absurd (omega (arith, less));
    }

-- with a step of the thread before
entered_before_own_step : {T : Type 0} (m : Machine T) (s : State T) (e : Step) (run : List Step) (t j o : ℕ) (a : Access) (v : ℕ) → e.0 ≡ t
    → IsEnteredTo m (after m s e) run t j o a v → IsEnteredTo m s (e ∷ run) t (suc j) o a v
entered_before_own_step m s e run t j o a v own x = record {
  entry = suc x.entry;
  readers = x.readers;
  before = (let less = x.before in omega (arith, less));
  enters = emits_cons_own m s e run t x.entry (EnteredAt o a v x.readers) own x.enters;
  none = between;
}
  where
    between : (k : ℕ) → suc x.entry < k → k < suc j → Emits m s (e ∷ run) t k (LeftAt o a v) → ⊥
    between zero low high y = omega (arith, low)
    between (suc k) low high y = x.none k (omega (arith, low)) (omega (arith, high)) (rest_emits_own m s e run t k (LeftAt o a v) own y)

entered_by_own_step : {T : Type 0} (m : Machine T) (s : State T) (e : Step) (run : List Step) (t j o : ℕ) (a : Access) (v : ℕ) → e.0 ≡ t
    → IsIn o (label m s e) → IsInsideTo m (after m s e) run t j o a v → IsEnteredTo m s (e ∷ run) t (suc j) o a v
entered_by_own_step m s e run t j o a v own enters x =
    let found = entered_is_inside m s e t o enters.access enters.version enters.readers own enters.is in
    let access : enters.access ≡ a = same_Some enters.access a (sym found.inside ∙ x.inside) in
    let version : enters.version ≡ v = sym found.version ∙ x.version in
    record {
      entry = 0;
      readers = enters.readers;
      before = omega arith;
      enters = emits_own_first_label m s e run t (EnteredAt o a v enters.readers) own (enters.is ∙ (λ i. EnteredAt o (access i) (version i) enters.readers));
      none = between;
    }
  where
    between : (k : ℕ) → 0 < k → k < suc j → Emits m s (e ∷ run) t k (LeftAt o a v) → ⊥
    between zero low high y = omega (arith, low)
    between (suc k) low high y = x.none k (omega (arith, high)) (rest_emits_own m s e run t k (LeftAt o a v) own y)

inside_before_own_step : {T : Type 0} (m : Machine T) (s : State T) (e : Step) (run : List Step) (t j o : ℕ) (a : Access) (v : ℕ) → e.0 ≡ t
    → (Enters o (label m s e) → ⊥) → IsInsideTo m (after m s e) run t j o a v → IsInsideTo m s (e ∷ run) t (suc j) o a v
inside_before_own_step m s e run t j o a v own free x = elim (own_step_keeps_or_exits m s e t o own free) [
  | inl same ↦ record { inside = sym same.1 ∙ x.inside; version = sym same.0 ∙ x.version; none = between }
  | inr exit ↦ absurd (none-some a (sym (outside_after_exit m s e t o exit.0 own exit.1) ∙ x.inside))
]
  where
    between : (k : ℕ) → k < suc j → Emits m s (e ∷ run) t k (LeftAt o a v) → ⊥
    between zero high y =
        let exit = label_out_is_exit (act m s e) (s.objects (target (act m s e))) o a v (first_label_is_own m s e run t (LeftAt o a v) own y) in
        none-some a (sym (outside_after_exit m s e t o a own exit.does) ∙ x.inside)
    between (suc k) high y = x.none k (omega (arith, high)) (rest_emits_own m s e run t k (LeftAt o a v) own y)

-- with a step of another thread before
entered_to_cons_other : {T : Type 0} (m : Machine T) (s : State T) (e : Step) (run : List Step) (t j o : ℕ) (a : Access) (v : ℕ) → t ≢ e.0
    → IsEnteredTo m (after m s e) run t j o a v → IsEnteredTo m s (e ∷ run) t j o a v
entered_to_cons_other m s e run t j o a v other x = record {
  entry = x.entry;
  readers = x.readers;
  before = x.before;
  enters = emits_cons_other m s e run t x.entry (EnteredAt o a v x.readers) other x.enters;
  none = λ k low high y. x.none k low high (rest_emits_other m s e run t k (LeftAt o a v) other y);
}

inside_to_cons_other : {T : Type 0} (m : Machine T) → IsLawful m → (s : State T) → StateInvariant m s → (e : Step) (run : List Step) (t j o : ℕ) (a : Access) (v : ℕ)
    → (e.0 ≡ t → ⊥) → IsInsideTo m (after m s e) run t j o a v → IsInsideTo m s (e ∷ run) t j o a v
inside_to_cons_other m law s good e run t j o a v other x =
    let inside : (s.objects o).inside t ≡ Some a = sym (other_step_adds_leaves m s e t o other).1 ∙ x.inside in
    record {
      inside = inside;
      version = sym (inside_keeps_version m law s good e t o a other inside) ∙ x.version;
      none = λ k high y. x.none k high (rest_emits_other m s e run t k (LeftAt o a v) (λ same. other (sym same)) y);
    }

left_object_was_entered : {T : Type 0} (m : Machine T) → IsLawful m → (s : State T) → StateInvariant m s → (run : List Step) → IsRun m s run
    → (t j o : ℕ) (a : Access) (v : ℕ) → Emits m s run t j (LeftAt o a v) → IsInsideTo m s run t j o a v ⊎ IsEnteredTo m s run t j o a v
left_object_was_entered m law s good [] ok t j o a v x = absurd x.1
left_object_was_entered m law s good (e ∷ run) ok t j o a v x = elim (cases_eq e.0 t) [
  | inl own ↦ by own (λ k y. left_object_was_entered m law (after m s e) (state_invariant_step m law s good e ok.0) run ok.1 t k o a v y) j x
  | inr other ↦ elim (left_object_was_entered m law (after m s e) (state_invariant_step m law s good e ok.0) run ok.1 t j o a v
      (rest_emits_other m s e run t j (LeftAt o a v) (λ same. other (sym same)) x)) [
        | inl inside ↦ inl (inside_to_cons_other m law s good e run t j o a v other inside)
        | inr entered ↦ inr (entered_to_cons_other m s e run t j o a v (λ same. other (sym same)) entered)
      ]
]
  where
    by : e.0 ≡ t → ((k : ℕ) → Emits m (after m s e) run t k (LeftAt o a v) → IsInsideTo m (after m s e) run t k o a v ⊎ IsEnteredTo m (after m s e) run t k o a v)
        → (j : ℕ) → Emits m s (e ∷ run) t j (LeftAt o a v) → IsInsideTo m s (e ∷ run) t j o a v ⊎ IsEnteredTo m s (e ∷ run) t j o a v
    by own again zero y = inl (inside_first_step_leaves m law s good e run t o a v own y)
    by own again (suc j) y = elim (again j (rest_emits_own m s e run t j (LeftAt o a v) own y)) [
      | inl inside ↦ elim (label_enters_or_not o (label m s e)) [
        | inl enters ↦ inr (entered_by_own_step m s e run t j o a v own enters inside)
        | inr free ↦ inl (inside_before_own_step m s e run t j o a v own free inside)
      ]
      | inr entered ↦ inr (entered_before_own_step m s e run t j o a v own entered)
    ]

-- ---- in the runs of a trace

read_label_is_of_read : (e : Event) (o v l : ℕ) → label_of e ≡ EnteredAt o Reading v l → e ≡ logged.Read o v
read_label_is_of_read (logged.Answer kind value) o v l x = absurd (cc x)
read_label_is_of_read (logged.Read p w) o v l x =
    let object : p ≡ o = cc x in
    let version : w ≡ v = cc x in λ i. logged.Read (object i) (version i)
read_label_is_of_read (logged.Write p w n) o v l x = absurd (cc x)
read_label_is_of_read (logged.Try p) o v l x = absurd (cc x)

-- event i of thread t is an entry of object o for such access at version v, by such readers
abbrev pub IsEntryFor : Recorded → ℕ → ℕ → ℕ → Access → ℕ → ℕ → Type 0
IsEntryFor r t i o Reading v l = IsReadAt r t i o v
IsEntryFor r t i o Writing v l = IsWriteAt r t i o v l

-- the event of a step that enters
pub record IsEventOf (f : FittedTrace) (t k o : ℕ) (a : Access) (v l : ℕ) : Type 0 where
  pub event : ℕ
  pub entry : IsEntryFor f.recorded t event o a v l
  pub step : event_entry f t event ≡ k

pub entering_step_has_event : (f : FittedTrace) (h : HasRun f) (t k o : ℕ) (a : Access) (v l : ℕ) → Emits (machine_of f) (start_of f) h.run t k (EnteredAt o a v l)
    → IsEventOf f t k o a v l
entering_step_has_event f h t k o a v l x =
    let found = entry_step_is_of_event f h t k o a v l x in
    record { event = found.0; entry = entry a found.0 found.1 (found.3 (logged.Try 0)); step = found.2 }
  where
    entry : (c : Access) (i : ℕ) → i < length (recorded_thread f.recorded t).events
        → label_of (get_or (recorded_thread f.recorded t).events i (logged.Try 0)) ≡ EnteredAt o c v l → IsEntryFor f.recorded t i o c v l
    entry Reading i within is = slice_get-get_or (recorded_thread f.recorded t).events i (logged.Try 0) within ∙ ap Some (read_label_is_of_read _ o v l is)
    entry Writing i within is = slice_get-get_or (recorded_thread f.recorded t).events i (logged.Try 0) within ∙ ap Some (write_label_write_event _ o v l is)

-- the event of a step that leaves: the step is its leave
pub record HasEntry (f : FittedTrace) (t k o : ℕ) (a : Access) (v : ℕ) : Type 0 where
  pub event : ℕ
  pub readers : ℕ
  pub entry : IsEntryFor f.recorded t event o a v readers
  pub leave : IsLeaveOf f t event k

first_leave_is_of_entry : (f : FittedTrace) (h : HasRun f) (t i k o : ℕ) (a : Access) (v l : ℕ) → IsEntryFor f.recorded t i o a v l → event_entry f t i < k
    → Emits (machine_of f) (start_of f) h.run t k (LeftAt o a v)
    → ((n : ℕ) → event_entry f t i < n → n < k → Emits (machine_of f) (start_of f) h.run t n (LeftAt o a v) → ⊥) → IsLeaveOf f t i k
first_leave_is_of_entry f h t i k o Reading v l there past x none = record {
  leaves = subst (λ z. EntryLeaves f t (event_entry f t i + 1) z k) (sym there) (omega (arith, past), emits_in_each_run f h t k (LeftAt o Reading v) x);
  first = λ n at. let y = subst (λ z. EntryLeaves f t (event_entry f t i + 1) z n) there at in not_before n y.0 (y.1 h.run h.whole);
}
  where
    not_before : (n : ℕ) → event_entry f t i + 1 ≤ n → Emits (machine_of f) (start_of f) h.run t n (LeftAt o Reading v) → k ≤ n
    not_before n from y = elim (cases_lt n k) [
      | inl less ↦ absurd (none n (omega (arith, from)) less y)
      | inr not ↦ omega (arith, not)
    ]
first_leave_is_of_entry f h t i k o Writing v l there past x none = record {
  leaves = subst (λ z. EntryLeaves f t (event_entry f t i + 1) z k) (sym there) (omega (arith, past), emits_in_each_run f h t k (LeftAt o Writing v) x);
  first = λ n at. let y = subst (λ z. EntryLeaves f t (event_entry f t i + 1) z n) there at in not_before n y.0 (y.1 h.run h.whole);
}
  where
    not_before : (n : ℕ) → event_entry f t i + 1 ≤ n → Emits (machine_of f) (start_of f) h.run t n (LeftAt o Writing v) → k ≤ n
    not_before n from y = elim (cases_lt n k) [
      | inl less ↦ absurd (none n (omega (arith, from)) less y)
      | inr not ↦ omega (arith, not)
    ]

pub leaving_step_has_entry : (f : FittedTrace) (h : HasRun f) (t k o : ℕ) (a : Access) (v : ℕ) → Emits (machine_of f) (start_of f) h.run t k (LeftAt o a v)
    → HasEntry f t k o a v
leaving_step_has_entry f h t k o a v x =
    let start = guest_start_is_start f.guest f.recorded.budget f.recorded.profile in
    elim (left_object_was_entered (machine_of f) (thread_machine_lawful f.guest.code) (start_of f) (state_invariant_start (machine_of f) (start_of f) start) h.run h.whole.1.runs t k o a v x) [
      | inl inside ↦ absurd (none-some a (sym (start.inside o t) ∙ inside.inside))
      | inr entered ↦
          let event = entering_step_has_event f h t entered.entry o a v entered.readers entered.enters in
          let step = event.step in
          let before = entered.before in
          record {
            event = event.event;
            readers = entered.readers;
            entry = event.entry;
            leave = first_leave_is_of_entry f h t event.event k o a v entered.readers event.entry (omega (arith, step, before)) x
                (λ n low high y. entered.none n (omega (arith, step, low)) high y);
          }
    ]
