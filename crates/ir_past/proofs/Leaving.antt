-- What a thread enters it leaves, in each complete run.
use Rattle.std.proofs.Common.{◌≡◌, ◌≢◌, ℕ, suc, zero, ◌<◌, ◌≤◌, inl, inr, List, [], ◌∷◌, Some, None, sym, ap, ◌∙◌, subst, arith}
use Rattle.std.proofs.lemmas.Bool.{cases_eq}
use Rattle.std.proofs.lemmas.Option.{same_Some, none-some}
use Rattle.ir_runs.specs.Machine.{Act, Done, Silent, Replied, Entered, TryFailed, Left, Got, Stored, Never, Machine, upd, Object, target, acted, emitted, Label, EnteredAt, LeftAt}
use Rattle.ir_runs.specs.Lawful.{Holds, IsLawful}
use Rattle.ir_runs.specs.declared.access.Access.{Access}
use Rattle.ir_runs.specs.declared.access.Access.TheVariants.{Reading, Writing}
use Rattle.ir_runs.specs.Run.{act, State, Step, after, label, trail, IsRun, IsDone, end, At, Emits}
use Rattle.ir_runs.specs.Bounds.{IsComplete, IsStart}
use Rattle.ir_runs.proofs.CallerLemmas.{upd_at_own_place, StateInvariant, state_invariant_step, state_invariant_start, trail_cons_own, trail_cons_other}
use Rattle.ir_thread.specs.State.{thread_machine}
use Rattle.ir_thread.specs.State as thread
use Rattle.ir_thread.proofs.CallerLemmas.{thread_machine_lawful}
use Rattle.ir_past.specs.Leaving.{LeavesFirst}
use Rattle.ir_past.proofs.Returning.{Enters, target_after_step, IsEntering, entry_label_is_entering, exiting_is_inside}
use Rattle.ir_past.proofs.Returning.{entering_is_not_inside, own_step_keeps_or_exits, other_step_adds_leaves, inside_no_other_leaves}

-- ---- the steps of a thread

pub trail_of_own_step : {T : Type 0} (m : Machine T) (s : State T) (e : Step) (run : List Step) (t : ℕ) → e.0 ≡ t
    → trail m s (e ∷ run) t ≡ (s.now t, label m s e) ∷ trail m (after m s e) run t
trail_of_own_step m s e run t own = subst (λ z. trail m s (e ∷ run) z ≡ (s.now z, label m s e) ∷ trail m (after m s e) run z) own (trail_cons_own m s e run)

-- what the thread's later steps emit
pub emits_cons_own : {T : Type 0} (m : Machine T) (s : State T) (e : Step) (run : List Step) (t k : ℕ) (b : Label) → e.0 ≡ t
    → Emits m (after m s e) run t k b → Emits m s (e ∷ run) t (suc k) b
emits_cons_own {T} m s e run t k b own x = (x.0, subst (λ (ks : List (T × Label)). At ks (suc k) (x.0, b)) (sym (trail_of_own_step m s e run t own)) x.1)

pub rest_emits_own : {T : Type 0} (m : Machine T) (s : State T) (e : Step) (run : List Step) (t k : ℕ) (b : Label) → e.0 ≡ t
    → Emits m s (e ∷ run) t (suc k) b → Emits m (after m s e) run t k b
rest_emits_own {T} m s e run t k b own x = (x.0, subst (λ (ks : List (T × Label)). At ks (suc k) (x.0, b)) (trail_of_own_step m s e run t own) x.1)

-- and what its first one does
pub emits_own_first_label : {T : Type 0} (m : Machine T) (s : State T) (e : Step) (run : List Step) (t : ℕ) (b : Label) → e.0 ≡ t
    → label m s e ≡ b → Emits m s (e ∷ run) t 0 b
emits_own_first_label {T} m s e run t b own is = (
  s.now t,
  subst (λ (ks : List (T × Label)). At ks 0 (s.now t, b)) (sym (trail_of_own_step m s e run t own))
      (let same : (s.now t, label m s e) ≡ (s.now t, b) = ap (λ (z : Label). (s.now t, z)) is in same),
)

pub first_label_is_own : {T : Type 0} (m : Machine T) (s : State T) (e : Step) (run : List Step) (t : ℕ) (b : Label) → e.0 ≡ t
    → Emits m s (e ∷ run) t 0 b → label m s e ≡ b
first_label_is_own {T} m s e run t b own x =
    let same : (s.now t, label m s e) ≡ (x.0, b) = subst (λ (ks : List (T × Label)). At ks 0 (x.0, b)) (trail_of_own_step m s e run t own) x.1 in
    ap (λ (p : T × Label). p.1) same

pub emits_cons_other : {T : Type 0} (m : Machine T) (s : State T) (e : Step) (run : List Step) (t k : ℕ) (b : Label) → t ≢ e.0
    → Emits m (after m s e) run t k b → Emits m s (e ∷ run) t k b
emits_cons_other {T} m s e run t k b ne x = (x.0, subst (λ (ks : List (T × Label)). At ks k (x.0, b)) (sym (trail_cons_other m s e run t ne)) x.1)

pub rest_emits_other : {T : Type 0} (m : Machine T) (s : State T) (e : Step) (run : List Step) (t k : ℕ) (b : Label) → t ≢ e.0
    → Emits m s (e ∷ run) t k b → Emits m (after m s e) run t k b
rest_emits_other {T} m s e run t k b ne x = (x.0, subst (λ (ks : List (T × Label)). At ks k (x.0, b)) (trail_cons_other m s e run t ne) x.1)

-- ---- acts

-- what emits an entry is one
pub record IsEntry (q : Act) (o : ℕ) : Type 0 where
  pub access : Access
  pub answer : ℕ
  pub does : q ≡ Entered o access answer

entry_label_is_entry : (q : Act) (b : Object) (o : ℕ) → Enters o (emitted q b) → IsEntry q o
entry_label_is_entry Silent b o h = absurd h
entry_label_is_entry (Replied k x) b o h = absurd h
entry_label_is_entry (Entered p Reading x) b o h = record { access = Reading; answer = x; does = ap (λ z. Entered z Reading x) h }
entry_label_is_entry (Entered p Writing x) b o h = record { access = Writing; answer = x; does = ap (λ z. Entered z Writing x) h }
entry_label_is_entry (TryFailed p) b o h = absurd h
entry_label_is_entry (Left p a) b o h = absurd h
entry_label_is_entry (Got p i) b o h = absurd h
entry_label_is_entry (Stored p i x) b o h = absurd h
entry_label_is_entry Never b o h = absurd h

-- what emits a leave is one
leave_label_is_exit : (q : Act) (b : Object) (o : ℕ) (a : Access) (v : ℕ) → emitted q b ≡ LeftAt o a v → q ≡ Left o a
leave_label_is_exit Silent b o a v e = absurd (cc e)
leave_label_is_exit (Replied k x) b o a v e = absurd (cc e)
leave_label_is_exit (Entered p Reading x) b o a v e = absurd (cc e)
leave_label_is_exit (Entered p Writing x) b o a v e = absurd (cc e)
leave_label_is_exit (TryFailed p) b o a v e = absurd (cc e)
leave_label_is_exit (Left p c) b o a v e =
    let object : p ≡ o = cc e in
    let access : c ≡ a = cc e in
    λ i. Left (object i) (access i)
leave_label_is_exit (Got p i) b o a v e = absurd (cc e)
leave_label_is_exit (Stored p i x) b o a v e = absurd (cc e)
leave_label_is_exit Never b o a v e = absurd (cc e)

-- ---- a thread that is inside

-- the leave of a thread that is inside, its first
pub record Exits {T : Type 0} (m : Machine T) (s : State T) (run : List Step) (t o : ℕ) (a : Access) (v : ℕ) : Type 0 where
  pub leave : ℕ
  pub leaves : Emits m s run t leave (LeftAt o a v)
  pub first : (k : ℕ) → Emits m s run t k (LeftAt o a v) → leave ≤ k

exits_cons_own : {T : Type 0} (m : Machine T) (s : State T) (e : Step) (run : List Step) (t o : ℕ) (a : Access) (v : ℕ) → e.0 ≡ t
    → (label m s e ≡ LeftAt o a v → ⊥) → Exits m (after m s e) run t o a v → Exits m s (e ∷ run) t o a v
exits_cons_own m s e run t o a v own stays x = record {
  leave = suc x.leave;
  leaves = emits_cons_own m s e run t x.leave (LeftAt o a v) own x.leaves;
  first = no_earlier;
}
  where
    no_earlier : (k : ℕ) → Emits m s (e ∷ run) t k (LeftAt o a v) → suc x.leave ≤ k
    no_earlier zero y = absurd (stays (first_label_is_own m s e run t (LeftAt o a v) own y))
    no_earlier (suc k) y = let low = x.first k (rest_emits_own m s e run t k (LeftAt o a v) own y) in omega (arith, low)

exits_cons_other : {T : Type 0} (m : Machine T) (s : State T) (e : Step) (run : List Step) (t o : ℕ) (a : Access) (v : ℕ) → (e.0 ≡ t → ⊥)
    → Exits m (after m s e) run t o a v → Exits m s (e ∷ run) t o a v
exits_cons_other m s e run t o a v other x = record {
  leave = x.leave;
  leaves = emits_cons_other m s e run t x.leave (LeftAt o a v) (λ same. other (sym same)) x.leaves;
  first = λ k y. x.first k (rest_emits_other m s e run t k (LeftAt o a v) (λ same. other (sym same)) y);
}

-- behind a leave the thread isn't inside
pub outside_after_exit : {T : Type 0} (m : Machine T) (s : State T) (e : Step) (t o : ℕ) (a : Access) → e.0 ≡ t → act m s e ≡ Left o a
    → ((after m s e).objects o).inside t ≡ None
outside_after_exit m s e t o a own does = ap (λ z. z.inside t) object ∙ gone a
  where
    object : (after m s e).objects o ≡ acted (Left o a) e.0 (s.objects o)
    object = subst (λ q. (after m s e).objects (target q) ≡ acted q e.0 (s.objects (target q))) does (target_after_step m s e)

    gone : (c : Access) → (acted (Left o c) e.0 (s.objects o)).inside t ≡ None
    gone Reading = subst (λ z. upd (s.objects o).inside e.0 None z ≡ None) own (upd_at_own_place (s.objects o).inside e.0 None)
    gone Writing = subst (λ z. upd (s.objects o).inside e.0 None z ≡ None) own (upd_at_own_place (s.objects o).inside e.0 None)

-- a thread that is inside doesn't enter
inside_does_not_enter : {T : Type 0} (m : Machine T) → IsLawful m → (s : State T) → StateInvariant m s → (e : Step) (t o : ℕ) (a : Access) → e.0 ≡ t
    → (s.objects o).inside t ≡ Some a → Enters o (label m s e) → ⊥
inside_does_not_enter m law s good e t o a own inside enters =
    let h = entry_label_is_entry (act m s e) (s.objects (target (act m s e))) o enters in
    none-some a (sym (subst (λ z. (s.objects o).inside z ≡ None) own (entering_is_not_inside m law s good e o h.access h.answer h.does)) ∙ inside)

-- at the end no thread is inside
none_inside_when_done : {T : Type 0} (m : Machine T) → IsLawful m → (s : State T) → StateInvariant m s → IsDone m s → (t o : ℕ) → (s.objects o).inside t ≡ None
none_inside_when_done m law s good done t o =
    let holds : Holds Done (m.held (s.now t)) = subst (λ q. Holds q (m.held (s.now t))) (done t) (law.holds (s.now t)) in
    good.linked t o ∙ holds o

thread_inside_exits : {T : Type 0} (m : Machine T) → IsLawful m → (s : State T) → StateInvariant m s → (run : List Step) → IsRun m s run → IsDone m (end m s run)
    → (t o : ℕ) (a : Access) (v : ℕ) → (s.objects o).inside t ≡ Some a → (s.objects o).version ≡ v → Exits m s run t o a v
thread_inside_exits m law s good [] ok done t o a v inside version = absurd (none-some a (sym (none_inside_when_done m law s good done t o) ∙ inside))
thread_inside_exits m law s good (e ∷ run) ok done t o a v inside version = elim (cases_eq e.0 t) [
  | inl own ↦ elim (own_step_keeps_or_exits m s e t o own (inside_does_not_enter m law s good e t o a own inside)) [
    | inl same ↦ exits_cons_own m s e run t o a v own
        (λ out. none-some a (sym (outside_after_exit m s e t o a own (leave_label_is_exit (act m s e) (s.objects (target (act m s e))) o a v out)) ∙ (same.1 ∙ inside)))
        (thread_inside_exits m law (after m s e) (state_invariant_step m law s good e ok.0) run ok.1 done t o a v (same.1 ∙ inside) (same.0 ∙ version))
    | inr exit ↦
        let held = subst (λ z. (s.objects o).inside z ≡ Some exit.0) own (exiting_is_inside m law s good e o exit.0 exit.1) in
        let access : exit.0 ≡ a = same_Some exit.0 a (sym held ∙ inside) in
        let does : act m s e ≡ Left o a = exit.1 ∙ ap (λ z. Left o z) access in
        record {
          leave = 0;
          leaves = emits_own_first_label m s e run t (LeftAt o a v) own (ap (λ q. emitted q (s.objects (target q))) does ∙ ap (λ z. LeftAt o a z) version);
          first = λ k y. omega arith;
        }
  ]
  | inr other ↦
      let step = other_step_adds_leaves m s e t o other in
      let none = inside_no_other_leaves m law s good e t o a other inside in
      exits_cons_other m s e run t o a v other
      (thread_inside_exits m law (after m s e) (state_invariant_step m law s good e ok.0) run ok.1 done t o a v (step.1 ∙ inside)
      (let same = step.0 in omega (arith, same, none, version)))
]

-- ---- a thread that enters

-- behind an entry the thread is inside, at the version that it found
record IsInsideAt {T : Type 0} (m : Machine T) (s : State T) (e : Step) (t o : ℕ) (a : Access) (v : ℕ) : Type 0 where
  inside : ((after m s e).objects o).inside t ≡ Some a
  version : ((after m s e).objects o).version ≡ v

inside_after_entry : {T : Type 0} (m : Machine T) (s : State T) (e : Step) (t o : ℕ) (a : Access) (v l : ℕ) → e.0 ≡ t → label m s e ≡ EnteredAt o a v l
    → IsInsideAt m s e t o a v
inside_after_entry m s e t o a v l own enters = record {
  inside = ap (λ z. z.inside t) object
      ∙ subst (λ z. upd (s.objects o).inside e.0 (Some a) z ≡ Some a) own (upd_at_own_place (s.objects o).inside e.0 (Some a));
  version = ap (λ z. z.version) object ∙ ap (λ z. (s.objects (target z)).version) (sym entry.does) ∙ entry.version;
}
  where
    entry : IsEntering (act m s e) (s.objects (target (act m s e))) o a v
    entry = entry_label_is_entering (act m s e) (s.objects (target (act m s e))) o a v l enters

    object : (after m s e).objects o ≡ acted (Entered o a entry.answer) e.0 (s.objects o)
    object = subst (λ q. (after m s e).objects (target q) ≡ acted q e.0 (s.objects (target q))) entry.does (target_after_step m s e)

leaves_first_at_zero : {T : Type 0} (m : Machine T) (s : State T) (e : Step) (run : List Step) (t o : ℕ) (a : Access) (v : ℕ) → e.0 ≡ t
    → Exits m (after m s e) run t o a v → LeavesFirst m s (e ∷ run) t 0 o a v
leaves_first_at_zero m s e run t o a v own x = record {
  leave = suc x.leave;
  past = omega arith;
  leaves = emits_cons_own m s e run t x.leave (LeftAt o a v) own x.leaves;
  first = no_earlier;
}
  where
    no_earlier : (k : ℕ) → 0 < k → Emits m s (e ∷ run) t k (LeftAt o a v) → suc x.leave ≤ k
    no_earlier zero past y = absurd (omega (arith, past))
    no_earlier (suc k) past y = let low = x.first k (rest_emits_own m s e run t k (LeftAt o a v) own y) in omega (arith, low)

leaves_first_cons_own : {T : Type 0} (m : Machine T) (s : State T) (e : Step) (run : List Step) (t j o : ℕ) (a : Access) (v : ℕ) → e.0 ≡ t
    → LeavesFirst m (after m s e) run t j o a v → LeavesFirst m s (e ∷ run) t (suc j) o a v
leaves_first_cons_own m s e run t j o a v own x = record {
  leave = suc x.leave;
  past = (let less = x.past in omega (arith, less));
  leaves = emits_cons_own m s e run t x.leave (LeftAt o a v) own x.leaves;
  first = no_earlier;
}
  where
    no_earlier : (k : ℕ) → suc j < k → Emits m s (e ∷ run) t k (LeftAt o a v) → suc x.leave ≤ k
    no_earlier zero past y = absurd (omega (arith, past))
    no_earlier (suc k) past y = let low = x.first k (omega (arith, past)) (rest_emits_own m s e run t k (LeftAt o a v) own y) in omega (arith, low)

leaves_first_cons_other : {T : Type 0} (m : Machine T) (s : State T) (e : Step) (run : List Step) (t j o : ℕ) (a : Access) (v : ℕ) → (e.0 ≡ t → ⊥)
    → LeavesFirst m (after m s e) run t j o a v → LeavesFirst m s (e ∷ run) t j o a v
leaves_first_cons_other m s e run t j o a v other x = record {
  leave = x.leave;
  past = x.past;
  leaves = emits_cons_other m s e run t x.leave (LeftAt o a v) (λ same. other (sym same)) x.leaves;
  first = λ k past y. x.first k past (rest_emits_other m s e run t k (LeftAt o a v) (λ same. other (sym same)) y);
}

pub entry_is_left : {T : Type 0} (m : Machine T) → IsLawful m → (s : State T) → StateInvariant m s → (run : List Step) → IsRun m s run → IsDone m (end m s run)
    → (t j o : ℕ) (a : Access) (v l : ℕ) → Emits m s run t j (EnteredAt o a v l) → LeavesFirst m s run t j o a v
entry_is_left m law s good [] ok done t j o a v l enters = absurd enters.1
entry_is_left m law s good (e ∷ run) ok done t j o a v l enters = elim (cases_eq e.0 t) [
  | inl own ↦ by own (λ k y. entry_is_left m law (after m s e) (state_invariant_step m law s good e ok.0) run ok.1 done t k o a v l y) j enters
  | inr other ↦ leaves_first_cons_other m s e run t j o a v other
      (entry_is_left m law (after m s e) (state_invariant_step m law s good e ok.0) run ok.1 done t j o a v l
      (rest_emits_other m s e run t j (EnteredAt o a v l) (λ same. other (sym same)) enters))
]
  where
    by : e.0 ≡ t → ((k : ℕ) → Emits m (after m s e) run t k (EnteredAt o a v l) → LeavesFirst m (after m s e) run t k o a v) → (j : ℕ)
        → Emits m s (e ∷ run) t j (EnteredAt o a v l) → LeavesFirst m s (e ∷ run) t j o a v
    by own again zero y =
        let there = inside_after_entry m s e t o a v l own (first_label_is_own m s e run t (EnteredAt o a v l) own y) in
        leaves_first_at_zero m s e run t o a v own
        (thread_inside_exits m law (after m s e) (state_invariant_step m law s good e ok.0) run ok.1 done t o a v there.inside there.version)
    by own again (suc j) y = leaves_first_cons_own m s e run t j o a v own (again j (rest_emits_own m s e run t j (EnteredAt o a v l) own y))

-- ---- the law

pub complete_entry_is_left : (code : List ℕ) (s : State thread.ThreadState) → IsStart (thread_machine code) s → (run : List Step)
    → IsComplete (thread_machine code) s run → (t j o : ℕ) (a : Access) (v l : ℕ) → Emits (thread_machine code) s run t j (EnteredAt o a v l)
    → LeavesFirst (thread_machine code) s run t j o a v
complete_entry_is_left code s start run whole t j o a v l enters =
    entry_is_left (thread_machine code) (thread_machine_lawful code) s (state_invariant_start (thread_machine code) s start) run whole.0 whole.1 t j o a v l enters
