-- A thread that reads, leaves and comes back, step by step.
use Rattle.std.proofs.Common.{◌≡◌, ℕ, suc, zero, ◌+◌, ◌<◌, ◌⊎◌, inl, inr, Bool, cond, eqb, List, [], ◌∷◌, map, length, Option, Some, None, refl, sym, ap, ◌∙◌, subst, arith, eq-eqb, ne_eqb}
use Rattle.std.proofs.lemmas.Bool.{cases_eq}
use Rattle.std.proofs.lemmas.Option.{same_Some, none-some}
use Rattle.ir_runs.specs.Machine.{Ask, Private, Env, Enter, Try, Leave, Get, Put, Done, Act, act_of, Silent, Replied, Entered, TryFailed}
use Rattle.ir_runs.specs.Machine.{Left, Got, Stored, Never, Machine, upd, Object, target, acted, emitted, Label, Quiet, Answer, EnteredAt}
use Rattle.ir_runs.specs.Machine.{FailedTry, LeftAt, logged}
use Rattle.ir_runs.specs.Lawful.{Holds, IsLawful}
use Rattle.ir_runs.specs.declared.access.Access.{Access}
use Rattle.ir_runs.specs.declared.access.Access.TheVariants.{Reading, Writing}
use Rattle.ir_runs.specs.Run.{asked, act, State, Step, Can, after, label, IsRun, events, log, At}
use Rattle.ir_runs.specs.Bounds.{IsStart}
use Rattle.ir_runs.proofs.CallerLemmas.{upd_at_own_place, upd_at_other_place, StateInvariant, state_invariant_step, state_invariant_start, trail_cons_own, trail_cons_other}
use Rattle.ir_thread.specs.State.{thread_machine}
use Rattle.ir_thread.specs.State as thread
use Rattle.ir_thread.proofs.CallerLemmas.{thread_machine_lawful}
use Rattle.ir_log.specs.Logging.{label_of}
use Rattle.ir_log.specs.declared.event.Event.{Event}
use Rattle.ir_log.specs.declared.event.Event.TheVariants as variant
use Rattle.ir_past.specs.Past.{entered}
use Rattle.ir_past.specs.Returning.{leaves_one, ComesBack, LeavesAndComesBack, ReadsAndComesBack, IsReturn}
use Rattle.ir_coherence.proofs.CallerLemmas.{at_of_mapped_label, event_of_label_at}

-- ---- logs

-- a label is an entry of object o
abbrev pub Enters : ℕ → Label → Type 0
Enters o Quiet = ⊥
Enters o (Answer k x) = ⊥
Enters o (EnteredAt p a v l) = p ≡ o
Enters o (FailedTry p) = ⊥
Enters o (LeftAt p a v) = ⊥

-- label j of these is the first entry of object o, for writing at version w
pub record IsNextWrite (ks : List Label) (j o w l : ℕ) : Type 0 where
  pub at : At ks j (EnteredAt o Writing w l)
  pub first : (k : ℕ) (x : Label) → k < j → At ks k x → Enters o x → ⊥

-- how many labels one is logged as
abbrev pub logged_count : Label → ℕ
logged_count k = length (logged k [])

length_of_logged : (k : Label) (ks : List Label) → length (logged k ks) ≡ logged_count k + length ks
length_of_logged Quiet ks = let same : length ks ≡ 0 + length ks = omega arith in same
length_of_logged (Answer i x) ks = let same : suc (length ks) ≡ 1 + length ks = omega arith in same
length_of_logged (EnteredAt p a v l) ks = let same : suc (length ks) ≡ 1 + length ks = omega arith in same
length_of_logged (FailedTry p) ks = let same : suc (length ks) ≡ 1 + length ks = omega arith in same
length_of_logged (LeftAt p a v) ks = let same : length ks ≡ 0 + length ks = omega arith in same

-- the first label is the entry, or what is left has it
data NextWriteCases (k : Label) (ks : List Label) (j o w l : ℕ) : Type 0 where
  Here : k ≡ EnteredAt o Writing w l → j ≡ 0 → NextWriteCases k ks j o w l
  There : (n : ℕ) → j ≡ logged_count k + n → (Enters o k → ⊥) → IsNextWrite ks n o w l → NextWriteCases k ks j o w l

logged_write_cases : (k : Label) (ks : List Label) (j o w l : ℕ) → logged_count k ≡ 1 → IsNextWrite (k ∷ ks) j o w l → NextWriteCases k ks j o w l
logged_write_cases k ks zero o w l one h = Here h.at refl
logged_write_cases k ks (suc n) o w l one h = There n (omega (arith, one)) (h.first 0 k (omega arith) refl)
    (record { at = h.at; first = λ m x less is. h.first (suc m) x (omega (arith, less)) is })

next_write_cases : (k : Label) (ks : List Label) (j o w l : ℕ) → IsNextWrite (logged k ks) j o w l → NextWriteCases k ks j o w l
next_write_cases Quiet ks j o w l h = There j (let same : j ≡ 0 + j = omega arith in same) (λ e. e) h
next_write_cases (Answer i x) ks j o w l h = logged_write_cases (Answer i x) ks j o w l refl h
next_write_cases (EnteredAt p a v r) ks j o w l h = logged_write_cases (EnteredAt p a v r) ks j o w l refl h
next_write_cases (FailedTry p) ks j o w l h = logged_write_cases (FailedTry p) ks j o w l refl h
next_write_cases (LeftAt p a v) ks j o w l h = There j (let same : j ≡ 0 + j = omega arith in same) (λ e. e) h

-- the log of thread t from a step on
pub log_of_own_step : {T : Type 0} (m : Machine T) (s : State T) (e : Step) (run : List Step) (t : ℕ) → e.0 ≡ t
    → log m s (e ∷ run) t ≡ logged (label m s e) (log m (after m s e) run t)
log_of_own_step m s e run t own = subst (λ z. log m s (e ∷ run) z ≡ logged (label m s e) (log m (after m s e) run z)) own (ap events (trail_cons_own m s e run))

pub log_of_other_step : {T : Type 0} (m : Machine T) (s : State T) (e : Step) (run : List Step) (t : ℕ) → (e.0 ≡ t → ⊥)
    → log m s (e ∷ run) t ≡ log m (after m s e) run t
log_of_other_step m s e run t other = ap events (trail_cons_other m s e run t (λ same. other (sym same)))

-- ---- objects

pub target_after_step : {T : Type 0} (m : Machine T) (s : State T) (e : Step) → (after m s e).objects (target (act m s e))
    ≡ acted (act m s e) e.0 (s.objects (target (act m s e)))
unfolding after
target_after_step m s e = upd_at_own_place s.objects (target (act m s e)) (acted (act m s e) e.0 (s.objects (target (act m s e))))

pub other_object_after_step : {T : Type 0} (m : Machine T) (s : State T) (e : Step) (o : ℕ) → (o ≡ target (act m s e) → ⊥) → (after m s e).objects o ≡ s.objects o
unfolding after
other_object_after_step m s e o ne = upd_at_other_place s.objects (target (act m s e)) o (acted (act m s e) e.0 (s.objects (target (act m s e)))) ne

-- what an act of the thread that takes it does to the object that it is about, but for entries and leaves
own_act_keeps_or_exits : (q : Act) (b : Object) (t o : ℕ) → target q ≡ o → (Enters o (emitted q b) → ⊥)
    → (((acted q t b).version ≡ b.version) × ((acted q t b).inside t ≡ b.inside t)) ⊎ ((a : Access) × (q ≡ Left o a))
own_act_keeps_or_exits Silent b t o same free = inl (refl, refl)
own_act_keeps_or_exits (Replied k x) b t o same free = inl (refl, refl)
own_act_keeps_or_exits (Entered p Reading x) b t o same free = absurd (free same)
own_act_keeps_or_exits (Entered p Writing x) b t o same free = absurd (free same)
own_act_keeps_or_exits (TryFailed p) b t o same free = inl (refl, refl)
own_act_keeps_or_exits (Left p a) b t o same free = inr (a, ap (λ z. Left z a) same)
own_act_keeps_or_exits (Got p i) b t o same free = inl (refl, refl)
own_act_keeps_or_exits (Stored p i x) b t o same free = inl (refl, refl)
own_act_keeps_or_exits Never b t o same free = inl (refl, refl)

-- what an act of thread u does to the object that it is about, as thread t sees it
other_act_adds_leaves : (q : Act) (b : Object) (u t o : ℕ) → (u ≡ t → ⊥) → target q ≡ o
    → ((acted q u b).version ≡ b.version + leaves_one t o u (emitted q b)) × ((acted q u b).inside t ≡ b.inside t)
other_act_adds_leaves Silent b u t o ne same = ((let plain : b.version ≡ b.version + 0 = omega arith in plain), refl)
other_act_adds_leaves (Replied k x) b u t o ne same = ((let plain : b.version ≡ b.version + 0 = omega arith in plain), refl)
other_act_adds_leaves (Entered p Reading x) b u t o ne same =
    ((let plain : b.version ≡ b.version + 0 = omega arith in plain), upd_at_other_place b.inside u t (Some Reading) (λ e. ne (sym e)))
other_act_adds_leaves (Entered p Writing x) b u t o ne same =
    ((let plain : b.version ≡ b.version + 0 = omega arith in plain), upd_at_other_place b.inside u t (Some Writing) (λ e. ne (sym e)))
other_act_adds_leaves (TryFailed p) b u t o ne same = ((let plain : b.version ≡ b.version + 0 = omega arith in plain), refl)
other_act_adds_leaves (Left p Reading) b u t o ne same =
    ((let plain : b.version ≡ b.version + 0 = omega arith in plain), upd_at_other_place b.inside u t None (λ e. ne (sym e)))
other_act_adds_leaves (Left p Writing) b u t o ne same = (
  (let one : leaves_one t o u (LeftAt p Writing b.version) ≡ 1 = ap {B = ℕ} (λ (c : Bool). cond c 0 (cond (eqb p o) 1 0)) (ne_eqb u t ne)
      ∙ ap {B = ℕ} (λ (c : Bool). cond c 1 0) (eq-eqb p o same) in
      omega (arith, one)),
  upd_at_other_place b.inside u t None (λ e. ne (sym e)),
)
other_act_adds_leaves (Got p i) b u t o ne same = ((let plain : b.version ≡ b.version + 0 = omega arith in plain), refl)
other_act_adds_leaves (Stored p i x) b u t o ne same = ((let plain : b.version ≡ b.version + 0 = omega arith in plain), refl)
other_act_adds_leaves Never b u t o ne same = ((let plain : b.version ≡ b.version + 0 = omega arith in plain), refl)

-- what is counted of a label: nothing, or it is a leave of the object after writing by another thread
leaves_one_zero_or_exit : (q : Act) (b : Object) (u t o : ℕ) → (leaves_one t o u (emitted q b) ≡ 0) ⊎ ((q ≡ Left o Writing) × (u ≡ t → ⊥))
leaves_one_zero_or_exit Silent b u t o = inl refl
leaves_one_zero_or_exit (Replied k x) b u t o = inl refl
leaves_one_zero_or_exit (Entered p Reading x) b u t o = inl refl
leaves_one_zero_or_exit (Entered p Writing x) b u t o = inl refl
leaves_one_zero_or_exit (TryFailed p) b u t o = inl refl
leaves_one_zero_or_exit (Left p Reading) b u t o = inl refl
leaves_one_zero_or_exit (Left p Writing) b u t o = elim (cases_eq u t) [
  | inl same ↦ inl (ap {B = ℕ} (λ (c : Bool). cond c 0 (cond (eqb p o) 1 0)) (eq-eqb u t same))
  | inr ne ↦ elim (cases_eq p o) [
    | inl here ↦ inr (ap (λ z. Left z Writing) here, ne)
    | inr other ↦ inl (ap {B = ℕ} (λ (c : Bool). cond c 0 (cond (eqb p o) 1 0)) (ne_eqb u t ne) ∙ ap {B = ℕ} (λ (c : Bool). cond c 1 0) (ne_eqb p o other))
  ]
]
leaves_one_zero_or_exit (Got p i) b u t o = inl refl
leaves_one_zero_or_exit (Stored p i x) b u t o = inl refl
leaves_one_zero_or_exit Never b u t o = inl refl

-- an entry is of the object that the act is about, and finds its version
pub record IsEntering (q : Act) (b : Object) (o : ℕ) (a : Access) (v : ℕ) : Type 0 where
  pub answer : ℕ
  pub does : q ≡ Entered o a answer
  pub version : b.version ≡ v

pub entry_label_is_entering : (q : Act) (b : Object) (o : ℕ) (a : Access) (v l : ℕ) → emitted q b ≡ EnteredAt o a v l → IsEntering q b o a v
entry_label_is_entering Silent b o a v l e = absurd (cc e)
entry_label_is_entering (Replied k x) b o a v l e = absurd (cc e)
entry_label_is_entering (Entered p Reading x) b o a v l e =
    let object : p ≡ o = cc e in
    let access : Reading ≡ a = cc e in
    record { answer = x; does = (λ i. Entered (object i) (access i) x); version = cc e }
entry_label_is_entering (Entered p Writing x) b o a v l e =
    let object : p ≡ o = cc e in
    let access : Writing ≡ a = cc e in
    record { answer = x; does = (λ i. Entered (object i) (access i) x); version = cc e }
entry_label_is_entering (TryFailed p) b o a v l e = absurd (cc e)
entry_label_is_entering (Left p c) b o a v l e = absurd (cc e)
entry_label_is_entering (Got p i) b o a v l e = absurd (cc e)
entry_label_is_entering (Stored p i x) b o a v l e = absurd (cc e)
entry_label_is_entering Never b o a v l e = absurd (cc e)

-- ---- what a thread that enters or leaves holds

exited_object_is_held : (q : Ask) (r o : ℕ) (a : Access) (h : ℕ → Option Access) → act_of q r ≡ Left o a → Holds q h → h o ≡ Some a
exited_object_is_held Private r o a h e k = absurd (cc e)
exited_object_is_held (Env c) r o a h e k = absurd (cc e)
exited_object_is_held (Enter p c) r o a h e k = absurd (cc e)
exited_object_is_held (Try p) zero o a h e k = absurd (cc e)
exited_object_is_held (Try p) (suc zero) o a h e k = absurd (cc e)
exited_object_is_held (Try p) (suc (suc r)) o a h e k = absurd (cc e)
exited_object_is_held (Leave p c) r o a h e k =
    let object : p ≡ o = cc e in
    let access : c ≡ a = cc e in
    ap h (sym object) ∙ k ∙ ap Some access
exited_object_is_held (Get p i) r o a h e k = absurd (cc e)
exited_object_is_held (Put p i x) r o a h e k = absurd (cc e)
exited_object_is_held Done r o a h e k = absurd (cc e)

entered_is_not_held : (q : Ask) (r o : ℕ) (a : Access) (x : ℕ) (h : ℕ → Option Access) → act_of q r ≡ Entered o a x → Holds q h → h o ≡ None
entered_is_not_held Private r o a x h e k = absurd (cc e)
entered_is_not_held (Env c) r o a x h e k = absurd (cc e)
entered_is_not_held (Enter p c) r o a x h e k = let object : p ≡ o = cc e in k o (omega (arith, object))
entered_is_not_held (Try p) zero o a x h e k = absurd (cc e)
entered_is_not_held (Try p) (suc zero) o a x h e k = let object : p ≡ o = cc e in k o (omega (arith, object))
entered_is_not_held (Try p) (suc (suc r)) o a x h e k = absurd (cc e)
entered_is_not_held (Leave p c) r o a x h e k = absurd (cc e)
entered_is_not_held (Get p i) r o a x h e k = absurd (cc e)
entered_is_not_held (Put p i y) r o a x h e k = absurd (cc e)
entered_is_not_held Done r o a x h e k = absurd (cc e)

pub exiting_is_inside : {T : Type 0} (m : Machine T) → IsLawful m → (s : State T) → StateInvariant m s → (e : Step) (o : ℕ) (a : Access) → act m s e ≡ Left o a
    → (s.objects o).inside e.0 ≡ Some a
exiting_is_inside m law s good e o a is = good.linked e.0 o ∙ exited_object_is_held (asked m s e.0) e.1 o a (m.held (s.now e.0)) is (law.holds (s.now e.0))

pub entering_is_not_inside : {T : Type 0} (m : Machine T) → IsLawful m → (s : State T) → StateInvariant m s → (e : Step) (o : ℕ) (a : Access) (x : ℕ)
    → act m s e ≡ Entered o a x → (s.objects o).inside e.0 ≡ None
entering_is_not_inside m law s good e o a x is = good.linked e.0 o ∙ entered_is_not_held (asked m s e.0) e.1 o a x (m.held (s.now e.0)) is (law.holds (s.now e.0))

-- ---- one step

-- a step of thread t that doesn't enter object o leaves it, or changes neither its version nor how t is inside
pub own_step_keeps_or_exits : {T : Type 0} (m : Machine T) (s : State T) (e : Step) (t o : ℕ) → e.0 ≡ t → (Enters o (label m s e) → ⊥)
    → ((((after m s e).objects o).version ≡ (s.objects o).version) × (((after m s e).objects o).inside t ≡ (s.objects o).inside t))
    ⊎ ((a : Access) × (act m s e ≡ Left o a))
own_step_keeps_or_exits m s e t o own free = elim (cases_eq (target (act m s e)) o) [
  | inl here ↦ elim (own_act_keeps_or_exits (act m s e) (s.objects (target (act m s e))) e.0 o here free) [
    | inl h ↦ inl (subst (λ z. (((after m s e).objects z).version ≡ (s.objects z).version) × (((after m s e).objects z).inside t ≡ (s.objects z).inside t)) here (
      ap (λ z. z.version) (target_after_step m s e) ∙ h.0,
      ap (λ z. z.inside t) (target_after_step m s e) ∙ subst (λ z. (acted (act m s e) e.0 (s.objects (target (act m s e)))).inside z
          ≡ (s.objects (target (act m s e))).inside z) own h.1,
    ))
    | inr h ↦ inr h
  ]
  | inr ne ↦ inl (ap (λ z. z.version) (other_object_after_step m s e o (λ z. ne (sym z))), ap (λ z. z.inside t) (other_object_after_step m s e o (λ z. ne (sym z))))
]

-- a step of another thread
pub other_step_adds_leaves : {T : Type 0} (m : Machine T) (s : State T) (e : Step) (t o : ℕ) → (e.0 ≡ t → ⊥)
    → (((after m s e).objects o).version ≡ (s.objects o).version + leaves_one t o e.0 (label m s e))
    × (((after m s e).objects o).inside t ≡ (s.objects o).inside t)
other_step_adds_leaves m s e t o other = elim (cases_eq (target (act m s e)) o) [
  | inl here ↦ let h = other_act_adds_leaves (act m s e) (s.objects (target (act m s e))) e.0 t o other here in (
    subst (λ z. ((after m s e).objects z).version ≡ (s.objects z).version + leaves_one t o e.0 (label m s e)) here
        (ap (λ z. z.version) (target_after_step m s e) ∙ h.0),
    subst (λ z. ((after m s e).objects z).inside t ≡ (s.objects z).inside t) here (ap (λ z. z.inside t) (target_after_step m s e) ∙ h.1),
  )
  | inr ne ↦ elim (leaves_one_zero_or_exit (act m s e) (s.objects (target (act m s e))) e.0 t o) [
    | inl none ↦ (
      (let same = ap (λ z. z.version) (other_object_after_step m s e o (λ z. ne (sym z))) in omega (arith, same, none)),
      ap (λ z. z.inside t) (other_object_after_step m s e o (λ z. ne (sym z))),
    )
    | inr h ↦ absurd (ne (ap target h.0))
  ]
]

own_leaves_one_is_zero : (t o u : ℕ) (k : Label) → u ≡ t → leaves_one t o u k ≡ 0
own_leaves_one_is_zero t o u Quiet same = refl
own_leaves_one_is_zero t o u (Answer c x) same = refl
own_leaves_one_is_zero t o u (EnteredAt p a v l) same = refl
own_leaves_one_is_zero t o u (FailedTry p) same = refl
own_leaves_one_is_zero t o u (LeftAt p Reading v) same = refl
own_leaves_one_is_zero t o u (LeftAt p Writing v) same = ap {B = ℕ} (λ (c : Bool). cond c 0 (cond (eqb p o) 1 0)) (eq-eqb u t same)

-- ---- the thread comes back

-- one step more, of thread t or of another
comes_back_cons_own : {T : Type 0} (m : Machine T) (s : State T) (e : Step) (run : List Step) (t j n o w : ℕ) → e.0 ≡ t
    → ((after m s e).objects o).version ≡ (s.objects o).version → j ≡ logged_count (label m s e) + n
    → ComesBack m (after m s e) run t n o w → ComesBack m s (e ∷ run) t j o w
comes_back_cons_own m s e run t j n o w own version number c = record {
  between = e ∷ c.between;
  write = c.write;
  rest = c.rest;
  split = ap (λ (z : List Step). e ∷ z) c.split;
  own = c.own;
  readers = c.readers;
  writes = c.writes;
  number = (let long = ap length (log_of_own_step m s e c.between t own) ∙ length_of_logged (label m s e) (log m (after m s e) c.between t) in
      let rest = c.number in omega (arith, long, rest, number));
  counted = (let none = own_leaves_one_is_zero t o e.0 (label m s e) own in let rest = c.counted in omega (arith, none, rest, version));
}

comes_back_cons_other : {T : Type 0} (m : Machine T) (s : State T) (e : Step) (run : List Step) (t j o w : ℕ) → (e.0 ≡ t → ⊥)
    → ((after m s e).objects o).version ≡ (s.objects o).version + leaves_one t o e.0 (label m s e)
    → ComesBack m (after m s e) run t j o w → ComesBack m s (e ∷ run) t j o w
comes_back_cons_other m s e run t j o w other version c = record {
  between = e ∷ c.between;
  write = c.write;
  rest = c.rest;
  split = ap (λ (z : List Step). e ∷ z) c.split;
  own = c.own;
  readers = c.readers;
  writes = c.writes;
  number = ap length (log_of_other_step m s e c.between t other) ∙ c.number;
  counted = (let rest = c.counted in omega (arith, rest, version));
}

comes_back_at_write : {T : Type 0} (m : Machine T) → IsLawful m → (s : State T) → StateInvariant m s → (run : List Step) → IsRun m s run → (t j o w l : ℕ)
    → (s.objects o).inside t ≡ None → IsNextWrite (log m s run t) j o w l → ComesBack m s run t j o w
comes_back_at_write m law s good [] ok t j o w l out h = absurd h.at
comes_back_at_write m law s good (e ∷ run) ok t j o w l out h = elim (cases_eq e.0 t) [
  | inl own ↦ by own (λ n free next. comes_back_at_write m law (after m s e) (state_invariant_step m law s good e ok.0) run ok.1 t n o w l free next)
      (next_write_cases (label m s e) (log m (after m s e) run t) j o w l
      (subst (λ (ks : List Label). IsNextWrite ks j o w l) (log_of_own_step m s e run t own) h))
  | inr other ↦ let step = other_step_adds_leaves m s e t o other in
      comes_back_cons_other m s e run t j o w other step.0
      (comes_back_at_write m law (after m s e) (state_invariant_step m law s good e ok.0) run ok.1 t j o w l (step.1 ∙ out)
      (subst (λ (ks : List Label). IsNextWrite ks j o w l) (log_of_other_step m s e run t other) h))
]
  where
    by : e.0 ≡ t → ((n : ℕ) → ((after m s e).objects o).inside t ≡ None → IsNextWrite (log m (after m s e) run t) n o w l
        → ComesBack m (after m s e) run t n o w) → NextWriteCases (label m s e) (log m (after m s e) run t) j o w l → ComesBack m s (e ∷ run) t j o w
    by own again (Here k is) =
        let own_entry = entry_label_is_entering (act m s e) (s.objects (target (act m s e))) o Writing w l k in
        let version : (s.objects o).version ≡ w = ap (λ z. (s.objects (target z)).version) (sym own_entry.does) ∙ own_entry.version in
        record {
          between = [];
          write = e;
          rest = run;
          split = refl;
          own = own;
          readers = l;
          writes = k;
          number = sym is;
          counted = omega (arith, version);
        }
    by own again (There n is none next) = elim (own_step_keeps_or_exits m s e t o own none) [
      | inl same ↦ comes_back_cons_own m s e run t j n o w own same.0 is (again n (same.1 ∙ out) next)
      | inr exit ↦ absurd (none-some exit.0 (sym out ∙ subst (λ z. (s.objects o).inside z ≡ Some exit.0) own (exiting_is_inside m law s good e o exit.0 exit.1)))
    ]

-- ---- the thread leaves, and comes back

leaves_and_back_own : {T : Type 0} (m : Machine T) (s : State T) (e : Step) (run : List Step) (t j n o v w : ℕ) → e.0 ≡ t
    → j ≡ logged_count (label m s e) + n → LeavesAndComesBack m (after m s e) run t n o v w → LeavesAndComesBack m s (e ∷ run) t j o v w
leaves_and_back_own m s e run t j n o v w own number c = record {
  before = e ∷ c.before;
  leave = c.leave;
  after_leave = c.after_leave;
  split = ap (λ (z : List Step). e ∷ z) c.split;
  own = c.own;
  leaves = c.leaves;
  back = c.back;
  number = (let long = ap length (log_of_own_step m s e c.before t own) ∙ length_of_logged (label m s e) (log m (after m s e) c.before t) in
      let rest = c.number in omega (arith, long, rest, number));
  comes = c.comes;
  version = c.version;
}

leaves_and_back_other : {T : Type 0} (m : Machine T) (s : State T) (e : Step) (run : List Step) (t j o v w : ℕ) → (e.0 ≡ t → ⊥)
    → LeavesAndComesBack m (after m s e) run t j o v w → LeavesAndComesBack m s (e ∷ run) t j o v w
leaves_and_back_other m s e run t j o v w other c = record {
  before = e ∷ c.before;
  leave = c.leave;
  after_leave = c.after_leave;
  split = ap (λ (z : List Step). e ∷ z) c.split;
  own = c.own;
  leaves = c.leaves;
  back = c.back;
  number = (let long = ap length (log_of_other_step m s e c.before t other) in let rest = c.number in omega (arith, long, rest));
  comes = c.comes;
  version = c.version;
}

-- while a thread is inside, no other leaves after writing
pub inside_no_other_leaves : {T : Type 0} (m : Machine T) → IsLawful m → (s : State T) → StateInvariant m s → (e : Step) (t o : ℕ) (a : Access) → (e.0 ≡ t → ⊥)
    → (s.objects o).inside t ≡ Some a → leaves_one t o e.0 (label m s e) ≡ 0
inside_no_other_leaves m law s good e t o a other inside = elim (leaves_one_zero_or_exit (act m s e) (s.objects (target (act m s e))) e.0 t o) [
  | inl none ↦ none
  | inr h ↦ absurd (none-some a (sym (good.exclusive o e.0 t other (exiting_is_inside m law s good e o Writing h.0)) ∙ inside))
]

-- the reader leaves
leaves_and_back_to_write : {T : Type 0} (m : Machine T) → IsLawful m → (s : State T) → StateInvariant m s → (e : Step) → Can m s e → (run : List Step)
    → IsRun m (after m s e) run → (t j o v w l : ℕ) → e.0 ≡ t → act m s e ≡ Left o Reading → (s.objects o).version ≡ v
    → IsNextWrite (log m (after m s e) run t) j o w l → LeavesAndComesBack m s (e ∷ run) t j o v w
leaves_and_back_to_write m law s good e can run ok t j o v w l own does version next = record {
  before = [];
  leave = e;
  after_leave = run;
  split = refl;
  own = own;
  leaves = ap (λ q. emitted q (s.objects (target q))) does ∙ ap (λ z. LeftAt o Reading z) version;
  back = j;
  number = (let same : 0 + j ≡ j = omega arith in same);
  comes = comes_back_at_write m law (after m s e) (state_invariant_step m law s good e can) run ok t j o w l out next;
  version = ap (λ z. z.version) object ∙ version;
}
  where
    object : (after m s e).objects o ≡ acted (Left o Reading) e.0 (s.objects o)
    object = subst (λ q. (after m s e).objects (target q) ≡ acted q e.0 (s.objects (target q))) does (target_after_step m s e)

    out : ((after m s e).objects o).inside t ≡ None
    out = ap (λ z. z.inside t) object ∙ subst (λ z. upd (s.objects o).inside e.0 None z ≡ None) own (upd_at_own_place (s.objects o).inside e.0 None)

reader_leaves_and_back : {T : Type 0} (m : Machine T) → IsLawful m → (s : State T) → StateInvariant m s → (run : List Step) → IsRun m s run → (t j o v w l : ℕ)
    → (s.objects o).inside t ≡ Some Reading → (s.objects o).version ≡ v → IsNextWrite (log m s run t) j o w l → LeavesAndComesBack m s run t j o v w
reader_leaves_and_back m law s good [] ok t j o v w l reads version h = absurd h.at
reader_leaves_and_back m law s good (e ∷ run) ok t j o v w l reads version h = elim (cases_eq e.0 t) [
  | inl own ↦ by own
      (λ n inside same next. reader_leaves_and_back m law (after m s e) (state_invariant_step m law s good e ok.0) run ok.1 t n o v w l inside same next)
      (next_write_cases (label m s e) (log m (after m s e) run t) j o w l
      (subst (λ (ks : List Label). IsNextWrite ks j o w l) (log_of_own_step m s e run t own) h))
  | inr other ↦ let step = other_step_adds_leaves m s e t o other in
      let none = inside_no_other_leaves m law s good e t o Reading other reads in
      leaves_and_back_other m s e run t j o v w other
      (reader_leaves_and_back m law (after m s e) (state_invariant_step m law s good e ok.0) run ok.1 t j o v w l (step.1 ∙ reads)
      (let same = step.0 in omega (arith, same, none, version))
      (subst (λ (ks : List Label). IsNextWrite ks j o w l) (log_of_other_step m s e run t other) h))
]
  where
    by : e.0 ≡ t → ((n : ℕ) → ((after m s e).objects o).inside t ≡ Some Reading → ((after m s e).objects o).version ≡ v
        → IsNextWrite (log m (after m s e) run t) n o w l → LeavesAndComesBack m (after m s e) run t n o v w)
        → NextWriteCases (label m s e) (log m (after m s e) run t) j o w l → LeavesAndComesBack m s (e ∷ run) t j o v w
    by own again (Here k is) =
        let own_entry = entry_label_is_entering (act m s e) (s.objects (target (act m s e))) o Writing w l k in
        absurd (none-some Reading (sym (subst (λ z. (s.objects o).inside z ≡ None) own
        (entering_is_not_inside m law s good e o Writing own_entry.answer own_entry.does)) ∙ reads))
    by own again (There n is none next) = elim (own_step_keeps_or_exits m s e t o own none) [
      | inl same ↦ leaves_and_back_own m s e run t j n o v w own is (again n (same.1 ∙ reads) (same.0 ∙ version) next)
      | inr exit ↦ let held = subst (λ z. (s.objects o).inside z ≡ Some exit.0) own (exiting_is_inside m law s good e o exit.0 exit.1) in
          let access : exit.0 ≡ Reading = same_Some exit.0 Reading (sym held ∙ reads) in
          let does : act m s e ≡ Left o Reading = exit.1 ∙ ap (Left o) access in
          let quiet : logged_count (label m s e) ≡ 0 = ap (λ q. logged_count (emitted q (s.objects (target q)))) does in
          leaves_and_back_to_write m law s good e ok.0 run ok.1 t j o v w l own does version
          (subst (λ z. IsNextWrite (log m (after m s e) run t) z o w l) (let same : n ≡ j = omega (arith, is, quiet) in same) next)
    ]

-- ---- the thread reads, leaves, and comes back

-- labels i and j of these are a read of object o at version v, and the next entry of it, for writing at version w
record IsReadWritePair (ks : List Label) (i j o v w l : ℕ) : Type 0 where
  pub read : At ks i (EnteredAt o Reading v 0)
  pub write : At ks j (EnteredAt o Writing w l)
  pub later : i < j
  pub first : (k : ℕ) (x : Label) → i < k → k < j → At ks k x → Enters o x → ⊥

-- the first label is the read, or what is left has both
data PairCases (k : Label) (ks : List Label) (i j o v w l : ℕ) : Type 0 where
  Read : k ≡ EnteredAt o Reading v 0 → i ≡ 0 → (n : ℕ) → j ≡ 1 + n → IsNextWrite ks n o w l → PairCases k ks i j o v w l
  Later : (m n : ℕ) → i ≡ logged_count k + m → j ≡ logged_count k + n → IsReadWritePair ks m n o v w l → PairCases k ks i j o v w l

logged_pair_cases : (k : Label) (ks : List Label) (i j o v w l : ℕ) → logged_count k ≡ 1 → IsReadWritePair (k ∷ ks) i j o v w l → PairCases k ks i j o v w l
logged_pair_cases k ks i zero o v w l one h = absurd (let less = h.later in omega (arith, less))
logged_pair_cases k ks zero (suc n) o v w l one h = Read h.read refl n (let same : suc n ≡ 1 + n = omega arith in same)
    (record { at = h.write; first = λ m x less is. h.first (suc m) x (omega arith) (omega (arith, less)) is })
logged_pair_cases k ks (suc m) (suc n) o v w l one h = Later m n (omega (arith, one)) (omega (arith, one)) (record {
  read = h.read;
  write = h.write;
  later = (let less = h.later in omega (arith, less));
  first = λ d x from to is. h.first (suc d) x (omega (arith, from)) (omega (arith, to)) is;
})

read_write_pair_cases : (k : Label) (ks : List Label) (i j o v w l : ℕ) → IsReadWritePair (logged k ks) i j o v w l → PairCases k ks i j o v w l
read_write_pair_cases Quiet ks i j o v w l h = Later i j (let same : i ≡ 0 + i = omega arith in same) (let same : j ≡ 0 + j = omega arith in same) h
read_write_pair_cases (Answer c x) ks i j o v w l h = logged_pair_cases (Answer c x) ks i j o v w l refl h
read_write_pair_cases (EnteredAt p a u r) ks i j o v w l h = logged_pair_cases (EnteredAt p a u r) ks i j o v w l refl h
read_write_pair_cases (FailedTry p) ks i j o v w l h = logged_pair_cases (FailedTry p) ks i j o v w l refl h
read_write_pair_cases (LeftAt p a u) ks i j o v w l h = Later i j (let same : i ≡ 0 + i = omega arith in same) (let same : j ≡ 0 + j = omega arith in same) h

reads_and_back_own : {T : Type 0} (m : Machine T) (s : State T) (e : Step) (run : List Step) (t i j a b o v w : ℕ) → e.0 ≡ t
    → i ≡ logged_count (label m s e) + a → j ≡ logged_count (label m s e) + b → ReadsAndComesBack m (after m s e) run t a b o v w
    → ReadsAndComesBack m s (e ∷ run) t i j o v w
reads_and_back_own m s e run t i j a b o v w own first second c = record {
  before = e ∷ c.before;
  read = c.read;
  after_read = c.after_read;
  split = ap (λ (z : List Step). e ∷ z) c.split;
  own = c.own;
  reads = c.reads;
  number = (let long = ap length (log_of_own_step m s e c.before t own) ∙ length_of_logged (label m s e) (log m (after m s e) c.before t) in
      let rest = c.number in omega (arith, long, rest, first));
  later = c.later;
  place = (let rest = c.place in omega (arith, rest, first, second));
  comes = c.comes;
}

reads_and_back_other : {T : Type 0} (m : Machine T) (s : State T) (e : Step) (run : List Step) (t i j o v w : ℕ) → (e.0 ≡ t → ⊥)
    → ReadsAndComesBack m (after m s e) run t i j o v w → ReadsAndComesBack m s (e ∷ run) t i j o v w
reads_and_back_other m s e run t i j o v w other c = record {
  before = e ∷ c.before;
  read = c.read;
  after_read = c.after_read;
  split = ap (λ (z : List Step). e ∷ z) c.split;
  own = c.own;
  reads = c.reads;
  number = (let long = ap length (log_of_other_step m s e c.before t other) in let rest = c.number in omega (arith, long, rest));
  later = c.later;
  place = c.place;
  comes = c.comes;
}

-- the reader enters
reads_and_back_to_write : {T : Type 0} (m : Machine T) → IsLawful m → (s : State T) → StateInvariant m s → (e : Step) → Can m s e → (run : List Step)
    → IsRun m (after m s e) run → (t n o v w l : ℕ) → e.0 ≡ t → label m s e ≡ EnteredAt o Reading v 0
    → IsNextWrite (log m (after m s e) run t) n o w l → (i j : ℕ) → i ≡ 0 → j ≡ 1 + n → ReadsAndComesBack m s (e ∷ run) t i j o v w
reads_and_back_to_write m law s good e can run ok t n o v w l own reads next i j first second = record {
  before = [];
  read = e;
  after_read = run;
  split = refl;
  own = own;
  reads = reads;
  number = sym first;
  later = n;
  place = omega (arith, first, second);
  comes = reader_leaves_and_back m law (after m s e) (state_invariant_step m law s good e can) run ok t n o v w l inside version next;
}
  where
    entry : IsEntering (act m s e) (s.objects (target (act m s e))) o Reading v
    entry = entry_label_is_entering (act m s e) (s.objects (target (act m s e))) o Reading v 0 reads

    object : (after m s e).objects o ≡ acted (Entered o Reading entry.answer) e.0 (s.objects o)
    object = subst (λ q. (after m s e).objects (target q) ≡ acted q e.0 (s.objects (target q))) entry.does (target_after_step m s e)

    inside : ((after m s e).objects o).inside t ≡ Some Reading
    inside = ap (λ z. z.inside t) object
        ∙ subst (λ z. upd (s.objects o).inside e.0 (Some Reading) z ≡ Some Reading) own (upd_at_own_place (s.objects o).inside e.0 (Some Reading))

    version : ((after m s e).objects o).version ≡ v
    version = ap (λ z. z.version) object ∙ ap (λ z. (s.objects (target z)).version) (sym entry.does) ∙ entry.version

reads_and_back_in_log : {T : Type 0} (m : Machine T) → IsLawful m → (s : State T) → StateInvariant m s → (run : List Step) → IsRun m s run
    → (t i j o v w l : ℕ) → IsReadWritePair (log m s run t) i j o v w l → ReadsAndComesBack m s run t i j o v w
reads_and_back_in_log m law s good [] ok t i j o v w l h = absurd h.read
reads_and_back_in_log m law s good (e ∷ run) ok t i j o v w l h = elim (cases_eq e.0 t) [
  | inl own ↦ by own (λ a b pair. reads_and_back_in_log m law (after m s e) (state_invariant_step m law s good e ok.0) run ok.1 t a b o v w l pair)
      (read_write_pair_cases (label m s e) (log m (after m s e) run t) i j o v w l
      (subst (λ (ks : List Label). IsReadWritePair ks i j o v w l) (log_of_own_step m s e run t own) h))
  | inr other ↦ reads_and_back_other m s e run t i j o v w other
      (reads_and_back_in_log m law (after m s e) (state_invariant_step m law s good e ok.0) run ok.1 t i j o v w l
      (subst (λ (ks : List Label). IsReadWritePair ks i j o v w l) (log_of_other_step m s e run t other) h))
]
  where
    by : e.0 ≡ t → ((a b : ℕ) → IsReadWritePair (log m (after m s e) run t) a b o v w l → ReadsAndComesBack m (after m s e) run t a b o v w)
        → PairCases (label m s e) (log m (after m s e) run t) i j o v w l → ReadsAndComesBack m s (e ∷ run) t i j o v w
    by own again (Read k first n second next) = reads_and_back_to_write m law s good e ok.0 run ok.1 t n o v w l own k next i j first second
    by own again (Later a b first second pair) = reads_and_back_own m s e run t i j a b o v w own first second (again a b pair)

-- ---- the law

entered_if_label_enters : (o : ℕ) (e : Event) → Enters o (label_of e) → entered e ≡ Some o
entered_if_label_enters o (variant.Answer k x) h = absurd h
entered_if_label_enters o (variant.Read p v) h = ap Some h
entered_if_label_enters o (variant.Write p v l) h = ap Some h
entered_if_label_enters o (variant.Try p) h = absurd h

return_is_pair : (es : List Event) (i j o v w : ℕ) → (h : IsReturn es i j o v w) → IsReadWritePair (map label_of es) i j o v w h.readers
return_is_pair es i j o v w h = record {
  read = at_of_mapped_label es i (variant.Read o v) h.read;
  write = at_of_mapped_label es j (variant.Write o w h.readers) h.write;
  later = h.later;
  first = λ k x from to at enters. let e = event_of_label_at es k x at in
      h.next k e.0 from to e.1 (entered_if_label_enters o e.0 (subst (Enters o) (sym e.2) enters));
}

pub returns_counted : (code : List ℕ) (s : State thread.ThreadState) → IsStart (thread_machine code) s → (run : List Step)
    → IsRun (thread_machine code) s run → (t i j o v w : ℕ) (es : List Event) → log (thread_machine code) s run t ≡ map label_of es
    → IsReturn es i j o v w → ReadsAndComesBack (thread_machine code) s run t i j o v w
returns_counted code s start run ok t i j o v w es logs h =
    reads_and_back_in_log (thread_machine code) (thread_machine_lawful code) s (state_invariant_start (thread_machine code) s start) run ok t i j o v w h.readers
    (subst (λ (ks : List Label). IsReadWritePair ks i j o v w h.readers) (sym logs) (return_is_pair es i j o v w h))
