-- A run whose logs begin another's is the beginning of that run, up to the order of the steps.
-- the first step of a thread is what the thread asks now
use Rattle.std.proofs.Common.{◌≡◌, ◌≢◌, ℕ, ◌<◌, ◌≤◌, Bool, true, false, eqb, List, [], ◌∷◌, ◌++◌, length, refl, sym, ap, ◌∙◌, subst, arith, inl, inr, eq-eqb, ne_eqb, append-nil, length-append}
use Rattle.std.proofs.lemmas.Bool.{cases_eq}
use Rattle.ir_runs.specs.Machine.{Ask, Act, act_of, Silent, Replied, Entered, TryFailed, Left, Got, Stored, Never, Machine, Object, Admits}
use Rattle.ir_runs.specs.Machine.{target, emitted, Label, Quiet, Answer, EnteredAt, FailedTry, LeftAt, logged}
use Rattle.ir_runs.specs.Lawful.{IsLawful}
use Rattle.ir_runs.specs.declared.access.Access.TheVariants.{Reading, Writing}
use Rattle.ir_runs.proofs.Tables.{upd_at_other_place}
use Rattle.ir_runs.specs.Run.{act, State, Can, Step, asked, after, label, IsRun, end, join_if, trail, events, log, count, At}
use Rattle.ir_runs.proofs.Good.{StateInvariant, state_invariant_step}
use Rattle.ir_runs.proofs.Pull.{PulledFirst, step_can_come_first, act_same_if_logs_same}

pub record FirstStepEmits {T : Type 0} (m : Machine T) (s : State T) (t : ℕ) (x : T) (j : Label) : Type 0 where
  pub result : ℕ
  pub object : Object
  pub admits : Admits m (act m s (t, result)) object
  pub emits : j ≡ emitted (act m s (t, result)) object

pub thread_after_other : {T : Type 0} (m : Machine T) (s : State T) (e : Step) (t : ℕ) → t ≢ e.0 → (after m s e).now t ≡ s.now t
unfolding after
thread_after_other m s e t ne = upd_at_other_place s.now e.0 t _ ne

pub first_step_emits : {T : Type 0} (m : Machine T) (s : State T) (run : List Step) → IsRun m s run → (t : ℕ) (x : T) (j : Label)
    → At (trail m s run t) 0 (x, j) → FirstStepEmits m s t x j
first_step_emits m s [] ok t x j h = absurd h
first_step_emits m s (e ∷ run) ok t x j h = elim (cases_eq t e.0) [
  | inl same ↦ record {
    result = e.1;
    object = s.objects (target (act m s (t, e.1)));
    admits = subst (λ z. Can m s (z, e.1)) (sym same) ok.0;
    emits = subst (λ z. j ≡ label m s (z, e.1)) (sym same)
        (sym (ap (λ z. z.1) (subst (λ b. At (join_if b (s.now t, label m s e) (trail m (after m s e) run t)) 0 (x, j)) (eq-eqb t e.0 same)
        h)));
  }
  | inr other ↦
      let k : FirstStepEmits m (after m s e) t x j = first_step_emits m (after m s e) run ok.1 t x j
      (subst (λ b. At (join_if b (s.now t, label m s e) (trail m (after m s e) run t)) 0 (x, j)) (ne_eqb t e.0 other) h) in
      let p : act m (after m s e) (t, k.result) ≡ act m s (t, k.result) = ap (λ z. act_of (m.ask z) k.result) (thread_after_other m s e t other) in
      record {
        result = k.result;
        object = k.object;
        admits = subst (λ z. Admits m z k.object) p k.admits;
        emits = k.emits
            ∙ ap (λ z. emitted z k.object) p;
      }
]

-- where both log, the logs of one step are one
pub logs_of_same_ask_agree : {T : Type 0} (m : Machine T) (q : Ask) (r r' : ℕ) (b b' : Object) (xs ys zs : List Label) → Admits m (act_of q r) b
    → Admits m (act_of q r') b' → logged (emitted (act_of q r) b) xs ++ ys ≡ logged (emitted (act_of q r') b') zs
    → logged (emitted (act_of q r') b') [] ≡ logged (emitted (act_of q r) b) []
logs_of_same_ask_agree m q r r' b b' xs ys zs can can' h = by_act (act_of q r) (act_of q r') (act_same_if_logs_same m q r r' b b' xs ys zs can can' h) h
  where
    one : (a : Act) (b b' : Object) (xs ys zs : List Label) → logged (emitted a b) xs ++ ys ≡ logged (emitted a b') zs
        → logged (emitted a b') [] ≡ logged (emitted a b) []
    one Silent b b' xs ys zs h = refl
    one (TryFailed o) b b' xs ys zs h = refl
    one (Replied k v) b b' xs ys zs h = refl
    one (Entered o Reading v) b b' xs ys zs h = cc h
    one (Entered o Writing v) b b' xs ys zs h = cc h
    one (Left o a) b b' xs ys zs h = refl
    one (Got o j) b b' xs ys zs h = refl
    one (Stored o j w) b b' xs ys zs h = refl
    one Never b b' xs ys zs h = refl

    by_act : (a a' : Act) → a ≡ a' → logged (emitted a b) xs ++ ys ≡ logged (emitted a' b') zs → logged (emitted a' b') [] ≡ logged (emitted a b) []
    by_act a a' p h = subst (λ z. logged (emitted z b') [] ≡ logged (emitted a b) []) p
        (one a b b' xs ys zs (subst (λ z. logged (emitted a b) xs ++ ys ≡ logged (emitted z b') zs) (sym p) h))

logged_prefix_cancels : (k : Label) (xs ys zs : List Label) → logged k xs ++ ys ≡ logged k zs → xs ++ ys ≡ zs
logged_prefix_cancels Quiet xs ys zs h = h
logged_prefix_cancels (Answer i v) xs ys zs h = cc h
logged_prefix_cancels (EnteredAt o a v l) xs ys zs h = cc h
logged_prefix_cancels (FailedTry o) xs ys zs h = cc h
logged_prefix_cancels (LeftAt o a v) xs ys zs h = h

events_cancel_join_if : {T : Type 0} (b : Bool) (x : T × Label) (xs ys : List (T × Label)) (zs : List Label)
    → events (join_if b x xs) ++ zs ≡ events (join_if b x ys) → events xs ++ zs ≡ events ys
events_cancel_join_if true x xs ys zs h = logged_prefix_cancels x.1 (events xs) zs (events ys) h
events_cancel_join_if false x xs ys zs h = h

lengths_cancel_join_if : {A : Type 0} (b : Bool) (x : A) (xs ys : List A) → length (join_if b x xs) ≤ length (join_if b x ys) → length xs ≤ length ys
lengths_cancel_join_if true x xs ys h = omega arith
lengths_cancel_join_if false x xs ys h = h

pub join_if_append_assoc : {A : Type 0} (b : Bool) (x : A) (xs ys : List A) → join_if b x xs ++ ys ≡ join_if b x (xs ++ ys)
join_if_append_assoc true x xs ys = refl
join_if_append_assoc false x xs ys = refl

pub record NonEmpty {A : Type 0} (xs : List A) : Type 0 where
  pub head : A
  pub rest : List A
  pub is : xs ≡ head ∷ rest

pub positive_length_nonempty : {A : Type 0} (xs : List A) → 0 < length xs → NonEmpty xs
positive_length_nonempty [] h = absurd (omega arith)
positive_length_nonempty (x ∷ xs) h = record { head = x; rest = xs; is = refl }

-- the rest of the run, after the steps of the other
pub record BeginsRun {T : Type 0} (m : Machine T) (s : State T) (prefix run : List Step) : Type 0 where
  pub rest : List Step
  pub ok : IsRun m (end m s prefix) rest
  pub same_end : end m (end m s prefix) rest ≡ end m s run
  pub same_trail : (u : ℕ) → trail m s prefix u ++ trail m (end m s prefix) rest u ≡ trail m s run u

-- what the thread's first step logs is what the step e logs
first_step_logs_as_prefix : {T : Type 0} (m : Machine T) (s : State T) (e : Step) (prefix run : List Step) → Can m s e → IsRun m s run
    → (x : T) (j : Label) (xs : List (T × Label)) (ys : List Label) → trail m s run e.0 ≡ (x, j) ∷ xs
    → events (trail m s (e ∷ prefix) e.0) ++ ys ≡ events (trail m s run e.0) → logged j [] ≡ logged (label m s e) []
first_step_logs_as_prefix m s e prefix run can ok x j xs ys is h =
    let k : FirstStepEmits m s e.0 x j = first_step_emits m s run ok e.0 x j (subst (λ z. At z 0 (x, j)) (sym is) refl) in
    ap (λ z. logged z []) k.emits
    ∙ logs_of_same_ask_agree m (asked m s e.0) e.1 k.result (s.objects (target (act m s e))) k.object (events (trail m (after m s e) prefix e.0)) ys
    (events xs) can k.admits
    (subst (λ b. events (join_if b (s.now e.0, label m s e) (trail m (after m s e) prefix e.0)) ++ ys ≡ logged
    (emitted (act m s (e.0, k.result)) k.object) (events xs)) (eq-eqb e.0 e.0 refl)
    (h ∙ ap events is ∙ ap (λ z. logged z (events xs)) k.emits))

pub beginning_logs_begin_run : {T : Type 0} (m : Machine T) → IsLawful m → (s : State T) → StateInvariant m s → (prefix run : List Step) → IsRun m s prefix
    → IsRun m s run → (left : ℕ → List Label)
    → ((t : ℕ) → log m s prefix t ++ left t ≡ log m s run t) → ((t : ℕ) → count m s prefix t ≤ count m s run t) → BeginsRun m s prefix run
beginning_logs_begin_run m law s good [] run ok ok' left logs counts = record { rest = run; ok = ok'; same_end = refl; same_trail = λ u. refl }
beginning_logs_begin_run m law s good (e ∷ prefix) run ok ok' left logs counts =
    let c : 1 ≤ count m s run e.0 = subst (λ b. length (join_if b (s.now e.0, label m s e) (trail m (after m s e) prefix e.0)) ≤ count m s
    run e.0 → 1 ≤ count m s run e.0) (sym (eq-eqb e.0 e.0 refl)) (λ h. omega arith) (counts e.0) in
    let st : NonEmpty (trail m s run e.0) = positive_length_nonempty (trail m s run e.0) c in
    let p : PulledFirst m s run e.0 e.1 = step_can_come_first m law s good run ok' e.0 e.1 ok.0 st.head.0 st.head.1
    (subst (λ z. At z 0 st.head) (sym st.is) refl)
    (first_step_logs_as_prefix m s e prefix run ok.0 ok' st.head.0 st.head.1 st.rest (left e.0) st.is (logs e.0)) in
    let g : BeginsRun m (after m s e) prefix p.rest = beginning_logs_begin_run m law (after m s e) (state_invariant_step m law s good e ok.0) prefix p.rest ok.1 p.ok left
    (λ u. events_cancel_join_if (eqb u e.0) (s.now u, label m s e) (trail m (after m s e) prefix u) (trail m (after m s e) p.rest u) (left u)
    (logs u ∙ ap events (sym (p.same_trail u))))
    (λ u. lengths_cancel_join_if (eqb u e.0) (s.now u, label m s e) (trail m (after m s e) prefix u) (trail m (after m s e) p.rest u)
    (subst (λ z. count m s (e ∷ prefix) u ≤ length z) (sym (p.same_trail u)) (counts u))) in
    record {
      rest = g.rest;
      ok = g.ok;
      same_end = g.same_end ∙ p.same_end;
      same_trail = λ u. join_if_append_assoc (eqb u e.0) (s.now u, label m s e) (trail m (after m s e) prefix u)
          (trail m (end m (after m s e) prefix) g.rest u)
          ∙ ap (join_if (eqb u e.0) (s.now u, label m s e)) (g.same_trail u) ∙ p.same_trail u;
    }

-- a run without steps
pub no_counts_empty_run : {T : Type 0} (m : Machine T) (s : State T) (run : List Step) → ((t : ℕ) → count m s run t ≡ 0) → run ≡ []
no_counts_empty_run m s [] h = refl
no_counts_empty_run m s (e ∷ run) h = absurd (subst (λ b. length (join_if b (s.now e.0, label m s e) (trail m (after m s e) run e.0)) ≡ 0 → ⊥)
    (sym (eq-eqb e.0 e.0 refl)) (λ z. omega arith) (h e.0))

-- Two runs with the same logs and numbers of steps have the same threads, labels and end.
pub record SameTrailsAndEnd {T : Type 0} (m : Machine T) (s : State T) (run run' : List Step) : Type 0 where
  pub same_trail : (u : ℕ) → trail m s run u ≡ trail m s run' u
  pub same_end : end m s run ≡ end m s run'

pub same_logs_same_trails : {T : Type 0} (m : Machine T) → IsLawful m → (s : State T) → StateInvariant m s → (run run' : List Step) → IsRun m s run → IsRun m s run'
    → ((t : ℕ) → log m s run t ≡ log m s run' t) → ((t : ℕ) → count m s run t ≡ count m s run' t) → SameTrailsAndEnd m s run run'
same_logs_same_trails m law s good run run' ok ok' logs counts =
    let g : BeginsRun m s run run' = beginning_logs_begin_run m law s good run run' ok ok' (λ _. []) (λ t. append-nil _ ∙ logs t) (λ t. omega (arith, counts t)) in
    let none : g.rest ≡ [] = no_counts_empty_run m (end m s run) g.rest
    (λ t. omega (arith, counts t, ap length (g.same_trail t), length-append (trail m s run t) (trail m (end m s run) g.rest t))) in
    record {
      same_trail = λ u. sym (append-nil _) ∙ ap (λ z. trail m s run u ++ trail m (end m s run) z u) (sym none) ∙ g.same_trail u;
      same_end = ap (end m (end m s run)) (sym none) ∙ g.same_end;
    }
