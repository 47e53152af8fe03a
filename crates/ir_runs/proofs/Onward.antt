-- There is a maximal run that follows a trace.
use Rattle.std.proofs.Common.{◌≡◌, ◌≢◌, ℕ, suc, zero, pred, ◌<◌, ◌≤◌, Bool, true, false, cond, eqb, List, [], ◌∷◌, ◌++◌, Some, None, refl, sym, subst, arith, inl, inr, ◌⊎◌, eq-eqb}
use Rattle.std.proofs.lemmas.Bool.{cases_eq, cases_lt, eqb-true}
use Rattle.ir_runs.specs.Machine.{Done, Act, Silent, Replied, Entered, TryFailed, Left, Got, Stored, Never, Machine, target, Admits}
use Rattle.ir_runs.specs.Machine.{emitted, Label, Quiet, Answer, EnteredAt, FailedTry, LeftAt, logged, Trace}
use Rattle.ir_runs.specs.Lawful.{IsLawful}
use Rattle.ir_runs.specs.declared.access.Access.TheVariants.{Reading, Writing}
use Rattle.ir_runs.specs.Run.{act, State, Step, asked, Can, after, label, trail}
use Rattle.ir_runs.proofs.Good.{StateInvariant, state_invariant_step}
use Rattle.ir_runs.proofs.Stuck.{some_first_or_all_second, writing_or_not, access_is_some_or_none, done_is_not_inside}
use Rattle.ir_runs.proofs.Confluent.{steps_left, log_left, FollowsRemainder, first_step_follows, later_steps_follow, join_if_fits, stepping_below_idle}
use Rattle.ir_runs.proofs.Judge.{env_kind_decidable, both_decidable, all_three_decidable, meets_is_decidable, access_decidable}
use Rattle.ir_runs.proofs.OneResult.{act_of_result_in_log}
use Rattle.ir_runs.proofs.Own.{idle_stays_idle}
use Rattle.ir_runs.proofs.Tally.{sum_below_less}
use Rattle.ir_runs.specs.Verdicts.{sum_below, unlogged, ends_now, closing}
use Rattle.ir_runs.specs.Events.{result_of}

logged-unlogged_cases : (k : Label) (es : List Label) → (logged k (unlogged k es) ≡ es) ⊎ ((logged k (unlogged k es) ≡ es) → ⊥)
logged-unlogged_cases Quiet es = inl refl
logged-unlogged_cases (Answer i v) [] = inr (λ h. cc h)
logged-unlogged_cases (Answer i v) (Quiet ∷ es) = inr (λ h. cc h)
logged-unlogged_cases (Answer i v) (Answer j w ∷ es) = elim (env_kind_decidable i j) [
  | inl p ↦ elim (cases_eq v w) [ inl q ↦ inl (λ z. Answer (p z) (q z) ∷ es) | inr f ↦ inr (λ h. f (cc h)) ]
  | inr f ↦ inr (λ h. f (cc h))
]
logged-unlogged_cases (Answer i v) (EnteredAt p c w j ∷ es) = inr (λ h. cc h)
logged-unlogged_cases (Answer i v) (FailedTry p ∷ es) = inr (λ h. cc h)
logged-unlogged_cases (Answer i v) (LeftAt p c w ∷ es) = inr (λ h. cc h)
logged-unlogged_cases (EnteredAt o a v l) [] = inr (λ h. cc h)
logged-unlogged_cases (EnteredAt o a v l) (Quiet ∷ es) = inr (λ h. cc h)
logged-unlogged_cases (EnteredAt o a v l) (Answer j w ∷ es) = inr (λ h. cc h)
logged-unlogged_cases (EnteredAt o a v l) (EnteredAt p c w j ∷ es) = elim (cases_eq o p) [
  | inl e ↦ elim (access_decidable a c) [
    | inl f ↦ elim (cases_eq v w) [
      | inl g ↦ elim (cases_eq l j) [ inl k ↦ inl (λ z. EnteredAt (e z) (f z) (g z) (k z) ∷ es) | inr ne ↦ inr (λ h. ne (cc h)) ]
      | inr ne ↦ inr (λ h. ne (cc h))
    ]
    | inr ne ↦ inr (λ h. ne (cc h))
  ]
  | inr ne ↦ inr (λ h. ne (cc h))
]
logged-unlogged_cases (EnteredAt o a v l) (FailedTry p ∷ es) = inr (λ h. cc h)
logged-unlogged_cases (EnteredAt o a v l) (LeftAt p c w ∷ es) = inr (λ h. cc h)
logged-unlogged_cases (FailedTry o) [] = inr (λ h. cc h)
logged-unlogged_cases (FailedTry o) (Quiet ∷ es) = inr (λ h. cc h)
logged-unlogged_cases (FailedTry o) (Answer j w ∷ es) = inr (λ h. cc h)
logged-unlogged_cases (FailedTry o) (EnteredAt p c w j ∷ es) = inr (λ h. cc h)
logged-unlogged_cases (FailedTry o) (FailedTry p ∷ es) = elim (cases_eq o p) [ inl e ↦ inl (λ z. FailedTry (e z) ∷ es) | inr ne ↦ inr (λ h. ne (cc h)) ]
logged-unlogged_cases (FailedTry o) (LeftAt p c w ∷ es) = inr (λ h. cc h)
logged-unlogged_cases (LeftAt o a v) es = inl refl

bool_is_true_or_not : (b : Bool) → (b ≡ true) ⊎ ((b ≡ true) → ⊥)
bool_is_true_or_not true = inl refl
bool_is_true_or_not false = inr (λ h. cc h)

admits_is_decidable : {T : Type 0} (m : Machine T) → IsLawful m → (s : State T) → StateInvariant m s → (n : ℕ) → ((t : ℕ) → n ≤ t → asked m s t ≡ Done)
    → (q : Act) → Admits m q (s.objects (target q)) ⊎ (Admits m q (s.objects (target q)) → ⊥)
admits_is_decidable m law s good n idle Silent = inl tt
admits_is_decidable m law s good n idle (Replied k v) = bool_is_true_or_not (m.fits k v)
admits_is_decidable m law s good n idle (Entered o Reading v) =
    elim (some_first_or_all_second (λ x. x ≡ Some Writing) (λ x. x ≢ Some Writing) writing_or_not (s.objects o).inside n) [
      | inl w ↦ inr (λ h. h w.0 w.1)
      | inr none ↦ inl (λ u e. elim (cases_lt u n) [ inl l ↦ none u l e | inr g ↦ cc (done_is_not_inside m law s good u o (idle u g), e) ])
    ]
admits_is_decidable m law s good n idle (Entered o Writing v) = elim (some_first_or_all_second (λ x. x ≢ None) (λ x. x ≡ None) access_is_some_or_none (s.objects o).inside n) [
  | inl w ↦ inr (λ h. w.1 (h w.0))
  | inr none ↦ inl (λ u. elim (cases_lt u n) [ inl l ↦ none u l | inr g ↦ done_is_not_inside m law s good u o (idle u g) ])
]
admits_is_decidable m law s good n idle (TryFailed o) = inl tt
admits_is_decidable m law s good n idle (Left o a) = inl tt
admits_is_decidable m law s good n idle (Got o i) = inl tt
admits_is_decidable m law s good n idle (Stored o i w) = inl tt
admits_is_decidable m law s good n idle Never = inr (λ h. h)

some_below_or_none : (P : ℕ → Type 0) → ((t : ℕ) → P t ⊎ (P t → ⊥)) → (n : ℕ) → ((t : ℕ) × (t < n) × P t) ⊎ ((t : ℕ) → t < n → P t → ⊥)
some_below_or_none P decide zero = inr (λ t l h. omega arith)
some_below_or_none P decide (suc n) = elim (decide n) [
  | inl p ↦ inl (n, omega arith, p)
  | inr f ↦ elim (some_below_or_none P decide n) [
    | inl w ↦ inl (w.0, omega (arith, w.1), w.2)
    | inr none ↦ inr (λ t l h. elim (cases_eq t n) [ inl e ↦ f (subst P e h) | inr ne ↦ none t (omega arith) h ])
  ]
]

-- the step follows what is left
abbrev NextStepFollows : {T : Type 0} → Machine T → Trace → State T → (ℕ → ℕ) → (ℕ → List Label) → Step → Type 0
NextStepFollows m tr s ns rem e = Can m s e × ((0 < ns e.0) × (logged (label m s e) (unlogged (label m s e) (rem e.0)) ≡ rem e.0)
    × closing m tr e.0 (s.now e.0) (ns e.0) (rem e.0))

pub record MaximalRun {T : Type 0} (m : Machine T) (tr : Trace) (s : State T) (ns : ℕ → ℕ) (rem : ℕ → List Label) : Type 0 where
  pub run : List Step
  pub ok : FollowsRemainder (closing m tr) m s ns rem run
  pub top : (x : Step) → FollowsRemainder (closing m tr) m s ns rem (run ++ x ∷ []) → ⊥

pred_if_is_at_most : (b : Bool) (n : ℕ) → cond b (pred n) n ≤ n
pred_if_is_at_most true n = let g : pred n ≤ n = omega arith in g
pred_if_is_at_most false n = let g : n ≤ n = omega arith in g

pred_if_is_below : (b : Bool) (n : ℕ) → b ≡ true → 0 < n → cond b (pred n) n < n
pred_if_is_below true n p l = let g : pred n < n = omega (arith, l) in g
pred_if_is_below false n p l = absurd (cc p)

pub maximal_run_exists : {T : Type 0} (fuel n : ℕ) (m : Machine T) → IsLawful m → (tr : Trace) (s : State T) → StateInvariant m s
    → ((t : ℕ) → n ≤ t → asked m s t ≡ Done) → (ns : ℕ → ℕ) (rem : ℕ → List Label) → sum_below n ns < fuel → MaximalRun m tr s ns rem
maximal_run_exists zero n m law tr s good idle ns rem less = absurd (omega (arith, less))
maximal_run_exists (suc d) n m law tr s good idle ns rem less = elim (some_below_or_none (λ t. NextStepFollows m tr s ns rem (t, result_of (asked m s t) (rem t)))
    (λ t. both_decidable (admits_is_decidable m law s good n idle (act m s (t, result_of (asked m s t) (rem t))))
    (all_three_decidable (positive (ns t)) (logged-unlogged_cases (label m s (t, result_of (asked m s t) (rem t))) (rem t))
    (meets_is_decidable (ends_now m (s.now t)) (tr.ends t) (m.size (s.now t)) (ns t) (rem t)))) n) [
      | inl w ↦
          let e : Step = (w.0, result_of (asked m s w.0) (rem w.0)) in
          let next : NextStepFollows m tr s ns rem e = w.2 in
          let b : MaximalRun m tr (after m s e) (steps_left ns e) (log_left rem e (label m s e)) =
          maximal_run_exists d n m law tr (after m s e) (state_invariant_step m law s good e next.0) (idle_stays_idle m s n idle e next.0).1 (steps_left ns e)
          (log_left rem e (label m s e))
          (omega (
            arith,
            less,
            sum_below_less n e.0 (steps_left ns e) ns w.1 (pred_if_is_below (eqb e.0 e.0) (ns e.0) (eq-eqb e.0 e.0 refl) next.1.0)
                (λ u. pred_if_is_at_most (eqb u e.0) (ns u)),
          )) in
          record {
            run = e ∷ b.run;
            ok = (
              (next.0, b.ok.0),
              λ t. join_if_fits (closing m tr t) (ns t) (rem t) (eqb t e.0) (s.now t, label m s e) (trail m (after m s e) b.run t)
                  (λ p. subst (λ z. (0 < ns z) × (logged (label m s e) (unlogged (label m s e) (rem z)) ≡ rem z)
                  × closing m tr z (s.now z) (ns z) (rem z)) (sym (eqb-true t e.0 p)) next.1) (b.ok.1 t),
            );
            top = λ x h. b.top x (later_steps_follow (closing m tr) m s ns rem e (b.run ++ x ∷ []) h);
          }
      | inr none ↦ record {
        run = [];
        ok = (tt, λ t. tt);
        top = λ x h.
            let f = first_step_follows (closing m tr) m s ns rem x [] h in
            let p : act m s x ≡ act m s (x.0, result_of (asked m s x.0) (rem x.0)) =
            act_of_result_in_log m (asked m s x.0) x.1 (s.objects (target (act m s x))) (rem x.0) h.0.0 f.1 in
            none x.0 (stepping_below_idle m s n idle x h.0.0) (
              subst (λ z. Admits m z (s.objects (target z))) p h.0.0,
              (
                f.0,
                subst (λ z. logged (emitted z (s.objects (target z))) (unlogged (emitted z (s.objects (target z))) (rem x.0)) ≡ rem x.0) p
                    f.1,
                f.2,
              ),
            );
      }
    ]
  where
    positive : (n : ℕ) → (0 < n) ⊎ ((0 < n) → ⊥)
    positive zero = inr (λ h. omega arith)
    positive (suc n) = inl (omega arith)
