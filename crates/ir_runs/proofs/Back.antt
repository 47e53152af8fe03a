-- A step that needs nothing of the step before it can come before that.
-- what an entry is admitted by, before another's step
use Rattle.std.proofs.Common.{◌≡◌, ◌≢◌, ℕ, suc, Bool, true, false, eqb, List, [], ◌∷◌, Option, Some, None, refl, sym, ap, ◌∙◌, subst, inl, inr, eq-eqb, ne_eqb}
use Rattle.std.proofs.lemmas.Bool.{cases_eq, eqb-true}
use Rattle.ir_runs.specs.Machine.{Act, act_of, Silent, Replied, Entered, TryFailed, Left, Got, Stored, Never, Machine, upd, Object, target, Admits, acted, emitted, Label}
use Rattle.ir_runs.specs.Lawful.{IsLawful}
use Rattle.ir_runs.specs.declared.access.Access.{Access}
use Rattle.ir_runs.specs.declared.access.Access.TheVariants.{Reading, Writing}
use Rattle.ir_runs.proofs.Tables.{upd_at_own_place, upd_at_other_place}
use Rattle.ir_runs.specs.Run.{act, State, Step, Can, after, label, IsRun, join_if, trail, At, IsNeededBy}
use Rattle.ir_runs.proofs.Good.{InsideForAct, StateInvariant, inside_for_act_of_step, state_invariant_step}
use Rattle.ir_runs.proofs.Pull.{clash_is_symmetric}
use Rattle.ir_runs.proofs.Same.{thread_after_other}
use Rattle.ir_runs.proofs.Steps.{Clashes, StepUnchanged, step_unchanged_by_other, steps_commute}
use Rattle.ir_runs.proofs.Swap.{Clash}

no_writer_before_update : {T : Type 0} (m : Machine T) (b : Object) (t : ℕ) (x : Option Access) → (x ≡ Some Writing → ⊥) → b.inside t ≡ x
    → (a : Option Access) → ((w : ℕ) → upd b.inside t a w ≢ Some Writing) → (w : ℕ) → b.inside w ≢ Some Writing
no_writer_before_update m b t x ne i a h w e = elim (cases_eq w t) [
  | inl same ↦ ne (sym i ∙ ap b.inside (sym same) ∙ e)
  | inr other ↦ h w (upd_at_other_place b.inside t w a other ∙ e)
]

-- The step of u was admitted before that of t, unless it needs that.
act_admitted_before : {T : Type 0} (m : Machine T) (b : Object) (t u : ℕ) (q q' : Act) → target q' ≡ target q → InsideForAct q (b.inside t) → Admits m q b
    → Admits m q' (acted q t b) → (IsNeededBy (emitted q b) (emitted q' (acted q t b)) → ⊥) → Admits m q' b × (Clash q q' → ⊥)
act_admitted_before m b t u Silent q' same i h h' free = (h', λ c. c)
act_admitted_before m b t u (TryFailed _) q' same i h h' free = (h', λ c. c)
act_admitted_before m b t u (Replied k res) q' same i h h' free = (h', λ c. c)
act_admitted_before m b t u (Got o j) q' same i h h' free = (h', λ c. c)
act_admitted_before m b t u Never q' same i h h' free = absurd h
act_admitted_before m b t u (Stored o j w) Silent same i h h' free = (tt, λ c. c)
act_admitted_before m b t u (Stored o j w) (TryFailed _) same i h h' free = (tt, λ c. c)
act_admitted_before m b t u (Stored o j w) (Replied k res) same i h h' free = (h', λ c. c)
act_admitted_before m b t u (Stored o j w) (Entered p Reading ans') same i h h' free = (h', λ c. c)
act_admitted_before m b t u (Stored o j w) (Entered p Writing ans') same i h h' free = (h', λ c. c)
act_admitted_before m b t u (Stored o j w) (Left p a) same i h h' free = (tt, λ c. c)
act_admitted_before m b t u (Stored o j w) (Got p k) same i h h' free = (tt, λ c. c)
act_admitted_before m b t u (Stored o j w) (Stored p k v) same i h h' free = (tt, λ c. c)
act_admitted_before m b t u (Stored o j w) Never same i h h' free = absurd h'
act_admitted_before m b t u (Entered o Reading ans) Silent same i h h' free = (tt, λ c. c)
act_admitted_before m b t u (Entered o Reading ans) (TryFailed _) same i h h' free = (tt, λ c. c)
act_admitted_before m b t u (Entered o Writing ans) Silent same i h h' free = (tt, λ c. c)
act_admitted_before m b t u (Entered o Writing ans) (TryFailed _) same i h h' free = (tt, λ c. c)
act_admitted_before m b t u (Entered o Reading ans) (Replied k res) same i h h' free = (h', λ c. c)
act_admitted_before m b t u (Entered o Writing ans) (Replied k res) same i h h' free = (h', λ c. c)
act_admitted_before m b t u (Entered o Reading ans) (Entered p Reading ans') same i h h' free = (h_before, λ c. c)
  where
    h_before : (w : ℕ) → b.inside w ≢ Some Writing
    h_before = h
act_admitted_before m b t u (Entered o Writing ans) (Entered p Reading ans') same i h h' free = absurd (h' t (upd_at_own_place b.inside t (Some Writing)))
act_admitted_before m b t u (Entered o a ans) (Entered p Writing ans') same i h h' free = absurd (cc (h' t, upd_at_own_place b.inside t (Some a)))
act_admitted_before m b t u (Entered o Reading ans) (Left p c) same i h h' free = (tt, λ c. c)
act_admitted_before m b t u (Entered o Writing ans) (Left p c) same i h h' free = (tt, λ c. c)
act_admitted_before m b t u (Entered o Reading ans) (Got p k) same i h h' free = (tt, λ c. c)
act_admitted_before m b t u (Entered o Writing ans) (Got p k) same i h h' free = (tt, λ c. c)
act_admitted_before m b t u (Entered o Reading ans) (Stored p k v) same i h h' free = (tt, λ c. c)
act_admitted_before m b t u (Entered o Writing ans) (Stored p k v) same i h h' free = (tt, λ c. c)
act_admitted_before m b t u (Entered o a ans) Never same i h h' free = absurd h'
act_admitted_before m b t u (Left o a) Silent same i h h' free = (tt, λ c. c)
act_admitted_before m b t u (Left o a) (TryFailed _) same i h h' free = (tt, λ c. c)
act_admitted_before m b t u (Left o a) (Replied k res) same i h h' free = (h', λ c. c)
act_admitted_before m b t u (Left o Reading) (Entered p Reading ans') same i h h' free = (no_writer_before_update m b t (Some Reading) (λ z. cc z) i None h', λ c. c)
act_admitted_before m b t u (Left o Reading) (Entered p Writing ans') same i h h' free = absurd (free (sym same, refl))
act_admitted_before m b t u (Left o Writing) (Entered p Reading ans') same i h h' free = absurd (free (sym same, refl))
act_admitted_before m b t u (Left o Writing) (Entered p Writing ans') same i h h' free = absurd (free (sym same, refl))
act_admitted_before m b t u (Left o a) (Left p c) same i h h' free = (tt, λ c. c)
act_admitted_before m b t u (Left o a) (Got p k) same i h h' free = (tt, λ c. c)
act_admitted_before m b t u (Left o a) (Stored p k v) same i h h' free = (tt, λ c. c)
act_admitted_before m b t u (Left o a) Never same i h h' free = absurd h'

-- The step e' was there before e, unless it needs e.
pub step_can_come_before : {T : Type 0} (m : Machine T) → IsLawful m → (s : State T) → StateInvariant m s → (e e' : Step) → e'.0 ≢ e.0 → Can m s e
    → Can m (after m s e) e' → (IsNeededBy (label m s e) (label m (after m s e) e') → ⊥) → Can m s e' × (Clashes m s e e' → ⊥)
unfolding after
step_can_come_before m law s good e e' ne can can' free =
    let q : Act = act m s e in let q' : Act = act m s e' in
    let s1 = after m s e in
    let p : s1.now e'.0 ≡ s.now e'.0 = thread_after_other m s e e'.0 ne in
    let h : Admits m q' (s1.objects (target q')) =
    subst (λ z. Admits m (act_of (m.ask z) e'.1) (s1.objects (target (act_of (m.ask z) e'.1)))) p can' in
    let f : IsNeededBy (label m s e) (emitted q' (s1.objects (target q'))) → ⊥ =
    subst (λ z. IsNeededBy (label m s e) (emitted (act_of (m.ask z) e'.1) (s1.objects (target (act_of (m.ask z) e'.1)))) → ⊥) p free in
    elim (cases_eq (target q') (target q)) [
      | inl same ↦
          let c : s1.objects (target q') ≡ acted q e.0 (s.objects (target q)) = ap s1.objects same ∙ upd_at_own_place s.objects (target q) _ in
          let z : Admits m q' (s.objects (target q)) × (Clash q q' → ⊥) =
          act_admitted_before m (s.objects (target q)) e.0 e'.0 q q' same (inside_for_act_of_step m law s good e) can
          (subst (Admits m q') c h) (subst (λ y. IsNeededBy (label m s e) (emitted q' y) → ⊥) c f) in
          (subst (λ y. Admits m q' (s.objects y)) (sym same) z.0, λ y. z.1 y.1)
      | inr other ↦ (subst (Admits m q') (upd_at_other_place s.objects (target q) (target q') _ other) h, λ y. other y.0)
    ]

-- the run without the step e before it
pub record RunWithoutStep {T : Type 0} (m : Machine T) (s : State T) (e : Step) (run : List Step) : Type 0 where
  pub ok : IsRun m s run
  pub same_trail : (u : ℕ) → trail m s run u ≡ trail m (after m s e) run u

pub run_without_step : {T : Type 0} (m : Machine T) → IsLawful m → (s : State T) → StateInvariant m s → (e : Step) → Can m s e → (run : List Step)
    → IsRun m (after m s e) run → trail m (after m s e) run e.0 ≡ []
    → ((u k : ℕ) (x : T) (a : Label) → At (trail m (after m s e) run u) k (x, a) → IsNeededBy (label m s e) a → ⊥) → RunWithoutStep m s e run
run_without_step m law s good e can [] ok none free = record { ok = tt; same_trail = λ u. refl }
run_without_step {T} m law s good e can (d ∷ run) ok none free =
    let s1 = after m s e in
    let other : d.0 ≢ e.0 = λ p. cc (subst (λ b. join_if b (s1.now e.0, label m s1 d) (trail m (after m s1 d) run e.0) ≡ [])
    (eq-eqb e.0 d.0 (sym p)) none) in
    let none' : trail m (after m s1 d) run e.0 ≡ [] =
    subst (λ b. join_if b (s1.now e.0, label m s1 d) (trail m (after m s1 d) run e.0) ≡ []) (ne_eqb e.0 d.0 (λ p. other (sym p)))
    none in
    let b = step_can_come_before m law s good e d other can ok.0
    (free d.0 0 (s1.now d.0) (label m s1 d)
    (subst (λ b. At (join_if b (s1.now d.0, label m s1 d) (trail m (after m s1 d) run d.0)) 0 (s1.now d.0, label m s1 d))
    (sym (eq-eqb d.0 d.0 refl)) refl)) in
    let free2 : Clashes m s d e → ⊥ = λ c. b.1 (sym c.0, clash_is_symmetric _ _ c.1) in
    let k : StepUnchanged m s e d = step_unchanged_by_other m law s good e d (λ p. other (sym p)) can b.0 b.1 in
    let k' : StepUnchanged m s d e = step_unchanged_by_other m law s good d e other b.0 can free2 in
    let p : after m s1 d ≡ after m (after m s d) e = steps_commute m law s good e d (λ p. other (sym p)) can b.0 b.1 free2 in
    let z : RunWithoutStep m (after m s d) e run = run_without_step m law (after m s d) (state_invariant_step m law s good d b.0) e k'.can run
    (subst (λ z. IsRun m z run) p ok.1) (subst (λ z. trail m z run e.0 ≡ []) p none')
    (λ u k x a h n. skip_free s1 d run p e u k x a free (subst (λ z. At (trail m z run u) k (x, a)) (sym p) h)
    (subst (λ z. IsNeededBy z a) k'.label_same n)) in
    record {
      ok = (b.0, z.ok);
      same_trail = λ u. ap (join_if (eqb u d.0) (s.now u, label m s d)) (z.same_trail u ∙ ap (λ y. trail m y run u) (sym p))
          ∙ join_same (eqb u d.0) (s.now u, label m s d) (s1.now u, label m s1 d) (trail m (after m s1 d) run u)
          (λ h i. (subst (λ z. s.now z ≡ s1.now z) (sym (eqb-true u d.0 h)) (sym k.now_same) i, sym k.label_same i));
    }
  where
    join_same : {A : Type 0} (b : Bool) (x y : A) (xs : List A) → (b ≡ true → x ≡ y) → join_if b x xs ≡ join_if b y xs
    join_same true x y xs h = ap (λ z. z ∷ xs) (h refl)
    join_same false x y xs h = refl

    at_later : {A : Type 0} (b : Bool) (x y : A) (xs : List A) (k : ℕ) → At xs k y → (j : ℕ) × At (join_if b x xs) j y
    at_later true x y xs k h = (suc k, h)
    at_later false x y xs k h = (k, h)

    skip_free : (s1 : State T) (d : Step) (run : List Step) {s2 : State T} → after m s1 d ≡ s2 → (e : Step) (u k : ℕ) (x : T) (a : Label)
        → ((u k : ℕ) (x : T) (a : Label) → At (trail m s1 (d ∷ run) u) k (x, a) → IsNeededBy (label m s e) a → ⊥)
        → At (trail m (after m s1 d) run u) k (x, a) → IsNeededBy (label m s e) a → ⊥
    skip_free s1 d run p e u k x a free h n = let j =
        at_later (eqb u d.0) (s1.now u, label m s1 d) (x, a) (trail m (after m s1 d) run u) k h in free u j.0 x a j.1 n
