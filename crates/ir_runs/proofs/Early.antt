-- What a step needs comes before it in the run.
-- what a leave emits of the object
use Rattle.std.proofs.Common.{◌≡◌, ◌≢◌, ℕ, suc, zero, ◌<◌, Bool, true, false, cond, eqb, List, [], ◌∷◌, Some, None, refl, sym, ap, ◌∙◌, subst, arith, inl, inr, ◌⊎◌, eq-eqb}
use Rattle.std.proofs.lemmas.Bool.{cases_eq, eqb-true}
use Rattle.ir_runs.specs.Machine.{Act, Silent, Replied, Entered, TryFailed, Left, Got, Stored, Never, Machine, Object, target, emitted, Label, LeftAt}
use Rattle.ir_runs.specs.Lawful.{IsLawful}
use Rattle.ir_runs.specs.declared.access.Access.{Access}
use Rattle.ir_runs.specs.declared.access.Access.TheVariants.{Reading, Writing}
use Rattle.ir_runs.proofs.Tables.{upd_at_own_place}
use Rattle.ir_runs.specs.Run.{act, State, Step, Can, after, label, IsRun, join_if, trail, At, Emits, IsNeededBy, Cut, Consistent}
use Rattle.ir_runs.proofs.Good.{InsideForAct, StateInvariant, state_invariant_step, inside_for_act_of_step}
use Rattle.ir_runs.proofs.Pull.{target_object_step}
use Rattle.ir_runs.proofs.Ratchet.{TakenStep, step_of_trail_was_taken, WritesOrPast, writes_or_past_is_kept, VersionAtLeast, version_bound_kept}

-- the cut after the first i steps of the run
abbrev pub moment : List Step → ℕ → Cut
moment run zero t = 0
moment [] (suc i) t = 0
moment (e ∷ run) (suc i) t = cond (eqb t e.0) (suc (moment run i t)) (moment run i t)

pub record Leaving (b : Object) (o : ℕ) (a : Access) (v : ℕ) (q : Act) : Type 0 where
  pub does : q ≡ Left o a
  pub version : b.version ≡ v

emitted_leave_is_leaving : (q : Act) (b : Object) (o : ℕ) (a : Access) (v : ℕ) → emitted q b ≡ LeftAt o a v → Leaving b o a v q
emitted_leave_is_leaving Silent b o a v h = absurd (cc h)
emitted_leave_is_leaving (TryFailed _) b o a v h = absurd (cc h)
emitted_leave_is_leaving (Replied k x) b o a v h = absurd (cc h)
emitted_leave_is_leaving (Entered p Reading x) b o a v h = absurd (cc h)
emitted_leave_is_leaving (Entered p Writing x) b o a v h = absurd (cc h)
emitted_leave_is_leaving (Left p c) b o a v h = record { does = cc h; version = cc h }
emitted_leave_is_leaving (Got p j) b o a v h = absurd (cc h)
emitted_leave_is_leaving (Stored p j w) b o a v h = absurd (cc h)
emitted_leave_is_leaving Never b o a v h = absurd (cc h)

-- a leave that was taken, as the object saw it
pub record TakenLeave (R : Object → Type 0) (o : ℕ) (a : Access) (v t : ℕ) : Type 0 where
  pub object : Object
  pub kept : R object
  pub inside : object.inside t ≡ Some a
  pub exclusive : (u : ℕ) → u ≢ t → object.inside u ≡ Some Writing → object.inside t ≡ None
  pub version : object.version ≡ v

taken_leave_saw_object : {T : Type 0} (m : Machine T) → IsLawful m → (R : Object → Type 0) (o : ℕ) (a : Access) (v t : ℕ) → TakenStep m R o t (LeftAt o a v)
    → TakenLeave R o a v t
taken_leave_saw_object m law R o a v t k =
    let q : Act = act m k.state k.step in
    let e : Leaving (k.state.objects (target q)) o a v q = emitted_leave_is_leaving q (k.state.objects (target q)) o a v k.emits in
    record {
      object = k.state.objects o;
      kept = k.kept;
      inside = subst (λ z. (k.state.objects o).inside z ≡ Some a) k.who
          (subst (λ z. InsideForAct z ((k.state.objects (target z)).inside k.step.0)) e.does (inside_for_act_of_step m law k.state k.good k.step));
      exclusive = λ u ne w. k.good.exclusive o u t ne w;
      version = ap (λ z. (k.state.objects (target z)).version) (sym e.does) ∙ e.version;
    }

no_leave_before_entry : {T : Type 0} (m : Machine T) → IsLawful m → (s : State T) → StateInvariant m s → (e : Step) → Can m s e → (run : List Step)
    → IsRun m (after m s e) run → (u j : ℕ) (x : T) (p o : ℕ) (a : Access) (w ans : ℕ) → act m s e ≡ Entered o a ans
    → At (trail m (after m s e) run u) j (x, LeftAt p Writing w) → (p ≡ o) × ((s.objects o).version ≡ suc w) → ⊥
no_leave_before_entry m law s good e can run ok u j x p o a w ans is h n =
    let k : TakenLeave (VersionAtLeast (suc w)) o Writing w u = taken_leave_saw_object m law (VersionAtLeast (suc w)) o Writing w u
    (step_of_trail_was_taken m law (VersionAtLeast (suc w)) (version_bound_kept m (suc w)) (after m s e) (state_invariant_step m law s good e can) run ok o
    (omega (arith, ap (λ z. z.version) (target_object_step m s e (Entered o a ans) is), n.1))
    u j x (LeftAt o Writing w) (subst (λ z. At (trail m (after m s e) run u) j (x, LeftAt z Writing w)) n.0 h)) in
    omega (arith, k.kept, k.version)

-- nothing that a step needs comes after it
pub needed_is_not_later : {T : Type 0} (m : Machine T) → IsLawful m → (s : State T) → StateInvariant m s → (e : Step) → Can m s e → (run : List Step)
    → IsRun m (after m s e) run → (u j : ℕ) (x : T) (b : Label) (q : Act) → act m s e ≡ q
    → At (trail m (after m s e) run u) j (x, b) → IsNeededBy b (emitted q (s.objects (target q))) → ⊥
needed_is_not_later m law s good e can run ok u j x (LeftAt p Writing w) (Entered o Reading ans) is h n =
    no_leave_before_entry m law s good e can run ok u j x p o Reading w ans is h n
needed_is_not_later m law s good e can run ok u j x (LeftAt p Writing w) (Entered o Writing ans) is h n =
    no_leave_before_entry m law s good e can run ok u j x p o Writing w ans is h n
needed_is_not_later m law s good e can run ok u j x (LeftAt p Reading w) (Entered o Writing ans) is h n =
    let k : TakenLeave (WritesOrPast w e.0) o Reading w u = taken_leave_saw_object m law (WritesOrPast w e.0) o Reading w u
    (step_of_trail_was_taken m law (WritesOrPast w e.0) (writes_or_past_is_kept m w e.0) (after m s e) (state_invariant_step m law s good e can) run ok o
    (inr (
      ap (λ z. z.version) (target_object_step m s e (Entered o Writing ans) is)
          ∙ n.1,
      ap (λ z. z.inside e.0) (target_object_step m s e (Entered o Writing ans) is) ∙ upd_at_own_place (s.objects o).inside e.0 (Some Writing),
    ))
    u j x (LeftAt o Reading w) (subst (λ z. At (trail m (after m s e) run u) j (x, LeftAt z Reading w)) n.0 h)) in
    elim k.kept [
      | inl l ↦ omega (arith, l, k.version)
      | inr g ↦ elim (cases_eq e.0 u)
          [ inl same ↦ cc (ap k.object.inside same, g.1, k.inside) | inr other ↦ cc (k.exclusive e.0 other g.1, k.inside) ]
    ]
needed_is_not_later m law s good e can run ok u j x (LeftAt p Reading w) _ is h n = absurd n
needed_is_not_later m law s good e can run ok u j x (LeftAt p Writing w) _ is h n = absurd n
needed_is_not_later m law s good e can run ok u j x _ _ is h n = absurd n

-- where a step of a run is
pub record PlacedLater {T : Type 0} (m : Machine T) (s : State T) (e : Step) (run : List Step) (t k : ℕ) (a : Label) : Type 0 where
  pub place : ℕ
  pub is : k ≡ cond (eqb t e.0) (suc place) place
  pub emits : Emits m (after m s e) run t place a

at_join_if_cases : {A : Type 0} (b : Bool) (x y : A) (xs : List A) (k : ℕ) → At (join_if b x xs) k y → ((b ≡ true) × (k ≡ 0) × (x ≡ y))
    ⊎ ((j : ℕ) × (k ≡ cond b (suc j) j) × At xs j y)
at_join_if_cases true x y xs zero h = inl (refl, refl, h)
at_join_if_cases true x y xs (suc k) h = inr (k, refl, h)
at_join_if_cases false x y xs k h = inr (k, refl, h)

pub emits_of_cons_cases : {T : Type 0} (m : Machine T) (s : State T) (e : Step) (run : List Step) (t k : ℕ) (a : Label) → Emits m s (e ∷ run) t k a
    → ((t ≡ e.0) × (k ≡ 0) × (a ≡ label m s e)) ⊎ PlacedLater m s e run t k a
emits_of_cons_cases m s e run t k a h = elim (at_join_if_cases (eqb t e.0) (s.now t, label m s e) (h.0, a) (trail m (after m s e) run t) k h.1) [
  | inl p ↦ inl (eqb-true t e.0 p.0, p.1, sym (ap (λ z. z.1) p.2))
  | inr p ↦ inr (record { place = p.0; is = p.1; emits = (h.0, p.2) })
]

pub suc_if_keeps_less : (b : Bool) (k n : ℕ) → k < n → cond b (suc k) k < cond b (suc n) n
suc_if_keeps_less true k n h = let g : suc k < suc n = omega arith in g
suc_if_keeps_less false k n h = h

pub suc_if_reflects_less : (b : Bool) (k n : ℕ) → cond b (suc k) k < cond b (suc n) n → k < n
suc_if_reflects_less true k n h = let g : suc k < suc n = h in omega arith
suc_if_reflects_less false k n h = h

-- each moment of the run is a consistent cut
pub moment_is_consistent : {T : Type 0} (m : Machine T) → IsLawful m → (s : State T) → StateInvariant m s → (run : List Step) → IsRun m s run → (i : ℕ)
    → Consistent m s run (moment run i)
moment_is_consistent m law s good run ok zero t k u j a b h g n l = absurd (omega arith)
moment_is_consistent m law s good [] ok (suc i) t k u j a b h g n l = absurd h.1
moment_is_consistent m law s good (e ∷ run) ok (suc i) t k u j a b h g n l = elim (emits_of_cons_cases m s e run u j b g) [
  | inl p ↦ subst (λ z. z < cond (eqb u e.0) (suc (moment run i u)) (moment run i u)) (sym p.1)
      (subst (λ z. 0 < cond z (suc (moment run i u)) (moment run i u)) (sym (eq-eqb u e.0 p.0)) (zero_less (moment run i u)))
  | inr p ↦ elim (emits_of_cons_cases m s e run t k a h) [
    | inl c ↦ absurd (needed_is_not_later m law s good e ok.0 run ok.1 u p.place p.emits.0 b (act m s e) refl p.emits.1 (subst (IsNeededBy b) c.2 n))
    | inr c ↦ subst (λ z. z < cond (eqb u e.0) (suc (moment run i u)) (moment run i u)) (sym p.is)
        (suc_if_keeps_less (eqb u e.0) p.place (moment run i u)
        (moment_is_consistent m law (after m s e) (state_invariant_step m law s good e ok.0) run ok.1 i t c.place u p.place a b c.emits p.emits n
        (suc_if_reflects_less (eqb t e.0) c.place (moment run i t)
        (subst (λ z. z < cond (eqb t e.0) (suc (moment run i t)) (moment run i t)) c.is l))))
  ]
]
  where
    zero_less : (n : ℕ) → 0 < suc n
    zero_less n = omega arith
