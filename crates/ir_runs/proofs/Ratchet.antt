-- What stays once it holds of an object, and what it says of the steps after.
-- once it holds of an object, it holds after each step
use Rattle.std.proofs.Common.{◌≡◌, ◌≢◌, ℕ, suc, zero, ◌<◌, ◌≤◌, Bool, true, false, eqb, List, [], ◌∷◌, Some, None, refl, sym, ap, ◌∙◌, subst, arith, inl, inr, ◌⊎◌}
use Rattle.std.proofs.lemmas.Bool.{cases_eq, eqb-true}
use Rattle.ir_runs.specs.Machine.{Act, Silent, Replied, Entered, TryFailed, Left, Got, Stored, Never, Machine, upd, Object, target, Admits, acted, emitted, Label, EnteredAt}
use Rattle.ir_runs.specs.Lawful.{IsLawful}
use Rattle.ir_runs.specs.declared.access.Access.{Access}
use Rattle.ir_runs.specs.declared.access.Access.TheVariants.{Reading, Writing}
use Rattle.ir_runs.proofs.Tables.{upd_at_other_place, upd_by_cases}
use Rattle.ir_runs.specs.Run.{act, State, Step, Can, after, label, IsRun, join_if, trail, At}
use Rattle.ir_runs.proofs.Good.{Exclusive, InsideForAct, StateInvariant, inside_for_act_of_step, state_invariant_step}

abbrev pub IsKeptByActs : {T : Type 0} → Machine T → (Object → Type 0) → Type 0
IsKeptByActs m R = (b : Object) (t : ℕ) (q : Act) → Exclusive b → InsideForAct q (b.inside t) → Admits m q b → R b → R (acted q t b)

pub property_kept_by_step : {T : Type 0} (m : Machine T) → IsLawful m → (R : Object → Type 0) → IsKeptByActs m R → (s : State T) → StateInvariant m s → (e : Step)
    → Can m s e → (o : ℕ) → R (s.objects o) → R ((after m s e).objects o)
unfolding after
property_kept_by_step m law R kept s good e can o here =
    let q : Act = act m s e in
    upd_by_cases s.objects (target q) (acted q e.0 (s.objects (target q))) o R
    (λ p. kept (s.objects (target q)) e.0 q (good.exclusive _) (inside_for_act_of_step m law s good e) can (subst (λ z. R (s.objects z)) p here))
    (λ _. here)

-- a step of the run, in its state
pub record TakenStep {T : Type 0} (m : Machine T) (R : Object → Type 0) (o t : ℕ) (k : Label) : Type 0 where
  pub state : State T
  pub good : StateInvariant m state
  pub step : Step
  pub can : Can m state step
  pub who : step.0 ≡ t
  pub emits : label m state step ≡ k
  pub kept : R (state.objects o)

pub at_of_join_if_cases : {A : Type 0} (b : Bool) (x y : A) (xs : List A) (k : ℕ) → At (join_if b x xs) k y → ((b ≡ true) × (x ≡ y))
    ⊎ ((j : ℕ) × At xs j y)
at_of_join_if_cases true x y xs zero h = inl (refl, h)
at_of_join_if_cases true x y xs (suc k) h = inr (k, h)
at_of_join_if_cases false x y xs k h = inr (k, h)

pub step_of_trail_was_taken : {T : Type 0} (m : Machine T) → IsLawful m → (R : Object → Type 0) → IsKeptByActs m R → (s : State T) → StateInvariant m s → (run : List Step)
    → IsRun m s run → (o : ℕ) → R (s.objects o)
    → (t k : ℕ) (x : T) (μ : Label) → At (trail m s run t) k (x, μ) → TakenStep m R o t μ
step_of_trail_was_taken m law R kept s good [] ok o here t k x μ h = absurd h
step_of_trail_was_taken m law R kept s good (e ∷ run) ok o here t k x μ h =
    elim (at_of_join_if_cases (eqb t e.0) (s.now t, label m s e) (x, μ) (trail m (after m s e) run t) k h) [
      | inl p ↦ record { state = s; good = good; step = e; can = ok.0; who = sym (eqb-true t e.0 p.0); emits = ap (λ z. z.1) p.1; kept = here }
      | inr p ↦ step_of_trail_was_taken m law R kept (after m s e) (state_invariant_step m law s good e ok.0) run ok.1 o (property_kept_by_step m law R kept s good e ok.0 o here) t p.0
          x μ p.1
    ]

-- the version has passed v, or u writes at v
abbrev pub WritesOrPast : ℕ → ℕ → Object → Type 0
WritesOrPast v u b = (v < b.version) ⊎ ((b.version ≡ v) × (b.inside u ≡ Some Writing))

-- the version has passed v, or more than l have left at v, or u is to do so
abbrev pub ReadsOrPast : ℕ → ℕ → ℕ → Object → Type 0
ReadsOrPast v l u b = (v < b.version) ⊎ ((b.version ≡ v) × ((l < b.left) ⊎ ((b.left ≡ l) × (b.inside u ≡ Some Reading))))

abbrev pub VersionAtLeast : ℕ → Object → Type 0
VersionAtLeast v b = v ≤ b.version

pub version_bound_kept : {T : Type 0} (m : Machine T) (v : ℕ) → IsKeptByActs m (VersionAtLeast v)
version_bound_kept m v b t Silent ex i h l = l
version_bound_kept m v b t (TryFailed _) ex i h l = l
version_bound_kept m v b t (Replied k res) ex i h l = l
version_bound_kept m v b t (Entered o a ans) ex i h l = l
version_bound_kept m v b t (Left o Reading) ex i h l = l
version_bound_kept m v b t (Left o Writing) ex i h l = omega arith
version_bound_kept m v b t (Got o j) ex i h l = l
version_bound_kept m v b t (Stored o j w) ex i h l = l
version_bound_kept m v b t Never ex i h l = l

inside_kept_by_entry : (b : Object) (t u : ℕ) (a c : Access) → b.inside t ≡ None → b.inside u ≡ Some c → upd b.inside t (Some a) u ≡ Some c
inside_kept_by_entry b t u a c i w = elim (cases_eq u t)
    [ inl e ↦ absurd (cc (ap b.inside e, i, w)) | inr ne ↦ upd_at_other_place b.inside t u (Some a) ne ∙ w ]

inside_kept_by_leave : (b : Object) (t u : ℕ) (c : Access) → u ≢ t → b.inside u ≡ Some c → upd b.inside t None u ≡ Some c
inside_kept_by_leave b t u c ne w = upd_at_other_place b.inside t u None ne ∙ w

pub writes_or_past_is_kept : {T : Type 0} (m : Machine T) (v u : ℕ) → IsKeptByActs m (WritesOrPast v u)
writes_or_past_is_kept m v u b t Silent ex i h l = l
writes_or_past_is_kept m v u b t (TryFailed _) ex i h l = l
writes_or_past_is_kept m v u b t (Replied k res) ex i h l = l
writes_or_past_is_kept m v u b t (Entered o a ans) ex i h l = elim l [ inl p ↦ inl p | inr p ↦ inr (p.0, inside_kept_by_entry b t u a Writing i p.1) ]
writes_or_past_is_kept m v u b t (Left o Reading) ex i h l =
    elim l [
      | inl p ↦ inl p
      | inr p ↦ elim (cases_eq u t)
          [ inl e ↦ absurd (cc (ap b.inside e, i, p.1)) | inr ne ↦ inr (p.0, inside_kept_by_leave b t u Writing ne p.1) ]
    ]
writes_or_past_is_kept m v u b t (Left o Writing) ex i h l = elim l [ inl p ↦ inl (omega arith) | inr p ↦ inl (omega (arith, p.0)) ]
writes_or_past_is_kept m v u b t (Got o j) ex i h l = l
writes_or_past_is_kept m v u b t (Stored o j w) ex i h l = l
writes_or_past_is_kept m v u b t Never ex i h l = l

pub reads_or_past_is_kept : {T : Type 0} (m : Machine T) (v l u : ℕ) → IsKeptByActs m (ReadsOrPast v l u)
reads_or_past_is_kept m v l u b t Silent ex i h k = k
reads_or_past_is_kept m v l u b t (TryFailed _) ex i h k = k
reads_or_past_is_kept m v l u b t (Replied _ res) ex i h k = k
reads_or_past_is_kept m v l u b t (Entered o a ans) ex i h k =
    elim k [
      | inl p ↦ inl p
      | inr p ↦ elim p.1 [
        | inl less ↦ inr (p.0, inl less)
        | inr g ↦ inr
            (p.0, inr (g.0, inside_kept_by_entry b t u a Reading i g.1))
      ]
    ]
reads_or_past_is_kept m v l u b t (Left o Reading) ex i h k =
    elim k [ inl p ↦ inl p | inr p ↦ elim p.1 [ inl less ↦ inr (p.0, inl (omega arith)) | inr g ↦ inr (p.0, inl (omega (arith, g.0))) ] ]
reads_or_past_is_kept m v l u b t (Left o Writing) ex i h k = elim k [ inl p ↦ inl (omega arith) | inr p ↦ inl (omega (arith, p.0)) ]
reads_or_past_is_kept m v l u b t (Got o j) ex i h k = k
reads_or_past_is_kept m v l u b t (Stored o j w) ex i h k = k
reads_or_past_is_kept m v l u b t Never ex i h k = k

-- what an entry emits of the object
pub record Entering {T : Type 0} (m : Machine T) (b : Object) (o : ℕ) (a : Access) (v l : ℕ) (q : Act) : Type 0 where
  pub answer : ℕ
  pub does : q ≡ Entered o a answer
  pub version : b.version ≡ v
  pub left : a ≡ Writing → b.left ≡ l

pub emitted_entry_is_entering : {T : Type 0} (m : Machine T) (q : Act) (b : Object) (o : ℕ) (a : Access) (v l : ℕ) → emitted q b ≡ EnteredAt o a v l
    → Entering m b o a v l q
emitted_entry_is_entering m Silent b o a v l h = absurd (cc h)
emitted_entry_is_entering m (TryFailed _) b o a v l h = absurd (cc h)
emitted_entry_is_entering m (Replied k x) b o a v l h = absurd (cc h)
emitted_entry_is_entering m (Entered p Reading x) b o a v l h = record { answer = x; does = cc h; version = cc h; left = λ w. absurd (cc (h, w)) }
emitted_entry_is_entering m (Entered p Writing x) b o a v l h = record { answer = x; does = cc h; version = cc h; left = λ w. cc h }
emitted_entry_is_entering m (Left p c) b o a v l h = absurd (cc h)
emitted_entry_is_entering m (Got p j) b o a v l h = absurd (cc h)
emitted_entry_is_entering m (Stored p j w) b o a v l h = absurd (cc h)
emitted_entry_is_entering m Never b o a v l h = absurd (cc h)
