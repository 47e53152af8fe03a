-- The part of a run that is in a consistent cut is a run, with the same threads.
use Rattle.std.proofs.Common.{◌≡◌, ℕ, suc, zero, pred, ◌<◌, Bool, true, false, cond, eqb, List, [], ◌∷◌, take, refl, sym, ap, ◌∙◌, subst, arith, inl, inr, eq-eqb}
use Rattle.std.proofs.lemmas.Bool.{eqb-true, cases_lt, lt-ltb, le-ltb}
use Rattle.ir_runs.specs.Machine.{Machine, Label}
use Rattle.ir_runs.specs.Lawful.{IsLawful}
use Rattle.ir_runs.specs.Run.{State, Step, Can, after, label, IsRun, join_if, trail, At, Emits, Cut, Consistent, part}
use Rattle.ir_runs.specs.Bounds.{lower}
use Rattle.ir_runs.proofs.Good.{StateInvariant, state_invariant_step}
use Rattle.ir_runs.proofs.Back.{RunWithoutStep, run_without_step}

at_join_if_shifted : {A : Type 0} (b : Bool) (x y : A) (xs : List A) (k : ℕ) → At xs k y → At (join_if b x xs) (cond b (suc k) k) y
at_join_if_shifted true x y xs k h = h
at_join_if_shifted false x y xs k h = h

-- a step after the first
pub emits_cons_later : {T : Type 0} (m : Machine T) (s : State T) (e : Step) (run : List Step) (t k : ℕ) (a : Label) → Emits m (after m s e) run t k a
    → Emits m s (e ∷ run) t (cond (eqb t e.0) (suc k) k) a
emits_cons_later m s e run t k a h = (h.0, at_join_if_shifted (eqb t e.0) (s.now t, label m s e) (h.0, a) (trail m (after m s e) run t) k h.1)

-- the first step
pub emits_first_label : {T : Type 0} (m : Machine T) (s : State T) (e : Step) (run : List Step) → Emits m s (e ∷ run) e.0 0 (label m s e)
emits_first_label m s e run = (
  s.now e.0,
  subst (λ b. At (join_if b (s.now e.0, label m s e) (trail m (after m s e) run e.0)) 0
      (s.now e.0, label m s e)) (sym (eq-eqb e.0 e.0 refl)) refl,
)

pub raised_place_below : (b : Bool) (k n : ℕ) → k < cond b (pred n) n → cond b (suc k) k < n
raised_place_below true k n h = let h' : k < pred n = h in let g : suc k < n = omega arith in g
raised_place_below false k n h = h

lowered_place_above : (b : Bool) (k n : ℕ) → cond b (suc k) k < n → k < cond b (pred n) n
lowered_place_above true k n h = let h' : suc k < n = h in let g : k < pred n = omega arith in g
lowered_place_above false k n h = h

pub consistent_after_first : {T : Type 0} (m : Machine T) (s : State T) (e : Step) (run : List Step) (p : Cut) → Consistent m s (e ∷ run) p
    → Consistent m (after m s e) run (lower p e.0)
consistent_after_first m s e run p c t k u j a b h i n l =
    lowered_place_above (eqb u e.0) j (p u) (c t (cond (eqb t e.0) (suc k) k) u (cond (eqb u e.0) (suc j) j) a b (emits_cons_later m s e run t k a h)
    (emits_cons_later m s e run u j b i) n (raised_place_below (eqb t e.0) k (p t) l))

at_of_take_is_below : {A : Type 0} (n : ℕ) (xs : List A) (k : ℕ) (x : A) → At (take n xs) k x → (k < n) × At xs k x
at_of_take_is_below zero xs k x h = absurd h
at_of_take_is_below (suc n) [] k x h = absurd h
at_of_take_is_below (suc n) (y ∷ xs) zero x h = (omega arith, h)
at_of_take_is_below (suc n) (y ∷ xs) (suc k) x h = let z : (k < n) × At xs k x = at_of_take_is_below n xs k x h in (omega (arith, z.0), z.1)

take_of_join_if : {A : Type 0} (b : Bool) (n : ℕ) (x : A) (xs : List A) → (b ≡ true → 0 < n)
    → join_if b x (take (cond b (pred n) n) xs) ≡ take n (join_if b x xs)
take_of_join_if true zero x xs h = absurd (omega (arith, h refl))
take_of_join_if true (suc n) x xs h = refl
take_of_join_if false n x xs h = refl

take_join_if_at_zero : {A : Type 0} (b : Bool) (n : ℕ) (x : A) (xs : List A) → (b ≡ true → n ≡ 0)
    → take (cond b (pred n) n) xs ≡ take n (join_if b x xs)
take_join_if_at_zero true zero x xs h = refl
take_join_if_at_zero true (suc n) x xs h = absurd (omega (arith, h refl))
take_join_if_at_zero false n x xs h = refl

-- what the part is
pub record PartIsRun {T : Type 0} (m : Machine T) (s : State T) (run : List Step) (p : Cut) : Type 0 where
  pub ok : IsRun m s (part run p)
  pub same_trail : (u : ℕ) → trail m s (part run p) u ≡ take (p u) (trail m s run u)

part_with_first_is_run : {T : Type 0} (m : Machine T) (s : State T) (e : Step) (run : List Step) (p : Cut) → Can m s e → 0 < p e.0
    → PartIsRun m (after m s e) run (lower p e.0) → PartIsRun m s (e ∷ run) p
part_with_first_is_run m s e run p can l z = subst (λ b. (x : IsRun m s (join_if b e (part run (lower p e.0))))
    → ((u : ℕ) → trail m s (join_if b e (part run (lower p e.0))) u ≡ take (p u) (trail m s (e ∷ run) u)) → PartIsRun m s (e ∷ run) p)
    (lt-ltb 0 (p e.0) l) (λ x y. record { ok = x; same_trail = y })
    (can, z.ok)
    (λ u. ap (join_if (eqb u e.0) (s.now u, label m s e)) (z.same_trail u)
    ∙ take_of_join_if (eqb u e.0) (p u) (s.now u, label m s e) (trail m (after m s e) run u)
    (λ h. subst (λ y. 0 < p y) (sym (eqb-true u e.0 h)) l))

take_zero : {A : Type 0} (n : ℕ) (xs : List A) → n ≡ 0 → take n xs ≡ []
take_zero zero xs h = refl
take_zero (suc n) xs h = absurd (omega arith)

part_without_first_run : {T : Type 0} (m : Machine T) → IsLawful m → (s : State T) → StateInvariant m s → (e : Step) (run : List Step) (p : Cut) → Can m s e
    → p e.0 ≡ 0 → Consistent m s (e ∷ run) p → PartIsRun m (after m s e) run (lower p e.0) → PartIsRun m s (e ∷ run) p
part_without_first_run m law s good e run p can l c z =
    let low : Cut = lower p e.0 in
    let k : RunWithoutStep m s e (part run low) = run_without_step m law s good e can (part run low) z.ok
    (z.same_trail e.0 ∙ take_zero (low e.0) (trail m (after m s e) run e.0)
    (subst (λ b. cond b (pred (p e.0)) (p e.0) ≡ 0) (sym (eq-eqb e.0 e.0 refl)) (ap pred l)))
    (λ u k x a h n. let w = at_of_take_is_below (low u) (trail m (after m s e) run u) k (x, a) (subst (λ y. At y k (x, a)) (z.same_trail u) h) in
    not_less (p e.0) l (c u (cond (eqb u e.0) (suc k) k) e.0 0 a (label m s e) (emits_cons_later m s e run u k a (x, w.1)) (emits_first_label m s e run) n
    (raised_place_below (eqb u e.0) k (p u) w.0))) in
    subst (λ b. IsRun m s (join_if b e (part run low))
    → ((u : ℕ) → trail m s (join_if b e (part run low)) u ≡ take (p u) (trail m s (e ∷ run) u)) → PartIsRun m s (e ∷ run) p)
    (le-ltb 0 (p e.0) (omega arith)) (λ x y. record { ok = x; same_trail = y })
    k.ok
    (λ u. k.same_trail u ∙ z.same_trail u ∙ take_join_if_at_zero (eqb u e.0) (p u) (s.now u, label m s e) (trail m (after m s e) run u)
    (λ h. ap p (eqb-true u e.0 h) ∙ l))
  where
    not_less : (n : ℕ) → n ≡ 0 → 0 < n → ⊥
    not_less n e h = omega arith

pub consistent_part_is_run : {T : Type 0} (m : Machine T) → IsLawful m → (s : State T) → StateInvariant m s → (run : List Step) → IsRun m s run → (p : Cut)
    → Consistent m s run p → PartIsRun m s run p
consistent_part_is_run m law s good [] ok p c = record { ok = tt; same_trail = λ u. sym (take_nil (p u)) }
  where
    take_nil : (n : ℕ) → take n (trail m s [] 0) ≡ []
    take_nil zero = refl
    take_nil (suc n) = refl
consistent_part_is_run m law s good (e ∷ run) ok p c =
    let z : PartIsRun m (after m s e) run (lower p e.0) =
    consistent_part_is_run m law (after m s e) (state_invariant_step m law s good e ok.0) run ok.1 (lower p e.0) (consistent_after_first m s e run p c) in
    elim (cases_lt 0 (p e.0)) [
      | inl h ↦ part_with_first_is_run m s e run p ok.0 h z
      | inr h ↦ part_without_first_run m law s good e run p ok.0 (omega arith) c z
    ]
