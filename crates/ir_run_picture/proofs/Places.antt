-- At which place a run takes each step of a thread.
use Rattle.std.proofs.Common.{◌≡◌, ◌≢◌, ℕ, zero, suc, ◌+◌, ◌<◌, ◌≤◌, inl, inr, Bool, true, false, cond, eqb, List, [], ◌∷◌, ◌++◌, length, take, drop, refl, sym, ap, ◌∙◌, arith, ne_eqb}
use Rattle.std.proofs.lemmas.Bool.{cases_eq, false≢true}
use Rattle.ir_runs.specs.Machine.{Machine}
use Rattle.ir_runs.specs.Run.{State, Step, label, after, join_if, trail, count}

-- the place of step k, where the next step is one of the thread's or isn't, and f gives the places behind it
abbrev pub place_behind : Bool → (ℕ → ℕ) → ℕ → ℕ
place_behind true f zero = 0
place_behind true f (suc k) = suc (f k)
place_behind false f k = suc (f k)

-- the place of step k of thread t; steps that the thread doesn't take follow
abbrev pub place_in : List Step → ℕ → ℕ → ℕ
place_in [] t k = k
place_in (e ∷ run) t k = place_behind (eqb t e.0) (λ j. place_in run t j) k

-- how many steps the thread takes
abbrev pub taken_in : List Step → ℕ → ℕ
taken_in [] t = 0
taken_in (e ∷ run) t = cond (eqb t e.0) 1 0 + taken_in run t

length-join_if : {X : Type 0} (b : Bool) (x : X) (xs : List X) → length (join_if b x xs) ≡ cond b 1 0 + length xs
length-join_if true x xs = omega arith
length-join_if false x xs = omega arith

pub count_is_taken_in : {T : Type 0} (m : Machine T) (s : State T) (run : List Step) (t : ℕ) → count m s run t ≡ taken_in run t
count_is_taken_in m s [] t = refl
count_is_taken_in m s (e ∷ run) t =
    let here = length-join_if (eqb t e.0) (s.now t, label m s e) (trail m (after m s e) run t) in
    let rest = count_is_taken_in m (after m s e) run t in
    omega (arith, here, rest)

-- ---- a thread's steps come one after the other

place_behind_rises : (b : Bool) (f : ℕ → ℕ) → ((j k : ℕ) → j < k → f j < f k) → (j k : ℕ) → j < k → place_behind b f j < place_behind b f k
place_behind_rises true f up j zero less = absurd (omega (arith, less))
place_behind_rises true f up zero (suc k) less = omega arith
place_behind_rises true f up (suc j) (suc k) less = let rest = up j k (omega (arith, less)) in omega (arith, rest)
place_behind_rises false f up j k less = let rest = up j k less in omega (arith, rest)

pub place_in_rises : (run : List Step) (t j k : ℕ) → j < k → place_in run t j < place_in run t k
place_in_rises [] t j k less = less
place_in_rises (e ∷ run) t j k less = place_behind_rises (eqb t e.0) (λ i. place_in run t i) (place_in_rises run t) j k less

pub place_in_monotone : (run : List Step) (t j k : ℕ) → j ≤ k → place_in run t j ≤ place_in run t k
place_in_monotone run t j k low = elim (cases_eq j k) [
  | inl same ↦ let equal = ap (place_in run t) same in omega (arith, equal)
  | inr ne ↦ let rise = place_in_rises run t j k (omega (arith, low, ne)) in omega (arith, rise)
]

-- ---- steps of different threads have different places

place_behind_apart : (a b : Bool) (f g : ℕ → ℕ) (m n : ℕ) → (a ≡ true → b ≡ true → ⊥) → ((j k : ℕ) → j < m → k < n → f j ≡ g k → ⊥) → (j k : ℕ)
    → j < cond a 1 0 + m → k < cond b 1 0 + n → place_behind a f j ≡ place_behind b g k → ⊥
place_behind_apart true true f g m n other rest j k jm kn same = other refl refl
place_behind_apart true false f g m n other rest zero k jm kn same = omega (arith, same)
place_behind_apart true false f g m n other rest (suc j) k jm kn same = rest j k (omega (arith, jm)) (omega (arith, kn)) (omega (arith, same))
place_behind_apart false true f g m n other rest j zero jm kn same = omega (arith, same)
place_behind_apart false true f g m n other rest j (suc k) jm kn same = rest j k (omega (arith, jm)) (omega (arith, kn)) (omega (arith, same))
place_behind_apart false false f g m n other rest j k jm kn same = rest j k (omega (arith, jm)) (omega (arith, kn)) (omega (arith, same))

pub place_in_apart : (run : List Step) (t u j k : ℕ) → t ≢ u → j < taken_in run t → k < taken_in run u → place_in run t j ≡ place_in run u k → ⊥
place_in_apart [] t u j k ne jm kn same = omega (arith, jm)
place_in_apart (e ∷ run) t u j k ne jm kn same =
    place_behind_apart (eqb t e.0) (eqb u e.0) (λ i. place_in run t i) (λ i. place_in run u i) (taken_in run t) (taken_in run u)
    (λ is_t is_u. ne (eqb_is_eq t e.0 is_t ∙ sym (eqb_is_eq u e.0 is_u))) (λ i l. place_in_apart run t u i l ne) j k jm kn same
  where
    eqb_is_eq : (a b : ℕ) → eqb a b ≡ true → a ≡ b
    eqb_is_eq a b is = elim (cases_eq a b) [
      | inl same ↦ same
      | inr ne ↦ absurd (false≢true (sym (ne_eqb a b ne) ∙ is))
    ]

-- ---- the first steps of a run

place_behind_within : (b : Bool) (f : ℕ → ℕ) (n m : ℕ) → ((k : ℕ) → k < m → f k < n) → (k : ℕ) → k < cond b 1 0 + m → place_behind b f k < suc n
place_behind_within true f n m rest zero less = omega arith
place_behind_within true f n m rest (suc k) less = let low = rest k (omega (arith, less)) in omega (arith, low)
place_behind_within false f n m rest k less = let low = rest k (omega (arith, less)) in omega (arith, low)

pub taken_step_is_within : (run : List Step) (n t k : ℕ) → k < taken_in (take n run) t → place_in run t k < n
taken_step_is_within [] zero t k less = absurd (omega (arith, less))
taken_step_is_within [] (suc n) t k less = absurd (omega (arith, less))
taken_step_is_within (e ∷ run) zero t k less = absurd (omega (arith, less))
taken_step_is_within (e ∷ run) (suc n) t k less =
    place_behind_within (eqb t e.0) (λ i. place_in run t i) n (taken_in (take n run) t) (λ i. taken_step_is_within run n t i) k less

taken_behind_within : (b : Bool) (f : ℕ → ℕ) (n m l : ℕ) → ((k : ℕ) → k < l → f k < n → k < m) → (k : ℕ) → k < cond b 1 0 + l → place_behind b f k < suc n
    → k < cond b 1 0 + m
taken_behind_within true f n m l rest zero within less = omega arith
taken_behind_within true f n m l rest (suc k) within less = let low = rest k (omega (arith, within)) (omega (arith, less)) in omega (arith, low)
taken_behind_within false f n m l rest k within less = let low = rest k (omega (arith, within)) (omega (arith, less)) in omega (arith, low)

pub step_within_is_taken : (run : List Step) (n t k : ℕ) → k < taken_in run t → place_in run t k < n → k < taken_in (take n run) t
step_within_is_taken [] n t k within less = absurd (omega (arith, within))
step_within_is_taken (e ∷ run) zero t k within less = absurd (omega (arith, less))
step_within_is_taken (e ∷ run) (suc n) t k within less =
    taken_behind_within (eqb t e.0) (λ i. place_in run t i) n (taken_in (take n run) t) (taken_in run t) (λ i. step_within_is_taken run n t i) k within less

-- a run is its first steps, and the rest
pub run_is_take_and_drop : {X : Type 0} (run : List X) (n : ℕ) → take n run ++ drop n run ≡ run
run_is_take_and_drop [] zero = refl
run_is_take_and_drop [] (suc n) = refl
run_is_take_and_drop (x ∷ run) zero = refl
run_is_take_and_drop (x ∷ run) (suc n) = ap (λ z. x ∷ z) (run_is_take_and_drop run n)
