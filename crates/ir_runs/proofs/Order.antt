-- Consistent cuts: the larger and the smaller of two, persistence, progress, least and greatest.
use Rattle.std.proofs.Common.{◌≡◌, ◌≢◌, ℕ, suc, zero, min, max, ◌<◌, ◌≤◌, Bool, true, false, cond, eqb, List, [], ◌∷◌, length, refl, sym, ap, ◌∙◌, subst, arith, inl, inr, ◌⊎◌, eq-eqb, ne_eqb}
use Rattle.std.proofs.lemmas.Bool.{cases_eq, cases_lt}
use Rattle.ir_runs.specs.Machine.{Machine, Label}
use Rattle.ir_runs.specs.Lawful.{IsLawful}
use Rattle.ir_runs.specs.Run.{State, Step, after, label, IsRun, join_if, trail, count, IsLeast, IsGreatest, Cut, IsCut, Consistent}
use Rattle.ir_runs.proofs.Good.{StateInvariant}
use Rattle.ir_runs.proofs.Early.{moment}
use Rattle.ir_runs.proofs.Early.{moment_is_consistent}
use Rattle.ir_runs.specs.Admitted.{further, Admitted}
use Rattle.ir_runs.proofs.Determined.{further_at_own_thread, further_at_other_thread}

pub max_is_consistent : {T : Type 0} (m : Machine T) (s : State T) (run : List Step) (p q : Cut) → Consistent m s run p → Consistent m s run q
    → Consistent m s run (λ t. max (p t) (q t))
max_is_consistent m s run p q cp cq t k u j a b h g n l = elim (cases_lt k (p t)) [
  | inl lt ↦ omega (arith, cp t k u j a b h g n lt)
  | inr ge ↦ omega (arith, cq t k u j a b h g n (omega arith))
]

pub min_is_consistent : {T : Type 0} (m : Machine T) (s : State T) (run : List Step) (p q : Cut) → Consistent m s run p → Consistent m s run q
    → Consistent m s run (λ t. min (p t) (q t))
min_is_consistent m s run p q cp cq t k u j a b h g n l = omega (arith, cp t k u j a b h g n (omega arith), cq t k u j a b h g n (omega arith))

pub equal_cut_is_consistent : {T : Type 0} (m : Machine T) (s : State T) (run : List Step) (p q : Cut) → ((t : ℕ) → p t ≡ q t)
    → Consistent m s run p → Consistent m s run q
equal_cut_is_consistent m s run p q same c t k u j a b h g n l = omega (arith, c t k u j a b h g n (omega (arith, same t)), same u)

-- What was admitted stays so while its thread stays.
pub admitted_persists : {T : Type 0} (m : Machine T) (s : State T) (run : List Step) (p q : Cut) (t : ℕ) → Admitted m s run p t
    → Consistent m s run q → ((u : ℕ) → p u ≤ q u) → q t ≡ p t → Admitted m s run q t
admitted_persists m s run p q t ad cq up same = (
  omega (arith, ad.0),
  equal_cut_is_consistent m s run (λ u. max (further p t u) (q u)) (further q t) (λ u. elim (cases_eq u t) [
    | inl e ↦ at_thread u e
    | inr ne ↦ other u ne
  ])
      (max_is_consistent m s run (further p t) q ad.1 cq),
)
  where
    at_thread : (u : ℕ) → u ≡ t → max (further p t u) (q u) ≡ further q t u
    at_thread u e = rw (eq-eqb u t e) (let a : q u ≡ p u = ap q e ∙ same ∙ ap p (sym e) in let g : max (suc (p u)) (q u) ≡ suc (q u) =
        omega arith in g)

    other : (u : ℕ) → u ≢ t → max (further p t u) (q u) ≡ further q t u
    other u ne = rw (ne_eqb u t ne) (let a : p u ≤ q u = up u in let g : max (p u) (q u) ≡ q u = omega arith in g)

-- one step more
pub data NextMoment (run : List Step) (i : ℕ) : Type 0 where
  Nothing : ((u : ℕ) → moment run (suc i) u ≡ moment run i u) → NextMoment run i
  One : (t : ℕ) → ((u : ℕ) → moment run (suc i) u ≡ further (moment run i) t u) → NextMoment run i

next_moment_moves_one : (run : List Step) (i : ℕ) → NextMoment run i
next_moment_moves_one [] zero = Nothing (λ u. refl)
next_moment_moves_one [] (suc i) = Nothing (λ u. refl)
next_moment_moves_one (e ∷ run) zero = One e.0 (λ u. ap (λ z. cond (eqb u e.0) (suc z) z) (at_zero run u))
  where
    at_zero : (run : List Step) (u : ℕ) → moment run 0 u ≡ 0
    at_zero run u = refl
next_moment_moves_one (e ∷ run) (suc i) = elim (next_moment_moves_one run i) [
  | Nothing h ↦ Nothing (λ u. ap (λ z. cond (eqb u e.0) (suc z) z) (h u))
  | One t h ↦ One t (λ u. ap (λ z. cond (eqb u e.0) (suc z) z) (h u) ∙ twice (eqb u e.0) (eqb u t) (moment run i u))
]
  where
    twice : (b c : Bool) (n : ℕ) → cond b (suc (cond c (suc n) n)) (cond c (suc n) n) ≡ cond c (suc (cond b (suc n) n)) (cond b (suc n) n)
    twice true true n = refl
    twice true false n = refl
    twice false true n = refl
    twice false false n = refl

pub moment_at_length : {T : Type 0} (m : Machine T) (s : State T) (run : List Step) (t : ℕ) → moment run (length run) t ≡ count m s run t
moment_at_length m s [] t = refl
moment_at_length m s (e ∷ run) t = ap (λ z. cond (eqb t e.0) (suc z) z) (moment_at_length m (after m s e) run t)
    ∙ lengthen (eqb t e.0) (s.now t, label m s e) (trail m (after m s e) run t)
  where
    lengthen : {A : Type 0} (b : Bool) (x : A) (xs : List A) → cond b (suc (length xs)) (length xs) ≡ length (join_if b x xs)
    lengthen true x xs = refl
    lengthen false x xs = refl

-- a thread below its target that is admitted
pub record Progress {T : Type 0} (m : Machine T) (s : State T) (run : List Step) (p q : Cut) : Type 0 where
  pub thread : ℕ
  pub below : p thread < q thread
  pub consistent : Consistent m s run (further p thread)

moment_below_or_progress : {T : Type 0} (m : Machine T) → IsLawful m → (s : State T) → StateInvariant m s → (run : List Step) → IsRun m s run → (p q : Cut)
    → Consistent m s run p → Consistent m s run q → (i : ℕ) → ((t : ℕ) → min (q t) (moment run i t) ≤ p t) ⊎ Progress m s run p q
moment_below_or_progress m law s good run ok p q cp cq zero = inl (λ t. omega arith)
moment_below_or_progress m law s good run ok p q cp cq (suc i) = elim (moment_below_or_progress m law s good run ok p q cp cq i) [
  | inr found ↦ inr found
  | inl h ↦ elim (next_moment_moves_one run i) [
    | Nothing same ↦ inl (λ t. omega (arith, h t, same t))
    | One t step ↦ elim (cases_lt (p t) (min (q t) (suc (moment run i t)))) [
      | inl lt ↦ inr (record {
        thread = t;
        below = omega arith;
        consistent = equal_cut_is_consistent m s run (λ u. max (p u) (min (q u) (moment run (suc i) u))) (further p t)
            (λ u. elim (cases_eq u t) [
              | inl e ↦ subst (λ z. max (p z) (min (q z) (moment run (suc i) z)) ≡ further p t z) (sym e)
                  (omega (arith, h t, step t, further_at_own_thread p t, further_at_own_thread (moment run i) t))
              | inr ne ↦ omega (arith, h u, step u, further_at_other_thread p t u ne, further_at_other_thread (moment run i) t u ne)
            ])
            (max_is_consistent m s run p (λ u. min (q u) (moment run (suc i) u)) cp
            (min_is_consistent m s run q (moment run (suc i)) cq (moment_is_consistent m law s good run ok (suc i))));
      })
      | inr ge ↦ inl (λ u. elim (cases_eq u t) [
        | inl e ↦ subst (λ z. min (q z) (moment run (suc i) z) ≤ p z) (sym e) (omega (arith, ge, step t, further_at_own_thread (moment run i) t))
        | inr ne ↦ omega (arith, h u, step u, further_at_other_thread (moment run i) t u ne)
      ])
    ]
  ]
]

-- At a consistent cut below a consistent target some thread below its target is admitted.
pub progress_to_consistent : {T : Type 0} (m : Machine T) → IsLawful m → (s : State T) → StateInvariant m s → (run : List Step) → IsRun m s run → (p q : Cut)
    → Consistent m s run p → Consistent m s run q → IsCut m s run q → (t : ℕ) → p t < q t → Progress m s run p q
progress_to_consistent m law s good run ok p q cp cq cut t lt = elim (moment_below_or_progress m law s good run ok p q cp cq (length run)) [
  | inl h ↦ absurd (omega (arith, h t, moment_at_length m s run t, cut t, lt))
  | inr found ↦ found
]

-- a thread passes each of its positions
pub moment_at_position : {T : Type 0} (m : Machine T) (s : State T) (run : List Step) (t k : ℕ) → k ≤ count m s run t → (i : ℕ) × (moment run i t ≡ k)
moment_at_position m s run t zero h = (0, refl)
moment_at_position m s [] t (suc k) h = absurd (omega arith)
moment_at_position {T} m s (e ∷ run) t (suc k) h = elim (cases_eq t e.0) [
  | inl same ↦ let g = moment_at_position m (after m s e) run t k (inside (eqb t e.0) (eq-eqb t e.0 same) (trail m (after m s e) run t) h) in
      (suc g.0, hit (eqb t e.0) (eq-eqb t e.0 same) (moment run g.0 t) k g.1)
  | inr other ↦ let g = moment_at_position m (after m s e) run t (suc k) (outside (eqb t e.0) (ne_eqb t e.0 other) (trail m (after m s e) run t) h) in
      (suc g.0, miss (eqb t e.0) (ne_eqb t e.0 other) (moment run g.0 t) (suc k) g.1)
]
  where
    hit : (b : Bool) → b ≡ true → (n k : ℕ) → n ≡ k → cond b (suc n) n ≡ suc k
    hit true p n k h = ap suc h
    hit false p n k h = absurd (cc p)

    miss : (b : Bool) → b ≡ false → (n k : ℕ) → n ≡ k → cond b (suc n) n ≡ k
    miss true p n k h = absurd (cc p)
    miss false p n k h = h

    inside : (b : Bool) → b ≡ true → (xs : List (T × Label)) → suc k ≤ length (join_if b (s.now t, label m s e) xs) → k ≤ length xs
    inside true p xs h = omega arith
    inside false p xs h = absurd (cc p)

    outside : (b : Bool) → b ≡ false → (xs : List (T × Label)) → suc k ≤ length (join_if b (s.now t, label m s e) xs) → suc k ≤ length xs
    outside true p xs h = absurd (cc p)
    outside false p xs h = h

moment_within_count : {T : Type 0} (m : Machine T) (s : State T) (run : List Step) (i u : ℕ) → moment run i u ≤ count m s run u
moment_within_count m s run zero u = omega arith
moment_within_count m s [] (suc i) u = omega arith
moment_within_count m s (e ∷ run) (suc i) u = grow (eqb u e.0) (moment run i u) (s.now u, label m s e) (trail m (after m s e) run u)
    (moment_within_count m (after m s e) run i u)
  where
    grow : {A : Type 0} (b : Bool) (n : ℕ) (x : A) (xs : List A) → n ≤ length xs → cond b (suc n) n ≤ length (join_if b x xs)
    grow true n x xs h = let g : suc n ≤ suc (length xs) = omega arith in g
    grow false n x xs h = h

-- The least cut has the thread exactly where it is wanted.
pub least_exact_at_thread : {T : Type 0} (m : Machine T) → IsLawful m → (s : State T) → StateInvariant m s → (run : List Step) → IsRun m s run
    → (p q : Cut) (t k : ℕ) → IsCut m s run p → Consistent m s run p → p t ≤ k → k ≤ count m s run t → IsLeast m s run p t k q → q t ≡ k
least_exact_at_thread m law s good run ok p q t k cut cp lo hi l =
    let i = moment_at_position m s run t k hi in
    let h : q t ≤ max (p t) (moment run i.0 t) =
    l.least (λ u. max (p u) (moment run i.0 u)) (λ u. omega (arith, cut u, moment_within_count m s run i.0 u))
    (max_is_consistent m s run p (moment run i.0) cp (moment_is_consistent m law s good run ok i.0)) (λ u. omega arith) (omega (arith, i.1)) t in
    omega (arith, l.reaches, h, i.1)

pub greatest_exact_at_thread : {T : Type 0} (m : Machine T) → IsLawful m → (s : State T) → StateInvariant m s → (run : List Step) → IsRun m s run
    → (p q : Cut) (t k : ℕ) → IsCut m s run p → Consistent m s run p → k ≤ p t → IsGreatest m s run p t k q → q t ≡ k
greatest_exact_at_thread m law s good run ok p q t k cut cp lo g =
    let i = moment_at_position m s run t k (omega (arith, cut t)) in
    let h : min (p t) (moment run i.0 t) ≤ q t =
    g.greatest (λ u. min (p u) (moment run i.0 u)) (λ u. omega (arith, cut u))
    (min_is_consistent m s run p (moment run i.0) cp (moment_is_consistent m law s good run ok i.0)) (λ u. omega arith) (omega (arith, i.1)) t in
    omega (arith, g.reaches, h, i.1)
