-- How many threads are below their targets: none, one or more.
use Rattle.std.proofs.Common.{◌≡◌, ℕ, ◌+◌, ◌<◌, ◌≤◌, List, length, arith, inl, inr, sym, subst}
use Rattle.std.proofs.lemmas.Bool.{cases_lt, cases_eq}
use Rattle.std.proofs.lemmas.List.{get_or_past}
use Rattle.ir_runs.specs.Run.{Cut}
use Rattle.ir_cut.specs.Positions.{cut_of}
use Rattle.ir_weave.specs.Standing.{OneIsBelow}

-- below is the number of the first n threads that are below their targets
pub record CountsBelow (target : List ℕ) (p : Cut) (n below : ℕ) : Type 0 where
  pub none : below ≡ 0 → (t : ℕ) → t < n → cut_of target t ≤ p t
  pub one : below ≡ 1 → (t : ℕ) × (t < n) × (p t < cut_of target t) × ((u : ℕ) → u < n → p u < cut_of target u → u ≡ t)
  pub more : 1 < below → (t u : ℕ) × (t < u) × (p t < cut_of target t) × (p u < cut_of target u)

pub counts_below_at_start : (target : List ℕ) (p : Cut) → CountsBelow target p 0 0
counts_below_at_start target p = record {
  none = λ _ t l. absurd (omega (arith, l));
  one = λ e. absurd (omega (arith, e));
  more = λ l. absurd (omega (arith, l));
}

-- one thread further, which is below
pub counts_below_more : (target : List ℕ) (p : Cut) (n below below' : ℕ) → CountsBelow target p n below → p n < cut_of target n
    → (below ≡ 0 → below' ≡ 1) → (0 < below → 1 < below') → CountsBelow target p (n + 1) below'
counts_below_more target p n below below' h less first next = elim (cases_eq below 0) [
  | inl e ↦ (
      let one : below' ≡ 1 = first e in
      record {
        none = λ z. absurd (omega (arith, one, z));
        one = λ _. (
          n,
          (omega arith),
          less,
          λ u l b. elim (cases_eq u n) [
            | inl same ↦ same
            | inr other ↦ (let c = h.none e u (omega (arith, l, other)) in absurd (omega (arith, b, c)))
          ],
        );
        more = λ l. absurd (omega (arith, one, l));
      })
  | inr ne ↦ (
      let many : 1 < below' = next (omega (arith, ne)) in
      record {
        none = λ z. absurd (omega (arith, many, z));
        one = λ z. absurd (omega (arith, many, z));
        more = λ _. elim (cases_eq below 1) [
          | inl e ↦ (let a = h.one e in (a.0, n, a.1, a.2, less))
          | inr ne' ↦ h.more (omega (arith, ne, ne'))
        ];
      })
]

-- one thread further, which isn't
pub counts_below_same : (target : List ℕ) (p : Cut) (n below : ℕ) → CountsBelow target p n below → cut_of target n ≤ p n
    → CountsBelow target p (n + 1) below
counts_below_same target p n below h not = record {
  none = λ e t l. elim (cases_eq t n) [
    | inl same ↦ subst (λ z. cut_of target z ≤ p z) (sym same) not
    | inr other ↦ h.none e t (omega (arith, l, other))
  ];
  one = λ e. (let a = h.one e in let l = a.1 in (
    a.0,
    (omega (arith, l)),
    a.2,
    λ u k b. elim (cases_eq u n) [
      | inl same ↦ absurd (let c = subst (λ z. cut_of target z ≤ p z) (sym same) not in omega (arith, b, c))
      | inr other ↦ a.3 u (omega (arith, k, other)) b
    ],
  ));
  more = h.more;
}

-- of all threads at most one is below where no more were counted
pub at_most_one_below : (target : List ℕ) (p : Cut) (n below : ℕ) → CountsBelow target p n below → length target ≡ n → below ≤ 1 → OneIsBelow target p
at_most_one_below target p n below h size few t u a b = elim (cases_eq below 0) [
  | inl e ↦ (let c = h.none e t (within t a) in absurd (omega (arith, a, c)))
  | inr ne ↦ (let one = h.one (omega (arith, ne, few)) in let x = one.3 t (within t a) a in let y = one.3 u (within u b) b in
      omega (arith, x, y))
]
  where
    within : (t : ℕ) → p t < cut_of target t → t < n
    within t a = elim (cases_lt t n) [
      | inl l ↦ l
      | inr past ↦ (let none = get_or_past target t 0 (omega (arith, size, past)) in absurd (omega (arith, a, none)))
    ]

-- and where more were, more than one is
pub below_count_at_most_one : (target : List ℕ) (p : Cut) (n below : ℕ) → CountsBelow target p n below → OneIsBelow target p → below ≤ 1
below_count_at_most_one target p n below h one = elim (cases_lt 1 below) [
  | inl many ↦ (let a = h.more many in let same = one a.0 a.1 a.3 a.4 in let l = a.2 in absurd (omega (arith, same, l)))
  | inr few ↦ few
]
