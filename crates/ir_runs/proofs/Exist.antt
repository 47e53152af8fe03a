-- The least consistent cut above a cut.
use Rattle.std.proofs.Common.{◌≡◌, ℕ, suc, pred, max, ◌<◌, ◌≤◌, Bool, true, false, cond, eqb, List, [], ◌∷◌, refl, sym, ap, ◌∙◌, subst, arith, inl, inr, ◌⊎◌, eq-eqb, ne_eqb, le_refl}
use Rattle.std.proofs.lemmas.Bool.{cases_eq, eqb-true, cases_lt}
use Rattle.ir_runs.specs.Machine.{Machine, Label, EnteredAt, LeftAt}
use Rattle.ir_runs.specs.Lawful.{IsLawful}
use Rattle.ir_runs.specs.declared.access.Access.TheVariants.{Reading, Writing}
use Rattle.ir_runs.specs.Run.{act, State, Step, after, label, IsRun, count, IsLeast, Emits, IsNeededBy, Cut, IsCut, Consistent}
use Rattle.ir_runs.specs.Bounds.{lower}
use Rattle.ir_runs.proofs.Good.{StateInvariant, state_invariant_step}
use Rattle.ir_runs.proofs.Determined.{count_of_cons}
use Rattle.ir_runs.proofs.Early.{emits_of_cons_cases, needed_is_not_later}
use Rattle.ir_runs.proofs.Sort.{emits_cons_later, emits_first_label, consistent_after_first, raised_place_below}
use Rattle.ir_runs.specs.Admitted.{further}

pub needs_is_decidable : (a b : Label) → IsNeededBy a b ⊎ (IsNeededBy a b → ⊥)
needs_is_decidable (LeftAt o Writing w) (EnteredAt p c v l) = elim (cases_eq o p)
    [ inl e ↦ elim (cases_eq v (suc w)) [ inl d ↦ inl (e, d) | inr ne ↦ inr (λ h. ne h.1) ] | inr ne ↦ inr (λ h. ne h.0) ]
needs_is_decidable (LeftAt o Reading w) (EnteredAt p Writing v l) =
    elim (cases_eq o p) [ inl e ↦ elim (cases_eq v w) [ inl d ↦ inl (e, d) | inr ne ↦ inr (λ h. ne h.1) ] | inr ne ↦ inr (λ h. ne h.0) ]
needs_is_decidable (LeftAt o Reading w) _ = inr (λ h. h)
needs_is_decidable (LeftAt o Writing w) _ = inr (λ h. h)
needs_is_decidable _ _ = inr (λ h. h)

-- a step of the cut that needs what k emits
pub record NeedingStep {T : Type 0} (m : Machine T) (s : State T) (run : List Step) (q : Cut) (k : Label) : Type 0 where
  pub thread : ℕ
  pub place : ℕ
  pub emitted : Label
  pub emits : Emits m s run thread place emitted
  pub inside : place < q thread
  pub needs : IsNeededBy k emitted

needing_step_or_none : {T : Type 0} (m : Machine T) (s : State T) (run : List Step) (q : Cut) (k : Label) → NeedingStep m s run q k
    ⊎ ((t j : ℕ) (a : Label) → Emits m s run t j a → j < q t → IsNeededBy k a → ⊥)
needing_step_or_none m s [] q k = inr (λ t j a h l n. h.1)
needing_step_or_none m s (e ∷ run) q k = elim (needing_step_or_none m (after m s e) run (lower q e.0) k) [
  | inl w ↦ inl (record {
    thread = w.thread;
    place = cond (eqb w.thread e.0) (suc w.place) w.place;
    emitted = w.emitted;
    emits =
        emits_cons_later m s e run w.thread w.place w.emitted w.emits;
    inside = raised_place_below (eqb w.thread e.0) w.place (q w.thread) w.inside;
    needs =
        w.needs;
  })
  | inr none ↦ elim (cases_lt 0 (q e.0)) [
    | inr out ↦ inr (λ t j a h l n. elim (emits_of_cons_cases m s e run t j a h) [
      | inl p ↦ absurd (omega (arith, out, l, p.1, ap q p.0))
      | inr p ↦ none t p.place a p.emits (down (eqb t e.0) p.place (q t) (subst (λ z. z < q t) p.is l)) n
    ])
    | inl inside ↦ elim (needs_is_decidable k (label m s e)) [
      | inl n ↦ inl (record { thread = e.0; place = 0; emitted = label m s e; emits = emits_first_label m s e run; inside = inside; needs = n })
      | inr free ↦ inr (λ t j a h l n. elim (emits_of_cons_cases m s e run t j a h) [
        | inl p ↦ free (subst (IsNeededBy k) p.2 n)
        | inr p ↦ none t p.place a p.emits (down (eqb t e.0) p.place (q t) (subst (λ z. z < q t) p.is l)) n
      ])
    ]
  ]
]
  where
    down : (b : Bool) (k n : ℕ) → cond b (suc k) k < n → k < cond b (pred n) n
    down true k n h = let h' : suc k < n = h in let g : k < pred n = omega arith in g
    down false k n h = h

-- the least consistent cut at or above b
pub record LeastAbove {T : Type 0} (m : Machine T) (s : State T) (run : List Step) (b q : Cut) : Type 0 where
  pub cut : IsCut m s run q
  pub consistent : Consistent m s run q
  pub above : (u : ℕ) → b u ≤ q u
  pub least : (c : Cut) → Consistent m s run c → ((u : ℕ) → b u ≤ c u) → (u : ℕ) → q u ≤ c u

pred_if_keeps_order : (b : Bool) (x y : ℕ) → x ≤ y → cond b (pred x) x ≤ cond b (pred y) y
pred_if_keeps_order true x y h = let g : pred x ≤ pred y = omega arith in g
pred_if_keeps_order false x y h = h

-- with the first step
least_with_first_step : {T : Type 0} (m : Machine T) → IsLawful m → (s : State T) → StateInvariant m s → (e : Step) (run : List Step) → IsRun m s (e ∷ run)
    → (b q : Cut) → LeastAbove m (after m s e) run (lower b e.0) q
    → ((c : Cut) → Consistent m s (e ∷ run) c → ((u : ℕ) → b u ≤ c u) → ((u : ℕ) → q u ≤ lower c e.0 u) → 0 < c e.0)
    → LeastAbove m s (e ∷ run) b (further q e.0)
least_with_first_step m law s good e run ok b q k must = record {
  cut = λ u. omega (arith, count_of_cons m s e run u, up (eqb u e.0) (q u) (count m (after m s e) run u) (k.cut u));
  consistent = λ t i u j a d h g n l. elim (emits_of_cons_cases m s e run u j d g) [
    | inl p ↦ subst (λ z. z < further q e.0 u) (sym p.1) (subst (λ z. 0 < cond z (suc (q u)) (q u)) (sym (eq-eqb u e.0 p.0)) (first (q u)))
    | inr p ↦ elim (emits_of_cons_cases m s e run t i a h) [
      | inl c ↦ absurd (needed_is_not_later m law s good e ok.0 run ok.1 u p.place p.emits.0 d (act m s e) refl p.emits.1 (subst (IsNeededBy d) c.2 n))
      | inr c ↦ subst (λ z. z < further q e.0 u) (sym p.is)
          (both_up (eqb u e.0) p.place (q u) (k.consistent t c.place u p.place a d c.emits p.emits n
          (both_down (eqb t e.0) c.place (q t) (subst (λ z. z < further q e.0 t) c.is l))))
    ]
  ];
  above = λ u. over (eqb u e.0) (b u) (q u) (k.above u);
  least = λ c con up'. let low : (u : ℕ) → q u ≤ lower c e.0 u =
      k.least (lower c e.0) (consistent_after_first m s e run c con) (λ u. pred_if_keeps_order (eqb u e.0) (b u) (c u) (up' u)) in
      λ u. fill (eqb u e.0) (q u) (c u) (low u) (λ p. subst (λ z. 0 < c z) (sym (eqb-true u e.0 p)) (must c con up' low));
}
  where
    up : (b : Bool) (x y : ℕ) → x ≤ y → cond b (suc x) x ≤ cond b (suc y) y
    up true x y h = let g : suc x ≤ suc y = omega arith in g
    up false x y h = h

    first : (n : ℕ) → 0 < suc n
    first n = omega arith

    both_up : (b : Bool) (k n : ℕ) → k < n → cond b (suc k) k < cond b (suc n) n
    both_up true k n h = let g : suc k < suc n = omega arith in g
    both_up false k n h = h

    both_down : (b : Bool) (k n : ℕ) → cond b (suc k) k < cond b (suc n) n → k < n
    both_down true k n h = let g : suc k < suc n = h in omega arith
    both_down false k n h = h

    over : (b : Bool) (x y : ℕ) → cond b (pred x) x ≤ y → x ≤ cond b (suc y) y
    over true x y h = let h' : pred x ≤ y = h in let g : x ≤ suc y = omega arith in g
    over false x y h = h

    fill : (b : Bool) (x y : ℕ) → x ≤ cond b (pred y) y → (b ≡ true → 0 < y) → cond b (suc x) x ≤ y
    fill true x y h f = let h' : x ≤ pred y = h in let z : 0 < y = f refl in let g : suc x ≤ y = omega arith in g
    fill false x y h f = h

-- without the first step
least_without_first : {T : Type 0} (m : Machine T) (s : State T) (e : Step) (run : List Step) (b q : Cut)
    → LeastAbove m (after m s e) run (lower b e.0) q → b e.0 ≡ 0 → q e.0 ≡ 0
    → ((t j : ℕ) (a : Label) → Emits m (after m s e) run t j a → j < q t → IsNeededBy (label m s e) a → ⊥) → LeastAbove m s (e ∷ run) b q
least_without_first m s e run b q k none zero' free = record {
  cut = λ u. omega (arith, count_of_cons m s e run u, more (eqb u e.0) (count m (after m s e) run u), k.cut u);
  consistent = λ t i u j a d h g n l. elim (emits_of_cons_cases m s e run t i a h) [
    | inl c ↦ absurd (omega (arith, l, c.1, ap q c.0, zero'))
    | inr c ↦ elim (cases_eq t e.0) [
      | inl same ↦ absurd (omega (arith, l, ap q same, zero'))
      | inr other ↦
          let i' : i ≡ c.place = c.is ∙ ap (λ z. cond z (suc c.place) c.place) (ne_eqb t e.0 other) in
          elim (emits_of_cons_cases m s e run u j d g) [
            | inl p ↦ absurd (free t c.place a c.emits (omega (arith, l, i')) (subst (λ z. IsNeededBy z a) p.2 n))
            | inr p ↦
                let less : p.place < q u = k.consistent t c.place u p.place a d c.emits p.emits n (omega (arith, l, i')) in
                elim (cases_eq u e.0) [
                  | inl same ↦ absurd (omega (arith, less, ap q same, zero'))
                  | inr differ ↦ subst (λ z. z < q u) (sym (p.is ∙ ap (λ z. cond z (suc p.place) p.place) (ne_eqb u e.0 differ))) less
                ]
          ]
    ]
  ];
  above = λ u. elim (cases_eq u e.0) [
    | inl same ↦ omega (arith, ap b same, none)
    | inr other ↦ subst (λ z. cond z (pred (b u)) (b u) ≤ q u)
        (ne_eqb u e.0 other) (k.above u)
  ];
  least = λ c con up u. lower_le (eqb u e.0) (q u) (c u)
      (k.least (lower c e.0) (consistent_after_first m s e run c con) (λ u. pred_if_keeps_order (eqb u e.0) (b u) (c u) (up u)) u);
}
  where
    more : (b : Bool) (n : ℕ) → n ≤ cond b (suc n) n
    more true n = let g : n ≤ suc n = omega arith in g
    more false n = le_refl n

    lower_le : (b : Bool) (x y : ℕ) → x ≤ cond b (pred y) y → x ≤ y
    lower_le true x y h = let h' : x ≤ pred y = h in omega arith
    lower_le false x y h = h

pub least_above_exists : {T : Type 0} (m : Machine T) → IsLawful m → (s : State T) → StateInvariant m s → (run : List Step) → IsRun m s run → (b : Cut)
    → IsCut m s run b → (q : Cut) × LeastAbove m s run b q
least_above_exists m law s good [] ok b cut = (
  (λ u. 0),
  record {
    cut = λ u. omega arith;
    consistent = λ t i u j a d h g n l. absurd h.1;
    above =
        λ u. cut u;
    least = λ c con up u. omega arith;
  },
)
least_above_exists m law s good (e ∷ run) ok b cut =
    let k = least_above_exists m law (after m s e) (state_invariant_step m law s good e ok.0) run ok.1 (lower b e.0)
    (λ u. shorter (eqb u e.0) (b u) (count m (after m s e) run u) (subst (λ z. b u ≤ z) (count_of_cons m s e run u) (cut u))) in
    elim (cases_lt 0 (b e.0)) [
      | inl h ↦ (further k.0 e.0, least_with_first_step m law s good e run ok b k.0 k.1 (λ c con up low. omega (arith, h, up e.0)))
      | inr h ↦ elim (cases_lt 0 (k.0 e.0)) [
        | inl g ↦ (
          further k.0 e.0,
          least_with_first_step m law s good e run ok b k.0 k.1
              (λ c con up low. omega (arith, g, lower_le (eqb e.0 e.0) (k.0 e.0) (c e.0) (low e.0))),
        )
        | inr g ↦ elim (needing_step_or_none m (after m s e) run k.0 (label m s e)) [
          | inl w ↦ (
            further k.0 e.0,
            least_with_first_step m law s good e run ok b k.0 k.1 (λ c con up low.
                con w.thread (cond (eqb w.thread e.0) (suc w.place) w.place) e.0 0 w.emitted (label m s e)
                (emits_cons_later m s e run w.thread w.place w.emitted w.emits) (emits_first_label m s e run) w.needs
                (raised_place_below (eqb w.thread e.0) w.place (c w.thread) (omega (arith, w.inside, low w.thread)))),
          )
          | inr free ↦ (k.0, least_without_first m s e run b k.0 k.1 (omega arith) (omega arith) free)
        ]
      ]
    ]
  where
    shorter : (b : Bool) (x n : ℕ) → x ≤ cond b (suc n) n → cond b (pred x) x ≤ n
    shorter true x n h = let h' : x ≤ suc n = h in let g : pred x ≤ n = omega arith in g
    shorter false x n h = h

    lower_le : (b : Bool) (x y : ℕ) → x ≤ cond b (pred y) y → x ≤ y
    lower_le true x y h = let h' : x ≤ pred y = h in omega arith
    lower_le false x y h = h

-- p, with t at k or more
abbrev pub raised : Cut → ℕ → ℕ → Cut
raised p t k u = max (p u) (cond (eqb u t) k 0)

pub least_cut_exists : {T : Type 0} (m : Machine T) → IsLawful m → (s : State T) → StateInvariant m s → (run : List Step) → IsRun m s run
    → (p : Cut) (t k : ℕ) → IsCut m s run p → k ≤ count m s run t → (q : Cut) × IsLeast m s run p t k q
least_cut_exists m law s good run ok p t k cut hi =
    let c = least_above_exists m law s good run ok (raised p t k)
    (λ u. most (eqb u t) (p u) k (count m s run u) (cut u) (λ h. subst (λ z. k ≤ count m s run z) (sym (eqb-true u t h)) hi)) in (
      c.0,
      record {
        cut = c.1.cut;
        consistent = c.1.consistent;
        above = λ u. omega (arith, c.1.above u);
        reaches = subst (λ b. max (p t) (cond b k 0) ≤ c.0 t → k ≤ c.0 t) (sym (eq-eqb t t refl)) (λ h. omega arith) (c.1.above t);
        least = λ d _ con up reach. c.1.least d con
            (λ u. most (eqb u t) (p u) k (d u) (up u) (λ h. subst (λ z. k ≤ d z) (sym (eqb-true u t h)) reach));
      },
    )
  where
    most : (b : Bool) (x k n : ℕ) → x ≤ n → (b ≡ true → k ≤ n) → max x (cond b k 0) ≤ n
    most true x k n h f = let z : k ≤ n = f refl in let g : max x k ≤ n = omega arith in g
    most false x k n h f = let g : max x 0 ≤ n = omega arith in g
