-- The greatest consistent cut below a cut.
-- the labels that are left out
use Rattle.std.proofs.Common.{◌≡◌, ℕ, suc, pred, min, ◌<◌, ◌≤◌, Bool, true, false, cond, eqb, List, [], ◌∷◌, refl, sym, ap, ◌∙◌, subst, arith, inl, inr, ◌⊎◌, eq-eqb, ne_eqb, le_refl}
use Rattle.std.proofs.lemmas.Bool.{cases_eq, eqb-true, cases_lt}
use Rattle.ir_runs.specs.Machine.{Machine, Label}
use Rattle.ir_runs.specs.Lawful.{IsLawful}
use Rattle.ir_runs.specs.Run.{act, State, Step, after, label, IsRun, count, IsGreatest, Emits, IsNeededBy, Cut, IsCut, Consistent}
use Rattle.ir_runs.specs.Bounds.{lower}
use Rattle.ir_runs.proofs.Good.{StateInvariant, state_invariant_step}
use Rattle.ir_runs.proofs.Determined.{count_of_cons}
use Rattle.ir_runs.proofs.Early.{emits_of_cons_cases, needed_is_not_later, suc_if_keeps_less, suc_if_reflects_less}
use Rattle.ir_runs.proofs.Exist.{needs_is_decidable}
use Rattle.ir_runs.proofs.Sort.{emits_cons_later, emits_first_label, consistent_after_first, raised_place_below}
use Rattle.ir_runs.specs.Admitted.{further}

abbrev pub Among : Label → List Label → Type 0
Among k [] = ⊥
Among k (x ∷ xs) = (x ≡ k) ⊎ Among k xs

needed_label_or_none : (out : List Label) (a : Label) → ((k : Label) × Among k out × IsNeededBy k a) ⊎ ((k : Label) → Among k out → IsNeededBy k a → ⊥)
needed_label_or_none [] a = inr (λ k h n. h)
needed_label_or_none (x ∷ xs) a = elim (needs_is_decidable x a) [
  | inl n ↦ inl (x, inl (λ i. x), n)
  | inr free ↦ elim (needed_label_or_none xs a) [
    | inl w ↦ inl (w.0, inr w.1, w.2)
    | inr none ↦ inr (λ k h n. elim h [ inl e ↦ free (subst (λ z. IsNeededBy z a) (sym e) n) | inr g ↦ none k g n ])
  ]
]

-- no step of the cut needs what is left out
abbrev pub Avoids : {T : Type 0} → Machine T → State T → List Step → Cut → List Label → Type 0
Avoids m s run q out = (t i : ℕ) (a k : Label) → Emits m s run t i a → i < q t → Among k out → IsNeededBy k a → ⊥

-- the greatest consistent cut at or below b that avoids what is left out
pub record GreatestAvoiding {T : Type 0} (m : Machine T) (s : State T) (run : List Step) (b : Cut) (out : List Label) (q : Cut) : Type 0 where
  pub consistent : Consistent m s run q
  pub avoids : Avoids m s run q out
  pub below : (u : ℕ) → q u ≤ b u
  pub greatest : (c : Cut) → Consistent m s run c → Avoids m s run c out → ((u : ℕ) → c u ≤ b u) → (u : ℕ) → c u ≤ q u

avoids_after_first_step : {T : Type 0} (m : Machine T) (s : State T) (e : Step) (run : List Step) (c : Cut) (out : List Label)
    → Avoids m s (e ∷ run) c out → Avoids m (after m s e) run (lower c e.0) out
avoids_after_first_step m s e run c out f t i a k h l g n =
    f t (cond (eqb t e.0) (suc i) i) a k (emits_cons_later m s e run t i a h) (raised_place_below (eqb t e.0) i (c t) l) g n

zero_below_suc : (n : ℕ) → 0 < suc n
zero_below_suc n = omega arith

-- with the first step
greatest_with_first_step : {T : Type 0} (m : Machine T) → IsLawful m → (s : State T) → StateInvariant m s → (e : Step) (run : List Step) → IsRun m s (e ∷ run)
    → (b q : Cut) (out : List Label) → 0 < b e.0 → ((k : Label) → Among k out → IsNeededBy k (label m s e) → ⊥)
    → GreatestAvoiding m (after m s e) run (lower b e.0) out q → GreatestAvoiding m s (e ∷ run) b out (further q e.0)
greatest_with_first_step m law s good e run ok b q out more free k = record {
  consistent = λ t i u j a d h g n l. elim (emits_of_cons_cases m s e run u j d g) [
    | inl p ↦ subst (λ z. z < further q e.0 u) (sym p.1)
        (subst (λ z. 0 < cond z (suc (q u)) (q u)) (sym (eq-eqb u e.0 p.0)) (zero_below_suc (q u)))
    | inr p ↦ elim (emits_of_cons_cases m s e run t i a h) [
      | inl c ↦ absurd (needed_is_not_later m law s good e ok.0 run ok.1 u p.place p.emits.0 d (act m s e) refl p.emits.1 (subst (IsNeededBy d) c.2 n))
      | inr c ↦ subst (λ z. z < further q e.0 u) (sym p.is)
          (suc_if_keeps_less (eqb u e.0) p.place (q u) (k.consistent t c.place u p.place a d c.emits p.emits n
          (suc_if_reflects_less (eqb t e.0) c.place (q t) (subst (λ z. z < further q e.0 t) c.is l))))
    ]
  ];
  avoids = λ t i a x h l g n. elim (emits_of_cons_cases m s e run t i a h) [
    | inl c ↦ free x g (subst (IsNeededBy x) c.2 n)
    | inr c ↦ k.avoids t c.place a x c.emits (suc_if_reflects_less (eqb t e.0) c.place (q t) (subst (λ z. z < further q e.0 t) c.is l)) g n
  ];
  below = λ u. under (eqb u e.0) (q u) (b u) (k.below u) (λ p. subst (λ z. 0 < b z) (sym (eqb-true u e.0 p)) more);
  greatest = λ c con av down u. over (eqb u e.0) (c u) (q u)
      (k.greatest (lower c e.0) (consistent_after_first m s e run c con) (avoids_after_first_step m s e run c out av)
      (λ w. below_lower (eqb w e.0) (c w) (b w) (down w)) u);
}
  where
    under : (b : Bool) (x y : ℕ) → x ≤ cond b (pred y) y → (b ≡ true → 0 < y) → cond b (suc x) x ≤ y
    under true x y h f = let h' : x ≤ pred y = h in let z : 0 < y = f refl in let g : suc x ≤ y = omega arith in g
    under false x y h f = h

    over : (b : Bool) (x y : ℕ) → cond b (pred x) x ≤ y → x ≤ cond b (suc y) y
    over true x y h = let h' : pred x ≤ y = h in let g : x ≤ suc y = omega arith in g
    over false x y h = h

    below_lower : (b : Bool) (x y : ℕ) → x ≤ y → cond b (pred x) x ≤ cond b (pred y) y
    below_lower true x y h = let g : pred x ≤ pred y = omega arith in g
    below_lower false x y h = h

-- b, but 0 at t
abbrev pub with_zero_at : Cut → ℕ → Cut
with_zero_at b t u = cond (eqb u t) 0 (b u)

-- without the first step
greatest_without_first : {T : Type 0} (m : Machine T) (s : State T) (e : Step) (run : List Step) (b q : Cut) (out : List Label)
    → ((c : Cut) → Avoids m s (e ∷ run) c out → ((u : ℕ) → c u ≤ b u) → c e.0 ≡ 0)
    → GreatestAvoiding m (after m s e) run (with_zero_at b e.0) (label m s e ∷ out) q → GreatestAvoiding m s (e ∷ run) b out q
greatest_without_first m s e run b q out never k = record {
  consistent = λ t i u j a d h g n l. elim (emits_of_cons_cases m s e run t i a h) [
    | inl c ↦ absurd (omega (arith, l, ap q c.0, none))
    | inr c ↦
        let l' : c.place < q t = at_other t i c.place c.is l in
        elim (emits_of_cons_cases m s e run u j d g) [
          | inl p ↦ absurd (k.avoids t c.place a d c.emits l' (inl (sym p.2)) n)
          | inr p ↦ from_other u j p.place p.is (k.consistent t c.place u p.place a d c.emits p.emits n l')
        ]
  ];
  avoids = λ t i a x h l g n. elim (emits_of_cons_cases m s e run t i a h) [
    | inl c ↦ omega (arith, l, ap q c.0, none)
    | inr c ↦ k.avoids t c.place a x c.emits (at_other t i c.place c.is l) (inr g) n
  ];
  below = λ u. nothing_less (eqb u e.0) (q u) (b u) (k.below u);
  greatest = λ c con av down u. k.greatest c
      (λ t i w j a d h g n l. from_later c (never c av down) w j
      (con t (cond (eqb t e.0) (suc i) i) w (cond (eqb w e.0) (suc j) j) a d (emits_cons_later m s e run t i a h) (emits_cons_later m s e run w j d g) n
      (to_later c (never c av down) t i l)))
      (λ t i a x h l g n. elim g [
        | inl same ↦ omega (
          arith,
          never c av down,
          con t (cond (eqb t e.0) (suc i) i) e.0 0 a x (emits_cons_later m s e run t i a h)
              (subst (Emits m s (e ∷ run) e.0 0) same (emits_first_label m s e run)) n (to_later c (never c av down) t i l),
        )
        | inr among ↦ av t (cond (eqb t e.0) (suc i) i) a x (emits_cons_later m s e run t i a h) (to_later c (never c av down) t i l) among n
      ])
      (λ w. elim (cases_eq w e.0) [
        | inl same ↦ omega (arith, ap c same, never c av down)
        | inr other ↦ subst (λ z. c w ≤ cond z 0 (b w))
            (sym (ne_eqb w e.0 other)) (down w)
      ]) u;
}
  where
    none : q e.0 ≡ 0
    none = let h : q e.0 ≤ 0 = subst (λ z. q e.0 ≤ cond z 0 (b e.0)) (eq-eqb e.0 e.0 refl) (k.below e.0) in omega arith

    nothing_less : (b : Bool) (x y : ℕ) → x ≤ cond b 0 y → x ≤ y
    nothing_less true x y h = let h' : x ≤ 0 = h in omega arith
    nothing_less false x y h = h

    at_other : (t i j : ℕ) → i ≡ cond (eqb t e.0) (suc j) j → i < q t → j < q t
    at_other t i j is l = elim (cases_eq t e.0) [
      | inl same ↦ absurd (omega (arith, l, ap q same, none))
      | inr other ↦ subst (λ z. z < q t)
          (is ∙ ap (λ z. cond z (suc j) j) (ne_eqb t e.0 other)) l
    ]

    from_other : (t i j : ℕ) → i ≡ cond (eqb t e.0) (suc j) j → j < q t → i < q t
    from_other t i j is l = elim (cases_eq t e.0) [
      | inl same ↦ absurd (omega (arith, l, ap q same, none))
      | inr other ↦ subst (λ z. z < q t)
          (sym (is ∙ ap (λ z. cond z (suc j) j) (ne_eqb t e.0 other))) l
    ]

    to_later : (c : Cut) → c e.0 ≡ 0 → (t i : ℕ) → i < c t → cond (eqb t e.0) (suc i) i < c t
    to_later c zero' t i l = elim (cases_eq t e.0) [
      | inl same ↦ absurd (omega (arith, l, ap c same, zero'))
      | inr other ↦ subst (λ z. cond z (suc i) i < c t)
          (sym (ne_eqb t e.0 other)) l
    ]

    from_later : (c : Cut) → c e.0 ≡ 0 → (t i : ℕ) → cond (eqb t e.0) (suc i) i < c t → i < c t
    from_later c zero' t i l = below_it (eqb t e.0) i (c t) l
      where
        below_it : (b : Bool) (i n : ℕ) → cond b (suc i) i < n → i < n
        below_it true i n h = let h' : suc i < n = h in omega arith
        below_it false i n h = h

pub avoiding_greatest_exists : {T : Type 0} (m : Machine T) → IsLawful m → (s : State T) → StateInvariant m s → (run : List Step) → IsRun m s run
    → (b : Cut) (out : List Label) → ((u : ℕ) → b u ≤ count m s run u) → (q : Cut) × GreatestAvoiding m s run b out q
avoiding_greatest_exists m law s good [] ok b out cut = (
  b,
  record {
    consistent = λ t i u j a d h g n l. absurd h.1;
    avoids = λ t i a k h l g n. h.1;
    below =
        λ u. le_refl (b u);
    greatest = λ c con av down u. down u;
  },
)
avoiding_greatest_exists m law s good (e ∷ run) ok b out cut =
    let good' = state_invariant_step m law s good e ok.0 in
    let gone = avoiding_greatest_exists m law (after m s e) good' run ok.1 (with_zero_at b e.0) (label m s e ∷ out)
    (λ u. cut_without (eqb u e.0) (b u) (count m (after m s e) run u) (subst (λ z. b u ≤ z) (count_of_cons m s e run u) (cut u))) in
    let kept = avoiding_greatest_exists m law (after m s e) good' run ok.1 (lower b e.0) out
    (λ u. shorter (eqb u e.0) (b u) (count m (after m s e) run u) (subst (λ z. b u ≤ z) (count_of_cons m s e run u) (cut u))) in
    elim (cases_lt 0 (b e.0)) [
      | inr h ↦ (gone.0, greatest_without_first m s e run b gone.0 out (λ c av down. omega (arith, h, down e.0)) gone.1)
      | inl h ↦ elim (needed_label_or_none out (label m s e)) [
        | inl w ↦ (
          gone.0,
          greatest_without_first m s e run b gone.0 out
              (λ c av down. elim (cases_lt 0 (c e.0))
              [ inl l ↦ absurd (av e.0 0 (label m s e) w.0 (emits_first_label m s e run) l w.1 w.2) | inr l ↦ omega arith ]) gone.1,
        )
        | inr free ↦ (further kept.0 e.0, greatest_with_first_step m law s good e run ok b kept.0 out h free kept.1)
      ]
    ]
  where
    shorter : (b : Bool) (x n : ℕ) → x ≤ cond b (suc n) n → cond b (pred x) x ≤ n
    shorter true x n h = let h' : x ≤ suc n = h in let g : pred x ≤ n = omega arith in g
    shorter false x n h = h

    cut_without : (b : Bool) (x n : ℕ) → x ≤ cond b (suc n) n → cond b 0 x ≤ n
    cut_without true x n h = let g : 0 ≤ n = omega arith in g
    cut_without false x n h = h

pub greatest_cut_exists : {T : Type 0} (m : Machine T) → IsLawful m → (s : State T) → StateInvariant m s → (run : List Step) → IsRun m s run
    → (p : Cut) (t k : ℕ) → IsCut m s run p → (q : Cut) × IsGreatest m s run p t k q
greatest_cut_exists m law s good run ok p t k cut =
    let g = avoiding_greatest_exists m law s good run ok (λ u. min (p u) (cond (eqb u t) k (p u))) [] (λ u. omega (arith, cut u)) in (
      g.0,
      record {
        cut = λ u. omega (arith, g.1.below u, cut u);
        consistent = g.1.consistent;
        below = λ u. omega (arith, g.1.below u);
        reaches = subst (λ b. g.0 t ≤ min (p t) (cond b k (p t)) → g.0 t ≤ k) (sym (eq-eqb t t refl)) (λ h. omega arith) (g.1.below t);
        greatest = λ c _ con down reach. g.1.greatest c con (λ t i a x h l among n. among)
            (λ u. most (eqb u t) (c u) (p u) k (down u) (λ h. subst (λ z. c z ≤ k) (sym (eqb-true u t h)) reach));
      },
    )
  where
    most : (b : Bool) (c p k : ℕ) → c ≤ p → (b ≡ true → c ≤ k) → c ≤ min p (cond b k p)
    most true c p k h f = let z : c ≤ k = f refl in let g : c ≤ min p k = omega arith in g
    most false c p k h f = let g : c ≤ min p p = omega arith in g
