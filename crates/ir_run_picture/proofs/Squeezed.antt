-- Where the steps of a box of several events count as its first step.
use Rattle.std.proofs.Common.{◌≡◌, ℕ, zero, suc, ◌<◌, ◌≤◌, ◌⊎◌, inl, inr, Bool, true, false, cond, eqb, ltb, Some, List, [], ◌∷◌, refl, sym, ap, ◌∙◌, subst, arith, eq-eqb, ne_eqb}
use Rattle.std.specs.List.{slice_get}
use Rattle.std.proofs.lemmas.Bool.{cases_eq, cases_lt, lt-ltb, le-ltb}
use Rattle.std.proofs.lemmas.Option.{none-some, same_Some}
use Rattle.ir_picture.specs.declared.event_box.EventBox.{EventBox}
use Rattle.ir_holds.specs.declared.span.Span.{Span}

-- a box of several events of thread t goes over its step k
pub record GoesOver (b : EventBox) (s : Span) (t k : ℕ) : Type 0 where
  pub thread : s.thread ≡ t
  pub many : 1 < b.count
  pub from : s.first ≤ k
  pub to : k ≤ s.last

-- whether it does
abbrev pub goes_over : EventBox → Span → ℕ → ℕ → Bool
goes_over b s t k = cond (eqb s.thread t) (cond (ltb 1 b.count) (cond (ltb k s.first) false (cond (ltb s.last k) false true)) false) false

goes_over_cases : (b : EventBox) (s : Span) (t k : ℕ)
    → ((goes_over b s t k ≡ true) × GoesOver b s t k) ⊎ ((goes_over b s t k ≡ false) × (GoesOver b s t k → ⊥))
goes_over_cases b s t k = elim (cases_eq s.thread t) [
  | inr ne ↦ inr (
    ap (λ (x : Bool). cond x (cond (ltb 1 b.count) (cond (ltb k s.first) false (cond (ltb s.last k) false true)) false) false) (ne_eqb s.thread t ne),
    λ over. ne over.thread,
  )
  | inl thread ↦
      let of_thread = ap (λ (x : Bool). cond x (cond (ltb 1 b.count) (cond (ltb k s.first) false (cond (ltb s.last k) false true)) false) false)
      (eq-eqb s.thread t thread) in
      elim (cases_lt 1 b.count) [
        | inr few ↦ inr (
          of_thread ∙ ap (λ (x : Bool). cond x (cond (ltb k s.first) false (cond (ltb s.last k) false true)) false) (le-ltb 1 b.count few),
          λ over. let many = over.many in omega (arith, few, many),
        )
        | inl many ↦
            let of_count = of_thread ∙ ap (λ (x : Bool). cond x (cond (ltb k s.first) false (cond (ltb s.last k) false true)) false) (lt-ltb 1 b.count many) in
            elim (cases_lt k s.first) [
              | inl early ↦ inr (
                of_count ∙ ap (λ (x : Bool). cond x false (cond (ltb s.last k) false true)) (lt-ltb k s.first early),
                λ over. let from = over.from in omega (arith, early, from),
              )
              | inr from ↦
                  let of_first = of_count ∙ ap (λ (x : Bool). cond x false (cond (ltb s.last k) false true)) (le-ltb k s.first from) in
                  elim (cases_lt s.last k) [
                    | inl late ↦ inr (
                      of_first ∙ ap (λ (x : Bool). cond x false true) (lt-ltb s.last k late),
                      λ over. let to = over.to in omega (arith, late, to),
                    )
                    | inr to ↦ inl (
                      of_first ∙ ap (λ (x : Bool). cond x false true) (le-ltb s.last k to),
                      record { thread = thread; many = many; from = from; to = to },
                    )
                  ]
            ]
      ]
]

-- the step as which step k of thread t counts
abbrev pub front_of : List EventBox → List Span → ℕ → ℕ → ℕ
front_of [] spans t k = k
front_of (b ∷ events) [] t k = k
front_of (b ∷ events) (s ∷ spans) t k = cond (goes_over b s t k) s.first (front_of events spans t k)

-- box n goes over step k
pub record BoxOver (events : List EventBox) (spans : List Span) (t k y : ℕ) : Type 0 where
  pub number : ℕ
  pub box : EventBox
  pub own : Span
  pub there : slice_get events number ≡ Some box
  pub goes : slice_get spans number ≡ Some own
  pub over : GoesOver box own t k
  pub is : y ≡ own.first

abbrev pub NoneOver : List EventBox → List Span → ℕ → ℕ → Type 0
NoneOver events spans t k = (n : ℕ) (b : EventBox) (s : Span) → slice_get events n ≡ Some b → slice_get spans n ≡ Some s → GoesOver b s t k → ⊥

pub front_cases : (events : List EventBox) (spans : List Span) (t k : ℕ)
    → BoxOver events spans t k (front_of events spans t k) ⊎ ((front_of events spans t k ≡ k) × NoneOver events spans t k)
front_cases [] spans t k = inr (refl, λ n b s is goes over. none-some b is)
front_cases (b ∷ events) [] t k = inr (refl, λ n c s is goes over. none-some s goes)
front_cases (b ∷ events) (s ∷ spans) t k = elim (goes_over_cases b s t k) [
  | inl here ↦ inl (record {
    number = 0;
    box = b;
    own = s;
    there = refl;
    goes = refl;
    over = here.1;
    is = ap (λ (x : Bool). cond x s.first (front_of events spans t k)) here.0;
  })
  | inr not ↦
      let skip = ap (λ (x : Bool). cond x s.first (front_of events spans t k)) not.0 in
      elim (front_cases events spans t k) [
        | inl later ↦ inl (record {
          number = suc later.number;
          box = later.box;
          own = later.own;
          there = later.there;
          goes = later.goes;
          over = later.over;
          is = skip ∙ later.is;
        })
        | inr none ↦ inr (skip ∙ none.0, none_more b s events spans t k not.1 none.1)
      ]
]
  where
    none_more : (b : EventBox) (s : Span) (events : List EventBox) (spans : List Span) (t k : ℕ) → (GoesOver b s t k → ⊥) → NoneOver events spans t k
        → NoneOver (b ∷ events) (s ∷ spans) t k
    none_more b s events spans t k never rest zero c z is goes over =
        never (subst (λ (x : EventBox). GoesOver x s t k) (sym (same_Some b c is)) (subst (λ (x : Span). GoesOver c x t k) (sym (same_Some s z goes)) over))
    none_more b s events spans t k never rest (suc n) c z is goes over = rest n c z is goes over
