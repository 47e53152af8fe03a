-- Orders of events, each after all that it needs.
use Rattle.std.proofs.Common.{◌≡◌, ℕ, suc, ◌<◌, ◌≤◌, inl, inr, cond, List, [], ◌∷◌, length, refl, sym, ap, subst, arith, eq-eqb, ne_eqb}
use Rattle.std.proofs.lemmas.Bool.{cases_eq, cases_lt}
use Rattle.ir_trace.specs.Recorded.{Recorded, recorded_thread}
use Rattle.ir_picture.specs.Needs.{Needs, placed, CanFollowBox, IsOrder, IsFullOrder}

pub placed_cons_own : (t : ℕ) (ts : List ℕ) → placed (t ∷ ts) t ≡ suc (placed ts t)
placed_cons_own t ts = omega (arith, ap {B = ℕ} (λ b. cond b 1 0) (eq-eqb t t refl))

pub placed_cons_other : (t u : ℕ) (ts : List ℕ) → (u ≡ t → ⊥) → placed (t ∷ ts) u ≡ placed ts u
placed_cons_other t u ts ne = omega (arith, ap {B = ℕ} (λ b. cond b 1 0) (ne_eqb t u (λ e. ne (sym e))))

pub placed_never_falls : (t u : ℕ) (ts : List ℕ) → placed ts u ≤ placed (t ∷ ts) u
placed_never_falls t u ts = elim (cases_eq u t) [
  | inl here ↦ subst (λ z. placed ts z ≤ placed (t ∷ ts) z) (sym here) (omega (arith, placed_cons_own t ts))
  | inr ne ↦ omega (arith, placed_cons_other t u ts ne)
]

-- what a placed event needs is placed
pub needed_event_is_placed : (r : Recorded) (order : List ℕ) → IsOrder r order → (t i u j : ℕ) → i < placed order t → Needs r t i u j → j < placed order u
needed_event_is_placed r [] is t i u j less needs = absurd (omega (arith, less))
needed_event_is_placed r (s ∷ ss) is t i u j less needs = elim (cases_lt i (placed ss t)) [
  | inl old ↦ omega (arith, needed_event_is_placed r ss is.0 t i u j old needs, placed_never_falls s u ss)
  | inr not ↦ elim (cases_eq t s) [
    | inl here ↦
        let event : i ≡ placed ss s = omega (arith, not, less, placed_cons_own s ss, ap (placed ss) here, ap (placed (s ∷ ss)) here) in
        omega (arith, is.1.needs u j (subst (λ z. Needs r z (placed ss s) u j) here (subst (λ z. Needs r t z u j) event needs)), placed_never_falls s u ss)
    | inr ne ↦ absurd (omega (arith, not, less, placed_cons_other s t ss ne))
  ]
]

-- no more events are placed than there are
pub placed_le_event_count : (r : Recorded) (order : List ℕ) → IsOrder r order → (t : ℕ) → placed order t ≤ length (recorded_thread r t).events
placed_le_event_count r [] is t = omega arith
placed_le_event_count r (s ∷ ss) is t = elim (cases_eq t s) [
  | inl here ↦ subst (λ z. placed (s ∷ ss) z ≤ length (recorded_thread r z).events) (sym here) (omega (arith, placed_cons_own s ss, is.1.there))
  | inr ne ↦ omega (arith, placed_cons_other s t ss ne, placed_le_event_count r ss is.0 t)
]

-- an order that no thread can follow places as many events as any
pub stuck_order_places_most : (r : Recorded) (order : List ℕ) → ((t : ℕ) → CanFollowBox r (placed order) t → ⊥) → (other : List ℕ) → IsOrder r other → (t : ℕ)
    → placed other t ≤ placed order t
stuck_order_places_most r order stuck [] is t = omega arith
stuck_order_places_most r order stuck (s ∷ ss) is t = elim (cases_eq t s) [
  | inl here ↦ elim (cases_lt (placed ss s) (placed order s)) [
    | inl less ↦ subst (λ z. placed (s ∷ ss) z ≤ placed order z) (sym here) (omega (arith, placed_cons_own s ss, less))
    | inr not ↦
        let same : placed ss s ≡ placed order s = omega (arith, not, stuck_order_places_most r order stuck ss is.0 s) in
        absurd (stuck s record {
          there = subst (λ z. z < length (recorded_thread r s).events) same is.1.there;
          needs = λ u j needs. omega (arith, is.1.needs u j (subst (λ z. Needs r s z u j) (sym same) needs), stuck_order_places_most r order stuck ss is.0 u);
        })
  ]
  | inr ne ↦ omega (arith, placed_cons_other s t ss ne, stuck_order_places_most r order stuck ss is.0 t)
]

pub stuck_order_is_full : (r : Recorded) (order : List ℕ) → IsOrder r order → ((t : ℕ) → CanFollowBox r (placed order) t → ⊥) → IsFullOrder r order
stuck_order_is_full r order is stuck = record { is = is; most = stuck_order_places_most r order stuck }
