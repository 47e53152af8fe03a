-- The events of a box, one after the other.
use Rattle.std.proofs.Common.{◌≡◌, ℕ, suc, ◌+◌, ◌<◌, ◌≤◌, inl, inr, Some, List, [], ◌∷◌, length, refl, sym, ◌∙◌, subst, arith}
use Rattle.std.specs.Prelude.{slice_get}
use Rattle.ir_log.specs.declared.event.Event.{Event}
use Rattle.ir_trace.specs.Recorded.{Recorded, recorded_thread}
use Rattle.ir_past.specs.Past.{event_at}
use Rattle.ir_past.specs.Answers.{AreCoherent}
use Rattle.ir_picture.specs.Needs.{Needs, placed, CanFollowBox, IsOrder}
use Rattle.ir_picture.specs.Boxes.{AreBoxes, AreFolded}
use Rattle.ir_picture.specs.Placing.{Knows, noted, noted_all, right_of, events_of_all}
use Rattle.ir_picture.specs.declared.placed_box.PlacedBox.{PlacedBox}
use Rattle.ir_picture.specs.declared.table.Version.{Version}
use Rattle.ir_picture.proofs.Lists.{slice_get_of_map}
use Rattle.ir_picture.proofs.Orders.{placed_cons_own, placed_cons_other, needed_event_is_placed}
use Rattle.ir_picture.proofs.FoldNeeds.{read_needs_as_repeated, repeated_try_needs_none}
use Rattle.ir_picture.proofs.Known.{knows_after_noted_event}

-- an order that has come to event n of thread t, and what is known then
pub record OrderReaches (r : Recorded) (boxes : List PlacedBox) (c : ℕ → ℕ) (t n : ℕ) (f : ℕ → ℕ → Version) : Type 0 where
  pub order : List ℕ
  pub is : IsOrder r order
  pub here : placed order t ≡ n
  pub others : (u : ℕ) → (u ≡ t → ⊥) → placed order u ≡ c u
  pub knows : Knows r boxes (placed order) f

-- an event that repeats something can follow
pub repeated_can_follow : (r : Recorded) (order : List ℕ) (t i : ℕ) → IsOrder r order → placed order t ≡ suc i
    → suc i < length (recorded_thread r t).events → AreFolded (recorded_thread r t).events i (suc i) → CanFollowBox r (placed order) t
repeated_can_follow r order t i is here there folded = record {
  there = subst (λ n. n < length (recorded_thread r t).events) (sym here) there;
  needs = λ u j needs. elim folded.repeats [
    | inl reads ↦ needed_event_is_placed r order is t reads.1.before u j (omega (arith, here, reads.1.earlier))
        (read_needs_as_repeated r t (suc i) u j reads.1 (subst (λ n. Needs r t n u j) here needs))
    | inr tries ↦ absurd (repeated_try_needs_none r t (suc i) u j tries.1 (subst (λ n. Needs r t n u j) here needs))
  ];
}

placed_same_number : (u t : ℕ) (xs ys : List ℕ) (n : ℕ) → placed xs u ≡ n → n ≡ placed ys u → placed xs u ≡ placed ys u
placed_same_number u t xs ys n a b = a ∙ b

pub order_reaches_box_end : (r : Recorded) (boxes : List PlacedBox) (k : ℕ) (b : PlacedBox) → AreCoherent r → AreBoxes r (events_of_all boxes)
    → slice_get boxes k ≡ Some b → (es : List Event) (order : List ℕ) (f : ℕ → ℕ → Version) → IsOrder r order
    → ((m : ℕ) (e : Event) → slice_get es m ≡ Some e → event_at r b.events.thread (placed order b.events.thread + m) ≡ Some e)
    → b.events.event ≤ placed order b.events.thread
    → placed order b.events.thread + length es ≡ b.events.event + b.events.count
    → (0 < length es → CanFollowBox r (placed order) b.events.thread) → Knows r boxes (placed order) f
    → OrderReaches r boxes (placed order) b.events.thread (b.events.event + b.events.count) (noted_all es (right_of b.end) f)
order_reaches_box_end r boxes k b coherent are at [] order f is events from ends follow knows = record {
  order = order;
  is = is;
  here = omega (arith, ends);
  others = λ u ne. refl;
  knows = knows;
}
order_reaches_box_end r boxes k b coherent are at (e ∷ es) order f is events from ends follow knows =
    let t = b.events.thread in
    let next : List ℕ = t ∷ order in
    let now : placed next t ≡ suc (placed order t) = placed_cons_own t order in
    let can : CanFollowBox r (placed order) t = follow (omega arith) in
    let is_next : IsOrder r next = (is, can) in
    let event : event_at r t (placed order t) ≡ Some e = subst (λ n. event_at r t n ≡ Some e) (omega arith) (events 0 e refl) in
    let known : Knows r boxes (placed next) (noted e (right_of b.end) f) =
    knows_after_noted_event r boxes (placed order) (placed next) f t k b e coherent are event now (λ u ne. placed_cons_other t u order ne) at
    (record { thread = refl; from = from; below = omega (arith, ends) }) knows in
    let box = are.each k b.events (slice_get_of_map (λ (x : PlacedBox). x.events) boxes k b at) in
    let rest = order_reaches_box_end r boxes k b coherent are at es next (noted e (right_of b.end) f) is_next
    (λ m x is_x. subst (λ n. event_at r t n ≡ Some x) (omega (arith, now)) (events (suc m) x is_x))
    (omega (arith, now, from)) (omega (arith, now, ends))
    (λ more. repeated_can_follow r next t (placed order t) is_next now (omega (arith, more, ends, box.within))
    (box.folds (placed order t) from (omega (arith, more, ends)))) known in
    record {
      order = rest.order;
      is = rest.is;
      here = rest.here;
      others = λ u ne. placed_same_number u t rest.order order (placed next u) (rest.others u ne) (placed_cons_other t u order ne);
      knows = rest.knows;
    }
