-- Boxes that are left of a list, in their order.
use Rattle.std.proofs.Common.{◌≡◌, ℕ, suc, zero, ◌<◌, Bool, true, false, cond, Option, Some, None, List, [], ◌∷◌, length, refl, sym, ap, ◌∙◌, subst, arith}
use Rattle.std.specs.Prelude.{slice_get, filter}
use Rattle.std.proofs.lemmas.Option.{none-some}
use Rattle.ir_trace.specs.Recorded.{Recorded, recorded_thread}
use Rattle.ir_picture.specs.Answers.{IsPicture}
use Rattle.ir_picture.specs.Boxes.{IsInBox, IsBox, AreBoxes}
use Rattle.ir_picture.specs.Boxing.{AreBoxesApart, AreSomeBoxes}
use Rattle.ir_picture.specs.Placing.{events_of_all}
use Rattle.ir_picture.specs.Shown.{StartsAt, AreShown, is_near}
use Rattle.ir_picture.specs.declared.asked.Around.{Around}
use Rattle.ir_picture.specs.declared.event_box.EventBox.{EventBox}
use Rattle.ir_picture.specs.declared.placed_box.PlacedBox.{PlacedBox}
use Rattle.ir_picture.specs.declared.picture.Picture.{Picture}
use Rattle.ir_picture.proofs.Lists.{slice_get_of_map, slice_get_map_inverse}
use Rattle.ir_picture.proofs.Cuts.{boxes_are_apart}

-- where an element of a list is that is left
filtered_was_in_list : {X : Type 0} (test : X → Bool) (xs : List X) (k : ℕ) (x : X) → slice_get (filter test xs) k ≡ Some x → (i : ℕ) × (slice_get xs i ≡ Some x)
filtered_was_in_list test [] k x is = absurd (none-some x is)
filtered_was_in_list {X} test (y ∷ ys) k x is = by (test y) k (λ j at. filtered_was_in_list test ys j x at) is
  where
    by : (c : Bool) (j : ℕ) → ((i : ℕ) → slice_get (filter test ys) i ≡ Some x → (m : ℕ) × (slice_get ys m ≡ Some x))
        → slice_get (cond c (y ∷ filter test ys) (filter test ys)) j ≡ Some x → (i : ℕ) × (slice_get (y ∷ ys) i ≡ Some x)
    by true zero rest at = (0, at)
    by true (suc j) rest at = let r = rest j at in (suc r.0, r.1)
    by false j rest at = let r = rest j at in (suc r.0, r.1)

-- two that are left are in the same order
filtered_keep_order : {X : Type 0} (test : X → Bool) (xs : List X) (k m : ℕ) (x y : X) → k < m → slice_get (filter test xs) k ≡ Some x
    → slice_get (filter test xs) m ≡ Some y → (i j : ℕ) × (i < j) × (slice_get xs i ≡ Some x) × (slice_get xs j ≡ Some y)
filtered_keep_order test [] k m x y less first second = absurd (none-some x first)
filtered_keep_order {X} test (z ∷ zs) k m x y less first second =
    by (test z) k m less (λ a b l f s. filtered_keep_order test zs a b x y l f s) (λ b s. filtered_was_in_list test zs b y s) first second
  where
    by : (c : Bool) (a b : ℕ) → a < b
        → ((p q : ℕ) → p < q → slice_get (filter test zs) p ≡ Some x → slice_get (filter test zs) q ≡ Some y
        → (i j : ℕ) × (i < j) × (slice_get zs i ≡ Some x) × (slice_get zs j ≡ Some y))
        → ((q : ℕ) → slice_get (filter test zs) q ≡ Some y → (j : ℕ) × (slice_get zs j ≡ Some y))
        → slice_get (cond c (z ∷ filter test zs) (filter test zs)) a ≡ Some x → slice_get (cond c (z ∷ filter test zs) (filter test zs)) b ≡ Some y
        → (i j : ℕ) × (i < j) × (slice_get (z ∷ zs) i ≡ Some x) × (slice_get (z ∷ zs) j ≡ Some y)
    by true zero zero l rest one f s = absurd (omega (arith, l))
    by true zero (suc b) l rest one f s = let r = one b s in (0, suc r.0, omega arith, f, r.1)
    by true (suc a) zero l rest one f s = absurd (omega (arith, l))
    by true (suc a) (suc b) l rest one f s = let r = rest a b (omega (arith, l)) f s in (suc r.0, suc r.1, omega (arith, r.2), r.3, r.4)
    by false a b l rest one f s = let r = rest a b l f s in (suc r.0, suc r.1, omega (arith, r.2), r.3, r.4)

filtered_boxes_apart : (test : PlacedBox → Bool) (boxes : List PlacedBox) → AreBoxesApart (events_of_all boxes) → AreBoxesApart (events_of_all (filter test boxes))
filtered_boxes_apart test boxes h k m a b less first second =
    let x = slice_get_map_inverse (λ (z : PlacedBox). z.events) (filter test boxes) k a first in
    let y = slice_get_map_inverse (λ (z : PlacedBox). z.events) (filter test boxes) m b second in
    let at = filtered_keep_order test boxes k m x.0 y.0 less x.1 y.1 in
    h at.0 at.1 a b at.2 (slice_get_of_map (λ (z : PlacedBox). z.events) boxes at.0 x.0 at.3 ∙ ap Some x.2)
    (slice_get_of_map (λ (z : PlacedBox). z.events) boxes at.1 y.0 at.4 ∙ ap Some y.2)

filtered_are_boxes : (r : Recorded) (test : PlacedBox → Bool) (boxes : List PlacedBox)
    → ((k : ℕ) (b : EventBox) → slice_get (events_of_all boxes) k ≡ Some b → IsBox r b)
    → (k : ℕ) (b : EventBox) → slice_get (events_of_all (filter test boxes)) k ≡ Some b → IsBox r b
filtered_are_boxes r test boxes h k b is =
    let x = slice_get_map_inverse (λ (z : PlacedBox). z.events) (filter test boxes) k b is in
    let at = filtered_was_in_list test boxes k x.0 x.1 in
    h at.0 b (slice_get_of_map (λ (z : PlacedBox). z.events) boxes at.0 x.0 at.1 ∙ ap Some x.2)

-- of boxes in their order those that are shown are in their order too
pub shown_of_some_boxes : (r : Recorded) (all shown : List PlacedBox) (near : Option Around) → AreSomeBoxes r (events_of_all all) → AreShown all near shown
    → AreSomeBoxes r (events_of_all shown)
shown_of_some_boxes r all shown None are is = subst (λ (bs : List PlacedBox). AreSomeBoxes r (events_of_all bs)) (sym is) are
shown_of_some_boxes r all shown (Some near) are is = subst (λ (bs : List PlacedBox). AreSomeBoxes r (events_of_all bs)) (sym is.2) (record {
  each = filtered_are_boxes r (is_near is.0 near.span) all are.each;
  apart = filtered_boxes_apart (is_near is.0 near.span) all are.apart;
})

-- the boxes that are shown are some of the trace's
pub shown_are_some_boxes : (r : Recorded) (all shown : List PlacedBox) (near : Option Around) → AreBoxes r (events_of_all all) → AreShown all near shown
    → AreSomeBoxes r (events_of_all shown)
shown_are_some_boxes r all shown near are is =
    shown_of_some_boxes r all shown near (record { each = are.each; apart = boxes_are_apart r (events_of_all all) are }) is

-- the boxes of a picture are some of the trace's
pub picture_has_some_boxes : (r : Recorded) (near : Option Around) (p : Picture) → IsPicture r near p → AreSomeBoxes r (events_of_all p.boxes.items)
picture_has_some_boxes r near p h = shown_are_some_boxes r h.all p.boxes.items near h.placed.all h.shown

-- an event that is there is in a box, which starts somewhere
pub event_start_exists : (r : Recorded) (boxes : List PlacedBox) (t i : ℕ) → AreBoxes r (events_of_all boxes) → i < length (recorded_thread r t).events
    → (x : ℕ) × StartsAt boxes t i x
event_start_exists r boxes t i are within =
    let h = are.all t i within in
    let back = slice_get_map_inverse (λ (z : PlacedBox). z.events) boxes h.number h.box h.there in (
      back.0.start.x,
      record {
        number = h.number;
        box = back.0;
        there = back.1;
        has = subst (λ (b : EventBox). IsInBox b t i) (sym back.2) h.has;
        start = refl;
      },
    )
