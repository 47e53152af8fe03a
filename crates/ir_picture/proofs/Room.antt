-- Places that aren't too far, and how many boxes are left.
use Rattle.std.proofs.Common.{◌≡◌, ℕ, suc, zero, ◌+◌, ◌-◌, ◌*◌, ◌<◌, ◌≤◌, Bool, true, false, ◌==◌, ◌&&◌, if◌then◌else◌, Some, List, [], ◌∷◌, length, slice_set, refl, sym, ap, ◌∙◌, subst, arith}
use Rattle.std.specs.Prelude.{slice_get}
use Rattle.std.specs.Option.{option_map}
use Rattle.std.proofs.lemmas.Option.{same_Some, none-some}
use Rattle.ir_log.specs.declared.event.Event.{Event}
use Rattle.ir_log.specs.declared.event.Event.TheVariants.{Answer, Read, Write, Try}
use Rattle.ir_picture.specs.Places.{length_of}
use Rattle.ir_picture.specs.Placing.{IsNearBox, left_of, first_point, right_of, later_of, made_by_box, after_needs, noted, noted_all, with_reader, with_maker, box_at}
use Rattle.ir_picture.specs.declared.event_box.EventBox.{EventBox}
use Rattle.ir_picture.specs.declared.placed_box.Point.{Point}
use Rattle.ir_picture.specs.declared.placed_box.PlacedBox.{PlacedBox}
use Rattle.ir_picture.specs.declared.table.Version.{Version}
use Rattle.ir_picture.specs.declared.placing.Lane.{Lane}
use Rattle.ir_picture.proofs.Lists.{length_of_slice_set}
use Rattle.ir_picture.proofs.Follows.{some_choice_parts, mapped_some_is_some, made_by_suc_is_made}

-- ---- boxes that are left

left_of_lane_set : (boxes : List PlacedBox) (lanes : List Lane) (t : ℕ) (lane after : Lane) → slice_get lanes t ≡ Some lane
    → left_of boxes (slice_set lanes t after) + (length boxes - lane.next) ≡ left_of boxes lanes + (length boxes - after.next)
left_of_lane_set boxes [] t lane after is = absurd (none-some lane is)
left_of_lane_set boxes (l ∷ ls) zero lane after is = omega (arith, ap (λ (x : Lane). length boxes - x.next) (same_Some l lane is))
left_of_lane_set boxes (l ∷ ls) (suc t) lane after is = omega (arith, left_of_lane_set boxes ls t lane after is)

left_of_equal_counts : (boxes new : List PlacedBox) (lanes : List Lane) → length new ≡ length boxes → left_of new lanes ≡ left_of boxes lanes
left_of_equal_counts boxes new [] same = refl
left_of_equal_counts boxes new (l ∷ ls) same = omega (arith, same, left_of_equal_counts boxes new ls same)

pub left_of_next_box : (boxes : List PlacedBox) (lanes : List Lane) (k t : ℕ) (new : PlacedBox) (lane after : Lane) → slice_get lanes t ≡ Some lane
    → lane.next < length boxes → after.next ≡ lane.next + 1
    → suc (left_of (slice_set boxes k new) (slice_set lanes t after)) ≡ left_of boxes lanes
left_of_next_box boxes lanes k t new lane after at less next = omega (
  arith,
  left_of_equal_counts boxes (slice_set boxes k new) (slice_set lanes t after) (length_of_slice_set boxes k new),
  left_of_lane_set boxes lanes t lane after at,
  less,
  next,
)

pub left_of_le_product : (boxes : List PlacedBox) (lanes : List Lane) → left_of boxes lanes ≤ length lanes * length boxes
left_of_le_product boxes [] = omega arith
left_of_le_product boxes (l ∷ ls) = grind (arith, left_of_le_product boxes ls)

-- ---- places

pub event_length_le_one : (e : Event) → length_of e ≤ 1
event_length_le_one (Answer kind value) = omega arith
event_length_le_one (Read o v) = omega arith
event_length_le_one (Write o v l) = omega arith
event_length_le_one (Try o) = omega arith

pub near_with_fewer_boxes : (top m n : ℕ) (p : Point) → m ≤ n → IsNearBox top n p → IsNearBox top m p
near_with_fewer_boxes top m n p less h = record { x = omega (arith, h.x, less); u = omega (arith, h.u, less) }

pub near_later_of : (top n : ℕ) (p q : Point) → IsNearBox top n p → IsNearBox top n q → IsNearBox top n (later_of p q)
near_later_of top n p q h k = record { x = omega (arith, h.x, k.x); u = omega (arith, h.u, k.u) }

pub near_box_end : (top n : ℕ) (events : EventBox) (e : Event) (free needed : Point) → IsNearBox top (suc n) free → IsNearBox top (suc n) needed
    → IsNearBox top n (right_of (box_at events e free needed).end)
near_box_end top n events e free needed h k = record {
  x = omega (arith, h.x, k.x, event_length_le_one e);
  u = omega (arith, h.u, k.u);
}

pub near_first_point : (top n : ℕ) → 2 * n ≤ top → IsNearBox top n first_point
near_first_point top n h = record { x = omega (arith, h); u = omega (arith, h) }

-- the places that are noted of a version aren't too far
pub record NearVersion (top n : ℕ) (k : Version) : Type 0 where
  pub left : IsNearBox top n k.left
  pub made : (p : Point) → k.made ≡ Some p → IsNearBox top n p

near_version_of_choice : (top n : ℕ) (c : Bool) (x y : Version) → NearVersion top n x → NearVersion top n y → NearVersion top n (if c then x else y)
near_version_of_choice top n true x y h k = h
near_version_of_choice top n false x y h k = k

near_after_noted : (top n : ℕ) (e : Event) (p : Point) (f : ℕ → ℕ → Version) → IsNearBox top n p → ((o v : ℕ) → NearVersion top n (f o v)) → (o v : ℕ)
    → NearVersion top n (noted e p f o v)
near_after_noted top n (Answer kind value) p f h all o v = all o v
near_after_noted top n (Read q w) p f h all o v = near_version_of_choice top n ((o == q) && (v == w)) (with_reader (f q w) p) (f o v)
    (record { left = near_later_of top n (f q w).left p (all q w).left h; made = (all q w).made }) (all o v)
near_after_noted top n (Write q w l) p f h all o v = near_version_of_choice top n ((o == q) && (v == w + 1)) (with_maker (f q (w + 1)) p) (f o v)
    (record { left = (all q (w + 1)).left; made = λ z is. subst (IsNearBox top n) (same_Some p z is) h }) (all o v)
near_after_noted top n (Try q) p f h all o v = all o v

pub near_after_noted_all : (top n : ℕ) (es : List Event) (p : Point) (f : ℕ → ℕ → Version) → IsNearBox top n p → ((o v : ℕ) → NearVersion top n (f o v)) → (o v : ℕ)
    → NearVersion top n (noted_all es p f o v)
near_after_noted_all top n [] p f h all o v = all o v
near_after_noted_all top n (e ∷ es) p f h all o v = near_after_noted_all top n es p (noted e p f) h (near_after_noted top n e p f h all) o v

made_place_is_near : (top n : ℕ) (k : Version) (v : ℕ) (p : Point) → 2 * n ≤ top → NearVersion top n k → made_by_box k v ≡ Some p → IsNearBox top n p
made_place_is_near top n k zero p low h is = subst (IsNearBox top n) (same_Some first_point p is) (near_first_point top n low)
made_place_is_near top n k (suc v) p low h is = h.made p (sym (made_by_suc_is_made k v) ∙ is)

pub needed_place_is_near : (top n : ℕ) (f : ℕ → ℕ → Version) (e : Event) (p : Point) → 2 * n ≤ top → ((o v : ℕ) → NearVersion top n (f o v))
    → after_needs f e ≡ Some p → IsNearBox top n p
needed_place_is_near top n f (Answer kind value) p low all is = subst (IsNearBox top n) (same_Some first_point p is) (near_first_point top n low)
needed_place_is_near top n f (Read o v) p low all is = made_place_is_near top n (f o v) v p low (all o v) is
needed_place_is_near top n f (Write o v l) p low all is =
    let test = some_choice_parts ((f o v).readers == l) (option_map (λ (q : Point). later_of q (f o v).left) (made_by_box (f o v) v)) p is in
    let made = mapped_some_is_some (λ (q : Point). later_of q (f o v).left) (made_by_box (f o v) v) p test.1 in
    subst (IsNearBox top n) made.2 (near_later_of top n made.0 (f o v).left (made_place_is_near top n (f o v) v made.0 low (all o v) made.1) (all o v).left)
needed_place_is_near top n f (Try o) p low all is = subst (IsNearBox top n) (same_Some first_point p is) (near_first_point top n low)
