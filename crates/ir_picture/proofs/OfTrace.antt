-- A picture of a trace has boxes of the trace, an end for each thread, and stale writes that come by rising thread and event.
use Rattle.std.proofs.Common.{◌≡◌, ℕ, zero, suc, ◌<◌, Bool, true, false, cond, Option, Some, None, List, [], ◌∷◌, map, sym, ap, ◌∙◌, subst, arith}
use Rattle.std.specs.Prelude.{slice_get, filter, ◌&&◌}
use Rattle.std.specs.Option.{option_map}
use Rattle.std.proofs.lemmas.Option.{none-some, slice_get-map}
use Rattle.ir_coherence.specs.Before.{IsBefore}
use Rattle.ir_trace.specs.Recorded.{Recorded}
use Rattle.ir_past.specs.Past.{IsRising}
use Rattle.ir_past.specs.declared.stale_write.StaleWrite.{StaleWrite}
use Rattle.ir_picture.specs.Shown.{AreShown, has_box, is_near}
use Rattle.ir_picture.specs.Answers.{IsPicture}
use Rattle.ir_picture.specs.Progress.{IsOfPicture}
use Rattle.ir_picture.specs.declared.asked.Around.{Around}
use Rattle.ir_picture.specs.declared.placed_box.PlacedBox.{PlacedBox}
use Rattle.ir_picture.specs.declared.picture.Picture.{Picture}
use Rattle.ir_picture.proofs.Filtered.{picture_has_some_boxes}

-- a list has this element
abbrev IsIn : {A : Type 0} → List A → A → Type 0
IsIn xs x = (j : ℕ) × (slice_get xs j ≡ Some x)

-- what is left of a list was in it
filtered_is_in_list : {A : Type 0} (f : A → Bool) (xs : List A) (k : ℕ) (x : A) → slice_get (filter f xs) k ≡ Some x → IsIn xs x
filtered_is_in_list f [] k x at = absurd (none-some x at)
filtered_is_in_list {A} f (y ∷ ys) k x at = by (f y) k (λ j there. filtered_is_in_list f ys j x there) at
  where
    later : IsIn ys x → IsIn (y ∷ ys) x
    later p = (suc p.0, p.1)

    by : (b : Bool) (k : ℕ) → ((j : ℕ) → slice_get (filter f ys) j ≡ Some x → IsIn ys x)
        → slice_get (cond b (y ∷ filter f ys) (filter f ys)) k ≡ Some x → IsIn (y ∷ ys) x
    by true zero rest at = (zero, at)
    by true (suc k) rest at = later (rest k at)
    by false k rest at = later (rest k at)

-- what is left comes in the same order
filtered_stale_rising : (f : StaleWrite → Bool) (xs : List StaleWrite) → IsRising xs → IsRising (filter f xs)
filtered_stale_rising f [] rising = λ a b x y less at_a at_b. absurd (none-some x at_a)
filtered_stale_rising f (z ∷ zs) rising = by (f z)
    (filtered_stale_rising f zs (λ a b x y less at_a at_b. rising (suc a) (suc b) x y (omega (arith, less)) at_a at_b))
  where
    first : IsRising (filter f zs) → (a b : ℕ) (x y : StaleWrite) → a < b → slice_get (z ∷ filter f zs) a ≡ Some x
        → slice_get (z ∷ filter f zs) b ≡ Some y → IsBefore x.thread x.event y.thread y.event
    first rest zero zero x y less at_a at_b = absurd (omega (arith, less))
    first rest zero (suc b) x y less at_a at_b =
        let there = filtered_is_in_list f zs b y at_b in rising 0 (suc there.0) x y (omega arith) at_a there.1
    first rest (suc a) zero x y less at_a at_b = absurd (omega (arith, less))
    first rest (suc a) (suc b) x y less at_a at_b = rest a b x y (omega (arith, less)) at_a at_b

    by : (b : Bool) → IsRising (filter f zs) → IsRising (cond b (z ∷ filter f zs) (filter f zs))
    by true rest = first rest
    by false rest = rest

-- what is shown is among all
shown_box_is_in_all : (all : List PlacedBox) (near : Option Around) (shown : List PlacedBox) → AreShown all near shown → (k : ℕ) (b : PlacedBox)
    → slice_get shown k ≡ Some b → IsIn all b
shown_box_is_in_all all None shown is k b at = (k, ap (λ (bs : List PlacedBox). slice_get bs k) (sym is) ∙ at)
shown_box_is_in_all all (Some near) shown is k b at =
    filtered_is_in_list (is_near is.0 near.span) all k b (ap (λ (bs : List PlacedBox). slice_get bs k) (sym is.2) ∙ at)

slice_get-map_events : (all : List PlacedBox) (j : ℕ) (b : PlacedBox) → slice_get all j ≡ Some b
    → slice_get (map (λ (x : PlacedBox). x.events) all) j ≡ Some b.events
slice_get-map_events all j b at = slice_get-map (λ (x : PlacedBox). x.events) all j ∙ mapped (slice_get all j) at
  where
    mapped : (x : Option PlacedBox) → x ≡ Some b → option_map (λ (x : PlacedBox). x.events) x ≡ Some b.events
    mapped x is = ap (option_map (λ (x : PlacedBox). x.events)) is

pub picture_is_of_trace : (r : Recorded) (near : Option Around) (p : Picture) → IsPicture r near p → IsOfPicture r p
picture_is_of_trace r near p is = record {
  boxes = λ k b at.
      let there = shown_box_is_in_all is.all near p.boxes.items is.shown k b at in
      is.placed.all.each there.0 b.events (slice_get-map_events is.all there.0 b there.1);
  some = picture_has_some_boxes r near p is;
  ends = is.placed.threads;
  stale = subst IsRising (sym is.stale)
      (filtered_stale_rising (λ (x : StaleWrite). has_box p.boxes.items x.thread x.event && has_box p.boxes.items x.thread x.read) is.rows is.are.rising);
}
