-- Several objects in place of others.
use Rattle.std.proofs.Common.{◌≡◌, ◌≢◌, ◌<◌, ℕ, zero, suc, List, [], ◌∷◌, ◌++◌, length, get_or, set, map, refl, sym, ap, ◌∙◌, subst, arith}
use Rattle.std.specs.List.{AllByRecursion}
use Rattle.std.proofs.lemmas.List.{set-set, set_comm, set-get_or, get_or-set_same, get_or-set_other, length-set, map-set}
use Rattle.ir_lemmas.proofs.CallerLemmas.{length_of_map, all_of_push, all_of_set}
use Rattle.ir_flat.specs.Flat.{idle}
use Rattle.ir_object.specs.Empty.{empty}
use Rattle.ir_state_store.specs.declared.spot.Spot.{Spot}
use Rattle.ir_state_store.specs.Nodes.{SourcedFlat, sourced_thread, cells_at, HaveWords}
use Rattle.ir_state_store.specs.Table.{no_source}
use Rattle.ir_object.specs.Cell.{Cell}
use Rattle.ir_graph.specs.Hand.{with_items, with_hand, IsHandOf, IsNoneOf, EachOnce, AllPairs, IsAtSpot}

pub length-with_items : {X : Type 0} (items : List X) (numbers : List ℕ) (new : List X) → length (with_items items numbers new) ≡ length items
length-with_items items [] new = refl
length-with_items items (o ∷ numbers) [] = refl
length-with_items items (o ∷ numbers) (x ∷ new) = length-with_items (set items o x) numbers new ∙ length-set items o x

-- what is so of each number is so of the one at a place
pub number_at_place_satisfies : (P : ℕ → Type 0) (numbers : List ℕ) (p : ℕ) → AllByRecursion P numbers → p < length numbers → P (get_or numbers p 0)
number_at_place_satisfies P [] p all less = absurd (omega (arith, less))
number_at_place_satisfies P (o ∷ numbers) zero all less = all.0
number_at_place_satisfies P (o ∷ numbers) (suc p) all less = number_at_place_satisfies P numbers p all.1 (omega (arith, less))

-- an item of one of these numbers that is put before is put over
pub with_items_over_set : {X : Type 0} (items : List X) (numbers : List ℕ) (new : List X) (p : ℕ) (x : X) → EachOnce numbers → p < length numbers
    → length new ≡ length numbers → with_items (set items (get_or numbers p 0) x) numbers new ≡ with_items items numbers new
with_items_over_set items [] new p x once less each = absurd (omega (arith, less))
with_items_over_set items (o ∷ numbers) [] p x once less each = absurd (omega (arith, each))
with_items_over_set items (o ∷ numbers) (y ∷ new) zero x once less each = ap (λ l. with_items l numbers new) (set-set items o x y)
with_items_over_set items (o ∷ numbers) (y ∷ new) (suc p) x once less each =
    let q = get_or numbers p 0 in
    let other : q ≢ o = number_at_place_satisfies (λ r. r ≢ o) numbers p once.0 (omega (arith, less)) in
    ap (λ l. with_items l numbers new) (set_comm items q o x y other)
    ∙ with_items_over_set (set items o y) numbers new p x once.1 (omega (arith, less)) (omega (arith, each))

-- with their own items they are as they were
pub with_own_items : (objects : List Cell) (numbers : List ℕ) → with_items objects numbers (map (λ o. get_or objects o empty) numbers) ≡ objects
with_own_items objects [] = refl
with_own_items objects (o ∷ numbers) =
    ap (λ l. with_items l numbers (map (λ p. get_or objects p empty) numbers)) (set-get_or objects o empty) ∙ with_own_items objects numbers

-- the same of each
pub map_of_with_items : {X Y : Type 0} (f : X → Y) (items : List X) (numbers : List ℕ) (new : List X)
    → map f (with_items items numbers new) ≡ with_items (map f items) numbers (map f new)
map_of_with_items f items [] new = refl
map_of_with_items f items (o ∷ numbers) [] = refl
map_of_with_items f items (o ∷ numbers) (x ∷ new) =
    map_of_with_items f (set items o x) numbers new ∙ ap (λ l. with_items l numbers (map f new)) (map-set f items o x)

pub all_of_with_items : {X : Type 0} (P : X → Type 0) (items : List X) (numbers : List ℕ) (new : List X) → AllByRecursion P items
    → AllByRecursion P new → AllByRecursion P (with_items items numbers new)
all_of_with_items P items [] new all too = all
all_of_with_items P items (o ∷ numbers) [] all too = all
all_of_with_items P items (o ∷ numbers) (x ∷ new) all too = all_of_with_items P (set items o x) numbers new (all_of_set P items o x all too.0) too.1

-- a state with its own thread and objects is the state
pub with_own_hand_is_same : (s : SourcedFlat) (t : ℕ) (numbers : List ℕ) (cells : List Cell) → IsHandOf s.flat.objects numbers cells
    → with_hand s t (sourced_thread s t) numbers cells ≡ s
with_own_hand_is_same s t numbers cells is = λ i. record {
  flat = record s.flat {
    threads = set-get_or s.flat.threads t idle i;
    objects = (ap (with_items s.flat.objects numbers) is.own ∙ with_own_items s.flat.objects numbers) i;
  };
  sources = set-get_or s.sources t no_source i;
}

-- ---- the objects of a hand

pub length-hand : (objects : List Cell) (numbers : List ℕ) (cells : List Cell) → IsHandOf objects numbers cells → length cells ≡ length numbers
length-hand objects numbers cells is = ap length is.own ∙ length_of_map (λ o. get_or objects o empty) numbers

own_objects_at_place : (objects : List Cell) (numbers : List ℕ) (p : ℕ) → p < length numbers
    → get_or (map (λ o. get_or objects o empty) numbers) p empty ≡ get_or objects (get_or numbers p 0) empty
own_objects_at_place objects [] p less = absurd (omega (arith, less))
own_objects_at_place objects (o ∷ numbers) zero less = refl
own_objects_at_place objects (o ∷ numbers) (suc p) less = own_objects_at_place objects numbers p (omega (arith, less))

-- at the place of a number is its object
pub object_at_hand_place : (objects : List Cell) (numbers : List ℕ) (cells : List Cell) (p : ℕ) → IsHandOf objects numbers cells → p < length numbers
    → get_or objects (get_or numbers p 0) empty ≡ get_or cells p empty
object_at_hand_place objects numbers cells p is less = sym (ap (λ l. get_or l p empty) is.own ∙ own_objects_at_place objects numbers p less)

own_objects_past_other_set : (objects : List Cell) (numbers : List ℕ) (o : ℕ) (c : Cell) → IsNoneOf o numbers
    → map (λ q. get_or (set objects o c) q empty) numbers ≡ map (λ q. get_or objects q empty) numbers
own_objects_past_other_set objects [] o c none = refl
own_objects_past_other_set objects (q ∷ numbers) o c none = λ i. get_or-set_other objects o q c empty none.0 i ∷ own_objects_past_other_set objects numbers o c none.1 i

own_objects_after_set : (objects : List Cell) (numbers : List ℕ) (p : ℕ) (c : Cell) → EachOnce numbers → AllByRecursion (λ o. o < length objects) numbers
    → p < length numbers
    → set (map (λ o. get_or objects o empty) numbers) p c ≡ map (λ o. get_or (set objects (get_or numbers p 0) c) o empty) numbers
own_objects_after_set objects [] p c once within less = absurd (omega (arith, less))
own_objects_after_set objects (o ∷ numbers) zero c once within less = λ i.
    sym (get_or-set_same objects o c empty within.0) i ∷ sym (own_objects_past_other_set objects numbers o c once.0) i
own_objects_after_set objects (o ∷ numbers) (suc p) c once within less =
    let q = get_or numbers p 0 in
    let other : q ≢ o = number_at_place_satisfies (λ r. r ≢ o) numbers p once.0 (omega (arith, less)) in λ i.
    sym (get_or-set_other objects q o c empty (λ e. other (sym e))) i ∷ own_objects_after_set objects numbers p c once.1 within.1 (omega (arith, less)) i

-- another object at one place
pub hand_after_set : (objects : List Cell) (numbers : List ℕ) (cells : List Cell) (p : ℕ) (c : Cell) → IsHandOf objects numbers cells
    → p < length numbers → IsHandOf (set objects (get_or numbers p 0) c) numbers (set cells p c)
hand_after_set objects numbers cells p c is less = record {
  once = is.once;
  within = subst (λ n. AllByRecursion (λ o. o < n) numbers) (sym (length-set objects (get_or numbers p 0) c)) is.within;
  own = ap (λ l. set l p c) is.own ∙ own_objects_after_set objects numbers p c is.once is.within less;
}

-- ---- numbers and spots found one by one

pub numbers_once_after_push : (numbers : List ℕ) (o : ℕ) → EachOnce numbers → AllByRecursion (λ p. p ≢ o) numbers → EachOnce (numbers ++ o ∷ [])
numbers_once_after_push [] o once others = (tt, tt)
numbers_once_after_push (p ∷ numbers) o once others = (
  all_of_push (λ q. q ≢ p) numbers o once.0 (λ e. others.0 (sym e)),
  numbers_once_after_push numbers o once.1 others.1,
)

pub pairs_after_push : {X Y : Type 0} (P : X → Y → Type 0) (xs : List X) (ys : List Y) (x : X) (y : Y) → AllPairs P xs ys → P x y
    → AllPairs P (xs ++ x ∷ []) (ys ++ y ∷ [])
pairs_after_push P [] [] x y all is = (is, tt)
pairs_after_push P [] (z ∷ ys) x y all is = absurd all
pairs_after_push P (z ∷ xs) [] x y all is = absurd all
pairs_after_push P (z ∷ xs) (w ∷ ys) x y all is = (all.0, pairs_after_push P xs ys x y all.1 is)

pub pairs_weaker : {X Y : Type 0} (P Q : X → Y → Type 0) (xs : List X) (ys : List Y) → ((x : X) (y : Y) → P x y → Q x y) → AllPairs P xs ys
    → AllPairs Q xs ys
pairs_weaker P Q [] [] each all = tt
pairs_weaker P Q [] (y ∷ ys) each all = absurd all
pairs_weaker P Q (x ∷ xs) [] each all = absurd all
pairs_weaker P Q (x ∷ xs) (y ∷ ys) each all = (each x y all.0, pairs_weaker P Q xs ys each all.1)

-- objects at these spots are a hand
module _ (words : List (List ℕ)) (objects : List Cell) where
  within_at_spots : (numbers : List ℕ) (spots : List Spot) → AllPairs (IsAtSpot words objects) numbers spots → AllByRecursion (λ o. o < length objects) numbers
  within_at_spots [] spots all = tt
  within_at_spots (o ∷ numbers) [] all = absurd all
  within_at_spots (o ∷ numbers) (x ∷ spots) all = (all.0.within, within_at_spots numbers spots all.1)

  own_at_spots : (numbers : List ℕ) (spots : List Spot) → AllPairs (IsAtSpot words objects) numbers spots
      → cells_at words spots ≡ map (λ o. get_or objects o empty) numbers
  own_at_spots [] [] all = refl
  own_at_spots [] (x ∷ spots) all = absurd all
  own_at_spots (o ∷ numbers) [] all = absurd all
  own_at_spots (o ∷ numbers) (x ∷ spots) all = λ i. all.0.own i ∷ own_at_spots numbers spots all.1 i

  pub known_at_spots : (numbers : List ℕ) (spots : List Spot) → AllPairs (IsAtSpot words objects) numbers spots → HaveWords words spots
  known_at_spots [] [] all = tt
  known_at_spots [] (x ∷ spots) all = absurd all
  known_at_spots (o ∷ numbers) [] all = absurd all
  known_at_spots (o ∷ numbers) (x ∷ spots) all = (all.0.known, known_at_spots numbers spots all.1)

  pub hand_at_spots : (numbers : List ℕ) (spots : List Spot) → EachOnce numbers → AllPairs (IsAtSpot words objects) numbers spots
      → IsHandOf objects numbers (cells_at words spots)
  hand_at_spots numbers spots once all = record { once = once; within = within_at_spots numbers spots all; own = own_at_spots numbers spots all }
