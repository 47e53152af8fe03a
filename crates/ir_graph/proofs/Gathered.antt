-- Objects of a hand, found one by one.
use Rattle.std.proofs.Common.{◌≡◌, ◌⊎◌, inl, inr, ◌<◌, ◌≤◌, ◌+◌, ℕ, List, [], ◌∷◌, ◌++◌, length, get_or, set, map, take, refl, sym, ap, ◌∙◌, subst, arith}
use Rattle.std.specs.Prelude.{drop, slice_get, Option, Some, IfSome, false, not, ◌&&◌, ◌==◌}
use Rattle.std.specs.Global.{Vec}
use Rattle.std.specs.List.{AllByRecursion}
use Rattle.std.proofs.lemmas.Bool.{and_parts, eqb-true, not-false}
use Rattle.std.proofs.lemmas.List.{take_more, take_all, map_push, drop_more, drop_all}
use Rattle.ir_object.specs.Cell.{Cell}
use Rattle.ir_state_store.specs.declared.spot.Spot.{Spot}
use Rattle.ir_state_store.specs.Nodes.{Shared, SourcedFlat, Grows, HaveWords, cell_in, cells_at}
use Rattle.ir_state_store.proofs.CallerLemmas.{all_by_recursion_weaker, all_of_push}
use Rattle.ir_graph.specs.Hand.{AllPairs, EachOnce, IsAtSpot, IsHand, with_items}
use Rattle.ir_graph.proofs.Hand.{numbers_once_after_push, length-hand, hand_at_spots, pairs_after_push}
use Rattle.ir_graph.proofs.KnownTurns.{cells_grown, have_words_grown}

-- a hand whose numbers after the first are below a limit
pub record IsHandBelow (number limit : ℕ) (numbers : List ℕ) : Type 0 where
  pub is : IsHand number numbers
  pub below : AllByRecursion (λ p. (p ≡ number) ⊎ (p < limit)) numbers

pub single_number_is_hand : (number : ℕ) (numbers : List ℕ) → numbers ≡ number ∷ [] → IsHandBelow number 0 numbers
single_number_is_hand number numbers is = subst (IsHandBelow number 0) (sym is) (record {
  is = record { rest = []; is = refl; once = (tt, tt) };
  below = (inl refl, tt);
})

pub hand_below_larger_limit : (number limit : ℕ) (numbers : List ℕ) → IsHandBelow number limit numbers → IsHandBelow number (limit + 1) numbers
hand_below_larger_limit number limit numbers h = record {
  is = h.is;
  below = all_by_recursion_weaker (λ p. (p ≡ number) ⊎ (p < limit)) (λ p. (p ≡ number) ⊎ (p < limit + 1)) numbers
      (λ p either. elim either [ inl same ↦ inl same | inr less ↦ inr (omega (arith, less)) ]) h.below;
}

pub hand_below_past_other : (number o : ℕ) (numbers new : List ℕ) → new ≡ numbers ++ o ∷ [] → (o ≡ number → ⊥) → IsHandBelow number o numbers
    → IsHandBelow number (o + 1) new
hand_below_past_other number o numbers new is other h = subst (IsHandBelow number (o + 1)) (sym is) (record {
  is = record {
    rest = h.is.rest ++ o ∷ [];
    is = ap (λ l. l ++ o ∷ []) h.is.is;
    once = numbers_once_after_push numbers o h.is.once
        (all_by_recursion_weaker (λ p. (p ≡ number) ⊎ (p < o)) (λ p. p ≡ o → ⊥) numbers
        (λ p either. elim either [ inl same ↦ (λ e. other (sym e ∙ same)) | inr less ↦ (λ e. absurd (omega (arith, less, e))) ]) h.below);
  };
  below = all_of_push (λ p. (p ≡ number) ⊎ (p < o + 1)) numbers o (hand_below_larger_limit number o numbers h).below (inr (omega arith));
})

pub hand_is_nonempty : (number : ℕ) (numbers : List ℕ) → IsHand number numbers → 0 < length numbers
hand_is_nonempty number numbers h = let e = ap length h.is in let n : length (number ∷ h.rest) ≡ length h.rest + 1 = omega arith in omega (arith, e, n)

pub hand_begins_with_number : (number : ℕ) (numbers : List ℕ) → IsHand number numbers → get_or numbers 0 0 ≡ number
hand_begins_with_number number numbers h = ap (λ l. get_or l 0 0) h.is

-- two spots that are compared field by field
pub equal_spots_same : (x y : Spot) → false ≡ not ((x.words == y.words) && ((x.low == y.low) && (x.high == y.high))) → x ≡ y
equal_spots_same x y e =
    let a = and_parts (x.words == y.words) ((x.low == y.low) && (x.high == y.high))
    (not-false ((x.words == y.words) && ((x.low == y.low) && (x.high == y.high))) (sym e)) in
    let b = and_parts (x.low == y.low) (x.high == y.high) a.1 in λ i. record {
      words = eqb-true x.words y.words a.0 i;
      low = eqb-true x.low y.low b.0 i;
      high = eqb-true x.high y.high b.1 i;
    }

-- spots that were found for these numbers
pub spots_exist_for_numbers : (items : List SourcedFlat) (node : ℕ) (words : List (List ℕ)) (given numbers : List ℕ) (found : Option (Vec Spot)) (spots : Vec Spot)
    (s : SourcedFlat) → found ≡ Some spots → given ≡ numbers
    → IfSome found (λ (x : Vec Spot). (u : SourcedFlat) → slice_get items node ≡ Some u → AllPairs (IsAtSpot words u.flat.objects) given x.items)
    → slice_get items node ≡ Some s → AllPairs (IsAtSpot words s.flat.objects) numbers spots.items
spots_exist_for_numbers items node words given numbers found spots s is same each at =
    subst (λ n. AllPairs (IsAtSpot words s.flat.objects) n spots.items) same
    (subst (λ z. IfSome z (λ (x : Vec Spot). (u : SourcedFlat) → slice_get items node ≡ Some u → AllPairs (IsAtSpot words u.flat.objects) given x.items)) is
    each s at)

-- as many objects as numbers
pub cells_at_spots_length : (words : List (List ℕ)) (objects : List Cell) (numbers : List ℕ) (spots : List Spot) (cells : List Cell) → EachOnce numbers
    → AllPairs (IsAtSpot words objects) numbers spots → cells ≡ cells_at words spots → length cells ≡ length numbers
cells_at_spots_length words objects numbers spots cells once there are =
    ap length are ∙ length-hand objects numbers (cells_at words spots) (hand_at_spots words objects numbers spots once there)

-- a pair more
pub pairs_with_taken_push : {X Y : Type 0} (P : X → Y → Type 0) (xs : List X) (ys new : List Y) (i : ℕ) (d : X) (y : Y) → i < length xs → AllPairs P (take i xs) ys
    → new ≡ ys ++ y ∷ [] → P (get_or xs i d) y → AllPairs P (take (i + 1) xs) new
pairs_with_taken_push P xs ys new i d y less all is one =
    subst (λ l. AllPairs P l new) (sym (take_more xs i d less))
    (subst (AllPairs P (take i xs ++ get_or xs i d ∷ [])) (sym is) (pairs_after_push P (take i xs) ys (get_or xs i d) y all one))

pub pairs_with_both_taken : {X Y : Type 0} (P : X → Y → Type 0) (xs : List X) (ys : List Y) (i : ℕ) (d : X) (e : Y) → i < length xs → i < length ys
    → AllPairs P (take i xs) (take i ys) → P (get_or xs i d) (get_or ys i e) → AllPairs P (take (i + 1) xs) (take (i + 1) ys)
pairs_with_both_taken P xs ys i d e less few all one =
    subst (AllPairs P (take (i + 1) xs)) (sym (take_more ys i e few))
    (pairs_with_taken_push P xs (take i ys) (take i ys ++ get_or ys i e ∷ []) i d (get_or ys i e) less all refl one)

pub pairs_of_whole_first : {X Y : Type 0} (P : X → Y → Type 0) (xs : List X) (ys : List Y) (i : ℕ) → length xs ≤ i → AllPairs P (take i xs) ys → AllPairs P xs ys
pairs_of_whole_first P xs ys i many all = subst (λ l. AllPairs P l ys) (take_all i xs many) all

pub pairs_of_whole_both : {X Y : Type 0} (P : X → Y → Type 0) (xs : List X) (ys : List Y) (i : ℕ) → length xs ≤ i → length ys ≤ i
    → AllPairs P (take i xs) (take i ys) → AllPairs P xs ys
pairs_of_whole_both P xs ys i many few all =
    pairs_of_whole_first P xs ys i many (subst (AllPairs P (take i xs)) (take_all i ys few) all)

-- an item more that is made
pub map_of_take_push : {X Y : Type 0} (f : X → Y) (xs : List X) (ys new : List Y) (y : Y) (i : ℕ) (d : X) → i < length xs → ys ≡ map f (take i xs)
    → new ≡ ys ++ y ∷ [] → y ≡ f (get_or xs i d) → new ≡ map f (take (i + 1) xs)
map_of_take_push f xs ys new y i d less before is one =
    is ∙ (λ j. before j ++ one j ∷ []) ∙ sym (map_push f (take i xs) (get_or xs i d)) ∙ ap (map f) (sym (take_more xs i d less))

-- objects that are added one by one
pub record AreAdded (old new : Shared) (spots : List Spot) (cells : List Cell) : Type 0 where
  pub grows : Grows old new
  pub within : HaveWords new.words spots
  pub found : cells_at new.words spots ≡ cells

pub none_added_same : (shared : Shared) → AreAdded shared shared [] []
none_added_same shared = record {
  grows = record { threads = λ n s e. e; words = λ n s e. e };
  within = tt;
  found = refl;
}

pub added_with_next_cell : (first old new : Shared) (spots more : List Spot) (spot : Spot) (cells : List Cell) (c d : Cell) (i : ℕ) → i < length cells
    → AreAdded first old spots (take i cells) → Grows old new → more ≡ spots ++ spot ∷ [] → spot.words < length new.words → cell_in new.words spot ≡ c
    → c ≡ get_or cells i d → AreAdded first new more (take (i + 1) cells)
added_with_next_cell first old new spots more spot cells c d i less before grows is within found here =
    subst (λ l. AreAdded first new l (take (i + 1) cells)) (sym is) (record {
      grows = record {
        threads = λ n s e. grows.threads n s (before.grows.threads n s e);
        words = λ n s e. grows.words n s (before.grows.words n s e);
      };
      within = all_of_push (λ (s : Spot). s.words < length new.words) spots spot
          (have_words_grown old.words new.words grows.words spots before.within) within;
      found = map_push (cell_in new.words) spots spot
          ∙ (λ j. (cells_grown old.words new.words grows.words spots before.within ∙ before.found) j ++ (found ∙ here) j ∷ [])
          ∙ sym (take_more cells i d less);
    })

pub all_added_are_cells : (old new : Shared) (spots : List Spot) (cells : List Cell) (i : ℕ) → length cells ≤ i → AreAdded old new spots (take i cells)
    → cells_at new.words spots ≡ cells
all_added_are_cells old new spots cells i many all = all.found ∙ take_all i cells many

-- an item that is put
pub with_items_next : {X : Type 0} (items : List X) (numbers : List ℕ) (new : List X) (i : ℕ) (d : X) → i < length numbers → i < length new
    → with_items (set items (get_or numbers i 0) (get_or new i d)) (drop (i + 1) numbers) (drop (i + 1) new)
    ≡ with_items items (drop i numbers) (drop i new)
with_items_next items numbers new i d less few =
    sym (λ j. with_items items (drop_more numbers i 0 less j) (drop_more new i d few j))

pub with_items_all_put : {X : Type 0} (items : List X) (numbers : List ℕ) (new : List X) (i : ℕ) → length numbers ≤ i
    → with_items items (drop i numbers) (drop i new) ≡ items
with_items_all_put items numbers new i many = ap (λ l. with_items items l (drop i new)) (drop_all i numbers many)
