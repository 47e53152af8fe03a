-- States whose numbers are in two lists, while these grow.
use Rattle.std.proofs.Common.{◌≡◌, ◌⊎◌, ◌+◌, ◌≤◌, ℕ, List, [], ◌∷◌, ◌++◌, length, length-append, take, drop, map, refl, ap, ◌∙◌, arith}
use Rattle.std.specs.List.{AllByRecursion}
use Rattle.std.proofs.lemmas.List.{take-append-le, drop-append-le, length-drop, map_push}
use Rattle.std.proofs.Math.Seq.{drop-append_seam, take-length}
use Rattle.ir_state_store.specs.declared.spot.Spot.{Spot}
use Rattle.ir_state_store.specs.Places.{StorePlace, part, node_at, IsPlacedNode}
use Rattle.ir_state_store.proofs.Lists.{all_same_or_pushed, all_by_recursion_weaker}

part_of_append_first : {X : Type 0} (xs more : List X) (first count : ℕ) → first + count ≤ length xs → part (xs ++ more) first count ≡ part xs first count
part_of_append_first xs more first count within =
    let few : count ≤ length (drop first xs) = (let e = length-drop first xs in omega (arith, within, e)) in
    ap (take count) (drop-append-le first xs more (omega (arith, within))) ∙ take-append-le count (drop first xs) more few

part_of_append_second : {X : Type 0} (xs more : List X) → part (xs ++ more) (length xs) (length more) ≡ more
part_of_append_second xs more = ap (take (length more)) (drop-append_seam xs more) ∙ take-length more

-- so many elements more
abbrev pub Extends : {X : Type 0} → List X → List X → Type 0
Extends {X} old new = (more : List X) × (new ≡ old ++ more)

extended_no_shorter : {X : Type 0} (old new : List X) → Extends old new → length old ≤ length new
extended_no_shorter old new grows = let e = ap length grows.1 in let k = length-append old grows.0 in omega (arith, e, k)

module _ (threads threads' : List ℕ) (objects objects' : List Spot) (more : Extends threads threads') (also : Extends objects objects') where
  node_after_growth : (place : StorePlace) → IsPlacedNode (length threads) (length objects) place → node_at threads' objects' place ≡ node_at threads objects place
  node_after_growth place is = λ i. record {
    code = place.code;
    threads = (ap (λ xs. part xs place.thread place.threads) more.1 ∙ part_of_append_first threads more.0 place.thread place.threads is.threads) i;
    objects = (ap (λ xs. part xs place.object place.objects) also.1 ∙ part_of_append_first objects also.0 place.object place.objects is.objects) i;
  }

  pub nodes_after_growth : (places : List StorePlace) → AllByRecursion (IsPlacedNode (length threads) (length objects)) places
      → map (node_at threads' objects') places ≡ map (node_at threads objects) places
  nodes_after_growth [] all = refl
  nodes_after_growth (place ∷ places) all = λ i. node_after_growth place all.0 i ∷ nodes_after_growth places all.1 i

  pub placed_after_growth : (places : List StorePlace) → AllByRecursion (IsPlacedNode (length threads) (length objects)) places
      → AllByRecursion (IsPlacedNode (length threads') (length objects')) places
  placed_after_growth places all = all_by_recursion_weaker (IsPlacedNode (length threads) (length objects)) (IsPlacedNode (length threads') (length objects')) places
      (λ place is. record {
        threads = let a = is.threads in let b = extended_no_shorter threads threads' more in omega (arith, a, b);
        objects = let a = is.objects in let b = extended_no_shorter objects objects' also in omega (arith, a, b);
      }) all

-- the last state, whose numbers come after all others
module _ (threads us threads' : List ℕ) (objects spots objects' : List Spot) (more : threads' ≡ threads ++ us) (also : objects' ≡ objects ++ spots)
    (place : StorePlace) (thread : place.thread ≡ length threads) (many : place.threads ≡ length us) (object : place.object ≡ length objects)
    (each : place.objects ≡ length spots) where
  node_at_end : node_at threads' objects' place ≡ record { code = place.code; threads = us; objects = spots }
  node_at_end = λ i. record {
    code = place.code;
    threads = ((λ j. part (more j) (thread j) (many j)) ∙ part_of_append_second threads us) i;
    objects = ((λ j. part (also j) (object j) (each j)) ∙ part_of_append_second objects spots) i;
  }

  placed_at_end : IsPlacedNode (length threads') (length objects') place
  placed_at_end = record {
    threads = let e = ap length more in let k = length-append threads us in omega (arith, e, k, thread, many);
    objects = let e = ap length also in let k = length-append objects spots in omega (arith, e, k, object, each);
  }

  pub placed_after_push : (places new : List StorePlace) → AllByRecursion (IsPlacedNode (length threads) (length objects)) places
      → (new ≡ places) ⊎ (new ≡ places ++ place ∷ []) → AllByRecursion (IsPlacedNode (length threads') (length objects')) new
  placed_after_push places new all either =
      all_same_or_pushed (IsPlacedNode (length threads') (length objects')) places new place
      (placed_after_growth threads threads' objects objects' (us, more) (spots, also) places all) placed_at_end either

  pub nodes_after_push : (places new : List StorePlace) → AllByRecursion (IsPlacedNode (length threads) (length objects)) places → new ≡ places ++ place ∷ []
      → map (node_at threads' objects') new
      ≡ map (node_at threads objects) places ++ record { code = place.code; threads = us; objects = spots } ∷ []
  nodes_after_push places new all is =
      ap (map (node_at threads' objects')) is ∙ map_push (node_at threads' objects') places place
      ∙ (λ i. nodes_after_growth threads threads' objects objects' (us, more) (spots, also) places all i ++ node_at_end i ∷ [])
