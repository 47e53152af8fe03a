-- States of the list, by their numbers.
use Rattle.std.proofs.Common.{◌≡◌, ◌<◌, ℕ, zero, suc, List, [], ◌∷◌, length, get_or, map, set, refl, sym, ap, ◌∙◌, subst, arith, Some}
use Rattle.std.specs.Prelude.{slice_get}
use Rattle.std.specs.Option.{option_map}
use Rattle.std.proofs.lemmas.List.{map-set}
use Rattle.std.proofs.lemmas.Option.{same_Some, slice_get-map, slice_get-get_or}
use Rattle.ir_lemmas.proofs.CallerLemmas.{get_or_satisfies, length_of_map}
use Rattle.ir_flat.specs.Flat.{idle, cell_of}
use Rattle.ir_object.specs.Empty.{empty}
use Rattle.ir_world.specs.Sources.{Source}
use Rattle.ir_thread.specs.State.{ThreadState}
use Rattle.ir_state_store.specs.declared.spot.Spot.{Spot}
use Rattle.ir_state_store.specs.Nodes.{SourcedFlat, sourced_thread, with_turn, IsSourced, Shared, Node, cell_in, sourced_in, IsNode, AreKept}
use Rattle.ir_state_store.specs.Others.{HasOthersOf}
use Rattle.ir_state_store.specs.Places.{no_node}
use Rattle.ir_state_store.specs.Table.{no_source, idle_beside, beside_at}
use Rattle.ir_state_store.proofs.Lists.{set_equal_others}

-- what is at a place of a list of what elements give
pub map_element_is : {X Y : Type 0} (f : X → Y) (xs : List X) (i : ℕ) (x d : X) (y : Y) → i < length xs → x ≡ get_or xs i d
    → slice_get (map f xs) i ≡ Some y → f x ≡ y
map_element_is f xs i x d y lt is at =
    same_Some (f x) y (sym (slice_get-map f xs i ∙ ap (option_map f) (slice_get-get_or xs i d lt ∙ ap Some (sym is))) ∙ at)

pub get_or_map : {X Y : Type 0} (f : X → Y) (xs : List X) (i : ℕ) (d : X) (e : Y) → i < length xs → get_or (map f xs) i e ≡ f (get_or xs i d)
get_or_map f [] i d e lt = absurd (omega (arith, lt))
get_or_map f (x ∷ xs) zero d e lt = refl
get_or_map f (x ∷ xs) (suc i) d e lt = get_or_map f xs i d e (omega (arith, lt))

-- a thread by numbers, beside what answers it
pub beside_at_is_element : (items : List (ThreadState × Source)) (numbers : List ℕ) (t d : ℕ) → t < length numbers
    → beside_at items numbers t ≡ get_or items (get_or numbers t d) idle_beside
beside_at_is_element items numbers t d lt = λ i. (
  get_or_map (λ n. (get_or items n idle_beside).0) numbers t d idle lt i,
  get_or_map (λ n. (get_or items n idle_beside).1) numbers t d no_source lt i,
)

-- the state of a number
pub slice_get-map_sourced : (shared : Shared) (nodes : List Node) (v : ℕ) → v < length (map (sourced_in shared) nodes)
    → slice_get (map (sourced_in shared) nodes) v ≡ Some (sourced_in shared (get_or nodes v no_node))
slice_get-map_sourced shared nodes v less =
    slice_get-map (sourced_in shared) nodes v
    ∙ ap (option_map (sourced_in shared)) (slice_get-get_or nodes v no_node (subst (λ k. v < k) (length_of_map (sourced_in shared) nodes) less))

-- a state, and the one that its number is of
module _ (shared : Shared) (nodes : List Node) (kept : AreKept shared nodes) (v : ℕ) (node : Node)
    (less : v < length (map (sourced_in shared) nodes)) (is : node ≡ get_or nodes v no_node) (s : SourcedFlat)
    (at : slice_get (map (sourced_in shared) nodes) v ≡ Some s) where
  pub node_less : v < length nodes
  node_less = subst (λ k. v < k) (length_of_map (sourced_in shared) nodes) less

  pub node_is : IsNode shared node
  node_is = subst (IsNode shared) (sym is) (get_or_satisfies (IsNode shared) nodes v no_node kept node_less)

  pub state_is : sourced_in shared node ≡ s
  state_is = map_element_is (sourced_in shared) nodes v node no_node s node_less is at

  pub node_threads : length node.threads ≡ length s.flat.threads
  node_threads = sym (length_of_map (λ n. (get_or shared.threads n idle_beside).0) node.threads) ∙ ap (λ (z : SourcedFlat). length z.flat.threads) state_is

  pub node_objects : length node.objects ≡ length s.flat.objects
  node_objects = sym (length_of_map (cell_in shared.words) node.objects) ∙ ap (λ (z : SourcedFlat). length z.flat.objects) state_is

  pub thread_is : (t n d : ℕ) → t < length node.threads → n ≡ get_or node.threads t d → get_or shared.threads n idle_beside ≡ sourced_thread s t
  thread_is t n d lt e =
      ap (λ k. get_or shared.threads k idle_beside) e ∙ sym (beside_at_is_element shared.threads node.threads t d lt)
      ∙ ap (λ (z : SourcedFlat). sourced_thread z t) state_is

  pub cell_is : (o : ℕ) (spot : Spot) → o < length node.objects → spot ≡ get_or node.objects o spot → cell_in shared.words spot ≡ cell_of s.flat o
  cell_is o spot lt e =
      ap (cell_in shared.words) e ∙ sym (get_or_map (cell_in shared.words) node.objects o spot empty lt) ∙ ap (λ (z : SourcedFlat). cell_of z.flat o) state_is

  pub both_is : (t n o : ℕ) (spot : Spot)
      → sourced_in shared (record { code = node.code; threads = set node.threads t n; objects = set node.objects o spot })
      ≡ with_turn s t (get_or shared.threads n idle_beside) o (cell_in shared.words spot)
  both_is t n o spot =
      (λ i. record {
        flat = record {
          code = node.code;
          threads = map-set (λ k. (get_or shared.threads k idle_beside).0) node.threads t n i;
          objects = map-set (cell_in shared.words) node.objects o spot i;
        };
        sources = map-set (λ k. (get_or shared.threads k idle_beside).1) node.threads t n i;
      })
      ∙ ap (λ (z : SourcedFlat). with_turn z t (get_or shared.threads n idle_beside) o (cell_in shared.words spot)) state_is

-- a state that has the others of s is s with its own thread t beside what answers it
module _ (s u : SourcedFlat) (t : ℕ) (was : IsSourced s) (is : IsSourced u) (have : HasOthersOf s u t) (less : t < length u.flat.threads) where
  pub threads_set : (x : ThreadState) → x ≡ get_or u.flat.threads t x → set s.flat.threads t x ≡ u.flat.threads
  threads_set x at = set_equal_others s.flat.threads u.flat.threads idle t x have.each less at
      (λ v ne. ap (λ (z : ThreadState × Source). z.0) (have.others v ne))

  pub sources_set : (y : Source) → y ≡ get_or u.sources t y → set s.sources t y ≡ u.sources
  sources_set y at = set_equal_others s.sources u.sources no_source t y (is.each ∙ have.each ∙ sym was.each)
      (subst (λ k. t < k) (sym is.each) less) at (λ v ne. ap (λ (z : ThreadState × Source). z.1) (have.others v ne))
