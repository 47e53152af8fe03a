-- States by numbers, while the tables grow.
use Rattle.std.proofs.Common.{◌≡◌, ◌<◌, ◌∙◌, [], ℕ, List, length, get_or, map, set, sym, ap, subst, Some}
use Rattle.std.specs.Prelude.{slice_get}
use Rattle.std.specs.List.{AllByRecursion}
use Rattle.std.proofs.lemmas.List.{map-set}
use Rattle.std.proofs.lemmas.Option.{get_or_from_slice_get}
use Rattle.ir_world.specs.Sources.{Source}
use Rattle.ir_thread.specs.State.{ThreadState}
use Rattle.ir_state_store.specs.declared.spot.Spot.{Spot}
use Rattle.ir_state_store.specs.Nodes.{Shared, Node, cell_in, sourced_in, IsSourced, IsWithin, IsNode, AreKept, Grows}
use Rattle.ir_state_store.specs.Table.{idle_beside, AreIn, KeepsNumbers}
use Rattle.ir_state_store.proofs.Lists.{kept_element_is_equal, below_length_kept, all_by_recursion_weaker, map_equal_on_all}

pub numbers_below_grown : {X : Type 0} (old new : List X) (d : X) → ((n : ℕ) → n < length old → n < length new) → (numbers : List ℕ)
    → AllByRecursion (λ n. n < length old) numbers → AllByRecursion (λ n. n < length new) numbers
numbers_below_grown old new d within numbers all = all_by_recursion_weaker (λ n. n < length old) (λ n. n < length new) numbers within all

module _ (old new : Shared) (grows : Grows old new) where
  pub within_grown : (node : Node) → IsWithin old node → IsWithin new node
  within_grown node is = record {
    threads = all_by_recursion_weaker (λ n. n < length old.threads) (λ n. n < length new.threads) node.threads
        (below_length_kept old.threads new.threads idle_beside grows.threads) is.threads;
    words = all_by_recursion_weaker (λ (s : Spot). s.words < length old.words) (λ (s : Spot). s.words < length new.words) node.objects
        (λ s. below_length_kept old.words new.words [] grows.words s.words) is.words;
  }

  pub sourced_grown : (node : Node) → IsWithin old node → sourced_in new node ≡ sourced_in old node
  sourced_grown node is = λ i. record {
    flat = record {
      code = node.code;
      threads = map_equal_on_all (λ n. (get_or new.threads n idle_beside).0) (λ n. (get_or old.threads n idle_beside).0) (λ n. n < length old.threads)
          node.threads (λ n lt j. (kept_element_is_equal old.threads new.threads idle_beside grows.threads n lt j).0) is.threads i;
      objects = map_equal_on_all (cell_in new.words) (cell_in old.words) (λ (s : Spot). s.words < length old.words) node.objects
          (λ s lt j. record { fields = (cell_in old.words s).fields; words = kept_element_is_equal old.words new.words [] grows.words s.words lt j }) is.words i;
    };
    sources = map_equal_on_all (λ n. (get_or new.threads n idle_beside).1) (λ n. (get_or old.threads n idle_beside).1) (λ n. n < length old.threads)
        node.threads (λ n lt j. (kept_element_is_equal old.threads new.threads idle_beside grows.threads n lt j).1) is.threads i;
  }

  pub nodes_grown : (nodes : List Node) → AreKept old nodes → AreKept new nodes
  nodes_grown nodes all = all_by_recursion_weaker (IsNode old) (IsNode new) nodes
      (λ node is. record { within = within_grown node is.within; sourced = subst IsSourced (sym (sourced_grown node is.within)) is.sourced }) all

  pub states_grown : (nodes : List Node) → AreKept old nodes → map (sourced_in new) nodes ≡ map (sourced_in old) nodes
  states_grown nodes all = map_equal_on_all (sourced_in new) (sourced_in old) (IsNode old) nodes (λ node is. sourced_grown node is.within) all

pub grows_transitive : (old new : Shared) (mid : Shared) → Grows old mid → Grows mid new → Grows old new
grows_transitive old new mid a b = record {
  threads = λ n s e. b.threads n s (a.threads n s e);
  words = λ n s e. b.words n s (a.words n s e);
}

-- these numbers in a grown table, with another one at place t, which is that of x
pub map_grown_and_set : {Y : Type 0} (f : ThreadState × Source → Y) (old new : List (ThreadState × Source)) (numbers : List ℕ) (t n : ℕ)
    (x : ThreadState × Source) → KeepsNumbers old new → AreIn old numbers → slice_get new n ≡ Some x
    → map (λ k. f (get_or new k idle_beside)) (set numbers t n) ≡ set (map (λ k. f (get_or old k idle_beside)) numbers) t (f x)
map_grown_and_set f old new numbers t n x keeps within at =
    map-set (λ k. f (get_or new k idle_beside)) numbers t n
    ∙ ap (set (map (λ k. f (get_or new k idle_beside)) numbers) t) (ap f (get_or_from_slice_get new n x idle_beside at))
    ∙ ap (λ l. set l t (f x)) (map_equal_on_all (λ k. f (get_or new k idle_beside)) (λ k. f (get_or old k idle_beside))
    (λ k. k < length old) numbers (λ k less. ap f (kept_element_is_equal old new idle_beside keeps k less)) within)
