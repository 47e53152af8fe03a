-- States by the numbers that stand for what threads see of them.
use Rattle.std.proofs.Common.{◌≡◌, ◌⊎◌, ◌<◌, ◌≤◌, ◌+◌, ℕ, zero, suc, List, [], ◌∷◌, length, get_or, drop, map, refl, sym, ap, ◌∙◌, subst, arith, Some, None}
use Rattle.std.specs.Prelude.{slice_get}
use Rattle.std.specs.List.{AllByRecursion}
use Rattle.std.proofs.lemmas.Option.{slice_get-get_or, get_or_from_slice_get}
use Rattle.ir_lemmas.proofs.CallerLemmas.{slice_get_satisfies, get_or_satisfies, length_of_map}
use Rattle.ir_thread_bytes.specs.Basis.{IsBasis}
use Rattle.ir_thread_bytes.specs.Twins.{AreTwins, TellsApart, KeepsBounds}
use Rattle.ir_world.specs.Sources.{Source}
use Rattle.ir_thread.specs.State.{ThreadState}
use Rattle.ir_state_store.specs.declared.spot.Spot.{Spot}
use Rattle.ir_object.specs.Cell.{Cell}
use Rattle.ir_object.specs.Empty.{empty}
use Rattle.ir_state_store.specs.Hashes.{empty_hash, after_number, after_numbers, IsFoundBy, PassesOver, hash_place, hashed_number_at, most_steps}
use Rattle.ir_state_store.specs.Nodes.{Shared, Node, MomentsLookSame, cell_in, sourced_in, IsWithin, IsNode, AreKept, AreSameLooks}
use Rattle.ir_state_store.specs.Nodes.{AreSameNumbers, AreMoments, looks_in, node_words_in, node_hash, AreNodesFound}
use Rattle.ir_state_store.specs.Places.{no_node}
use Rattle.ir_state_store.specs.Table.{Table, idle_beside, beside_at, AreLike, HaveOneLook, KeepsNumbers}
use Rattle.ir_state_store.specs.Words.{EachWordOnce}
use Rattle.ir_state_store.proofs.Alike.{like_if_look_same}
use Rattle.ir_state_store.proofs.Found.{all_passed_none_found}
use Rattle.ir_state_store.proofs.Lists.{drop_begins_element, kept_element_is_equal, map_equal_on_all}
use Rattle.ir_state_store.proofs.Stored.{beside_at_is_element, get_or_map}

-- one thread's look more
pub looks_hash_step : (looks numbers : List ℕ) (i hash new look : ℕ) → i < length numbers → slice_get looks (get_or numbers i 0) ≡ Some look
    → new ≡ after_number hash look
    → after_numbers new (looks_in looks (drop (i + 1) numbers)) ≡ after_numbers hash (looks_in looks (drop i numbers))
looks_hash_step looks numbers i hash new look less at is =
    let next : i + 1 ≡ suc i = omega arith in
    let here : get_or looks (get_or numbers i 0) 0 ≡ look = get_or_from_slice_get looks (get_or numbers i 0) look 0 at in
    ap (λ k. after_numbers new (looks_in looks (drop k numbers))) next
    ∙ ap (λ h. after_numbers h (looks_in looks (drop (suc i) numbers))) (is ∙ ap (after_number hash) (sym here))
    ∙ sym (ap (λ l. after_numbers hash (looks_in looks l)) (drop_begins_element numbers i 0 less))

pub maps_equal : {X Y : Type 0} (f : X → Y) (xs ys : List X) (d : X) → length xs ≡ length ys
    → ((i : ℕ) → i < length xs → f (get_or xs i d) ≡ f (get_or ys i d)) → map f xs ≡ map f ys
maps_equal f [] [] d size each = refl
maps_equal f [] (y ∷ ys) d size each = absurd (omega (arith, size))
maps_equal f (x ∷ xs) [] d size each = absurd (omega (arith, size))
maps_equal f (x ∷ xs) (y ∷ ys) d size each = λ i.
    each zero (omega arith) i ∷ maps_equal f xs ys d (omega (arith, size)) (λ k lt. each (suc k) (omega (arith, lt))) i

-- states that look the same, of one guest, have the same numbers
module _ (tells : TellsApart) (seen : List (ℕ × ℕ)) (t : Table) (words : List (List ℕ)) (whole : IsBasis t.basis)
    (bounded : AllByRecursion (λ (x : ThreadState × Source). KeepsBounds x.0) t.items) (have : HaveOneLook seen t) (once : EachWordOnce words)
    (a b : Node) (in_a : IsWithin (record { threads = t.items; words = words }) a) (in_b : IsWithin (record { threads = t.items; words = words }) b)
    (moments : AreMoments (sourced_in (record { threads = t.items; words = words }) a) (sourced_in (record { threads = t.items; words = words }) b))
    (same : AreSameLooks t.basis.code (sourced_in (record { threads = t.items; words = words }) a) (sourced_in (record { threads = t.items; words = words }) b)) where
  threads_each : length a.threads ≡ length b.threads
  threads_each =
      sym (length_of_map (λ n. (get_or t.items n idle_beside).0) a.threads) ∙ sym moments.threads ∙ length_of_map (λ n. (get_or t.items n idle_beside).0) b.threads

  objects_each : length a.objects ≡ length b.objects
  objects_each = sym (length_of_map (cell_in words) a.objects) ∙ sym moments.objects ∙ length_of_map (cell_in words) b.objects

  look_equal : (i : ℕ) → i < length a.threads → get_or t.looks (get_or a.threads i 0) 0 ≡ get_or t.looks (get_or b.threads i 0) 0
  look_equal i lt =
      let lt' : i < length b.threads = (let e = threads_each in omega (arith, lt, e)) in
      let m = get_or a.threads i 0 in
      let n = get_or b.threads i 0 in
      let x = get_or t.items m idle_beside in
      let y = get_or t.items n idle_beside in
      let m_in = get_or_satisfies (λ k. k < length t.items) a.threads i 0 in_a.threads lt in
      let n_in = get_or_satisfies (λ k. k < length t.items) b.threads i 0 in_b.threads lt' in
      let at : slice_get t.items m ≡ Some x = slice_get-get_or t.items m idle_beside m_in in
      let there : slice_get t.items n ≡ Some y = slice_get-get_or t.items n idle_beside n_in in
      let is : beside_at t.items a.threads i ≡ x = beside_at_is_element t.items a.threads i 0 lt in
      let also : beside_at t.items b.threads i ≡ y = beside_at_is_element t.items b.threads i 0 lt' in
      let twins : AreTwins x.0 y.0 = subst (λ (z : ThreadState × Source). AreTwins x.0 z.0) also
      (subst (λ (z : ThreadState × Source). AreTwins z.0 (beside_at t.items b.threads i).0) is (moments.twins i)) in
      let looks : MomentsLookSame t.basis.code x y = subst (MomentsLookSame t.basis.code x) also
      (subst (λ z. MomentsLookSame t.basis.code z (beside_at t.items b.threads i)) is
      (same.threads i (let e = length_of_map (λ n. (get_or t.items n idle_beside).0) a.threads in omega (arith, lt, e)))) in
      let like : AreLike t.basis x y = like_if_look_same tells t.basis whole x y twins
      (slice_get_satisfies (λ (z : ThreadState × Source). KeepsBounds z.0) t.items m x bounded at)
      (slice_get_satisfies (λ (z : ThreadState × Source). KeepsBounds z.0) t.items n y bounded there) looks in
      have.one m n (get_or t.looks m 0) (get_or t.looks n 0) x y at there
      (slice_get-get_or t.looks m 0 (let e = have.each in omega (arith, m_in, e)))
      (slice_get-get_or t.looks n 0 (let e = have.each in omega (arith, n_in, e))) like

  pub looks_in_equal : looks_in t.looks a.threads ≡ looks_in t.looks b.threads
  looks_in_equal = maps_equal (λ n. get_or t.looks n 0) a.threads b.threads 0 threads_each look_equal

  word_equal : (d : Spot) (o : ℕ) → o < length a.objects → (get_or a.objects o d).words ≡ (get_or b.objects o d).words
  word_equal d o lt =
      let lt' : o < length b.objects = (let e = objects_each in omega (arith, lt, e)) in
      let p = (get_or a.objects o d).words in
      let q = (get_or b.objects o d).words in
      let p_in = get_or_satisfies (λ (s : Spot). s.words < length words) a.objects o d in_a.words lt in
      let q_in = get_or_satisfies (λ (s : Spot). s.words < length words) b.objects o d in_b.words lt' in
      let equal : get_or words p [] ≡ get_or words q [] =
      sym (ap (λ (z : Cell). z.words) (get_or_map (cell_in words) a.objects o d empty lt)) ∙ same.words o
      ∙ ap (λ (z : Cell). z.words) (get_or_map (cell_in words) b.objects o d empty lt') in
      once p q (get_or words p []) (slice_get-get_or words p [] p_in) (slice_get-get_or words q [] q_in ∙ ap Some (sym equal))

  pub words_in_equal : (d : Spot) → node_words_in a.objects ≡ node_words_in b.objects
  words_in_equal d = maps_equal (λ (s : Spot). s.words) a.objects b.objects d objects_each (word_equal d)

  pub same_numbers_if_same_looks : AreSameNumbers t.looks a b
  same_numbers_if_same_looks = record { threads = looks_in_equal; objects = words_in_equal (record { words = 0; low = 0; high = 0 }) }

-- while tables grow, the hash of a state stays
pub node_hash_kept : (items : List (ThreadState × Source)) (looks new : List ℕ) (node : Node) → length looks ≡ length items → KeepsNumbers looks new
    → AllByRecursion (λ n. n < length items) node.threads → node_hash new node ≡ node_hash looks node
node_hash_kept items looks new node each keeps within = ap (λ l. after_numbers (after_numbers empty_hash l) (node_words_in node.objects))
    (map_equal_on_all (λ n. get_or new n 0) (λ n. get_or looks n 0) (λ n. n < length items) node.threads
    (λ n lt. kept_element_is_equal looks new 0 keeps n (omega (arith, lt, each))) within)

pub nodes_found_kept : (places : List (ℕ × ℕ)) (shared : Shared) (looks new : List ℕ) (nodes : List Node) → length looks ≡ length shared.threads
    → KeepsNumbers looks new → AreKept shared nodes → AreNodesFound places looks nodes → AreNodesFound places new nodes
nodes_found_kept places shared looks new nodes each keeps all found v node at =
    let is : IsNode shared node = slice_get_satisfies (IsNode shared) nodes v node all at in
    subst (λ h. IsFoundBy places h v) (sym (node_hash_kept shared.threads looks new node each keeps is.within.threads)) (found v node at)

-- the walk from the hash of a state ends, and no state that it met has the same numbers
pub all_passed_no_node : (places : List (ℕ × ℕ)) (looks : List ℕ) (nodes : List Node) (node : Node) (hash steps : ℕ) → AreNodesFound places looks nodes
    → hash ≡ node_hash looks node
    → PassesOver places hash steps (λ v. (v < length nodes) × AreSameNumbers looks node (get_or nodes v no_node))
    → (hashed_number_at places (hash_place hash steps) ≡ None) ⊎ (most_steps ≤ steps)
    → (v : ℕ) → v < length nodes → AreSameNumbers looks node (get_or nodes v no_node) → ⊥
all_passed_no_node places looks nodes node hash steps found is passed over v less same =
    let at = slice_get-get_or nodes v no_node less in
    let equal : node_hash looks (get_or nodes v no_node) ≡ hash =
    (λ i. after_numbers (after_numbers empty_hash (sym same.threads i)) (sym same.objects i)) ∙ sym is in
    all_passed_none_found places hash steps (λ w. (w < length nodes) × AreSameNumbers looks node (get_or nodes w no_node)) passed over v
    (subst (λ h. IsFoundBy places h v) equal (found v (get_or nodes v no_node) at)) (less, same)
