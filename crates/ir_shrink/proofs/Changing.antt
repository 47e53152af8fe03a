-- How often the threads of turns change.
use Rattle.std.proofs.Common.{◌≡◌, ℕ, zero, suc, ◌+◌, ◌<◌, ◌≤◌, Bool, true, List, [], ◌∷◌, ◌++◌, length, map, drop, replicate, get_or}
use Rattle.std.proofs.Common.{refl, sym, ap, ◌∙◌, arith}
use Rattle.std.specs.Prelude.{Option, Some, None, ◌==◌}
use Rattle.std.proofs.lemmas.Grind.{common_steps}
use Rattle.std.proofs.lemmas.List.{drop_more}
use Rattle.ir_lemmas.proofs.CallerLemmas.{drop_past_length}
use Rattle.ir_record.specs.Recording.{turns_of_items}
use Rattle.ir_record.specs.Refusing.{Turn}
use Rattle.ir_record.specs.declared.item.Item.{Item}
use Rattle.ir_shrink.specs.Switches.{change, change_from, changes_after, thread_changes}

-- how often threads change, after a step of one if there was one
abbrev pub changes_from : Option ℕ → List ℕ → ℕ
changes_from None threads = thread_changes threads
changes_from (Some last) threads = changes_after last threads

-- the threads of the turns of items
abbrev pub threads_of_items : List Item → List ℕ
threads_of_items items = map (λ (t : Turn). t.0) (turns_of_items items)

same_is_no_change : (t : ℕ) → change (t == t) ≡ 0
same_is_no_change t = let e : (t == t) ≡ true = grind (arith, common_steps) in ap change e

pub zero_and : (n : ℕ) → 0 + n ≡ n
zero_and n = omega arith

-- more steps of the last thread are no changes
repeats_change_none : (t k : ℕ) (refused : Bool) (rest : List Turn) → changes_after t (map (λ (x : Turn). x.0) (replicate k (t, refused) ++ rest))
    ≡ changes_after t (map (λ (x : Turn). x.0) rest)
repeats_change_none t zero refused rest = refl
repeats_change_none t (suc k) refused rest =
    ap (λ z. z + changes_after t (map (λ (x : Turn). x.0) (replicate k (t, refused) ++ rest))) (same_is_no_change t)
    ∙ zero_and (changes_after t (map (λ (x : Turn). x.0) (replicate k (t, refused) ++ rest))) ∙ repeats_change_none t k refused rest

some_turns : (last : Option ℕ) (t k : ℕ) (refused : Bool) (rest : List Turn)
    → changes_from last (map (λ (x : Turn). x.0) (replicate (suc k) (t, refused) ++ rest)) ≡ change_from last t + changes_after t (map (λ (x : Turn). x.0) rest)
some_turns None t k refused rest = repeats_change_none t k refused rest ∙ sym (zero_and (changes_after t (map (λ (x : Turn). x.0) rest)))
some_turns (Some last) t k refused rest = ap (λ z. change (last == t) + z) (repeats_change_none t k refused rest)

some_count : (n : ℕ) → 0 < n → (k : ℕ) × (n ≡ suc k)
some_count zero l = absurd (omega (arith, l))
some_count (suc k) l = (k, refl)

first_item_changes : (last : Option ℕ) (item : Item) (items : List Item) → 0 < item.count
    → changes_from last (threads_of_items (item ∷ items)) ≡ change_from last item.thread + changes_from (Some item.thread) (threads_of_items items)
first_item_changes last item items some =
    let k = some_count item.count some in
    ap (λ n. changes_from last (map (λ (x : Turn). x.0) (replicate n (item.thread, item.refused) ++ turns_of_items items))) k.1
    ∙ some_turns last item.thread k.0 item.refused (turns_of_items items)

empty_item_changes : (last : Option ℕ) (item : Item) (items : List Item) → item.count ≡ 0
    → changes_from last (threads_of_items (item ∷ items)) ≡ changes_from last (threads_of_items items)
empty_item_changes last item items none =
    ap (λ k. changes_from last (map (λ (x : Turn). x.0) (replicate k (item.thread, item.refused) ++ turns_of_items items))) none

-- an item more is counted
pub item_counted : (items : List Item) (place count more : ℕ) (last : Option ℕ) (d : Item) → place < length items → 0 < (get_or items place d).count
    → more ≡ change_from last (get_or items place d).thread
    → count + changes_from last (threads_of_items (drop place items)) ≡ changes_from None (threads_of_items items)
    → count + more + changes_from (Some (get_or items place d).thread) (threads_of_items (drop (place + 1) items)) ≡ changes_from None (threads_of_items items)
item_counted items place count more last d l some is h =
    let item = get_or items place d in
    let first = first_item_changes last item (drop (place + 1) items) some in
    let there = ap (λ z. changes_from last (threads_of_items z)) (drop_more items place d l) in
    omega (arith, first, there, h, is)

pub item_passed : (items : List Item) (place count : ℕ) (last : Option ℕ) (d : Item) → place < length items → (get_or items place d).count ≡ 0
    → count + changes_from last (threads_of_items (drop place items)) ≡ changes_from None (threads_of_items items)
    → count + changes_from last (threads_of_items (drop (place + 1) items)) ≡ changes_from None (threads_of_items items)
item_passed items place count last d l none h =
    let item = get_or items place d in
    let first = empty_item_changes last item (drop (place + 1) items) none in
    let there = ap (λ z. changes_from last (threads_of_items z)) (drop_more items place d l) in
    omega (arith, first, there, h)

no_threads_change_none : (last : Option ℕ) → changes_from last [] ≡ 0
no_threads_change_none None = refl
no_threads_change_none (Some last) = refl

-- all are
pub all_items_counted : (items : List Item) (place count : ℕ) (last : Option ℕ) → length items ≤ place
    → count + changes_from last (threads_of_items (drop place items)) ≡ changes_from None (threads_of_items items)
    → count ≡ thread_changes (threads_of_items items)
all_items_counted items place count last l h =
    let none = ap (λ z. changes_from last (threads_of_items z)) (drop_past_length items place l) ∙ no_threads_change_none last in
    let all : changes_from None (threads_of_items items) ≡ thread_changes (threads_of_items items) = refl in
    omega (arith, none, h, all)
