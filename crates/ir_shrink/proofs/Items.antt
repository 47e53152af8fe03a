-- The turns of items that are noted.
use Rattle.std.proofs.Common.{◌≡◌, ◌<◌, ℕ, ◌+◌, List, [], ◌∷◌, ◌++◌, replicate, sym, ap, ◌∙◌, subst, append-nil, append_assoc}
use Rattle.std.proofs.lemmas.List.{replicate-append-replicate}
use Rattle.std.proofs.lemmas.List.Concat.{flat_map-append}
use Rattle.ir_record.specs.Recording.{turns_of_items}
use Rattle.ir_record.specs.Refusing.{Turn}
use Rattle.ir_record.specs.declared.item.Item.{Item}
use Rattle.ir_shrink.specs.Items.{turns_of, StartsOtherwise, AreJoined}

-- two items of one thread that treat tries alike are one
pub joined_items_are_one : (first next : Item) (count : ℕ) → first.thread ≡ next.thread → first.refused ≡ next.refused → count ≡ first.count + next.count
    → replicate count (first.thread, first.refused) ≡ turns_of first ++ turns_of next
joined_items_are_one first next count thread refused e = ap (λ k. replicate k (first.thread, first.refused)) e
    ∙ sym (replicate-append-replicate first.count next.count (first.thread, first.refused))
    ∙ (λ i. turns_of first ++ replicate next.count (thread i, refused i))

-- an item more
pub pushed_item_turns : (items new : List Item) (item : Item) → new ≡ items ++ item ∷ [] → turns_of_items new ≡ turns_of_items items ++ turns_of item
pushed_item_turns items new item e = ap turns_of_items e ∙ flat_map-append (λ (i : Item). turns_of i) items (item ∷ [])
    ∙ ap (λ (z : List Turn). turns_of_items items ++ z) (append-nil (turns_of item))

-- two items more
pub pushed_items_turns : (items more new : List Item) (first next : Item) → more ≡ items ++ first ∷ [] → new ≡ more ++ next ∷ []
    → turns_of_items new ≡ turns_of_items items ++ (turns_of first ++ turns_of next)
pushed_items_turns items more new first next e f = pushed_item_turns more new next f
    ∙ ap (λ (z : List Turn). z ++ turns_of next) (pushed_item_turns items more first e)
    ∙ append_assoc (turns_of_items items) (turns_of first) (turns_of next)

-- the last item was taken off, and put back with another
pub popped_item_turns : (items left new : List Item) (last item : Item) → items ≡ left ++ last ∷ []
    → turns_of_items new ≡ turns_of_items left ++ (turns_of last ++ turns_of item) → turns_of_items new ≡ turns_of_items items ++ turns_of item
popped_item_turns items left new last item e f = f ∙ sym (append_assoc (turns_of_items left) (turns_of last) (turns_of item))
    ∙ ap (λ (z : List Turn). z ++ turns_of item) (sym (pushed_item_turns left items last e))

-- no turns more
pub no_turns_more : (items : List Item) (item : Item) → item.count ≡ 0 → turns_of_items items ≡ turns_of_items items ++ turns_of item
no_turns_more items item e = sym (append-nil (turns_of_items items))
    ∙ ap (λ k. turns_of_items items ++ replicate k (item.thread, item.refused)) (sym e)

-- the turns of items, and then of others
pub turns_of_items_append : (items more : List Item) → turns_of_items (items ++ more) ≡ turns_of_items items ++ turns_of_items more
turns_of_items_append items more = flat_map-append (λ (i : Item). replicate i.count (i.thread, i.refused)) items more

-- ---- items of which no two that follow each other could be one

starts_still : (item : Item) (items : List Item) (last : Item) (more : List Item) → StartsOtherwise item (items ++ last ∷ [])
    → StartsOtherwise item ((items ++ last ∷ []) ++ more)
starts_still item [] last more h = h
starts_still item (i ∷ items) last more h = h

starts_alike : (item : Item) (items : List Item) (last other : Item) → other.thread ≡ last.thread → other.refused ≡ last.refused
    → StartsOtherwise item (items ++ last ∷ []) → StartsOtherwise item (items ++ other ∷ [])
starts_alike item [] last other thread refused h = λ t r. h (t ∙ thread) (r ∙ refused)
starts_alike item (i ∷ items) last other thread refused h = h

-- an item more, which couldn't be one with the last
another_item_joined : (items : List Item) (last next : Item) → AreJoined (items ++ last ∷ []) → 0 < next.count
    → (last.thread ≡ next.thread → last.refused ≡ next.refused → ⊥) → AreJoined ((items ++ last ∷ []) ++ next ∷ [])
another_item_joined [] last next h some apart = (h.0, apart, (some, tt, tt))
another_item_joined (i ∷ items) last next h some apart =
    (h.0, starts_still i items last (next ∷ []) h.1, another_item_joined items last next h.2 some apart)

-- another item of its thread in place of the last
alike_item_joined : (items : List Item) (last other : Item) → other.thread ≡ last.thread → other.refused ≡ last.refused → 0 < other.count
    → AreJoined (items ++ last ∷ []) → AreJoined (items ++ other ∷ [])
alike_item_joined [] last other thread refused some h = (some, tt, tt)
alike_item_joined (i ∷ items) last other thread refused some h =
    (h.0, starts_alike i items last other thread refused h.1, alike_item_joined items last other thread refused some h.2)

-- an item is pushed after the last, which is pushed before it
pub pushed_items_joined : (items more new : List Item) (last next : Item) → more ≡ items ++ last ∷ [] → new ≡ more ++ next ∷ []
    → (last.thread ≡ next.thread → last.refused ≡ next.refused → ⊥) → AreJoined (items ++ last ∷ []) → 0 < next.count → AreJoined new
pushed_items_joined items more new last next e f apart h some =
    subst AreJoined (sym (f ∙ ap (λ (z : List Item). z ++ next ∷ []) e)) (another_item_joined items last next h some apart)

-- or one item in place of both
pub pushed_both_joined : (items new : List Item) (last both : Item) → new ≡ items ++ both ∷ [] → both.thread ≡ last.thread → both.refused ≡ last.refused
    → 0 < both.count → AreJoined (items ++ last ∷ []) → AreJoined new
pushed_both_joined items new last both e thread refused some h = subst AreJoined (sym e) (alike_item_joined items last both thread refused some h)

-- the first item
pub first_item_joined : (items new : List Item) (item : Item) → items ≡ [] → new ≡ items ++ item ∷ [] → 0 < item.count → AreJoined new
first_item_joined items new item none e some = subst AreJoined (sym (e ∙ ap (λ (z : List Item). z ++ item ∷ []) none)) (some, tt, tt)
