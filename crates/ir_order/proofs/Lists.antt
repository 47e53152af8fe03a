-- What a list of items spells.
use Rattle.std.proofs.Common.{◌≡◌, ◌<◌, ◌≤◌, ◌+◌, ◌-◌, ◌^◌, ℕ, zero, suc, Bool, true, false, List, [], ◌∷◌, ◌++◌, length, take, get_or}
use Rattle.std.proofs.Common.{refl, sym, ap, ◌∙◌, subst, arith, inl, inr, append_assoc, append-nil}
use Rattle.std.specs.Prelude.{◌≢◌, ◌==◌, replicate, Option, Some, None}
use Rattle.std.specs.List.{AllByRecursion, slice_split, onto_first}
use Rattle.std.proofs.lemmas.Bool.{eq-eqb, cases_Bool}
use Rattle.std.proofs.lemmas.List.Splits.{length-slice_split, slice_split-cons_yes, slice_split-cons_no}
use Rattle.std.proofs.lemmas.List.{replicate-append-replicate, get_or_default}
use Rattle.ir_record.specs.Recording.{order_of_turns, turns_of_items}
use Rattle.ir_record.specs.Refusing.{Turn, plain_turns}
use Rattle.ir_record.specs.declared.item.Item.{Item}
use Rattle.ir_record.proofs.CallerLemmas.{plain_turns_of_append, plain_turns-replicate}
use Rattle.ir_record.specs.declared.turns.Turns.{Turns}
use Rattle.ir_record_command.specs.Order.{most_turns, items_joined, item_of, items_of, order_of}
use Rattle.ir_order.specs.Spelling.{item_text, with_item, SpellsTurns, Spells, IsListOf}
use Rattle.ir_order.proofs.Items.{item_of-item_text, split_of_item_text, item_text_is_not_empty}

-- ---- a text that is cut at its last mark

onto_first_append : (b : ℕ) (parts more : List (List ℕ)) → 0 < length parts → onto_first b (parts ++ more) ≡ onto_first b parts ++ more
onto_first_append b [] more some = absurd (omega (arith, some))
onto_first_append b (part ∷ parts) more some = refl

split_is_not_empty : (p : ℕ → Bool) (bs : List ℕ) → 0 < length (slice_split p bs)
split_is_not_empty p bs = omega (arith, length-slice_split p bs)

-- two texts with a mark between
split_at_mark_between : (p : ℕ → Bool) (bs : List ℕ) (mark : ℕ) (cs : List ℕ) → p mark ≡ true
    → slice_split p (bs ++ mark ∷ cs) ≡ slice_split p bs ++ slice_split p cs
split_at_mark_between p [] mark cs is = slice_split-cons_yes p mark cs is
split_at_mark_between p (b ∷ bs) mark cs is = elim (cases_Bool (p b)) [
  | inl is_mark ↦ slice_split-cons_yes p b (bs ++ mark ∷ cs) is_mark ∙ ap (λ (z : List (List ℕ)). [] ∷ z) (split_at_mark_between p bs mark cs is)
      ∙ sym (ap (λ (z : List (List ℕ)). z ++ slice_split p cs) (slice_split-cons_yes p b bs is_mark))
  | inr is_none ↦ slice_split-cons_no p b (bs ++ mark ∷ cs) is_none ∙ ap (onto_first b) (split_at_mark_between p bs mark cs is)
      ∙ onto_first_append b (slice_split p bs) (slice_split p cs) (split_is_not_empty p bs)
      ∙ sym (ap (λ (z : List (List ℕ)). z ++ slice_split p cs) (slice_split-cons_no p b bs is_none))
]

-- ---- items one after the other

joined_associative : (a b c : Option (List Turn)) → items_joined a (items_joined b c) ≡ items_joined (items_joined a b) c
joined_associative None b c = refl
joined_associative (Some a) None c = refl
joined_associative (Some a) (Some b) None = refl
joined_associative (Some a) (Some b) (Some c) = ap (λ (z : List Turn). Some z) (sym (append_assoc a b c))

joined_with_empty : (a : Option (List Turn)) → items_joined (Some []) a ≡ a
joined_with_empty None = refl
joined_with_empty (Some a) = refl

items_of_append : (n : ℕ) (items more : List (List ℕ)) → items_of n (items ++ more) ≡ items_joined (items_of n items) (items_of n more)
items_of_append n [] more = sym (joined_with_empty (items_of n more))
items_of_append n (item ∷ items) more = ap (items_joined (item_of n item)) (items_of_append n items more)
    ∙ joined_associative (item_of n item) (items_of n items) (items_of n more)

-- ---- all of two lists

all_append_parts : {X : Type 0} (P : X → Type 0) (xs ys : List X) → AllByRecursion P (xs ++ ys) → AllByRecursion P xs × AllByRecursion P ys
all_append_parts P [] ys h = (tt, h)
all_append_parts P (x ∷ xs) ys h = let rest = all_append_parts P xs ys h.1 in ((h.0, rest.0), rest.1)

replicate_all_element : {X : Type 0} (P : X → Type 0) (count : ℕ) (x : X) → 1 ≤ count → AllByRecursion P (replicate count x) → P x
replicate_all_element P zero x some h = absurd (omega (arith, some))
replicate_all_element P (suc count) x some h = h.0

-- ---- a list with one item more

-- a list that is one item
order_of_item_text : (n thread : ℕ) (refused : Bool) (count : ℕ) → thread < n → thread < 2 ^ 8 → 1 ≤ count → count ≤ most_turns
    → order_of n (item_text thread refused count) ≡ Some (replicate count (thread, refused))
order_of_item_text n thread refused count l small some few =
    ap (items_of n) (split_of_item_text thread refused count small few)
    ∙ ap (λ (z : Option (List Turn)). items_joined z (Some [])) (item_of-item_text n thread refused count l small some few)
    ∙ ap (λ (z : List Turn). Some z) (append-nil (replicate count (thread, refused)))

order_of_list_and_item : (n : ℕ) (list item : List ℕ) → order_of n (list ++ 44 ∷ item) ≡ items_joined (order_of n list) (order_of n item)
order_of_list_and_item n list item = ap (items_of n) (split_at_mark_between (λ b. b == 44) list 44 item (eq-eqb 44 44 refl))
    ∙ items_of_append n (slice_split (λ b. b == 44) list) (slice_split (λ b. b == 44) item)

append_replicate_nonempty : (turns : List Turn) (one : Turn) (count : ℕ) → 1 ≤ count → turns ++ replicate count one ≢ []
append_replicate_nonempty [] one zero some h = absurd (omega (arith, some))
append_replicate_nonempty [] one (suc count) some h = absurd (cc h)
append_replicate_nonempty (t ∷ turns) one count some h = absurd (cc h)

is_list_of_if_spelled : (list : List ℕ) (turns : List Turn) → 0 < length list → turns ≢ [] → SpellsTurns list turns → IsListOf list turns
is_list_of_if_spelled [] turns some steps h = absurd (omega (arith, some))
is_list_of_if_spelled (b ∷ list) turns some steps h = (steps, h)

pub is_list_of_item_added : (list : List ℕ) (turns : List Turn) (thread : ℕ) (refused : Bool) (count : ℕ) → thread < 2 ^ 8 → 1 ≤ count → count ≤ most_turns
    → IsListOf list turns → IsListOf (with_item list (item_text thread refused count)) (turns ++ replicate count (thread, refused))
is_list_of_item_added [] turns thread refused count small some few none =
    is_list_of_if_spelled (item_text thread refused count) (turns ++ replicate count (thread, refused)) (item_text_is_not_empty thread refused count small)
    (append_replicate_nonempty turns (thread, refused) count some)
    (subst (λ (z : List Turn). SpellsTurns (item_text thread refused count) (z ++ replicate count (thread, refused))) (sym none)
    (λ n all. order_of_item_text n thread refused count (replicate_all_element (λ t. t.0 < n) count (thread, refused) some all) small some few))
is_list_of_item_added (b ∷ list) turns thread refused count small some few h = (
  append_replicate_nonempty turns (thread, refused) count some,
  λ n all.
      let parts = all_append_parts (λ t. t.0 < n) turns (replicate count (thread, refused)) all in
      order_of_list_and_item n (b ∷ list) (item_text thread refused count)
      ∙ ap (λ (z : Option (List Turn)). items_joined z (order_of n (item_text thread refused count))) (h.1 n parts.0)
      ∙ ap (items_joined (Some turns))
      (order_of_item_text n thread refused count (replicate_all_element (λ t. t.0 < n) count (thread, refused) some parts.1) small some few),
)

-- a list isn't empty where there are turns
pub nonempty_list_spells : (list : List ℕ) (turns : List Turn) → IsListOf list turns → turns ≢ [] → SpellsTurns list turns
nonempty_list_spells [] turns none some = absurd (some none)
nonempty_list_spells (b ∷ list) turns h some = h.1

-- and is empty where there is none
pub empty_order_empty_list : (list : List ℕ) (turns : List Turn) → IsListOf list turns → turns ≡ [] → list ≡ []
empty_order_empty_list [] turns none e = refl
empty_order_empty_list (b ∷ list) turns h e = absurd (h.0 e)

-- the same of turns in which no try is refused that may enter
plain_turns_nonempty : (order : List ℕ) → order ≢ [] → plain_turns order ≢ []
plain_turns_nonempty [] some e = some refl
plain_turns_nonempty (t ∷ order) some e = absurd (cc e)

plain_turns_below_count : (n : ℕ) (order : List ℕ) → AllByRecursion (λ t. t < n) order → AllByRecursion (λ (t : Turn). t.0 < n) (plain_turns order)
plain_turns_below_count n [] all = tt
plain_turns_below_count n (t ∷ order) all = (all.0, plain_turns_below_count n order all.1)

pub plain_list_spells_order : (list order : List ℕ) → IsListOf list (plain_turns order) → order ≢ [] → Spells list order
plain_list_spells_order list order h some n all = nonempty_list_spells list (plain_turns order) h (plain_turns_nonempty order some) n (plain_turns_below_count n order all)

pub empty_turns_empty_list : (list order : List ℕ) → IsListOf list (plain_turns order) → order ≡ [] → list ≡ []
empty_turns_empty_list list order h e = empty_order_empty_list list (plain_turns order) h (ap plain_turns e)

-- count turns more
pub is_list_of_turns_step : (old list new : List ℕ) (thread : ℕ) (refused : Bool) (total left count : ℕ) → thread < 2 ^ 8 → left ≤ total → 1 ≤ count
    → count ≤ most_turns → count ≤ left → new ≡ with_item list (item_text thread refused count)
    → ((turns : List Turn) → IsListOf old turns → IsListOf list (turns ++ replicate (total - left) (thread, refused)))
    → (turns : List Turn) → IsListOf old turns → IsListOf new (turns ++ replicate (total - (left - count)) (thread, refused))
is_list_of_turns_step old list new thread refused total left count small within some few most is before turns h =
    let one : Turn = (thread, refused) in
    let longer : (total - left) + count ≡ total - (left - count) = omega (arith, within, most) in
    let same : (turns ++ replicate (total - left) one) ++ replicate count one ≡ turns ++ replicate (total - (left - count)) one =
    append_assoc turns (replicate (total - left) one) (replicate count one)
    ∙ ap (λ (z : List Turn). turns ++ z) (replicate-append-replicate (total - left) count one ∙ ap (λ (k : ℕ). replicate k one) longer) in
    subst (λ (z : List ℕ). IsListOf z (turns ++ replicate (total - (left - count)) one)) (sym is)
    (subst (IsListOf (with_item list (item_text thread refused count))) same
    (is_list_of_item_added list (turns ++ replicate (total - left) one) thread refused count small some few (before turns h)))

-- the turns so far, and one more
order_of_turns_step : (turns : List Turns) (k : ℕ) (t : Turns) → k < length turns → t ≡ get_or turns k t
    → order_of_turns (take (suc k) turns) ≡ order_of_turns (take k turns) ++ replicate t.count t.thread
order_of_turns_step [] k t l e = absurd (omega (arith, l))
order_of_turns_step (x ∷ xs) zero t l e =
    append-nil (replicate x.count x.thread) ∙ ap (λ (z : Turns). replicate z.count z.thread) (sym e)
order_of_turns_step (x ∷ xs) (suc k) t l e = ap (λ (z : List ℕ). replicate x.count x.thread ++ z)
    (order_of_turns_step xs k t (omega (arith, l)) e)
    ∙ sym (append_assoc (replicate x.count x.thread) (order_of_turns (take k xs)) (replicate t.count t.thread))

-- a list of the turns so far, and of one more
pub list_of_plain_step : (turns : List Turns) (k : ℕ) (none : Turns) (list : List ℕ) → k < length turns
    → IsListOf list (plain_turns (order_of_turns (take k turns)) ++ replicate (get_or turns k none).count ((get_or turns k none).thread, false))
    → IsListOf list (plain_turns (order_of_turns (take (k + 1) turns)))
list_of_plain_step turns k none list l h =
    let t : Turns = get_or turns k none in
    let next : k + 1 ≡ suc k = omega arith in
    let same : plain_turns (order_of_turns (take (k + 1) turns)) ≡ plain_turns (order_of_turns (take k turns)) ++ replicate t.count (t.thread, false) =
    ap (λ (z : ℕ). plain_turns (order_of_turns (take z turns))) next
    ∙ ap plain_turns (order_of_turns_step turns k t l (get_or_default turns k none t l))
    ∙ plain_turns_of_append (order_of_turns (take k turns)) (replicate t.count t.thread)
    ∙ ap (λ (z : List Turn). plain_turns (order_of_turns (take k turns)) ++ z) (plain_turns-replicate t.count t.thread) in
    subst (IsListOf list) (sym same) h

pub turns_of_items_step : (items : List Item) (k : ℕ) (x : Item) → k < length items → x ≡ get_or items k x
    → turns_of_items (take (suc k) items) ≡ turns_of_items (take k items) ++ replicate x.count (x.thread, x.refused)
turns_of_items_step [] k x l e = absurd (omega (arith, l))
turns_of_items_step (y ∷ ys) zero x l e =
    append-nil (replicate y.count (y.thread, y.refused)) ∙ ap (λ (z : Item). replicate z.count (z.thread, z.refused)) (sym e)
turns_of_items_step (y ∷ ys) (suc k) x l e = ap (λ (z : List Turn). replicate y.count (y.thread, y.refused) ++ z)
    (turns_of_items_step ys k x (omega (arith, l)) e)
    ∙ sym (append_assoc (replicate y.count (y.thread, y.refused)) (turns_of_items (take k ys)) (replicate x.count (x.thread, x.refused)))
