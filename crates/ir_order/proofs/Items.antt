-- What an item spells that is printed.
use Rattle.std.proofs.Common.{◌≡◌, ◌<◌, ◌≤◌, ◌^◌, ℕ, zero, suc, ◌-◌, Bool, true, false, List, [], ◌∷◌, ◌++◌, length, get_or, refl, sym, ap}
use Rattle.std.proofs.Common.{◌∙◌, subst, arith, inl, inr, ◌⊎◌, length-append, append_assoc}
use Rattle.std.specs.Prelude.{◌≢◌, ◌==◌, ◌&&◌, nat_le, decimal, replicate, Option, Some, None, if◌then◌else◌}
use Rattle.std.specs.List.{slice_split}
use Rattle.std.specs.Str.{all_ascii_digits}
use Rattle.std.specs.Str.Parse.{digits_value}
use Rattle.std.proofs.lemmas.Bool.{eq-eqb, ne_eqb, le-leb, cases_eq}
use Rattle.std.proofs.lemmas.Fmt.{decimal_nonempty, digits_decimal, digits_value-decimal}
use Rattle.std.proofs.lemmas.List.{get_or_default}
use Rattle.std.proofs.lemmas.List.Splits.{slice_split_none, slice_split_at}
use Rattle.std.proofs.lemmas.Str.Parse.{not_in_digits}
use Rattle.ir_record_command.specs.Numerals.{number_within}
use Rattle.ir_record.specs.Refusing.{Turn}
use Rattle.ir_record_command.specs.Order.{most_turns, turn, turn_by, turn_of, turns, item_by, item_of}
use Rattle.ir_order.specs.Spelling.{item_text}
use Rattle.ir_record_command.proofs.CallerLemmas.{digits_numeral_model}

tests_true_is_some : (a d l h : Bool) (v : ℕ) → a ≡ true → d ≡ true → l ≡ true → h ≡ true
    → ◌≡◌ {A = Option ℕ} (if (a && d) && (l && h) then Some v else None) (Some v)
tests_true_is_some a d l h v p q r s = rw (p, q, r, s) refl

-- a number that is printed is read
number_within-decimal : (low high n : ℕ) → n < 2 ^ 64 → low ≤ n → n ≤ high → number_within low high (decimal n) ≡ Some n
number_within-decimal low high n small l h =
    let is : digits_value 10 (decimal n) ≡ n = digits_value-decimal digits_numeral_model n small in
    tests_true_is_some (nat_le 1 (length (decimal n))) (all_ascii_digits (decimal n)) (nat_le low (digits_value 10 (decimal n)))
    (nat_le (digits_value 10 (decimal n)) high) (digits_value 10 (decimal n))
    (le-leb 1 (length (decimal n)) (decimal_nonempty n small)) (digits_decimal digits_numeral_model n small)
    (le-leb low (digits_value 10 (decimal n)) (omega (arith, is, l))) (le-leb (digits_value 10 (decimal n)) high (omega (arith, is, h)))
    ∙ ap (λ (m : ℕ). Some m) is

-- no byte of a number that is printed is this mark
decimal_has_no_mark : (n mark : ℕ) → n < 2 ^ 64 → (mark < 48) ⊎ (57 < mark) → (k d : ℕ) → k < length (decimal n) → (get_or (decimal n) k d == mark) ≡ false
decimal_has_no_mark n mark small far k d l = ne_eqb (get_or (decimal n) k d) mark
    (λ e. not_in_digits digits_numeral_model (decimal n) mark (digits_decimal digits_numeral_model n small) (λ r. elim far [
      | inl low ↦ omega (arith, r, low)
      | inr high ↦ omega (arith, r, high)
    ]) k l (get_or_default (decimal n) k 0 d l ∙ e))

-- a byte more
no_mark_push : (bs : List ℕ) (byte mark : ℕ) → ((k d : ℕ) → k < length bs → (get_or bs k d == mark) ≡ false) → byte ≢ mark
    → (k d : ℕ) → k < length (bs ++ byte ∷ []) → (get_or (bs ++ byte ∷ []) k d == mark) ≡ false
no_mark_push [] byte mark none ne zero d l = ne_eqb byte mark ne
no_mark_push [] byte mark none ne (suc k) d l = absurd (omega (arith, l))
no_mark_push (b ∷ bs) byte mark none ne zero d l = none 0 d (omega arith)
no_mark_push (b ∷ bs) byte mark none ne (suc k) d l = no_mark_push bs byte mark (λ j c m. none (suc j) c (omega (arith, m))) ne k d (omega (arith, l))

-- a number that is printed, as a turn
turn_of_plain_decimal : (n thread : ℕ) → thread < n → thread < 2 ^ 64 → turn_of n (decimal thread) ≡ Some (thread, false)
turn_of_plain_decimal n thread l small =
    ap (turn_by n) (slice_split_none (λ b. b == 33) (decimal thread) (decimal_has_no_mark thread 33 small (inl (omega arith))))
    ∙ ap (λ (z : Option ℕ). turn z false) (number_within-decimal 0 (n - 1) thread small (omega arith) (omega (arith, l)))

-- and with a mark
turn_of_marked_decimal : (n thread : ℕ) → thread < n → thread < 2 ^ 64 → turn_of n (decimal thread ++ 33 ∷ []) ≡ Some (thread, true)
turn_of_marked_decimal n thread l small =
    ap (turn_by n) (slice_split_at (λ b. b == 33) (decimal thread) 33 [] (decimal_has_no_mark thread 33 small (inl (omega arith))) (eq-eqb 33 33 refl)
    ∙ ap (λ (z : List (List ℕ)). decimal thread ∷ z) (slice_split_none (λ b. b == 33) [] (λ k d l. absurd (omega (arith, l)))))
    ∙ ap (λ (z : Option ℕ). turn z true) (number_within-decimal 0 (n - 1) thread small (omega arith) (omega (arith, l)))

-- the text of a turn
abbrev pub turn_text : ℕ → Bool → List ℕ
turn_text thread false = decimal thread
turn_text thread true = decimal thread ++ 33 ∷ []

turn_of_turn_text : (n thread : ℕ) (refused : Bool) → thread < n → thread < 2 ^ 64 → turn_of n (turn_text thread refused) ≡ Some (thread, refused)
turn_of_turn_text n thread false l small = turn_of_plain_decimal n thread l small
turn_of_turn_text n thread true l small = turn_of_marked_decimal n thread l small

-- none of its bytes is such a mark
turn_text_has_no_mark : (thread : ℕ) (refused : Bool) (mark : ℕ) → thread < 2 ^ 64 → 57 < mark → (k d : ℕ) → k < length (turn_text thread refused)
    → (get_or (turn_text thread refused) k d == mark) ≡ false
turn_text_has_no_mark thread false mark small far = decimal_has_no_mark thread mark small (inr far)
turn_text_has_no_mark thread true mark small far = no_mark_push (decimal thread) 33 mark (decimal_has_no_mark thread mark small (inr far)) (λ e. omega (arith, e, far))

item_of_turn_text : (n thread : ℕ) (refused : Bool) → thread < n → thread < 2 ^ 64
    → item_of n (turn_text thread refused) ≡ Some (replicate 1 (thread, refused))
item_of_turn_text n thread refused l small =
    ap (item_by n) (slice_split_none (λ b. b == 120) (turn_text thread refused) (turn_text_has_no_mark thread refused 120 small (omega arith)))
    ∙ ap (λ (z : Option Turn). turns z (Some 1)) (turn_of_turn_text n thread refused l small)

item_of_counted_text : (n thread : ℕ) (refused : Bool) (count : ℕ) → thread < n → thread < 2 ^ 64 → 1 ≤ count → count ≤ most_turns
    → item_of n (turn_text thread refused ++ 120 ∷ decimal count) ≡ Some (replicate count (thread, refused))
item_of_counted_text n thread refused count l small some few =
    ap (item_by n) (slice_split_at (λ b. b == 120) (turn_text thread refused) 120 (decimal count) (turn_text_has_no_mark thread refused 120 small (omega arith))
    (eq-eqb 120 120 refl)
    ∙ ap (λ (z : List (List ℕ)). turn_text thread refused ∷ z)
    (slice_split_none (λ b. b == 120) (decimal count) (decimal_has_no_mark count 120 (omega (arith, few)) (inr (omega arith)))))
    ∙ ap (λ (z : Option Turn). turns z (number_within 1 most_turns (decimal count))) (turn_of_turn_text n thread refused l small)
    ∙ ap (turns (Some (thread, refused))) (number_within-decimal 1 most_turns count (omega (arith, few)) some few)

-- an item's text, by that of its turn
abbrev item_text_by_turn : ℕ → Bool → ℕ → Bool → List ℕ
item_text_by_turn thread refused count true = turn_text thread refused
item_text_by_turn thread refused count false = turn_text thread refused ++ 120 ∷ decimal count

item_text_is_by_turn : (thread : ℕ) (refused : Bool) (count : ℕ) (one : Bool) → (count == 1) ≡ one
    → item_text thread refused count ≡ item_text_by_turn thread refused count one
item_text_is_by_turn thread false count true e = rw e refl
item_text_is_by_turn thread false count false e = rw e refl
item_text_is_by_turn thread true count true e = rw e refl
item_text_is_by_turn thread true count false e = rw e (sym (append_assoc (decimal thread) (33 ∷ []) (120 ∷ decimal count)))

-- an item spells its turns
pub item_of-item_text : (n thread : ℕ) (refused : Bool) (count : ℕ) → thread < n → thread < 2 ^ 8 → 1 ≤ count → count ≤ most_turns
    → item_of n (item_text thread refused count) ≡ Some (replicate count (thread, refused))
item_of-item_text n thread refused count l small some few = elim (cases_eq count 1) [
  | inl one ↦ ap (item_of n) (item_text_is_by_turn thread refused count true (eq-eqb count 1 one)) ∙ item_of_turn_text n thread refused l (omega (arith, small))
      ∙ ap (λ k. Some (replicate k (thread, refused))) (sym one)
  | inr more ↦ ap (item_of n) (item_text_is_by_turn thread refused count false (ne_eqb count 1 more))
      ∙ item_of_counted_text n thread refused count l (omega (arith, small)) some few
]

-- ---- an item is one part of a list

-- no byte is a comma
abbrev pub HasNoComma : List ℕ → Type 0
HasNoComma bs = (k d : ℕ) → k < length bs → (get_or bs k d == 44) ≡ false

decimal_has_no_comma : (n : ℕ) → n < 2 ^ 64 → HasNoComma (decimal n)
decimal_has_no_comma n small = decimal_has_no_mark n 44 small (inl (omega arith))

turn_text_has_no_comma : (thread : ℕ) (refused : Bool) → thread < 2 ^ 64 → HasNoComma (turn_text thread refused)
turn_text_has_no_comma thread false small = decimal_has_no_comma thread small
turn_text_has_no_comma thread true small = no_mark_push (decimal thread) 33 44 (decimal_has_no_comma thread small) (λ e. omega (arith, e))

counted_has_no_comma : (xs ys : List ℕ) → HasNoComma xs → HasNoComma ys → HasNoComma (xs ++ 120 ∷ ys)
counted_has_no_comma [] ys a b zero d l = refl
counted_has_no_comma [] ys a b (suc k) d l = b k d (omega (arith, l))
counted_has_no_comma (x ∷ xs) ys a b zero d l = a 0 d (omega arith)
counted_has_no_comma (x ∷ xs) ys a b (suc k) d l = counted_has_no_comma xs ys (λ j c m. a (suc j) c (omega (arith, m))) b k d (omega (arith, l))

turn_item_has_no_comma : (thread : ℕ) (refused : Bool) (count : ℕ) → thread < 2 ^ 64 → count < 2 ^ 64 → (one : Bool)
    → HasNoComma (item_text_by_turn thread refused count one)
turn_item_has_no_comma thread refused count small few true = turn_text_has_no_comma thread refused small
turn_item_has_no_comma thread refused count small few false = counted_has_no_comma (turn_text thread refused) (decimal count) (turn_text_has_no_comma thread refused small)
    (decimal_has_no_comma count few)

pub split_of_item_text : (thread : ℕ) (refused : Bool) (count : ℕ) → thread < 2 ^ 8 → count ≤ most_turns
    → slice_split (λ b. b == 44) (item_text thread refused count) ≡ item_text thread refused count ∷ []
split_of_item_text thread refused count small few = slice_split_none (λ b. b == 44) (item_text thread refused count)
    (subst HasNoComma (sym (item_text_is_by_turn thread refused count (count == 1) refl))
    (turn_item_has_no_comma thread refused count (omega (arith, small)) (omega (arith, few)) (count == 1)))

item_text_is_nonempty : (thread : ℕ) (refused : Bool) (count : ℕ) → thread < 2 ^ 64 → (one : Bool) → 0 < length (item_text_by_turn thread refused count one)
item_text_is_nonempty thread false count small true = decimal_nonempty thread small
item_text_is_nonempty thread true count small true = omega (arith, length-append (decimal thread) (33 ∷ []))
item_text_is_nonempty thread refused count small false = omega (arith, length-append (turn_text thread refused) (120 ∷ decimal count))

pub item_text_is_not_empty : (thread : ℕ) (refused : Bool) (count : ℕ) → thread < 2 ^ 8 → 0 < length (item_text thread refused count)
item_text_is_not_empty thread refused count small = subst (λ z. 0 < length z) (sym (item_text_is_by_turn thread refused count (count == 1) refl))
    (item_text_is_nonempty thread refused count (omega (arith, small)) (count == 1))
