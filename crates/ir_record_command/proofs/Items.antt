-- The items of an order.
use Rattle.std.proofs.Common.{◌≡◌, ◌≤◌, ℕ, ◌-◌, Bool, false, List, [], ◌∷◌, length, refl, sym, ap, ◌∙◌, arith, inl, inr, Bor, ◌+◌}
use Rattle.std.specs.Prelude.{◌≢◌, ◌==◌, ◌&&◌, nat_le, true, if◌then◌else◌, Option, Some, None, replicate}
use Rattle.std.specs.Option.{is_some, is_none}
use Rattle.std.specs.Char.{is_ascii_digit}
use Rattle.std.specs.List.{slice_split, join_with_byte, list_all}
use Rattle.std.specs.Str.{all_ascii_digits}
use Rattle.std.proofs.lemmas.Bool.{cases_Bool, false≢true, le-leb}
use Rattle.std.proofs.lemmas.List.Splits.{join_with_byte-slice_split, length-slice_split}
use Rattle.std.proofs.lemmas.Str.Parse.{not_in_digits}
use Rattle.ir_record_command.specs.Numerals.{number_within}
use Rattle.ir_record.specs.Refusing.{Turn}
use Rattle.ir_record_command.specs.Order.{most_turns, turn, turn_by, turn_of, turns, item_by, item_of, items_joined, items_of, order_of, first_bad, is_digits, is_turn_by, is_item_by}
use Rattle.ir_record_command.proofs.Numerals.{digits_numeral_model, no_digits_no_number}
use Rattle.ir_record_command.proofs.Parts.{split_without_mark}
use Rattle.ir_lemmas.proofs.CallerLemmas.{conjunction_with_false}

no_count_no_turns : (one : Option Turn) → turns one None ≡ None
no_count_no_turns (Some one) = refl
no_count_no_turns None = refl

no_thread_no_turns : (count : Option ℕ) → turns None count ≡ None
no_thread_no_turns (Some count) = refl
no_thread_no_turns None = refl

-- the parts of what isn't all digits spell no number of steps
unspelled_item_none : (threads : ℕ) (thread bs : List ℕ) (parts : List (List ℕ)) → number_within 1 most_turns bs ≡ None → join_with_byte 120 parts ≡ bs
    → 1 ≤ length parts → item_by threads (thread ∷ parts) ≡ None
unspelled_item_none threads thread bs [] none e some = absurd (omega (arith, some))
unspelled_item_none threads thread bs (a ∷ []) none e some =
    ap (λ (z : List ℕ). turns (turn_of threads thread) (number_within 1 most_turns z)) e
    ∙ ap (turns (turn_of threads thread)) none ∙ no_count_no_turns (turn_of threads thread)
unspelled_item_none threads thread bs (a ∷ b ∷ parts) none e some = refl

-- an item with a mark
pub counted_item_is_turns : (threads : ℕ) (item thread count : List ℕ) → slice_split (λ b. b == 120) item ≡ thread ∷ slice_split (λ b. b == 120) count
    → item_of threads item ≡ turns (turn_of threads thread) (number_within 1 most_turns count)
counted_item_is_turns threads item thread count e = ap (item_by threads) e ∙ elim (cases_Bool (all_ascii_digits count)) [
  | inl all ↦ ap (λ (z : List (List ℕ)). item_by threads (thread ∷ z))
      (split_without_mark 120 count (not_in_digits digits_numeral_model count 120 all (λ r. omega (arith, r))))
  | inr other ↦
      let none = no_digits_no_number 1 most_turns count other in
      unspelled_item_none threads thread count (slice_split (λ b. b == 120) count) none (join_with_byte-slice_split 120 count)
      (omega (arith, length-slice_split (λ b. b == 120) count))
      ∙ sym (ap (turns (turn_of threads thread)) none ∙ no_count_no_turns (turn_of threads thread))
]

-- an item without
pub uncounted_is_one_turn : (threads : ℕ) (item thread : List ℕ) → slice_split (λ b. b == 120) item ≡ thread ∷ []
    → item_of threads item ≡ turns (turn_of threads thread) (Some 1)
uncounted_is_one_turn threads item thread e = ap (item_by threads) e

pub spelled_item_is_turns : (threads : ℕ) (item thread count : List ℕ) (t : Turn) (n : ℕ) → slice_split (λ b. b == 120) item ≡ thread
    ∷ slice_split (λ b. b == 120) count → turn_of threads thread ≡ Some t → number_within 1 most_turns count ≡ Some n
    → Some (replicate n t) ≡ item_of threads item
spelled_item_is_turns threads item thread count t n e a b = sym (counted_item_is_turns threads item thread count e
    ∙ ap (λ (z : Option Turn). turns z (number_within 1 most_turns count)) a ∙ ap (turns (Some t)) b)

pub unspelled_item_is_none : (threads : ℕ) (item thread count : List ℕ) → slice_split (λ b. b == 120) item ≡ thread ∷ slice_split (λ b. b == 120) count
    → number_within 1 most_turns count ≡ None → None ≡ item_of threads item
unspelled_item_is_none threads item thread count e b = sym (counted_item_is_turns threads item thread count e ∙ ap (turns (turn_of threads thread)) b
    ∙ no_count_no_turns (turn_of threads thread))

-- ---- a turn and its mark

-- a text with the mark at its end
pub marked_turn_is_refused : (threads : ℕ) (text thread rest : List ℕ) → slice_split (λ b. b == 33) text ≡ thread ∷ slice_split (λ b. b == 33) rest → rest ≡ []
    → turn_of threads text ≡ turn (number_within 0 (threads - 1) thread) true
marked_turn_is_refused threads text thread rest e none = ap (turn_by threads) (e ∙ ap (λ z. thread ∷ slice_split (λ b. b == 33) z) none)

-- a text with the mark before something else
parts_past_mark_none : (threads : ℕ) (thread bs : List ℕ) (parts : List (List ℕ)) → bs ≢ [] → join_with_byte 33 parts ≡ bs → 1 ≤ length parts
    → turn_by threads (thread ∷ parts) ≡ None
parts_past_mark_none threads thread bs [] some e long = absurd (omega (arith, long))
parts_past_mark_none threads thread bs ([] ∷ []) some e long = absurd (some (sym e))
parts_past_mark_none threads thread bs ((b ∷ part) ∷ []) some e long = refl
parts_past_mark_none threads thread bs ([] ∷ next ∷ parts) some e long = refl
parts_past_mark_none threads thread bs ((b ∷ part) ∷ next ∷ parts) some e long = refl

pub text_past_mark_none : (threads : ℕ) (text thread rest : List ℕ) → slice_split (λ b. b == 33) text ≡ thread ∷ slice_split (λ b. b == 33) rest
    → rest ≢ [] → turn_of threads text ≡ None
text_past_mark_none threads text thread rest e some = ap (turn_by threads) e
    ∙ parts_past_mark_none threads thread rest (slice_split (λ b. b == 33) rest) some (join_with_byte-slice_split 33 rest)
    (omega (arith, length-slice_split (λ b. b == 33) rest))

-- ---- items in turn

-- the items that are left
abbrev pub parts_left : Option (Bor (List ℕ)) → List (List ℕ)
parts_left None = []
parts_left (Some text) = slice_split (λ b. b == 44) text.now

-- more than the bytes that are left
abbrev pub bytes_left_bound : Option (Bor (List ℕ)) → ℕ
bytes_left_bound None = 0
bytes_left_bound (Some text) = 1 + length text.now

-- ---- why an item spells no steps

pub ascii_digit_tests_agree : (text : List ℕ) → list_all is_ascii_digit text ≡ all_ascii_digits text
ascii_digit_tests_agree [] = refl
ascii_digit_tests_agree (c ∷ cs) = ap (λ (z : Bool). is_ascii_digit c && z) (ascii_digit_tests_agree cs)

pub digit_tests_agree : (text : List ℕ) → (length text == 0) ≡ false → list_all is_ascii_digit text ≡ is_digits text
digit_tests_agree [] some = absurd (false≢true (sym some))
digit_tests_agree (c ∷ cs) some = ascii_digit_tests_agree (c ∷ cs)
    ∙ sym (ap (λ (z : Bool). z && all_ascii_digits (c ∷ cs)) (le-leb 1 (length (c ∷ cs)) (omega arith)))

is_turn_by_past_mark : (thread bs : List ℕ) (parts : List (List ℕ)) → bs ≢ [] → join_with_byte 33 parts ≡ bs → 1 ≤ length parts
    → is_turn_by (thread ∷ parts) ≡ false
is_turn_by_past_mark thread bs [] some e long = absurd (omega (arith, long))
is_turn_by_past_mark thread bs ([] ∷ []) some e long = absurd (some (sym e))
is_turn_by_past_mark thread bs ((b ∷ part) ∷ []) some e long = refl
is_turn_by_past_mark thread bs ([] ∷ next ∷ parts) some e long = refl
is_turn_by_past_mark thread bs ((b ∷ part) ∷ next ∷ parts) some e long = refl

-- a text with the mark before something else
pub is_turn_past_mark : (text thread rest : List ℕ) → slice_split (λ b. b == 33) text ≡ thread ∷ slice_split (λ b. b == 33) rest
    → rest ≢ [] → is_turn_by (slice_split (λ b. b == 33) text) ≡ false
is_turn_past_mark text thread rest e some = ap is_turn_by e
    ∙ is_turn_by_past_mark thread rest (slice_split (λ b. b == 33) rest) some (join_with_byte-slice_split 33 rest)
    (omega (arith, length-slice_split (λ b. b == 33) rest))

is_digits_false : (text : List ℕ) → all_ascii_digits text ≡ false → is_digits text ≡ false
is_digits_false text other = ap (λ (z : Bool). nat_le 1 (length text) && z) other ∙ conjunction_with_false (nat_le 1 (length text))

-- the parts of what isn't all digits are none of an item
is_item_by_other_parts : (one bs : List ℕ) (parts : List (List ℕ)) → is_digits bs ≡ false → join_with_byte 120 parts ≡ bs → 1 ≤ length parts
    → is_item_by (one ∷ parts) ≡ (is_turn_by (slice_split (λ b. b == 33) one) && is_digits bs)
is_item_by_other_parts one bs [] other e some = absurd (omega (arith, some))
is_item_by_other_parts one bs (a ∷ []) other e some = ap (λ (z : List ℕ). is_turn_by (slice_split (λ b. b == 33) one) && is_digits z) e
is_item_by_other_parts one bs (a ∷ b ∷ parts) other e some =
    sym (ap (λ (z : Bool). is_turn_by (slice_split (λ b. b == 33) one) && z) other
    ∙ conjunction_with_false (is_turn_by (slice_split (λ b. b == 33) one)))

-- an item with a letter x
pub is_item_counted_parts : (item one count : List ℕ) → slice_split (λ b. b == 120) item ≡ one ∷ slice_split (λ b. b == 120) count
    → is_item_by (slice_split (λ b. b == 120) item) ≡ (is_turn_by (slice_split (λ b. b == 33) one) && is_digits count)
is_item_counted_parts item one count e = ap is_item_by e ∙ elim (cases_Bool (all_ascii_digits count)) [
  | inl all ↦ ap (λ (z : List (List ℕ)). is_item_by (one ∷ z))
      (split_without_mark 120 count (not_in_digits digits_numeral_model count 120 all (λ r. omega (arith, r))))
  | inr other ↦ is_item_by_other_parts one count (slice_split (λ b. b == 120) count) (is_digits_false count other)
      (join_with_byte-slice_split 120 count) (omega (arith, length-slice_split (λ b. b == 120) count))
]

-- a list without a bad item spells an order
some_is_not_none : {A : Type 0} (a : A) → ◌≡◌ {A = Option A} (Some a) None → ⊥
some_is_not_none a e = absurd (false≢true (sym (ap is_some e)))

joined_is_spelled : (threads : ℕ) (first : Option (List Turn)) (rest : Option (List Turn)) → is_none first ≡ false → items_joined first rest ≡ None → rest ≡ None
joined_is_spelled threads None rest is e = absurd (false≢true (sym is))
joined_is_spelled threads (Some first) None is e = refl
joined_is_spelled threads (Some first) (Some rest) is e = absurd (some_is_not_none _ e)

unspelled_has_bad_item : (threads : ℕ) (items : List (List ℕ)) → items_of threads items ≡ None → first_bad threads items ≢ None
unspelled_has_bad_item threads [] e = λ _. absurd (some_is_not_none _ e)
unspelled_has_bad_item threads (item ∷ items) e = elim (cases_Bool (is_none (item_of threads item))) [
  | inl bad ↦ λ h. absurd (some_is_not_none _ (sym (ap (λ (z : Bool). if z then Some item else first_bad threads items) bad) ∙ h))
  | inr good ↦ λ h. unspelled_has_bad_item threads items
      (joined_is_spelled threads (item_of threads item) (items_of threads items) good e)
      (sym (ap (λ (z : Bool). if z then Some item else first_bad threads items) good) ∙ h)
]

pub unspelled_list_is_bad : (threads : ℕ) (list : List ℕ) → order_of threads list ≡ None → first_bad threads (slice_split (λ b. b == 44) list) ≢ None
unspelled_list_is_bad threads list e = unspelled_has_bad_item threads (slice_split (λ b. b == 44) list) e
