-- The parts of a stream.
use Rattle.std.proofs.Common.{◌≡◌, ◌++◌, ◌∷◌, [], ℕ, List, Bool, true, false, cond, eqb, refl, sym, ap, ◌∙◌, append_assoc, append-nil}
use Rattle.std.specs.Prelude.{flat_map}
use Rattle.std.specs.List.{AllByRecursion}
use Rattle.std.proofs.lemmas.Bool.{eqb-true, eqb-false, false≢true}
use Rattle.std.proofs.lemmas.Grind.{flat_map-append}
use Rattle.ir_packet.specs.Stream.{Item, Place, Between, Inside, Summing, Digit, byte_items, ended_items, step, items_from, items}
use Rattle.ir_packet.specs.Parts.{Part, Byte, Whole, CutOff, bytes_of, items_of_part, begun_packet, part_at, parts_from, parts, IsPlain, IsPlainPlace, IsStreamPart}

-- what a byte after `$` leads to, by whether it is `$` or `#`
abbrev pub inside_by : Bool → Bool → List ℕ → ℕ → Place
inside_by t u raw b = cond t (Inside []) (cond u (Summing raw) (Inside (raw ++ b ∷ [])))

bytes_after_between : (b : ℕ) (bytes : List ℕ) (t : Bool) → eqb b 36 ≡ t
    → flat_map bytes_of (cond t [] (Byte b ∷ [])) ++ (begun_packet (cond t (Inside []) Between) ++ bytes) ≡ b ∷ bytes
bytes_after_between b bytes true is = ap (λ (x : ℕ). x ∷ bytes) (sym (eqb-true b 36 is))
bytes_after_between b bytes false is = refl

bytes_after_inside : (raw : List ℕ) (b : ℕ) (bytes : List ℕ) (t u : Bool) → eqb b 36 ≡ t → eqb b 35 ≡ u
    → flat_map bytes_of (cond t (CutOff (36 ∷ raw) ∷ []) []) ++ (begun_packet (inside_by t u raw b) ++ bytes) ≡ 36 ∷ (raw ++ b ∷ bytes)
bytes_after_inside raw b bytes true u is none =
    ap (λ (r : List ℕ). 36 ∷ (r ++ 36 ∷ bytes)) (append-nil raw) ∙ ap (λ (x : ℕ). 36 ∷ (raw ++ x ∷ bytes)) (sym (eqb-true b 36 is))
bytes_after_inside raw b bytes false true none is =
    ap (λ (r : List ℕ). 36 ∷ r) (append_assoc raw (35 ∷ []) bytes) ∙ ap (λ (x : ℕ). 36 ∷ (raw ++ x ∷ bytes)) (sym (eqb-true b 35 is))
bytes_after_inside raw b bytes false false none isnt = ap (λ (r : List ℕ). 36 ∷ r) (append_assoc raw (b ∷ []) bytes)

bytes_of_whole_part : (raw : List ℕ) (a b : ℕ) (bytes : List ℕ)
    → flat_map bytes_of (Whole raw a b ∷ []) ++ bytes ≡ (36 ∷ (raw ++ 35 ∷ a ∷ [])) ++ b ∷ bytes
bytes_of_whole_part raw a b bytes =
    ap (λ (r : List ℕ). (36 ∷ r) ++ bytes) (append-nil (raw ++ 35 ∷ a ∷ b ∷ []))
    ∙ ap (λ (r : List ℕ). 36 ∷ r) (append_assoc raw (35 ∷ a ∷ b ∷ []) bytes ∙ sym (append_assoc raw (35 ∷ a ∷ []) (b ∷ bytes)))

bytes_of_part_step : (p : Place) (b : ℕ) (bytes : List ℕ) → flat_map bytes_of (part_at p b) ++ (begun_packet (step p b) ++ bytes) ≡ begun_packet p ++ b ∷ bytes
bytes_of_part_step Between b bytes = bytes_after_between b bytes (eqb b 36) refl
bytes_of_part_step (Inside raw) b bytes = bytes_after_inside raw b bytes (eqb b 36) (eqb b 35) refl refl
bytes_of_part_step (Summing raw) b bytes =
    ap (λ (r : List ℕ). 36 ∷ r) (append_assoc raw (35 ∷ b ∷ []) bytes ∙ sym (append_assoc raw (35 ∷ []) (b ∷ bytes)))
bytes_of_part_step (Digit raw a) b bytes = bytes_of_whole_part raw a b bytes

bytes_of_parts_from : (p : Place) (bytes : List ℕ) → flat_map bytes_of (parts_from p bytes) ≡ begun_packet p ++ bytes
unfolding parts_from
bytes_of_parts_from Between [] = refl
bytes_of_parts_from (Inside raw) [] = refl
bytes_of_parts_from (Summing raw) [] = refl
bytes_of_parts_from (Digit raw a) [] = refl
bytes_of_parts_from p (b ∷ bytes) =
    flat_map-append bytes_of (part_at p b) (parts_from (step p b) bytes)
    ∙ ap (λ (r : List ℕ). flat_map bytes_of (part_at p b) ++ r) (bytes_of_parts_from (step p b) bytes) ∙ bytes_of_part_step p b bytes

pub bytes_of_parts : (bytes : List ℕ) → flat_map bytes_of (parts bytes) ≡ bytes
bytes_of_parts bytes = bytes_of_parts_from Between bytes

items_of_part_between : (b : ℕ) (t : Bool) → eqb b 36 ≡ t → flat_map items_of_part (cond t [] (Byte b ∷ [])) ≡ byte_items b
items_of_part_between b true is = ap byte_items (sym (eqb-true b 36 is))
items_of_part_between b false is = append-nil (byte_items b)

items_of_part_inside : (raw : List ℕ) (t : Bool) → flat_map items_of_part (cond t (CutOff (36 ∷ raw) ∷ []) []) ≡ []
items_of_part_inside raw true = refl
items_of_part_inside raw false = refl

items_of_part_are_ends : (p : Place) (b : ℕ) → flat_map items_of_part (part_at p b) ≡ ended_items p b
items_of_part_are_ends Between b = items_of_part_between b (eqb b 36) refl
items_of_part_are_ends (Inside raw) b = items_of_part_inside raw (eqb b 36)
items_of_part_are_ends (Summing raw) b = refl
items_of_part_are_ends (Digit raw a) b = refl

items_of_parts_from : (p : Place) (bytes : List ℕ) → flat_map items_of_part (parts_from p bytes) ≡ items_from p bytes
unfolding parts_from items_from
items_of_parts_from Between [] = refl
items_of_parts_from (Inside raw) [] = refl
items_of_parts_from (Summing raw) [] = refl
items_of_parts_from (Digit raw a) [] = refl
items_of_parts_from p (b ∷ bytes) =
    flat_map-append items_of_part (part_at p b) (parts_from (step p b) bytes)
    ∙ ap (λ (r : List Item). flat_map items_of_part (part_at p b) ++ r) (items_of_parts_from (step p b) bytes)
    ∙ ap (λ (r : List Item). r ++ items_from (step p b) bytes) (items_of_part_are_ends p b)

pub items_of_parts : (bytes : List ℕ) → flat_map items_of_part (parts bytes) ≡ items bytes
items_of_parts bytes = items_of_parts_from Between bytes

plain_after_plain_byte : (raw : List ℕ) (b : ℕ) → IsPlain raw → (b ≡ 36 → ⊥) → (b ≡ 35 → ⊥) → IsPlain (raw ++ b ∷ [])
unfolding IsPlain
plain_after_plain_byte [] b plain begins ended_items = (begins, ended_items, tt)
plain_after_plain_byte (x ∷ xs) b plain begins ended_items = (plain.0, plain.1, plain_after_plain_byte xs b plain.2 begins ended_items)

empty_is_plain : IsPlain []
unfolding IsPlain
empty_is_plain = tt

inside_step_plain : (raw : List ℕ) (b : ℕ) (t u : Bool) → IsPlain raw → eqb b 36 ≡ t → eqb b 35 ≡ u → IsPlainPlace (inside_by t u raw b)
unfolding IsPlain
inside_step_plain raw b true u plain is none = empty_is_plain
inside_step_plain raw b false true plain none is = plain
inside_step_plain raw b false false plain isnt none = plain_after_plain_byte raw b plain (eqb-false b 36 isnt) (eqb-false b 35 none)

between_step_plain : (t : Bool) → IsPlainPlace (cond t (Inside []) Between)
between_step_plain true = empty_is_plain
between_step_plain false = tt

pub step_keeps_plain_place : (p : Place) (b : ℕ) → IsPlainPlace p → IsPlainPlace (step p b)
step_keeps_plain_place Between b plain = between_step_plain (eqb b 36)
step_keeps_plain_place (Inside raw) b plain = inside_step_plain raw b (eqb b 36) (eqb b 35) plain refl refl
step_keeps_plain_place (Summing raw) b plain = plain
step_keeps_plain_place (Digit raw a) b plain = tt

abbrev pub is_between : Place → Bool
is_between Between = true
is_between (Inside raw) = false
is_between (Summing raw) = false
is_between (Digit raw a) = false

pub not_between_by_test : (p : Place) → is_between p ≡ false → p ≡ Between → ⊥
not_between_by_test p isnt is = false≢true (sym isnt ∙ ap is_between is)

abbrev AreAllParts : List Part → Type 0
AreAllParts parts = AllByRecursion IsStreamPart parts

part_between_and_rest : (b : ℕ) (t : Bool) (rest : List Part) → eqb b 36 ≡ t → AreAllParts rest → AreAllParts (cond t [] (Byte b ∷ []) ++ rest)
part_between_and_rest b true rest is all = all
part_between_and_rest b false rest isnt all = (eqb-false b 36 isnt, all)

part_inside_and_rest : (raw : List ℕ) (t : Bool) (rest : List Part) → IsPlain raw → AreAllParts rest
    → AreAllParts (cond t (CutOff (36 ∷ raw) ∷ []) [] ++ rest)
part_inside_and_rest raw true rest plain all = ((Inside raw, refl, plain, not_between_by_test (Inside raw) refl), all)
part_inside_and_rest raw false rest plain all = all

part_at_and_rest : (p : Place) (b : ℕ) (rest : List Part) → IsPlainPlace p → AreAllParts rest → AreAllParts (part_at p b ++ rest)
part_at_and_rest Between b rest plain all = part_between_and_rest b (eqb b 36) rest refl all
part_at_and_rest (Inside raw) b rest plain all = part_inside_and_rest raw (eqb b 36) rest plain all
part_at_and_rest (Summing raw) b rest plain all = all
part_at_and_rest (Digit raw a) b rest plain all = (plain, all)

parts_from_are_parts : (p : Place) (bytes : List ℕ) → IsPlainPlace p → AreAllParts (parts_from p bytes)
unfolding parts_from
parts_from_are_parts Between [] plain = tt
parts_from_are_parts (Inside raw) [] plain = ((Inside raw, refl, plain, not_between_by_test (Inside raw) refl), tt)
parts_from_are_parts (Summing raw) [] plain = ((Summing raw, refl, plain, not_between_by_test (Summing raw) refl), tt)
parts_from_are_parts (Digit raw a) [] plain = ((Digit raw a, refl, plain, not_between_by_test (Digit raw a) refl), tt)
parts_from_are_parts p (b ∷ bytes) plain =
    part_at_and_rest p b (parts_from (step p b) bytes) plain (parts_from_are_parts (step p b) bytes (step_keeps_plain_place p b plain))

pub stream_parts_are_parts : (bytes : List ℕ) → AllByRecursion IsStreamPart (parts bytes)
stream_parts_are_parts bytes = parts_from_are_parts Between bytes tt
