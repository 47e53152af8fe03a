-- A stream in pieces, and a reader that keeps the first bytes of a packet.
use Rattle.std.proofs.Common.{◌≡◌, ◌≤◌, ◌<◌, ◌++◌, ◌∷◌, [], ℕ, List, Bool, true, false, cond, eqb, ltb, length, take, refl, sym, ap, ◌∙◌, append_assoc, arith, length-take}
use Rattle.std.proofs.lemmas.Bool.{lt-ltb, ltb-true, ltb-false}
use Rattle.std.proofs.lemmas.List.{take-append-le, take_all}
use Rattle.ir_packet.specs.Packets.{checksum, unescaped, two_digits, is_number}
use Rattle.ir_packet.specs.Stream.{Item, Packet, TooLong, BadSum, Place, Between, Inside, Summing, Digit, packet_item, ended_items, step, place_after, items_from}
use Rattle.ir_packet.specs.Reading.{kept, items_read}

pub items_from_of_append : (p : Place) (xs ys : List ℕ) → items_from p (xs ++ ys) ≡ items_from p xs ++ items_from (place_after p xs) ys
unfolding items_from place_after
items_from_of_append p [] ys = refl
items_from_of_append p (x ∷ xs) ys =
    ap (λ (r : List Item). ended_items p x ++ r) (items_from_of_append (step p x) xs ys)
    ∙ sym (append_assoc (ended_items p x) (items_from (step p x) xs) (items_from (place_after (step p x) xs) ys))

take_of_take : (n : ℕ) (xs : List ℕ) → take n (take n xs) ≡ take n xs
take_of_take n xs = take_all n (take n xs) (omega (arith, length-take n xs))

take_push_inner_take : (n : ℕ) (xs : List ℕ) (b : ℕ) (t : Bool) → ltb n (length xs) ≡ t → take n (take n xs ++ b ∷ []) ≡ take n (xs ++ b ∷ [])
take_push_inner_take n xs b true long =
    let h : n < length xs = ltb-true n (length xs) long in
    take-append-le n (take n xs) (b ∷ []) (omega (arith, length-take n xs)) ∙ take_of_take n xs
    ∙ sym (take-append-le n xs (b ∷ []) (omega (arith, h)))
take_push_inner_take n xs b false short = ap (λ (r : List ℕ). take n (r ++ b ∷ [])) (take_all n xs (ltb-false n (length xs) short))

long_packet_too_long : (raw : List ℕ) (a b : ℕ) → 4096 < length raw → packet_item raw a b ≡ TooLong
long_packet_too_long raw a b h =
    ap (λ (t : Bool). cond t TooLong (cond (is_number (two_digits a b) (checksum raw)) (Packet (unescaped raw)) BadSum))
    (lt-ltb 4096 (length raw) h)

packet_item_any_take : (raw : List ℕ) (a b : ℕ) (t : Bool) → ltb 4096 (length raw) ≡ t → packet_item (take 4097 raw) a b ≡ packet_item raw a b
packet_item_any_take raw a b true long =
    let h : 4096 < length raw = ltb-true 4096 (length raw) long in
    long_packet_too_long (take 4097 raw) a b (omega (arith, length-take 4097 raw, h)) ∙ sym (long_packet_too_long raw a b h)
packet_item_any_take raw a b false short =
    let h : length raw ≤ 4096 = ltb-false 4096 (length raw) short in
    ap (λ (r : List ℕ). packet_item r a b) (take_all 4097 raw (omega (arith, h)))

pub ends_ignores_kept : (p : Place) (b : ℕ) → ended_items (kept p) b ≡ ended_items p b
ends_ignores_kept Between b = refl
ends_ignores_kept (Inside raw) b = refl
ends_ignores_kept (Summing raw) b = refl
ends_ignores_kept (Digit raw a) b = ap (λ (i : Item). i ∷ []) (packet_item_any_take raw a b (ltb 4096 (length raw)) refl)

kept_inside_any_take : (raw : List ℕ) (b : ℕ) (t u : Bool) → kept (cond t (Inside []) (cond u (Summing (take 4097 raw)) (Inside (take 4097 raw ++ b ∷ []))))
    ≡ kept (cond t (Inside []) (cond u (Summing raw) (Inside (raw ++ b ∷ []))))
kept_inside_any_take raw b true u = refl
kept_inside_any_take raw b false true = ap Summing (take_of_take 4097 raw)
kept_inside_any_take raw b false false = ap Inside (take_push_inner_take 4097 raw b (ltb 4097 (length raw)) refl)

pub kept_step_ignores_kept : (p : Place) (b : ℕ) → kept (step (kept p) b) ≡ kept (step p b)
kept_step_ignores_kept Between b = refl
kept_step_ignores_kept (Inside raw) b = kept_inside_any_take raw b (eqb b 36) (eqb b 35)
kept_step_ignores_kept (Summing raw) b = ap (λ (r : List ℕ). Digit r b) (take_of_take 4097 raw)
kept_step_ignores_kept (Digit raw a) b = refl

pub items_read-kept : (p : Place) (bytes : List ℕ) → items_read (kept p) bytes ≡ items_from p bytes
unfolding items_from items_read
items_read-kept p [] = refl
items_read-kept p (b ∷ bytes) =
    ap (λ (e : List Item). e ++ items_read (kept (step (kept p) b)) bytes) (ends_ignores_kept p b)
    ∙ ap (λ (q : Place). ended_items p b ++ items_read q bytes) (kept_step_ignores_kept p b)
    ∙ ap (λ (r : List Item). ended_items p b ++ r) (items_read-kept (step p b) bytes)
