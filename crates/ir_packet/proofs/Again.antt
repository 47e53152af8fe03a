-- What is written is read back.
use Rattle.std.proofs.Common.{◌≡◌, ◌≤◌, ◌<◌, ◌+◌, ◌*◌, ◌/◌, ◌%◌, ◌++◌, ◌∷◌, [], ℕ, List, Bool, true, false, cond, eqb, length, refl, sym, ap, subst, ◌∙◌, append_assoc, append-nil, arith, ◌||◌, Some}
use Rattle.std.specs.Prelude.{bit_xor, slice_index, Option}
use Rattle.std.proofs.lemmas.Bool.{eqb-true, eq-eqb, le-ltb, false≢true}
use Rattle.hex.specs.Hex.{hex_digit_value, lower_digits}
use Rattle.hex.proofs.HexLemmas.{IsDigits-lower_digits}
use Rattle.ir_packet.specs.Packets.{checksum, unescaped, unescaped_from, digits_joined, two_digits, is_number, needs_escape, escaped_byte, escaped, packet_of}
use Rattle.ir_packet.specs.Stream.{Item, Packet, TooLong, BadSum, Between, Inside, Summing, packet_item, items_from, items, most_packet_bytes}

-- what holds of the four bytes that are escaped holds of each byte that is
escaped_byte_satisfies : (P : ℕ → Type 0) (b : ℕ) (t u v w : Bool) → eqb b 35 ≡ t → eqb b 36 ≡ u → eqb b 125 ≡ v → eqb b 42 ≡ w
    → (t || u || v || w) ≡ true → P 35 → P 36 → P 125 → P 42 → P b
escaped_byte_satisfies P b true u v w e1 e2 e3 e4 any p1 p2 p3 p4 = subst P (sym (eqb-true b 35 e1)) p1
escaped_byte_satisfies P b false true v w e1 e2 e3 e4 any p1 p2 p3 p4 = subst P (sym (eqb-true b 36 e2)) p2
escaped_byte_satisfies P b false false true w e1 e2 e3 e4 any p1 p2 p3 p4 = subst P (sym (eqb-true b 125 e3)) p3
escaped_byte_satisfies P b false false false true e1 e2 e3 e4 any p1 p2 p3 p4 = subst P (sym (eqb-true b 42 e4)) p4
escaped_byte_satisfies P b false false false false e1 e2 e3 e4 any p1 p2 p3 p4 = absurd (false≢true any)

-- a byte that needs no escape is none of the four
plain_byte_is_no_mark : (b : ℕ) (t u v w : Bool) → eqb b 35 ≡ t → eqb b 36 ≡ u → eqb b 125 ≡ v → (t || u || v || w) ≡ false
    → (eqb b 35 ≡ false) × (eqb b 36 ≡ false) × (eqb b 125 ≡ false)
plain_byte_is_no_mark b true u v w e1 e2 e3 none = absurd (false≢true (sym none))
plain_byte_is_no_mark b false true v w e1 e2 e3 none = absurd (false≢true (sym none))
plain_byte_is_no_mark b false false true w e1 e2 e3 none = absurd (false≢true (sym none))
plain_byte_is_no_mark b false false false w e1 e2 e3 none = (e1, e2, e3)

-- a byte that is neither `$` nor `#` stays in the packet
items_take_plain_byte : (raw : List ℕ) (b : ℕ) (more : List ℕ) → eqb b 36 ≡ false → eqb b 35 ≡ false
    → items_from (Inside raw) (b ∷ more) ≡ items_from (Inside (raw ++ b ∷ [])) more
unfolding items_from
items_take_plain_byte raw b more begins ends =
    ap (λ (t : Bool). items_from (cond t (Inside []) (cond (eqb b 35) (Summing raw) (Inside (raw ++ b ∷ [])))) more) begins
    ∙ ap (λ (t : Bool). items_from (cond t (Summing raw) (Inside (raw ++ b ∷ []))) more) ends

items_take_escape_pair : (raw : List ℕ) (b : ℕ) (more : List ℕ) → eqb b 36 ≡ false → eqb b 35 ≡ false
    → items_from (Inside raw) (125 ∷ b ∷ more) ≡ items_from (Inside (raw ++ 125 ∷ b ∷ [])) more
items_take_escape_pair raw b more begins ends =
    items_take_plain_byte raw 125 (b ∷ more) refl refl ∙ items_take_plain_byte (raw ++ 125 ∷ []) b more begins ends
    ∙ ap (λ (r : List ℕ). items_from (Inside r) more) (append_assoc raw (125 ∷ []) (b ∷ []))

items_take_escaped_byte : (raw : List ℕ) (b : ℕ) (more : List ℕ) (t : Bool) → needs_escape b ≡ t
    → items_from (Inside raw) (cond t (125 ∷ bit_xor b 32 ∷ []) (b ∷ []) ++ more)
    ≡ items_from (Inside (raw ++ cond t (125 ∷ bit_xor b 32 ∷ []) (b ∷ []))) more
items_take_escaped_byte raw b more true needs =
    escaped_byte_satisfies (λ (x : ℕ). items_from (Inside raw) (125 ∷ bit_xor x 32 ∷ more) ≡ items_from (Inside (raw ++ 125 ∷ bit_xor x 32 ∷ [])) more) b
    (eqb b 35) (eqb b 36) (eqb b 125) (eqb b 42) refl refl refl refl needs (items_take_escape_pair raw 3 more refl refl) (items_take_escape_pair raw 4 more refl refl)
    (items_take_escape_pair raw 93 more refl refl) (items_take_escape_pair raw 10 more refl refl)
items_take_escaped_byte raw b more false needs =
    let n = plain_byte_is_no_mark b (eqb b 35) (eqb b 36) (eqb b 125) (eqb b 42) refl refl refl needs in
    items_take_plain_byte raw b more n.1 n.0

items_take_payload : (raw payload rest : List ℕ) → items_from (Inside raw) (escaped payload ++ rest) ≡ items_from (Inside (raw ++ escaped payload)) rest
unfolding escaped
items_take_payload raw [] rest = ap (λ (r : List ℕ). items_from (Inside r) rest) (sym (append-nil raw))
items_take_payload raw (b ∷ payload) rest =
    ap (items_from (Inside raw)) (append_assoc (escaped_byte b) (escaped payload) rest)
    ∙ items_take_escaped_byte raw b (escaped payload ++ rest) (needs_escape b) refl ∙ items_take_payload (raw ++ escaped_byte b) payload rest
    ∙ ap (λ (r : List ℕ). items_from (Inside r) rest) (append_assoc raw (escaped_byte b) (escaped payload))

unescaped-escaped_byte : (b : ℕ) (more : List ℕ) (t : Bool) → needs_escape b ≡ t
    → unescaped_from false (cond t (125 ∷ bit_xor b 32 ∷ []) (b ∷ []) ++ more) ≡ b ∷ unescaped_from false more
unfolding unescaped_from
unescaped-escaped_byte b more true needs =
    escaped_byte_satisfies (λ (x : ℕ). unescaped_from false (125 ∷ bit_xor x 32 ∷ more) ≡ x ∷ unescaped_from false more) b (eqb b 35) (eqb b 36)
    (eqb b 125) (eqb b 42) refl refl refl refl needs refl refl refl refl
unescaped-escaped_byte b more false needs =
    let n = plain_byte_is_no_mark b (eqb b 35) (eqb b 36) (eqb b 125) (eqb b 42) refl refl refl needs in
    ap (λ (t : Bool). cond t (unescaped_from true more) (b ∷ unescaped_from false more)) n.2

unescaped_of_escaped : (payload : List ℕ) → unescaped_from false (escaped payload) ≡ payload
unfolding escaped unescaped_from
unescaped_of_escaped [] = refl
unescaped_of_escaped (b ∷ payload) =
    unescaped-escaped_byte b (escaped payload) (needs_escape b) refl ∙ ap (λ (r : List ℕ). b ∷ r) (unescaped_of_escaped payload)

eqb_reflexive : (n : ℕ) → eqb n n ≡ true
eqb_reflexive n = eq-eqb n n refl

joined_digits_number : (x y : Option ℕ) (h l n : ℕ) → x ≡ Some h → y ≡ Some l → h * 16 + l ≡ n → is_number (digits_joined x y) n ≡ true
joined_digits_number x y h l n p q e =
    ap (λ (o : Option ℕ). is_number (digits_joined o y) n) p ∙ ap (λ (o : Option ℕ). is_number (digits_joined (Some h) o) n) q
    ∙ ap (λ (m : ℕ). eqb m n) e ∙ eqb_reflexive n

lower_digits_number : (n : ℕ) → n < 256 → is_number (two_digits (slice_index lower_digits (n / 16)) (slice_index lower_digits (n % 16))) n ≡ true
lower_digits_number n below =
    joined_digits_number (hex_digit_value (slice_index lower_digits (n / 16))) (hex_digit_value (slice_index lower_digits (n % 16))) (n / 16) (n % 16) n
    (IsDigits-lower_digits (n / 16) (omega (arith, below))) (IsDigits-lower_digits (n % 16) (omega arith)) (omega arith)

escaped_is_packet : (payload : List ℕ) → length (escaped payload) ≤ 4096
    → packet_item (escaped payload) (slice_index lower_digits (checksum (escaped payload) / 16))
    (slice_index lower_digits (checksum (escaped payload) % 16)) ≡ Packet payload
escaped_is_packet payload fits =
    let raw = escaped payload in
    let s = checksum raw in
    let below : s < 256 = omega arith in
    ap (λ (t : Bool). cond t TooLong (cond (is_number (two_digits (slice_index lower_digits (s / 16)) (slice_index lower_digits (s % 16))) s)
    (Packet (unescaped raw)) BadSum)) (le-ltb 4096 (length raw) fits)
    ∙ ap (λ (t : Bool). cond t (Packet (unescaped raw)) BadSum) (lower_digits_number s below) ∙ ap Packet (unescaped_of_escaped payload)

items_after_mark : (more : List ℕ) → items_from Between (36 ∷ more) ≡ items_from (Inside []) more
unfolding items_from
items_after_mark more = refl

items_after_end : (raw : List ℕ) (a b : ℕ) (rest : List ℕ) → items_from (Inside raw) (35 ∷ a ∷ b ∷ rest) ≡ packet_item raw a b ∷ items_from Between rest
unfolding items_from
items_after_end raw a b rest = refl

pub items_of_packet : (payload rest : List ℕ) → length (escaped payload) ≤ most_packet_bytes → items (packet_of payload ++ rest) ≡ Packet payload ∷ items rest
items_of_packet payload rest fits =
    let raw = escaped payload in
    let s = checksum raw in
    let a = slice_index lower_digits (s / 16) in
    let b = slice_index lower_digits (s % 16) in
    items_after_mark ((raw ++ 35 ∷ a ∷ b ∷ []) ++ rest)
    ∙ ap (items_from (Inside [])) (append_assoc raw (35 ∷ a ∷ b ∷ []) rest)
    ∙ items_take_payload [] payload (35 ∷ a ∷ b ∷ rest) ∙ items_after_end raw a b rest
    ∙ ap (λ (i : Item). i ∷ items_from Between rest) (escaped_is_packet payload fits)
