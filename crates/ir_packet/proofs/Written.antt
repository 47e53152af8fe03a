-- A packet that was written byte by byte.
use Rattle.std.proofs.Common.{◌≡◌, ◌≤◌, ◌<◌, ◌+◌, ◌%◌, ◌++◌, ◌∷◌, [], ℕ, List, length, drop, refl, sym, ap, ◌∙◌, append_assoc, append-nil, arith}
use Rattle.std.specs.Prelude.{sum}
use Rattle.std.proofs.Math.ListN.{drop_of_length-le}
use Rattle.ir_packet.specs.Packets.{checksum, escaped, digits_of, packet_of}

escaped_of_empty : escaped [] ≡ []
unfolding escaped
escaped_of_empty = refl

escaped_past_end : (payload : List ℕ) (i : ℕ) → length payload ≤ i → escaped (drop i payload) ≡ []
escaped_past_end payload i past = ap escaped (drop_of_length-le payload past) ∙ escaped_of_empty

sum_at_end_is_checksum : (s : ℕ) (rest raw : List ℕ) → rest ≡ [] → s < 256 → (s + sum rest) % 256 ≡ sum raw % 256 → s ≡ checksum raw
sum_at_end_is_checksum s rest raw none below is =
    let e : sum rest ≡ 0 = ap sum none in
    omega (arith, e, below, is)

packet_append_assoc : (before raw end : List ℕ) → ((before ++ 36 ∷ raw) ++ 35 ∷ []) ++ end ≡ before ++ 36 ∷ (raw ++ 35 ∷ end)
packet_append_assoc before raw end =
    append_assoc (before ++ 36 ∷ raw) (35 ∷ []) end ∙ append_assoc before (36 ∷ raw) (35 ∷ end)

-- all bytes of the payload were written
pub whole_packet_at_end : (before out marked whole payload : List ℕ) (s i : ℕ) → length payload ≤ i
    → out ++ escaped (drop i payload) ≡ before ++ 36 ∷ escaped payload
    → (s + sum (escaped (drop i payload))) % 256 ≡ sum (escaped payload) % 256 → s < 256
    → marked ≡ out ++ 35 ∷ [] → whole ≡ marked ++ digits_of s → whole ≡ before ++ packet_of payload
whole_packet_at_end before out marked whole payload s i past bytes sums below hash digits =
    let none = escaped_past_end payload i past in
    let all : out ≡ before ++ 36 ∷ escaped payload = sym (append-nil out) ∙ ap (λ (r : List ℕ). out ++ r) (sym none) ∙ bytes in
    digits ∙ ap (λ (r : List ℕ). r ++ digits_of s) (hash ∙ ap (λ (r : List ℕ). r ++ 35 ∷ []) all)
    ∙ ap (λ (n : ℕ). ((before ++ 36 ∷ escaped payload) ++ 35 ∷ []) ++ digits_of n)
    (sum_at_end_is_checksum s (escaped (drop i payload)) (escaped payload) none below sums)
    ∙ packet_append_assoc before (escaped payload) (digits_of (checksum (escaped payload)))
