-- The first bytes of a packet, as a reader keeps them.
use Rattle.std.proofs.Common.{◌≡◌, ◌≤◌, ◌<◌, ◌++◌, ◌∷◌, [], ℕ, List, length, sym, ap, ◌∙◌, arith, length-append, Bool, false, cond, eqb}
use Rattle.std.proofs.lemmas.List.{take-append-le, take_all}
use Rattle.ir_packet.specs.Stream.{Place, Inside, Summing, Digit, step}
use Rattle.ir_packet.specs.Reading.{kept, read_place}
use Rattle.ir_packet.specs.declared.standing.Standing.{Standing}
use Rattle.ir_packet.specs.declared.standing.Standing.TheVariants as standing

pub short_summing_is_kept : (raw : List ℕ) → length raw ≤ 4097 → Summing raw ≡ kept (Summing raw)
short_summing_is_kept raw fits = ap Summing (sym (take_all 4097 raw fits))

pub short_digit_is_kept : (raw : List ℕ) (a : ℕ) → length raw ≤ 4097 → Digit raw a ≡ kept (Digit raw a)
short_digit_is_kept raw a fits = ap (λ (r : List ℕ). Digit r a) (sym (take_all 4097 raw fits))

pub short_inside_is_kept : (raw : List ℕ) (b : ℕ) → length raw ≤ 4096 → Inside (raw ++ b ∷ []) ≡ kept (Inside (raw ++ b ∷ []))
short_inside_is_kept raw b fits = ap Inside (sym (take_all 4097 (raw ++ b ∷ []) (omega (arith, length-append raw (b ∷ [])))))

pub full_inside_drops_byte : (raw : List ℕ) (b : ℕ) → length raw ≤ 4097 → 4096 < length raw → Inside raw ≡ kept (Inside (raw ++ b ∷ []))
full_inside_drops_byte raw b fits full =
    let n : length raw ≡ 4097 = omega (arith, fits, full) in
    ap Inside (sym (take-append-le 4097 raw (b ∷ []) (omega (arith, n)) ∙ take_all 4097 raw fits))

pub full_step_drops_byte : (raw : List ℕ) (b : ℕ) → length raw ≤ 4097 → 4096 < length raw → eqb b 36 ≡ false → eqb b 35 ≡ false
    → Inside raw ≡ kept (step (Inside raw) b)
full_step_drops_byte raw b fits full begins ends =
    full_inside_drops_byte raw b fits full
    ∙ ap (λ (t : Bool). kept (cond t (Summing raw) (Inside (raw ++ b ∷ [])))) (sym ends)
    ∙ ap (λ (t : Bool). kept (cond t (Inside []) (cond (eqb b 35) (Summing raw) (Inside (raw ++ b ∷ []))))) (sym begins)

pub summing_step_is_digit : (s : Standing) (p : Place) (raw : List ℕ) (b : ℕ) → length raw ≤ 4097 → s ≡ standing.Summing → p ≡ read_place s raw
    → Digit raw b ≡ kept (step p b)
summing_step_is_digit s p raw b fits stands is =
    short_digit_is_kept raw b fits ∙ sym (ap (λ (q : Place). kept (step q b)) (is ∙ ap (λ (t : Standing). read_place t raw) stands))
