-- What the segments put at each address.
use Rattle.std.proofs.Common.{◌≡◌, ℕ, ◌+◌, ◌-◌, ◌≤◌, ◌<◌, leb, ltb, true, refl, inl, inr, List, [], ◌∷◌, ◌++◌, length, get_or, take, drop}
use Rattle.std.proofs.Common.{Some, None, ap, sym, ◌∙◌, arith, length-append, length-take-le}
use Rattle.std.proofs.lemmas.Bool.{cases_lt, cond_both, le-leb, lt-leb, lt-ltb, le-ltb, and_left, and_right, and_from}
use Rattle.std.proofs.lemmas.List.{get_or-take, get_or-drop, get_or_append_left, get_or-append_right, get_or_past, length-drop}
use Rattle.ir_elf.specs.declared.part.Part.{Part}
use Rattle.ir_elf.specs.declared.part.Part.TheVariants.{Code, Memory, Table}
use Rattle.ir_elf.specs.Layout.{layout_start, size_of}
use Rattle.ir_elf.specs.Segments.{Segment, segment_address, segment_end}
use Rattle.ir_elf.specs.Memory.{is_same, over, with_segment, with_segments}
use Rattle.ir_elf.specs.Addresses.{byte_in, byte_of, or_zero}
use Rattle.ir_elf.proofs.Order.{IsNext, AreOrdered}

-- ---- bytes over others

pub get_or_over_before : (place : ℕ) (own all : List ℕ) (i : ℕ) → i < place → place + length own ≤ length all
    → get_or (over place own all) i 0 ≡ get_or all i 0
get_or_over_before place own all i lt fits =
    let taken = length-take-le place all (omega arith) in
    let joined = length-append (take place all) own in
    get_or_append_left (take place all ++ own) (drop (place + length own) all) 0 i (omega (arith, lt, taken, joined))
    ∙ get_or_append_left (take place all) own 0 i (omega (arith, lt, taken)) ∙ get_or-take place all i 0 lt

get_or_over_inside : (place : ℕ) (own all : List ℕ) (i : ℕ) → place ≤ i → i < place + length own → place + length own ≤ length all
    → get_or (over place own all) i 0 ≡ get_or own (i - place) 0
get_or_over_inside place own all i low high fits =
    let taken = length-take-le place all (omega arith) in
    let joined = length-append (take place all) own in
    get_or_append_left (take place all ++ own) (drop (place + length own) all) 0 i (omega (arith, high, taken, joined))
    ∙ get_or-append_right (take place all) own place i 0 taken low

pub get_or_over_after : (place : ℕ) (own all : List ℕ) (i : ℕ) → place + length own ≤ i → place + length own ≤ length all
    → get_or (over place own all) i 0 ≡ get_or all i 0
get_or_over_after place own all i low fits =
    let taken = length-take-le place all (omega arith) in
    let joined : length (take place all ++ own) ≡ place + length own = length-append (take place all) own ∙ ap (λ (k : ℕ). k + length own) taken in
    let back : place + length own + (i - (place + length own)) ≡ i = omega (arith, low) in
    get_or-append_right (take place all ++ own) (drop (place + length own) all) (place + length own) i 0 joined low
    ∙ get_or-drop (place + length own) all (i - (place + length own)) 0 ∙ ap (λ (k : ℕ). get_or all k 0) back

over_keeps_length : (place : ℕ) (own all : List ℕ) → place + length own ≤ length all → length (over place own all) ≡ length all
over_keeps_length place own all fits =
    let taken = length-take-le place all (omega arith) in
    let joined = length-append (take place all) own in
    let whole = length-append (take place all ++ own) (drop (place + length own) all) in
    let left = length-drop (place + length own) all in
    omega (arith, fits, taken, joined, whole, left)

-- ---- parts

pub same_parts_equal : (p q : Part) → is_same p q ≡ true → p ≡ q
same_parts_equal Code Code e = refl
same_parts_equal Memory Memory e = refl
same_parts_equal Table Table e = refl
same_parts_equal Code Memory e = absurd cc
same_parts_equal Code Table e = absurd cc
same_parts_equal Memory Code e = absurd cc
same_parts_equal Memory Table e = absurd cc
same_parts_equal Table Code e = absurd cc
same_parts_equal Table Memory e = absurd cc

-- no address is in two parts
part_of_address_unique : (p q : Part) (i j : ℕ) → i < size_of p → j < size_of q → layout_start p + i ≡ layout_start q + j → is_same q p ≡ true
part_of_address_unique Code Code i j l m e = refl
part_of_address_unique Memory Memory i j l m e = refl
part_of_address_unique Table Table i j l m e = refl
part_of_address_unique Code Memory i j l m e = absurd (omega (arith, l, m, e))
part_of_address_unique Code Table i j l m e = absurd (omega (arith, l, m, e))
part_of_address_unique Memory Code i j l m e = absurd (omega (arith, l, m, e))
part_of_address_unique Memory Table i j l m e = absurd (omega (arith, l, m, e))
part_of_address_unique Table Code i j l m e = absurd (omega (arith, l, m, e))
part_of_address_unique Table Memory i j l m e = absurd (omega (arith, l, m, e))

-- ---- one segment

-- a segment of the part fits into as many bytes as the part has
pub segment_fits_in_part : (part : Part) (s : Segment) (last : ℕ) (all : List ℕ) → IsNext last s → length all ≡ size_of part → is_same s.part part ≡ true
    → s.place + length s.bytes ≤ length all
segment_fits_in_part part s last all next whole same =
    let size : size_of s.part ≡ size_of part = ap size_of (same_parts_equal s.part part same) in
    let within = next.within in
    let held = next.held in
    omega (arith, size, within, held, whole)

pub length-with_segment : (part : Part) (s : Segment) (last : ℕ) (all : List ℕ) → IsNext last s → length all ≡ size_of part
    → length (with_segment part s all) ≡ size_of part
length-with_segment part s last all next whole =
    cond_both (is_same s.part part) (over s.place s.bytes all) all (λ xs. length xs ≡ size_of part)
    (λ same. over_keeps_length s.place s.bytes all (segment_fits_in_part part s last all next whole same) ∙ whole) (λ other. whole)

-- below a segment nothing changes
with_segment_below : (part : Part) (s : Segment) (last : ℕ) (all : List ℕ) (i : ℕ) → IsNext last s → length all ≡ size_of part
    → layout_start part + i < segment_address s → get_or (with_segment part s all) i 0 ≡ get_or all i 0
with_segment_below part s last all i next whole lt =
    cond_both (is_same s.part part) (over s.place s.bytes all) all (λ xs. get_or xs i 0 ≡ get_or all i 0)
    (λ same. let start : layout_start s.part ≡ layout_start part = ap layout_start (same_parts_equal s.part part same) in
    get_or_over_before s.place s.bytes all i (omega (arith, start, lt)) (segment_fits_in_part part s last all next whole same)) (λ other. refl)

-- above it nothing either
with_segment_above : (part : Part) (s : Segment) (last : ℕ) (all : List ℕ) (i : ℕ) → IsNext last s → length all ≡ size_of part
    → segment_end s ≤ layout_start part + i → get_or (with_segment part s all) i 0 ≡ get_or all i 0
with_segment_above part s last all i next whole le =
    cond_both (is_same s.part part) (over s.place s.bytes all) all (λ xs. get_or xs i 0 ≡ get_or all i 0)
    (λ same. let start : layout_start s.part ≡ layout_start part = ap layout_start (same_parts_equal s.part part same) in
    let held = next.held in
    get_or_over_after s.place s.bytes all i (omega (arith, start, le, held)) (segment_fits_in_part part s last all next whole same)) (λ other. refl)

-- in it is what the file holds, and 0 after that
with_segment_inside : (part : Part) (s : Segment) (last : ℕ) (all : List ℕ) (i : ℕ) → IsNext last s → length all ≡ size_of part → i < size_of part
    → segment_address s ≤ layout_start part + i → layout_start part + i < segment_end s → get_or all i 0 ≡ 0
    → get_or (with_segment part s all) i 0 ≡ get_or s.bytes (layout_start part + i - segment_address s) 0
with_segment_inside part s last all i next whole lt low high zero =
    let within = next.within in
    let same : is_same s.part part ≡ true = part_of_address_unique part s.part i (layout_start part + i - layout_start s.part) lt (omega (arith, low, high, within))
    (omega (arith, low)) in
    let start : layout_start s.part ≡ layout_start part = ap layout_start (same_parts_equal s.part part same) in
    let there : i - s.place ≡ layout_start part + i - segment_address s = omega (arith, start) in
    let fits = segment_fits_in_part part s last all next whole same in
    let placed : get_or (over s.place s.bytes all) i 0 ≡ get_or s.bytes (i - s.place) 0 = elim (cases_lt i (s.place + length s.bytes)) [
      | inl l ↦ get_or_over_inside s.place s.bytes all i (omega (arith, low, start)) l fits
      | inr g ↦ get_or_over_after s.place s.bytes all i g fits ∙ zero ∙ sym (get_or_past s.bytes (i - s.place) 0 (omega (arith, g)))
    ] in
    rw same (placed ∙ ap (λ (k : ℕ). get_or s.bytes k 0) there)

-- ---- the byte of a segment

byte_in_below_is_none : (s : Segment) (a : ℕ) → a < segment_address s → byte_in s a ≡ None
byte_in_below_is_none s a lt = rw (and_left (leb (segment_address s) a) (ltb a (segment_end s)) (lt-leb (segment_address s) a lt)) refl

byte_in_above_is_none : (s : Segment) (a : ℕ) → segment_end s ≤ a → byte_in s a ≡ None
byte_in_above_is_none s a le = rw (and_right (leb (segment_address s) a) (ltb a (segment_end s)) (le-ltb a (segment_end s) le)) refl

byte_in_inside : (s : Segment) (a : ℕ) → segment_address s ≤ a → a < segment_end s → byte_in s a ≡ Some (get_or s.bytes (a - segment_address s) 0)
byte_in_inside s a low high = rw
    (and_from (leb (segment_address s) a) (ltb a (segment_end s)) (le-leb (segment_address s) a low) (lt-ltb a (segment_end s) high)) refl

-- ---- all segments

record IsUntouched (part : Part) (ss : List Segment) (all : List ℕ) (i : ℕ) : Type 0 where
  kept : get_or (with_segments part ss all) i 0 ≡ get_or all i 0
  none : byte_of ss (layout_start part + i) ≡ None

untouched_below : (part : Part) (ss : List Segment) (all : List ℕ) (last i : ℕ) → AreOrdered last ss → layout_start part + i < last
    → length all ≡ size_of part → IsUntouched part ss all i
untouched_below part [] all last i o lt whole = record { kept = refl; none = refl }
untouched_below part (s ∷ ss) all last i o lt whole =
    let next = o.0 in
    let low = next.low in
    let far : layout_start part + i < segment_address s = omega (arith, low, lt) in
    let rest = untouched_below part ss (with_segment part s all) (segment_end s) i o.1 (omega (arith, far)) (length-with_segment part s last all next whole) in
    record {
      kept = rest.kept ∙ with_segment_below part s last all i next whole far;
      none = rw (byte_in_below_is_none s (layout_start part + i) far) rest.none;
    }

-- where nothing is yet, the byte of the segment that has the address is put
pub with_segments_byte : (part : Part) (ss : List Segment) (all : List ℕ) (last i : ℕ) → AreOrdered last ss → last ≤ layout_start part + i
    → i < size_of part → length all ≡ size_of part → get_or all i 0 ≡ 0
    → get_or (with_segments part ss all) i 0 ≡ or_zero (byte_of ss (layout_start part + i))
with_segments_byte part [] all last i o le lt whole zero = zero
with_segments_byte part (s ∷ ss) all last i o le lt whole zero =
    let next = o.0 in
    let a = layout_start part + i in
    let more = with_segment part s all in
    let length_is = length-with_segment part s last all next whole in
    elim (cases_lt a (segment_address s)) [
      | inl l ↦ (let rest = untouched_below part ss more (segment_end s) i o.1 (omega (arith, l)) length_is in
          rest.kept ∙ with_segment_below part s last all i next whole l ∙ zero ∙ sym (rw (byte_in_below_is_none s a l, rest.none) refl))
      | inr g ↦ elim (cases_lt a (segment_end s)) [
        | inl l ↦ (let rest = untouched_below part ss more (segment_end s) i o.1 l length_is in
            rest.kept ∙ with_segment_inside part s last all i next whole lt g l zero ∙ sym (rw (byte_in_inside s a g l) refl))
        | inr h ↦ with_segments_byte part ss more (segment_end s) i o.1 h lt length_is (with_segment_above part s last all i next whole h ∙ zero)
            ∙ sym (rw (byte_in_above_is_none s a h) refl)
      ]
    ]
