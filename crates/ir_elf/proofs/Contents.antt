-- A guest is what the segments of its file put at each address.
use Rattle.std.proofs.Common.{◌≡◌, ℕ, zero, suc, ◌+◌, ◌*◌, ◌/◌, ◌≤◌, ◌<◌, leb, ltb, refl, inl, inr, List, [], ◌∷◌, length, get_or}
use Rattle.std.proofs.Common.{slice_index, take, replicate, Some, Ok, ap, subst, sym, ◌∙◌, arith, length-take}
use Rattle.std.specs.Prelude.{◌&&◌}
use Rattle.std.proofs.lemmas.Bool.{cases_lt, cases_Bool, cond_both, ltb-true, lt-ltb, leb-true, and_parts}
use Rattle.std.proofs.lemmas.List.{get_or-take, get_or_past, get_or-replicate, length-replicate}
use Rattle.byteorder.specs.Endian.{little_number}
use Rattle.ir_bytes.specs.Reading.{◌>>=◌, bytes_at, fields_at}
use Rattle.ir_bytes.proofs.CallerLemmas.{two_binds_are_ok, four_binds_are_ok, ok_is_injective}
use Rattle.ir_image.specs.Guest.{Guest, code_start, memory_start, memory_size}
use Rattle.ir_elf.specs.declared.part.Part.{Part}
use Rattle.ir_elf.specs.declared.part.Part.TheVariants.{Code, Memory, Table}
use Rattle.ir_elf.specs.declared.refusal.Refusal.{Refusal}
use Rattle.ir_elf.specs.declared.refusal.Refusal.TheVariants.{Short, NoCode}
use Rattle.ir_elf.specs.Layout.{layout_start, size_of}
use Rattle.ir_elf.specs.Header.{headers_place_at, elf_header_at}
use Rattle.ir_elf.specs.Segments.{Segment, segment_address, segment_end, segments_from, segments_at}
use Rattle.ir_elf.specs.Memory.{is_same, over, with_segment, with_segments, memory_of, size_in, held_in, greatest, table_of, words_in}
use Rattle.ir_elf.specs.Table.{TableParts}
use Rattle.ir_elf.specs.Reading.{code_memory, code_words, data_bytes, table_found, guest_of, elf_guest_at}
use Rattle.ir_elf.specs.Addresses.{byte_of, elf_byte, elf_word, IsInParts}
use Rattle.ir_elf.proofs.Limits.{parts_of_ok_unless, guest_by}
use Rattle.ir_elf.proofs.Order.{IsNext, AreOrdered, segments_are_ordered}
use Rattle.ir_elf.proofs.Addresses.{get_or_over_before, get_or_over_after, same_parts_equal, segment_fits_in_part, length-with_segment, with_segments_byte}
use Rattle.ir_elf.proofs.Words.{length-words_in_own}

-- ---- the parts of a guest

pub segments_at_are_ordered : (file : List ℕ) (ss : List Segment) → segments_at file ≡ Ok ss → AreOrdered 0 ss
unfolding segments_at
segments_at_are_ordered file ss e =
    four_binds_are_ok (headers_place_at file) (λ found. bytes_at Short found.place file) (λ found before. fields_at elf_header_at found.number before.1)
    (λ found before headers. segments_from file 0 headers.0) ss e
    (λ found before headers e0 e1 e2 e3. segments_are_ordered file 0 headers.0 ss e3)

pub record IsGuestOf (ss : List Segment) (g : Guest) : Type 0 where
  pub t : TableParts
  pub some_code : 0 < code_words ss
  pub table : table_found (code_words ss) (table_of ss) ≡ Ok t
  pub guest : guest_by ss t ≡ g

pub guest_read_is_guest_of : (ss : List Segment) (g : Guest) → guest_of ss ≡ Ok g → IsGuestOf ss g
unfolding guest_of
guest_read_is_guest_of ss g e =
    let p = parts_of_ok_unless (ltb 0 (code_words ss)) NoCode (table_found (code_words ss) (table_of ss) >>= λ t. Ok (guest_by ss t)) g e in
    two_binds_are_ok (table_found (code_words ss) (table_of ss)) (λ t. Ok (guest_by ss t)) g p.1 (λ t e0 e1.
    record { t = t; some_code = ltb-true _ _ p.0; table = e0; guest = ok_is_injective Refusal (guest_by ss t) g e1 })

pub file_read_is_guest_of : (file : List ℕ) (ss : List Segment) (g : Guest) → segments_at file ≡ Ok ss → elf_guest_at file ≡ Ok g → IsGuestOf ss g
unfolding elf_guest_at
file_read_is_guest_of file ss g e h =
    two_binds_are_ok (segments_at file) (λ s. guest_of s) g h (λ s e0 e1.
    guest_read_is_guest_of ss g (subst (λ (x : List Segment). guest_of x ≡ Ok g) (ok_is_injective Refusal s ss (sym e0 ∙ e)) e1))

-- ---- memory

length-with_segments : (part : Part) (ss : List Segment) (last : ℕ) (all : List ℕ) → AreOrdered last ss → length all ≡ size_of part
    → length (with_segments part ss all) ≡ size_of part
length-with_segments part [] last all o whole = whole
length-with_segments part (s ∷ ss) last all o whole =
    length-with_segments part ss (segment_end s) (with_segment part s all) o.1 (length-with_segment part s last all o.0 whole)

pub length-memory_of : (part : Part) (ss : List Segment) → AreOrdered 0 ss → length (memory_of part ss) ≡ size_of part
length-memory_of part ss o = length-with_segments part ss 0 (replicate (size_of part) 0) o (length-replicate (size_of part) 0)

pub memory_byte_is_byte_at : (part : Part) (ss : List Segment) (i : ℕ) → AreOrdered 0 ss → i < size_of part
    → get_or (memory_of part ss) i 0 ≡ elf_byte ss (layout_start part + i)
memory_byte_is_byte_at part ss i o lt =
    with_segments_byte part ss (replicate (size_of part) 0) 0 i o (omega arith) lt (length-replicate (size_of part) 0)
    (get_or-replicate (size_of part) i 0 0 lt)

-- a segment that holds nothing from an offset on
with_segment_past_held : (part : Part) (s : Segment) (last : ℕ) (all : List ℕ) (i : ℕ) → IsNext last s → length all ≡ size_of part
    → held_in part s ≤ i → get_or (with_segment part s all) i 0 ≡ get_or all i 0
with_segment_past_held part s last all i next whole past =
    cond_both (is_same s.part part) (over s.place s.bytes all) all (λ xs. get_or xs i 0 ≡ get_or all i 0)
    (λ same. let fits = segment_fits_in_part part s last all next whole same in
    elim (cases_lt 0 (length s.bytes)) [
      | inl l ↦ (let held : held_in part s ≡ s.place + length s.bytes = rw (same, lt-ltb 0 (length s.bytes) l) refl in
          get_or_over_after s.place s.bytes all i (omega (arith, held, past)) fits)
      | inr g ↦ elim (cases_lt i s.place) [
        | inl l ↦ get_or_over_before s.place s.bytes all i l fits
        | inr h ↦ get_or_over_after s.place s.bytes all i (omega (arith, g, h)) fits
      ]
    ]) (λ other. refl)

with_segments_past_held : (part : Part) (ss : List Segment) (last : ℕ) (all : List ℕ) (i : ℕ) → AreOrdered last ss → length all ≡ size_of part
    → greatest (held_in part) ss ≤ i → get_or (with_segments part ss all) i 0 ≡ get_or all i 0
with_segments_past_held part [] last all i o whole past = refl
with_segments_past_held part (s ∷ ss) last all i o whole past =
    with_segments_past_held part ss (segment_end s) (with_segment part s all) i o.1 (length-with_segment part s last all o.0 whole) (omega (arith, past))
    ∙ with_segment_past_held part s last all i o.0 whole (omega (arith, past))

memory_past_held : (part : Part) (ss : List Segment) (i : ℕ) → AreOrdered 0 ss → i < size_of part → greatest (held_in part) ss ≤ i
    → get_or (memory_of part ss) i 0 ≡ 0
memory_past_held part ss i o lt past =
    with_segments_past_held part ss 0 (replicate (size_of part) 0) i o (length-replicate (size_of part) 0) past ∙ get_or-replicate (size_of part) i 0 0 lt

data_byte_is_byte_at : (ss : List Segment) (i : ℕ) → AreOrdered 0 ss → i < memory_size
    → get_or (take (data_bytes ss) (memory_of Memory ss)) i 0 ≡ elf_byte ss (memory_start + i)
data_byte_is_byte_at ss i o lt = elim (cases_lt i (data_bytes ss)) [
  | inl l ↦ get_or-take (data_bytes ss) (memory_of Memory ss) i 0 l ∙ memory_byte_is_byte_at Memory ss i o lt
  | inr g ↦ (let least = length-take (data_bytes ss) (memory_of Memory ss) in
      get_or_past (take (data_bytes ss) (memory_of Memory ss)) i 0 (omega (arith, least, g)) ∙ sym (memory_past_held Memory ss i o lt g)
      ∙ memory_byte_is_byte_at Memory ss i o lt)
]

pub guest_byte_is_byte_at : (file : List ℕ) (segments : List Segment) (g : Guest) (i : ℕ) → segments_at file ≡ Ok segments → elf_guest_at file ≡ Ok g
    → i < memory_size → slice_index g.bytes i ≡ elf_byte segments (memory_start + i)
guest_byte_is_byte_at file segments g i e h lt =
    let p = file_read_is_guest_of file segments g e h in
    subst (λ (x : Guest). slice_index x.bytes i ≡ elf_byte segments (memory_start + i)) p.guest
    (data_byte_is_byte_at segments i (segments_at_are_ordered file segments e) lt)

-- ---- code

-- the word of four bytes
abbrev word_of_four_bytes : List ℕ → ℕ → ℕ
word_of_four_bytes xs i = little_number 4 (get_or xs i 0 ∷ get_or xs (i + 1) 0 ∷ get_or xs (i + 2) 0 ∷ get_or xs (i + 3) 0 ∷ [])

little_numbers_equal : (a b c d x y z w : ℕ) → a ≡ x → b ≡ y → c ≡ z → d ≡ w
    → little_number 4 (a ∷ b ∷ c ∷ d ∷ []) ≡ little_number 4 (x ∷ y ∷ z ∷ w ∷ [])
little_numbers_equal a b c d x y z w p q r s = λ i. little_number 4 (p i ∷ q i ∷ r i ∷ s i ∷ [])

words_in_by_four_bytes : (xs : List ℕ) (k : ℕ) → k < length (words_in xs) → get_or (words_in xs) k 0 ≡ word_of_four_bytes xs (4 * k)
words_in_by_four_bytes [] k lt = absurd (omega (arith, lt))
words_in_by_four_bytes (a ∷ []) k lt = absurd (omega (arith, lt))
words_in_by_four_bytes (a ∷ b ∷ []) k lt = absurd (omega (arith, lt))
words_in_by_four_bytes (a ∷ b ∷ c ∷ []) k lt = absurd (omega (arith, lt))
words_in_by_four_bytes (a ∷ b ∷ c ∷ d ∷ more) zero lt = refl
words_in_by_four_bytes (a ∷ b ∷ c ∷ d ∷ more) (suc k) lt =
    let all : List ℕ = a ∷ b ∷ c ∷ d ∷ more in
    let step : (j n : ℕ) → n ≡ 4 * k + j → get_or more n 0 ≡ get_or all (4 * suc k + j) 0 = λ j n e.
    ap (λ (m : ℕ). get_or all m 0) {x = suc (suc (suc (suc n)))} (omega (arith, e)) in
    let start : get_or more (4 * k) 0 ≡ get_or all (4 * suc k) 0 = ap (λ (m : ℕ). get_or all m 0) {x = suc (suc (suc (suc (4 * k))))}
    (omega arith) in
    words_in_by_four_bytes more k (omega (arith, lt)) ∙ little_numbers_equal _ _ _ _ _ _ _ _ start (step 1 (4 * k + 1) refl) (step 2 (4 * k + 2) refl)
    (step 3 (4 * k + 3) refl)

code_word_is_word_at : (ss : List Segment) (k : ℕ) → AreOrdered 0 ss → k < length (words_in (take (4 * code_words ss) (code_memory ss)))
    → get_or (words_in (take (4 * code_words ss) (code_memory ss))) k 0 ≡ elf_word ss (code_start + 4 * k)
code_word_is_word_at ss k o lt =
    let own = take (4 * code_words ss) (code_memory ss) in
    let count = length-words_in_own own in
    let least = length-take (4 * code_words ss) (code_memory ss) in
    let whole : length (code_memory ss) ≡ 65536 = length-memory_of Code ss o in
    let at : (j : ℕ) → j < 4 → get_or own (4 * k + j) 0 ≡ elf_byte ss (code_start + (4 * k + j)) = λ j l.
    get_or-take (4 * code_words ss) (code_memory ss) (4 * k + j) 0 (omega (arith, lt, count, least, l))
    ∙ memory_byte_is_byte_at Code ss (4 * k + j) o (omega (arith, lt, count, least, whole, l)) in
    let moved : (j : ℕ) → elf_byte ss (code_start + (4 * k + j)) ≡ elf_byte ss (code_start + 4 * k + j) = λ j.
    ap (elf_byte ss) (omega arith) in
    let first : elf_byte ss (code_start + (4 * k + 0)) ≡ elf_byte ss (code_start + 4 * k) = ap (elf_byte ss) (omega arith) in
    let start : get_or own (4 * k) 0 ≡ get_or own (4 * k + 0) 0 = ap (λ (n : ℕ). get_or own n 0) (omega arith) in
    words_in_by_four_bytes own k lt ∙ little_numbers_equal _ _ _ _ _ _ _ _ (start ∙ at 0 (omega arith) ∙ first) (at 1 (omega arith) ∙ moved 1)
    (at 2 (omega arith) ∙ moved 2) (at 3 (omega arith) ∙ moved 3)

pub guest_code_is_word_at : (file : List ℕ) (segments : List Segment) (g : Guest) (k : ℕ) → segments_at file ≡ Ok segments → elf_guest_at file ≡ Ok g
    → k < length g.code → slice_index g.code k ≡ elf_word segments (code_start + 4 * k)
guest_code_is_word_at file segments g k e h =
    let p = file_read_is_guest_of file segments g e h in
    subst (λ (x : Guest). k < length x.code → slice_index x.code k ≡ elf_word segments (code_start + 4 * k)) p.guest
    (code_word_is_word_at segments k (segments_at_are_ordered file segments e))

-- ---- nothing is elsewhere

address_is_in_parts : (part : Part) (place size a words : ℕ) → place + size ≤ size_of part → layout_start part + place ≤ a → a < layout_start part + place + size
    → size_in Code (record { part = part; place = place; size = size; bytes = [] }) ≤ 4 * words → IsInParts words a
address_is_in_parts Code place size a words within low high most = inl (omega (arith, low), omega (arith, high, most))
address_is_in_parts Memory place size a words within low high most = inr (inl (omega (arith, low), omega (arith, high, within)))
address_is_in_parts Table place size a words within low high most = inr (inr (omega (arith, low), omega (arith, high, within)))

byte_address_in_parts : (ss : List Segment) (last a b words : ℕ) → AreOrdered last ss → greatest (size_in Code) ss ≤ 4 * words → byte_of ss a ≡ Some b
    → IsInParts words a
byte_address_in_parts [] last a b words o most e = absurd cc
byte_address_in_parts (s ∷ ss) last a b words o most e =
    let next = o.0 in
    elim (cases_Bool (leb (segment_address s) a && ltb a (segment_end s))) [
      | inl t ↦ (let both = and_parts (leb (segment_address s) a) (ltb a (segment_end s)) t in
          address_is_in_parts s.part s.place s.size a words next.within (leb-true _ _ both.0) (ltb-true _ _ both.1) (omega (arith, most)))
      | inr f ↦ byte_address_in_parts ss (segment_end s) a b words o.1 (omega (arith, most)) (sym (rw f refl) ∙ e)
    ]

le_four_quarters : (n : ℕ) → n ≤ 4 * ((n + 3) / 4)
le_four_quarters n = omega arith

code_size_within_words : (ss : List Segment) → AreOrdered 0 ss → greatest (size_in Code) ss ≤ size_of Code
    → greatest (size_in Code) ss ≤ 4 * length (words_in (take (4 * code_words ss) (code_memory ss)))
code_size_within_words ss o most =
    let own = take (4 * code_words ss) (code_memory ss) in
    let count = length-words_in_own own in
    let least = length-take (4 * code_words ss) (code_memory ss) in
    let whole : length (code_memory ss) ≡ 65536 = length-memory_of Code ss o in
    let up = le_four_quarters (greatest (size_in Code) ss) in
    omega (arith, count, least, whole, up, most)

code_size_within_part : (s : Segment) (last : ℕ) → IsNext last s → size_in Code s ≤ size_of Code
code_size_within_part s last next =
    cond_both (is_same s.part Code) (s.place + s.size) 0 (λ n. n ≤ size_of Code)
    (λ same. subst (λ (p : Part). s.place + s.size ≤ size_of p) (same_parts_equal s.part Code same) next.within) (λ other. omega arith)

pub code_sizes_within_part : (ss : List Segment) (last : ℕ) → AreOrdered last ss → greatest (size_in Code) ss ≤ size_of Code
code_sizes_within_part [] last o = omega arith
code_sizes_within_part (s ∷ ss) last o =
    let first = code_size_within_part s last o.0 in
    let others = code_sizes_within_part ss (segment_end s) o.1 in
    omega (arith, first, others)

pub file_byte_is_in_parts : (file : List ℕ) (segments : List Segment) (g : Guest) (a b : ℕ) → segments_at file ≡ Ok segments → elf_guest_at file ≡ Ok g
    → byte_of segments a ≡ Some b → IsInParts (length g.code) a
file_byte_is_in_parts file segments g a b e h there =
    let p = file_read_is_guest_of file segments g e h in
    let o = segments_at_are_ordered file segments e in
    subst (λ (x : Guest). IsInParts (length x.code) a) p.guest
    (byte_address_in_parts segments 0 a b _ o (code_size_within_words segments o (code_sizes_within_part segments 0 o)) there)
