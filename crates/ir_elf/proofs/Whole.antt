-- A guest of bytes is within its limits, and the table is the encoding of its part of it.
use Rattle.std.proofs.Common.{◌≡◌, ℕ, zero, suc, ◌+◌, ◌*◌, ◌/◌, ◌%◌, ◌≤◌, cond, eqb, leb, ltb, refl, List, [], ◌∷◌, ◌++◌, length, take}
use Rattle.std.proofs.Common.{drop, replicate, Option, Some, None, Ok, Err, ap, subst, sym, ◌∙◌, arith}
use Rattle.std.specs.Prelude.{◌&&◌}
use Rattle.std.specs.List.{AllByRecursion}
use Rattle.std.proofs.lemmas.Bool.{cond_both, and_parts, eqb-true}
use Rattle.std.proofs.lemmas.Option.{same_Some}
use Rattle.std.proofs.lemmas.List.Concat.{flat_map-cons}
use Rattle.byteorder.specs.Endian.{little_bytes, little_number}
use Rattle.ir_bytes.specs.Reading.{◌>>=◌, bytes_at, field_at, fields_at}
use Rattle.ir_bytes.proofs.CallerLemmas.{two_binds_are_ok, three_binds_are_ok, four_binds_are_ok, guard_passed_if_ok, test_passed_if_ok}
use Rattle.ir_bytes.proofs.CallerLemmas.{ok_is_injective, conditional_cases, test_true_if_no_fault, number_within, IsBytes}
use Rattle.ir_bytes.proofs.CallerLemmas.{drop_of_bytes_is_bytes, prefix_encodes_number, bytes_are_little_bytes, Takes, field_at_takes_field}
use Rattle.ir_bytes.proofs.CallerLemmas.{bytes_at_takes_bytes, fields_at_takes_fields, take_of_bytes_is_bytes}
use Rattle.ir_image.specs.declared.form.ImageForm.{ImageForm}
use Rattle.ir_image.specs.declared.form.ImageForm.TheVariants.{Small, Large}
use Rattle.ir_image.specs.Guest.{limits_of, Guest, most_code_words}
use Rattle.ir_image.specs.Bounds.{IsWord, IsByte, IsGuest, IsPlace}
use Rattle.ir_image.specs.Encoding.{words_encoding}
use Rattle.ir_elf.specs.declared.part.Part.{Part}
use Rattle.ir_elf.specs.declared.part.Part.TheVariants.{Code, Memory, Table}
use Rattle.ir_elf.specs.declared.refusal.Refusal.{Refusal}
use Rattle.ir_elf.specs.declared.refusal.Refusal.TheVariants as refusal
use Rattle.ir_elf.specs.declared.header.Header.{Header}
use Rattle.ir_elf.specs.Layout.{size_of}
use Rattle.ir_elf.specs.Refusal.{refusal_unless}
use Rattle.ir_elf.specs.Header.{headers_place_at, elf_header_at}
use Rattle.ir_elf.specs.Segments.{Segment, segment_end, is_protected, part_of, segment_bytes_from, segment_at, is_refused, is_loaded}
use Rattle.ir_elf.specs.Segments.{loaded_at, end_after, with_first_segment, segments_from, segments_at}
use Rattle.ir_elf.specs.Memory.{is_same, over, with_segment, with_segments, memory_of, held_in, greatest, table_of, words_in}
use Rattle.ir_elf.specs.Table.{TableParts, form_field, table_form, threads_field, table_entry_field, table_entry_at, are_objects, table_at, table_number, table_encoding}
use Rattle.ir_elf.specs.Reading.{code_memory, code_words, data_bytes, table_found, guest_of, elf_guest_at}
use Rattle.ir_elf.proofs.Limits.{parts_of_ok_unless, table_parts_by, segments_guest_has_limits, limited_guest_is_guest}
use Rattle.ir_elf.proofs.Order.{IsNext, AreOrdered, segment_of_header}
use Rattle.ir_elf.proofs.Addresses.{same_parts_equal}
use Rattle.ir_elf.proofs.Contents.{segments_at_are_ordered, guest_read_is_guest_of, file_read_is_guest_of, length-memory_of, code_sizes_within_part}
use Rattle.ir_image.proofs.CallerLemmas.{place_test_sound}

-- ---- bytes

bytes_append_bytes : (xs ys : List ℕ) → IsBytes xs → IsBytes ys → IsBytes (xs ++ ys)
bytes_append_bytes [] ys p q = q
bytes_append_bytes (x ∷ xs) ys p q = (p.0, bytes_append_bytes xs ys p.1 q)

zeros_are_bytes : (n : ℕ) → IsBytes (replicate n 0)
zeros_are_bytes zero = tt
zeros_are_bytes (suc n) = (omega arith, zeros_are_bytes n)

bytes_over_bytes : (place : ℕ) (own all : List ℕ) → IsBytes own → IsBytes all → IsBytes (over place own all)
bytes_over_bytes place own all p q =
    bytes_append_bytes (take place all ++ own) (drop (place + length own) all) (bytes_append_bytes (take place all) own (take_of_bytes_is_bytes place all q) p)
    (drop_of_bytes_is_bytes (place + length own) all q)

-- ---- the bytes of segments

bytes_from_are_bytes : (place n : ℕ) (file own : List ℕ) → IsBytes file → segment_bytes_from place n file ≡ Ok own → IsBytes own
unfolding segment_bytes_from
bytes_from_are_bytes place n file own fits e =
    two_binds_are_ok (bytes_at refusal.Short place file) (λ before. bytes_at refusal.Short n before.1 >>= λ x. Ok x.0) own e (λ before e0 e1.
    two_binds_are_ok (bytes_at refusal.Short n before.1) (λ x. Ok x.0) own e1 (λ x e2 e3.
    let p = bytes_at_takes_bytes refusal.Short place file before fits e0 in
    let q = bytes_at_takes_bytes refusal.Short n before.1 x p.takes.rest_fits e2 in
    subst IsBytes (ok_is_injective Refusal x.0 own e3) q.fit))

abbrev HasBytes : Segment → Type 0
HasBytes s = IsBytes s.bytes

segment_at_has_bytes : (file : List ℕ) (last : ℕ) (h : Header) (s : Segment) → IsBytes file → segment_at file last h ≡ Ok s → HasBytes s
unfolding segment_at
segment_at_has_bytes file last h s fits e =
    three_binds_are_ok (segment_bytes_from h.place h.length file) (λ own. part_of h)
    (λ own part. refusal_unless (leb last h.address) refusal.Order (refusal_unless (is_protected part h.flags) refusal.Writable (Ok (segment_of_header own part h)))) s e
    (λ own part e0 e1 e2.
    let a = parts_of_ok_unless (leb last h.address) refusal.Order (refusal_unless (is_protected part h.flags) refusal.Writable (Ok (segment_of_header own part h))) s e2 in
    let b = parts_of_ok_unless (is_protected part h.flags) refusal.Writable (Ok (segment_of_header own part h)) s a.1 in
    subst HasBytes (ok_is_injective Refusal (segment_of_header own part h) s b.1) (bytes_from_are_bytes h.place h.length file own fits e0))

abbrev FirstHasBytes : Option Segment → Type 0
FirstHasBytes None = Unit {0}
FirstHasBytes (Some s) = HasBytes s

loaded_at_has_bytes : (file : List ℕ) (last : ℕ) (h : Header) (first : Option Segment) → IsBytes file → loaded_at file last h ≡ Ok first → FirstHasBytes first
loaded_at_has_bytes file last h first fits e =
    let g = guard_passed_if_ok (is_refused h.kind) refusal.Dynamic (cond (is_loaded h) (segment_at file last h >>= λ s. Ok (Some s)) (Ok None)) first e in
    conditional_cases (is_loaded h) (segment_at file last h >>= λ s. Ok (Some s)) (Ok None) (Ok first) g.1
    (λ t e1. two_binds_are_ok (segment_at file last h) (λ s. Ok (Some s)) first e1 (λ s e2 e3.
    subst FirstHasBytes (ok_is_injective Refusal (Some s) first e3) (segment_at_has_bytes file last h s fits e2)))
    (λ f e1. subst FirstHasBytes (ok_is_injective Refusal None first e1) tt)

with_first_have_bytes : (first : Option Segment) (others : List Segment) → FirstHasBytes first → AllByRecursion HasBytes others
    → AllByRecursion HasBytes (with_first_segment first others)
with_first_have_bytes None others p q = q
with_first_have_bytes (Some s) others p q = (p, q)

segments_have_bytes : (file : List ℕ) (last : ℕ) (hs : List Header) (ss : List Segment) → IsBytes file → segments_from file last hs ≡ Ok ss
    → AllByRecursion HasBytes ss
segments_have_bytes file last [] ss fits e = subst (AllByRecursion HasBytes) (ok_is_injective Refusal [] ss e) tt
segments_have_bytes file last (h ∷ hs) ss fits e =
    three_binds_are_ok (loaded_at file last h) (λ first. segments_from file (end_after last first) hs) (λ first others. Ok (with_first_segment first others)) ss e
    (λ first others e0 e1 e2.
    subst (AllByRecursion HasBytes) (ok_is_injective Refusal (with_first_segment first others) ss e2)
    (with_first_have_bytes first others (loaded_at_has_bytes file last h first fits e0) (segments_have_bytes file (end_after last first) hs others fits e1)))

segments_at_have_bytes : (file : List ℕ) (ss : List Segment) → IsBytes file → segments_at file ≡ Ok ss → AllByRecursion HasBytes ss
unfolding segments_at
segments_at_have_bytes file ss fits e =
    four_binds_are_ok (headers_place_at file) (λ found. bytes_at refusal.Short found.place file)
    (λ found before. fields_at elf_header_at found.number before.1) (λ found before headers. segments_from file 0 headers.0) ss e
    (λ found before headers e0 e1 e2 e3. segments_have_bytes file 0 headers.0 ss fits e3)

with_segments_is_bytes : (part : Part) (ss : List Segment) (all : List ℕ) → AllByRecursion HasBytes ss → IsBytes all → IsBytes (with_segments part ss all)
with_segments_is_bytes part [] all h fits = fits
with_segments_is_bytes part (s ∷ ss) all h fits =
    with_segments_is_bytes part ss (with_segment part s all) h.1
    (cond_both (is_same s.part part) (over s.place s.bytes all) all IsBytes (λ same. bytes_over_bytes s.place s.bytes all h.0 fits) (λ other. fits))

memory_of_is_bytes : (part : Part) (ss : List Segment) → AllByRecursion HasBytes ss → IsBytes (memory_of part ss)
memory_of_is_bytes part ss h = with_segments_is_bytes part ss (replicate (size_of part) 0) h (zeros_are_bytes (size_of part))

-- ---- words

words_in_are_words : (xs : List ℕ) → IsBytes xs → AllByRecursion IsWord (words_in xs)
words_in_are_words [] h = tt
words_in_are_words (a ∷ []) h = tt
words_in_are_words (a ∷ b ∷ []) h = tt
words_in_are_words (a ∷ b ∷ c ∷ []) h = tt
words_in_are_words (a ∷ b ∷ c ∷ d ∷ more) h =
    let four : IsBytes (a ∷ b ∷ c ∷ d ∷ []) = (h.0, (h.1.0, (h.1.1.0, (h.1.1.1.0, tt)))) in
    let p = (prefix_encodes_number 4 (a ∷ b ∷ c ∷ d ∷ []) four (omega arith)).fits in
    (omega (arith, p), words_in_are_words more h.1.1.1.1)

words_encoding-words_in : (xs : List ℕ) → IsBytes xs → length xs % 4 ≡ 0 → words_encoding (words_in xs) ≡ xs
words_encoding-words_in [] h e = refl
words_encoding-words_in (a ∷ []) h e = absurd (omega (arith, e))
words_encoding-words_in (a ∷ b ∷ []) h e = absurd (omega (arith, e))
words_encoding-words_in (a ∷ b ∷ c ∷ []) h e = absurd (omega (arith, e))
words_encoding-words_in (a ∷ b ∷ c ∷ d ∷ more) h e =
    let own : List ℕ = a ∷ b ∷ c ∷ d ∷ [] in
    let four : IsBytes own = (h.0, (h.1.0, (h.1.1.0, (h.1.1.1.0, tt)))) in
    let first : little_bytes 4 (little_number 4 own) ≡ own = sym (bytes_are_little_bytes own four) in
    flat_map-cons (little_bytes 4) (little_number 4 own) (words_in more)
    ∙ ap (λ (k : List ℕ). k ++ words_encoding (words_in more)) first ∙ ap (λ (k : List ℕ). own ++ k)
    (words_encoding-words_in more h.1.1.1.1 (omega (arith, e)))

-- ---- the table

table_of_is_bytes : (ss : List Segment) (table : List ℕ) → AllByRecursion HasBytes ss → table_of ss ≡ Some table → IsBytes table
table_of_is_bytes [] table h e = absurd cc
table_of_is_bytes (s ∷ ss) table h e =
    conditional_cases (is_same s.part Table) (Some s.bytes) (table_of ss) (Some table) e
    (λ t e1. subst IsBytes (same_Some s.bytes table e1) h.0) (λ f e1. table_of_is_bytes ss table h.1 e1)

entry_at_takes_place : (words : ℕ) (bytes : List ℕ) (n : ℕ × List ℕ) → IsBytes bytes → table_entry_at words bytes ≡ Ok n
    → Takes bytes (little_bytes 4 n.0) n.1 × IsPlace words n.0
entry_at_takes_place words bytes n fits e =
    let t = field_at_takes_field refusal.Table (table_entry_field words) bytes n fits e in
    (t.takes, place_test_sound words n.0 (test_true_if_no_fault _ refusal.Entry t.passes))

number_of_form_of : (n : ℕ) → 1 ≤ n → n ≤ 2 → table_number (table_form n) ≡ n
number_of_form_of zero low high = absurd (omega (arith, low))
number_of_form_of (suc zero) low high = refl
number_of_form_of (suc (suc zero)) low high = refl
number_of_form_of (suc (suc (suc n))) low high = absurd (omega (arith, high))

object_bytes_divide_by_4 : (form : ImageForm) (n : ℕ) → n % (4 * (limits_of form).words) ≡ 0 → n % 4 ≡ 0
object_bytes_divide_by_4 Small n e = omega (arith, e)
object_bytes_divide_by_4 Large n e = omega (arith, e)

abbrev table_parts_encoding : TableParts → List ℕ
table_parts_encoding t =
    little_bytes 4 (table_number t.form) ++ (little_bytes 4 (length t.entries) ++ (words_encoding t.entries ++ words_encoding t.words))

append_four_splits : (a b c d e : List ℕ) (x y z w : List ℕ) → a ≡ x ++ b → b ≡ y ++ c → c ≡ z ++ d → d ≡ w → a ≡ x ++ (y ++ (z ++ w))
append_four_splits a b c d e x y z w p q r s =
    p ∙ ap (λ (k : List ℕ). x ++ k) (q ∙ ap (λ (k : List ℕ). y ++ k) (r ∙ ap (λ (k : List ℕ). z ++ k) s))

table_is_encoding : (code : ℕ) (bytes : List ℕ) (t : TableParts) → IsBytes bytes → table_at code bytes ≡ Ok t → bytes ≡ table_parts_encoding t
unfolding table_at
table_is_encoding code bytes t fits e =
    four_binds_are_ok (field_at refusal.Table form_field bytes) (λ form. field_at refusal.Table (threads_field (table_form form.0)) form.1)
    (λ form threads. fields_at (table_entry_at code) threads.0 threads.1)
    (λ form threads entries. cond (are_objects (table_form form.0) (length entries.1)) (Ok (table_parts_by (table_form form.0) entries.0 entries.1))
    (Err refusal.Table)) t e (λ form threads entries e0 e1 e2 e3.
    let f = table_form form.0 in
    let t0 = field_at_takes_field refusal.Table form_field bytes form fits e0 in
    let n = number_within 1 2 form.0 refusal.Table t0.passes in
    let t1 = field_at_takes_field refusal.Table (threads_field f) form.1 threads t0.takes.rest_fits e1 in
    let t2 = fields_at_takes_fields (IsPlace code) (little_bytes 4) (table_entry_at code) (entry_at_takes_place code) threads.0 threads.1 entries t1.takes.rest_fits e2 in
    let p = test_passed_if_ok (are_objects f (length entries.1)) refusal.Table (table_parts_by f entries.0 entries.1) t e3 in
    let both = and_parts (eqb (length entries.1 % (4 * (limits_of f).words)) 0)
    (leb (length entries.1) (4 * ((limits_of f).words * (limits_of f).objects))) p.0 in
    let whole = words_encoding-words_in entries.1 t2.takes.rest_fits (object_bytes_divide_by_4 f (length entries.1) (eqb-true _ _ both.0)) in
    subst (λ (x : TableParts). bytes ≡ table_parts_encoding x) p.1
    (append_four_splits bytes form.1 threads.1 entries.1 [] (little_bytes 4 (table_number f)) (little_bytes 4 (length entries.0)) (words_encoding entries.0)
    (words_encoding (words_in entries.1))
    (t0.takes.parts ∙ ap (λ (k : ℕ). little_bytes 4 k ++ form.1) (sym (number_of_form_of form.0 n.0 n.1)))
    (t1.takes.parts ∙ ap (λ (k : ℕ). little_bytes 4 k ++ threads.1) (sym t2.count)) t2.takes.parts (sym whole)))

table_found_is_encoding : (code : ℕ) (table : Option (List ℕ)) (t : TableParts) → ((own : List ℕ) → table ≡ Some own → IsBytes own) → table_found code table ≡ Ok t
    → table ≡ Some (table_parts_encoding t)
table_found_is_encoding code (Some own) t fits e = ap (λ (x : List ℕ). Some x) (table_is_encoding code own t (fits own refl) e)
table_found_is_encoding code None t fits e = absurd cc

pub table_segment_encoding : (file : List ℕ) (segments : List Segment) (g : Guest) → AllByRecursion IsByte file → segments_at file ≡ Ok segments
    → elf_guest_at file ≡ Ok g → table_of segments ≡ Some (table_encoding g)
table_segment_encoding file segments g fits e h =
    let p = file_read_is_guest_of file segments g e h in
    let have = segments_at_have_bytes file segments fits e in
    subst (λ (x : Guest). table_of segments ≡ Some (table_encoding x)) p.guest
    (table_found_is_encoding (code_words segments) (table_of segments) p.t (λ own. table_of_is_bytes segments own have) p.table)

-- ---- the guest

held_within_part : (s : Segment) (last : ℕ) → IsNext last s → held_in Memory s ≤ size_of Memory
held_within_part s last next =
    let held = next.held in
    cond_both (is_same s.part Memory && ltb 0 (length s.bytes)) (s.place + length s.bytes) 0 (λ n. n ≤ size_of Memory)
    (λ both. let same = (and_parts (is_same s.part Memory) (ltb 0 (length s.bytes)) both).0 in
    let within : s.place + s.size ≤ size_of Memory = subst (λ (p : Part). s.place + s.size ≤ size_of p) (same_parts_equal s.part Memory same) next.within in
    omega (arith, within, held)) (λ other. omega arith)

greatest_held_within : (ss : List Segment) (last : ℕ) → AreOrdered last ss → greatest (held_in Memory) ss ≤ size_of Memory
greatest_held_within [] last o = omega arith
greatest_held_within (s ∷ ss) last o =
    let first = held_within_part s last o.0 in
    let others = greatest_held_within ss (segment_end s) o.1 in
    omega (arith, first, others)

table_words_are_words : (code : ℕ) (bytes : List ℕ) (t : TableParts) → IsBytes bytes → table_at code bytes ≡ Ok t → AllByRecursion IsWord t.words
unfolding table_at
table_words_are_words code bytes t fits e =
    four_binds_are_ok (field_at refusal.Table form_field bytes) (λ form. field_at refusal.Table (threads_field (table_form form.0)) form.1)
    (λ form threads. fields_at (table_entry_at code) threads.0 threads.1)
    (λ form threads entries. cond (are_objects (table_form form.0) (length entries.1)) (Ok (table_parts_by (table_form form.0) entries.0 entries.1))
    (Err refusal.Table)) t e (λ form threads entries e0 e1 e2 e3.
    let f = table_form form.0 in
    let t0 = field_at_takes_field refusal.Table form_field bytes form fits e0 in
    let t1 = field_at_takes_field refusal.Table (threads_field f) form.1 threads t0.takes.rest_fits e1 in
    let t2 = fields_at_takes_fields (IsPlace code) (little_bytes 4) (table_entry_at code) (entry_at_takes_place code) threads.0 threads.1 entries t1.takes.rest_fits e2 in
    let p = test_passed_if_ok (are_objects f (length entries.1)) refusal.Table (table_parts_by f entries.0 entries.1) t e3 in
    subst (λ (x : TableParts). AllByRecursion IsWord x.words) p.1 (words_in_are_words entries.1 t2.takes.rest_fits))

found_words_are_words : (code : ℕ) (table : Option (List ℕ)) (t : TableParts) → ((own : List ℕ) → table ≡ Some own → IsBytes own) → table_found code table ≡ Ok t
    → AllByRecursion IsWord t.words
found_words_are_words code (Some own) t fits e = table_words_are_words code own t (fits own refl) e
found_words_are_words code None t fits e = absurd cc

guest_words_are_words : (ss : List Segment) (t : TableParts) → AllByRecursion HasBytes ss → table_found (code_words ss) (table_of ss) ≡ Ok t
    → AllByRecursion IsWord t.words
guest_words_are_words ss t have e = found_words_are_words (code_words ss) (table_of ss) t (λ own. table_of_is_bytes ss own have) e

quarter_within_code : (n : ℕ) → n ≤ size_of Code → (n + 3) / 4 ≤ most_code_words
quarter_within_code n h = omega (arith, h)

segments_guest_is_guest : (ss : List Segment) (g : Guest) → AreOrdered 0 ss → AllByRecursion HasBytes ss → guest_of ss ≡ Ok g → IsGuest g
segments_guest_is_guest ss g o have e =
    let p = guest_read_is_guest_of ss g e in
    let limits = segments_guest_has_limits ss g (quarter_within_code _ (code_sizes_within_part ss 0 o)) (greatest_held_within ss 0 o) (length-memory_of Code ss o) e in
    limited_guest_is_guest g limits
    (subst (λ (x : Guest). AllByRecursion IsWord x.code) p.guest
    (words_in_are_words (take (4 * code_words ss) (code_memory ss)) (take_of_bytes_is_bytes (4 * code_words ss) (code_memory ss) (memory_of_is_bytes Code ss have))))
    (subst (λ (x : Guest). AllByRecursion IsByte x.bytes) p.guest (take_of_bytes_is_bytes (data_bytes ss) (memory_of Memory ss) (memory_of_is_bytes Memory ss have)))
    (subst (λ (x : Guest). AllByRecursion IsWord x.words) p.guest (guest_words_are_words ss p.t have p.table))

pub elf_guest_is_guest : (file : List ℕ) (g : Guest) → AllByRecursion IsByte file → elf_guest_at file ≡ Ok g → IsGuest g
unfolding elf_guest_at
elf_guest_is_guest file g fits e =
    two_binds_are_ok (segments_at file) (λ s. guest_of s) g e (λ ss e0 e1.
    segments_guest_is_guest ss g (segments_at_are_ordered file ss e0) (segments_at_have_bytes file ss fits e0) e1)
