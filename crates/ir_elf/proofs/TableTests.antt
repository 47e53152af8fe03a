-- A guest is made if the tests of its table pass, and so is that of a file.
use Rattle.std.proofs.Common.{◌≡◌, ℕ, zero, suc, ◌+◌, ◌*◌, leb, ltb, Bool, true, false, refl, List, [], ◌∷◌, length, drop, Option, Some, None, Result, Ok, Err, ap, subst, sym, ◌∙◌, arith}
use Rattle.std.specs.Prelude.{◌&&◌}
use Rattle.ir_bytes.specs.Reading.{◌>>=◌, bytes_at, field_at, fields_at}
use Rattle.ir_bytes.specs.Format.{fault_of}
use Rattle.ir_image.specs.declared.form.ImageForm.{ImageForm}
use Rattle.ir_image.specs.Guest.{limits_of, Guest}
use Rattle.ir_image.specs.Fields.{is_place}
use Rattle.ir_elf.specs.declared.refusal.Refusal.{Refusal}
use Rattle.ir_elf.specs.declared.refusal.Refusal.TheVariants as refusal
use Rattle.ir_elf.specs.declared.header.HeadersPlace.{HeadersPlace}
use Rattle.ir_elf.specs.Refusal.{refusal_unless}
use Rattle.ir_elf.specs.Header.{headers_place_at, elf_header_at}
use Rattle.ir_elf.specs.Segments.{Segment, segments_from, segments_at}
use Rattle.ir_elf.specs.Memory.{table_of}
use Rattle.ir_elf.specs.Table.{TableParts, table_form, threads_field, table_entry_at, are_objects, table_at}
use Rattle.ir_elf.specs.Reading.{code_words, table_found, guest_of, elf_guest_at}
use Rattle.ir_elf.specs.Tests.{Test, first_failed, test, field_number, field, headers_place, headers_number, headers_in, segments_in}
use Rattle.ir_elf.specs.Tests.{segment_tests, entry_tests, form_in, table_tests, found_tests, guest_tests, elf_tests, IsElfGuest}
use Rattle.ir_elf.proofs.Limits.{table_parts_by, guest_by}
use Rattle.ir_elf.proofs.Refused.{Agrees, field_and_rest, bind_is_associative, field_bind_agrees, headers_place_agrees}
use Rattle.ir_elf.proofs.HeaderTests.{headers_agree}
use Rattle.ir_elf.proofs.SegmentTests.{segments_from_agree}

-- ---- entries

entries_agree : {Y : Type 0} (code : ℕ) (table : List ℕ) (n place : ℕ) (k : List ℕ × List ℕ → Result Y Refusal) (others : List Test)
    → ((xs : List ℕ) → Agrees (k (xs, drop (place + 4 * n) table)) others)
    → Agrees (fields_at (table_entry_at code) n (drop place table) >>= k) (entry_tests table code place n others)
unfolding fields_at
entries_agree code table zero place k others h =
    let same : place + 4 * 0 ≡ place = omega arith in
    subst (λ (q : ℕ). Agrees (k ([], drop q table)) others) same (h [])
entries_agree code table (suc n) place k others h =
    let same : place + 4 * suc n ≡ place + 4 + 4 * n = omega arith in
    let after : ℕ × List ℕ → Result (List ℕ × List ℕ) Refusal = λ first. fields_at (table_entry_at code) n first.1 >>= λ xs. Ok
    (first.0 ∷ xs.0, xs.1) in
    let x = field_and_rest place 4 table in
    field_bind_agrees refusal.Table place 4 (is_place code) refusal.Entry table after k (entry_tests table code (place + 4) n others) (omega arith)
    (ap fault_of (bind_is_associative (fields_at (table_entry_at code) n (drop (place + 4) table)) (λ xs. Ok (x.0 ∷ xs.0, xs.1)) k)
    ∙ entries_agree code table n (place + 4) (λ xs. k (x.0 ∷ xs.0, xs.1)) others
    (λ xs. subst (λ (q : ℕ). Agrees (k (x.0 ∷ xs, drop q table)) others) same (h (x.0 ∷ xs))))

-- ---- the table

abbrev after_entries : ImageForm → List ℕ × List ℕ → Result TableParts Refusal
after_entries form x = refusal_unless (are_objects form (length x.1)) refusal.Table (Ok (table_parts_by form x.0 x.1))

abbrev after_threads : ImageForm → ℕ → ℕ × List ℕ → Result TableParts Refusal
after_threads form code x = fields_at (table_entry_at code) x.0 x.1 >>= after_entries form

abbrev after_form : ℕ → ℕ × List ℕ → Result TableParts Refusal
after_form code x = field_at refusal.Table (threads_field (table_form x.0)) x.1 >>= after_threads (table_form x.0) code

objects_agree_with_test : (b : Bool) (t : TableParts) (k : TableParts → Result Guest Refusal) → ((t : TableParts) → fault_of (k t) ≡ None)
    → Agrees (refusal_unless b refusal.Table (Ok t) >>= k) (test b refusal.Table [])
objects_agree_with_test true t k h = h t
objects_agree_with_test false t k h = refl

table_at_agrees : (code : ℕ) (table : List ℕ) (k : TableParts → Result Guest Refusal) → ((t : TableParts) → fault_of (k t) ≡ None)
    → Agrees (table_at code table >>= k) (table_tests code table)
unfolding table_at
table_at_agrees code table k h =
    let form = form_in table in
    let n = field_number table 4 4 in
    let t3 = test (are_objects form (length (drop (8 + 4 * n) table))) refusal.Table [] in
    let t2 = entry_tests table code 8 n t3 in
    let t1 = field refusal.Table table 4 4 (λ n. leb 1 n && leb n (limits_of form).threads) refusal.Table t2 in
    field_bind_agrees refusal.Table 0 4 (λ n. leb 1 n && leb n 2) refusal.Table table (after_form code) k t1 (omega arith)
    (field_bind_agrees refusal.Table 4 4 (λ n. leb 1 n && leb n (limits_of form).threads) refusal.Table table (after_threads form code) k t2 (omega arith)
    (ap fault_of (bind_is_associative (fields_at (table_entry_at code) n (drop 8 table)) (after_entries form) k)
    ∙ entries_agree code table n 8 (λ x. after_entries form x >>= k) t3
    (λ xs. objects_agree_with_test (are_objects form (length (drop (8 + 4 * n) table))) (table_parts_by form xs (drop (8 + 4 * n) table)) k h)))

table_found_agrees : (code : ℕ) (table : Option (List ℕ)) (k : TableParts → Result Guest Refusal) → ((t : TableParts) → fault_of (k t) ≡ None)
    → Agrees (table_found code table >>= k) (found_tests code table)
table_found_agrees code (Some table) k h = table_at_agrees code table k h
table_found_agrees code None k h = refl

-- ---- the guest

no_code_test_agrees : (b : Bool) (read : Result Guest Refusal) (tests : List Test) → Agrees read tests
    → Agrees (refusal_unless b refusal.NoCode read) (test b refusal.NoCode tests)
no_code_test_agrees true read tests h = h
no_code_test_agrees false read tests h = refl

guest_of_agrees : (ss : List Segment) → Agrees (guest_of ss) (guest_tests ss)
unfolding guest_of
guest_of_agrees ss =
    no_code_test_agrees (ltb 0 (code_words ss)) (table_found (code_words ss) (table_of ss) >>= λ t. Ok (guest_by ss t)) (found_tests (code_words ss) (table_of ss))
    (table_found_agrees (code_words ss) (table_of ss) (λ t. Ok (guest_by ss t)) (λ t. refl))

-- ---- the file

abbrev after_place : List ℕ → HeadersPlace → Result (List Segment) Refusal
after_place file found = bytes_at refusal.Short found.place file >>= λ before. fields_at elf_header_at found.number before.1 >>= λ hs.
    segments_from file 0 hs.0

pub elf_fault_first_failed : (file : List ℕ) → fault_of (elf_guest_at file) ≡ first_failed (elf_tests file)
unfolding elf_guest_at segments_at
elf_fault_first_failed file =
    let place = headers_place file in
    let number = headers_number file in
    let hs = headers_in file place number in
    let t2 = guest_tests (segments_in file hs) in
    let t1 = segment_tests file 0 hs t2 in
    ap fault_of (bind_is_associative (headers_place_at file) (after_place file) guest_of)
    ∙ headers_place_agrees file (λ found. after_place file found >>= guest_of) t1
    (headers_agree file place number (segments_from file 0) guest_of t1
    (segments_from_agree file 0 hs guest_of t2 (guest_of_agrees (segments_in file hs))))

guest_if_no_fault : (r : Result Guest Refusal) → fault_of r ≡ None → (g : Guest) × (r ≡ Ok g)
guest_if_no_fault (Ok g) e = (g, refl)
guest_if_no_fault (Err e) h = absurd cc

pub guest_made_if_elf_guest : (file : List ℕ) → IsElfGuest file → (g : Guest) × (elf_guest_at file ≡ Ok g)
guest_made_if_elf_guest file h = guest_if_no_fault (elf_guest_at file) (elf_fault_first_failed file ∙ h)

pub elf_guest_if_guest_made : (file : List ℕ) (g : Guest) → elf_guest_at file ≡ Ok g → IsElfGuest file
elf_guest_if_guest_made file g e = sym (elf_fault_first_failed file) ∙ ap fault_of e
