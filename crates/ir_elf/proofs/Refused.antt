-- The first test that fails names the refusal.
use Rattle.std.proofs.Common.{◌≡◌, ℕ, ◌+◌, ◌*◌, ◌<◌, cond, eqb, leb, ltb, Bool, true, false, refl, inl, inr, List, length, take, drop, Some, None, Result, Ok, Err, ap, ◌∙◌, arith}
use Rattle.std.specs.Prelude.{◌&&◌, not}
use Rattle.std.proofs.lemmas.Bool.{cases_lt, le-leb, lt-leb, lt-ltb, le-ltb}
use Rattle.std.proofs.lemmas.List.{length-drop, drop-drop}
use Rattle.byteorder.specs.Endian.{little_number}
use Rattle.ir_bytes.specs.Reading.{◌>>=◌, tested, judged, number_at, field_at, bytes_at}
use Rattle.ir_bytes.specs.Format.{fault_of}
use Rattle.ir_elf.specs.declared.refusal.Refusal.{Refusal}
use Rattle.ir_elf.specs.declared.refusal.Refusal.TheVariants as refusal
use Rattle.ir_elf.specs.declared.header.HeadersPlace.{HeadersPlace}
use Rattle.ir_elf.specs.Header.{class_field, linked_field, machine_field, version_field, flags_field, size_field, number_field, identified, kind_known, headers_found, headers_place_at}
use Rattle.ir_elf.specs.Tests.{Test, first_failed, test, is_whole, field_number, field, headers_place, headers_number, header_tests}

-- a reading is refused as tests say
abbrev pub Agrees : {Y : Type 0} → Result Y Refusal → List Test → Type 0
Agrees read tests = fault_of read ≡ first_failed tests

-- ---- one field

abbrev pub field_and_rest : ℕ → ℕ → List ℕ → ℕ × List ℕ
field_and_rest place size bytes = (little_number size (drop place bytes), drop (place + size) bytes)

-- `size` bytes from a place on are there, or they aren't
short_is_not_whole : (place size : ℕ) (bytes : List ℕ) → 0 < size → ltb (length (drop place bytes)) size ≡ not (leb (place + size) (length bytes))
short_is_not_whole place size bytes some =
    let left = length-drop place bytes in
    elim (cases_lt (length bytes) (place + size)) [
      | inl l ↦ rw (lt-leb (place + size) (length bytes) l) (lt-ltb (length (drop place bytes)) size (omega (arith, left, l, some)))
      | inr g ↦ rw (le-leb (place + size) (length bytes) g) (le-ltb (length (drop place bytes)) size (omega (arith, left, g)))
    ]

judged_agrees : {Y : Type 0} (p : Bool) (other : Refusal) (x : ℕ × List ℕ) (k : ℕ × List ℕ → Result Y Refusal) (others : List Test)
    → Agrees (k x) others → Agrees (judged (cond p None (Some other)) x >>= k) (test p other others)
judged_agrees true other x k others h = h
judged_agrees false other x k others h = refl

checked_field_agrees : {Y : Type 0} (b : Bool) (passes : ℕ → Bool) (missing other : Refusal) (x : ℕ × List ℕ) (k : ℕ × List ℕ → Result Y Refusal)
    (others : List Test) → Agrees (k x) others
    → Agrees ((cond (not b) (Err missing) (Ok x) >>= λ n. judged (cond (passes n.0) None (Some other)) n) >>= k)
    (test b missing (test (passes x.0) other others))
checked_field_agrees true passes missing other x k others h = judged_agrees (passes x.0) other x k others h
checked_field_agrees false passes missing other x k others h = refl

pub field_at_agrees : {Y : Type 0} (missing : Refusal) (place size : ℕ) (passes : ℕ → Bool) (other : Refusal) (bytes : List ℕ)
    (k : ℕ × List ℕ → Result Y Refusal) (others : List Test) → 0 < size → Agrees (k (field_and_rest place size bytes)) others
    → Agrees (field_at missing (tested size passes other) (drop place bytes) >>= k) (field missing bytes place size passes other others)
unfolding field_at number_at
field_at_agrees missing place size passes other bytes k others some h =
    rw (short_is_not_whole place size bytes some, drop-drop size place bytes)
    (checked_field_agrees (leb (place + size) (length bytes)) passes missing other (field_and_rest place size bytes) k others h)

checked_number_agrees : {Y : Type 0} (b : Bool) (missing : Refusal) (x : ℕ × List ℕ) (k : ℕ × List ℕ → Result Y Refusal) (others : List Test)
    → Agrees (k x) others → Agrees (cond (not b) (Err missing) (Ok x) >>= k) (test b missing others)
checked_number_agrees true missing x k others h = h
checked_number_agrees false missing x k others h = refl

pub number_at_agrees : {Y : Type 0} (missing : Refusal) (place size : ℕ) (bytes : List ℕ) (k : ℕ × List ℕ → Result Y Refusal) (others : List Test)
    → 0 < size → Agrees (k (field_and_rest place size bytes)) others
    → Agrees (number_at missing size (drop place bytes) >>= k) (test (is_whole bytes place size) missing others)
unfolding number_at
number_at_agrees missing place size bytes k others some h =
    rw (short_is_not_whole place size bytes some, drop-drop size place bytes)
    (checked_number_agrees (leb (place + size) (length bytes)) missing (field_and_rest place size bytes) k others h)

-- bytes that aren't read are there if the field after them is
pub skipped_bytes_agree : {Y : Type 0} (missing : Refusal) (place n size : ℕ) (bytes : List ℕ) (k : List ℕ × List ℕ → Result Y Refusal) (others : List Test)
    → 0 < n → Agrees (k (take n (drop place bytes), drop (place + n) bytes)) (test (is_whole bytes (place + n) size) missing others)
    → Agrees (bytes_at missing n (drop place bytes) >>= k) (test (is_whole bytes (place + n) size) missing others)
unfolding bytes_at
skipped_bytes_agree missing place n size bytes k others some h =
    elim (cases_lt (length bytes) (place + n)) [
      | inl l ↦ (let far = lt-leb (place + n + size) (length bytes) (omega (arith, l)) in
          let gone : ltb (length (drop place bytes)) n ≡ true = short_is_not_whole place n bytes some ∙ ap not (lt-leb (place + n) (length bytes) l) in
          rw (gone, far) refl)
      | inr g ↦ (let there : ltb (length (drop place bytes)) n ≡ false = short_is_not_whole place n bytes some ∙ ap not (le-leb (place + n) (length bytes) g) in
          rw (there, drop-drop n place bytes) h)
    ]

-- ---- the same, where another step follows

-- a step after a chain is a step after its last
pub bind_is_associative : {A B Y : Type 0} (r : Result A Refusal) (f : A → Result B Refusal) (k : B → Result Y Refusal)
    → ((r >>= f) >>= k) ≡ (r >>= λ a. f a >>= k)
bind_is_associative (Ok a) f k = refl
bind_is_associative (Err e) f k = refl

pub field_bind_agrees : {B Y : Type 0} (missing : Refusal) (place size : ℕ) (passes : ℕ → Bool) (other : Refusal) (bytes : List ℕ)
    (f : ℕ × List ℕ → Result B Refusal) (k : B → Result Y Refusal) (others : List Test) → 0 < size
    → Agrees (f (field_and_rest place size bytes) >>= k) others
    → Agrees ((field_at missing (tested size passes other) (drop place bytes) >>= f) >>= k) (field missing bytes place size passes other others)
field_bind_agrees missing place size passes other bytes f k others some h =
    ap fault_of (bind_is_associative (field_at missing (tested size passes other) (drop place bytes)) f k)
    ∙ field_at_agrees missing place size passes other bytes (λ a. f a >>= k) others some h

short_field_bind_agrees : {B Y : Type 0} (place size : ℕ) (passes : ℕ → Bool) (other : Refusal) (bytes : List ℕ) (f : ℕ × List ℕ → Result B Refusal)
    (k : B → Result Y Refusal) (others : List Test) → 0 < size → Agrees (f (field_and_rest place size bytes) >>= k) others
    → Agrees ((field_at refusal.Short (tested size passes other) (drop place bytes) >>= f) >>= k)
    (field refusal.Short bytes place size passes other others)
short_field_bind_agrees place size passes other bytes f k others some h = field_bind_agrees refusal.Short place size passes other bytes f k others some h

short_number_bind_agrees : {B Y : Type 0} (place size : ℕ) (bytes : List ℕ) (f : ℕ × List ℕ → Result B Refusal) (k : B → Result Y Refusal)
    (others : List Test) → 0 < size → Agrees (f (field_and_rest place size bytes) >>= k) others
    → Agrees ((number_at refusal.Short size (drop place bytes) >>= f) >>= k) (test (is_whole bytes place size) refusal.Short others)
short_number_bind_agrees place size bytes f k others some h =
    ap fault_of (bind_is_associative (number_at refusal.Short size (drop place bytes)) f k)
    ∙ number_at_agrees refusal.Short place size bytes (λ a. f a >>= k) others some h

short_skip_bind_agrees : {B Y : Type 0} (place n size : ℕ) (bytes : List ℕ) (f : List ℕ × List ℕ → Result B Refusal) (k : B → Result Y Refusal)
    (others : List Test) → 0 < n
    → Agrees (f (take n (drop place bytes), drop (place + n) bytes) >>= k) (test (is_whole bytes (place + n) size) refusal.Short others)
    → Agrees ((bytes_at refusal.Short n (drop place bytes) >>= f) >>= k) (test (is_whole bytes (place + n) size) refusal.Short others)
short_skip_bind_agrees place n size bytes f k others some h =
    ap fault_of (bind_is_associative (bytes_at refusal.Short n (drop place bytes)) f k)
    ∙ skipped_bytes_agree refusal.Short place n size bytes (λ a. f a >>= k) others some h

-- ---- the header of the file

abbrev is_one : ℕ → Bool
is_one n = eqb n 1

abbrev after_order : ℕ × List ℕ → Result (List ℕ) Refusal
after_order x = field_at refusal.Short class_field x.1 >>= λ version. Ok version.1

abbrev after_class : ℕ × List ℕ → Result (List ℕ) Refusal
after_class x = field_at refusal.Short class_field x.1 >>= after_order

abbrev after_magic : ℕ × List ℕ → Result (List ℕ) Refusal
after_magic x = field_at refusal.Short class_field x.1 >>= after_class

pub identified_agrees : {Y : Type 0} (file : List ℕ) (k : List ℕ → Result Y Refusal) (others : List Test) → Agrees (k (drop 7 file)) others
    → Agrees (identified file >>= k)
    (field refusal.Short file 0 4 (λ n. eqb n 0x464C457F) refusal.Magic
    (field refusal.Short file 4 1 is_one refusal.Class (field refusal.Short file 5 1 is_one refusal.Class
    (field refusal.Short file 6 1 is_one refusal.Class others))))
unfolding identified
identified_agrees file k others h =
    let t3 = field refusal.Short file 6 1 is_one refusal.Class others in
    let t2 = field refusal.Short file 5 1 is_one refusal.Class t3 in
    let t1 = field refusal.Short file 4 1 is_one refusal.Class t2 in
    short_field_bind_agrees 0 4 (λ n. eqb n 0x464C457F) refusal.Magic file after_magic k t1 (omega arith)
    (short_field_bind_agrees 4 1 is_one refusal.Class file after_class k t2 (omega arith)
    (short_field_bind_agrees 5 1 is_one refusal.Class file after_order k t3 (omega arith)
    (short_field_bind_agrees 6 1 is_one refusal.Class file (λ version. Ok version.1) k others (omega arith) h)))

abbrev after_machine : ℕ × List ℕ → Result (List ℕ) Refusal
after_machine x = field_at refusal.Short version_field x.1 >>= λ version. Ok version.1

abbrev after_kind : ℕ × List ℕ → Result (List ℕ) Refusal
after_kind x = field_at refusal.Short machine_field x.1 >>= after_machine

abbrev after_unread : List ℕ × List ℕ → Result (List ℕ) Refusal
after_unread x = field_at refusal.Short linked_field x.1 >>= after_kind

pub kind_known_agrees : {Y : Type 0} (file : List ℕ) (k : List ℕ → Result Y Refusal) (others : List Test) → Agrees (k (drop 24 file)) others
    → Agrees (kind_known (drop 7 file) >>= k)
    (field refusal.Short file 16 2 (λ n. eqb n 2) refusal.Kind (field refusal.Short file 18 2 (λ n. eqb n 243) refusal.Kind
    (field refusal.Short file 20 4 is_one refusal.Kind others)))
unfolding kind_known
kind_known_agrees file k others h =
    let t2 = field refusal.Short file 20 4 is_one refusal.Kind others in
    let t1 = field refusal.Short file 18 2 (λ n. eqb n 243) refusal.Kind t2 in
    short_skip_bind_agrees 7 9 2 file after_unread k (test (eqb (field_number file 16 2) 2) refusal.Kind t1) (omega arith)
    (short_field_bind_agrees 16 2 (λ n. eqb n 2) refusal.Kind file after_kind k t1 (omega arith)
    (short_field_bind_agrees 18 2 (λ n. eqb n 243) refusal.Kind file after_machine k t2 (omega arith)
    (short_field_bind_agrees 20 4 is_one refusal.Kind file (λ version. Ok version.1) k others (omega arith) h)))

abbrev is_header_count : ℕ → Bool
is_header_count n = leb 1 n && leb n 64

abbrev after_size : ℕ → ℕ × List ℕ → Result HeadersPlace Refusal
after_size place x = field_at refusal.Short number_field x.1 >>= λ number. Ok (record { place = place; number = number.0 })

abbrev after_own : ℕ → List ℕ × List ℕ → Result HeadersPlace Refusal
after_own place x = field_at refusal.Short size_field x.1 >>= after_size place

abbrev after_flags : ℕ → ℕ × List ℕ → Result HeadersPlace Refusal
after_flags place x = bytes_at refusal.Short 2 x.1 >>= after_own place

abbrev after_sections : ℕ → List ℕ × List ℕ → Result HeadersPlace Refusal
after_sections place x = field_at refusal.Short flags_field x.1 >>= after_flags place

abbrev after_place : ℕ × List ℕ → Result HeadersPlace Refusal
after_place x = bytes_at refusal.Short 4 x.1 >>= after_sections x.0

abbrev after_entry : List ℕ × List ℕ → Result HeadersPlace Refusal
after_entry x = number_at refusal.Short 4 x.1 >>= after_place

pub headers_found_agrees : {Y : Type 0} (file : List ℕ) (k : HeadersPlace → Result Y Refusal) (others : List Test)
    → Agrees (k (record { place = headers_place file; number = headers_number file })) others
    → Agrees (headers_found (drop 24 file) >>= k)
    (test (is_whole file 28 4) refusal.Short (field refusal.Short file 36 4 (λ n. eqb n 0) refusal.Flags
    (field refusal.Short file 42 2 (λ n. eqb n 32) refusal.Headers (field refusal.Short file 44 2 is_header_count refusal.Headers others))))
unfolding headers_found
headers_found_agrees file k others h =
    let t3 = field refusal.Short file 44 2 is_header_count refusal.Headers others in
    let t2 = test (eqb (field_number file 42 2) 32) refusal.Headers t3 in
    let t1 = field refusal.Short file 42 2 (λ n. eqb n 32) refusal.Headers t3 in
    let t0 = test (eqb (field_number file 36 4) 0) refusal.Flags t1 in
    let place = headers_place file in
    short_skip_bind_agrees 24 4 4 file after_entry k (field refusal.Short file 36 4 (λ n. eqb n 0) refusal.Flags t1) (omega arith)
    (short_number_bind_agrees 28 4 file after_place k (field refusal.Short file 36 4 (λ n. eqb n 0) refusal.Flags t1) (omega arith)
    (short_skip_bind_agrees 32 4 4 file (after_sections place) k t0 (omega arith)
    (short_field_bind_agrees 36 4 (λ n. eqb n 0) refusal.Flags file (after_flags place) k t1 (omega arith)
    (short_skip_bind_agrees 40 2 2 file (after_own place) k t2 (omega arith)
    (short_field_bind_agrees 42 2 (λ n. eqb n 32) refusal.Headers file (after_size place) k t3 (omega arith)
    (short_field_bind_agrees 44 2 is_header_count refusal.Headers file (λ number. Ok (record { place = place; number = number.0 })) k others (omega arith) h))))))

pub headers_place_agrees : {Y : Type 0} (file : List ℕ) (k : HeadersPlace → Result Y Refusal) (others : List Test)
    → Agrees (k (record { place = headers_place file; number = headers_number file }))
    (test (is_whole file (headers_place file) (32 * headers_number file)) refusal.Short others)
    → Agrees (headers_place_at file >>= k) (header_tests file others)
unfolding headers_place_at
headers_place_agrees file k others h =
    let t2 = test (is_whole file (headers_place file) (32 * headers_number file)) refusal.Short others in
    let t1 = test (is_whole file 28 4) refusal.Short (field refusal.Short file 36 4 (λ n. eqb n 0) refusal.Flags
    (field refusal.Short file 42 2 (λ n. eqb n 32) refusal.Headers (field refusal.Short file 44 2 is_header_count refusal.Headers t2))) in
    let t0 = field refusal.Short file 16 2 (λ n. eqb n 2) refusal.Kind (field refusal.Short file 18 2 (λ n. eqb n 243) refusal.Kind
    (field refusal.Short file 20 4 is_one refusal.Kind t1)) in
    ap fault_of (bind_is_associative (identified file) (λ kind. kind_known kind >>= λ rest. headers_found rest) k)
    ∙ identified_agrees file (λ kind. (kind_known kind >>= λ rest. headers_found rest) >>= k) t0
    (ap fault_of (bind_is_associative (kind_known (drop 7 file)) (λ rest. headers_found rest) k)
    ∙ kind_known_agrees file (λ rest. headers_found rest >>= k) t1 (headers_found_agrees file k t2 h))
