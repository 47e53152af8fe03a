-- Segments are read if their headers pass.
use Rattle.std.proofs.Common.{◌≡◌, ℕ, ◌+◌, ◌≤◌, ◌<◌, cond, leb, Bool, true, false, refl, inl, inr, List, [], ◌∷◌, length, take, drop, Option, Some, None, Result, Ok, Err, ap, subst, sym, ◌∙◌, arith}
use Rattle.std.specs.Prelude.{◌&&◌, not}
use Rattle.std.proofs.lemmas.Bool.{cases_lt, cases_Bool, le-leb, lt-leb, lt-ltb, le-ltb}
use Rattle.std.proofs.lemmas.List.{length-drop}
use Rattle.ir_bytes.specs.Reading.{◌>>=◌, bytes_at}
use Rattle.ir_bytes.specs.Format.{fault_of}
use Rattle.ir_elf.specs.declared.part.Part.{Part}
use Rattle.ir_elf.specs.declared.part.Part.TheVariants.{Code, Memory, Table}
use Rattle.ir_elf.specs.declared.refusal.Refusal.{Refusal}
use Rattle.ir_elf.specs.declared.refusal.Refusal.TheVariants as refusal
use Rattle.ir_elf.specs.declared.header.Header.{Header}
use Rattle.ir_elf.specs.Refusal.{refusal_unless}
use Rattle.ir_elf.specs.Segments.{Segment, segment_end, is_within_segment, is_placed, is_protected, part_around, part_placed, part_of}
use Rattle.ir_elf.specs.Segments.{segment_bytes_from, segment_at, is_refused, is_loaded, loaded_at, end_after, with_first_segment}
use Rattle.ir_elf.specs.Segments.{segments_from}
use Rattle.ir_elf.specs.Tests.{Test, test, part_in, segment_in, segments_in, loaded_tests, segment_tests}
use Rattle.ir_elf.proofs.Refused.{Agrees, bind_is_associative}
use Rattle.ir_elf.proofs.Order.{segment_of_header}

-- ---- the part

abbrev placed_part_or_outside : Part → Header → Result Part Refusal
placed_part_or_outside p h = cond (is_within_segment p h.address h.size && is_placed p h) (Ok p) (Err refusal.Outside)

part_placed_by_around : (h : Header) (p : Part) → part_around h ≡ Some p → part_in h ≡ p → is_within_segment p h.address h.size ≡ true
    → part_placed h (part_around h) ≡ placed_part_or_outside (part_in h) h
part_placed_by_around h p around own within =
    let there : cond (is_placed p h) (Ok p) (Err refusal.Outside) ≡ placed_part_or_outside p h = rw within refl in
    ap (part_placed h) around ∙ there ∙ ap (λ (q : Part). placed_part_or_outside q h) (sym own)

part_placed_is_part_in : (h : Header) → part_placed h (part_around h) ≡ placed_part_or_outside (part_in h) h
part_placed_is_part_in h = elim (cases_Bool (is_within_segment Code h.address h.size)) [
  | inl t ↦ part_placed_by_around h Code (rw t refl) (rw t refl) t
  | inr f ↦ elim (cases_Bool (is_within_segment Memory h.address h.size)) [
    | inl t ↦ part_placed_by_around h Memory (rw (f, t) refl) (rw (f, t) refl) t
    | inr g ↦ elim (cases_Bool (is_within_segment Table h.address h.size)) [
      | inl t ↦ part_placed_by_around h Table (rw (f, g, t) refl) (rw (f, g) refl) t
      | inr k ↦ (let none : part_around h ≡ None = rw (f, g, k) refl in
          let own : part_in h ≡ Table = rw (f, g) refl in
          let outside : placed_part_or_outside Table h ≡ Err refusal.Outside = rw k refl in
          ap (part_placed h) none ∙ sym (ap (λ (q : Part). placed_part_or_outside q h) own ∙ outside))
    ]
  ]
]

-- ---- one segment

bytes_from_is_take : (file : List ℕ) (place n : ℕ) → place + n ≤ length file → segment_bytes_from place n file ≡ Ok (take n (drop place file))
unfolding segment_bytes_from bytes_at
bytes_from_is_take file place n there =
    let left = length-drop place file in
    rw (le-ltb (length file) place (omega (arith, there)), le-ltb (length (drop place file)) n (omega (arith, left, there))) refl

bytes_from_refuses_short : (file : List ℕ) (place n : ℕ) → length file < place + n → segment_bytes_from place n file ≡ Err refusal.Short
unfolding segment_bytes_from bytes_at
bytes_from_refuses_short file place n lt =
    let left = length-drop place file in
    elim (cases_lt (length file) place) [
      | inl l ↦ rw (lt-ltb (length file) place l) refl
      | inr g ↦ rw (le-ltb (length file) place g, lt-ltb (length (drop place file)) n (omega (arith, left, lt, g))) refl
    ]

unless_chain_agrees : {Y : Type 0} (long placed above protected : Bool) (p : Part) (s : Segment) (k : Segment → Result Y Refusal) (others : List Test)
    → Agrees (k s) others
    → Agrees
    ((refusal_unless long refusal.Outside (cond placed (Ok p) (Err refusal.Outside)) >>= λ q. refusal_unless above refusal.Order (refusal_unless protected refusal.Writable (Ok s))) >>= k)
    (test long refusal.Outside (test placed refusal.Outside (test above refusal.Order (test protected refusal.Writable others))))
unless_chain_agrees false placed above protected p s k others h = refl
unless_chain_agrees true false above protected p s k others h = refl
unless_chain_agrees true true false protected p s k others h = refl
unless_chain_agrees true true true false p s k others h = refl
unless_chain_agrees true true true true p s k others h = h

-- the part that was found is used after it
abbrev after_bytes : List ℕ → ℕ → Header → List ℕ → Result Segment Refusal
after_bytes file last h own = part_of h >>= λ part. refusal_unless (leb last h.address) refusal.Order
    (refusal_unless (is_protected part h.flags) refusal.Writable (Ok (segment_of_header own part h)))

found_part_chain_known : (own : List ℕ) (last : ℕ) (h : Header) (long : Bool) (placed : Bool) (p : Part)
    → (refusal_unless long refusal.Outside (cond placed (Ok p) (Err refusal.Outside)) >>= λ part. refusal_unless (leb last h.address) refusal.Order
    (refusal_unless (is_protected part h.flags) refusal.Writable (Ok (segment_of_header own part h))))
    ≡ (refusal_unless long refusal.Outside (cond placed (Ok p) (Err refusal.Outside)) >>= λ q. refusal_unless (leb last h.address) refusal.Order
    (refusal_unless (is_protected p h.flags) refusal.Writable (Ok (segment_of_header own p h))))
found_part_chain_known own last h false placed p = refl
found_part_chain_known own last h true false p = refl
found_part_chain_known own last h true true p = refl

after_bytes_is_part_in : (file : List ℕ) (last : ℕ) (h : Header) (own : List ℕ)
    → after_bytes file last h own
    ≡ (refusal_unless (leb h.length h.size) refusal.Outside (placed_part_or_outside (part_in h) h) >>= λ q. refusal_unless (leb last h.address) refusal.Order
    (refusal_unless (is_protected (part_in h) h.flags) refusal.Writable (Ok (segment_of_header own (part_in h) h))))
after_bytes_is_part_in file last h own =
    ap (λ (r : Result Part Refusal). refusal_unless (leb h.length h.size) refusal.Outside r >>= λ part. refusal_unless (leb last h.address) refusal.Order
    (refusal_unless (is_protected part h.flags) refusal.Writable (Ok (segment_of_header own part h)))) (part_placed_is_part_in h)
    ∙ found_part_chain_known own last h (leb h.length h.size) (is_within_segment (part_in h) h.address h.size && is_placed (part_in h) h) (part_in h)

segment_at_agrees : {Y : Type 0} (file : List ℕ) (last : ℕ) (h : Header) (k : Segment → Result Y Refusal) (others : List Test)
    → Agrees (k (segment_in file h)) others → Agrees (segment_at file last h >>= k) (loaded_tests file last h others)
unfolding segment_at
segment_at_agrees file last h k others agrees = elim (cases_lt (length file) (h.place + h.length)) [
  | inl l ↦ rw (bytes_from_refuses_short file h.place h.length l, lt-leb (h.place + h.length) (length file) l) refl
  | inr g ↦ (let own = take h.length (drop h.place file) in
      let tests = unless_chain_agrees (leb h.length h.size) (is_within_segment (part_in h) h.address h.size && is_placed (part_in h) h) (leb last h.address)
      (is_protected (part_in h) h.flags) (part_in h) (segment_in file h) k others agrees in
      rw (bytes_from_is_take file h.place h.length g, le-leb (h.place + h.length) (length file) g)
      (ap (λ (r : Result Segment Refusal). fault_of (r >>= k)) (after_bytes_is_part_in file last h own) ∙ tests))
]

-- ---- each header

loaded_at_agrees : {Y : Type 0} (file : List ℕ) (last : ℕ) (h : Header) (k : Option Segment → Result Y Refusal) (found passed : List Test)
    → (is_loaded h ≡ true → Agrees (k (Some (segment_in file h))) found) → (is_loaded h ≡ false → Agrees (k None) passed)
    → Agrees (loaded_at file last h >>= k)
    (test (not (is_refused h.kind)) refusal.Dynamic (cond (is_loaded h) (loaded_tests file last h found) passed))
loaded_at_agrees file last h k found passed p q = elim (cases_Bool (is_refused h.kind)) [
  | inl t ↦ rw t refl
  | inr f ↦ elim (cases_Bool (is_loaded h)) [
    | inl t ↦ rw (f, t)
        (ap fault_of (bind_is_associative (segment_at file last h) (λ s. Ok (Some s)) k) ∙ segment_at_agrees file last h (λ s. k (Some s)) found (p t))
    | inr g ↦ rw (f, g) (q g)
  ]
]

pub segments_from_agree : {Y : Type 0} (file : List ℕ) (last : ℕ) (hs : List Header) (k : List Segment → Result Y Refusal) (others : List Test)
    → Agrees (k (segments_in file hs)) others → Agrees (segments_from file last hs >>= k) (segment_tests file last hs others)
segments_from_agree file last [] k others agrees = agrees
segments_from_agree file last (h ∷ hs) k others agrees =
    let rest : Option Segment → Result (List Segment) Refusal = λ first. segments_from file (end_after last first) hs >>= λ xs. Ok (with_first_segment first xs)
    in
    ap fault_of (bind_is_associative (loaded_at file last h) rest k)
    ∙ loaded_at_agrees file last h (λ first. rest first >>= k) (segment_tests file (segment_end (segment_in file h)) hs others)
    (segment_tests file last hs others)
    (λ t. let own : segments_in file (h ∷ hs) ≡ segment_in file h ∷ segments_in file hs = rw t refl in
    ap fault_of (bind_is_associative (segments_from file (segment_end (segment_in file h)) hs) (λ xs. Ok (segment_in file h ∷ xs)) k)
    ∙ segments_from_agree file (segment_end (segment_in file h)) hs (λ xs. k (segment_in file h ∷ xs)) others
    (subst (λ (x : List Segment). Agrees (k x) others) own agrees))
    (λ f. let own : segments_in file (h ∷ hs) ≡ segments_in file hs = rw f refl in
    ap fault_of (bind_is_associative (segments_from file last hs) (λ xs. Ok xs) k)
    ∙ segments_from_agree file last hs k others (subst (λ (x : List Segment). Agrees (k x) others) own agrees))
