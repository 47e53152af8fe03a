-- The segments of a file are within their parts, and each begins at or above the end of the one before.
use Rattle.std.proofs.Common.{◌≡◌, ℕ, ◌+◌, ◌-◌, ◌≤◌, cond, leb, true, List, [], ◌∷◌, length, Option, Some, None, Ok, ap, subst, ◌∙◌, arith, length-take-le}
use Rattle.std.proofs.lemmas.Bool.{leb-true, and_parts}
use Rattle.std.proofs.lemmas.Option.{same_Some}
use Rattle.ir_bytes.specs.Reading.{◌>>=◌, bytes_at}
use Rattle.ir_bytes.proofs.CallerLemmas.{two_binds_are_ok, three_binds_are_ok, guard_passed_if_ok, ok_is_injective, conditional_cases, bytes_at_gives_parts}
use Rattle.ir_elf.specs.declared.part.Part.{Part}
use Rattle.ir_elf.specs.declared.part.Part.TheVariants.{Code, Memory, Table}
use Rattle.ir_elf.specs.declared.refusal.Refusal.{Refusal}
use Rattle.ir_elf.specs.declared.refusal.Refusal.TheVariants.{Short, Dynamic, Outside, Order, Writable}
use Rattle.ir_elf.specs.declared.header.Header.{Header}
use Rattle.ir_elf.specs.Layout.{layout_start, size_of}
use Rattle.ir_elf.specs.Refusal.{refusal_unless}
use Rattle.ir_elf.specs.Segments.{Segment, segment_address, segment_end, is_within_segment, is_placed, is_protected, part_around}
use Rattle.ir_elf.specs.Segments.{part_placed, part_of, segment_bytes_from, segment_at, is_refused, is_loaded, loaded_at, end_after}
use Rattle.ir_elf.specs.Segments.{with_first_segment, segments_from}
use Rattle.ir_elf.proofs.Limits.{parts_of_ok_unless}

-- a segment that follows segments which end at an address
pub record IsNext (last : ℕ) (s : Segment) : Type 0 where
  pub low : last ≤ segment_address s
  pub within : s.place + s.size ≤ size_of s.part
  pub held : length s.bytes ≤ s.size

abbrev pub AreOrdered : ℕ → List Segment → Type 0
AreOrdered last [] = Unit {0}
AreOrdered last (s ∷ ss) = IsNext last s × AreOrdered (segment_end s) ss

-- ---- the part of a header

record FitsPart (h : Header) (part : Part) : Type 0 where
  low : layout_start part ≤ h.address
  high : h.address + h.size ≤ layout_start part + size_of part
  held : h.length ≤ h.size

found_part_is_some : (h : Header) (found : Option Part) (part : Part) → part_placed h found ≡ Ok part → found ≡ Some part
found_part_is_some h (Some p) part e =
    let q = parts_of_ok_unless (is_placed p h) Outside (Ok p) part e in
    ap (λ (x : Part). Some x) (ok_is_injective Refusal p part q.1)
found_part_is_some h None part e = absurd cc

abbrev LiesWithin : Header → Part → Type 0
LiesWithin h part = is_within_segment part h.address h.size ≡ true

part_around_contains : (h : Header) (part : Part) → part_around h ≡ Some part → LiesWithin h part
part_around_contains h part e =
    conditional_cases (is_within_segment Code h.address h.size) (Some Code) _ (Some part) e (λ t same. subst (LiesWithin h) (same_Some Code part same) t) (λ f e1.
    conditional_cases (is_within_segment Memory h.address h.size) (Some Memory) _ (Some part) e1 (λ t same. subst (LiesWithin h) (same_Some Memory part same) t) (λ g e2.
    conditional_cases (is_within_segment Table h.address h.size) (Some Table) None (Some part) e2 (λ t same. subst (LiesWithin h) (same_Some Table part same) t)
    (λ k e3. absurd cc)))

header_fits_part_of : (h : Header) (part : Part) → part_of h ≡ Ok part → FitsPart h part
header_fits_part_of h part e =
    let p = parts_of_ok_unless (leb h.length h.size) Outside (part_placed h (part_around h)) part e in
    let t = part_around_contains h part (found_part_is_some h (part_around h) part p.1) in
    let both = and_parts (leb (layout_start part) h.address) (leb (h.address + h.size) (layout_start part + size_of part)) t in
    record { low = leb-true _ _ both.0; high = leb-true _ _ both.1; held = leb-true _ _ p.0 }

-- ---- one segment

length-bytes_from : (place n : ℕ) (file own : List ℕ) → segment_bytes_from place n file ≡ Ok own → length own ≡ n
unfolding segment_bytes_from
length-bytes_from place n file own e =
    two_binds_are_ok (bytes_at Short place file) (λ before. bytes_at Short n before.1 >>= λ x. Ok x.0) own e (λ before e0 e1.
    two_binds_are_ok (bytes_at Short n before.1) (λ x. Ok x.0) own e1 (λ x e2 e3.
    let p = bytes_at_gives_parts Short n before.1 x e2 in
    subst (λ (y : List ℕ). length y ≡ n) (ok_is_injective Refusal x.0 own e3) (ap length p.prefix ∙ length-take-le n before.1 p.long)))

abbrev pub segment_of_header : List ℕ → Part → Header → Segment
segment_of_header own part h = record { part = part; place = h.address - layout_start part; size = h.size; bytes = own }

segment_at_is_next : (file : List ℕ) (last : ℕ) (h : Header) (s : Segment) → segment_at file last h ≡ Ok s → IsNext last s
unfolding segment_at
segment_at_is_next file last h s e =
    three_binds_are_ok (segment_bytes_from h.place h.length file) (λ own. part_of h)
    (λ own part. refusal_unless (leb last h.address) Order (refusal_unless (is_protected part h.flags) Writable (Ok (segment_of_header own part h)))) s e
    (λ own part e0 e1 e2.
    let a = parts_of_ok_unless (leb last h.address) Order (refusal_unless (is_protected part h.flags) Writable (Ok (segment_of_header own part h))) s e2 in
    let b = parts_of_ok_unless (is_protected part h.flags) Writable (Ok (segment_of_header own part h)) s a.1 in
    let p = header_fits_part_of h part e1 in
    let count = length-bytes_from h.place h.length file own e0 in
    let above = leb-true last h.address a.0 in
    let low = p.low in
    let high = p.high in
    let held = p.held in
    subst (IsNext last) (ok_is_injective Refusal (segment_of_header own part h) s b.1) (record {
      low = omega (arith, above, low);
      within = omega (arith, low, high);
      held = omega (arith, count, held);
    }))

-- ---- all segments

abbrev IsNextIfSome : ℕ → Option Segment → Type 0
IsNextIfSome last None = Unit {0}
IsNextIfSome last (Some s) = IsNext last s

next_of_equal : (last : ℕ) (x y : Option Segment) → IsNextIfSome last x → x ≡ y → IsNextIfSome last y
next_of_equal last x y h e = subst (IsNextIfSome last) e h

loaded_segment_is_next : (file : List ℕ) (last : ℕ) (h : Header) (first : Option Segment) → loaded_at file last h ≡ Ok first → IsNextIfSome last first
loaded_segment_is_next file last h first e =
    let g = guard_passed_if_ok (is_refused h.kind) Dynamic (cond (is_loaded h) (segment_at file last h >>= λ s. Ok (Some s)) (Ok None)) first e in
    conditional_cases (is_loaded h) (segment_at file last h >>= λ s. Ok (Some s)) (Ok None) (Ok first) g.1
    (λ t e1. two_binds_are_ok (segment_at file last h) (λ s. Ok (Some s)) first e1 (λ s e2 e3.
    next_of_equal last (Some s) first (segment_at_is_next file last h s e2) (ok_is_injective Refusal (Some s) first e3)))
    (λ f e1. next_of_equal last None first tt (ok_is_injective Refusal None first e1))

with_first_is_ordered : (last : ℕ) (first : Option Segment) (others : List Segment) → IsNextIfSome last first → AreOrdered (end_after last first) others
    → AreOrdered last (with_first_segment first others)
with_first_is_ordered last None others p q = q
with_first_is_ordered last (Some s) others p q = (p, q)

pub segments_are_ordered : (file : List ℕ) (last : ℕ) (hs : List Header) (ss : List Segment) → segments_from file last hs ≡ Ok ss → AreOrdered last ss
segments_are_ordered file last [] ss e = subst (AreOrdered last) (ok_is_injective Refusal [] ss e) tt
segments_are_ordered file last (h ∷ hs) ss e =
    three_binds_are_ok (loaded_at file last h) (λ first. segments_from file (end_after last first) hs) (λ first others. Ok (with_first_segment first others)) ss e
    (λ first others e0 e1 e2.
    subst (AreOrdered last) (ok_is_injective Refusal (with_first_segment first others) ss e2)
    (with_first_is_ordered last first others (loaded_segment_is_next file last h first e0) (segments_are_ordered file (end_after last first) hs others e1)))
