-- Reading segments one after the other, as a loop does.
use Rattle.std.proofs.Common.{◌≡◌, ℕ, List, [], ◌∷◌, ◌++◌, Option, Some, None, Result, Ok, Err, refl, sym, ap, ◌∙◌, append_assoc}
use Rattle.std.proofs.lemmas.List.{append-nil}
use Rattle.ir_bytes.specs.Reading.{◌>>=◌}
use Rattle.ir_elf.specs.declared.refusal.Refusal.{Refusal}
use Rattle.ir_elf.specs.declared.header.Header.{Header}
use Rattle.ir_elf.specs.Segments.{Segment, loaded_at, end_after, with_first_segment, segments_from}

-- the segments that were read before, and those that are still read
abbrev pub after_read_segments : List Segment → Result (List Segment) Refusal → Result (List Segment) Refusal
after_read_segments prefix read = read >>= λ xs. Ok (prefix ++ xs)

with_first_regroups : (prefix : List Segment) (found : Option Segment) (xs : List Segment)
    → prefix ++ with_first_segment found xs ≡ (prefix ++ with_first_segment found []) ++ xs
with_first_regroups prefix None xs = ap (λ (k : List Segment). k ++ xs) (sym (append-nil prefix))
with_first_regroups prefix (Some s) xs = sym (append_assoc prefix (s ∷ []) xs)

first_joins_prefix : (prefix : List Segment) (found : Option Segment) (read : Result (List Segment) Refusal)
    → after_read_segments prefix (read >>= λ xs. Ok (with_first_segment found xs)) ≡ after_read_segments (prefix ++ with_first_segment found []) read
first_joins_prefix prefix found (Ok xs) = ap (λ (k : List Segment). Ok k) (with_first_regroups prefix found xs)
first_joins_prefix prefix found (Err e) = refl

pub segments_from_step : (file : List ℕ) (last : ℕ) (prefix : List Segment) (h : Header) (hs : List Header) (found : Option Segment)
    (total : Result (List Segment) Refusal) → loaded_at file last h ≡ Ok found
    → after_read_segments prefix (segments_from file last (h ∷ hs)) ≡ total
    → after_read_segments (prefix ++ with_first_segment found []) (segments_from file (end_after last found) hs) ≡ total
segments_from_step file last prefix h hs found total e so_far =
    let step : after_read_segments prefix (segments_from file last (h ∷ hs))
    ≡ after_read_segments (prefix ++ with_first_segment found []) (segments_from file (end_after last found) hs) = rw e
    (first_joins_prefix prefix found (segments_from file (end_after last found) hs)) in
    sym step ∙ so_far

pub segments_stop_at_fault : (file : List ℕ) (last : ℕ) (prefix : List Segment) (h : Header) (hs : List Header) (e : Refusal)
    (total : Result (List Segment) Refusal) → loaded_at file last h ≡ Err e
    → after_read_segments prefix (segments_from file last (h ∷ hs)) ≡ total → total ≡ Err e
segments_stop_at_fault file last prefix h hs e total fault so_far =
    let step : after_read_segments prefix (segments_from file last (h ∷ hs)) ≡ Err e = rw fault refl in
    sym so_far ∙ step

pub no_headers_left_total : (file : List ℕ) (last : ℕ) (prefix : List Segment) (total : Result (List Segment) Refusal)
    → after_read_segments prefix (segments_from file last []) ≡ total → total ≡ Ok prefix
no_headers_left_total file last prefix total so_far = sym so_far ∙ ap (λ (k : List Segment). Ok k) (append-nil prefix)
