-- Reading fields one after the other, as a loop does.
use Rattle.std.proofs.Common.{◌≡◌, ℕ, suc, ◌-◌, ◌+◌, ◌≤◌, ◌<◌, List, [], ◌∷◌, ◌++◌, Result, Ok, Err, refl, sym, ap, ◌∙◌, append_assoc, arith}
use Rattle.std.proofs.lemmas.List.{append-nil}
use Rattle.ir_bytes.specs.Reading.{◌>>=◌, Reader, fields_at}

-- what was read before, and what is still read
abbrev pub with_prefix : {X E : Type 0} → List X → Result (List X × List ℕ) E → Result (List X × List ℕ) E
with_prefix prefix read = read >>= λ x. Ok (prefix ++ x.0, x.1)

with_prefix_next : {X E : Type 0} (prefix : List X) (n : X) (read : Result (List X × List ℕ) E)
    → with_prefix prefix (read >>= λ x. Ok (n ∷ x.0, x.1)) ≡ with_prefix (prefix ++ n ∷ []) read
with_prefix_next {X} prefix n (Ok x) = ap (λ (ns : List X). Ok (ns, x.1)) (simp append_assoc)
with_prefix_next prefix n (Err f) = refl

pub prefixed_fields_at_step : {X E : Type 0} (one : Reader X E) (prefix : List X) (count i : ℕ) (bytes : List ℕ) (n : X) (after : List ℕ)
    (total : Result (List X × List ℕ) E) → i < count → one bytes ≡ Ok (n, after)
    → with_prefix prefix (fields_at one (count - i) bytes) ≡ total
    → with_prefix (prefix ++ n ∷ []) (fields_at one (count - (i + 1)) after) ≡ total
unfolding fields_at
prefixed_fields_at_step one prefix count i bytes n after total lt h so_far =
    let k : count - i ≡ suc (count - (i + 1)) = omega arith in
    let step : with_prefix prefix (fields_at one (count - i) bytes) ≡ with_prefix (prefix ++ n ∷ []) (fields_at one (count - (i + 1)) after)
    = rw (k, h) (with_prefix_next prefix n (fields_at one (count - (i + 1)) after)) in
    sym step ∙ so_far

-- a fault of one is the fault of all
pub fields_at_fails : {X E : Type 0} (e : E) (one : Reader X E) (prefix : List X) (count i : ℕ) (bytes : List ℕ)
    (total : Result (List X × List ℕ) E) → i < count → one bytes ≡ Err e
    → with_prefix prefix (fields_at one (count - i) bytes) ≡ total → total ≡ Err e
unfolding fields_at
fields_at_fails e one prefix count i bytes total lt h so_far =
    let k : count - i ≡ suc (count - (i + 1)) = omega arith in
    let step : with_prefix prefix (fields_at one (count - i) bytes) ≡ Err e = rw (k, h) refl in
    sym so_far ∙ step

pub fields_total_is_prefix : {X E : Type 0} (one : Reader X E) (prefix : List X) (count i : ℕ) (bytes : List ℕ) (total : Result (List X × List ℕ) E)
    → count ≤ i → with_prefix prefix (fields_at one (count - i) bytes) ≡ total → total ≡ Ok (prefix, bytes)
unfolding fields_at
fields_total_is_prefix {X} one prefix count i bytes total le so_far =
    let k : count - i ≡ 0 = omega arith in
    let step : with_prefix prefix (fields_at one (count - i) bytes) ≡ Ok (prefix, bytes) = rw k
    (ap (λ (ns : List X). Ok (ns, bytes)) (append-nil prefix)) in
    sym so_far ∙ step
