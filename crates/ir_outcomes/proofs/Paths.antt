-- Ways back to the first node.
use Rattle.std.proofs.Common.{◌≡◌, ℕ, suc, ◌+◌, ◌-◌, ◌<◌, ◌≤◌, Bool, true, false, List, [], ◌∷◌, ◌++◌, append_assoc, append-nil, Some, length, get_or, drop, sym, ap, ◌∙◌, subst, arith}
use Rattle.std.specs.Prelude.{slice_get, replicate}
use Rattle.std.proofs.lemmas.List.{at_drop_more, drop_all}
use Rattle.std.proofs.lemmas.Option.{same_Some, slice_get-get_or, slice_get_within}
use Rattle.ir_search.specs.declared.origin.Origin.{Origin}
use Rattle.ir_search.specs.declared.origin.Refusal.{Refusal}
use Rattle.ir_search.specs.Origins.{first_origin, AreWaysUnder, Refused}
use Rattle.ir_search.proofs.CallerLemmas.{ways_under_number_are}
use Rattle.ir_outcomes.specs.Path.{FallInLevel, IsPathTo, ways_of}

-- a turn above level 0 began at a node of a lower level
pub turn_before_is_lower : (origins : List Origin) → FallInLevel origins → (v : ℕ) → v < length origins → 0 < (get_or origins v first_origin).level
    → ((get_or origins v first_origin).from < length origins)
    × ((get_or origins (get_or origins v first_origin).from first_origin).level < (get_or origins v first_origin).level)
turn_before_is_lower origins falls v less some =
    let n : Origin = get_or origins v first_origin in
    let r = falls v n (slice_get-get_or origins v first_origin less) some in
    let inside : n.from < length origins = slice_get_within origins n.from r.0 r.1 in
    let one = ap (λ z. z.level) (same_Some (get_or origins n.from first_origin) r.0 (sym (slice_get-get_or origins n.from first_origin inside) ∙ r.1)) in
    let l = r.2 in (inside, omega (arith, l, one))

-- one turn more at the beginning of a path
path_by_origin : (origins : List Origin) (v : ℕ) (n : Origin) (more : List Origin) → slice_get origins v ≡ Some n
    → IsPathTo origins n.from more → IsPathTo origins v (n ∷ more)
path_by_origin origins v n [] at path = absurd path
path_by_origin origins v n (m ∷ more) at path = (at, path)

-- the refused try at the place that a number says, and the ways before it
pub refusal_at_number : (table : List Refusal) (number : ℕ) (d : Refusal) → 0 < number → (ways : List Bool) → AreWaysUnder table number ways
    → (number - 1 < length table) × (slice_get table (number - 1) ≡ Some (get_or table (number - 1) d)) × ((get_or table (number - 1) d).before ≤ number - 1)
    × (before : List Bool) × AreWaysUnder table (get_or table (number - 1) d).before before
refusal_at_number table number d some ways under =
    let place = number - 1 in
    let same : number ≡ suc place = omega (arith, some) in
    let made = ways_under_number_are table (suc place) ways (subst (λ z. AreWaysUnder table z ways) same under) in
    let less = slice_get_within table place made.0 made.2 in
    let at : slice_get table place ≡ Some (get_or table place d) = slice_get-get_or table place d less in
    let one : made.0 ≡ get_or table place d = same_Some made.0 (get_or table place d) (sym made.2 ∙ at) in (
      less,
      at,
      subst (λ (z : Refusal). z.before ≤ place) one made.3,
      made.1,
      subst (λ (z : Refusal). AreWaysUnder table z.before made.1) one made.4,
    )

-- so is one at the end of those that were found
pub path_prefix_step : (origins : List Origin) (node v : ℕ) (n : Origin) (found : List Origin) → slice_get origins v ≡ Some n
    → ((more : List Origin) → IsPathTo origins v more → IsPathTo origins node (found ++ more))
    → (more : List Origin) → IsPathTo origins n.from more → IsPathTo origins node ((found ++ n ∷ []) ++ more)
path_prefix_step origins node v n found at path more rest =
    subst (IsPathTo origins node) (sym (append_assoc found (n ∷ []) more)) (path (n ∷ more) (path_by_origin origins v n more at rest))

ways_of_push : (refusals : List Refusal) (x : Refusal) → ways_of (refusals ++ x ∷ []) ≡ (replicate x.entries false ++ true ∷ []) ++ ways_of refusals
ways_of_push [] x = sym (append-nil (replicate x.entries false ++ true ∷ []))
ways_of_push (y ∷ refusals) x =
    ap (λ z. z ++ (replicate y.entries false ++ true ∷ [])) (ways_of_push refusals x)
    ∙ append_assoc (replicate x.entries false ++ true ∷ []) (ways_of refusals) (replicate y.entries false ++ true ∷ [])

-- one refused try more of those that the table has under a number
pub ways_under_step : (table refusals : List Refusal) (number i : ℕ) (x : Refusal) → slice_get table i ≡ Some x → x.before ≤ i
    → ((ways : List Bool) → AreWaysUnder table (suc i) ways → AreWaysUnder table number (ways ++ ways_of refusals))
    → (ways : List Bool) → AreWaysUnder table x.before ways → AreWaysUnder table number (ways ++ ways_of (refusals ++ x ∷ []))
ways_under_step table refusals number i x at low found ways spelled =
    let one : List Bool = replicate x.entries false ++ true ∷ [] in
    let joined : ((ways ++ replicate x.entries false) ++ true ∷ []) ++ ways_of refusals ≡ ways ++ ways_of (refusals ++ x ∷ []) =
    ap (λ z. z ++ ways_of refusals) (append_assoc ways (replicate x.entries false) (true ∷ []))
    ∙ append_assoc ways one (ways_of refusals) ∙ ap (λ z. ways ++ z) (sym (ways_of_push refusals x)) in
    subst (AreWaysUnder table number) joined (found ((ways ++ replicate x.entries false) ++ true ∷ []) (Refused i x ways at low spelled))

-- the ways of the last k of these refused tries, of which the last comes first
abbrev pub last_ways : List Refusal → ℕ → List Bool
last_ways xs k = ways_of (drop (length xs - k) xs)

pub last_ways-none : (xs : List Refusal) → last_ways xs 0 ≡ []
last_ways-none xs = let all : length xs - 0 ≡ length xs = omega arith in
    ap (λ n. ways_of (drop n xs)) all ∙ ap ways_of (drop_all (length xs) xs (omega arith))

pub last_ways-next : (xs : List Refusal) (k : ℕ) (d : Refusal) → k < length xs
    → last_ways xs (k + 1) ≡ last_ways xs k ++ (replicate (get_or xs (length xs - 1 - k) d).entries false ++ true ∷ [])
last_ways-next xs k d less =
    let i = length xs - 1 - k in
    let here : length xs - (k + 1) ≡ i = omega arith in
    let there : i + 1 ≡ length xs - k = omega (arith, less) in
    ap (λ n. ways_of (drop n xs)) here ∙ at_drop_more ways_of xs i d (omega (arith, less))
    ∙ ap (λ n. ways_of (drop n xs) ++ (replicate (get_or xs i d).entries false ++ true ∷ [])) there

pub last_ways-all : (xs : List Refusal) → last_ways xs (length xs) ≡ ways_of xs
last_ways-all xs = let none : length xs - length xs ≡ 0 = omega arith in ap (λ n. ways_of (drop n xs)) none

-- the last k turns of a path, of which the last comes first
abbrev pub last_turns : List Origin → ℕ → List Origin
last_turns path k = drop (length path - k) path

pub last_turns-none : (path : List Origin) → last_turns path 0 ≡ []
last_turns-none path = let all : length path - 0 ≡ length path = omega arith in ap (λ n. drop n path) all ∙ drop_all (length path) path (omega arith)

pub last_turns-next : (path : List Origin) (k : ℕ) (d : Origin) → k < length path
    → last_turns path (k + 1) ≡ get_or path (length path - 1 - k) d ∷ last_turns path k
last_turns-next path k d less =
    let i = length path - 1 - k in
    let here : length path - (k + 1) ≡ i = omega arith in
    let there : i + 1 ≡ length path - k = omega (arith, less) in
    ap (λ n. drop n path) here ∙ at_drop_more (λ ys. ys) path i d (omega (arith, less))
    ∙ ap (λ n. get_or path i d ∷ drop n path) there

pub last_turns-all : (path : List Origin) → last_turns path (length path) ≡ path
last_turns-all path = let none : length path - length path ≡ 0 = omega arith in ap (λ n. drop n path) none
