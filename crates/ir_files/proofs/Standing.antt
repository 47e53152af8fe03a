-- Outputs that stand in files at the paths of their threads.
use Rattle.std.proofs.Common.{◌≡◌, ◌<◌, ◌∙◌, ℕ, length, get_or, Bool, true, false, true≢false, List, [], ◌∷◌, ◌++◌, Option, None, Some, IfSome, map, ap, refl, sym, subst, ◌&&◌, ◌||◌, ◌+◌, arith}
use Rattle.std.specs.Prelude.{if◌then◌else◌}
use Rattle.std.specs.Str.{bytes_eq}
use Rattle.std.specs.Option.{option_map, option_map_or, is_some}
use Rattle.std.specs.List.{slice_get, list_all, enumerate_from}
use Rattle.std.proofs.lemmas.List.{map-append}
use Rattle.std.proofs.lemmas.List.Folds.{list_all-append, list_all_at}
use Rattle.std.proofs.Math.Bool.{and-true}
use Rattle.std.proofs.lemmas.List.FromFn.{length-enumerate_from, get_or-enumerate_from}
use Rattle.std.proofs.lemmas.Option.{slice_get-get_or, slice_get-map, slice_get_within}
use Rattle.std.proofs.lemmas.Slice.Eq.{bytes_eq-Decides}
use Rattle.ir_lemmas.proofs.CallerLemmas.{and_true_from_both, left_of_true_and, right_of_true_and}
use Rattle.ir_files.specs.Given.{KnownFile, Has, IsAt, IsStored, known_bytes, stands_at}
use Rattle.ir_files.specs.Outputs.{Gains, Printed, StandEach, by_thread, is_put_at, outputs_given, printed_in}

value_is : {A : Type 0} {a b : A} → Some a ≡ Some b → a ≡ b
value_is {A} {a} {b} e = ap (λ (o : Option A). option_map_or (λ z. z) o a) e

-- ---- an output more

path_is_at : (made : Option (List ℕ)) (path : List ℕ) → IfSome made (λ p. p ≡ path) → option_map_or (λ p. bytes_eq p path) made true ≡ true
path_is_at None path at = refl
path_is_at (Some p) path at = (bytes_eq-Decides p path).1 at

known_is_some : (bytes : Option (List ℕ)) (has : List ℕ) → bytes ≡ Some has → is_some bytes ≡ true
known_is_some bytes has e = ap is_some e

-- an output that was given all of its bytes at the path of its thread is put there
given_is_put_at : (paths : List (List ℕ)) (output : ℕ × KnownFile) (path bytes : List ℕ) → slice_get paths output.0 ≡ Some path → IsAt output.1 path
    → output.1.bytes ≡ Some bytes → is_put_at paths output ≡ true
given_is_put_at paths output path bytes got at given =
    and_true_from_both (is_some output.1.bytes) (option_map_or (λ path. option_map_or (λ p. bytes_eq p path) output.1.path true) (slice_get paths output.0) false)
    (known_is_some output.1.bytes bytes given)
    (ap (λ (o : Option (List ℕ)). option_map_or (λ path. option_map_or (λ p. bytes_eq p path) output.1.path true) o false) got ∙ path_is_at output.1.path path at)

gains_by_tests : (a b : Bool) (xs ys more : List Printed) → b ≡ a → ys ≡ xs ++ more → Gains (if a then Some xs else None) (if b then Some ys else None) more
gains_by_tests true true xs ys more e grown = grown
gains_by_tests true false xs ys more e grown = absurd (true≢false (sym e))
gains_by_tests false b xs ys more e grown = tt

-- an output more is given, in a file at the path of its thread
last_output_is_given : {File : Type 0} (knows : Bool) (known : File → ℕ × KnownFile) (paths : Option (List (List ℕ))) (old new : List File) (file : File)
    (path bytes : List ℕ) → new ≡ old ++ file ∷ [] → IfSome paths (λ each. slice_get each (known file).0 ≡ Some path) → IsAt (known file).1 path
    → Has knows (known file).1 bytes → Gains (outputs_given knows known paths old) (outputs_given knows known paths new) (((known file).0, bytes) ∷ [])
last_output_is_given true known None old new file path bytes e got at has = tt
last_output_is_given false known None old new file path bytes e got at has = tt
last_output_is_given false known (Some each) old new file path bytes e got at has = tt
last_output_is_given {File} true known (Some each) old new file path bytes e got at has =
    let test : File → Bool = λ f. is_put_at each (known f) in
    let here : test file ≡ true = given_is_put_at each (known file) path bytes got at has in
    let all : list_all test new ≡ list_all test old =
    ap (list_all test) e ∙ list_all-append test old (file ∷ []) ∙ ap (λ (b : Bool). list_all test old && (b && true)) here ∙ and-true (list_all test old) in
    let one : printed_in (known file) ≡ ((known file).0, bytes) = ap (λ (o : Option (List ℕ)). ((known file).0, known_bytes o)) has in
    gains_by_tests (list_all test old) (list_all test new) (map (λ f. printed_in (known f)) old) (map (λ f. printed_in (known f)) new) (((known file).0, bytes) ∷ []) all
    (ap (map (λ f. printed_in (known f))) e ∙ map-append (λ f. printed_in (known f)) old (file ∷ [])
    ∙ ap (λ (z : Printed). map (λ f. printed_in (known f)) old ++ z ∷ []) one)

-- the same where the paths are texts of items
pub output_more_is_given : {P S File : Type 0} (items : P → List S) (text : S → List ℕ) (knows : Bool) (known : File → ℕ × KnownFile) (all : Option P) (paths : P)
    (old new : List File) (file : File) (thread : ℕ) (path : S) (bytes : List ℕ) → all ≡ Some paths → thread < length (items paths)
    → path ≡ get_or (items paths) thread path → new ≡ old ++ file ∷ [] → (known file).0 ≡ thread → IsAt (known file).1 (text path) → Has knows (known file).1 bytes
    → Gains (outputs_given knows known (option_map (λ p. map text (items p)) all) old) (outputs_given knows known (option_map (λ p. map text (items p)) all) new)
    ((thread, bytes) ∷ [])
output_more_is_given items text knows known all paths old new file thread path bytes some short same e t at has =
    let found : slice_get (items paths) thread ≡ Some path = slice_get-get_or (items paths) thread path short ∙ ap Some (sym same) in
    let there : slice_get (map text (items paths)) (known file).0 ≡ Some (text path) =
    ap (slice_get (map text (items paths))) t ∙ slice_get-map text (items paths) thread ∙ ap (option_map text) found in
    subst (λ n. Gains (outputs_given knows known (option_map (λ p. map text (items p)) all) old) (outputs_given knows known (option_map (λ p. map text (items p)) all) new)
    ((n, bytes) ∷ [])) t
    (last_output_is_given knows known (option_map (λ p. map text (items p)) all) old new file (text path) bytes e
    (subst (λ z. IfSome (option_map (λ p. map text (items p)) z) (λ each. slice_get each (known file).0 ≡ Some (text path))) (sym some) there) at has)

-- ---- all outputs

-- a test that each element passes, and that this one passes so or so
passes_if_all : {X : Type 0} (test : X → Bool) (xs : List X) (i : ℕ) (x : X) (b : Bool) → i < length xs → list_all test xs ≡ true → test (get_or xs i x) ≡ b → b ≡ true
passes_if_all test xs i x true within all is = refl
passes_if_all test xs i x false within all is = absurd (true≢false (sym all ∙ list_all_at test xs i x within is))

-- an element that there is passes the test that each passes
element_passes : {X : Type 0} (test : X → Bool) (xs : List X) (i : ℕ) (x : X) → list_all test xs ≡ true → slice_get xs i ≡ Some x → test x ≡ true
element_passes test xs i x all got =
    let within : i < length xs = slice_get_within xs i x got in
    let same : get_or xs i x ≡ x = value_is (sym (slice_get-get_or xs i x within) ∙ got) in
    ap test (sym same) ∙ passes_if_all test xs i x (test (get_or xs i x)) within all refl

-- a path that passes is at the path of a thread
is_at_by_test : (made : Option (List ℕ)) (path : List ℕ) → option_map_or (λ p. bytes_eq p path) made true ≡ true
    → (was_put : List ℕ → List ℕ → Bool) → option_map_or (λ p. bytes_eq p path || was_put p path) made true ≡ true
is_at_by_test None path test was_put = refl
is_at_by_test (Some p) path test was_put = ap (λ b. b || was_put p path) test

-- an output that is put at the path of its thread stands there
put_output_stands : {File : Type 0} (known : File → KnownFile) (was_put : List ℕ → List ℕ → Bool) (file : File) (at : Option (List ℕ)) (has : Option (List ℕ))
    (bytes : List ℕ) → (known file).bytes ≡ has → is_some has ≡ true → known_bytes (known file).bytes ≡ bytes
    → option_map_or (λ path. option_map_or (λ p. bytes_eq p path) (known file).path true) at false ≡ true
    → (path : List ℕ) × (at ≡ Some path) × IsStored known true was_put path bytes
put_output_stands known was_put file None has bytes e some same stands = absurd (true≢false (sym stands))
put_output_stands known was_put file (Some path) None bytes e some same stands = absurd (true≢false (sym some))
put_output_stands known was_put file (Some path) (Some given) bytes e some same stands = (
  path,
  refl,
  record {
    file = file;
    stands = is_at_by_test (known file).path path stands was_put;
    has = e ∙ ap Some (sym (ap known_bytes e) ∙ same);
  },
)

-- the output of a thread stands, if it is among those that were put
output_stands : {Put File : Type 0} (thread : Put → ℕ) (of : Put → File) (known : File → KnownFile) (was_put : List ℕ → List ℕ → Bool) (paths : List (List ℕ))
    (each : List Put) (t : ℕ) (bytes : List ℕ) (o : Option Put) → slice_get each t ≡ o → list_all (λ p. is_put_at paths (thread p, known (of p))) each ≡ true
    → option_map (λ p. printed_in (thread p, known (of p))) o ≡ Some (t, bytes)
    → (path : List ℕ) × (slice_get paths t ≡ Some path) × IsStored known true was_put path bytes
output_stands thread of known was_put paths each t bytes None got all is = absurd (true≢false (sym (ap is_some is)))
output_stands thread of known was_put paths each t bytes (Some p) got all is =
    let pair : ◌≡◌ {A = Printed} (thread p, known_bytes (known (of p)).bytes) (t, bytes) = value_is is in
    let own : thread p ≡ t = ap (λ (q : Printed). q.0) pair in
    let has : known_bytes (known (of p)).bytes ≡ bytes = ap (λ (q : Printed). q.1) pair in
    let passes : is_put_at paths (thread p, known (of p)) ≡ true = element_passes (λ p. is_put_at paths (thread p, known (of p))) each t p all got in
    let left : is_some (known (of p)).bytes ≡ true = left_of_true_and (is_some (known (of p)).bytes)
    (option_map_or (λ path. option_map_or (λ q. bytes_eq q path) (known (of p)).path true) (slice_get paths (thread p)) false) passes in
    let right : option_map_or (λ path. option_map_or (λ q. bytes_eq q path) (known (of p)).path true) (slice_get paths (thread p)) false ≡ true =
    right_of_true_and (is_some (known (of p)).bytes)
    (option_map_or (λ path. option_map_or (λ q. bytes_eq q path) (known (of p)).path true) (slice_get paths (thread p)) false) passes in
    put_output_stands known was_put (of p) (slice_get paths t) (known (of p)).bytes bytes refl left has
    (ap (λ (n : ℕ). option_map_or (λ path. option_map_or (λ q. bytes_eq q path) (known (of p)).path true) (slice_get paths n) false) (sym own) ∙ right)

printed_at : (printed : List (List ℕ)) (t : ℕ) (bytes : List ℕ) → slice_get printed t ≡ Some bytes → slice_get (by_thread printed) t ≡ Some (t, bytes)
printed_at printed t bytes got =
    let within : t < length printed = slice_get_within printed t bytes got in
    let long : length (enumerate_from 0 printed) ≡ length printed = length-enumerate_from 0 printed in
    let same : get_or printed t bytes ≡ bytes = value_is (sym (slice_get-get_or printed t bytes within) ∙ got) in
    let place : 0 + t ≡ t = omega arith in
    let pair : ◌≡◌ {A = Printed} (0 + t, get_or printed t bytes) (t, bytes) = λ i. (place i, same i) in
    slice_get-get_or (enumerate_from 0 printed) t (t, bytes) (omega (arith, within, long))
    ∙ ap Some (get_or-enumerate_from 0 printed t (t, bytes) within ∙ pair)

stand_by_test : {Put File : Type 0} (thread : Put → ℕ) (of : Put → File) (known : File → KnownFile) (was_put : List ℕ → List ℕ → Bool) (paths : List (List ℕ))
    (each : List Put) (printed : List (List ℕ)) (b : Bool) → list_all (λ p. is_put_at paths (thread p, known (of p))) each ≡ b
    → Gains (Some []) (if b then Some (map (λ p. printed_in (thread p, known (of p))) each) else None) (by_thread printed)
    → StandEach (IsStored known true was_put) paths printed
stand_by_test thread of known was_put paths each printed false all gains t bytes got = absurd gains
stand_by_test thread of known was_put paths each printed true all gains t bytes got =
    output_stands thread of known was_put paths each t bytes (slice_get each t) refl all
    (sym (slice_get-map (λ p. printed_in (thread p, known (of p))) each t) ∙ ap (λ (l : List Printed). slice_get l t) gains ∙ printed_at printed t bytes got)

-- what each thread printed stands in a file, if all of it was taken by files at paths, none of which was there before
pub taken_outputs_stand : {Put File : Type 0} (thread : Put → ℕ) (of : Put → File) (known : File → KnownFile) (was_put : List ℕ → List ℕ → Bool)
    (paths : List (List ℕ)) (each : List Put) (printed : List (List ℕ))
    → Gains (Some []) (outputs_given true (λ p. (thread p, known (of p))) (Some paths) each) (by_thread printed)
    → StandEach (IsStored known true was_put) paths printed
taken_outputs_stand thread of known was_put paths each printed gains =
    stand_by_test thread of known was_put paths each printed (list_all (λ p. is_put_at paths (thread p, known (of p))) each) refl gains
