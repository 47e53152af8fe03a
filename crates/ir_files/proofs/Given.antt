-- Files that are written.
use Rattle.std.proofs.Common.{true≢false, ◌≡◌, ◌<◌, ℕ, length, get_or, IfSome, Bool, true, false, List, [], ◌∷◌, ◌++◌, Option, None, Some, map, ap, sym, subst, ◌∙◌}
use Rattle.std.specs.Io.KnownBytes.{Appends}
use Rattle.std.proofs.lemmas.Option.{slice_get-get_or, slice_get-map}
use Rattle.std.specs.Option.{option_map}
use Rattle.std.specs.List.{slice_get}
use Rattle.ir_files.specs.Given.{KnownFile, Has, IsAt, IsStored, fresh, given_bytes, is_put}
use Rattle.ir_files.specs.Outputs.{HasLast}

new_known_has : (knows : Bool) (path new : Option (List ℕ)) (bytes : List ℕ) → Appends (fresh knows) new bytes
    → Has knows (record { path = path; bytes = new }) bytes
new_known_has true path None bytes p = absurd p
new_known_has true path (Some ys) bytes p = ap Some p
new_known_has false path new bytes p = tt

-- a new file that was given these bytes has them, and no others
pub new_file_has_given : (knows : Bool) (file : KnownFile) (old : Option (List ℕ)) (bytes : List ℕ) → old ≡ fresh knows → Appends old file.bytes bytes
    → Has knows file bytes
new_file_has_given knows file old bytes e p = new_known_has knows file.path file.bytes bytes (subst (λ z. Appends z file.bytes bytes) e p)

-- where there are paths, the file is at the path of the thread
pub output_has_last : {P S File : Type 0} (items : P → List S) (text : S → List ℕ) (known : File → ℕ × KnownFile) (all : Option P) (paths : P)
    (old new : List File) (file : File) (thread : ℕ) (path : S) → all ≡ Some paths → thread < length (items paths) → path ≡ get_or (items paths) thread path
    → new ≡ old ++ file ∷ [] → (known file).0 ≡ thread → IsAt (known file).1 (text path)
    → IfSome all (λ ps. (p : List ℕ) × (slice_get (map text (items ps)) thread ≡ Some p) × HasLast known old new thread p)
output_has_last items text known all paths old new file thread path some short same e t at =
    let found : slice_get (items paths) thread ≡ Some path = slice_get-get_or (items paths) thread path short ∙ ap Some (sym same) in
    subst (λ z. IfSome z (λ ps. (p : List ℕ) × (slice_get (map text (items ps)) thread ≡ Some p) × HasLast known old new thread p)) (sym some)
    (text path, slice_get-map text (items paths) thread ∙ ap (option_map text) found, (file, e, t, at))

-- a file that was put in its place with all that it was given is stored there
pub put_file_is_stored : {Made File : Type 0} (known : File → KnownFile) (knows : Bool) (was_put : List ℕ → List ℕ → Bool) (file : Made → File) (made : Option Made)
    (place bytes : List ℕ) (old : Option (List ℕ)) → old ≡ fresh knows → is_put was_put (λ m. known (file m)) made place ≡ true
    → Appends old (given_bytes knows (λ m. known (file m)) made) bytes → IsStored known knows was_put place bytes
put_file_is_stored known knows was_put file None place bytes old e put p = absurd (true≢false (sym put))
put_file_is_stored known knows was_put file (Some m) place bytes old e put p =
    record { file = file m; stands = put; has = new_file_has_given knows (known (file m)) old bytes e p }
