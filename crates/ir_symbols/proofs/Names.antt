-- The bytes of names.
use Rattle.std.proofs.Common.{◌≡◌, ℕ, zero, suc, true, List, [], ◌∷◌, refl, arith}
use Rattle.std.specs.Prelude.{Result, Ok, Err, MatchResult, IsOk}
use Rattle.std.specs.List.{list_all}
use Rattle.std.specs.Str.{IsUtf8, IsAscii}
use Rattle.std.proofs.lemmas.Bool.{and_parts}
use Rattle.std.proofs.lemmas.Bool.Decides.{nat_tests}
use Rattle.std.proofs.lemmas.Str.{IsUtf8-from_ascii}
use Rattle.ir_symbols.specs.Symbols.{is_printable, is_name}

-- printable bytes are ASCII
printable_is_ascii : (bytes : List ℕ) → list_all is_printable bytes ≡ true → IsAscii bytes
printable_is_ascii [] h i = omega arith
printable_is_ascii (b ∷ bytes) h zero = let p = and_parts (is_printable b) (list_all is_printable bytes) h in let q = p.0 in grind (arith, nat_tests)
printable_is_ascii (b ∷ bytes) h (suc i) = printable_is_ascii bytes (and_parts (is_printable b) (list_all is_printable bytes) h).1 i

-- a name is text
name_is_text : (name : List ℕ) → is_name name ≡ true → IsUtf8 name
name_is_text name h = IsUtf8-from_ascii name (printable_is_ascii name (and_parts (list_all is_printable name) _ h).0)

-- so its bytes are taken for text
pub name_is_ok_as_text : {X E : Type 0} (r : Result X E) (P : X → Type 0) (Q : E → Type 0) (name : List ℕ) → is_name name ≡ true
    → MatchResult r P (λ e. (IsUtf8 name → ⊥) × Q e) → IsOk r
name_is_ok_as_text (Ok x) P Q name h m = refl
name_is_ok_as_text (Err e) P Q name h m = absurd (m.0 (name_is_text name h))
