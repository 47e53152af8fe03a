-- The subcommand of a name, and the subcommand that clap's matches have.
use Rattle.std.proofs.Common.{◌≡◌, ◌<◌, ◌≤◌, ℕ, zero, suc, ◌+◌, true, false, List, [], ◌∷◌, length, drop, get_or}
use Rattle.std.proofs.Common.{Option, Some, None, refl, sym, ap, ap₂, ◌∙◌, arith}
use Rattle.std.specs.Prelude.{find, option_map, Box}
use Rattle.std.specs.Option.{is_none}
use Rattle.std.specs.Str.{bytes_eq}
use Rattle.std.specs.Borrow.{Bor}
use Rattle.std.specs.Box.{box_value}
use Rattle.std.proofs.lemmas.Bool.{false≢true}
use Rattle.std.proofs.lemmas.List.{drop_all}
use Rattle.clap.specs.Words.{Text, subcommand_rows}
use Rattle.clap.specs.declared.parser.matches.ArgMatches.{ArgMatches}
use Rattle.clap.specs.declared.parser.matches.ArgMatches.TheViews.{out-SubCommand}
use Rattle.clap.specs.declared.parser.matches.SubCommand.{SubCommand}
use Rattle.ir_arguments.specs.declared.subcommands.Subcommand.{Subcommand}
use Rattle.ir_arguments.specs.Subcommands.{is_named, subcommand_name}
use Rattle.ir_arguments.specs.Values.{Rows, rows_of_matches}

pub drop_begins : {X : Type 0} (xs : List X) (i : ℕ) (x : X) → i < length xs → x ≡ get_or xs i x → drop i xs ≡ x ∷ drop (i + 1) xs
drop_begins [] i x l is = absurd (omega (arith, l))
drop_begins (y ∷ xs) zero x l is = ap (λ z. z ∷ xs) (sym is)
drop_begins (y ∷ xs) (suc i) x l is = drop_begins xs i x (omega (arith, l)) is
    ∙ ap (λ k. x ∷ drop k (y ∷ xs)) (let same : suc (i + 1) ≡ suc i + 1 = omega arith in same)

pub found_here : (text name : Text) (xs : List Subcommand) (i : ℕ) (x : Subcommand) (found : Option Subcommand) → i < length xs → x ≡ get_or xs i x
    → name ≡ subcommand_name x → bytes_eq name text ≡ true → find (is_named text) (drop i xs) ≡ found → Some x ≡ found
found_here text name xs i x found l is same hit h =
    let here : is_named text x ≡ true = ap (λ n. bytes_eq n text) (sym same) ∙ hit in
    sym (ap (find (is_named text)) (drop_begins xs i x l is) ∙ rw here refl) ∙ h

pub found_later : (text name : Text) (xs : List Subcommand) (i : ℕ) (x : Subcommand) (found : Option Subcommand) → i < length xs → x ≡ get_or xs i x
    → name ≡ subcommand_name x → bytes_eq name text ≡ false → find (is_named text) (drop i xs) ≡ found → find (is_named text) (drop (i + 1) xs) ≡ found
found_later text name xs i x found l is same miss h =
    let other : is_named text x ≡ false = ap (λ n. bytes_eq n text) (sym same) ∙ miss in
    sym (ap (find (is_named text)) (drop_begins xs i x l is) ∙ rw other refl) ∙ h

pub found_nowhere : (text : Text) (xs : List Subcommand) (i : ℕ) (found : Option Subcommand) → length xs ≤ i → find (is_named text) (drop i xs) ≡ found → None ≡ found
found_nowhere text xs i found l h = sym (ap (find (is_named text)) (drop_all i xs l)) ∙ h

-- the name and the rows that are had one by one are had together
pub used_of_parts : {Z : Type 0} (r : Option (Bor Text × Bor ArgMatches)) (o : Option (Box SubCommand Z))
    → option_map (λ p. p.0.now) r ≡ option_map (λ b. (out-SubCommand (box_value b)).name.now) o
    → option_map (λ p. rows_of_matches p.1.now) r ≡ option_map (λ p. p.1) (subcommand_rows o)
    → option_map (λ p. (p.0.now, rows_of_matches p.1.now)) r ≡ subcommand_rows o
used_of_parts None None names rows = refl
used_of_parts None (Some b) names rows = absurd (false≢true (ap is_none (sym names)))
used_of_parts (Some p) None names rows = absurd (false≢true (ap is_none names))
used_of_parts (Some p) (Some b) names rows = ap₂ (λ (n : Option Text) (rs : Option Rows). with_both n rs) names rows
  where
    with_both : Option Text → Option Rows → Option (Text × Rows)
    with_both (Some n) (Some rs) = Some (n, rs)
    with_both n rs = None
