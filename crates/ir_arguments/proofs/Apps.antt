-- What a parse reads of commands that are made step by step.
use Rattle.std.proofs.Common.{◌≡◌, ◌<◌, ◌≤◌, ℕ, ◌+◌, true, false, List, [], ◌∷◌, ◌++◌, length, drop, get_or, Some}
use Rattle.std.proofs.Common.{refl, sym, ap, ◌∙◌, append-nil, append_assoc}
use Rattle.std.specs.Prelude.{Err, IfOk, Ok, Result, codes}
use Rattle.std.specs.Borrow.{Bor}
use Rattle.std.proofs.lemmas.List.{drop_all}
use Rattle.clap.specs.Words.{AddsSubcommand, App, Rule, Shape, Text, app_of, is_simple_and_free, new_app, shape_of, with_subcommand}
use Rattle.clap.specs.Simple.{app_of_fields}
use Rattle.clap.specs.declared.builder.command.Command.{Command}
use Rattle.clap.specs.declared.builder.command.Command.TheViews.{out-Command as fields_of}
use Rattle.clap.proofs.SimpleLemmas.{is_false}
use Rattle.clap.proofs.WalkLemmas.{both}
use Rattle.ir_arguments.specs.declared.subcommands.Subcommand.{Subcommand}
use Rattle.ir_arguments.specs.Subcommands.{subcommand_name, subcommands}
use Rattle.ir_arguments.specs.Parser.{and_rule, and_rules, app_in, bare_app, ir_app, rules_of, shape_for, with_subcommands, with_version}
use Rattle.ir_arguments.specs.Parser.{flag, needed_place, needed_repeated, option, option_or, pair, place, repeated_option}
use Rattle.ir_arguments.proofs.Names.{drop_begins}

pub bare_made : (a b c : Command) (name : Text) (about after : Bor Text) → app_of a ≡ new_app name
    → fields_of b ≡ record (fields_of a) { about = Some about } → fields_of c ≡ record (fields_of b) { after_help = Some after }
    → app_in c ≡ bare_app name
unfolding app_in bare_app
bare_made a b c name about after is told followed = ap app_of_fields followed ∙ ap app_of_fields told ∙ is

pub bare_with_version : (a b c d : Command) (name : Text) (version about after : Bor Text) → app_of a ≡ new_app name
    → fields_of b ≡ record (fields_of a) { version = Some version } → fields_of c ≡ record (fields_of b) { about = Some about }
    → fields_of d ≡ record (fields_of c) { after_help = Some after } → app_in d ≡ with_version (bare_app name)
unfolding app_in bare_app with_version
bare_with_version a b c d name version about after is versioned told followed =
    ap app_of_fields followed ∙ ap app_of_fields told ∙ ap app_of_fields versioned
    ∙ ap (λ (x : App). record x { top = record x.top { has_version = true } }) is

pub bin_name_kept : (old new : Command) → fields_of new ≡ record (fields_of old) { bin_name = (fields_of new).bin_name } → app_in new ≡ app_in old
unfolding app_in
bin_name_kept old new e = ap app_of_fields e

-- the rules stand in order
rules_in_order : (app : App) (rules : List Rule) → and_rules app rules ≡ record app { top = record app.top { rules = app.top.rules ++ rules } }
unfolding and_rule
rules_in_order app [] = ap (λ rs. record app { top = record app.top { rules = rs } }) (sym (append-nil app.top.rules))
rules_in_order app (rule ∷ rules) = rules_in_order (and_rule app rule) rules
    ∙ ap (λ rs. record app { top = record app.top { rules = rs } }) (append_assoc app.top.rules (rule ∷ []) rules)

shape_made : (c : Command) (s : Subcommand) → app_in c ≡ and_rules (bare_app (subcommand_name s)) (rules_of s) → shape_of c ≡ shape_for s
unfolding app_in bare_app
shape_made c s e = ap (λ (a : App). a.top) (e ∙ rules_in_order (new_app (subcommand_name s)) (rules_of s))

no_globals : (c : Command) → (shape_of c).is_plain ≡ true → (fields_of c).has_globals ≡ false
no_globals c plain = is_false (fields_of c).has_globals (both _ _ (both _ _ (both _ _ plain).1).1).0

shape_added : (old sub new : Command) (s : Subcommand) → AddsSubcommand old sub new → app_in sub ≡ and_rules (bare_app (subcommand_name s)) (rules_of s)
    → app_in new ≡ with_subcommand (app_in old) (shape_for s)
unfolding app_in
shape_added old sub new s adds e =
    let shape = shape_made sub s e in
    adds.shape (no_globals sub (ap (λ (x : Shape). x.is_plain) shape)) ∙ ap (with_subcommand (app_of old)) shape

pub subcommand_added : (old sub new : Command) (s : Subcommand) (xs : List Subcommand) (i : ℕ) (app : App) → AddsSubcommand old sub new
    → app_in sub ≡ and_rules (bare_app (subcommand_name s)) (rules_of s) → with_subcommands (app_in old) (drop i xs) ≡ app → i < length xs
    → s ≡ get_or xs i s → with_subcommands (app_in new) (drop (i + 1) xs) ≡ app
subcommand_added old sub new s xs i app adds e h l is =
    ap (λ a. with_subcommands a (drop (i + 1) xs)) (shape_added old sub new s adds e)
    ∙ sym (ap (with_subcommands (app_in old)) (drop_begins xs i s l is)) ∙ h

pub subcommands_at_end : (c : Command) (xs : List Subcommand) (i : ℕ) (app : App) → length xs ≤ i → with_subcommands (app_in c) (drop i xs) ≡ app
    → app_in c ≡ app
subcommands_at_end c xs i app l h = sym (ap (with_subcommands (app_in c)) (drop_all i xs l)) ∙ h

pub program_made : {E : Type 0} (result : Result Command E) (Q : Command → Type 0) (whole bare : Command) (xs : List Subcommand)
    → IfOk result (λ c. (fields_of c ≡ record (fields_of whole) { bin_name = (fields_of c).bin_name }) × Q c)
    → app_in whole ≡ with_subcommands (app_in bare) xs → xs ≡ subcommands → app_in bare ≡ with_version (bare_app (codes "ir"))
    → IfOk result (λ c. app_in c ≡ ir_app)
unfolding ir_app
program_made (Ok c) Q whole bare xs h is all made =
    bin_name_kept whole c h.0 ∙ is ∙ ap (with_subcommands (app_in bare)) all ∙ ap (λ (a : App). with_subcommands a subcommands) made
program_made (Err e) Q whole bare xs h is all made = h

-- clap's contract gives the matches and the faults of the parser
pub ir_app_is_simple : is_simple_and_free ir_app ≡ true
unfolding ir_app with_version bare_app place needed_place option option_or repeated_option needed_repeated pair flag
ir_app_is_simple = refl
