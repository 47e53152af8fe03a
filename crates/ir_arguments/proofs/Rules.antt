-- What a parse reads of arguments that are made step by step, and of commands that get them.
use Rattle.std.proofs.Common.{◌≡◌, ◌<◌, ◌≤◌, ℕ, ◌+◌, true, false, List, [], ◌∷◌, length, drop, get_or, Option, Some, None, sym, ap, ◌∙◌}
use Rattle.std.specs.Prelude.{IsSomeAnd, map}
use Rattle.std.specs.Borrow.{Bor}
use Rattle.std.proofs.lemmas.List.{drop_all}
use Rattle.clap.specs.Words.{AddsArg, App, Rule, Text, new_rule, rule_of}
use Rattle.clap.specs.declared.builder.action.ArgAction.TheVariants.{Append, SetTrue}
use Rattle.clap.specs.declared.builder.arg.Arg.{Arg}
use Rattle.clap.specs.declared.builder.command.Command.{Command}
use Rattle.clap.specs.declared.builder.range.ValueRange.{ValueRange}
use Rattle.clap.specs.declared.builder.texts.Texts.TheVariants.{Many, One}
use Rattle.ir_arguments.specs.declared.forms.Form.{Form}
use Rattle.ir_arguments.specs.Parser.{IsArgument, and_rule, and_rules, app_in, flag, needed_place, needed_repeated, option, option_or, pair, place}
use Rattle.ir_arguments.specs.Parser.{repeated_option, rule_in, rule_of_form}
use Rattle.ir_arguments.proofs.Names.{drop_begins}

pub place_made : (a : Arg) (name help : Bor Text) → rule_of a ≡ new_rule name.now → rule_in (record a { help = Some help }) ≡ place name.now
unfolding rule_in place
place_made a name help e = e

pub needed_place_made : (a : Arg) (name help : Bor Text) → rule_of a ≡ new_rule name.now
    → rule_in (record a { required = true; help = Some help }) ≡ needed_place name.now
unfolding rule_in needed_place
needed_place_made a name help e = ap (λ (r : Rule). record r { required = true }) e

pub option_made : (a b c d : Arg) (name value help : Bor Text) → rule_of a ≡ new_rule name.now → a.global ≡ false → b ≡ record a { long = Some name }
    → c ≡ record b { val_names = One value } → d ≡ record c { help = Some help } → IsArgument d (option name.now)
unfolding rule_in option
option_made a b c d name value help e local long named helped =
    let made : d ≡ record a { long = Some name; val_names = One value; help = Some help } =
    helped ∙ ap (λ (x : Arg). record x { help = Some help }) (named ∙ ap (λ (x : Arg). record x { val_names = One value }) long) in (
      ap rule_of made ∙ ap (λ (r : Rule). record r { long = Some name.now; value_names = 1 }) e,
      ap (λ (x : Arg). x.global) made ∙ local,
    )

pub option_or_made : (a : Arg) (name default : Bor Text) → rule_in a ≡ option name.now
    → rule_in (record a { default_vals = One default }) ≡ option_or name.now default.now
unfolding rule_in option option_or
option_or_made a name default e = ap (λ (r : Rule). record r { defaults = default.now ∷ [] }) e

pub repeated_made : (a : Arg) (name : Bor Text) → rule_in a ≡ option name.now → rule_in (record a { action = Some Append }) ≡ repeated_option name.now
unfolding rule_in option repeated_option
repeated_made a name e = ap (λ (r : Rule). record r { action = Some Append }) e

pub needed_repeated_made : (a : Arg) (name : Bor Text) → rule_in a ≡ repeated_option name.now
    → rule_in (record a { required = true }) ≡ needed_repeated name.now
unfolding rule_in repeated_option needed_repeated
needed_repeated_made a name e = ap (λ (r : Rule). record r { required = true }) e

pub flag_made : (a : Arg) (name help : Bor Text) → rule_of a ≡ new_rule name.now
    → rule_in (record a { long = Some name; action = Some SetTrue; help = Some help }) ≡ flag name.now
unfolding rule_in flag
flag_made a name help e = ap (λ (r : Rule). record r { long = Some name.now; action = Some SetTrue }) e

abbrev two : ValueRange
two = record { start_inclusive = 2; end_inclusive = 2 }

some_is : (o : Option ValueRange) → IsSomeAnd o (λ r. r ≡ two) → o ≡ Some two
some_is None h = absurd h
some_is (Some r) h = ap (λ (x : ValueRange). Some x) h

pub pair_made : (a b c d e : Arg) (name help : Bor Text) (names : Bor (List (Bor Text))) → rule_of a ≡ new_rule name.now → a.global ≡ false
    → b ≡ record a { long = Some name }
    → (c ≡ record b { num_vals = c.num_vals }) × IsSomeAnd c.num_vals (λ r. r ≡ record { start_inclusive = 2; end_inclusive = 2 })
    → d ≡ record c { val_names = Many names } → e ≡ record d { help = Some help } → length names.now ≡ 2 → IsArgument e (pair name.now)
unfolding rule_in pair
pair_made a b c d e name help names is local long ranged named helped count =
    let counted : c ≡ record a { long = Some name; num_vals = Some two } =
    ranged.0 ∙ ap (λ (o : Option ValueRange). record b { num_vals = o }) (some_is c.num_vals ranged.1)
    ∙ ap (λ (x : Arg). record x { num_vals = Some two }) long in
    let made : e ≡ record a { long = Some name; num_vals = Some two; val_names = Many names; help = Some help } =
    helped ∙ ap (λ (x : Arg). record x { help = Some help }) (named ∙ ap (λ (x : Arg). record x { val_names = Many names }) counted) in (
      ap rule_of made ∙ ap (λ (r : Rule). record r { long = Some name.now; range = Some two; value_names = length names.now }) is
          ∙ ap (λ (n : ℕ). record (new_rule name.now) { long = Some name.now; range = Some two; value_names = n }) count,
      ap (λ (x : Arg). x.global) made ∙ local,
    )

pub rule_added : (old : Command) (a : Arg) (new : Command) → AddsArg old a new → a.global ≡ false → app_in new ≡ and_rule (app_in old) (rule_in a)
unfolding app_in rule_in and_rule
rule_added old a new adds local = adds.shape local

pub rule_of_next : (old new : Command) (rule : Rule) (form : Form) (xs : List Form) (i : ℕ) (app : App) → app_in new ≡ and_rule (app_in old) rule
    → rule ≡ rule_of_form form → and_rules (app_in old) (map rule_of_form (drop i xs)) ≡ app → i < length xs → form ≡ get_or xs i form
    → and_rules (app_in new) (map rule_of_form (drop (i + 1) xs)) ≡ app
rule_of_next old new rule form xs i app adds is whole l here =
    ap (λ a. and_rules a (map rule_of_form (drop (i + 1) xs))) (adds ∙ ap (and_rule (app_in old)) is)
    ∙ sym (ap (λ (ys : List Form). and_rules (app_in old) (map rule_of_form ys)) (drop_begins xs i form l here)) ∙ whole

pub no_rules_left : (c : Command) (xs : List Form) (i : ℕ) (app : App) → length xs ≤ i → and_rules (app_in c) (map rule_of_form (drop i xs)) ≡ app
    → app_in c ≡ app
no_rules_left c xs i app l whole = sym (ap (λ (ys : List Form). and_rules (app_in c) (map rule_of_form ys)) (drop_all i xs l)) ∙ whole
