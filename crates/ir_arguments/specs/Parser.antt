-- The parser of all arguments, by what clap's parse reads of a command.
use Rattle.std.specs.Prelude.{◌≡◌, true, false, List, [], ◌∷◌, codes, Some}
use Rattle.clap.specs.Words.{App, Rule, Shape, Text, app_of, new_app, new_rule, rule_of, with_rule, with_subcommand}
use Rattle.clap.specs.Simple.{new_shape}
use Rattle.clap.specs.declared.builder.action.ArgAction.TheVariants.{Append, SetTrue}
use Rattle.clap.specs.declared.builder.arg.Arg.{Arg}
use Rattle.clap.specs.declared.builder.command.Command.{Command}
use Rattle.ir_arguments.specs.declared.forms.Form.{Form}
use Rattle.ir_arguments.specs.declared.forms.Form.TheVariants as form
use Rattle.ir_arguments.specs.declared.subcommands.Subcommand.{Subcommand}
use Rattle.ir_arguments.specs.declared.subcommands.Subcommand.TheVariants as sub
use Rattle.ir_arguments.specs.Subcommands.{subcommand_name, subcommands}

-- what a parse reads of an argument
unfoldable pub rule_in : Arg → Rule
rule_in argument = rule_of argument

-- what a parse reads of a command
unfoldable pub app_in : Command → App
app_in command = app_of command

-- a parse reads this of an argument, which no other command takes over
abbrev pub IsArgument : Arg → Rule → Type 0
IsArgument argument rule = (rule_in argument ≡ rule) × (argument.global ≡ false)

-- an argument that is named by its place and may be left out
unfoldable pub place : Text → Rule
place name = new_rule name

-- one that has to be given
unfoldable pub needed_place : Text → Rule
needed_place name = record (new_rule name) { required = true }

-- an option with a value
unfoldable pub option : Text → Rule
option name = record (new_rule name) { long = Some name; value_names = 1 }

-- one with a value where it isn't given
unfoldable pub option_or : Text → Text → Rule
option_or name value = record (new_rule name) { long = Some name; value_names = 1; defaults = value ∷ [] }

-- one that may be given more than once
unfoldable pub repeated_option : Text → Rule
repeated_option name = record (new_rule name) { long = Some name; value_names = 1; action = Some Append }

-- one that has to be given, and may be given more than once
unfoldable pub needed_repeated : Text → Rule
needed_repeated name = record (new_rule name) { long = Some name; value_names = 1; action = Some Append; required = true }

-- an option with two values
unfoldable pub pair : Text → Rule
pair name = record (new_rule name) { long = Some name; value_names = 2; range = Some (record { start_inclusive = 2; end_inclusive = 2 }) }

-- an option without a value
unfoldable pub flag : Text → Rule
flag name = record (new_rule name) { long = Some name; action = Some SetTrue }

-- what a parse reads of an argument of a table
abbrev pub rule_of_form : Form → Rule
rule_of_form (form.NeededPlace name help) = needed_place name.now
rule_of_form (form.Place name help) = place name.now
rule_of_form (form.Valued name value help) = option name.now
rule_of_form (form.ValuedOr name value default help) = option_or name.now default.now
rule_of_form (form.Repeated name value help) = repeated_option name.now
rule_of_form (form.NeededRepeated name value help) = needed_repeated name.now
rule_of_form (form.Event name help) = pair name.now
rule_of_form (form.Flag name help) = flag name.now

-- a command without arguments
unfoldable pub bare_app : Text → App
bare_app name = new_app name

-- a command with a version
unfoldable pub with_version : App → App
with_version app = record app { top = record app.top { has_version = true } }

-- a command with one more argument, and with more
unfoldable pub and_rule : App → Rule → App
and_rule app rule = with_rule app rule

abbrev pub and_rules : App → List Rule → App
and_rules app [] = app
and_rules app (rule ∷ rules) = and_rules (and_rule app rule) rules

abbrev pub image_rule : Rule
image_rule = needed_place (codes "IMAGE")

abbrev pub trace_rule : Rule
trace_rule = needed_place (codes "TRACE")

-- `ir record`
abbrev pub record_rules : List Rule
record_rules = image_rule ∷ trace_rule ∷ option (codes "order") ∷ option (codes "order-file") ∷ option (codes "chaos")
    ∷ option_or (codes "by") (codes "mix") ∷ option_or (codes "budget") (codes "1000000") ∷ option_or (codes "random") (codes "0")
    ∷ option_or (codes "profile") (codes "1") ∷ option (codes "input") ∷ option (codes "output") ∷ flag (codes "status") ∷ []

-- `ir hunt`
abbrev pub hunt_rules : List Rule
hunt_rules = image_rule ∷ trace_rule ∷ option_or (codes "seeds") (codes "0+10000") ∷ needed_repeated (codes "until")
    ∷ option_or (codes "by") (codes "mix") ∷ option (codes "jobs") ∷ option (codes "seconds") ∷ flag (codes "shrink")
    ∷ option_or (codes "budget") (codes "1000000") ∷ option_or (codes "random") (codes "0") ∷ option_or (codes "profile") (codes "1")
    ∷ option (codes "input") ∷ option (codes "output") ∷ []

-- `ir shrink`
abbrev pub shrink_rules : List Rule
shrink_rules = image_rule ∷ trace_rule ∷ needed_place (codes "OUT") ∷ needed_repeated (codes "until") ∷ option (codes "seconds")
    ∷ option_or (codes "random") (codes "0") ∷ option (codes "input") ∷ option (codes "output") ∷ []

-- `ir explore`
abbrev pub explore_rules : List Rule
explore_rules = image_rule ∷ place (codes "TRACE") ∷ repeated_option (codes "until") ∷ option_or (codes "states") (codes "1000000")
    ∷ option (codes "switches") ∷ option_or (codes "private") (codes "1000000") ∷ option (codes "seconds") ∷ option (codes "max")
    ∷ option_or (codes "random") (codes "0") ∷ option_or (codes "profile") (codes "1") ∷ option (codes "input")
    ∷ option (codes "output") ∷ option (codes "within") ∷ option (codes "only") ∷ []

-- `ir who`
abbrev pub who_rules : List Rule
who_rules = trace_rule ∷ needed_place (codes "O") ∷ place (codes "V") ∷ option (codes "image") ∷ option (codes "word") ∷ []

-- `ir why`
abbrev pub why_rules : List Rule
why_rules = trace_rule ∷ needed_place (codes "T") ∷ needed_place (codes "E") ∷ option_or (codes "lines") (codes "20") ∷ option (codes "image")
    ∷ option (codes "at") ∷ []

-- `ir view`
abbrev pub view_rules : List Rule
view_rules = trace_rule ∷ flag (codes "json") ∷ flag (codes "chrome") ∷ pair (codes "around")
    ∷ option_or (codes "span") (codes "1000") ∷ option (codes "image") ∷ []

-- the arguments of a subcommand, in the order in which the help lists them
abbrev pub rules_of : Subcommand → List Rule
rules_of sub.Assemble = needed_place (codes "SOURCE") ∷ image_rule ∷ option (codes "map") ∷ flag (codes "explain") ∷ []
rules_of sub.Elf = needed_place (codes "ELF") ∷ image_rule ∷ flag (codes "explain") ∷ []
rules_of sub.List = image_rule ∷ option (codes "map") ∷ []
rules_of sub.Record = record_rules
rules_of sub.Hunt = hunt_rules
rules_of sub.Shrink = shrink_rules
rules_of sub.Explore = explore_rules
rules_of sub.Debug = image_rule ∷ trace_rule ∷ []
rules_of sub.Gdb = image_rule ∷ trace_rule ∷ []
rules_of sub.Trace = trace_rule ∷ []
rules_of sub.Events = image_rule ∷ trace_rule ∷ option (codes "map") ∷ []
rules_of sub.Stale = trace_rule ∷ option (codes "image") ∷ []
rules_of sub.Who = who_rules
rules_of sub.Why = why_rules
rules_of sub.Diff = needed_place (codes "FIRST") ∷ needed_place (codes "SECOND") ∷ []
rules_of sub.View = view_rules

-- a subcommand has no subcommands, and uses no setting that changes how words are read
abbrev pub shape_for : Subcommand → Shape
shape_for s = record (new_shape (subcommand_name s)) { rules = rules_of s }

-- a command that has these subcommands too
abbrev pub with_subcommands : App → List Subcommand → App
with_subcommands app [] = app
with_subcommands app (s ∷ ss) = with_subcommands (with_subcommand app (shape_for s)) ss

-- the whole parser: the program has a version and no arguments of its own
unfoldable pub ir_app : App
ir_app = with_subcommands (with_version (bare_app (codes "ir"))) subcommands
