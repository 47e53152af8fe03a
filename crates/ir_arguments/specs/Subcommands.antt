-- The subcommands by their names, and what each asks for.
use Rattle.std.specs.Prelude.{Bool, List, [], ◌∷◌, codes, find, Option, Some, None, if◌then◌else◌}
use Rattle.std.specs.Option.{option_map_or}
use Rattle.std.specs.Str.{bytes_eq}
use Rattle.clap.specs.Words.{Text}
use Rattle.ir_arguments.specs.declared.subcommands.Subcommand.{Subcommand}
use Rattle.ir_arguments.specs.declared.subcommands.Subcommand.TheVariants as sub
use Rattle.ir_arguments.specs.Asking.{assembly_asked, conversion_asked, code_asked, recording_asked, hunt_asked, shrinking_asked, debug_asked}
use Rattle.ir_arguments.specs.Asking.{gdb_asked, trace_asked, events_asked, stale_asked, versions_asked, reasons_asked, difference_asked}
use Rattle.ir_arguments.specs.Asking.{picture_asked}
use Rattle.ir_arguments.specs.Exploring.{exploring_asked}
use Rattle.ir_arguments.specs.Bonds.{may_be_given}
use Rattle.ir_arguments.specs.Requests.{Nothing, Request, Session}
use Rattle.ir_arguments.specs.Values.{Rows}

-- the name by which a command line names it
abbrev pub subcommand_name : Subcommand → Text
subcommand_name sub.Assemble = codes "asm"
subcommand_name sub.Elf = codes "elf"
subcommand_name sub.List = codes "list"
subcommand_name sub.Record = codes "record"
subcommand_name sub.Hunt = codes "hunt"
subcommand_name sub.Shrink = codes "shrink"
subcommand_name sub.Explore = codes "explore"
subcommand_name sub.Debug = codes "debug"
subcommand_name sub.Gdb = codes "gdb"
subcommand_name sub.Trace = codes "trace"
subcommand_name sub.Events = codes "events"
subcommand_name sub.Stale = codes "stale"
subcommand_name sub.Who = codes "who"
subcommand_name sub.Why = codes "why"
subcommand_name sub.Diff = codes "diff"
subcommand_name sub.View = codes "view"

-- what its arguments ask for
abbrev pub asked_by : Subcommand → Rows → Option Request
asked_by sub.Assemble rows = assembly_asked rows
asked_by sub.Elf rows = conversion_asked rows
asked_by sub.List rows = code_asked rows
asked_by sub.Record rows = recording_asked rows
asked_by sub.Hunt rows = hunt_asked rows
asked_by sub.Shrink rows = shrinking_asked rows
asked_by sub.Explore rows = exploring_asked rows
asked_by sub.Debug rows = debug_asked rows
asked_by sub.Gdb rows = gdb_asked rows
asked_by sub.Trace rows = trace_asked rows
asked_by sub.Events rows = events_asked rows
asked_by sub.Stale rows = stale_asked rows
asked_by sub.Who rows = versions_asked rows
asked_by sub.Why rows = reasons_asked rows
asked_by sub.Diff rows = difference_asked rows
asked_by sub.View rows = picture_asked rows

-- all of them
abbrev pub subcommands : List Subcommand
subcommands = sub.Assemble ∷ sub.Elf ∷ sub.List ∷ sub.Record ∷ sub.Hunt ∷ sub.Shrink ∷ sub.Explore ∷ sub.Debug ∷ sub.Gdb ∷ sub.Trace
    ∷ sub.Events ∷ sub.Stale ∷ sub.Who ∷ sub.Why ∷ sub.Diff ∷ sub.View ∷ []

-- a subcommand has this name
abbrev pub is_named : Text → Subcommand → Bool
is_named name s = bytes_eq (subcommand_name s) name

-- the subcommand of a name
abbrev pub subcommand_named : Text → Option Subcommand
subcommand_named name = find (is_named name) subcommands

-- what its arguments ask for, if they may be given together
abbrev pub asked_if_given : Subcommand → Rows → Option Request
asked_if_given s rows = if may_be_given s rows then asked_by s rows else None

-- what the subcommand asks for that clap's matches have, by its name and its rows; without one a session
abbrev pub asked_by_name : Option (Text × Rows) → Option Request
asked_by_name None = Some Session
asked_by_name (Some used) = option_map_or (λ s. asked_if_given s used.1) (subcommand_named used.0) (Some Session)

-- a request, if all texts are read
abbrev pub or_nothing : Option Request → Request
or_nothing (Some request) = request
or_nothing None = Nothing

-- the same, where nothing is a request
abbrev pub request_by_name : Option (Text × Rows) → Request
request_by_name used = or_nothing (asked_by_name used)
