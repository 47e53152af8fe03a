-- Which arguments of a subcommand exclude each other, and which need others.
use Rattle.std.specs.Prelude.{◌&&◌, ◌||◌, Bool, not, List, [], ◌∷◌, codes}
use Rattle.std.specs.List.{list_all}
use Rattle.clap.specs.Words.{Text}
use Rattle.clap.specs.Takes.{is_given}
use Rattle.ir_arguments.specs.declared.bonds.Bond.{Bond}
use Rattle.ir_arguments.specs.declared.bonds.Bond.TheVariants as code
use Rattle.ir_arguments.specs.declared.subcommands.Subcommand.{Subcommand}
use Rattle.ir_arguments.specs.declared.subcommands.Subcommand.TheVariants as sub
use Rattle.ir_arguments.specs.Values.{Rows}

pub data Rule : Type 0 where
  -- not both are given
  Excludes : Text → Text → Rule
  -- the first is given only with the second
  Needs : Text → Text → Rule
  -- the first is given only with one of the others
  NeedsEither : Text → Text → Text → Rule

-- the arguments that are given on the command line, and not by a default, obey the rule
abbrev pub is_obeyed : Rows → Rule → Bool
is_obeyed rows (Excludes one other) = not (is_given one rows && is_given other rows)
is_obeyed rows (Needs one other) = not (is_given one rows) || is_given other rows
is_obeyed rows (NeedsEither one first second) = not (is_given one rows) || (is_given first rows || is_given second rows)

-- the rule that the code's value is
abbrev pub rule_by : Bond → Rule
rule_by (code.Excludes one other) = Excludes one.now other.now
rule_by (code.Needs one other) = Needs one.now other.now
rule_by (code.NeedsEither one first second) = NeedsEither one.now first.now second.now

abbrev pub record_bonds : List Rule
record_bonds = Excludes (codes "order-file") (codes "order") ∷ Excludes (codes "chaos") (codes "order") ∷ Excludes (codes "chaos") (codes "order-file")
    ∷ Excludes (codes "by") (codes "order") ∷ Excludes (codes "by") (codes "order-file") ∷ Needs (codes "by") (codes "chaos") ∷ []

abbrev pub explore_bonds : List Rule
explore_bonds = Excludes (codes "within") (codes "until") ∷ Excludes (codes "only") (codes "until")
    ∷ NeedsEither (codes "TRACE") (codes "until") (codes "within")
    ∷ NeedsEither (codes "output") (codes "until") (codes "within")
    ∷ Needs (codes "until") (codes "TRACE") ∷ Needs (codes "output") (codes "TRACE") ∷ []

-- the rules of a subcommand
abbrev pub bonds_of : Subcommand → List Rule
bonds_of sub.Record = record_bonds
bonds_of sub.Explore = explore_bonds
bonds_of sub.Who = Excludes (codes "word") (codes "V") ∷ Needs (codes "word") (codes "image") ∷ []
bonds_of sub.Why = Needs (codes "at") (codes "image") ∷ []
bonds_of sub.View = Excludes (codes "chrome") (codes "json") ∷ Needs (codes "span") (codes "around") ∷ []
bonds_of sub.Assemble = []
bonds_of sub.Elf = []
bonds_of sub.List = []
bonds_of sub.Hunt = []
bonds_of sub.Shrink = []
bonds_of sub.Debug = []
bonds_of sub.Gdb = []
bonds_of sub.Trace = []
bonds_of sub.Events = []
bonds_of sub.Stale = []
bonds_of sub.Diff = []

-- the given arguments of a subcommand may be given together
abbrev pub may_be_given : Subcommand → Rows → Bool
may_be_given s rows = list_all (is_obeyed rows) (bonds_of s)
