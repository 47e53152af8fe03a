use Rattle.std.proofs.Common.{◌≡◌, drop}
use Rattle.ir_arguments.specs.Parser.{app_in, with_subcommands}
use Rattle.ir_arguments.proofs.subcommands.with_subcommands.Given as goal

-- with the subcommands that are left the command is whole
abbrev pub invariant-subcommands : goal.invariant-subcommands
invariant-subcommands l = with_subcommands (app_in l.command) (drop l.subcommand-index l.fn.subcommands) ≡ with_subcommands (app_in l.fn.command) l.fn.subcommands
