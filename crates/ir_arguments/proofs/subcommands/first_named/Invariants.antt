use Rattle.std.proofs.Common.{◌≡◌, drop}
use Rattle.std.specs.Prelude.{find}
use Rattle.ir_arguments.specs.Subcommands.{is_named}
use Rattle.ir_arguments.proofs.subcommands.first_named.Given as goal

-- none so far has the name
abbrev pub invariant-subcommands : goal.invariant-subcommands
invariant-subcommands l = find (is_named l.fn.name) (drop l.subcommand-index l.fn.subcommands) ≡ find (is_named l.fn.name) l.fn.subcommands
