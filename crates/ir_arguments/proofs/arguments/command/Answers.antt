use Rattle.std.proofs.Common.{◌≡◌, rules}
use Rattle.ir_arguments.specs.Subcommands.{subcommands}
use Rattle.ir_arguments.proofs.Apps.{program_made}
use Rattle.ir_arguments.proofs.arguments.command.Goals as goal

pub returns : goal.returns
returns c =
    let all : c.as_slice.result.now ≡ subcommands = search rules in
    program_made c.bin_name.result _ c.in_ok-command.command c.bare_program.result c.as_slice.result.now c.bin_name.ensures
    c.in_ok-command.ensures all c.bare_program.ensures
