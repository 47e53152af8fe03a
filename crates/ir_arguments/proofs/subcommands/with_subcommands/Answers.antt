use Rattle.std.proofs.Common.{rules}
use Rattle.ir_arguments.proofs.Apps.{subcommand_added}
use Rattle.ir_arguments.proofs.subcommands.with_subcommands.Goals as goal

pub subcommands-preserved : goal.subcommands-preserved
subcommands-preserved c = subcommand_added c.subcommands.command c.in_ok-command.field-0 c.in_ok-command-2.command _ c.args.subcommands.now
    c.subcommands.subcommand-index _ c.in_ok-command-2.ensures c.in_ok-command.ensures c.subcommands.invariant (search rules) (search rules)
