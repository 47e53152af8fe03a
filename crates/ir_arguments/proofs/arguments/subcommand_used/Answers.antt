use Rattle.clap.specs.declared.parser.matches.ArgMatches.TheViews.{out-ArgMatches}
use Rattle.ir_arguments.proofs.Names.{used_of_parts}
use Rattle.ir_arguments.proofs.arguments.subcommand_used.Goals as goal

pub returns : goal.returns
returns c = used_of_parts c.subcommand.result (out-ArgMatches c.args.matches.now).subcommand c.subcommand.ensures.name c.subcommand.ensures.rows
