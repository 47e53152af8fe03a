use Rattle.std.proofs.Common.{rules, ◌≡◌, ap, ◌∙◌}
use Rattle.std.specs.Prelude.{find}
use Rattle.ir_arguments.specs.Subcommands.{is_named, subcommands}
use Rattle.ir_arguments.proofs.subcommands.subcommand_named.Goals as goal

pub returns : goal.returns
returns c =
    let all : c.as_slice.result.now ≡ subcommands = search rules in
    c.first_named.ensures ∙ ap (find (is_named c.args.name.now)) all
