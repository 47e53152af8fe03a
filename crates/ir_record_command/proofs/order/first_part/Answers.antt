use Rattle.std.proofs.Common.{Some, None}
use Rattle.std.proofs.lemmas.Str.Pattern.{split_parts}
use Rattle.ir_record_command.proofs.Parts.{split_without_mark, split_at_first_mark}
use Rattle.ir_record_command.proofs.order.first_part.Goals as goal

pub returns-in-Some-clause-parts : goal.returns-in-Some-clause-parts
returns-in-Some-clause-parts c =
    let h = split_parts c.args.mark c.args.text.now (Some (c.in-Some.part, c.in-Some.rest)) c.in-Some.ensures.cases c.requires in
    split_at_first_mark c.args.mark c.args.text.now c.in-Some.part.now c.in-Some.rest.now h.0 h.1

pub returns-in-None-clause-parts : goal.returns-in-None-clause-parts
returns-in-None-clause-parts c =
    split_without_mark c.args.mark c.args.text.now (split_parts c.args.mark c.args.text.now None c.in-None.ensures.cases c.requires)
